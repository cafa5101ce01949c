-- The epoch of sets behind others is one from a mode change on, whatever stood before it.
use Rattle.std.proofs.Common.{◌≡◌, ◌∙◌, Bool, true, false, cond, List, [], ◌∷◌, ◌++◌, map, Some, refl, sym, ap, append_assoc}
use Rattle.std.specs.Option.{option_or, option_map}
use Rattle.std.proofs.lemmas.List.{map-append}
use Rattle.stream_syntax.specs.declared.page.State.TheVariants.{Acquisition, ModeChange}
use Rattle.sub_base.specs.Lists.{up_to_first, up_to_last}
use Rattle.decoder_model.specs.Contents.{has_state}
use Rattle.decoder_model.specs.Kept.{epoch_of}
use Rattle.decoder_model.specs.Faults.{contents_in}
use Rattle.decoder_model.specs.Readings.{Content, Reading}
use Rattle.decoder_model.specs.Sets.{Delivery, lost, whole, refused}

-- the contents of a set that is not refused
abbrev pub contents_of : Delivery Reading → List Content
contents_of lost = []
contents_of (whole time size readings) = contents_in readings
contents_of (refused time size fault) = []

abbrev pub contents_of_all : List (Delivery Reading) → List (List Content)
contents_of_all sets = map contents_of sets

-- ---- a search that ends

-- what is found up to an item that passes the test does not hang on what comes after it
pub record StopsThere {X : Type 0} (test : X → Bool) (front : List X) (item : X) : Type 0 where
  pub found : List X
  pub always : (after : List X) → up_to_first test (front ++ item ∷ after) ≡ Some found

pub stops_there : {X : Type 0} (test : X → Bool) (front : List X) (item : X) → test item ≡ true
    → StopsThere test front item
stops_there test [] item passes = record {
  found = item ∷ [];
  always =
      λ after. ap (λ b. cond b (Some (item ∷ [])) (option_map (λ prefix. item ∷ prefix) (up_to_first test after)))
      passes;
}
stops_there {X} test (first ∷ front) item passes = by (test first) refl (stops_there test front item passes)
  where
    by : (b : Bool) → test first ≡ b → StopsThere test front item → StopsThere test (first ∷ front) item
    by true is rest = record {
      found = first ∷ [];
      always = λ after. ap (λ b. cond b (Some (first ∷ []))
          (option_map (λ (prefix : List X). first ∷ prefix) (up_to_first test (front ++ item ∷ after)))) is;
    }
    by false is rest = record {
      found = first ∷ rest.found;
      always = λ after. ap (λ b. cond b (Some (first ∷ []))
          (option_map (λ (prefix : List X). first ∷ prefix) (up_to_first test (front ++ item ∷ after)))) is
          ∙ ap (option_map (λ (prefix : List X). first ∷ prefix)) (rest.always after);
    }

-- from a mode change on the epoch is the same behind other older sets
pub epoch_stops : (front : List (List Content)) (set : List Content) (older other : List (List Content))
    → has_state ModeChange set ≡ true → epoch_of (front ++ set ∷ older) ≡ epoch_of (front ++ set ∷ other)
unfolding epoch_of
epoch_stops front set older other begins =
    let stops = stops_there (has_state ModeChange) front set begins in
    ap (λ first. option_or first (up_to_last (has_state Acquisition) (front ++ set ∷ older))) (stops.always older)
    ∙ sym (ap (λ first. option_or first (up_to_last (has_state Acquisition) (front ++ set ∷ other)))
    (stops.always other))

-- ---- behind each of some sets

-- behind older sets and behind others each of these sets has the same epoch; the latest first
abbrev pub HaveSameEpochs : List (List Content) → List (List Content) → List (Delivery Reading) → Type 0
HaveSameEpochs older other [] = Unit {0}
HaveSameEpochs older other (set ∷ sets) =
    (epoch_of (contents_of set ∷ (contents_of_all sets ++ older))
    ≡ epoch_of (contents_of set ∷ (contents_of_all sets ++ other)))
    × HaveSameEpochs older other sets

-- where the older sets are the same
pub same_behind_same : (older other : List (List Content)) (sets : List (Delivery Reading)) → older ≡ other
    → HaveSameEpochs older other sets
same_behind_same older other [] e = tt
same_behind_same older other (set ∷ sets) e = (
  ap (λ before. epoch_of (contents_of set ∷ (contents_of_all sets ++ before))) e,
  same_behind_same older other sets e,
)

-- where the first of them, which stands last, is a mode change
pub same_from_mode_change : (older other : List (List Content)) (later : List (Delivery Reading))
    (first : Delivery Reading) → has_state ModeChange (contents_of first) ≡ true
    → HaveSameEpochs older other (later ++ first ∷ [])
same_from_mode_change older other [] first begins = (epoch_stops [] (contents_of first) older other begins, tt)
same_from_mode_change older other (set ∷ later) first begins = (
  ap (λ all. epoch_of (contents_of set ∷ all)) (parts older)
      ∙ epoch_stops (contents_of set ∷ contents_of_all later) (contents_of first) older other begins
      ∙ sym (ap (λ all. epoch_of (contents_of set ∷ all)) (parts other)),
  same_from_mode_change older other later first begins,
)
  where
    parts : (before : List (List Content))
        → contents_of_all (later ++ first ∷ []) ++ before
        ≡ contents_of_all later ++ contents_of first ∷ before
    parts before =
        ap (λ all. all ++ before) (map-append contents_of later (first ∷ []))
        ∙ append_assoc (contents_of_all later) (contents_of first ∷ []) before
