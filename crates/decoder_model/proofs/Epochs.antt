-- The sets of an epoch, with one set more.
use Rattle.std.proofs.Common.{◌≡◌, ◌∙◌, true, false, cond, List, [], ◌∷◌, Option, Some, None, refl, ap}
use Rattle.std.specs.Option.{option_or, option_map}
use Rattle.stream_syntax.specs.declared.page.State.TheVariants.{Acquisition, ModeChange}
use Rattle.decoder_model.specs.Contents.{has_state}
use Rattle.decoder_model.specs.Kept.{epoch_of}
use Rattle.sub_base.specs.Lists.{up_to_first, up_to_last}
use Rattle.decoder_model.specs.Readings.{Content}

-- a mode change begins an epoch
pub epoch_begun : (set : List Content) (sets : List (List Content)) → has_state ModeChange set ≡ true
    → epoch_of (set ∷ sets) ≡ Some (set ∷ [])
unfolding epoch_of
epoch_begun set sets begins =
    ap (λ b. option_or
    (cond b (Some (set ∷ [])) (option_map (λ front. set ∷ front) (up_to_first (has_state ModeChange) sets)))
    (up_to_last (has_state Acquisition) (set ∷ sets))) begins

-- a set that is no mode change goes on with the epoch that is known
pub epoch_on : (set : List Content) (sets epoch : List (List Content)) → has_state ModeChange set ≡ false
    → epoch_of sets ≡ Some epoch → epoch_of (set ∷ sets) ≡ Some (set ∷ epoch)
unfolding epoch_of
epoch_on set sets epoch stays known =
    by (up_to_first (has_state ModeChange) sets) (up_to_last (has_state Acquisition) sets) refl refl
  where
    both : (first last : Option (List (List Content))) → option_or first last ≡ Some epoch
        → option_or (option_map (λ front. set ∷ front) first)
        (option_or (option_map (λ front. set ∷ front) last)
        (cond (has_state Acquisition set) (Some (set ∷ [])) None)) ≡ Some (set ∷ epoch)
    both (Some front) last is = let same : front ≡ epoch = cc in ap (λ front. Some (set ∷ front)) same
    both None (Some front) is = let same : front ≡ epoch = cc in ap (λ front. Some (set ∷ front)) same
    both None None is = absurd (cc)

    by : (first last : Option (List (List Content))) → up_to_first (has_state ModeChange) sets ≡ first
        → up_to_last (has_state Acquisition) sets ≡ last
        → epoch_of (set ∷ sets) ≡ Some (set ∷ epoch)
    by first last is_first is_last =
        ap (λ b. option_or
        (cond b (Some (set ∷ []))
        (option_map (λ front. set ∷ front) (up_to_first (has_state ModeChange) sets)))
        (up_to_last (has_state Acquisition) (set ∷ sets))) stays
        ∙ both (up_to_first (has_state ModeChange) sets) (up_to_last (has_state Acquisition) sets) known

-- where no epoch is known, an acquisition point begins one
pub epoch_entered : (set : List Content) (sets : List (List Content)) → has_state ModeChange set ≡ false
    → has_state Acquisition set ≡ true → epoch_of sets ≡ None → epoch_of (set ∷ sets) ≡ Some (set ∷ [])
unfolding epoch_of
epoch_entered set sets stays enters unknown =
    both (up_to_first (has_state ModeChange) sets) (up_to_last (has_state Acquisition) sets) refl refl unknown
  where
    both : (first last : Option (List (List Content))) → up_to_first (has_state ModeChange) sets ≡ first
        → up_to_last (has_state Acquisition) sets ≡ last → option_or first last ≡ None
        → epoch_of (set ∷ sets) ≡ Some (set ∷ [])
    both None None is_first is_last is = rw (stays, enters, is_first, is_last) refl
    both (Some front) last is_first is_last is = absurd (cc)
    both None (Some front) is_first is_last is = absurd (cc)
