-- The epoch with one more set.
use Rattle.std.proofs.Common.{◌≡◌, ◌∙◌, ◌==◌, ◌||◌, Bool, true, false, cond, List, [], ◌∷◌, Option, Some, None, option_map, refl, ap}
use Rattle.std.specs.List.{list_any}
use Rattle.std.specs.Option.{option_or, is_some}
use Rattle.sub_base.specs.Lists.{up_to_first, up_to_last}
use Rattle.stream_syntax.specs.Segments.{Page, state_number}
use Rattle.stream_syntax.specs.declared.page.State.{State}
use Rattle.stream_syntax.specs.declared.page.State.TheVariants.{Normal, Acquisition, ModeChange}
use Rattle.decoder_model.specs.Contents.{has_state}
use Rattle.decoder_model.specs.Kept.{epoch_of}
use Rattle.decoder_model.specs.Readings.{Content}
use Rattle.page_core.specs.Private.Epochs.{HasOnePage}

-- the state of a set is that of its page
state_is : (set : List Content) (page : Page) (state other : State) → HasOnePage set page → page.state ≡ state
    → has_state other set ≡ ((state_number state == state_number other) || false)
state_is set page state other one is =
    ap (list_any (λ (found : Page). state_number found.state == state_number other)) one
    ∙ ap (λ s. (state_number s == state_number other) || false) is

either_goes_on : {X : Type 0} (f : X → X) (a b last : Option X) (e : X) → option_or a b ≡ Some e
    → option_or (option_map f a) (option_or (option_map f b) last) ≡ Some (f e)
either_goes_on f (Some x) b last e is = ap (option_map f) is
either_goes_on f None (Some x) last e is = ap (option_map f) is
either_goes_on f None None last e is = absurd (cc)

neither : {X : Type 0} (a b : Option X) → option_or a b ≡ None → (a ≡ None) × (b ≡ None)
neither None b is = (refl, is)
neither (Some x) b is = absurd (cc)

mode_change_begins : (set : List Content) (sets : List (List Content)) → has_state ModeChange set ≡ true
    → epoch_of (set ∷ sets) ≡ Some (set ∷ [])
unfolding epoch_of
mode_change_begins set sets change =
    ap (λ b. option_or
    (cond b (Some (set ∷ [])) (option_map (λ prefix. set ∷ prefix) (up_to_first (has_state ModeChange) sets)))
    (up_to_last (has_state Acquisition) (set ∷ sets))) change

epoch_goes_on : (set : List Content) (sets epoch : List (List Content)) → has_state ModeChange set ≡ false
    → epoch_of sets ≡ Some epoch → epoch_of (set ∷ sets) ≡ Some (set ∷ epoch)
unfolding epoch_of
epoch_goes_on set sets epoch same known =
    ap (λ b. option_or
    (cond b (Some (set ∷ [])) (option_map (λ prefix. set ∷ prefix) (up_to_first (has_state ModeChange) sets)))
    (up_to_last (has_state Acquisition) (set ∷ sets))) same
    ∙ either_goes_on (λ prefix. set ∷ prefix) (up_to_first (has_state ModeChange) sets)
    (up_to_last (has_state Acquisition) sets) (cond (has_state Acquisition set) (Some (set ∷ [])) None) epoch
    known

-- where no epoch is known, an acquisition point begins one, and a set of state normal does not
without_epoch : (set : List Content) (sets : List (List Content)) (acquires : Bool)
    → has_state ModeChange set ≡ false → has_state Acquisition set ≡ acquires → epoch_of sets ≡ None
    → epoch_of (set ∷ sets) ≡ cond acquires (Some (set ∷ [])) None
unfolding epoch_of
without_epoch set sets acquires same is unknown =
    let none = neither (up_to_first (has_state ModeChange) sets) (up_to_last (has_state Acquisition) sets) unknown in
    ap (λ b. option_or
    (cond b (Some (set ∷ [])) (option_map (λ prefix. set ∷ prefix) (up_to_first (has_state ModeChange) sets)))
    (up_to_last (has_state Acquisition) (set ∷ sets))) same
    ∙ ap (λ found. option_or (option_map (λ prefix. set ∷ prefix) found)
    (up_to_last (has_state Acquisition) (set ∷ sets))) none.0
    ∙ ap (λ found. option_or (option_map (λ prefix. set ∷ prefix) found)
    (cond (has_state Acquisition set) (Some (set ∷ [])) None)) none.1
    ∙ ap (λ b. cond b (Some (set ∷ [])) None) is

known_some : {X : Type 0} (o : Option X) → true ≡ is_some o → (x : X) × (o ≡ Some x)
known_some (Some x) is = (x, refl)
known_some None is = absurd (cc)

known_none : {X : Type 0} (o : Option X) → false ≡ is_some o → o ≡ None
known_none (Some x) is = absurd (cc)
known_none None is = refl

module _ (sets : List (List Content)) (set : List Content) (page : Page) (one : HasOnePage set page) where
  pub changes : page.state ≡ ModeChange → epoch_of (set ∷ sets) ≡ Some (set ∷ [])
  changes is = mode_change_begins set sets (state_is set page ModeChange ModeChange one is)

  pub acquires : page.state ≡ Acquisition → false ≡ is_some (epoch_of sets)
      → epoch_of (set ∷ sets) ≡ Some (set ∷ [])
  acquires is unknown =
      without_epoch set sets true (state_is set page Acquisition ModeChange one is)
      (state_is set page Acquisition Acquisition one is) (known_none (epoch_of sets) unknown)

  pub acquires_known : page.state ≡ Acquisition → true ≡ is_some (epoch_of sets)
      → (epoch : List (List Content)) × (epoch_of sets ≡ Some epoch)
      × (epoch_of (set ∷ sets) ≡ Some (set ∷ epoch))
  acquires_known is known =
      let e = known_some (epoch_of sets) known in
      (e.0, e.1, epoch_goes_on set sets e.0 (state_is set page Acquisition ModeChange one is) e.1)

  pub normal_waits : page.state ≡ Normal → false ≡ is_some (epoch_of sets) → epoch_of (set ∷ sets) ≡ None
  normal_waits is unknown =
      without_epoch set sets false (state_is set page Normal ModeChange one is)
      (state_is set page Normal Acquisition one is) (known_none (epoch_of sets) unknown)

  pub normal_known : page.state ≡ Normal → true ≡ is_some (epoch_of sets) → (epoch : List (List Content))
      × (epoch_of sets ≡ Some epoch) × (epoch_of (set ∷ sets) ≡ Some (set ∷ epoch))
  normal_known is known =
      let e = known_some (epoch_of sets) known in
      (e.0, e.1, epoch_goes_on set sets e.0 (state_is set page Normal ModeChange one is) e.1)
