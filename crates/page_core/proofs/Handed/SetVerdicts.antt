-- The verdict on a set of an epoch, and what stands with it.
use Rattle.std.proofs.Common.{◌≡◌, ◌∙◌, refl, sym, ap, subst, ℕ, ◌-◌, List, [], ◌∷◌, Option, Some, None, unwrap_or}
use Rattle.std.specs.Prelude.{option_and_then}
use Rattle.std.specs.Option.{option_or, is_some}
use Rattle.sub_base.specs.declared.profile.Profile.{Profile}
use Rattle.stream_syntax.specs.Segments.{Page}
use Rattle.decoder_model.specs.Contents.{display_in_set, page_in_set}
use Rattle.decoder_model.specs.Faults.{contents_in, display_fault, page_fault, first_fault_by, region_changed, pixels_full, composition_fault, object_too_deep, epoch_fault}
use Rattle.decoder_model.specs.Free.{nodes_held, nodes_with_page, pixels_held}
use Rattle.decoder_model.specs.Kept.{lifted_behind, last_time, epoch_of}
use Rattle.decoder_model.specs.Readings.{Content, Reading}
use Rattle.decoder_model.specs.Sets.{Delivery, whole}
use Rattle.decoder_model.specs.Taken.{segments_of, taken_of}
use Rattle.decoder_model.specs.Verdict.{shown_unless, verdict_in_epoch, verdict_on_kept, if_kept, sets_with, sets_since, known_epoch}
use Rattle.decoder_model.specs.declared.set_end.SetEnd.{SetEnd}
use Rattle.decoder_model.specs.declared.set_end.SetEnd.TheVariants.{Shown}
use Rattle.decoder_model.specs.declared.set_fault.SetFault.{SetFault}
use Rattle.page_core.specs.Private.Accepted.{IsBefore, IsBegun}
use Rattle.page_core.specs.Private.Judging.{fault_before_nodes}
use Rattle.page_core.specs.Memory.{Memory, HoldsSegments, IsSameReceiver, IsMemoryAfter}
use Rattle.page_core.specs.Private.SetSteps.{HasEpoch}
use Rattle.page_core.specs.declared.epoch.Start.{Start}
use Rattle.page_core.specs.declared.epoch.Start.TheVariants.{Begins, GoesOn, Waits}

-- ---- the tests by the epoch

-- the tests up to the count of nodes, then that count, then the objects
pub epoch_fault_is : (profile : Profile) (before : List (List Content)) (set : List Content) (page : Page)
    → epoch_fault profile before set page
    ≡ option_or (fault_before_nodes profile before set page)
    (option_or (composition_fault profile (taken_of (segments_of (set ∷ before))) page)
    (first_fault_by object_too_deep (segments_of before) set))
unfolding epoch_fault
epoch_fault_is profile before set page =
    six (option_and_then (display_fault profile) (display_in_set set)) (page_fault (segments_of (set ∷ before)) page)
    (first_fault_by region_changed (segments_of before) set)
    (first_fault_by (pixels_full profile) (segments_of before) set)
    (composition_fault profile (taken_of (segments_of (set ∷ before))) page)
    (first_fault_by object_too_deep (segments_of before) set)
  where
    two : (n o : Option SetFault) → option_or n (option_or o None) ≡ option_or n o
    two (Some fault) o = refl
    two None None = refl
    two None (Some fault) = refl

    six : (a b c d n o : Option SetFault)
        → option_or a (option_or b (option_or c (option_or d (option_or n (option_or o None)))))
        ≡ option_or (option_or a (option_or b (option_or c (option_or d None)))) (option_or n o)
    six (Some fault) b c d n o = refl
    six None (Some fault) c d n o = refl
    six None None (Some fault) d n o = refl
    six None None None (Some fault) n o = refl
    six None None None None n o = two n o

-- no region changes, and each has room
pub record ArePassed (profile : Profile) (before : List (List Content)) (set : List Content) : Type 0 where
  pub changed : first_fault_by region_changed (segments_of before) set ≡ None
  pub room : first_fault_by (pixels_full profile) (segments_of before) set ≡ None

pub tests_passed : (profile : Profile) (before : List (List Content)) (set : List Content) (page : Page)
    → fault_before_nodes profile before set page ≡ None → ArePassed profile before set
tests_passed profile before set page none =
    four (option_and_then (display_fault profile) (display_in_set set)) (page_fault (segments_of (set ∷ before)) page)
    (first_fault_by region_changed (segments_of before) set)
    (first_fault_by (pixels_full profile) (segments_of before) set) refl refl none
  where
    four : (a b c d : Option SetFault) → first_fault_by region_changed (segments_of before) set ≡ c
        → first_fault_by (pixels_full profile) (segments_of before) set ≡ d
        → option_or a (option_or b (option_or c (option_or d None))) ≡ None → ArePassed profile before set
    four None None None None changed room none = record { changed = changed; room = room }
    four (Some fault) b c d changed room none = absurd (cc)
    four None (Some fault) c d changed room none = absurd (cc)
    four None None (Some fault) d changed room none = absurd (cc)
    four None None None (Some fault) changed room none = absurd (cc)

-- ---- the epoch of a set

-- the epoch with a set that does not wait
pub record IsInEpoch (sets : List (List Content)) (set : List Content) (memory : Memory) : Type 0 where
  pub before : List (List Content)
  pub epoch : epoch_of (set ∷ sets) ≡ Some (set ∷ before)
  pub is_before : IsBefore before memory

pub in_epoch : (sets : List (List Content)) (set : List Content) (start : Start) (memory : Memory)
    → (start ≡ Waits → ⊥) → IsBegun sets set start memory → IsInEpoch sets set memory
in_epoch sets set Waits memory other begun = absurd (other refl)
in_epoch sets set Begins memory other (epoch, is_before) = record { before = []; epoch = epoch; is_before = is_before }
in_epoch sets set GoesOn memory other (before, epoch, is_before) =
    record { before = before; epoch = epoch; is_before = is_before }

-- the verdict is that of the tests by the epoch
pub verdict_is : (profile : Profile) (sets before : List (List Content)) (readings : List Reading) (page : Page)
    (fault : Option SetFault)
    → verdict_on_kept profile sets readings
    ≡ verdict_in_epoch profile page (epoch_of (contents_in readings ∷ sets))
    → epoch_of (contents_in readings ∷ sets) ≡ Some (contents_in readings ∷ before)
    → fault ≡ epoch_fault profile before (contents_in readings) page
    → shown_unless fault ≡ verdict_on_kept profile sets readings
verdict_is profile sets before readings page fault verdict epoch is =
    ap shown_unless is ∙ sym (ap (verdict_in_epoch profile page) epoch) ∙ sym verdict

-- ---- what stands

-- a set that is shown
pub shown_stands : (past : List (Delivery Reading)) (pts size time : ℕ) (readings : List Reading)
    (before : List (List Content)) (page : Page) (old new : Memory)
    → lifted_behind old.anchor (last_time old.anchor past) pts ≡ Some time
    → verdict_on_kept old.profile (sets_since old.profile old.anchor past) readings ≡ Shown
    → epoch_of (contents_in readings ∷ sets_since old.profile old.anchor past)
    ≡ Some (contents_in readings ∷ before) → page_in_set (contents_in readings) ≡ Some page
    → new.last ≡ Some time → IsSameReceiver old new → HasEpoch (contents_in readings) before page new
    → IsMemoryAfter (whole pts size readings ∷ past) new
unfolding last_time sets_since
shown_stands past pts size time readings before page old new lifted verdict epoch page_is last same has =
    let set = contents_in readings in
    let sets = sets_since old.profile old.anchor past in
    let times : last_time old.anchor (whole pts size readings ∷ past) ≡ Some time =
    ap (λ (o : Option ℕ). option_or o (last_time old.anchor past)) lifted in
    let known_old : known_epoch old.profile old.anchor (whole pts size readings ∷ past) ≡ Some (set ∷ before) =
    ap (λ (o : Option ℕ). epoch_of
    (sets_with sets (whole pts size readings)
    (Some (if_kept o (last_time old.anchor past) (verdict_on_kept old.profile sets readings))))) lifted
    ∙ ap (λ (v : SetEnd). epoch_of (sets_with sets (whole pts size readings) (Some v))) verdict
    ∙ epoch in
    let known : known_epoch new.profile new.anchor (whole pts size readings ∷ past) ≡ Some (set ∷ before) =
    ap (λ profile. known_epoch profile new.anchor (whole pts size readings ∷ past)) same.profile
    ∙ ap (λ anchor. known_epoch old.profile anchor (whole pts size readings ∷ past)) same.anchor
    ∙ known_old in
    record {
      last =
          last ∙ sym times ∙ ap (λ anchor. last_time anchor (whole pts size readings ∷ past)) (sym same.anchor);
      known = has.known ∙ ap is_some (sym known);
      holds = subst (λ epoch. HoldsSegments (segments_of (unwrap_or epoch [])) new) (sym known) has.holds;
      time_out =
          λ other earlier other_page is found. has.time_out
          ∙ ap (λ (p : Page). p.time_out) (same_page other earlier other_page known is found);
      entries =
          λ other earlier other_page is found. has.entries
          ∙ ap (λ (p : Page). p.entries) (same_page other earlier other_page known is found);
      free_nodes =
          has.free_nodes
          ∙ ap (λ (p : Option Page). new.profile.nodes - nodes_with_page (taken_of (segments_of (set ∷ before))) p)
          (sym page_is)
          ∙ ap (λ epoch. new.profile.nodes - nodes_held epoch) (sym known);
      free_pixels = has.free_pixels ∙ ap (λ epoch. new.profile.pixels - pixels_held epoch) (sym known);
    }
  where
    same_page : (other : List Content) (earlier : List (List Content)) (other_page : Page)
        → known_epoch new.profile new.anchor (whole pts size readings ∷ past)
        ≡ Some (contents_in readings ∷ before)
        → known_epoch new.profile new.anchor (whole pts size readings ∷ past) ≡ Some (other ∷ earlier)
        → page_in_set other ≡ Some other_page → page ≡ other_page
    same_page other earlier other_page known is found =
        let one : Some (contents_in readings ∷ before) ≡ Some (other ∷ earlier) = sym known ∙ is in
        let set_is : contents_in readings ≡ other = cc in
        let pages : Some page ≡ Some other_page = sym page_is ∙ ap page_in_set set_is ∙ found in
        cc

-- ---- the fault of a set of an epoch, as the tests find it

module _ (profile : Profile) (before : List (List Content)) (set : List Content) (page : Page) where
  pub early_fault : (fault : SetFault) → Some fault ≡ fault_before_nodes profile before set page
      → Some fault ≡ epoch_fault profile before set page
  early_fault fault is =
      sym (epoch_fault_is profile before set page
      ∙ ap (λ (o : Option SetFault). option_or o
      (option_or (composition_fault profile (taken_of (segments_of (set ∷ before))) page)
      (first_fault_by object_too_deep (segments_of before) set))) (sym is))

  pub fault_of_nodes : (fault : SetFault) → None ≡ fault_before_nodes profile before set page
      → Some fault ≡ composition_fault profile (taken_of (segments_of (set ∷ before))) page
      → Some fault ≡ epoch_fault profile before set page
  fault_of_nodes fault none is =
      sym (epoch_fault_is profile before set page
      ∙ ap (λ (o : Option SetFault). option_or o
      (option_or (composition_fault profile (taken_of (segments_of (set ∷ before))) page)
      (first_fault_by object_too_deep (segments_of before) set))) (sym none)
      ∙ ap (λ (o : Option SetFault). option_or o (first_fault_by object_too_deep (segments_of before) set)) (sym is))

  pub fault_of_objects : (fault : Option SetFault) → None ≡ fault_before_nodes profile before set page
      → None ≡ composition_fault profile (taken_of (segments_of (set ∷ before))) page
      → fault ≡ first_fault_by object_too_deep (segments_of before) set
      → fault ≡ epoch_fault profile before set page
  fault_of_objects fault none room is =
      is
      ∙ sym (epoch_fault_is profile before set page
      ∙ ap (λ (o : Option SetFault). option_or o
      (option_or (composition_fault profile (taken_of (segments_of (set ∷ before))) page)
      (first_fault_by object_too_deep (segments_of before) set))) (sym none)
      ∙ ap (λ (o : Option SetFault). option_or o (first_fault_by object_too_deep (segments_of before) set))
      (sym room))

pub same_twice : {a b c : Memory} → IsSameReceiver a b → IsSameReceiver b c → IsSameReceiver a c
same_twice first second =
    record {
      profile = second.profile ∙ first.profile;
      page = second.page ∙ first.page;
      anchor = second.anchor
          ∙ first.anchor;
    }
