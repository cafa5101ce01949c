-- Behind a loss or a broken set, until a kept set comes that is not of state normal, no epoch is known and all memory
-- is free, and every kept set waits or is broken.
use Rattle.std.proofs.Common.{◌≡◌, ◌∙◌, ℕ, ◌-◌, cond, List, [], ◌∷◌, Option, Some, None, refl, sym, ap, subst, arith}
use Rattle.std.specs.Option.{option_or, option_map}
use Rattle.sub_base.specs.declared.profile.Profile.{Profile}
use Rattle.stream_syntax.specs.Segments.{Page}
use Rattle.stream_syntax.specs.declared.page.State.TheVariants.{Acquisition, ModeChange}
use Rattle.decoder_model.specs.BehindLoss.{IsNormal, IsIdle, IsBehindLoss, at_loss, at_broken, goes_on, IsWaitingOrBroken}
use Rattle.decoder_model.specs.Contents.{has_state, page_in_set}
use Rattle.decoder_model.specs.Faults.{contents_in, segment_fault}
use Rattle.decoder_model.specs.Free.{free_pixels_after, free_nodes_after, pixels_held, nodes_held}
use Rattle.decoder_model.specs.Kept.{lifted_behind, lifted_time, last_time, epoch_of}
use Rattle.sub_base.specs.Lists.{up_to_first, up_to_last}
use Rattle.decoder_model.specs.Readings.{Content, Reading}
use Rattle.decoder_model.specs.Sets.{Delivery, lost, whole, refused}
use Rattle.decoder_model.specs.Verdict.{verdict_in_epoch, verdict_with_page, verdict_on_segments, verdict_on_kept, if_kept, verdict_of, sets_with, sets_since, known_epoch}
use Rattle.decoder_model.specs.declared.set_end.SetEnd.{SetEnd}
use Rattle.decoder_model.specs.declared.set_end.SetEnd.TheVariants.{Shown, Waiting, Broken, NotLater}
use Rattle.decoder_model.specs.declared.set_fault.SetFault.{SetFault}

-- ---- no epoch

neither : {X : Type 0} (a b : Option X) → option_or a b ≡ None → (a ≡ None) × (b ≡ None)
neither None b e = (refl, e)
neither (Some x) b e = absurd (cc)

-- where no epoch is known, a set of state normal begins none
pub still_unknown : (set : List Content) (sets : List (List Content)) → IsNormal set → epoch_of sets ≡ None
    → epoch_of (set ∷ sets) ≡ None
unfolding epoch_of
still_unknown set sets normal unknown =
    let none = neither (up_to_first (has_state ModeChange) sets) (up_to_last (has_state Acquisition) sets) unknown in
    let first : up_to_first (has_state ModeChange) (set ∷ sets) ≡ None =
    ap (λ b. cond b (Some (set ∷ []))
    (option_map (λ front. set ∷ front) (up_to_first (has_state ModeChange) sets))) normal.0
    ∙ ap (option_map (λ front. set ∷ front)) none.0 in
    let last : up_to_last (has_state Acquisition) (set ∷ sets) ≡ None =
    ap (λ found. option_or (option_map (λ front. set ∷ front) found)
    (cond (has_state Acquisition set) (Some (set ∷ [])) None)) none.1
    ∙ ap (λ b. cond b (Some (set ∷ [])) None) normal.1 in
    ap (λ found. option_or found (up_to_last (has_state Acquisition) (set ∷ sets))) first ∙ last

-- ---- verdicts

by_page : (profile : Profile) (sets : List (List Content)) (set : List Content) (page : Option Page)
    → epoch_of (set ∷ sets) ≡ None → IsWaitingOrBroken (verdict_with_page profile sets set page)
by_page profile sets set None unknown = tt
by_page profile sets set (Some page) unknown =
    subst (λ (epoch : Option (List (List Content))). IsWaitingOrBroken (verdict_in_epoch profile page epoch))
    (sym unknown) tt

by_fault : (profile : Profile) (sets : List (List Content)) (set : List Content) (fault : Option SetFault)
    → epoch_of (set ∷ sets) ≡ None → IsWaitingOrBroken (verdict_on_segments profile sets set fault)
by_fault profile sets set (Some fault) unknown = tt
by_fault profile sets set None unknown = by_page profile sets set (page_in_set set) unknown

-- where no epoch is known, a set of state normal waits or is broken
pub normal_waits : (profile : Profile) (sets : List (List Content)) (readings : List Reading)
    → IsNormal (contents_in readings) → epoch_of sets ≡ None
    → IsWaitingOrBroken (verdict_on_kept profile sets readings)
normal_waits profile sets readings normal unknown =
    by_fault profile sets (contents_in readings) (segment_fault readings)
    (still_unknown (contents_in readings) sets normal unknown)

-- ---- the run

nothing_known : epoch_of [] ≡ None
unfolding epoch_of
nothing_known = refl

unknown_by_verdict : (sets : List (List Content)) (time size : ℕ) (readings : List Reading) (verdict : SetEnd)
    → IsNormal (contents_in readings) → epoch_of sets ≡ None
    → epoch_of (sets_with sets (whole time size readings) (Some verdict)) ≡ None
unknown_by_verdict sets time size readings Shown normal unknown =
    still_unknown (contents_in readings) sets normal unknown
unknown_by_verdict sets time size readings Waiting normal unknown =
    still_unknown (contents_in readings) sets normal unknown
unknown_by_verdict sets time size readings (Broken fault) normal unknown = nothing_known
unknown_by_verdict sets time size readings (NotLater last) normal unknown = unknown

-- a set behind others, by its lifted time: no epoch is known with it either
unknown_whole : (profile : Profile) (sets : List (List Content)) (last lifted : Option ℕ) (time size : ℕ)
    (readings : List Reading) → IsIdle lifted (whole time size readings) → epoch_of sets ≡ None
    → epoch_of
    (sets_with sets (whole time size readings) (Some (if_kept lifted last (verdict_on_kept profile sets readings))))
    ≡ None
unknown_whole profile sets last None time size readings idle unknown = unknown
unknown_whole profile sets last (Some at) time size readings idle unknown =
    unknown_by_verdict sets time size readings (verdict_on_kept profile sets readings) idle unknown

unknown_refused : (sets : List (List Content)) (last lifted : Option ℕ) (time size : ℕ) (fault : SetFault)
    → epoch_of sets ≡ None
    → epoch_of (sets_with sets (refused time size fault) (Some (if_kept lifted last (Broken fault)))) ≡ None
unknown_refused sets last None time size fault unknown = unknown
unknown_refused sets last (Some at) time size fault unknown = nothing_known

unknown_more : (profile : Profile) (anchor : ℕ) (past : List (Delivery Reading)) (delivery : Delivery Reading)
    → IsIdle (lifted_time anchor past delivery) delivery → known_epoch profile anchor past ≡ None
    → known_epoch profile anchor (delivery ∷ past) ≡ None
unfolding sets_since
unknown_more profile anchor past lost idle unknown = nothing_known
unknown_more profile anchor past (whole time size readings) idle unknown =
    unknown_whole profile (sets_since profile anchor past) (last_time anchor past)
    (lifted_behind anchor (last_time anchor past) time) time size readings idle unknown
unknown_more profile anchor past (refused time size fault) idle unknown =
    unknown_refused (sets_since profile anchor past) (last_time anchor past)
    (lifted_behind anchor (last_time anchor past) time) time size fault unknown

none_with_broken : (sets : List (List Content)) (delivery : Delivery Reading) (fault : SetFault)
    → sets_with sets delivery (Some (Broken fault)) ≡ []
none_with_broken sets lost fault = refl
none_with_broken sets (whole time size readings) fault = refl
none_with_broken sets (refused time size fault) other = refl

unknown_broken : (profile : Profile) (anchor : ℕ) (past : List (Delivery Reading)) (delivery : Delivery Reading)
    (fault : SetFault) → verdict_of profile anchor past delivery ≡ Some (Broken fault)
    → known_epoch profile anchor (delivery ∷ past) ≡ None
unfolding sets_since
unknown_broken profile anchor past delivery fault is =
    ap (λ verdict. epoch_of (sets_with (sets_since profile anchor past) delivery verdict)) is
    ∙ ap epoch_of (none_with_broken (sets_since profile anchor past) delivery fault) ∙ nothing_known

unknown_lost : (profile : Profile) (anchor : ℕ) (past : List (Delivery Reading))
    → known_epoch profile anchor (lost ∷ past) ≡ None
unfolding sets_since
unknown_lost profile anchor past = nothing_known

-- behind a loss no epoch is known
pub unknown_behind_loss : (profile : Profile) (anchor : ℕ) (past : List (Delivery Reading))
    → IsBehindLoss profile anchor past → known_epoch profile anchor past ≡ None
unknown_behind_loss profile anchor past (at_loss before) = unknown_lost profile anchor before
unknown_behind_loss profile anchor past (at_broken before delivery fault is) =
    unknown_broken profile anchor before delivery fault is
unknown_behind_loss profile anchor past (goes_on before delivery behind idle) =
    unknown_more profile anchor before delivery idle (unknown_behind_loss profile anchor before behind)

-- where no epoch is known all memory is free
pub free_where_unknown : (profile : Profile) (anchor : ℕ) (past : List (Delivery Reading))
    → known_epoch profile anchor past ≡ None → (free_pixels_after profile anchor past ≡ profile.pixels)
    × (free_nodes_after profile anchor past ≡ profile.nodes)
free_where_unknown profile anchor past unknown = (
  ap (λ epoch. profile.pixels - pixels_held epoch) unknown ∙ omega arith,
  ap (λ epoch. profile.nodes - nodes_held epoch) unknown ∙ omega arith,
)

-- and each kept set of state normal waits or is broken
pub waits_behind_loss : (profile : Profile) (anchor lifted : ℕ) (past : List (Delivery Reading)) (time size : ℕ)
    (readings : List Reading) → IsBehindLoss profile anchor past
    → lifted_time anchor past (whole time size readings) ≡ Some lifted → IsNormal (contents_in readings)
    → (verdict : SetEnd) × (verdict_of profile anchor past (whole time size readings) ≡ Some verdict)
    × IsWaitingOrBroken verdict
waits_behind_loss profile anchor lifted past time size readings behind kept normal = (
  verdict_on_kept profile (sets_since profile anchor past) readings,
  ap (λ found. Some
      (if_kept found (last_time anchor past) (verdict_on_kept profile (sets_since profile anchor past) readings))) kept,
  normal_waits profile (sets_since profile anchor past) readings normal
      (unknown_behind_loss profile anchor past behind),
)
