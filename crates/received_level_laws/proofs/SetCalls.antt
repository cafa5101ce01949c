-- The call that is told of one set, by its end and its load.
use Rattle.std.proofs.Common.{◌≡◌, ◌∙◌, ℕ, List, [], ◌∷◌, map, Option, Some, None, refl, sym, ap}
use Rattle.sub_base.specs.declared.load.SetLoad.{SetLoad}
use Rattle.sub_base.specs.declared.profile.Profile.{Profile}
use Rattle.stream_syntax.specs.Segments.{Page}
use Rattle.buffer_model.specs.Calls.{SetWhole}
use Rattle.decoder_model.specs.Contents.{page_in_set}
use Rattle.decoder_model.specs.Faults.{contents_in, segment_fault, epoch_fault}
use Rattle.decoder_model.specs.Kept.{lifted_behind, last_time, epoch_of}
use Rattle.decoder_model.specs.Painting.{set_load}
use Rattle.decoder_model.specs.Readings.{Content, Reading}
use Rattle.decoder_model.specs.Sets.{Delivery, lost, whole, refused}
use Rattle.decoder_model.specs.Verdict.{shown_unless, verdict_in_epoch, verdict_with_page, verdict_on_segments, verdict_on_kept, if_kept, sets_since, verdict_of}
use Rattle.decoder_model.specs.declared.set_end.SetEnd.{SetEnd}
use Rattle.decoder_model.specs.declared.set_end.SetEnd.TheVariants.{Broken}
use Rattle.decoder_model.specs.declared.set_fault.SetFault.{SetFault}
use Rattle.received_level_laws.specs.StreamCalls.{call_by}
use Rattle.received_level_laws.specs.ToldSets.{of_set, set_told, told_call, call_of_end}

-- ---- a set that is kept is no drop

unless_faulty : (fault : Option SetFault) (load : SetLoad) → call_of_end (shown_unless fault) load ≡ SetWhole load
unless_faulty None load = refl
unless_faulty (Some fault) load = refl

in_epoch : (profile : Profile) (pages : Page) (epoch : Option (List (List Content))) (load : SetLoad)
    → call_of_end (verdict_in_epoch profile pages epoch) load ≡ SetWhole load
in_epoch profile pages None load = refl
in_epoch profile pages (Some []) load = refl
in_epoch profile pages (Some (set ∷ before)) load = unless_faulty (epoch_fault profile before set pages) load

with_page : (profile : Profile) (sets : List (List Content)) (set : List Content) (pages : Option Page) (load : SetLoad)
    → call_of_end (verdict_with_page profile sets set pages) load ≡ SetWhole load
with_page profile sets set None load = refl
with_page profile sets set (Some pages) load = in_epoch profile pages (epoch_of (set ∷ sets)) load

on_segments : (profile : Profile) (sets : List (List Content)) (set : List Content) (fault : Option SetFault)
    (load : SetLoad) → call_of_end (verdict_on_segments profile sets set fault) load ≡ SetWhole load
on_segments profile sets set (Some fault) load = refl
on_segments profile sets set None load = with_page profile sets set (page_in_set set) load

-- ---- what a set tells

-- the call by the lifted time is the call by the end
tells_by : (lifted last : Option ℕ) (kept end : SetEnd) (load : SetLoad) → call_of_end kept load ≡ SetWhole load
    → end ≡ if_kept lifted last kept
    → map (of_set (set_told (Some end) (Some load))) (call_by lifted (Some load))
    ≡ of_set (set_told (Some end) (Some load)) (call_of_end end load) ∷ []
tells_by None last kept end load is e = ap (λ call. of_set (set_told (Some end) (Some load)) call ∷ [])
    (sym (ap (λ one. call_of_end one load) e))
tells_by (Some time) last kept end load is e = ap (λ call. of_set (set_told (Some end) (Some load)) call ∷ [])
    (sym (ap (λ one. call_of_end one load) e ∙ is))

-- a set with that end and load, behind a past, is told as one call
pub set_tells : (profile : Profile) (anchor : ℕ) (past : List (Delivery Reading)) (delivery : Delivery Reading)
    (end : SetEnd) (load : SetLoad)
    → Some end ≡ verdict_of profile anchor past delivery → Some load ≡ set_load profile anchor past delivery
    → told_call profile anchor past delivery ≡ of_set (set_told (Some end) (Some load)) (call_of_end end load)
    ∷ []
set_tells profile anchor past lost end load is_end is_load = absurd (cc)
set_tells profile anchor past (whole time size readings) end load is_end is_load =
    let kept = verdict_on_kept profile (sets_since profile anchor past) readings in
    let lifted = lifted_behind anchor (last_time anchor past) time in
    let same : end ≡ if_kept lifted (last_time anchor past) kept = cc in
    ap (λ verdict. map (of_set (set_told verdict (set_load profile anchor past (whole time size readings))))
    (call_by lifted (set_load profile anchor past (whole time size readings)))) (sym is_end)
    ∙ ap (λ asked. map (of_set (set_told (Some end) asked)) (call_by lifted asked)) (sym is_load)
    ∙ tells_by lifted (last_time anchor past) kept end load
    (on_segments profile (sets_since profile anchor past) (contents_in readings) (segment_fault readings) load) same
set_tells profile anchor past (refused time size fault) end load is_end is_load =
    let lifted = lifted_behind anchor (last_time anchor past) time in
    let same : end ≡ if_kept lifted (last_time anchor past) (Broken fault) = cc in
    ap (λ verdict. map (of_set (set_told verdict (set_load profile anchor past (refused time size fault))))
    (call_by lifted (set_load profile anchor past (refused time size fault)))) (sym is_end)
    ∙ ap (λ asked. map (of_set (set_told (Some end) asked)) (call_by lifted asked)) (sym is_load)
    ∙ tells_by lifted (last_time anchor past) (Broken fault) end load refl same

-- a loss tells nothing
pub loss_tells : (profile : Profile) (anchor : ℕ) (past : List (Delivery Reading))
    → told_call profile anchor past lost ≡ []
loss_tells profile anchor past = refl
