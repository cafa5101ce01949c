-- Of what counts of a set that carries a set of a plan, the last segment and no other one ends the set.
use Rattle.std.proofs.Common.{◌≡◌, ◌∙◌, ℕ, ◌==◌, true, false, List, [], ◌∷◌, ◌++◌, map, refl, sym, ap, subst, append_assoc}
use Rattle.std.specs.List.{AllByRecursion, AllZip}
use Rattle.sub_base.specs.Picture.{Picture}
use Rattle.stream_syntax.specs.DataField.{segment}
use Rattle.stream_syntax.specs.Segments.{SegmentValue, of_page, of_region, of_clut, of_object, of_display, end_of_set, passed_over, segment_kind}
use Rattle.stream_syntax.specs.Tests.{byte_at}
use Rattle.stream_syntax.specs.declared.page.State.{State}
use Rattle.stream_syntax.specs.declared.page.State.TheVariants.{Normal, Acquisition, ModeChange}
use Rattle.cue_list.specs.declared.epoch.Epoch.{Epoch}
use Rattle.cue_list.specs.declared.script.Script.{Script}
use Rattle.page_epoch.specs.declared.planned_set.PlannedSet.{PlannedSet}
use Rattle.page_epoch.specs.declared.planned_set.SentClut.{SentClut}
use Rattle.page_epoch.specs.declared.planned_set.SentRegion.{SentRegion}
use Rattle.decoder_model.specs.Frames.{is_end}
use Rattle.decoder_model.specs.declared.pages.Pages.{Pages}
use Rattle.decoder_model.proofs.Lists.{all-append}
use Rattle.set_coder.specs.SetSegments.{display_segments, page_segment, clut_segment_of}
use Rattle.shown_plan.specs.NamedSets.{Names, named_region, named_leading, IsNamedObject}
use Rattle.sent_sets.specs.RawSets.{RawSet, counted_in, EndsLast}
use Rattle.shown_stream.specs.SentPlan.{IsWrittenAs, CarriesSet}
use Rattle.shown_stream.proofs.Sent.WrittenSets.{IsInner}
use Rattle.page_pair.proofs.PagedBytes.{head_kind}

-- ---- segments before the end

pub display_inner : (script : Script) (state : State) → AllByRecursion IsInner (display_segments script state)
display_inner script Normal = tt
display_inner script Acquisition = (tt, tt)
display_inner script ModeChange = (tt, tt)

pub regions_inner : (names : Names) (epoch : Epoch) (sent : List SentRegion)
    → AllByRecursion IsInner (map (named_region names epoch) sent)
regions_inner names epoch [] = tt
regions_inner names epoch (one ∷ sent) = (tt, regions_inner names epoch sent)

cluts_inner : (epoch : Epoch) (sent : List SentClut) → AllByRecursion IsInner (map (clut_segment_of epoch) sent)
cluts_inner epoch [] = tt
cluts_inner epoch (one ∷ sent) = (tt, cluts_inner epoch sent)

objects_inner : (names : Names) (pictures : List Picture) (epoch : Epoch) (places : List ℕ)
    (segments : List SegmentValue) → AllZip (IsNamedObject names pictures epoch) places segments
    → AllByRecursion IsInner segments
objects_inner names pictures epoch [] [] h = tt
objects_inner names pictures epoch [] (one ∷ segments) h = absurd h
objects_inner names pictures epoch (place ∷ places) [] h = absurd h
objects_inner names pictures epoch (place ∷ places) (one ∷ segments) h =
    (subst IsInner (sym h.0.value) tt, objects_inner names pictures epoch places segments h.1)

leading_inner : (names : Names) (script : Script) (epoch : Epoch) (set : PlannedSet) (cluts : List SentClut)
    → AllByRecursion IsInner (named_leading names script epoch set cluts)
leading_inner names script epoch set cluts =
    all-append IsInner (display_segments script set.state)
    (page_segment script epoch set
    ∷ (map (named_region names epoch) set.regions ++ map (clut_segment_of epoch) cluts))
    (display_inner script set.state) (
      tt,
      all-append IsInner (map (named_region names epoch) set.regions) (map (clut_segment_of epoch) cluts)
          (regions_inner names epoch set.regions) (cluts_inner epoch cluts),
    )

-- ---- the end

no_end_kind : (value : SegmentValue) → IsInner value → (segment_kind value == 0x80) ≡ false
no_end_kind (of_page value) h = refl
no_end_kind (of_region value) h = refl
no_end_kind (of_clut value) h = refl
no_end_kind (of_object value) h = refl
no_end_kind (of_display value) h = refl
no_end_kind end_of_set h = absurd h
no_end_kind passed_over h = absurd h

no_end : (value : SegmentValue) (bytes : List ℕ) → IsInner value → IsWrittenAs value bytes
    → is_end (segment bytes) ≡ true → ⊥
no_end value bytes inner written end = clash
    (sym (ap (λ kind. kind == 0x80) (ap (byte_at 1) written.2 ∙ head_kind written.0 value written.1)
    ∙ no_end_kind value inner) ∙ end)
  where
    clash : false ≡ true → ⊥
    clash never = cc

last_ends : (inner : List SegmentValue) (before after : List (List ℕ)) (bytes : List ℕ)
    → AllByRecursion IsInner inner → AllZip IsWrittenAs (inner ++ end_of_set ∷ []) (before ++ bytes ∷ after)
    → is_end (segment bytes) ≡ true → after ≡ []
last_ends [] [] [] bytes all written end = refl
last_ends [] [] (more ∷ after) bytes all written end = absurd written.1
last_ends [] (one ∷ []) after bytes all written end = absurd written.1
last_ends [] (one ∷ other ∷ before) after bytes all written end = absurd written.1
last_ends (value ∷ inner) [] after bytes all written end = absurd (no_end value bytes all.0 written.0 end)
last_ends (value ∷ inner) (one ∷ before) after bytes all written end =
    last_ends inner before after bytes all.1 written.1 end

pub carried_ends : (script : Script) (pages : Pages) (set : PlannedSet) (raw : RawSet)
    → CarriesSet script pages set raw → EndsLast pages raw
carried_ends script pages set raw carries before after bytes e end =
    let planned = carries.planned in
    let leading = named_leading planned.names script planned.epoch set planned.cluts in
    let are = planned.whole ∙ sym (append_assoc leading planned.objects (end_of_set ∷ [])) in
    last_ends (leading ++ planned.objects) before after bytes
    (all-append IsInner leading planned.objects
    (leading_inner planned.names script planned.epoch set planned.cluts)
    (objects_inner planned.names script.pictures planned.epoch set.cues planned.objects planned.drawn))
    (subst (λ (sent : List (List ℕ)). AllZip IsWrittenAs ((leading ++ planned.objects) ++ end_of_set ∷ []) sent) e
    (subst (λ (values : List SegmentValue). AllZip IsWrittenAs values (counted_in pages raw)) are carries.written)) end
