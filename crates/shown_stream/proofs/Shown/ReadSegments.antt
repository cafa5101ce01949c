-- The segments of a set of a plan, as they are read: none has a fault, and what they stand for is what the plan says,
-- with whatever numbers the set gives its objects, and on whatever page each segment stands.
use Rattle.std.proofs.Common.{◌≡◌, ◌∙◌, ℕ, ◌≤◌, List, [], ◌∷◌, ◌++◌, map, None, refl, sym, ap, subst}
use Rattle.std.specs.Prelude.{All}
use Rattle.std.specs.List.{AllByRecursion, AllZip}
use Rattle.std.proofs.lemmas.List.Elements.{recursion_from_All}
use Rattle.sub_base.specs.Depth.{bits_of}
use Rattle.sub_base.specs.Picture.{Picture}
use Rattle.stream_syntax.specs.Segments.{SegmentValue, of_object, end_of_set, IsSegment}
use Rattle.stream_syntax.specs.declared.page.State.{State}
use Rattle.stream_syntax.specs.declared.page.State.TheVariants.{Normal, Acquisition, ModeChange}
use Rattle.cue_list.specs.declared.epoch.Epoch.{Epoch}
use Rattle.cue_list.specs.declared.script.Script.{Script}
use Rattle.page_epoch.specs.Live.{no_cue}
use Rattle.page_epoch.specs.Sendable.{HasCue}
use Rattle.page_epoch.specs.declared.planned_set.PlannedSet.{PlannedSet}
use Rattle.page_epoch.specs.declared.planned_set.SentClut.{SentClut}
use Rattle.page_epoch.specs.declared.planned_set.SentRegion.{SentRegion}
use Rattle.decoder_model.specs.Faults.{contents_in, segment_fault}
use Rattle.decoder_model.specs.Readings.{Content, read, AreObjectFields, AreReadings}
use Rattle.decoder_model.proofs.Depths.{parts_in_eight, none_too_deep}
use Rattle.segments.proofs.Spellings.{written_segment}
use Rattle.set_coder.specs.SetSegments as planned
use Rattle.set_coder.specs.SetSegments.{picture_of_cue, depth_of_cue}
use Rattle.shown_plan.specs.NamedSets.{Names, named_value, named_region, named_leading, IsNamedObject, AreNamedSegments}
use Rattle.shown_plan.proofs.Segments.NoTwice.{set_no_fault}
use Rattle.shown_plan.proofs.Segments.OwnIds.{AreSingle}
use Rattle.shown_plan.proofs.Segments.ReadSets.{plain, IsDrawnObject, IsReadSet}
use Rattle.shown_plan.proofs.Steps.Fair.{IsFairCue}
use Rattle.shown_stream.specs.SentPlan.{IsWrittenAs}
use Rattle.shown_stream.proofs.Shown.DrawnObject.{object_draws}

-- ---- what is read

-- the sub-blocks of a content are those of its segment
abbrev HasFields : Content → Type 0
HasFields content = AreObjectFields content.value content.top content.bottom

abbrev values_of : List Content → List SegmentValue
values_of contents = map (λ (content : Content). content.value) contents

-- segments that are written are read as these contents
all_read : (contents : List Content) (bytes : List (List ℕ)) → AllZip IsWrittenAs (values_of contents) bytes
    → AllByRecursion HasFields contents → AreReadings bytes (map read contents)
all_read [] [] written fields = tt
all_read [] (first ∷ bytes) written fields = absurd written
all_read (content ∷ contents) [] written fields = absurd written
all_read (content ∷ contents) (first ∷ bytes) written fields = (
  record {
    segment = subst (λ (of_value : List ℕ). IsSegment of_value content.value) (sym written.0.2)
        (written_segment written.0.0 content.value written.0.1);
    fields = fields.0;
  },
  all_read contents bytes written.1 fields.1,
)

contents_back : (contents : List Content) → contents_in (map read contents) ≡ contents
contents_back [] = refl
contents_back (content ∷ contents) = ap (λ rest. content ∷ rest) (contents_back contents)

-- ---- objects

-- the pictures of an epoch's cues are no deeper than the cues' regions
abbrev pub AreShallow : List Picture → Epoch → Type 0
AreShallow pictures epoch = (place : ℕ) → HasCue epoch place
    → bits_of (picture_of_cue pictures epoch place).depth ≤ bits_of (depth_of_cue epoch place)

pub fair_shallow : (pictures : List Picture) (epoch : Epoch) → All (IsFairCue pictures epoch) epoch.cues
    → AreShallow pictures epoch
fair_shallow pictures epoch cues place there = (cues place no_cue there).fits.shallow

-- the object of a cue, read
record DrawnContent (names : Names) (pictures : List Picture) (epoch : Epoch) (place : ℕ)
    (segment : SegmentValue) : Type 0 where
  content : Content
  same : content.value ≡ segment
  drawn : IsDrawnObject names pictures epoch place content
  fields : HasFields content

drawn_content : {names : Names} {pictures : List Picture} {epoch : Epoch} {place : ℕ} {segment : SegmentValue}
    → bits_of (picture_of_cue pictures epoch place).depth ≤ bits_of (depth_of_cue epoch place)
    → IsNamedObject names pictures epoch place segment → DrawnContent names pictures epoch place segment
drawn_content {names} {pictures} {epoch} {place} {segment} shallow object =
    let depth = depth_of_cue epoch place in
    let draws =
    object_draws (picture_of_cue pictures epoch place) depth object.top object.bottom shallow object.blocks in
    record {
      content = record {
        value = of_object (named_value names epoch place object.top object.bottom);
        top = draws.top_parts;
        bottom = draws.bottom_has;
      };
      same = sym object.value;
      drawn = record {
        top_bytes = object.top;
        bottom_bytes = object.bottom;
        value_is = refl;
        draws = draws.draws;
        top_depth = none_too_deep depth draws.top_parts object.top draws.top_whole;
        bottom_depth = none_too_deep depth draws.bottom_has object.bottom draws.bottom_whole;
      };
      fields = (
        parts_in_eight depth draws.top_parts object.top draws.top_whole,
        parts_in_eight depth draws.bottom_has object.bottom draws.bottom_whole,
      );
    }

record DrawnContents (names : Names) (pictures : List Picture) (epoch : Epoch) (places : List ℕ)
    (segments : List SegmentValue) : Type 0 where
  contents : List Content
  same : values_of contents ≡ segments
  drawn : AllZip (IsDrawnObject names pictures epoch) places contents
  fields : AllByRecursion HasFields contents

drawn_contents : (names : Names) (pictures : List Picture) (epoch : Epoch) (places : List ℕ)
    (segments : List SegmentValue) → AreShallow pictures epoch → AllByRecursion (HasCue epoch) places
    → AllZip (IsNamedObject names pictures epoch) places segments
    → DrawnContents names pictures epoch places segments
drawn_contents names pictures epoch [] [] shallow there objects =
    record { contents = []; same = refl; drawn = tt; fields = tt }
drawn_contents names pictures epoch [] (segment ∷ segments) shallow there objects = absurd objects
drawn_contents names pictures epoch (place ∷ places) [] shallow there objects = absurd objects
drawn_contents names pictures epoch (place ∷ places) (segment ∷ segments) shallow there objects =
    let one = drawn_content (shallow place there.0) objects.0 in
    let more = drawn_contents names pictures epoch places segments shallow there.1 objects.1 in
    record {
      contents = one.content ∷ more.contents;
      same = ap (λ value. value ∷ values_of more.contents) one.same ∙ ap (λ rest. segment ∷ rest) more.same;
      drawn = (one.drawn, more.drawn);
      fields = (one.fields, more.fields);
    }

-- ---- other segments

regions_plain : (names : Names) (epoch : Epoch) (sent : List SentRegion)
    → AllByRecursion HasFields (map plain (map (named_region names epoch) sent))
regions_plain names epoch [] = tt
regions_plain names epoch (one ∷ sent) = ((refl, refl), regions_plain names epoch sent)

cluts_plain : (epoch : Epoch) (sent : List SentClut)
    → AllByRecursion HasFields (map plain (map (planned.clut_segment_of epoch) sent))
cluts_plain epoch [] = tt
cluts_plain epoch (one ∷ sent) = ((refl, refl), cluts_plain epoch sent)

display_plain : (script : Script) (state : State)
    → AllByRecursion HasFields (map plain (planned.display_segments script state))
display_plain script Normal = tt
display_plain script Acquisition = ((refl, refl), tt)
display_plain script ModeChange = ((refl, refl), tt)

both_plain : (xs ys : List SegmentValue) → AllByRecursion HasFields (map plain xs)
    → AllByRecursion HasFields (map plain ys) → AllByRecursion HasFields (map plain (xs ++ ys))
both_plain [] ys h k = k
both_plain (x ∷ xs) ys h k = (h.0, both_plain xs ys h.1 k)

leading_plain : (names : Names) (script : Script) (epoch : Epoch) (set : PlannedSet) (cluts : List SentClut)
    → AllByRecursion HasFields (map plain (named_leading names script epoch set cluts))
leading_plain names script epoch set cluts =
    both_plain (planned.display_segments script set.state) _ (display_plain script set.state) (
      (refl, refl),
      both_plain (map (named_region names epoch) set.regions) (map (planned.clut_segment_of epoch) cluts)
          (regions_plain names epoch set.regions) (cluts_plain epoch cluts),
    )

values_plain : (values : List SegmentValue) (more : List Content)
    → values_of (map plain values ++ more) ≡ values ++ values_of more
values_plain [] more = refl
values_plain (value ∷ values) more = ap (λ rest. value ∷ rest) (values_plain values more)

fields_behind : (values : List SegmentValue) (more : List Content) → AllByRecursion HasFields (map plain values)
    → AllByRecursion HasFields more → AllByRecursion HasFields (map plain values ++ more)
fields_behind [] more h k = k
fields_behind (value ∷ values) more h k = (h.0, fields_behind values more h.1 k)

values_end : (contents : List Content)
    → values_of (contents ++ plain end_of_set ∷ []) ≡ values_of contents ++ end_of_set ∷ []
values_end [] = refl
values_end (content ∷ contents) = ap (λ rest. content.value ∷ rest) (values_end contents)

fields_end : (contents : List Content) → AllByRecursion HasFields contents
    → AllByRecursion HasFields (contents ++ plain end_of_set ∷ [])
fields_end [] h = ((refl, refl), tt)
fields_end (content ∷ contents) h = (h.0, fields_end contents h.1)

-- ---- a set

-- bytes as they are read
pub record SetRead (script : Script) (epoch : Epoch) (set : PlannedSet) (bytes : List (List ℕ)) : Type 0 where
  pub contents : List Content
  pub are : AreReadings bytes (map read contents)
  pub back : contents_in (map read contents) ≡ contents
  pub no_fault : segment_fault (map read contents) ≡ None
  pub is : IsReadSet script epoch set contents

-- each set of a plan is read so, where its cues are those of its epoch and no deeper than their regions
pub set_is_read : {script : Script} {set : PlannedSet} {segments : List SegmentValue} {bytes : List (List ℕ)}
    (sent : AreNamedSegments script set segments) → AllZip IsWrittenAs segments bytes
    → AreSingle (λ (one : SentRegion). one.id) set.regions → AreShallow script.pictures sent.epoch
    → All (HasCue sent.epoch) set.cues → SetRead script sent.epoch set bytes
set_is_read {script} {set} {segments} {bytes} sent written single shallow there =
    record {
      contents = contents;
      are = all_read contents bytes
          (subst (λ (values : List SegmentValue). AllZip IsWrittenAs values bytes) (sym same) written)
          (fields_behind leading (drawn.contents ++ plain end_of_set ∷ [])
          (leading_plain sent.names script sent.epoch set sent.cluts) (fields_end drawn.contents drawn.fields));
      back = contents_back contents;
      no_fault = set_no_fault is single;
      is = is;
    }
  where
    drawn : DrawnContents sent.names script.pictures sent.epoch set.cues sent.objects
    drawn =
        drawn_contents sent.names script.pictures sent.epoch set.cues sent.objects shallow
        (recursion_from_All (HasCue sent.epoch) set.cues there) sent.drawn

    leading : List SegmentValue
    leading = named_leading sent.names script sent.epoch set sent.cluts

    contents : List Content
    contents = map plain leading ++ (drawn.contents ++ plain end_of_set ∷ [])

    is : IsReadSet script sent.epoch set contents
    is =
        record {
          names = sent.names;
          apart = sent.apart;
          cluts = sent.cluts;
          permuted = sent.permuted;
          objects = drawn.contents;
          drawn = drawn.drawn;
          are = refl;
        }

    same : values_of contents ≡ segments
    same =
        values_plain leading (drawn.contents ++ plain end_of_set ∷ [])
        ∙ ap (λ rest. leading ++ rest)
        (values_end drawn.contents ∙ ap (λ objects. objects ++ end_of_set ∷ []) drawn.same)
        ∙ sym sent.whole
