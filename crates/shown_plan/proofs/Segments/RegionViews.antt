-- The taken segments of an epoch with one set of the plan more, as a region sees them: but for its own segment and
-- objects, all are aside.
use Rattle.std.proofs.Common.{◌≡◌, ◌≢◌, ◌∙◌, ℕ, false, eqb, List, [], ◌∷◌, ◌++◌, map, filter, reverse, get_or, None, refl, sym, ap, arith}
use Rattle.std.specs.Prelude.{All}
use Rattle.std.proofs.lemmas.Bool.Decides.{nat_tests}
use Rattle.std.proofs.lemmas.List.{append_assoc}
use Rattle.std.proofs.lemmas.List.Elements.{All-cons, All-append, All-map, All-filter}
use Rattle.stream_syntax.specs.declared.page.State.{State}
use Rattle.stream_syntax.specs.declared.page.State.TheVariants.{Normal, Acquisition, ModeChange}
use Rattle.cue_list.specs.declared.epoch.Epoch.{Epoch}
use Rattle.cue_list.specs.declared.script.Script.{Script}
use Rattle.page_epoch.proofs.ListLaws.{All-none}
use Rattle.page_epoch.specs.declared.planned_set.PlannedSet.{PlannedSet}
use Rattle.page_epoch.specs.declared.planned_set.SentClut.{SentClut}
use Rattle.page_epoch.specs.declared.planned_set.SentRegion.{SentRegion}
use Rattle.set_coder.specs.SetSegments.{display_segments}
use Rattle.decoder_model.specs.Contents.{region_named, object_of}
use Rattle.decoder_model.specs.Readings.{Content}
use Rattle.decoder_model.specs.Taken.{segments_of, taken_among}
use Rattle.shown_plan.specs.NamedSets.{Names}
use Rattle.shown_plan.proofs.Segments.Ordered.{displays_in, page_content, region_content, clut_content}
use Rattle.shown_plan.proofs.Segments.Parts.{HasPart}
use Rattle.shown_plan.proofs.Segments.ReadSets.{plain, IsReadSet}
use Rattle.shown_plan.proofs.Segments.SetView.{keeps, reversed_all, new_cluts, new_page, AreSentOnce, kept_of, parted_kept, taken_now}

-- a segment that is neither of a region nor an object
abbrev pub IsAside : ℕ → Content → Type 0
IsAside id content = (region_named id content ≡ None) × (object_of content ≡ None)

-- what is taken now: the set's objects, and the region's own segment where it is taken, between segments that are aside
pub record IsRegionView (names : Names) (epoch : Epoch) (id : ℕ) (own : List SentRegion)
    (objects taken now : List Content) : Type 0 where
  pub above : List Content
  pub below : List Content
  pub aside_above : All (IsAside id) above
  pub aside_below : All (IsAside id) below
  pub whole : now ≡ reverse objects
      ++ (above ++ (kept_of (region_content names epoch) taken own ++ (below ++ taken)))

other_region : (names : Names) (epoch : Epoch) (id : ℕ) (sent : SentRegion) → sent.id ≢ id
    → IsAside id (region_content names epoch sent)
other_region names epoch id sent other =
    (let differs : eqb sent.id id ≡ false = grind (arith, nat_tests) in rw differs refl, refl)

others_aside : (names : Names) (epoch : Epoch) (id : ℕ) (sent : List SentRegion)
    → All (λ (one : SentRegion). one.id ≢ id) sent
    → All (IsAside id) (map (region_content names epoch) (reverse sent))
others_aside names epoch id sent other =
    All-map (IsAside id) (region_content names epoch) (reverse sent)
    (λ k d within. other_region names epoch id (get_or (reverse sent) k d)
    (reversed_all (λ (one : SentRegion). one.id ≢ id) sent other k d within))

cluts_aside : (epoch : Epoch) (id : ℕ) (sent : List SentClut) → All (IsAside id) (map (clut_content epoch) sent)
cluts_aside epoch id sent = All-map (IsAside id) (clut_content epoch) sent (λ k d within. (refl, refl))

displays_aside : (script : Script) (id : ℕ) (state : State)
    → All (IsAside id) (map plain (display_segments script state))
displays_aside script id Normal = All-none _
displays_aside script id Acquisition = All-cons (IsAside id) _ [] (refl, refl) (All-none _)
displays_aside script id ModeChange = All-cons (IsAside id) _ [] (refl, refl) (All-none _)

-- a set of the plan, as a region of its epoch sees it
pub region_view : {script : Script} {epoch : Epoch} {set : PlannedSet} {contents : List Content}
    (is : IsReadSet script epoch set contents) (sets : List (List Content)) → AreSentOnce is
    → (id : ℕ) (own : List SentRegion) → HasPart (λ (sent : SentRegion). sent.id) id own set.regions
    → IsRegionView is.names epoch id own is.objects (taken_among (segments_of sets))
    (taken_among (segments_of (contents ∷ sets)))
region_view {script} {epoch} {set} {contents} is sets once id own part =
    record {
      above = kept_cluts ++ kept part.back;
      below = kept part.front ++ last;
      aside_above =
          All-append (IsAside id) kept_cluts (kept part.back)
          (All-filter (keeps taken) (IsAside id) (new_cluts is) (cluts_aside epoch id (reverse is.cluts)))
          (All-filter (keeps taken) (IsAside id) (map content (reverse part.back))
          (others_aside is.names epoch id part.back part.behind));
      aside_below =
          All-append (IsAside id) (kept part.front) last
          (All-filter (keeps taken) (IsAside id) (map content (reverse part.front))
          (others_aside is.names epoch id part.front part.before))
          (All-cons (IsAside id) (page_content script epoch set) (reverse (displays_in script set)) (refl, refl)
          (reversed_all (IsAside id) (displays_in script set) (displays_aside script id set.state)));
      whole =
          taken_now is sets once
          ∙ ap (λ rest. reverse is.objects ++ rest)
          (ap (λ mine. kept_cluts
          ++ (mine ++ (page_content script epoch set ∷ (reverse (displays_in script set) ++ taken))))
          (ap (kept_of content taken) part.whole ∙ parted_kept content taken part.front own part.back)
          ∙ ap (λ rest. kept_cluts ++ rest)
          (append_assoc (kept part.back) (kept own ++ kept part.front) (last ++ taken)
          ∙ ap (λ rest. kept part.back ++ rest)
          (append_assoc (kept own) (kept part.front) (last ++ taken)
          ∙ ap (λ rest. kept own ++ rest) (sym (append_assoc (kept part.front) last taken))))
          ∙ sym (append_assoc kept_cluts (kept part.back) (kept own ++ ((kept part.front ++ last) ++ taken))));
    }
  where
    taken : List Content
    taken = taken_among (segments_of sets)

    content : SentRegion → Content
    content = region_content is.names epoch

    kept : List SentRegion → List Content
    kept sent = kept_of content taken sent

    last : List Content
    last = new_page script epoch set

    kept_cluts : List Content
    kept_cluts = filter (keeps taken) (new_cluts is)
