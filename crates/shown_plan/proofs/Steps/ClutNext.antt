-- Each CLUT of an epoch behind one set of the plan more: its version, and the colours of its entries.
use Rattle.std.proofs.Common.{◌≡◌, ◌≢◌, ◌∙◌, ℕ, Bool, true, false, cond, eqb, List, [], ◌∷◌, ◌++◌, map, filter, reverse, get_or, Option, Some, None, refl, sym, ap, arith}
use Rattle.std.specs.Prelude.{All}
use Rattle.std.specs.Option.{option_or, option_and_then}
use Rattle.std.proofs.lemmas.Bool.Decides.{nat_tests}
use Rattle.std.proofs.lemmas.List.{append_assoc}
use Rattle.std.proofs.lemmas.List.Elements.{All-cons, All-append, All-map, All-filter}
use Rattle.sub_base.specs.Lists.{first_given, last_given}
use Rattle.sub_base.specs.declared.depth.Depth.{Depth}
use Rattle.stream_syntax.specs.Segments.{Clut}
use Rattle.stream_syntax.specs.declared.page.State.{State}
use Rattle.stream_syntax.specs.declared.page.State.TheVariants.{Normal, Acquisition, ModeChange}
use Rattle.cue_list.specs.declared.epoch.Epoch.{Epoch}
use Rattle.cue_list.specs.declared.script.Script.{Script}
use Rattle.page_epoch.proofs.ListLaws.{All-none}
use Rattle.page_epoch.specs.declared.planned_set.PlannedSet.{PlannedSet}
use Rattle.page_epoch.specs.declared.planned_set.SentClut.{SentClut}
use Rattle.page_epoch.specs.declared.planned_set.SentRegion.{SentRegion}
use Rattle.set_coder.specs.SetSegments.{display_segments, clut_entry_of}
use Rattle.decoder_model.specs.Contents.{clut_named}
use Rattle.decoder_model.specs.Ink.{colour_by_entry, colour_by_clut, colour_by_segment}
use Rattle.decoder_model.specs.Readings.{Content}
use Rattle.decoder_model.specs.Taken.{segments_of, taken_among, has_new_version, version_of_clut, last_clut}
use Rattle.decoder_model.proofs.Searches.{first_given-append, first_given-all_none}
use Rattle.shown_plan.specs.NamedSets.{Names}
use Rattle.shown_plan.proofs.Segments.Ordered.{displays_in, page_content, region_content, clut_content}
use Rattle.shown_plan.proofs.Segments.Parts.{HasPart}
use Rattle.shown_plan.proofs.Segments.ReadSets.{plain, IsObject, IsReadSet, objects_of}
use Rattle.shown_plan.proofs.Segments.SetView.{keeps, reversed_all, new_regions, new_page, AreSentOnce, kept_of, parted_kept, taken_now}

-- ---- a set, as a CLUT sees it

-- what is taken now: the CLUT's own segment where it is taken, between segments that are none of it
pub record IsClutView (epoch : Epoch) (id : ℕ) (own : List SentClut) (taken now : List Content) : Type 0 where
  pub above : List Content
  pub below : List Content
  pub aside_above : All (λ c. clut_named id c ≡ None) above
  pub aside_below : All (λ c. clut_named id c ≡ None) below
  pub whole : now ≡ above ++ (kept_of (clut_content epoch) taken own ++ (below ++ taken))

abbrev NoClut : ℕ → Content → Type 0
NoClut id content = clut_named id content ≡ None

other_clut : (epoch : Epoch) (id : ℕ) (sent : SentClut) → sent.clut ≢ id → NoClut id (clut_content epoch sent)
other_clut epoch id sent other = let differs : eqb sent.clut id ≡ false = grind (arith, nat_tests) in rw differs refl

others_aside : (epoch : Epoch) (id : ℕ) (sent : List SentClut) → All (λ (one : SentClut). one.clut ≢ id) sent
    → All (NoClut id) (map (clut_content epoch) (reverse sent))
others_aside epoch id sent other =
    All-map (NoClut id) (clut_content epoch) (reverse sent)
    (λ k d within. other_clut epoch id (get_or (reverse sent) k d)
    (reversed_all (λ (one : SentClut). one.clut ≢ id) sent other k d within))

regions_aside : (names : Names) (epoch : Epoch) (id : ℕ) (sent : List SentRegion)
    → All (NoClut id) (map (region_content names epoch) sent)
regions_aside names epoch id sent = All-map (NoClut id) (region_content names epoch) sent (λ k d within. refl)

displays_aside : (script : Script) (id : ℕ) (state : State)
    → All (NoClut id) (map plain (display_segments script state))
displays_aside script id Normal = All-none _
displays_aside script id Acquisition = All-cons (NoClut id) _ [] refl (All-none _)
displays_aside script id ModeChange = All-cons (NoClut id) _ [] refl (All-none _)

objects_aside : (id : ℕ) (objects : List Content) → All IsObject objects → All (NoClut id) objects
objects_aside id objects all = λ k d within. (let object = all k d within in rw object.is refl)

pub clut_view : {script : Script} {epoch : Epoch} {set : PlannedSet} {contents : List Content}
    (is : IsReadSet script epoch set contents) (sets : List (List Content)) → AreSentOnce is
    → (id : ℕ) (own : List SentClut) → HasPart (λ (sent : SentClut). sent.clut) id own is.cluts
    → IsClutView epoch id own (taken_among (segments_of sets)) (taken_among (segments_of (contents ∷ sets)))
clut_view {script} {epoch} {set} {contents} is sets once id own part =
    record {
      above = reverse is.objects ++ kept part.back;
      below = kept part.front ++ (kept_regions ++ last);
      aside_above =
          All-append (NoClut id) (reverse is.objects) (kept part.back)
          (reversed_all (NoClut id) is.objects (objects_aside id is.objects (objects_of is)))
          (All-filter (keeps taken) (NoClut id) (map (clut_content epoch) (reverse part.back))
          (others_aside epoch id part.back part.behind));
      aside_below =
          All-append (NoClut id) (kept part.front) (kept_regions ++ last)
          (All-filter (keeps taken) (NoClut id) (map (clut_content epoch) (reverse part.front))
          (others_aside epoch id part.front part.before))
          (All-append (NoClut id) kept_regions last
          (All-filter (keeps taken) (NoClut id) (new_regions is)
          (regions_aside is.names epoch id (reverse set.regions)))
          (All-cons (NoClut id) (page_content script epoch set) (reverse (displays_in script set)) refl
          (reversed_all (NoClut id) (displays_in script set) (displays_aside script id set.state))));
      whole =
          taken_now is sets once
          ∙ ap (λ rest. reverse is.objects ++ rest)
          (ap (λ mine. mine ++ (kept_regions ++ (last ++ taken)))
          (ap (kept_of (clut_content epoch) taken) part.whole
          ∙ parted_kept (clut_content epoch) taken part.front own part.back)
          ∙ append_assoc (kept part.back) (kept own ++ kept part.front) (kept_regions ++ (last ++ taken))
          ∙ ap (λ rest. kept part.back ++ rest)
          (append_assoc (kept own) (kept part.front) (kept_regions ++ (last ++ taken))
          ∙ ap (λ rest. kept own ++ rest)
          (ap (λ rest. kept part.front ++ rest) (sym (append_assoc kept_regions last taken))
          ∙ sym (append_assoc (kept part.front) (kept_regions ++ last) taken))))
          ∙ sym (append_assoc (reverse is.objects) (kept part.back)
          (kept own ++ ((kept part.front ++ (kept_regions ++ last)) ++ taken)));
    }
  where
    taken : List Content
    taken = taken_among (segments_of sets)

    kept : List SentClut → List Content
    kept sent = kept_of (clut_content epoch) taken sent

    last : List Content
    last = new_page script epoch set

    kept_regions : List Content
    kept_regions = filter (keeps taken) (new_regions is)

-- ---- a CLUT whose segment is taken or not

-- what the segment of a CLUT that is sent stands for
abbrev pub sent_clut_value : Epoch → SentClut → Clut
sent_clut_value epoch sent =
    record { clut = sent.clut; version = sent.version; entries = map (clut_entry_of epoch) sent.rows }

itself : (epoch : Epoch) (sent : SentClut)
    → clut_named sent.clut (clut_content epoch sent) ≡ Some (sent_clut_value epoch sent)
itself epoch sent =
    ap (λ b. cond b (Some (sent_clut_value epoch sent)) None)
    (let mine : eqb sent.clut sent.clut ≡ true = grind (arith, nat_tests) in mine)

colours_aside : (id : ℕ) (depth : Depth) (number : ℕ) (xs : List Content) → All (NoClut id) xs
    → first_given (colour_by_segment id depth number) xs ≡ None
colours_aside id depth number xs aside =
    first_given-all_none (colour_by_segment id depth number) xs
    (λ k d within. ap (option_and_then (colour_by_clut depth number)) (aside k d within))

-- where no segment of the CLUT is taken, all stays
pub untaken : (epoch : Epoch) (id : ℕ) (own : List SentClut) (taken now : List Content)
    (view : IsClutView epoch id own taken now) → filter (keeps taken) (map (clut_content epoch) (reverse own)) ≡ []
    → (last_clut id now ≡ last_clut id taken)
    × ((depth : Depth) (number : ℕ)
    → first_given (colour_by_segment id depth number) now
    ≡ first_given (colour_by_segment id depth number) taken)
untaken epoch id own taken now view none = (
  found (clut_named id) view.aside_above view.aside_below,
  λ depth number. found (colour_by_segment id depth number)
      (each depth number view.above view.aside_above) (each depth number view.below view.aside_below),
)
  where
    whole : now ≡ view.above ++ (view.below ++ taken)
    whole = view.whole ∙ ap (λ mine. view.above ++ (mine ++ (view.below ++ taken))) none

    each : (depth : Depth) (number : ℕ) (xs : List Content) → All (NoClut id) xs
        → All (λ c. colour_by_segment id depth number c ≡ None) xs
    each depth number xs aside = λ k d within. ap (option_and_then (colour_by_clut depth number)) (aside k d within)

    found : {X : Type 0} (f : Content → Option X) → All (λ c. f c ≡ None) view.above
        → All (λ c. f c ≡ None) view.below → first_given f now ≡ first_given f taken
    found f above below =
        ap (first_given f) whole ∙ first_given-append f view.above (view.below ++ taken)
        ∙ ap (λ found. option_or found (first_given f (view.below ++ taken)))
        (first_given-all_none f view.above above)
        ∙ first_given-append f view.below taken
        ∙ ap (λ found. option_or found (first_given f taken)) (first_given-all_none f view.below below)

-- where its segment is taken, it is the last one, and its entries come first
pub taken_clut : (epoch : Epoch) (sent : SentClut) (own : List SentClut) (taken now : List Content)
    (view : IsClutView epoch sent.clut own taken now)
    → filter (keeps taken) (map (clut_content epoch) (reverse own)) ≡ clut_content epoch sent ∷ []
    → (last_clut sent.clut now ≡ Some (sent_clut_value epoch sent))
    × ((depth : Depth) (number : ℕ) → first_given (colour_by_segment sent.clut depth number) now
    ≡ option_or (last_given (colour_by_entry depth number) (map (clut_entry_of epoch) sent.rows))
    (first_given (colour_by_segment sent.clut depth number) taken))
taken_clut epoch sent own taken now view one = (
  found (clut_named sent.clut) view.aside_above
      ∙ ap (λ found. option_or found (last_clut sent.clut (view.below ++ taken))) (itself epoch sent),
  λ depth number.
      found (colour_by_segment sent.clut depth number) (each depth number view.above view.aside_above)
      ∙ ap (λ named. option_or (option_and_then (colour_by_clut depth number) named)
      (first_given (colour_by_segment sent.clut depth number) (view.below ++ taken))) (itself epoch sent)
      ∙ ap (option_or (last_given (colour_by_entry depth number) (map (clut_entry_of epoch) sent.rows)))
      (first_given-append (colour_by_segment sent.clut depth number) view.below taken
      ∙ ap (λ found. option_or found (first_given (colour_by_segment sent.clut depth number) taken))
      (first_given-all_none (colour_by_segment sent.clut depth number) view.below
      (each depth number view.below view.aside_below))),
)
  where
    whole : now ≡ view.above ++ (clut_content epoch sent ∷ (view.below ++ taken))
    whole = view.whole ∙ ap (λ mine. view.above ++ (mine ++ (view.below ++ taken))) one

    each : (depth : Depth) (number : ℕ) (xs : List Content) → All (NoClut sent.clut) xs
        → All (λ c. colour_by_segment sent.clut depth number c ≡ None) xs
    each depth number xs aside = λ k d within. ap (option_and_then (colour_by_clut depth number)) (aside k d within)

    found : {X : Type 0} (f : Content → Option X) → All (λ c. f c ≡ None) view.above
        → first_given f now ≡ option_or (f (clut_content epoch sent)) (first_given f (view.below ++ taken))
    found f above =
        ap (first_given f) whole ∙ first_given-append f view.above (clut_content epoch sent ∷ (view.below ++ taken))
        ∙ ap (λ found. option_or found (first_given f (clut_content epoch sent ∷ (view.below ++ taken))))
        (first_given-all_none f view.above above)

-- a segment that a set sends is taken or held by its version
pub own_kept : (epoch : Epoch) (taken : List Content) (sent : SentClut) (b : Bool)
    → has_new_version sent.version (version_of_clut (last_clut sent.clut taken)) ≡ b
    → filter (keeps taken) (map (clut_content epoch) (reverse (sent ∷ [])))
    ≡ cond b (clut_content epoch sent ∷ []) []
own_kept epoch taken sent b new = ap (λ b. cond b (clut_content epoch sent ∷ []) []) new
