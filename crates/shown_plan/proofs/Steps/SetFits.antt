-- A set of the plan, read, changes the shape of no region that a receiver has of its epoch.
use Rattle.std.proofs.Common.{◌≡◌, ◌∙◌, ℕ, ◌==◌, Bool, true, false, cond, List, [], ◌∷◌, ◌++◌, reverse, get_or, Option, Some, None, refl, sym, ap, subst, arith}
use Rattle.std.specs.Prelude.{All}
use Rattle.std.proofs.lemmas.Bool.Decides.{nat_tests}
use Rattle.std.proofs.lemmas.List.{reverse-append, append_assoc}
use Rattle.std.proofs.lemmas.List.Elements.{All-contains_itself, Contains-append_right}
use Rattle.sub_base.specs.Depth.{bits_of}
use Rattle.stream_syntax.specs.Segments.{SegmentValue, of_page, of_region, of_clut, of_object, of_display, end_of_set, passed_over, Region}
use Rattle.cue_list.specs.declared.epoch.Epoch.{Epoch}
use Rattle.set_coder.specs.SetSegments.{epoch_region as authored_region}
use Rattle.decoder_model.specs.Contents.{region_named, in_order}
use Rattle.decoder_model.specs.Faults.{has_same_shape, changed_from, region_changed, first_fault_by}
use Rattle.decoder_model.specs.Readings.{Content}
use Rattle.decoder_model.specs.Taken.{taken_among, taken_of, taken_region, is_taken, last_region}
use Rattle.decoder_model.specs.declared.set_fault.SetFault.TheVariants.{RegionChanged}
use Rattle.decoder_model.proofs.NoFaults.{no_fault_by}
use Rattle.decoder_model.proofs.TakenLaws.{region_value}
use Rattle.decoder_model.proofs.TakenSets.{taken_all}
use Rattle.shown_plan.proofs.Steps.Keeps.{IsSentRegion, IsSentBy, IsSent}
use Rattle.shown_plan.proofs.Segments.Lists.{all_at}
use Rattle.shown_plan.proofs.Steps.RegionOn.{given_all}

-- ---- sent segments

-- a region segment that is sent
sent_region_value : (epoch : Epoch) (tick id : ℕ) (content : Content) (region : Region)
    → IsSent epoch tick content → region_named id content ≡ Some region → IsSentRegion epoch region
    × (region.head.region ≡ id)
sent_region_value epoch tick id content region sent named =
    let is = region_value id content region named in
    (subst (IsSentBy epoch tick) is.0 sent, is.1)

-- the last region segment of an id among sent ones is sent
pub last_sent : (epoch : Epoch) (tick id : ℕ) (segments : List Content) (last : Region)
    → All (IsSent epoch tick) segments → last_region id segments ≡ Some last → IsSentRegion epoch last
    × (last.head.region ≡ id)
last_sent epoch tick id segments last sent is =
    given_all (region_named id) (λ (region : Region). IsSentRegion epoch region × (region.head.region ≡ id))
    segments last
    (λ k d within region named. sent_region_value epoch tick id (get_or segments k d) region (sent k d within) named)
    is

-- the segments before one of a set, and the older ones, are sent where all are
pub before_sent : (epoch : Epoch) (tick : ℕ) (older front back : List Content) (content : Content)
    (set : List Content) → in_order set ≡ front ++ content ∷ back
    → All (IsSent epoch tick) (reverse (in_order set) ++ older)
    → All (IsSent epoch tick) (reverse front ++ older) × IsSent epoch tick content
before_sent epoch tick older front back content set parts sent = (
  (λ k d within. all_at (IsSent epoch tick) (reverse back ++ (content ∷ (reverse front ++ older)))
      (get_or (reverse front ++ older) k d) turned
      (Contains-append_right (reverse back) (content ∷ (reverse front ++ older)) (get_or (reverse front ++ older) k d)
      (Contains-append_right (content ∷ []) (reverse front ++ older) (get_or (reverse front ++ older) k d)
      (All-contains_itself (reverse front ++ older) k d within)))),
  all_at (IsSent epoch tick) (reverse back ++ (content ∷ (reverse front ++ older))) content turned
      (Contains-append_right (reverse back) (content ∷ (reverse front ++ older)) content (0, omega arith, refl)),
)
  where
    turned : All (IsSent epoch tick) (reverse back ++ (content ∷ (reverse front ++ older)))
    turned = subst (All (IsSent epoch tick))
        (ap (λ all. reverse all ++ older) parts
        ∙ ap (λ all. all ++ older)
        (reverse-append front (content ∷ back)
        ∙ ap (λ all. all ++ reverse front) (reverse-append (content ∷ []) back))
        ∙ append_assoc (reverse back ++ content ∷ []) (reverse front) older
        ∙ append_assoc (reverse back) (content ∷ []) (reverse front ++ older)) sent

-- ---- no region changes

pub same_shape : (epoch : Epoch) (a b : Region) (id : ℕ) → IsSentRegion epoch a → IsSentRegion epoch b
    → a.head.region ≡ id → b.head.region ≡ id → has_same_shape a.head b.head ≡ true
same_shape epoch a b id sa sb ia ib =
    let width : a.head.width ≡ b.head.width =
    sa.width ∙ ap (λ (n : ℕ). (authored_region epoch n).width) (ia ∙ sym ib) ∙ sym sb.width in
    let height : a.head.height ≡ b.head.height =
    sa.height ∙ ap (λ (n : ℕ). (authored_region epoch n).height) (ia ∙ sym ib) ∙ sym sb.height in
    let depth : bits_of a.head.depth ≡ bits_of b.head.depth =
    ap bits_of (sa.depth ∙ ap (λ (n : ℕ). (authored_region epoch n).depth) (ia ∙ sym ib) ∙ sym sb.depth) in
    let one : (a.head.width == b.head.width) ≡ true = grind (arith, nat_tests) in
    let two : (a.head.height == b.head.height) ≡ true = grind (arith, nat_tests) in
    let three : (bits_of a.head.depth == bits_of b.head.depth) ≡ true = grind (arith, nat_tests) in
    rw (one, two, three) refl

none_changed : (epoch : Epoch) (tick : ℕ) (earlier : List Content) (content : Content)
    → All (IsSent epoch tick) earlier → IsSent epoch tick content → region_changed earlier content ≡ None
none_changed epoch tick earlier content sent own = by content.value refl own
  where
    shape : (region : Region) (last : Option Region) → IsSentRegion epoch region
        → taken_region region.head.region (taken_of earlier) ≡ last → changed_from region last ≡ None
    shape region None mine known = refl
    shape region (Some last) mine known =
        (let there = last_sent epoch tick region.head.region (taken_among earlier) last
        (taken_all (IsSent epoch tick) earlier sent) known in
        ap (λ b. cond b None (Some (RegionChanged region.head.region)))
        (same_shape epoch region last region.head.region mine there.0 refl there.1))

    in_region : (region : Region) (b : Bool) → IsSentRegion epoch region
        → cond b (changed_from region (taken_region region.head.region (taken_of earlier))) None ≡ None
    in_region region true mine = shape region (taken_region region.head.region (taken_of earlier)) mine refl
    in_region region false mine = refl

    Stays : Type 0
    Stays = region_changed earlier content ≡ None

    by : (value : SegmentValue) → content.value ≡ value → IsSentBy epoch tick value → Stays
    by value e own =
        elim value as (λ v. content.value ≡ v → IsSentBy epoch tick v → Stays) [
          | of_page v ↦ λ e own. rw e refl
          | of_region v ↦ λ e own. rw e (in_region v (is_taken earlier (of_region v)) own)
          | of_clut v ↦ λ e own. rw e refl
          | of_object v ↦ λ e own. rw e refl
          | of_display v ↦ λ e own. rw e refl
          | end_of_set ↦ λ e own. rw e refl
          | passed_over ↦ λ e own. rw e refl
        ] e own

-- no region segment of the set changes its region
pub shapes_stay : (epoch : Epoch) (tick : ℕ) (older set : List Content)
    → All (IsSent epoch tick) (reverse (in_order set) ++ older) → first_fault_by region_changed older set ≡ None
shapes_stay epoch tick older set sent =
    no_fault_by region_changed older set (λ front back content parts.
    (let both = before_sent epoch tick older front back content set parts sent in none_changed epoch tick
    (reverse front ++ older) content both.0 both.1))
