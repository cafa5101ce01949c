-- The sizes of a set's segments are one list, and so are the lengths of its units, its size, its longest segment and
-- its load.
use Rattle.std.proofs.Common.{◌≡◌, ℕ, ◌≤◌, eqb, Bool, true, false, List, [], ◌∷◌, ◌++◌, map, Some, sum, refl, sym, ap, subst, ◌∙◌, arith}
use Rattle.std.specs.Prelude.{All, sum_by, ◌||◌}
use Rattle.std.specs.List.{list_any}
use Rattle.std.proofs.lemmas.Bool.{eqb-true}
use Rattle.std.proofs.lemmas.List.Elements.{All-head, All-tail}
use Rattle.sub_base.specs.Picture.{Picture}
use Rattle.sub_base.specs.declared.load.WriteLoad.{WriteLoad}
use Rattle.pes_packets.specs.Units.{IsSharedOut, unit_length}
use Rattle.pes_packets.proofs.OneSharing.{units_same}
use Rattle.cue_list.specs.declared.epoch.Epoch.{Epoch}
use Rattle.cue_list.specs.declared.script.Script.{Script}
use Rattle.page_epoch.specs.declared.planned_set.PlannedSet.{PlannedSet}
use Rattle.segments.specs.Sizes.{object_size}
use Rattle.set_coder.specs.SetSegments.{picture_of_cue, depth_of_cue}
use Rattle.set_coder.specs.SetSizes.{leading_sizes, sent_painting, IsObjectSize, AreObjectSizes, AreSegmentSizes, AreUnitSizes, IsSetSize, IsLongestSegment, IsPaintedIn, IsSetLoad}
use Rattle.picture_fields.proofs.FieldLaws.{one_sizes}

one_object_size : (pictures : List Picture) (epoch : Epoch) (place size other : ℕ)
    → IsObjectSize pictures epoch place size → IsObjectSize pictures epoch place other → size ≡ other
one_object_size pictures epoch place size other p q =
    let same = one_sizes (picture_of_cue pictures epoch place) (depth_of_cue epoch place) p.0 p.1 q.0 q.1 p.2 q.2 in
    p.3 ∙ ap (λ (n : ℕ). object_size n p.1) same.0 ∙ ap (object_size q.0) same.1 ∙ sym q.3

pub one_object_sizes : (pictures : List Picture) (epoch : Epoch) (places sizes others : List ℕ)
    → AreObjectSizes pictures epoch places sizes → AreObjectSizes pictures epoch places others → sizes ≡ others
one_object_sizes pictures epoch [] [] [] p q = refl
one_object_sizes pictures epoch [] [] (y ∷ others) p q = absurd q
one_object_sizes pictures epoch [] (x ∷ sizes) others p q = absurd p
one_object_sizes pictures epoch (place ∷ places) [] others p q = absurd p
one_object_sizes pictures epoch (place ∷ places) (x ∷ sizes) [] p q = absurd q
one_object_sizes pictures epoch (place ∷ places) (x ∷ sizes) (y ∷ others) p q =
    ap (λ (n : ℕ). n ∷ sizes) (one_object_size pictures epoch place x y p.0 q.0)
    ∙ ap (λ (ns : List ℕ). y ∷ ns) (one_object_sizes pictures epoch places sizes others p.1 q.1)

-- an epoch that is found is one
pub one_epoch : (found other : Epoch) → Some found ≡ Some other → found ≡ other
one_epoch found other e = cc

pub one_segment_sizes : (script : Script) (set : PlannedSet) (sizes others : List ℕ)
    → AreSegmentSizes script set sizes → AreSegmentSizes script set others → sizes ≡ others
one_segment_sizes script set sizes others p q =
    let same : p.epoch ≡ q.epoch = one_epoch p.epoch q.epoch (sym p.found ∙ q.found) in
    let objects =
    one_object_sizes script.pictures q.epoch set.cues p.objects q.objects
    (subst (λ (epoch : Epoch). AreObjectSizes script.pictures epoch set.cues p.objects) same p.coded) q.coded in
    p.whole ∙ ap (λ (ns : List ℕ). leading_sizes set ++ (ns ++ 6 ∷ [])) objects ∙ sym q.whole

pub one_unit_sizes : (script : Script) (set : PlannedSet) (lengths others : List ℕ)
    → AreUnitSizes script set lengths → AreUnitSizes script set others → lengths ≡ others
one_unit_sizes script set lengths others p q =
    let sizes = one_segment_sizes script set p.sizes q.sizes p.segments q.segments in
    let units =
    units_same (λ bytes. bytes) q.sizes p.units q.units
    (subst (λ (ns : List ℕ). IsSharedOut (λ bytes. bytes) ns p.units) sizes p.shared) q.shared in
    p.are ∙ ap (map (unit_length (λ bytes. bytes))) units ∙ sym q.are

pub one_set_size : (script : Script) (set : PlannedSet) (size other : ℕ) → IsSetSize script set size
    → IsSetSize script set other → size ≡ other
one_set_size script set size other p q =
    p.whole ∙ ap sum (one_unit_sizes script set p.lengths q.lengths p.sized q.sized) ∙ sym q.whole

-- one of the items is at most as large as all of them are
one_of : (sizes : List ℕ) (one most : ℕ) → list_any (λ size. eqb size one) sizes ≡ true
    → All (λ size. size ≤ most) sizes → one ≤ most
one_of [] one most e all = absurd (let f : false ≡ true = e in cc)
one_of (size ∷ sizes) one most e all = by (one_of sizes one most) (eqb size one) refl e
  where
    by : (list_any (λ size. eqb size one) sizes ≡ true → All (λ size. size ≤ most) sizes → one ≤ most)
        → (b : Bool) → eqb size one ≡ b → b || list_any (λ size. eqb size one) sizes ≡ true → one ≤ most
    by more true here e = omega (arith, eqb-true size one here, All-head (λ (n : ℕ). n ≤ most) size sizes all)
    by more false here e = more e (All-tail (λ (n : ℕ). n ≤ most) size sizes all)

pub one_longest : (script : Script) (set : PlannedSet) (longest other : ℕ) → IsLongestSegment script set longest
    → IsLongestSegment script set other → longest ≡ other
one_longest script set longest other p q =
    let sizes = one_segment_sizes script set p.sizes q.sizes p.segments q.segments in
    let left =
    one_of q.sizes longest other
    (subst (λ (ns : List ℕ). list_any (λ size. eqb size longest) ns ≡ true) sizes p.one) q.greatest in
    let right = one_of q.sizes other longest q.one (subst (All (λ size. size ≤ longest)) sizes p.greatest) in
    omega (arith, left, right)

one_painted : (script : Script) (set : PlannedSet) (painted other : ℕ) → IsPaintedIn script set painted
    → IsPaintedIn script set other → painted ≡ other
one_painted script set painted other p q =
    p.sum ∙ ap (λ (epoch : Epoch). sum_by (sent_painting epoch) set.regions)
    (one_epoch p.epoch q.epoch (sym p.found ∙ q.found)) ∙ sym q.sum

pub one_load : (script : Script) (set : PlannedSet) (load other : WriteLoad) → IsSetLoad script set load
    → IsSetLoad script set other → load ≡ other
one_load script set load other p q =
    let time = p.time ∙ sym q.time in
    let units = one_unit_sizes script set load.units other.units p.units q.units in
    let size = p.size ∙ ap sum units ∙ sym q.size in
    let painted = one_painted script set load.load.painted other.load.painted p.painted q.painted in
    let longest = one_longest script set load.longest other.longest p.longest q.longest in
    λ i. record {
      load = record { pts = time i; size = size i; painted = painted i };
      longest = longest i;
      units = units i;
    }
