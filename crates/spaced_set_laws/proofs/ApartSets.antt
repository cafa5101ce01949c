-- Small sets that are shown far apart are spaced, in each profile in which packets are sent.
use Rattle.std.proofs.Common.{◌≡◌, ◌∙◌, ℕ, zero, suc, ◌+◌, ◌*◌, ◌<◌, ◌≤◌, List, [], ◌∷◌, length, map, sum, refl, ap, sym, arith, add-one}
use Rattle.std.specs.Prelude.{slice_index, slice_index_or, All}
use Rattle.std.specs.List.{AllZip}
use Rattle.std.proofs.Math.Nat.{mul-le-mul}
use Rattle.std.proofs.lemmas.List.{get_or-map, length-map}
use Rattle.std.proofs.lemmas.List.Elements.{All-get_or}
use Rattle.std.proofs.lemmas.List.Sums.{sum_by-cons}
use Rattle.sub_base.specs.Pace.{IsSending, pace_of}
use Rattle.sub_base.specs.declared.load.WriteLoad.{WriteLoad}
use Rattle.sub_base.specs.declared.pace.Pace.{Pace}
use Rattle.sub_base.specs.declared.profile.Profile.{Profile}
use Rattle.sub_base.specs.declared.profile.TheConstants.{LONGEST_STEP}
use Rattle.sub_base.proofs.ProfileLaws.{is_profile, is_step}
use Rattle.schedule.specs.declared.fault.ScheduleFault.{ScheduleFault}
use Rattle.schedule.specs.declared.fault.ScheduleFault.TheVariants.{Memory}
use Rattle.schedule.specs.Packets.{no_load, load_of, longest_of, size_of, packets_of, payloads_of}
use Rattle.schedule.specs.Refusals.{IsScheduleCause}
use Rattle.schedule.specs.Slots.{shown_before, IsLoad}
use Rattle.schedule.proofs.PacketLaws.{load_at, packets_before-all, packets_before-more, packets_before-none}
use Rattle.spaced_set_laws.specs.Apart.{IsSmall, AreWellApart}
use Rattle.spaced_set_laws.specs.Spaced.{AreSpaced, ticks_asked}
use Rattle.spaced_set_laws.proofs.SpacedArrival.{not_refused}

-- one unit of at most 2,000 bytes has at most eleven packets
few_packets : (units : List ℕ) → length units ≡ 1 → sum units ≤ 2000 → length (payloads_of units) ≤ 11
few_packets [] one small = absurd (omega arith)
few_packets (size ∷ []) one small =
    omega (
      arith,
      packets_before-all (size ∷ []) 1 (omega arith),
      packets_before-more (size ∷ []) 0 (omega arith),
      packets_before-none (size ∷ []),
      sum_by-cons (λ (x : ℕ). x) size [],
    )
few_packets (size ∷ other ∷ units) one small = absurd (omega arith)

-- what small sets ask at most of a pace
pub record AsksLittle (loads : List WriteLoad) (pace : Pace) (i : ℕ) : Type 0 where
  pub bytes : size_of loads i ≤ 2000
  pub longest : longest_of loads i ≤ 2000
  pub ticks : ticks_asked loads pace i ≤ 10604

-- no small set asks more
little : (loads : List WriteLoad) (pace : Pace) (i : ℕ) → All IsLoad loads → All IsSmall loads
    → pace.step ≤ LONGEST_STEP
    → i < length loads → AsksLittle loads pace i
little loads pace i each small step below =
    let is = load_at loads i each below in
    let one : IsSmall (slice_index_or loads i no_load) = All-get_or IsSmall loads i no_load below small in
    let few = few_packets (slice_index_or loads i no_load).units one.one (omega (arith, one.size, is.size)) in
    let steps : pace.step * (packets_of loads i + 1) ≤ LONGEST_STEP * 12 =
    mul-le-mul {m₂ = 12} step (omega (arith, few)) in
    record {
      bytes = omega (arith, one.size, is.size);
      longest = one.longest;
      ticks = omega (arith, one.size, is.size, one.painted, steps);
    }

-- loads that each have the time of their set have the times of the sets
pub times_of : {A : Type 0} (Has : A → WriteLoad → Type 0) (pts : A → ℕ)
    → ((set : A) (load : WriteLoad) → Has set load → load.load.pts ≡ pts set)
    → (sets : List A) (loads : List WriteLoad)
    → AllZip Has sets loads → map (λ load. load.load.pts) loads ≡ map pts sets
times_of Has pts same [] [] all = refl
times_of Has pts same [] (load ∷ loads) all = absurd all
times_of Has pts same (set ∷ sets) [] all = absurd all
times_of Has pts same (set ∷ sets) (load ∷ loads) all =
    λ i. same set load all.0 i ∷ times_of Has pts same sets loads all.1 i

-- the times are those of the sets
time_at : (loads : List WriteLoad) (times : List ℕ) (i : ℕ) → map (λ load. load.load.pts) loads ≡ times
    → i < length loads → (slice_index times i ≡ (load_of loads i).pts) × (length times ≡ length loads)
time_at loads times i are below =
    let pts : WriteLoad → ℕ = λ load. load.load.pts in
    let here = ap (λ all. slice_index all i) (sym are) ∙ get_or-map pts loads i no_load 0 below in
    (here, ap length (sym are) ∙ length-map loads pts)

-- there are 27,000 ticks between the origin or the time of the set before and that of a set
time_between : (loads : List WriteLoad) (times : List ℕ) (origin i : ℕ)
    → map (λ load. load.load.pts) loads ≡ times
    → AreWellApart origin times → i < length loads
    → (origin + 27000 ≤ (load_of loads i).pts) × (shown_before loads i + 27000 ≤ (load_of loads i).pts)
time_between loads times origin zero are apart below =
    let here = time_at loads times 0 are below in
    let first = apart.first (omega (arith, here.1)) in
    (omega (arith, here.0, first), omega (arith, here.0, first))
time_between loads times origin (suc i) are apart below =
    let before = time_between loads times origin i are apart (omega arith) in
    let here = time_at loads times i are (omega arith) in
    let behind = time_at loads times (suc i) are below in
    let next = apart.next i (omega (arith, here.1)) in
    let same = ap (slice_index times) (add-one i) in
    (omega (arith, before.0, here.0, behind.0, next, same), omega (arith, here.0, behind.0, next, same))

-- small sets that are shown far apart are spaced
pub small_spaced : (loads : List WriteLoad) (times : List ℕ) (pace : Pace) → All IsLoad loads → All IsSmall loads
    → map (λ load. load.load.pts) loads ≡ times → AreWellApart pace.origin times → 1 ≤ pace.step
    → pace.step ≤ LONGEST_STEP
    → 2000 ≤ pace.coded → AreSpaced loads pace
small_spaced loads times pace each small are apart some step coded =
    record {
      step = some;
      fits = λ i below. omega (arith, (little loads pace i each small step below).bytes, coded);
      short = λ i below. omega (arith, (little loads pace i each small step below).longest);
      near = λ i below. omega (arith, (little loads pace i each small step below).ticks);
      gap = λ i below.
          let between = time_between loads times pace.origin i are apart below in
          omega (arith, (little loads pace i each small step below).ticks, between.0, between.1);
    }

-- in a profile in which packets are sent they are spaced
pub spaced_in_profile : (loads : List WriteLoad) (times : List ℕ) (origin : ℕ) (profile : Profile)
    → IsSending profile
    → All IsLoad loads → All IsSmall loads → map (λ load. load.load.pts) loads ≡ times
    → AreWellApart origin times
    → AreSpaced loads (pace_of origin profile)
spaced_in_profile loads times origin profile sending each small are apart =
    let step = is_step profile sending in
    let room = (is_profile profile sending.0.0 sending.0.1).coded.0 in
    small_spaced loads times (pace_of origin profile) each small are apart (omega (arith, step.0)) step.1
    (omega (arith, room))

-- and their schedule is not refused
pub never_refused : (loads : List WriteLoad) (times : List ℕ) (origin : ℕ) (profile : Profile)
    (fault : ScheduleFault)
    → IsSending profile → All IsLoad loads → All IsSmall loads → map (λ load. load.load.pts) loads ≡ times
    → AreWellApart origin times → IsScheduleCause loads (pace_of origin profile) fault → fault ≡ Memory
never_refused loads times origin profile fault sending each small are apart =
    let spaced = spaced_in_profile loads times origin profile sending each small are apart in
    not_refused loads (pace_of origin profile) fault each spaced
