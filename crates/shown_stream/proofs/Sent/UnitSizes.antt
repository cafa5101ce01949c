-- The PES packets of sets that are on time are no longer than a length of 16 bits tells.
use Rattle.std.proofs.Common.{◌≡◌, ℕ, suc, ◌<◌, ◌≤◌, inl, inr, List, [], ◌∷◌, ◌++◌, length, map, sym, subst, arith}
use Rattle.std.specs.Prelude.{flat_map}
use Rattle.std.specs.List.{AllByRecursion}
use Rattle.std.proofs.lemmas.List.Elements.{recursion_from_All}
use Rattle.std.proofs.lemmas.List.Sums.{sum_by-cons}
use Rattle.sub_base.specs.declared.load.TheConstants.{UNIT_ROOM}
use Rattle.sub_base.specs.declared.load.WriteLoad.{WriteLoad}
use Rattle.pes_packets.specs.Units.{IsOneUnit, AreUnits, unit_length}
use Rattle.cue_list.specs.declared.script.Script.{Script}
use Rattle.page_epoch.specs.declared.planned_set.PlannedSet.{PlannedSet}
use Rattle.schedule.specs.Packets.{longest_of}
use Rattle.set_coder.proofs.SetSizeLaws.{one_segment_sizes}
use Rattle.set_coder.specs.SetSizes.{IsSetLoad}
use Rattle.sent_sets.proofs.RawUnits.{AreShort}
use Rattle.shown_stream.specs.Compiled.{AreLoads}
use Rattle.sent_sets.specs.SentStream.{AreSizedAs}

-- ---- units

abbrev Fits : ℕ → List ℕ → Type 0
Fits most sizes = AllByRecursion (λ size. size ≤ most) sizes

fits_more : (least most : ℕ) (sizes : List ℕ) → least ≤ most → Fits least sizes → Fits most sizes
fits_more least most [] le h = tt
fits_more least most (size ∷ sizes) le h = let first = h.0 in (omega arith, fits_more least most sizes le h.1)

two_parts : (most : ℕ) (xs ys : List ℕ) → Fits most (xs ++ ys) → Fits most xs × Fits most ys
two_parts most [] ys h = (tt, h)
two_parts most (x ∷ xs) ys h = let more = two_parts most xs ys h.1 in ((h.0, more.0), more.1)

one_unit : (unit : List ℕ) → Fits UNIT_ROOM unit → IsOneUnit (λ bytes. bytes) unit
    → unit_length (λ bytes. bytes) unit ≤ 65541
one_unit [] fits one = absurd (omega (arith, one.0))
one_unit (size ∷ []) fits one = omega (arith, fits.0, sum_by-cons (λ (bytes : ℕ). bytes) size [])
one_unit (size ∷ next ∷ unit) fits one =
    elim one.1 [
      | inl single ↦ absurd (omega (arith, single))
      | inr small ↦ omega (arith, small)
    ]

all_units_fit : (units : List (List ℕ)) → Fits UNIT_ROOM (flat_map (λ unit. unit) units)
    → AreUnits (λ bytes. bytes) units → Fits 65541 (map (unit_length (λ bytes. bytes)) units)
all_units_fit [] fits are = tt
all_units_fit (unit ∷ units) fits are =
    let parts =
    two_parts UNIT_ROOM unit (flat_map (λ unit. unit) units) fits in
    (one_unit unit parts.0 are.0, all_units_fit units parts.1 are.2)

-- where each segment of a set has room in a PES packet, each of its PES packets has a length that can be told
load_fits : (script : Script) (set : PlannedSet) (load : WriteLoad) → IsSetLoad script set load
    → load.longest ≤ UNIT_ROOM → Fits 65541 load.units
load_fits script set load is short =
    let sizes = is.units.sizes in
    let longest = is.longest in
    let same : longest.sizes ≡ sizes =
    one_segment_sizes script set longest.sizes sizes longest.segments is.units.segments in
    let least : Fits load.longest sizes =
    subst (Fits load.longest) same
    (recursion_from_All (λ size. size ≤ load.longest) longest.sizes longest.greatest) in
    let fit : Fits UNIT_ROOM (flat_map (λ unit. unit) is.units.units) =
    subst (Fits UNIT_ROOM) (sym is.units.shared.whole) (fits_more load.longest UNIT_ROOM sizes short least) in
    subst (Fits 65541) (sym is.units.are) (all_units_fit is.units.units fit is.units.shared.each)

of_lengths : (packets : List (List ℕ)) → Fits 65541 (map length packets) → AreShort packets
of_lengths [] h = tt
of_lengths (packet ∷ packets) h = (h.0, of_lengths packets h.1)

-- the PES packets of each set are
pub all_short : (script : Script) (sets : List PlannedSet) (loads : List WriteLoad) (units : List (List (List ℕ)))
    → AreLoads script sets loads → AreSizedAs loads units
    → ((i : ℕ) → i < length loads → longest_of loads i ≤ UNIT_ROOM) → AllByRecursion AreShort units
all_short script sets loads [] asked sized short = tt
all_short script sets [] (packets ∷ units) asked sized short = absurd sized
all_short script [] (load ∷ loads) (packets ∷ units) asked sized short = absurd asked
all_short script (set ∷ sets) (load ∷ loads) (packets ∷ units) asked sized short = (
  of_lengths packets (subst (Fits 65541) (sym sized.0) (load_fits script set load asked.0 (short 0 (omega arith)))),
  all_short script sets loads units asked.1 sized.1 (λ i within. short (suc i) (omega arith)),
)
