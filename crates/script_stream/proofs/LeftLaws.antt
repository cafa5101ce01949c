-- The packets that are kept of the sets behind the first ones are those that are left of the whole stream, though the
-- first sets are not coded.
use Rattle.std.proofs.Common.{◌≡◌, ◌∙◌, refl, sym, ap, subst, ℕ, zero, suc, ◌-◌, ◌*◌, ◌<◌, ◌≤◌, ◌^◌, List, [], ◌∷◌, length, drop, get_or, All, arith}
use Rattle.std.specs.List.{AllZip}
use Rattle.cue_list.specs.declared.script.Script.{Script}
use Rattle.page_epoch.specs.declared.planned_set.PlannedSet.{PlannedSet}
use Rattle.schedule.specs.Packets.{first_packet}
use Rattle.schedule.specs.Slots.{Timetable}
use Rattle.sent_sets.proofs.PacketCounts.{count_pieces}
use Rattle.set_coder.specs.SetSegments.{AreSetPackets}
use Rattle.set_coder.specs.SetSizes.{IsSetLoad}
use Rattle.set_coder.proofs.OnePackets.{one_packets}
use Rattle.shown_stream.specs.Compiled.{AreLoads, AreUnitsOfSets, all_units}
use Rattle.slot_stream.specs.KeptPackets.{HaveRisingSlots, SlottedPackets, numbered, packets_from}
use Rattle.slot_stream.specs.SlotStream.{IsPiece, Piece, all_pieces, slot_count}
use Rattle.slot_stream.proofs.FrontPackets.{all_are_pieces, length-before}
use Rattle.slot_stream.proofs.KeptLaws.{left_of}
use Rattle.sub_base.specs.declared.load.WriteLoad.{WriteLoad}
use Rattle.script_stream.proofs.BehindLaws.{left_behind, left_kept, packets_behind, pieces_behind}
use Rattle.script_stream.proofs.SomePackets.{some_units}
use Rattle.script_stream.proofs.UnitLaws.{AllZip-length, sized_as, written_cut}
use Rattle.script_stream.specs.Private.SetUnits.{AreCut, AreWritten}
use Rattle.script_stream.specs.Private.Timing.{AreFirst, AreKeptOf, AreLeftOf, AreReady}
use Rattle.script_stream.specs.declared.left.PacketsLeft.{PacketsLeft}

-- ---- sets behind the first ones

AllZip-drop : {A B : Type 0} (R : A → B → Type 0) (n : ℕ) (xs : List A) (ys : List B) → AllZip R xs ys
    → AllZip R (drop n xs) (drop n ys)
AllZip-drop R zero xs ys all = all
AllZip-drop R (suc n) [] [] all = tt
AllZip-drop R (suc n) [] (y ∷ ys) all = absurd all
AllZip-drop R (suc n) (x ∷ xs) [] all = absurd all
AllZip-drop R (suc n) (x ∷ xs) (y ∷ ys) all = AllZip-drop R n xs ys all.1

-- the PES packets of sets are one list for each
one_units : (script : Script) (page : ℕ) (sets : List PlannedSet) (units others : List (List (List ℕ)))
    → AreUnitsOfSets script page sets units → AreUnitsOfSets script page sets others → units ≡ others
one_units script page [] [] [] first second = refl
one_units script page [] [] (other ∷ others) first second = absurd second
one_units script page [] (own ∷ units) others first second = absurd first
one_units script page (set ∷ sets) [] others first second = absurd first
one_units script page (set ∷ sets) (own ∷ units) [] first second = absurd second
one_units script page (set ∷ sets) (own ∷ units) (other ∷ others) first second =
    let here : own ≡ other = one_packets script page set own other first.0 second.0 in
    let more : units ≡ others = one_units script page sets units others first.1 second.1 in
    λ i. here i ∷ more i

-- what is written of the sets behind the first ones is cut by their loads
pub behind_cut : (script : Script) (page f : ℕ) (sets given : List PlannedSet) (loads lent : List WriteLoad)
    (written seen : List (List ℕ)) → AreLoads script sets loads → given ≡ drop f sets → lent ≡ drop f loads
    → seen ≡ written → ((units : List (List (List ℕ))) × AreWritten script page given written units)
    → (units : List (List (List ℕ))) × AreUnitsOfSets script page (drop f sets) units × AreCut lent seen units
behind_cut script page f sets given loads lent written seen asked given_is lent_is seen_is own =
    let units = own.0 in
    let are : AreWritten script page (drop f sets) written units =
    subst (λ (s : List PlannedSet). AreWritten script page s written units) given_is own.1 in
    let cut : AreCut (drop f loads) written units =
    written_cut script page (drop f sets) (drop f loads) written units
    (AllZip-drop (IsSetLoad script) f sets loads asked) are in (
      units,
      are.carried,
      subst (λ (l : List WriteLoad). AreCut l seen units) (sym lent_is)
          (subst (λ (w : List (List ℕ)). AreCut (drop f loads) w units) (sym seen_is) cut),
    )

-- they have as many packets as slots are left
pub behind_many : (loads lent : List WriteLoad) (slots : List ℕ) (f n : ℕ) → lent ≡ drop f loads
    → AreFirst loads f n → length slots ≡ first_packet loads (length loads)
    → length (drop n slots) ≡ first_packet lent (length lent)
behind_many loads lent slots f n is first packets =
    ap (λ (k : ℕ). length (drop k slots)) first.packets_are
    ∙ (packets_behind loads slots f first.among packets).1
    ∙ ap (λ (l : List WriteLoad). first_packet l (length l)) (sym is)

-- the first of the loads that are lent are the first of the loads
pub first_of : (loads lent : List WriteLoad) (f n : ℕ) → lent ≡ loads → AreFirst lent f n → AreFirst loads f n
first_of loads lent f n is first = subst (λ (l : List WriteLoad). AreFirst l f n) is first

-- the first sets and their packets are among all
pub first_among : (script : Script) (sets given : List PlannedSet) (loads : List WriteLoad) (slots all : List ℕ)
    (f n : ℕ) → AreLoads script sets loads → AreFirst loads f n → length slots ≡ first_packet loads (length loads)
    → given ≡ sets → all ≡ slots → (f ≤ length given) × (n ≤ length all)
first_among script sets given loads slots all f n asked first packets given_is all_is = (
  omega (arith, first.among, AllZip-length (IsSetLoad script) sets loads asked, ap length given_is),
  omega (arith, first.packets_are, (packets_behind loads slots f first.among packets).0, ap length all_is),
)

-- what is made of their pieces are their packets
pub kept_are : (script : Script) (pid page n : ℕ) (sets : List PlannedSet) (units : List (List (List ℕ)))
    (slots given : List ℕ) (pieces lent : List Piece) (kept : SlottedPackets) → AreUnitsOfSets script page sets units
    → given ≡ slots → lent ≡ pieces → pieces ≡ all_pieces (all_units units)
    → kept ≡ record { slots = given; packets = numbered pid n lent }
    → AreKeptOf script pid page n sets slots kept
kept_are script pid page n sets units slots given pieces lent kept carried given_is lent_is are is = record {
  units = units;
  carried = carried;
  slots_are = ap (λ (k : SlottedPackets). k.slots) is ∙ given_is;
  packets_are = ap (λ (k : SlottedPackets). k.packets) is ∙ ap (numbered pid n) (lent_is ∙ are);
}

-- ---- what is left

same_kept : (kept : SlottedPackets) (pid n : ℕ) (pieces : List Piece) (slots : List ℕ) → kept.slots ≡ drop n slots
    → kept.packets ≡ numbered pid n (drop n pieces) → left_of pid pieces slots n ≡ kept
same_kept kept pid n pieces slots s p = λ i. record { slots = sym s i; packets = sym p i }

-- what is kept of the sets behind the first ones, which stand at earlier slots, is what is left of the stream
pub are_left : (script : Script) (pid page sent : ℕ) (sets : List PlannedSet) (loads : List WriteLoad)
    (table : Timetable) (f n : ℕ) (left : PacketsLeft) → page < 2 ^ 16 → AreReady script sets loads table
    → AreFirst loads f n → ((j : ℕ) → j < n → get_or table.slots j 0 < sent)
    → AreKeptOf script pid page n (drop f sets) (drop n table.slots) left.kept
    → left.count ≡ slot_count table.slots → AreLeftOf script pid page sets loads table.slots sent left
are_left script pid page sent sets loads table f n left fits_page ready first before kept count =
    let units = some_units script page sets loads fits_page ready.sendable ready.fit ready.asked in
    let all = units.0 in
    let sized = sized_as script sets loads all ready.asked units.2 in
    let pieces = all_pieces (all_units all) in
    let slots = table.slots in
    let behind : AreUnitsOfSets script page (drop f sets) (drop f all) =
    AllZip-drop (AreSetPackets script page) f sets all units.1 in
    let same : kept.units ≡ drop f all =
    one_units script page (drop f sets) kept.units (drop f all) kept.carried behind in
    let rest : all_pieces (all_units kept.units) ≡ drop n pieces =
    ap (λ (own : List (List (List ℕ))). all_pieces (all_units own)) same
    ∙ pieces_behind loads all f first.among sized
    ∙ ap (λ (k : ℕ). drop k pieces) (sym first.packets_are) in
    let is : left_of pid pieces slots n ≡ left.kept =
    same_kept left.kept pid n pieces slots kept.slots_are (kept.packets_are ∙ ap (numbered pid n) rest) in
    let each : All IsPiece pieces = all_are_pieces (all_units all) in
    let many : length pieces ≡ length slots =
    sym (ready.slotted.packets ∙ count_pieces loads all sized) in
    let within : n ≤ length slots =
    omega (arith, first.packets_are, (packets_behind loads slots f first.among ready.slotted.packets).0) in
    record {
      units = all;
      carried = units.1;
      sized = sized;
      left_is = record {
        whole =
            length-before pid pieces slots (slot_count slots) each ∙ ap (λ (k : ℕ). 188 * k) (sym count);
        behind =
            left_behind pid pieces slots n sent (slot_count slots) each many within before
            ∙ (λ i. packets_from (is i) sent (sym count i - sent));
        kept = subst HaveRisingSlots is (left_kept pid pieces slots n each many ready.slotted.rise);
      };
    }
