-- The stream that is made of the sets of a plan, and the packets that are written of it.
use Rattle.std.proofs.Common.{◌≡◌, ◌∙◌, refl, sym, ap, subst, ℕ, ◌<◌, ◌^◌, List, [], ◌∷◌, length, get_or, map, All, arith}
use Rattle.std.specs.List.{concat}
use Rattle.std.specs.List.Sorted.{IsStrictlyIncreasing}
use Rattle.std.proofs.Math.Seq.{take-append_seam, drop-append_seam}
use Rattle.cue_list.specs.declared.script.Script.{Script}
use Rattle.page_epoch.specs.declared.planned_set.PlannedSet.{PlannedSet}
use Rattle.schedule.specs.Packets.{first_packet, no_load}
use Rattle.schedule.specs.Slots.{IsLoad, IsOnTime, IsSchedule, Timetable}
use Rattle.set_coder.specs.SetSizes.{FitsPackets, IsSetLoad}
use Rattle.sent_sets.proofs.PacketCounts.{count_pieces}
use Rattle.shown_stream.specs.Compiled.{AreLoads, AreUnitsOfSets, all_units, IsPlanned, sent_pace, Compiling}
use Rattle.sent_sets.specs.SentStream.{AreSizedAs}
use Rattle.slot_stream.specs.SlotStream.{Piece, all_pieces, slot_count, stream_of}
use Rattle.stream_syntax.specs.declared.wire.TheConstants.{NULL_PID}
use Rattle.sub_base.specs.Pace.{pace_of}
use Rattle.sub_base.specs.Profile.{profile_of}
use Rattle.sub_base.specs.declared.load.WriteLoad.{WriteLoad}
use Rattle.sub_base.specs.declared.pace.Pace.{Pace}
use Rattle.sub_base.specs.declared.profile.Profile.{Profile}
use Rattle.sub_base.specs.declared.profile.ProfileName.{ProfileName}
use Rattle.script_stream.proofs.UnitLaws.{AllZip-at, AllZip-length, written_cut}
use Rattle.script_stream.specs.Private.Sending.{IsWritable}
use Rattle.script_stream.specs.Private.SetUnits.{AreCut, AreWritten}
use Rattle.script_stream.specs.SentScripts.{IsSentFor, SentScript, cut_at, stream_bytes, units_in}

-- ---- units cut out of the bytes of sets

-- units that are joined are cut into the same units
cut_again : (units : List (List ℕ)) → cut_at (map length units) (concat units) ≡ units
cut_again [] = refl
cut_again (unit ∷ units) =
    (λ i. take-append_seam unit (concat units) i
    ∷ cut_at (map length units) (drop-append_seam unit (concat units) i))
    ∙ ap (λ (rest : List (List ℕ)). unit ∷ rest) (cut_again units)

all_cut_again : (loads : List WriteLoad) (units : List (List (List ℕ))) → AreSizedAs loads units
    → units_in loads (map concat units) ≡ units
all_cut_again [] [] sized = refl
all_cut_again [] (own ∷ units) sized = absurd sized
all_cut_again (load ∷ loads) [] sized = absurd sized
all_cut_again (load ∷ loads) (own ∷ units) sized =
    (λ i. cut_at (sym sized.0 i) (concat own) ∷ units_in loads (map concat units))
    ∙ (λ i. cut_again own i ∷ all_cut_again loads units sized.1 i)

-- bytes are cut in one way
pub one_cut : (loads : List WriteLoad) (written : List (List ℕ)) (units : List (List (List ℕ)))
    → AreCut loads written units → units ≡ units_in loads written
one_cut loads written units cut =
    sym (all_cut_again loads units cut.sized) ∙ ap (units_in loads) cut.whole

-- ---- what is made

-- sets that are on time fit their packets
pub sets_fit : (script : Script) (sets : List PlannedSet) (loads given : List WriteLoad) (pace : Pace)
    (table : Timetable) → AreLoads script sets loads → given ≡ loads
    → IsOnTime given (length given) pace table → All (FitsPackets script) sets
sets_fit script sets loads given pace table asked same on_time k d below =
    let own : AreLoads script sets given = subst (AreLoads script sets) (sym same) asked in
    let within : k < length given = omega (arith, below, AllZip-length (IsSetLoad script) sets given own) in
    let load : IsSetLoad script (get_or sets k d) (get_or given k no_load) =
    AllZip-at (IsSetLoad script) sets given k d no_load below own in
    record { longest = (get_or given k no_load).longest; is_longest = load.longest; few = on_time.short k within }

-- what is written of the sets that are lent is so of the sets
pub written_of : (script : Script) (page : ℕ) (sets own : List PlannedSet) (written : List (List ℕ)) → sets ≡ own
    → ((units : List (List (List ℕ))) × AreWritten script page sets written units)
    → (units : List (List (List ℕ))) × AreWritten script page own written units
written_of script page sets own written same are =
    (are.0, subst (λ (s : List PlannedSet). AreWritten script page s written are.0) same are.1)

-- what is scheduled of the loads that are lent is so of the loads, in the pace of the script
pub paced : (name : ProfileName) (script : Script) (P : List WriteLoad → Pace → Type 0)
    (loads given : List WriteLoad) (receiver : Profile) → receiver ≡ profile_of name → given ≡ loads
    → P given (pace_of script.origin receiver) → P loads (sent_pace name script)
paced name script P loads given receiver is_profile same holds =
    subst (λ (p : Profile). P loads (pace_of script.origin p)) is_profile
    (subst (λ (l : List WriteLoad). P l (pace_of script.origin receiver)) same holds)

module _ (compiling : Compiling) (sets : List PlannedSet) (loads : List WriteLoad)
    (table : Timetable) (written : List (List ℕ)) (planned : IsPlanned compiling.profile compiling.script sets loads)
    (own : (units : List (List (List ℕ))) × AreWritten compiling.script compiling.page sets written units) where
  cut_own : AreCut loads written own.0
  cut_own = written_cut compiling.script compiling.page sets loads written own.0 planned.asked own.1

  same_units : own.0 ≡ units_in loads written
  same_units = one_cut loads written own.0 cut_own

  -- what is written of the stream is cut into its units
  pub cut_in : AreCut loads written (units_in loads written)
  cut_in = subst (AreCut loads written) same_units cut_own

  -- it is the stream of the script
  pub is_sent : All IsLoad loads → IsSchedule loads (length loads) (sent_pace compiling.profile compiling.script) table
      → IsOnTime loads (length loads) (sent_pace compiling.profile compiling.script) table
      → IsSentFor compiling (record {
        pid = compiling.pid;
        sets = sets;
        loads = loads;
        units = units_in loads written;
        table = table;
      })
  is_sent each schedule on_time = record {
    compiled = record {
      sets = sets;
      loads = loads;
      planned = planned;
      each = each;
      units = units_in loads written;
      carried = subst (AreUnitsOfSets compiling.script compiling.page sets) same_units own.1.carried;
      sized = cut_in.sized;
      table = table;
      schedule = schedule;
      on_time = on_time;
      sent = refl;
    };
    same_sets = refl;
    same_loads = refl;
    same_table = refl;
  }

  -- it can be written
  pub is_writable : compiling.pid < NULL_PID → length table.slots ≡ first_packet loads (length loads)
      → IsStrictlyIncreasing table.slots → All (λ slot. slot < 2 ^ 56) table.slots
      → IsWritable compiling.pid loads written table
  is_writable below packets rise small =
      record { pid_is = omega arith; cut = cut_in; packets = packets; rise = rise; small = small }

-- ---- what is written

-- there are fewer than 2 ^ 64 slots up to the last one
pub slot_count-small : (slots all : List ℕ) → all ≡ slots → All (λ slot. slot < 2 ^ 56) slots
    → slot_count all < 2 ^ 64
slot_count-small slots all same small = subst (λ (s : List ℕ). slot_count s < 2 ^ 64) (sym same) (below slots small)
  where
    below : (slots : List ℕ) → All (λ slot. slot < 2 ^ 56) slots → slot_count slots < 2 ^ 64
    below [] small = omega arith
    below (slot ∷ slots) small =
        let last : get_or (slot ∷ slots) (length slots) 0
        < 2 ^ 56 = small (length slots) 0 (omega arith) in omega arith

-- one slot a piece
pub slots_pair : (loads : List WriteLoad) (written : List (List ℕ)) (units : List (List (List ℕ)))
    (slots all : List ℕ) (pieces lent : List Piece) → all ≡ slots → lent ≡ pieces
    → length slots ≡ first_packet loads (length loads) → AreCut loads written units
    → pieces ≡ all_pieces (all_units units) → length all ≡ length lent
slots_pair loads written units slots all pieces lent all_is lent_is packets cut are =
    ap length all_is ∙ packets ∙ count_pieces loads units cut.sized ∙ ap length (sym are)
    ∙ ap length (sym lent_is)

-- what is lent is cut alike
pub lent_cut : (loads given : List WriteLoad) (written lent : List (List ℕ)) → given ≡ loads → lent ≡ written
    → AreCut loads written (units_in loads written) → AreCut given lent (units_in loads written)
lent_cut loads given written lent same is cut =
    subst (λ (l : List WriteLoad). AreCut l lent (units_in loads written)) (sym same)
    (subst (λ (w : List (List ℕ)). AreCut loads w (units_in loads written)) (sym is) cut)

-- the bytes of the pieces that are lent, in the slots that are lent, are those of the stream
pub lent_bytes : (sent : SentScript) (pieces lent : List Piece) (all : List ℕ)
    → pieces ≡ all_pieces (all_units sent.units) → lent ≡ pieces → all ≡ sent.table.slots
    → stream_of sent.pid lent all ≡ stream_bytes sent
lent_bytes sent pieces lent all are lent_is all_is =
    ap (stream_of sent.pid lent) all_is
    ∙ ap (λ (own : List Piece). stream_of sent.pid own sent.table.slots) (lent_is ∙ are)
