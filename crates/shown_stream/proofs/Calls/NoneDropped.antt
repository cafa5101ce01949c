-- Of the packets of scheduled sets nothing is dropped.
use Rattle.std.proofs.Common.{ℕ, zero, suc, Bool, true, false, List, [], ◌∷◌, All}
use Rattle.std.specs.Bool.{if◌then◌else◌}
use Rattle.std.specs.List.{AllByRecursion}
use Rattle.std.specs.Prelude.{nat_le}
use Rattle.std.proofs.lemmas.List.Elements.{All-from_recursion}
use Rattle.sub_base.specs.declared.load.WriteLoad.{WriteLoad}
use Rattle.buffer_model.specs.Calls.{Call, Arrived, SetWhole}
use Rattle.schedule.specs.Packets.{packets_of, payload_of}
use Rattle.schedule.specs.Slots.{slot_of}
use Rattle.scheduled_level_laws.specs.EnteredCalls.{Entry, counts, packet_calls, heard_load, is_whole, set_calls, calls_of_set, entered_calls}
use Rattle.shown_stream.specs.StaysWithin.{IsKeptCall}

module _ (loads : List WriteLoad) (slots : List ℕ) (bound : ℕ) (painted : ℕ → ℕ) (entry : Entry) where
  packets_kept : (i k : ℕ) (past : List Call) → AllByRecursion IsKeptCall past
      → AllByRecursion IsKeptCall (packet_calls loads slots bound entry i k past)
  packets_kept i zero past kept = kept
  packets_kept i (suc k) past kept = by (packets_kept i k past kept) (counts loads slots bound entry i k)
    where
      rest : List Call
      rest = packet_calls loads slots bound entry i k past

      by : AllByRecursion IsKeptCall rest → (b : Bool)
          → AllByRecursion IsKeptCall
          (if b then Arrived (slot_of loads slots i k) (payload_of loads i k) ∷ rest else rest)
      by all true = (λ no. cc, all)
      by all false = all

  set_kept : (i : ℕ) (past : List Call) → AllByRecursion IsKeptCall past
      → AllByRecursion IsKeptCall (set_calls loads slots bound painted entry i past)
  set_kept i past kept = by (is_whole loads slots bound i)
    where
      by : (b : Bool)
          → AllByRecursion IsKeptCall (if b then SetWhole (heard_load loads painted entry i) ∷ past else past)
      by true = (λ no. cc, kept)
      by false = kept

  all_kept : (n : ℕ) → AllByRecursion IsKeptCall (entered_calls loads slots bound painted entry n)
  all_kept zero = tt
  all_kept (suc i) =
      by (set_kept i (packet_calls loads slots bound entry i (packets_of loads i) before)
      (packets_kept i (packets_of loads i) before (all_kept i))) (nat_le entry.set i)
    where
      before : List Call
      before = entered_calls loads slots bound painted entry i

      by : AllByRecursion IsKeptCall (calls_of_set loads slots bound painted entry i before) → (b : Bool)
          → AllByRecursion IsKeptCall (if b then calls_of_set loads slots bound painted entry i before else [])
      by all true = all
      by all false = tt

  pub none_dropped : (n : ℕ) → All IsKeptCall (entered_calls loads slots bound painted entry n)
  none_dropped n = All-from_recursion IsKeptCall (entered_calls loads slots bound painted entry n) (all_kept n)
