-- Each set that a receiver gets from its entry on has a packet before it.
use Rattle.std.proofs.Common.{◌≡◌, ◌∙◌, ℕ, zero, suc, ◌-◌, ◌<◌, ◌≤◌, ◌&&◌, ◌==◌, Bool, true, false, List, [], ◌∷◌, length, refl, sym, ap, subst, arith}
use Rattle.std.specs.Bool.{if◌then◌else◌}
use Rattle.std.specs.Prelude.{nat_le, nat_lt}
use Rattle.std.proofs.lemmas.Bool.Decides.{nat_tests}
use Rattle.sub_base.specs.declared.load.WriteLoad.{WriteLoad}
use Rattle.buffer_model.specs.Calls.{Call, Arrived, SetWhole}
use Rattle.buffer_model.specs.Within.{AllHeard, has_arrived}
use Rattle.schedule.specs.Packets.{packets_of, payload_of}
use Rattle.schedule.specs.Slots.{slot_of}
use Rattle.scheduled_level_laws.specs.EnteredCalls.{Entry, from_of, counts, packet_calls, heard_load, is_whole, calls_of_set, entered_calls}
use Rattle.scheduled_level_laws.proofs.EnteredLevels.{IsEntry}
use Rattle.scheduled_level_laws.proofs.EnteredSums.{last_packet}

-- packets change nothing of that
packets_heard : (loads : List WriteLoad) (slots : List ℕ) (bound : ℕ) (entry : Entry) (i k : ℕ) (past : List Call)
    → AllHeard past → AllHeard (packet_calls loads slots bound entry i k past)
packets_heard loads slots bound entry i zero past heard = heard
packets_heard loads slots bound entry i (suc k) past heard =
    by (packets_heard loads slots bound entry i k past heard) (counts loads slots bound entry i k)
  where
    rest : List Call
    rest = packet_calls loads slots bound entry i k past

    by : AllHeard rest → (b : Bool)
        → AllHeard (if b then Arrived (slot_of loads slots i k) (payload_of loads i k) ∷ rest else rest)
    by all true = all
    by all false = all

-- the last packet of a set counts
last_counts : (loads : List WriteLoad) (slots : List ℕ) (painted : ℕ → ℕ) (bound : ℕ) (entry : Entry) (i k : ℕ)
    → IsEntry loads slots painted entry → i < length loads → packets_of loads i ≡ suc k
    → nat_lt (slot_of loads slots i (packets_of loads i - 1)) bound ≡ true
    → counts loads slots bound entry i k ≡ true
last_counts loads slots painted bound entry i k is inside many below =
    let last : packets_of loads i - 1 ≡ k = omega (arith, many) in
    let early : from_of entry i ≤ k = from_within (i == entry.set) refl in
    let from : nat_le (from_of entry i) k ≡ true = grind (arith, nat_tests) in
    ap (λ b. b && nat_lt (slot_of loads slots i k) bound) from
    ∙ ap (λ n. nat_lt (slot_of loads slots i n) bound) (sym last) ∙ below
  where
    from_within : (b : Bool) → (i == entry.set) ≡ b → (if b then entry.packet else 0) ≤ k
    from_within true same =
        let is_entry : i ≡ entry.set = grind (arith, nat_tests) in
        let few = is.within (omega (arith, inside, is_entry)) in
        omega (arith, few, many, ap (packets_of loads) is_entry)
    from_within false other = omega arith

-- behind all packets of a set of which the last one counts, a packet has arrived
arrived_last : (loads : List WriteLoad) (slots : List ℕ) (bound : ℕ) (entry : Entry) (i k : ℕ) (past : List Call)
    → counts loads slots bound entry i k ≡ true
    → has_arrived (packet_calls loads slots bound entry i (suc k) past) ≡ true
arrived_last loads slots bound entry i k past count =
    ap (λ b. has_arrived (if b
    then Arrived (slot_of loads slots i k) (payload_of loads i k) ∷ packet_calls loads slots bound entry i k past
    else packet_calls loads slots bound entry i k past)) count

-- a set that is whole has a packet before it
set_heard : (loads : List WriteLoad) (slots : List ℕ) (painted : ℕ → ℕ) (bound : ℕ) (entry : Entry) (i : ℕ)
    (past : List Call) → IsEntry loads slots painted entry → i < length loads → AllHeard past
    → AllHeard (calls_of_set loads slots bound painted entry i past)
set_heard loads slots painted bound entry i past is inside heard =
    by (is_whole loads slots bound i) refl
  where
    packets : List Call
    packets = packet_calls loads slots bound entry i (packets_of loads i) past

    some : packets_of loads i ≡ suc (packets_of loads i - 1)
    some = let last = last_packet loads slots i is.are inside in omega (arith, last)

    all : AllHeard packets
    all = packets_heard loads slots bound entry i (packets_of loads i) past heard

    by : (b : Bool) → is_whole loads slots bound i ≡ b
        → AllHeard (if b then SetWhole (heard_load loads painted entry i) ∷ packets else packets)
    by true whole = (
      subst (λ n. has_arrived (packet_calls loads slots bound entry i n past) ≡ true) (sym some)
          (arrived_last loads slots bound entry i (packets_of loads i - 1) past
          (last_counts loads slots painted bound entry i (packets_of loads i - 1) is inside some whole)),
      all,
    )
    by false whole = all

-- so it is with all calls from the entry on
pub entered_heard : (loads : List WriteLoad) (slots : List ℕ) (painted : ℕ → ℕ) (bound : ℕ) (entry : Entry) (n : ℕ)
    → IsEntry loads slots painted entry → n ≤ length loads
    → AllHeard (entered_calls loads slots bound painted entry n)
entered_heard loads slots painted bound entry zero is few = tt
entered_heard loads slots painted bound entry (suc i) is few =
    by (entered_heard loads slots painted bound entry i is (omega arith)) (nat_le entry.set i)
  where
    by : AllHeard (entered_calls loads slots bound painted entry i) → (b : Bool)
        → AllHeard (if b
        then calls_of_set loads slots bound painted entry i (entered_calls loads slots bound painted entry i) else [])
    by before true =
        set_heard loads slots painted bound entry i (entered_calls loads slots bound painted entry i) is
        (omega arith) before
    by before false = tt
