-- Packets that stand keep standing while further packets and sets are put behind them.
use Rattle.std.proofs.Common.{◌≡◌, ℕ, ◌+◌, ◌<◌, List, ap, arith}
use Rattle.std.specs.Prelude.{slice_index}
use Rattle.sub_base.specs.declared.load.WriteLoad.{WriteLoad}
use Rattle.sub_base.specs.declared.pace.Pace.{Pace}
use Rattle.schedule.specs.Packets.{sum_below, size_of, first_packet}
use Rattle.sub_base.specs.Pace.{tick_of, left_by}
use Rattle.schedule.specs.Slots.{CanStand, left_of}
use Rattle.schedule.proofs.SumLaws.{sum_below-same}

-- what has left the buffer depends on the done ticks of the sets before alone
pub left-same : (loads : List WriteLoad) (dones others : List ℕ) (tick i : ℕ)
    → ((j : ℕ) → j < i → slice_index others j ≡ slice_index dones j) →
    sum_below (left_of loads others tick) i ≡ sum_below (left_of loads dones tick) i
left-same loads dones others tick i same =
    sum_below-same (left_of loads others tick) (left_of loads dones tick) i
    (λ j below. ap (λ (done : ℕ). left_by tick done (size_of loads j)) (same j below))

-- whether a packet can stand in a slot depends on the slots of the packets before it and the done ticks of the sets
-- before alone
pub CanStand-along : (loads : List WriteLoad) (pace : Pace) (slots dones slots' dones' : List ℕ) (i k slot : ℕ) →
    ((n : ℕ) → n < first_packet loads i + k → slice_index slots' n ≡ slice_index slots n) →
    ((j : ℕ) → j < i → slice_index dones' j ≡ slice_index dones j) →
    CanStand loads pace slots dones i k slot → CanStand loads pace slots' dones' i k slot
CanStand-along loads pace slots dones slots' dones' i k slot same_slots same_dones stands =
    record {
      after = λ n before. omega (arith, same_slots n (omega arith), stands.after n before);
      window = stands.window;
      room = omega (arith, stands.room, left-same loads dones dones' (tick_of pace slot) i same_dones);
    }
