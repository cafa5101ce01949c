-- Packets that a live inserter writes: what was let in stays.
use Rattle.std.proofs.Common.{◌≡◌, ◌∙◌, sym, ap, subst, ℕ, ◌*◌, true, false, List, length, Result, Ok, Err, OnOk, OnErr}
use Rattle.sub_base.specs.Endpoints.{Received}
use Rattle.sub_base.specs.declared.faults.WriteFailed.{WriteFailed}
use Rattle.live_plan.specs.LiveCalls.{HasLetIn, LiveState, WritesDueOf, WritesRestOf}
use Rattle.live_plan.specs.LiveRows.{RowOrTick}
use Rattle.live_plan.specs.Outlets.{Finishes, IsOutletOf, OutletState, Writes, WritesDue}
use Rattle.live_plan.specs.Private.Accepting.{IsLive}
use Rattle.live_plan.proofs.LetRows.{due_long}
use Rattle.live_plan.proofs.OneBatch.{one_batch, one_due}

-- an outlet that is closed has its packets still
closed_stays : (packets due : List ℕ) (old new : OutletState) → new ≡ record old { closed = true }
    → IsOutletOf packets due old → IsOutletOf packets due new
closed_stays packets due old new same is =
    subst (IsOutletOf packets due) (sym same)
    (record { whole = is.whole; few = is.few; left = is.left; is_due = is.is_due })

-- and so has one that wrote what is due, or failed
pub outlet_stays : (packets due : List ℕ) (old new : OutletState) (before now : Received)
    (answer : Result Unit WriteFailed) → WritesDue old new before now answer → OnOk answer (new.closed ≡ false)
    → OnErr answer (new ≡ record old { closed = true }) → IsOutletOf packets due old → IsOutletOf packets due new
outlet_stays packets due old new before now (Ok done) writes opened failed is = ((writes packets due is).1 opened).1
outlet_stays packets due old new before now (Err fault) writes opened failed is =
    closed_stays packets due old new failed is

-- the same was let in, with another outlet
still : (live : LiveState) (past : List RowOrTick) (outlet : OutletState) → (has : HasLetIn live past)
    → IsOutletOf has.packets has.due outlet → HasLetIn (record live { outlet = outlet }) past
still live past outlet has is = record {
  each = has.each;
  stands = has.stands;
  blocks = has.blocks;
  last = has.last;
  packets = has.packets;
  batch = has.batch;
  due = has.due;
  is_due = has.is_due;
  outlet = is;
}

still_live : (live : LiveState) (outlet : OutletState) → (is : IsLive live)
    → IsOutletOf is.has.packets is.has.due outlet → IsLive (record live { outlet = outlet })
still_live live outlet is of =
    record { sends = is.sends; small = is.small; past = is.past; has = still live is.past outlet is.has of }

-- ---- what is due

pub writes_due_of : (live : LiveState) (outlet : OutletState) (before now : Received)
    (answer : Result Unit WriteFailed) → WritesDue live.outlet outlet before now answer
    → OnOk answer (outlet.closed ≡ false) → OnErr answer (outlet ≡ record live.outlet { closed = true })
    → WritesDueOf live (record live { outlet = outlet }) before now answer
writes_due_of live outlet before now answer writes opened failed past due has is =
    let same : has.due ≡ due = one_due live.inserter past has.due due has.is_due is in
    let all = writes has.packets has.due has.outlet in (
      subst (λ (bytes : List ℕ). Writes live.outlet before now bytes answer) same all.0,
      still live past outlet has
          (outlet_stays has.packets has.due live.outlet outlet before now answer writes opened failed has.outlet),
      sent answer opened all.1 same,
    )
  where
    sent : (answer : Result Unit WriteFailed) → OnOk answer (outlet.closed ≡ false)
        → (outlet.closed ≡ false → (outlet.sent ≡ live.outlet.due) × IsOutletOf has.packets has.due outlet)
        → has.due ≡ due → OnOk answer (188 * outlet.sent ≡ length due)
    sent (Ok done) opened all same =
        ap (λ (n : ℕ). 188 * n) (all opened).0 ∙ sym (due_long has.packets has.due live.outlet has.outlet)
        ∙ ap (λ (xs : List ℕ). length xs) same
    sent (Err fault) opened all same = tt

pub live_written : (live : LiveState) (outlet : OutletState) (before now : Received)
    (answer : Result Unit WriteFailed) → WritesDue live.outlet outlet before now answer
    → OnOk answer (outlet.closed ≡ false) → OnErr answer (outlet ≡ record live.outlet { closed = true })
    → IsLive live → IsLive (record live { outlet = outlet })
live_written live outlet before now answer writes opened failed is =
    still_live live outlet is
    (outlet_stays is.has.packets is.has.due live.outlet outlet before now answer writes opened failed is.has.outlet)

-- ---- the rest

pub writes_rest_of : (live : LiveState) (before now : Received) (answer : Result Unit WriteFailed)
    → Finishes live.outlet before now answer → WritesRestOf live before now answer
writes_rest_of live before now answer finishes past packets has batch =
    subst (λ (bytes : List ℕ). Writes live.outlet before now bytes answer)
    (one_batch live.inserter past has.packets packets has.batch batch)
    (finishes has.packets has.due has.outlet)

pub live_finished : (live : LiveState) (outlet : OutletState) → outlet ≡ record live.outlet { closed = true }
    → IsLive live → IsLive (record live { outlet = outlet })
live_finished live outlet same is =
    still_live live outlet is (closed_stays is.has.packets is.has.due live.outlet outlet same is.has.outlet)
