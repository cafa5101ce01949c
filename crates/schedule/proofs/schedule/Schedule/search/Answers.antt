use Rattle.std.proofs.Common.{◌≡◌, ℕ, ◌+◌, ◌-◌, List, [], ◌∷◌, ◌++◌, length, arith, sym, subst, ap, ◌∙◌}
use Rattle.sub_base.specs.declared.load.WriteLoad.{WriteLoad}
use Rattle.sub_base.specs.declared.pace.Pace.{Pace}
use Rattle.schedule.specs.Packets.{load_of}
use Rattle.sub_base.specs.Pace.{done_tick, tick_of}
use Rattle.schedule.specs.Refusals.{IsFirstLate}
use Rattle.schedule.proofs.PacketLaws.{bytes_at, load_at, read_at}
use Rattle.schedule.proofs.MakeLaws.{table_of, full-cause, IsScheduled, IsSent, IsScheduled-none, IsScheduled-more, late-cause, All-small, IsTable-of, some_slot}
use Rattle.schedule.proofs.EarliestLaws.{arrival, earliest, hopeless}
use Rattle.schedule.proofs.schedule.Schedule.search.Goals as goal

pub loop-set-init : goal.loop-set-init
loop-set-init c =
    let Slots : List ℕ
    → Type 0 = λ slots. IsScheduled c.args.loads.now c.of-pace.result 0 slots c.new-ends.result.items
    c.new-dones.result.items 0 (record { slot = 0; level = 0; gone = 0 }) in
    let Ends : List ℕ
    → Type 0 = λ ends. IsScheduled c.args.loads.now c.of-pace.result 0 [] ends c.new-dones.result.items 0
    (record { slot = 0; level = 0; gone = 0 }) in
    let Dones : List ℕ
    → Type 0 = λ dones. IsScheduled c.args.loads.now c.of-pace.result 0 [] [] dones 0
    (record { slot = 0; level = 0; gone = 0 }) in
    subst Slots (sym c.new-slots.ensures.items)
    (subst Ends (sym c.new-ends.ensures.items)
    (subst Dones (sym c.new-dones.ensures.items)
    (IsScheduled-none c.args.loads.now c.of-pace.result c.of-pace.ensures.sound)))

pub overflow_sub-search : goal.overflow_sub-search
overflow_sub-search c =
    some_slot c.args.loads.now c.of-pace.result c.send_set.new.slots.items c.deref.result.now
    (length c.deref.result.now) c.in_ok-search.search
    (omega (arith, c.deref.ensures.len, c.loop-set.invariant.schedule.sets.1)) c.requires.loads
    c.in_ok-search.ensures.between

pub returns-then-done-load-clause-cause : goal.returns-then-done-load-clause-cause
returns-then-done-load-clause-cause c =
    let loads = c.args.loads.now in
    let pace = c.of-pace.result in
    let set = c.loop-set.set in
    let search = c.in_ok-search.search in
    let read = read_at loads set c.index-loads-set.result (omega arith) c.index-loads-set.is in
    let sizes = ap (λ (load : WriteLoad). load.load.size) read in
    let size = (load_at loads set c.requires.loads (omega arith)).size in
    let longest = ap (λ (load : WriteLoad). load.longest) read in
    let pts = ap (λ (load : WriteLoad). load.load.pts) read in
    let sent : IsSent loads pace c.loop-set.slots.items c.send_set.new.slots.items c.deref.result.now search = record {
      rise = c.in_ok-search.ensures.rise;
      between = c.in_ok-search.ensures.between;
      near = c.in_ok-search.ensures.near;
      kept = c.in_ok-search.ensures.kept;
      stood = c.in_ok-search.ensures.stood;
    } in
    let Sent : List ℕ → Type 0 =
    λ dones. IsSent loads pace c.loop-set.slots.items c.send_set.new.slots.items dones search in
    let done : c.done-done.result ≡ done_tick (tick_of pace (search.slot - 1)) c.loop-set.shown (load_of loads set) =
    c.done-done.ensures ∙ ap (λ tick. done_tick tick c.loop-set.shown c.index-loads-set.result.load) c.tick.ensures
    ∙ ap (λ (load : WriteLoad). done_tick (tick_of pace (search.slot - 1)) c.loop-set.shown load.load) read in
    let Cause : Pace → Type 0 =
    λ pace. IsFirstLate loads pace set c.done-done.result c.index-loads-set.result.load.pts in
    let Shown : ℕ → Type 0 = λ shown. IsFirstLate loads pace set c.done-done.result shown in
    subst Cause c.of-pace.ensures.value
    (subst Shown (sym pts)
    (late-cause loads pace set c.loop-set.slots.items c.loop-set.ends.items c.loop-set.dones.items
    c.send_set.new.slots.items
    c.loop-set.shown c.loop-set.search search c.done-done.result c.requires.loads (omega arith) c.loop-set.invariant
    (subst Sent c.deref.ensures.value sent)
    done (omega (arith, sizes, size)) (omega (arith, longest)) (omega (arith, pts))))

pub loop-set-preserved : goal.loop-set-preserved
loop-set-preserved c =
    let loads = c.args.loads.now in
    let pace = c.of-pace.result in
    let set = c.loop-set.set in
    let search = c.in_ok-search.search in
    let read = read_at loads set c.index-loads-set.result (omega arith) c.index-loads-set.is in
    let sizes = ap (λ (load : WriteLoad). load.load.size) read in
    let size = (load_at loads set c.requires.loads (omega arith)).size in
    let longest = ap (λ (load : WriteLoad). load.longest) read in
    let pts = ap (λ (load : WriteLoad). load.load.pts) read in
    let sent : IsSent loads pace c.loop-set.slots.items c.send_set.new.slots.items c.deref.result.now search = record {
      rise = c.in_ok-search.ensures.rise;
      between = c.in_ok-search.ensures.between;
      near = c.in_ok-search.ensures.near;
      kept = c.in_ok-search.ensures.kept;
      stood = c.in_ok-search.ensures.stood;
    } in
    let Sent : List ℕ → Type 0 =
    λ dones. IsSent loads pace c.loop-set.slots.items c.send_set.new.slots.items dones search in
    let done : c.done-done.result ≡ done_tick (tick_of pace (search.slot - 1)) c.loop-set.shown (load_of loads set) =
    c.done-done.ensures ∙ ap (λ tick. done_tick tick c.loop-set.shown c.index-loads-set.result.load) c.tick.ensures
    ∙ ap (λ (load : WriteLoad). done_tick (tick_of pace (search.slot - 1)) c.loop-set.shown load.load) read in
    let slots = c.send_set.new.slots.items in
    let Shown : ℕ
    → Type 0 = λ shown. IsScheduled loads pace (set + 1) slots c.push.new.self.items
    c.push-in-loop-set.new.self.items shown search in
    let Ends : List ℕ
    → Type 0 = λ ends. IsScheduled loads pace (set + 1) slots ends c.push-in-loop-set.new.self.items
    (load_of loads set).pts search in
    let Dones : List ℕ
    → Type 0 = λ dones. IsScheduled loads pace (set + 1) slots (c.loop-set.ends.items ++ length slots ∷ [])
    dones (load_of loads set).pts search in
    let end : c.len.result ≡ length slots = omega (arith, c.len.ensures, c.send_set.new.slots.ok) in
    subst Shown (sym pts)
    (subst Ends (sym (c.in_ok-push.ensures.items ∙ ap (λ (n : ℕ). c.loop-set.ends.items ++ n ∷ []) end))
    (subst Dones (sym c.in_ok-push-2.ensures.items)
    (IsScheduled-more loads pace set c.loop-set.slots.items c.loop-set.ends.items c.loop-set.dones.items slots
    c.loop-set.shown c.loop-set.search search c.done-done.result c.of-pace.ensures.sound c.requires.loads (omega arith)
    c.loop-set.invariant (subst Sent c.deref.ensures.value sent)
    done (omega (arith, sizes, size)) (omega (arith, longest)) (omega (arith, pts)))))

pub invariant_of-result : goal.invariant_of-result
invariant_of-result c =
    IsTable-of c.args.loads.now c.of-pace.result c.loop-set.set c.loop-set.slots.items c.loop-set.ends.items
    c.loop-set.dones.items c.loop-set.invariant.schedule

pub returns-clause-small : goal.returns-clause-small
returns-clause-small c =
    All-small c.of-pace.result c.loop-set.slots.items c.of-pace.ensures.sound c.loop-set.invariant.small
