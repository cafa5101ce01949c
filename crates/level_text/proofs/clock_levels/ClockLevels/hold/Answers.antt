-- A packet waits.
use Rattle.std.proofs.Common.{◌≡◌, ◌∙◌, ◌+◌, ◌<◌, ◌==◌, ℕ, None, ap, sym, subst, arith}
use Rattle.check_text.proofs.MeteredLaws.{bytes_of}
use Rattle.pcr_clock.specs.declared.arrival.TheConstants.{MOST_BETWEEN}
use Rattle.stream_syntax.specs.TransportPackets.{packet_fault, pid_of}
use Rattle.level_text.specs.Clocking.{Clocking, Holds}
use Rattle.level_text.specs.Held.{held_with}
use Rattle.level_text.proofs.ClockLaws.{more_waits, one_waits}
use Rattle.level_text.proofs.clock_levels.ClockLevels.hold.Goals as goal

pub invariant_of-self : goal.invariant_of-self
invariant_of-self c =
    let own : Clocking = record {
      meter = c.self.inside.meter;
      held = c.self.inside.held.items;
      last = c.self.inside.last;
      since = c.self.inside.since;
      waiting = c.self.inside.waiting;
    } in
    let held_is : c.hold_own.new.held.items
    ≡ held_with (pid_of c.args.packet.now == own.meter.asked.pid) own.held (own.since + own.waiting) c.args.packet.now =
    c.hold_own.ensures.held
    ∙ ap (λ (pid : ℕ). held_with (pid_of c.args.packet.now == pid) own.held (own.since + own.waiting) c.args.packet.now)
    c.pid-pid.ensures in
    let faultless : packet_fault own.meter.asked.pid c.args.packet.now ≡ None =
    subst (λ (old : Clocking). packet_fault old.meter.asked.pid c.args.packet.now ≡ None) (sym c.self.view_is)
    c.requires.faultless in (
      more_waits own c.hold_own.new.held.items c.args.packet.now c.self.invariant.0 faultless held_is
          (subst (λ (old : Clocking). old.since + old.waiting < MOST_BETWEEN) (sym c.self.view_is) c.requires.room),
      omega (arith, c.hold_own.ensures.room, c.self.invariant.1),
    )

pub returns-clause-told : goal.returns-clause-told
returns-clause-told c =
    let own : Clocking = record {
      meter = c.self.inside.meter;
      held = c.self.inside.held.items;
      last = c.self.inside.last;
      since = c.self.inside.since;
      waiting = c.self.inside.waiting;
    } in
    let held_is : c.hold_own.new.held.items
    ≡ held_with (pid_of c.args.packet.now == own.meter.asked.pid) own.held (own.since + own.waiting) c.args.packet.now =
    c.hold_own.ensures.held
    ∙ ap (λ (pid : ℕ). held_with (pid_of c.args.packet.now == pid) own.held (own.since + own.waiting) c.args.packet.now)
    c.pid-pid.ensures in
    let faultless : packet_fault own.meter.asked.pid c.args.packet.now ≡ None =
    subst (λ (old : Clocking). packet_fault old.meter.asked.pid c.args.packet.now ≡ None) (sym c.self.view_is)
    c.requires.faultless in
    subst (λ (old : Clocking). Holds old (record {
      meter = c.self.inside.meter;
      held = c.hold_own.new.held.items;
      last = c.self.inside.last;
      since = c.self.inside.since;
      waiting = c.self.inside.waiting + 1;
    }) c.args.packet.now) c.self.view_is
    (one_waits own c.hold_own.new.held.items c.args.packet.now
    (record { bytes = bytes_of c.args.packet.now c.fits-packet; faultless = faultless }) held_is)
