use Rattle.std.proofs.Common.{◌≡◌, ℕ, ◌+◌, ◌<◌, length, arith, sym, subst, ap, ◌∙◌, refl}
use Rattle.std.specs.Prelude.{slice_index}
use Rattle.sub_base.specs.declared.load.WriteLoad.{WriteLoad}
use Rattle.schedule.specs.Packets.{units_of, payload_of, payload_in}
use Rattle.schedule.specs.Private.Search.{IsWithin, sent_of}
use Rattle.schedule.proofs.PacketLaws.{packets_before, packets_before-none, packets_before-more, packets_before-all, packets_before-within, payload_at, packets-most, some_bytes, load_at, read_at}
use Rattle.schedule.proofs.SendLaws.{IsWithin-begins, IsWithin-ends}
use Rattle.schedule.proofs.send.send_set.Goals as goal
use Rattle.stream_syntax.specs.TransportPackets.{packet_count}

pub loop-size-init : goal.loop-size-init
loop-size-init c =
    let from = c.args.from in
    let read =
    read_at c.args.loads.now (length c.args.dones.now) c.index-loads-dones.result c.requires.next
    c.index-loads-dones.is in
    let load = load_at c.args.loads.now (length c.args.dones.now) c.requires.loads c.requires.next in
    let pts = ap (λ (load : WriteLoad). load.load.pts) read in
    let Sent : ℕ
    → Type 0 = λ k. IsWithin c.args.loads.now c.args.pace.now c.args.slots.now.items c.args.dones.now k
    (record from { slot = c.max.result }) in
    record {
      within = subst Sent (sym (packets_before-none (units_of c.args.loads.now (length c.args.dones.now))))
          (IsWithin-begins c.args.loads.now c.args.pace.now c.args.slots.now.items c.args.dones.now from
          c.first_slot_at-window.result c.max.result
          c.requires.pace c.requires.between c.requires.rise c.requires.near load.pts c.max.ensures
          (omega (arith, c.first_slot_at-window.ensures.reached, c.saturating_sub.ensures, pts, load.pts))
          (omega (arith, c.first_slot_at-window.ensures.near, c.saturating_sub.ensures, pts, load.pts))
          (λ other later. c.first_slot_at-window.ensures.least other
          (omega (arith, c.saturating_sub.ensures, pts, load.pts))));
      kept = λ n below. refl;
    }

pub send_unit-requires-clause-within : goal.send_unit-requires-clause-within
send_unit-requires-clause-within c =
    let units = units_of c.args.loads.now (length c.args.dones.now) in
    let sent : packets_before units c.loop-size.size-index
    ≡ sent_of c.args.loads.now c.loop-size.slots.items c.args.dones.now =
    omega (arith, c.loop-size.invariant.within.packets) in
    let Sent : ℕ
    → Type 0 = λ k. IsWithin c.args.loads.now c.args.pace.now c.loop-size.slots.items c.args.dones.now k
    c.loop-size.search in
    subst Sent sent c.loop-size.invariant.within

pub send_unit-requires-clause-among : goal.send_unit-requires-clause-among
send_unit-requires-clause-among c =
    let units = units_of c.args.loads.now (length c.args.dones.now) in
    let read =
    read_at c.args.loads.now (length c.args.dones.now) c.index-loads-dones.result c.requires.next
    c.index-loads-dones.is in
    let same : c.as_slice-size-items.result.now ≡ units =
    c.as_slice-size-items.ensures ∙ ap (λ (load : WriteLoad). load.units) read in
    let below : c.loop-size.size-index < length units = omega (arith, c.loop-size-test.true, ap length same) in
    let size : c.from.result ≡ slice_index units c.loop-size.size-index =
    c.from.ensures ∙ ap (λ list. slice_index list c.loop-size.size-index) same in
    omega (
      arith,
      c.loop-size.invariant.within.packets,
      packets_before-within units c.loop-size.size-index below,
      ap
          packet_count size,
    )

pub send_unit-requires-clause-unit : goal.send_unit-requires-clause-unit
send_unit-requires-clause-unit c = λ k within.
    let units = units_of c.args.loads.now (length c.args.dones.now) in
    let read =
    read_at c.args.loads.now (length c.args.dones.now) c.index-loads-dones.result c.requires.next
    c.index-loads-dones.is in
    let same : c.as_slice-size-items.result.now ≡ units =
    c.as_slice-size-items.ensures ∙ ap (λ (load : WriteLoad). load.units) read in
    let below : c.loop-size.size-index < length units = omega (arith, c.loop-size-test.true, ap length same) in
    let size : c.from.result ≡ slice_index units c.loop-size.size-index =
    c.from.ensures ∙ ap (λ list. slice_index list c.loop-size.size-index) same in
    let place : sent_of c.args.loads.now c.loop-size.slots.items c.args.dones.now + k
    ≡ packets_before units c.loop-size.size-index + k =
    omega (arith, c.loop-size.invariant.within.packets) in
    ap (payload_of c.args.loads.now (length c.args.dones.now)) place
    ∙ payload_at units c.loop-size.size-index k below (omega (arith, within, ap packet_count size))
    ∙ ap (λ (bytes : ℕ). payload_in bytes k) (sym size)

pub loop-size-preserved : goal.loop-size-preserved
loop-size-preserved c =
    let units = units_of c.args.loads.now (length c.args.dones.now) in
    let read =
    read_at c.args.loads.now (length c.args.dones.now) c.index-loads-dones.result c.requires.next
    c.index-loads-dones.is in
    let same : c.as_slice-size-items.result.now ≡ units =
    c.as_slice-size-items.ensures ∙ ap (λ (load : WriteLoad). load.units) read in
    let below : c.loop-size.size-index < length units = omega (arith, c.loop-size-test.true, ap length same) in
    let size : c.from.result ≡ slice_index units c.loop-size.size-index =
    c.from.ensures ∙ ap (λ list. slice_index list c.loop-size.size-index) same in
    let sent : sent_of c.args.loads.now c.loop-size.slots.items c.args.dones.now + packet_count c.from.result
    ≡ packets_before units (c.loop-size.size-index + 1) =
    omega (
      arith,
      c.loop-size.invariant.within.packets,
      packets_before-more units c.loop-size.size-index below,
      ap
          packet_count size,
    ) in
    let Sent : ℕ
    → Type 0 = λ k. IsWithin c.args.loads.now c.args.pace.now c.send_unit.new.slots.items c.args.dones.now k
    c.in_ok-search.search in
    record {
      within = subst Sent sent c.in_ok-search.ensures.within;
      kept =
          λ n less. c.in_ok-search.ensures.kept n
          (omega (arith, less, c.requires.between.packets, c.loop-size.invariant.within.packets))
          ∙ c.loop-size.invariant.kept n less;
    }

pub returns-clause-between : goal.returns-clause-between
returns-clause-between c =
    let units = units_of c.args.loads.now (length c.args.dones.now) in
    let read =
    read_at c.args.loads.now (length c.args.dones.now) c.index-loads-dones.result c.requires.next
    c.index-loads-dones.is in
    let same : c.as_slice-size-items.result.now ≡ units =
    c.as_slice-size-items.ensures ∙ ap (λ (load : WriteLoad). load.units) read in
    let all = packets_before-all units c.loop-size.size-index (omega (arith, c.loop-size-test.false, ap length same)) in
    let Sent : ℕ
    → Type 0 = λ k. IsWithin c.args.loads.now c.args.pace.now c.loop-size.slots.items c.args.dones.now k
    c.loop-size.search in
    IsWithin-ends c.args.loads.now c.args.pace.now c.loop-size.slots.items c.args.dones.now c.loop-size.search
    (some_bytes c.args.loads.now (length c.args.dones.now) c.requires.loads c.requires.next)
    (subst Sent all c.loop-size.invariant.within)

pub returns-clause-near : goal.returns-clause-near
returns-clause-near c =
    let units = units_of c.args.loads.now (length c.args.dones.now) in
    let read =
    read_at c.args.loads.now (length c.args.dones.now) c.index-loads-dones.result c.requires.next
    c.index-loads-dones.is in
    let same : c.as_slice-size-items.result.now ≡ units =
    c.as_slice-size-items.ensures ∙ ap (λ (load : WriteLoad). load.units) read in
    let all = packets_before-all units c.loop-size.size-index (omega (arith, c.loop-size-test.false, ap length same)) in
    omega (
      arith,
      all,
      c.loop-size.invariant.within.near,
      packets-most c.args.loads.now
          (length c.args.dones.now),
      c.requires.fits,
      c.requires.pace.coded,
    )
