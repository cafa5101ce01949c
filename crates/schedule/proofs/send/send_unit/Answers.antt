use Rattle.std.proofs.Common.{◌≡◌, ℕ, ◌+◌, mul-le-mul_left, List, [], ◌∷◌, ◌++◌, length, arith, sym, subst, ap, ◌∙◌}
use Rattle.std.specs.Prelude.{slice_index}
use Rattle.std.proofs.Math.ListN.{get_or-append}
use Rattle.schedule.specs.Packets.{payload_of}
use Rattle.schedule.specs.Private.Search.{IsWithin, sent_of}
use Rattle.schedule.proofs.PacketLaws.{payloads-most, packets-most}
use Rattle.schedule.proofs.SendLaws.{IsWithin-more}
use Rattle.schedule.proofs.SumLaws.{sum_below-more}
use Rattle.schedule.proofs.send.send_unit.Goals as goal

pub place-search-requires-clause-near : goal.place-search-requires-clause-near
place-search-requires-clause-near c =
    let most = packets-most c.args.loads.now (length c.args.dones.now) in
    omega (arith, most, c.loop-packet.invariant.within.near, c.requires.among, c.requires.fits, c.requires.pace.coded)

pub place-search-requires-clause-own : goal.place-search-requires-clause-own
place-search-requires-clause-own c =
    let i = length c.args.dones.now in
    let k = sent_of c.args.loads.now c.args.slots.now.items c.args.dones.now + c.loop-packet.packet in
    let sums = sum_below-more (payload_of c.args.loads.now i) k in
    let front = payloads-most c.args.loads.now i (k + 1) (omega (arith, c.requires.among)) in
    let own : c.min-payload.result ≡ payload_of c.args.loads.now i k =
    c.min-payload.ensures ∙ sym (c.requires.unit c.loop-packet.packet (omega arith)) in
    omega (arith, sums, front, own, c.loop-packet.invariant.within.total, c.requires.fits)

pub overflow_add-search : goal.overflow_add-search
overflow_add-search c =
    let most = packets-most c.args.loads.now (length c.args.dones.now) in
    omega (
      arith,
      most,
      c.loop-packet.invariant.within.near,
      c.place-search.ensures.near,
      c.requires.among,
      c.requires.fits,
      c.requires.pace.coded,
      c.requires.pace.step.0,
      mul-le-mul_left c.place-search.result.slot
          c.requires.pace.step.0,
    )

pub loop-packet-preserved : goal.loop-packet-preserved
loop-packet-preserved c =
    let loads = c.args.loads.now in
    let pace = c.args.pace.now in
    let dones = c.args.dones.now in
    let sent = sent_of loads c.args.slots.now.items dones in
    let k = sent + c.loop-packet.packet in
    let grown = c.loop-packet.slots.items ++ c.place-search.result.slot ∷ [] in
    let own : c.min-payload.result ≡ payload_of loads (length dones) k =
    c.min-payload.ensures ∙ sym (c.requires.unit c.loop-packet.packet (omega arith)) in
    let more = IsWithin-more loads pace c.loop-packet.slots.items dones k c.min-payload.result
    c.loop-packet.search c.place-search.result c.requires.pace c.loop-packet.invariant.within own
    c.place-search.ensures.total c.place-search.ensures.level c.place-search.ensures.gone c.place-search.ensures.after
    c.place-search.ensures.near
    c.place-search.ensures.room c.place-search.ensures.least in
    let next : k + 1 ≡ sent + (c.loop-packet.packet + 1) = omega arith in
    let Sent : ℕ
    → Type 0 = λ m. IsWithin loads pace grown dones m
    (record c.place-search.result { slot = c.place-search.result.slot + 1 }) in
    let Grown : List ℕ
    → Type 0 = λ slots. IsWithin loads pace slots dones (sent + (c.loop-packet.packet + 1))
    (record c.place-search.result { slot = c.place-search.result.slot + 1 }) in
    record {
      within = subst Grown (sym c.in_ok-push.ensures.items) (subst Sent next more);
      kept = λ n below. ap (λ slots. slice_index slots n) c.in_ok-push.ensures.items
          ∙ get_or-append c.loop-packet.slots.items (c.place-search.result.slot ∷ []) 0 n
          (omega (arith, below, c.requires.within.packets, c.loop-packet.invariant.within.packets))
          ∙ c.loop-packet.invariant.kept n below;
    }
