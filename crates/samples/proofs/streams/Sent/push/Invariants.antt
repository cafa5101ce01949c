use Rattle.std.proofs.Common.{◌≡◌, ◌+◌, ◌*◌, ◌/◌, length}
use Rattle.samples.proofs.streams.Sent.push.Given as goal

-- what was sent, and what the pieces that are left will be sent in
abbrev pub invariant-loop-piece : goal.invariant-loop-piece
invariant-loop-piece l =
    (l.piece-iterator.size ≡ 184)
    × (length l.self.stream.items + 188 * ((length l.piece-iterator.rest.now + 183) / 184)
    ≡ length l.fn.self.stream.items + 188 * ((length l.fn.unit + 183) / 184))
