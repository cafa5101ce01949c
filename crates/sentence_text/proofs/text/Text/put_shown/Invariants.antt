use Rattle.std.proofs.Common.{◌≡◌, ◌++◌, map}
use Rattle.std.specs.List.{range_with_len}
use Rattle.sentence_text.specs.Quotation.{shown_at}
use Rattle.sentence_text.proofs.text.Text.put_shown.Given as goal

-- the bytes before this place stand at the end, as they are shown
abbrev pub invariant-loop-place : goal.invariant-loop-place
invariant-loop-place l = l.self-inside.bytes.items ≡ l.fn.self ++ map (shown_at l.bytes) (range_with_len 0 l.place)
