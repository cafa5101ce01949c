use Rattle.std.proofs.Common.{◌≡◌, arith, refl}
use Rattle.std.proofs.lemmas.List.{length-take, length-drop}
use Rattle.std.proofs.lemmas.Grind.{common_steps}
use Rattle.stream_syntax.specs.Tests.{byte_at, word_at}
use Rattle.segments.proofs.Heads.{head_reads}
use Rattle.segments.proofs.frame.read_frame.Goals as goal

pub returns-clause-head : goal.returns-clause-head
returns-clause-head c =
    let sync : byte_at 0 c.args.bytes.now ≡ 15 = grind (arith, common_steps) in
    let page : c.read_word-2.result ≡ word_at 2 c.args.bytes.now = grind (arith, common_steps) in
    let size : c.read_word.result ≡ word_at 4 c.args.bytes.now = grind (arith, common_steps) in
    head_reads c.args.bytes.now _ _ _ (λ i. omega (arith, c.type_inv.bytes i)) sync (omega arith) refl page
    (simp (length-take, length-drop) (omega arith))
