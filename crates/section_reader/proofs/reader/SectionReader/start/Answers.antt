use Rattle.std.proofs.Common.{◌≡◌, ℕ, List, false, length, length-drop, drop, arith}
use Rattle.std.proofs.lemmas.Bool.Decides.{nat_tests}
use Rattle.std.specs.Prelude.{nat_lt}
use Rattle.section_reader.proofs.StepLaws.{started_ends}
use Rattle.section_reader.proofs.FollowingLaws.{following_same}
use Rattle.section_reader.proofs.reader.SectionReader.start.Goals as goal

pub returns-clause-ends : goal.returns-clause-ends
returns-clause-ends g c =
    let pointer : ℕ = c.in-Some.pointer.now in
    let rest : List ℕ = c.in-Some.rest.now in
    let within : nat_lt (length rest) pointer ≡ false =
    grind (arith, nat_tests, c.if-pointer-rest.false, c.from-pointer.ensures) in
    rw c.in-Some.ensures.cases.0
    (started_ends g.T.SectionTaker.stands g.T.SectionTaker.kept _ _ _ _ _ _ pointer rest within
    (rw (c.split_at.ensures.front, c.from-pointer.ensures) at c.grow.ensures.ends)
    (rw (c.split_at.ensures.back, c.from-pointer.ensures) at c.begin.ensures.ends)
    (following_same (length (drop pointer rest)) (length rest) (drop pointer rest) (omega arith)
    (omega (arith, length-drop pointer rest))))
