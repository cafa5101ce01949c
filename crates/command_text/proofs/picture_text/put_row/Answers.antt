use Rattle.std.proofs.Common.{◌≡◌, ◌∙◌, ◌==◌, ◌≤◌, ℕ, true, false, length, sym, arith}
use Rattle.std.proofs.lemmas.Bool.Decides.{nat_tests}
use Rattle.command_text.proofs.PictureLaws.{PutsRow-none, PutsRow-step, PutsRow-all}
use Rattle.command_text.proofs.picture_text.put_row.Goals as goal

is_some : (n : ℕ) → (n == 0) ≡ false → 1 ≤ n
is_some n some = grind (arith, nat_tests)

is_none : (n : ℕ) → (n == 0) ≡ true → n ≡ 0
is_none n none = grind (arith, nat_tests)

pub loop-rest-init : goal.loop-rest-init
loop-rest-init g c = record { puts = PutsRow-none _ c.args.buffer.now c.args.row.now }

pub loop-rest-preserved : goal.loop-rest-preserved
loop-rest-preserved g c =
    let rest = c.loop-rest.rest.now in
    let count = c.first_run-count.result in
    let some : 1 ≤ length rest = is_some (length rest) (sym c.is_empty.ensures ∙ c.loop-rest-test.true) in
    record {
      puts =
          PutsRow-step _ _ _ c.args.buffer.now c.loop-rest.buffer c.put.new.buffer c.args.row.now rest
          c.after-rest.result.now count c.as_bytes.result.now c.loop-rest.invariant.puts
          some c.first_run-count.ensures.within c.first_run-count.ensures.run
          (c.as_bytes.ensures ∙ c.run_line-line.ensures.line) c.put.ensures c.after-rest.ensures;
    }

pub returns : goal.returns
returns g c =
    PutsRow-all _ _ c.args.buffer.now c.loop-rest.buffer c.args.row.now c.loop-rest.rest.now c.requires.wide
    (is_none (length c.loop-rest.rest.now) (sym c.is_empty.ensures ∙ c.loop-rest-test.false))
    c.loop-rest.invariant.puts
