use Rattle.std.proofs.Common.{◌≡◌, ◌∙◌, ◌+◌, ℕ, Bool, nat_lt, ◌&&◌, drop, sym, ap, ap₂, subst}
use Rattle.sub_base.proofs.TransferSteps.{range_from}
use Rattle.sub_base.specs.Depth.{code_count}
use Rattle.cue_records.specs.CodeFaults.{runs_fault}
use Rattle.cue_records.specs.PixelRuns.{first_run}
use Rattle.cue_records.proofs.RunLaws.{ArePut, place_at, found_run, no_run, put_more, put_wrong, put_uneven, put_wide, put_valid, put_range}
use Rattle.cue_records.proofs.runs.put_runs.Goals as goal

pub returns-in_default-clause-fault : goal.returns-in_default-clause-fault
returns-in_default-clause-fault c =
    let l = c.loop-start in
    let text = c.args.text.now in
    let read = c.first_run.ensures.run ∙ ap (first_run c.args.depth) (range_from text l.start) in
    put_wrong c.args.depth text l.codes l.start l.filled l.valid c.loop-start-test.true
    (no_run c.args.depth (drop l.start text) (sym c.in_default.is ∙ read)) l.invariant.0
    ∙ ap (λ (n : ℕ). runs_fault c.args.depth n text) l.invariant.1

pub loop-start-preserved : goal.loop-start-preserved
loop-start-preserved c =
    let l = c.loop-start in
    let text = c.args.text.now in
    let run = c.in-Some.run' in
    let read = c.first_run.ensures.run ∙ ap (first_run c.args.depth) (range_from text l.start) in
    let found = found_run c.args.depth (drop l.start text) run c.in-Some.length (sym c.in-Some.is ∙ read) in
    let valid : nat_lt run.code (code_count c.args.depth) ≡ nat_lt c.from.result c.code_count.result =
    ap₂ nat_lt (sym c.from.ensures) (sym c.code_count.ensures) in (
      subst (λ (n : ℕ). ArePut c.args.depth text c.put_run-filled.new.codes (l.start + (n + 1))
          c.put_run-filled.result (l.valid && nat_lt c.from.result c.code_count.result))
          (sym found.1)
          (subst (λ (small : Bool). ArePut c.args.depth text c.put_run-filled.new.codes
          (l.start + (place_at l.start text + 1)) c.put_run-filled.result (l.valid && small)) valid
          (put_more c.args.depth text l.codes c.put_run-filled.new.codes l.start l.filled c.put_run-filled.result
          l.valid run c.loop-start-test.true found.0 l.invariant.0
          (record {
            fits = c.put_run-filled.ensures.fits;
            over = c.put_run-filled.ensures.over;
            count = c.put_run-filled.ensures.count;
          }))),
      c.put_run-filled.ensures.count ∙ l.invariant.1,
    )

pub returns-then-filled-codes-clause-fault : goal.returns-then-filled-codes-clause-fault
returns-then-filled-codes-clause-fault c =
    let l = c.loop-start in
    put_uneven c.args.depth c.args.text.now l.codes l.start l.filled l.valid c.loop-start-test.false l.invariant.0
    c.if-filled-codes.true
    ∙ ap (λ (n : ℕ). runs_fault c.args.depth n c.args.text.now) l.invariant.1

pub returns-then-not-valid-clause-fault : goal.returns-then-not-valid-clause-fault
returns-then-not-valid-clause-fault c =
    let l = c.loop-start in
    put_wide c.args.depth c.args.text.now l.codes l.start l.filled l.valid c.loop-start-test.false l.invariant.0
    c.if-filled-codes.false c.if-not-valid.true
    ∙ ap (λ (n : ℕ). runs_fault c.args.depth n c.args.text.now) l.invariant.1

pub returns-clause-fault : goal.returns-clause-fault
returns-clause-fault c =
    let l = c.loop-start in
    put_valid c.args.depth c.args.text.now l.codes l.start l.filled l.valid c.loop-start-test.false l.invariant.0
    c.if-filled-codes.false c.if-not-valid.false
    ∙ ap (λ (n : ℕ). runs_fault c.args.depth n c.args.text.now) l.invariant.1

pub returns-clause-range : goal.returns-clause-range
returns-clause-range c =
    let l = c.loop-start in
    put_range c.args.depth c.args.text.now l.codes l.start l.filled l.valid l.invariant.0 c.if-filled-codes.false
    c.if-not-valid.false
