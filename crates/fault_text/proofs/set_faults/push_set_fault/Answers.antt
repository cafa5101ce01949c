use Rattle.std.proofs.Common.{◌∙◌, ℕ, ◌++◌, sym, ap}
use Rattle.std.specs.Prelude.{codes}
use Rattle.command_text.specs.Lines.{then_number}
use Rattle.fault_text.specs.SetFaults.{set_fault_text}
use Rattle.fault_text.proofs.set_faults.push_set_fault.Goals as goal

pub returns-in-DisplayTooLarge-clause-line : goal.returns-in-DisplayTooLarge-clause-line
returns-in-DisplayTooLarge-clause-line c =
    c.push_numbers.ensures.line
    ∙ (λ i. c.args.line.now
    ++ (codes "DisplayTooLarge" ++ then_number (c.from-in-DisplayTooLarge.ensures i)
    ++ then_number (c.from-in-DisplayTooLarge-2.ensures i)))
    ∙ (λ i. c.args.line.now ++ set_fault_text (sym c.in-DisplayTooLarge.is i))

pub returns-in-CompositionFull-clause-line : goal.returns-in-CompositionFull-clause-line
returns-in-CompositionFull-clause-line c =
    c.push_numbered-in-CompositionFull.ensures.line
    ∙ ap (λ (n : ℕ). c.args.line.now ++ (codes "CompositionFull" ++ then_number n)) c.from-in-CompositionFull.ensures
    ∙ (λ i. c.args.line.now ++ set_fault_text (sym c.in-CompositionFull.is i))
