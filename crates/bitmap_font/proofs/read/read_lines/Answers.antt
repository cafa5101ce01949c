use Rattle.std.proofs.Common.{◌≡◌, ◌∙◌, ◌+◌, ◌≤◌, ℕ, Result, Err, IfErr, IfSome, sym, ap, subst, arith}
use Rattle.bitmap_font.specs.declared.font.Font.{Font}
use Rattle.bitmap_font.specs.declared.font_fault.FontFault.{FontFault}
use Rattle.bitmap_font.specs.declared.font_fault.FontFault.TheVariants.{Refused}
use Rattle.bitmap_font.specs.declared.font_fault.FontKind.{FontKind}
use Rattle.bitmap_font.specs.declared.line_fault.LineFault.{LineFault}
use Rattle.bitmap_font.specs.Font.{FontValue, font_with}
use Rattle.bitmap_font.specs.Reading.{IsFont}
use Rattle.bitmap_font.specs.Past.{line_of}
use Rattle.bitmap_font.specs.Refusal.{IsFontFault}
use Rattle.bitmap_font.specs.Private.Reader.{IsLineFault, past_of}
use Rattle.bitmap_font.specs.LineFaults.{fault_by}
use Rattle.bitmap_font.proofs.SettingLaws.{IfOk-with}
use Rattle.bitmap_font.proofs.LineLaws.{length-lines}
use Rattle.bitmap_font.proofs.ReadLaws.{HasRead-first, HasRead-line, IsRefused-line, IsRefused-first, IsRefused-all, IsFont-end, length-font_lines}
use Rattle.bitmap_font.proofs.read.read_lines.Goals as goal
use Rattle.bitmap_font.proofs.read.read_lines.Goals.{then-number-eq0+else-not-begins_font, else-number-eq0+in-Ok-false}

abbrev refused_of : ℕ → FontKind → Result Font FontFault
refused_of line kind = Err (Refused line kind)

pub refusal-requires-in-Err-Wrong : goal.refusal-requires-in-Err-Wrong
refusal-requires-in-Err-Wrong c =
    omega (arith, c.loop-text.invariant.valid.there, length-font_lines c.args.bytes.now, length-lines c.args.bytes.now)

pub refusal-requires-2 : goal.refusal-requires-2
refusal-requires-2 c =
    omega (arith, c.loop-text.invariant.valid.there, length-font_lines c.args.bytes.now, length-lines c.args.bytes.now)

pub overflow_add-number : goal.overflow_add-number
overflow_add-number c =
    omega (arith, c.loop-text.invariant.valid.there, length-font_lines c.args.bytes.now, length-lines c.args.bytes.now)

pub returns-in-Err-Wrong-clause-refused : goal.returns-in-Err-Wrong-clause-refused
returns-in-Err-Wrong-clause-refused c =
    let later : 1 ≤ c.loop-text.number = omega arith in
    let IsRefusal : Result Font FontFault → Type 0 = λ outcome. IfErr outcome (IsFontFault c.args.bytes.now) in
    let Because : LineFault → Type 0 =
    λ fault. IsLineFault (fault_by (past_of c.loop-text.reader) (line_of c.in-Some.text.now)) fault in
    let wrong = subst Because c.in-Err-Wrong.field-0-is c.in-Err-Wrong.ensures.refused in
    let answer = λ (kind : FontKind). refused_of (c.loop-text.number + 1) kind in
    subst IsRefusal (sym (c.refusal-in-Err-Wrong.ensures ∙ ap answer c.in-Err-Wrong.kind-is))
    (IsRefused-line c.args.bytes.now c.loop-text.number c.loop-text.text-iterator c.next.new.self c.in-Some.text.now
    c.loop-text.reader c.loop-text.invariant c.in-Some.ensures.steps
    later c.in-Err-Wrong.kind wrong)

pub returns-clause-refused : goal.returns-clause-refused
returns-clause-refused c =
    let IsRefusal : Result Font FontFault → Type 0 = λ outcome. IfErr outcome (IsFontFault c.args.bytes.now) in
    subst IsRefusal (sym c.refusal-2.ensures)
    (IsRefused-all c.args.bytes.now c.loop-text.number c.loop-text.text-iterator c.loop-text.reader
    c.loop-text.invariant c.in-None.ensures.steps.0)

pub returns-in-Ok-true-clause-font : goal.returns-in-Ok-true-clause-font
returns-in-Ok-true-clause-font c =
    let later : 1 ≤ c.loop-text.number = omega arith in
    let law =
    IsFont-end c.args.bytes.now c.loop-text.number c.loop-text.text-iterator c.next.new.self c.in-Some.text.now
    c.loop-text.reader c.loop-text.invariant c.in-Some.ensures.steps
    later c.take.new.self c.in-Ok-true.ensures.reader c.in-Ok-true.ensures.valid c.in-Ok-true.ensures.next
    (sym c.in-Ok-true.ensures.end ∙ c.in-Ok-true.field-0-test) in
    let Made : FontValue
    → Type 0 = λ font. IfSome c.take.new.self.bounds
    (λ bounds. font ≡ font_with bounds c.take.new.self.glyphs.items) in
    IfOk-with Made Made (IsFont c.args.bytes.now) c.finished.result c.finished.ensures.font c.finished.ensures.font
    (λ font made _. law.1 font made)

pub loop-text-preserved : goal.loop-text-preserved
loop-text-preserved c =
    elim c.if-number-eq0.branch [
      | then-number-eq0+else-not-begins_font w ↦
          rw w.reader-is
          (HasRead-first c.args.bytes.now c.loop-text.number c.loop-text.text-iterator c.next.new.self
          c.in-Some.text.now c.loop-text.reader c.loop-text.invariant c.in-Some.ensures.steps
          w.if-number-eq0.true (w.begins_font.ensures.yes w.if-not-begins_font.false))
      | else-number-eq0+in-Ok-false w ↦
          let later : 1 ≤ c.loop-text.number = omega arith in
          rw w.reader-is
          (HasRead-line c.args.bytes.now c.loop-text.number c.loop-text.text-iterator c.next.new.self c.in-Some.text.now
          c.loop-text.reader c.loop-text.invariant c.in-Some.ensures.steps
          later w.take.new.self w.in-Ok-false.ensures.reader w.in-Ok-false.ensures.valid w.in-Ok-false.ensures.next
          (sym w.in-Ok-false.ensures.end ∙ w.in-Ok-false.field-0-test))
    ]

pub returns-then-not-begins_font-clause-refused : goal.returns-then-not-begins_font-clause-refused
returns-then-not-begins_font-clause-refused c =
    let IsRefusal : Result Font FontFault → Type 0 = λ outcome. IfErr outcome (IsFontFault c.args.bytes.now) in
    subst IsRefusal (sym c.refusal.ensures)
    (IsRefused-first c.args.bytes.now c.loop-text.number c.loop-text.text-iterator c.next.new.self c.in-Some.text.now
    c.loop-text.reader c.loop-text.invariant c.in-Some.ensures.steps
    c.if-number-eq0.true (c.begins_font.ensures.no c.if-not-begins_font.true))

pub finished-requires-clause-bounds : goal.finished-requires-clause-bounds
finished-requires-clause-bounds c =
    let later : 1 ≤ c.loop-text.number = omega arith in
    let law =
    IsFont-end c.args.bytes.now c.loop-text.number c.loop-text.text-iterator c.next.new.self c.in-Some.text.now
    c.loop-text.reader c.loop-text.invariant c.in-Some.ensures.steps
    later c.take.new.self c.in-Ok-true.ensures.reader c.in-Ok-true.ensures.valid c.in-Ok-true.ensures.next
    (sym c.in-Ok-true.ensures.end ∙ c.in-Ok-true.field-0-test) in
    law.0
