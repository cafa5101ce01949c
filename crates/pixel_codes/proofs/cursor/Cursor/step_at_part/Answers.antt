use Rattle.std.proofs.Common.{refl, sym, ap, ◌∙◌, ◌+◌, arith, Some, None, Option}
use Rattle.sub_base.specs.declared.depth.Depth.{Depth}
use Rattle.pixel_codes.specs.declared.part.Head.TheVariants.{PixelString, Table, LineEnd}
use Rattle.pixel_codes.specs.Private.Walk.{Pen, runs_left}
use Rattle.pixel_codes.specs.Private.Cursor.{pen_of}
use Rattle.pixel_codes.proofs.Steps.{at_end, at_part, past_table, cut_table, bits_left-none}
use Rattle.pixel_codes.proofs.cursor.Cursor.step_at_part.Goals as goal

pub returns-in_default : goal.returns-in_default
returns-in_default c =
    let s = c.args.self.now in
    let e = at_end s.region s.string s.rest.now s.place (pen_of s) c.requires c.in_default.ensures.cases in
    (e, e)

pub invariant_of-self-in-Some-Table : goal.invariant_of-self-in-Some-Table
invariant_of-self-in-Some-Table c =
    let s = c.args.self.now in
    let l = c.in-Some.ensures.cases.1 in
    let p = s.at_head c.requires in
    let b = c.split_at.ensures.back_len in
    record {
      at_head = λ _. refl;
      within = omega arith;
      fits = omega (arith, l, p, b, s.fits);
      lines = omega
          (arith, l, b, s.lines);
    }

pub invariant_of-self : goal.invariant_of-self
invariant_of-self c =
    let s = c.args.self.now in
    let l = c.in-Some.ensures.cases.1 in
    let p = s.at_head c.requires in
    record {
      at_head = λ _. refl;
      within = omega arith;
      fits = omega (arith, l, p, s.fits);
      lines = omega
          (arith, l, s.lines);
    }

pub returns-in-None : goal.returns-in-None
returns-in-None c =
    let s = c.args.self.now in
    let e =
    at_part s.region s.string s.rest.now c.in-Some.body.now s.place c.in-Some.first.now (pen_of s) c.head_of.result
    None c.requires c.in-Some.ensures.cases.0 c.head_of.ensures c.in-None.is in
    (e, e)

pub returns-in-Some-LineEnd : goal.returns-in-Some-LineEnd
returns-in-Some-LineEnd c =
    let s = c.args.self.now in
    let pen : Pen = record { x = 0; line = s.line + 1; maps = s.tables } in (
      at_part s.region s.string s.rest.now c.in-Some.body.now s.place c.in-Some.first.now (pen_of s) c.head_of.result
          (Some LineEnd) c.requires c.in-Some.ensures.cases.0 c.head_of.ensures
          (c.in-Some-LineEnd.is ∙ ap Some c.in-Some-LineEnd.field-0-is)
          ∙ ap (λ (i : Option Depth). runs_left s.region i c.in-Some.body.now 0 pen) (sym c.requires),
      omega (
        arith,
        bits_left-none s.string s.rest.now s.place c.requires,
        bits_left-none s.string c.in-Some.body.now 0
            c.requires,
        c.in-Some.ensures.cases.1,
      ),
    )

pub returns-in-Some-PixelString : goal.returns-in-Some-PixelString
returns-in-Some-PixelString c =
    let s = c.args.self.now in (
      at_part s.region s.string s.rest.now c.in-Some.body.now s.place c.in-Some.first.now (pen_of s) c.head_of.result
          (Some (PixelString c.in-Some-PixelString.depth)) c.requires c.in-Some.ensures.cases.0 c.head_of.ensures
          (c.in-Some-PixelString.is ∙ ap Some c.in-Some-PixelString.field-0-is),
      omega (arith, bits_left-none s.string s.rest.now s.place c.requires, c.in-Some.ensures.cases.1),
    )

pub returns-then-body-size : goal.returns-then-body-size
returns-then-body-size c =
    let s = c.args.self.now in
    let k = c.in-Some-Table.kind in
    let e =
    at_part s.region s.string s.rest.now c.in-Some.body.now s.place c.in-Some.first.now (pen_of s) c.head_of.result
    (Some (Table k)) c.requires c.in-Some.ensures.cases.0 c.head_of.ensures
    (c.in-Some-Table.is ∙ ap Some c.in-Some-Table.field-0-is)
    ∙ cut_table s.region c.in-Some.body.now k c.size_of_table-size.result (pen_of s) c.size_of_table-size.ensures
    c.if-body-size.true in
    (e, e)

pub returns-else-body-size : goal.returns-else-body-size
returns-else-body-size c =
    let s = c.args.self.now in
    let k = c.in-Some-Table.kind in
    let pen : Pen = record { x = s.x; line = s.line; maps = c.set.new.self } in (
      at_part s.region s.string s.rest.now c.in-Some.body.now s.place c.in-Some.first.now (pen_of s) c.head_of.result
          (Some (Table k)) c.requires c.in-Some.ensures.cases.0 c.head_of.ensures
          (c.in-Some-Table.is ∙ ap Some c.in-Some-Table.field-0-is)
          ∙ past_table s.region c.in-Some.body.now c.split_at.result.0.now c.split_at.result.1.now k
          c.size_of_table-size.result (pen_of s) c.set.new.self c.size_of_table-size.ensures
          c.if-body-size.false c.split_at.ensures.front c.split_at.ensures.back c.set.ensures
          ∙ ap (λ (i : Option Depth). runs_left s.region i c.split_at.result.1.now 0 pen) (sym c.requires),
      omega (
        arith,
        bits_left-none s.string s.rest.now s.place c.requires,
        bits_left-none s.string
            c.split_at.result.1.now 0 c.requires,
        c.in-Some.ensures.cases.1,
        c.split_at.ensures.back_len,
      ),
    )
