use Rattle.std.proofs.Common.{refl, sym, ap, ◌∙◌, List, arith, Some, None, ℕ}
use Rattle.code_strings.specs.declared.token.Token.TheVariants.{End}
use Rattle.pixel_codes.specs.Private.Walk.{runs_left}
use Rattle.pixel_codes.specs.Private.Cursor.{pen_of}
use Rattle.pixel_codes.proofs.Steps.{at_token, end_fits, read_is, bits_left-some}
use Rattle.pixel_codes.proofs.cursor.Cursor.step_in_string.Goals as goal

pub overflow_add-next : goal.overflow_add-next
overflow_add-next c =
    let s = c.args.self.now in
    let e = c.in-Some-End-default in
    let f =
    end_fits c.args.depth s.rest.now s.place e.next
    (read_is c.args.depth s.rest.now s.place _ _ End _ c.read_token.ensures e.is e.field-0-0-is) in
    omega (arith, f, s.lines)

pub split_at-requires : goal.split_at-requires
split_at-requires c =
    let s = c.args.self.now in
    let e = c.in-Some-End-default in
    let f =
    end_fits c.args.depth s.rest.now s.place e.next
    (read_is c.args.depth s.rest.now s.place _ _ End _ c.read_token.ensures e.is e.field-0-0-is) in
    omega (arith, f)

pub invariant_of-self : goal.invariant_of-self
invariant_of-self c =
    let s = c.args.self.now in
    let e = c.in-Some-End-default in
    let f =
    end_fits c.args.depth s.rest.now s.place e.next
    (read_is c.args.depth s.rest.now s.place _ _ End _ c.read_token.ensures e.is e.field-0-0-is) in
    let b = c.split_at.ensures.back_len in
    record {
      at_head = λ _. refl;
      within = omega arith;
      fits = omega (arith, f, b, s.fits);
      lines = omega
          (arith, b, s.lines);
    }

pub returns-in-None : goal.returns-in-None
returns-in-None c =
    let s = c.args.self.now in
    let e =
    at_token s.region c.args.depth s.string s.rest.now s.place (pen_of s) None c.requires
    (sym c.read_token.ensures ∙ c.in-None.is) in
    (e, e)

pub returns-in-Some-End-default : goal.returns-in-Some-End-default
returns-in-Some-End-default c =
    let s = c.args.self.now in
    let e = c.in-Some-End-default in
    let read = read_is c.args.depth s.rest.now s.place _ _ End _ c.read_token.ensures e.is e.field-0-0-is in
    let f = end_fits c.args.depth s.rest.now s.place e.next read in (
      at_token s.region c.args.depth s.string s.rest.now s.place (pen_of s) (Some (End, e.next)) c.requires read
          ∙ ap (λ (t : List ℕ). runs_left s.region None t 0 (pen_of s)) (sym c.split_at.ensures.back),
      omega (arith, bits_left-some s.string c.args.depth s.rest.now s.place c.requires, f, c.split_at.ensures.back_len),
    )
