use Rattle.std.proofs.Common.{◌≡◌, sym, ap, ◌∙◌, ◌+◌, ◌∷◌, ◌++◌, List, arith, Some, Option, ℕ}
use Rattle.sub_base.specs.declared.depth.Depth.{Depth}
use Rattle.stream_syntax.specs.declared.pixel_run.Run.{Run}
use Rattle.code_strings.specs.declared.token.Token.TheVariants.{Pixels}
use Rattle.pixel_codes.specs.Private.Walk.{Pen, runs_left}
use Rattle.pixel_codes.specs.Private.Cursor.{pen_of}
use Rattle.pixel_codes.proofs.Steps.{at_token, pixels_fit, one_run, no_run, bits_left-some}
use Rattle.pixel_codes.proofs.cursor.Cursor.draw.Goals as goal

pub invariant_of-self : goal.invariant_of-self
invariant_of-self c =
    let s = c.args.self.now in
    let f = pixels_fit c.args.depth s.rest.now s.place c.args.length c.args.code c.args.next c.requires.read in
    record {
      at_head = λ e. absurd (let h = c.requires.string in cc);
      within = f.within;
      fits = omega
          (arith, f.on, f.within, s.fits);
      lines = s.lines;
    }

pub returns-then-length-eq0 : goal.returns-then-length-eq0
returns-then-length-eq0 c =
    let s = c.args.self.now in
    let f = pixels_fit c.args.depth s.rest.now s.place c.args.length c.args.code c.args.next c.requires.read in
    let none : s.x + c.args.length ≡ s.x = omega arith in (
      at_token s.region c.args.depth s.string s.rest.now s.place (pen_of s)
          (Some (Pixels c.args.length c.args.code, c.args.next)) c.requires.string c.requires.read
          ∙ ap (λ (t : List Run). t
          ++ runs_left s.region (Some c.args.depth) s.rest.now c.args.next
          (record { x = s.x + c.args.length; line = s.line; maps = s.tables }))
          (no_run s.region c.args.depth (pen_of s) c.args.length c.args.code (omega arith))
          ∙ ap (λ (n : ℕ). let pen : Pen = record { x = n; line = s.line; maps = s.tables } in runs_left
          s.region (Some c.args.depth) s.rest.now c.args.next pen) none
          ∙ ap (λ (i : Option Depth). runs_left s.region i s.rest.now c.args.next (pen_of s))
          (sym c.requires.string),
      omega (
        arith,
        bits_left-some s.string c.args.depth s.rest.now s.place c.requires.string,
        bits_left-some s.string
            c.args.depth s.rest.now c.args.next c.requires.string,
        f.on,
        f.within,
      ),
    )

pub mapped-requires : goal.mapped-requires
mapped-requires c =
    let s = c.args.self.now in
    (pixels_fit c.args.depth s.rest.now s.place c.args.length c.args.code c.args.next c.requires.read).below

pub overflow_add-self : goal.overflow_add-self
overflow_add-self c =
    let s = c.args.self.now in
    let f = pixels_fit c.args.depth s.rest.now s.place c.args.length c.args.code c.args.next c.requires.read in
    omega (arith, f.few, f.on, f.within, s.fits)

pub invariant_of-self-2 : goal.invariant_of-self-2
invariant_of-self-2 c =
    let s = c.args.self.now in
    let f = pixels_fit c.args.depth s.rest.now s.place c.args.length c.args.code c.args.next c.requires.read in
    record {
      at_head = λ e. absurd (let h = c.requires.string in cc);
      within = f.within;
      fits = omega
          (arith, f.few, f.on, f.within, s.fits);
      lines = s.lines;
    }

pub returns : goal.returns
returns c =
    let s = c.args.self.now in
    let pen : Pen = record { x = s.x + c.args.length; line = s.line; maps = s.tables } in
    at_token s.region c.args.depth s.string s.rest.now s.place (pen_of s)
    (Some (Pixels c.args.length c.args.code, c.args.next)) c.requires.string c.requires.read
    ∙ ap (λ (t : List Run). t ++ runs_left s.region (Some c.args.depth) s.rest.now c.args.next pen)
    (one_run s.region c.args.depth (pen_of s) c.args.length c.args.code c.if-length-eq0.false)
    ∙ ap (λ (n : ℕ). let run : Run = record {
      x = s.x;
      line = s.line;
      length = c.args.length;
      read = c.args.code;
      code = n;
    } in run ∷ runs_left s.region (Some c.args.depth) s.rest.now c.args.next pen) (sym c.mapped.ensures)
    ∙ ap (λ (i : Option Depth). let run : Run = record {
      x = s.x;
      line = s.line;
      length = c.args.length;
      read = c.args.code;
      code = c.mapped.result;
    } in run ∷ runs_left s.region i s.rest.now c.args.next pen)
    (sym c.requires.string)
