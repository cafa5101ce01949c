use Rattle.std.proofs.Common.{◌∙◌, refl, sym, ap, subst, ◌<◌, ◌≤◌, ◌++◌, length, Some, arith}
use Rattle.sub_base.specs.Depth.{code_count}
use Rattle.stream_syntax.specs.PixelCodes.{bits_of}
use Rattle.code_strings.specs.declared.token.Token.{Token}
use Rattle.string_painting.specs.Painting.{laid_over}
use Rattle.string_painting.specs.Private.Reading.{token_length, token_code}
use Rattle.string_painting.proofs.Places.{few_fields, started_within, started_far}
use Rattle.string_painting.proofs.Pairs.{at_on, on_within, on_beside}
use Rattle.string_painting.proofs.Strings.{at_start, at_end, at_none}
use Rattle.string_painting.specs.declared.drawing.RowPlace.{RowPlace}
use Rattle.string_painting.proofs.painter.paint_codes.Goals as goal

pub loop-token-init : goal.loop-token-init
loop-token-init c = record {
  within = omega arith;
  room = omega (arith, few_fields c.args.brush.string (length c.args.string.now), c.requires.room);
  beside = λ x behind. refl;
  forward = omega arith;
  short = omega arith;
  walk = λ codes front behind e s.
      at_start c.args.brush.string c.args.string.now front behind codes c.args.brush.region
      (laid_over c.args.brush c.args.table.now) c.args.start.width c.args.start.x c.args.row.now e s;
}

pub returns-in-End : goal.returns-in-End
returns-in-End c =
    let moved = c.in-Some.ensures.within in
    let depth = c.args.brush.string in
    record {
      whole = λ codes front rest e s.
          let d =
          at_end c.args.brush.string c.args.string.now front rest codes c.loop-token.place c.in-Some.next
          c.args.brush.region (laid_over c.args.brush c.args.table.now) c.args.start.width c.args.start.x
          c.loop-token.x c.args.row.now c.loop-token.row s (c.loop-token.invariant.walk codes front rest e s)
          (sym c.read_token.ensures.token ∙ c.in-Some.is
          ∙ ap (λ (t : Token). Some (t, c.in-Some.next)) c.in-End.is) in
          record { painted = d.painted; size_is = c.started_bytes.ensures ∙ d.size; column_is = d.column };
      beside = c.loop-token.invariant.beside;
      inside =
          omega (
            arith,
            c.started_bytes.ensures,
            started_within depth c.in-Some.next (length c.args.string.now) moved.within,
          );
      forward = c.loop-token.invariant.forward;
      short =
          omega (
            arith,
            c.started_bytes.ensures,
            started_far depth c.in-Some.next,
            moved.on,
            c.loop-token.invariant.short,
          );
    }

pub lay_on-further-requires-clause-code : goal.lay_on-further-requires-clause-code
lay_on-further-requires-clause-code c =
    subst (λ (t : Token). token_code t < code_count c.args.brush.string) c.in-Pixels.is c.in-Some.ensures.within.narrow

pub loop-token-preserved : goal.loop-token-preserved
loop-token-preserved c =
    let moved = c.in-Some.ensures.within in
    let short : c.in-Pixels.length ≤ 284 = subst (λ (t : Token). token_length t ≤ 284) c.in-Pixels.is moved.short in
    let pen : RowPlace = record { width = c.args.start.width; x = c.loop-token.x } in
    let on = c.lay_on-further.ensures.laid in
    let few = c.lay_on-further.ensures.few in
    let within = on_within c.args.brush c.args.table.now c.args.string.now pen c.in-Pixels.length c.in-Pixels.code
    c.in-Some.next c.lay_on-further.result c.loop-token.row c.lay_on-further.new.row moved.within on in
    record {
      within = within;
      room = omega (arith, short, few, moved.on, within, c.loop-token.invariant.room);
      beside = λ x behind.
          on_beside c.args.brush c.args.table.now c.args.string.now pen c.in-Pixels.length c.in-Pixels.code
          c.in-Some.next c.lay_on-further.result c.loop-token.row c.lay_on-further.new.row on x behind
          ∙ c.loop-token.invariant.beside x behind;
      forward = omega (arith, c.loop-token.invariant.forward);
      short = omega (arith, short, moved.on, c.loop-token.invariant.short);
      walk = λ codes front behind e s.
          at_on c.args.brush c.args.table.now c.args.string.now codes (s.fill ++ bits_of behind) pen c.loop-token.place
          c.in-Some.next c.in-Pixels.length c.in-Pixels.code c.lay_on-further.result c.args.start.x c.args.row.now
          c.loop-token.row c.lay_on-further.new.row (c.loop-token.invariant.walk codes front behind e s)
          (sym c.read_token.ensures.token ∙ c.in-Some.is
          ∙ ap (λ (t : Token). Some (t, c.in-Some.next)) c.in-Pixels.is)
          on;
    }

pub returns : goal.returns
returns c = record {
  whole = λ codes front rest e s.
      absurd (at_none c.args.brush.string c.args.string.now codes (s.fill ++ bits_of rest) c.loop-token.place
      c.args.brush.region (laid_over c.args.brush c.args.table.now) c.args.start.width c.args.start.x c.loop-token.x
      c.args.row.now c.loop-token.row (c.loop-token.invariant.walk codes front rest e s)
      (sym c.read_token.ensures.token ∙ c.in_default.is));
  beside = c.loop-token.invariant.beside;
  inside = omega arith;
  forward = c.loop-token.invariant.forward;
  short =
      omega (
        arith,
        c.loop-token.invariant.within,
        few_fields c.args.brush.string (length c.args.string.now),
        c.loop-token.invariant.short,
      );
}

pub started_bytes-requires : goal.started_bytes-requires
started_bytes-requires c =
    omega (
      arith,
      c.in-Some.ensures.within.within,
      few_fields c.args.brush.string (length c.args.string.now),
      c.requires.room,
    )
