use Rattle.std.proofs.Common.{sym, ◌∙◌, arith}
use Rattle.stream_syntax.specs.PixelCodes.{bits_of}
use Rattle.code_strings.specs.declared.token.Token.TheVariants.{Pixels, End}
use Rattle.code_strings.proofs.Bits.{length-bits_of}
use Rattle.code_strings.proofs.Strings.{reached_more, string_found, no_string, read_stands, read_further}
use Rattle.code_strings.proofs.ending.end_behind.Goals as goal

pub read_token-requires-clause-place : goal.read_token-requires-clause-place
read_token-requires-clause-place c = omega (arith, length-bits_of c.args.body.now, c.loop-token.invariant.within)

pub overflow_add-result : goal.overflow_add-result
overflow_add-result c =
    let s =
    read_stands c.args.depth c.args.body.now c.loop-token.place _ _ End _ c.read_token.ensures c.in-Some.is
    c.in-End.is in
    omega (arith, s.2, length-bits_of c.args.body.now, c.requires)

pub returns-in-End-clause-found : goal.returns-in-End-clause-found
returns-in-End-clause-found c =
    string_found c.args.depth c.args.body.now c.loop-token.place c.in-Some.next c.loop-token.invariant
    (read_stands c.args.depth c.args.body.now c.loop-token.place _ _ End _ c.read_token.ensures c.in-Some.is
    c.in-End.is)

pub loop-token-smaller : goal.loop-token-smaller
loop-token-smaller c =
    let s =
    read_stands c.args.depth c.args.body.now c.loop-token.place _ _ (Pixels c.in-Pixels.length c.in-Pixels.code) _
    c.read_token.ensures c.in-Some.is c.in-Pixels.is in
    omega (arith, read_further c.args.depth c.args.body.now c.loop-token.place _ _ _ s)

pub loop-token-preserved : goal.loop-token-preserved
loop-token-preserved c =
    reached_more c.args.depth (bits_of c.args.body.now) c.loop-token.place c.in-Some.next _ _ c.loop-token.invariant
    (read_stands c.args.depth c.args.body.now c.loop-token.place _ _ (Pixels c.in-Pixels.length c.in-Pixels.code) _
    c.read_token.ensures c.in-Some.is c.in-Pixels.is)

pub returns-clause-none : goal.returns-clause-none
returns-clause-none c =
    no_string c.args.depth c.args.body.now c.loop-token.place c.loop-token.invariant
    (sym c.read_token.ensures ∙ c.in_default.is)
