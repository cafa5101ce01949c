use Rattle.std.proofs.Common.{◌≡◌, ◌*◌, ◌^◌, ◌+◌, ◌-◌, ◌%◌, ◌<◌, ◌++◌, ◌∙◌, ℕ, List, ap, arith}
use Rattle.std.proofs.lemmas.Nat.{one_shl, shr_below}
use Rattle.stream_syntax.specs.PixelCodes.{bits, bits_of}
use Rattle.pixel_codes.proofs.Writing.{shifted, joined_below, fits_word, begun, word_out}
use Rattle.pixel_codes.proofs.pending.Pending.push.Goals as goal

pub overflow_add-all : goal.overflow_add-all
overflow_add-all c =
    let s = c.args.self.now in
    let e = shifted s.value s.count c.args.width s.fits (omega (arith, s.few, c.requires.width)) in
    omega (
      arith,
      e,
      c.from.ensures,
      fits_word s.value c.args.value s.count c.args.width s.fits c.requires.value
          (omega (arith, s.few, c.requires.width)),
    )

pub invariant_of-self : goal.invariant_of-self
invariant_of-self c =
    let s = c.args.self.now in
    let e = shifted s.value s.count c.args.width s.fits (omega (arith, s.few, c.requires.width)) in
    record {
      few = omega arith;
      fits = rw (e, c.from.ensures)
          (joined_below s.value c.args.value s.count c.args.width s.fits c.requires.value);
    }

pub returns-then-count-lt32-clause-text : goal.returns-then-count-lt32-clause-text
returns-then-count-lt32-clause-text c =
    let s = c.args.self.now in
    let e = shifted s.value s.count c.args.width s.fits (omega (arith, s.few, c.requires.width)) in
    rw (e, c.from.ensures)
    (begun (bits_of c.args.out.now.items) s.value c.args.value s.count c.args.width c.requires.value)

pub overflow_cast-word-2 : goal.overflow_cast-word-2
overflow_cast-word-2 c =
    let s = c.args.self.now in
    let e = shifted s.value s.count c.args.width s.fits (omega (arith, s.few, c.requires.width)) in
    let k : 32 + (s.count + c.args.width - 32) ≡ s.count + c.args.width = omega arith in
    let j = joined_below s.value c.args.value s.count c.args.width s.fits c.requires.value in
    let b : (s.value * 2 ^ c.args.width % 18446744073709551616 + c.from.result)
    < 2 ^ (32 + (s.count + c.args.width - 32)) = rw (e, c.from.ensures, k) j in
    record { fits = shr_below _ 32 (s.count + c.args.width - 32) b }

pub returns-clause-text : goal.returns-clause-text
returns-clause-text c =
    let s = c.args.self.now in
    let rest = s.count + c.args.width - 32 in
    let all = s.value * 2 ^ c.args.width % 18446744073709551616 + c.from.result in
    let e = shifted s.value s.count c.args.width s.fits (omega (arith, s.few, c.requires.width)) in
    let one : 1 * 2 ^ rest % 18446744073709551616 ≡ 2 ^ rest =
    one_shl rest 64 (omega (arith, s.few, c.requires.width)) in
    let k : 32 + rest ≡ s.count + c.args.width = omega arith in
    let b : bits_of c.args.out.now.items
    ++ bits (s.count + c.args.width) all ≡ (bits_of c.args.out.now.items ++ bits s.count s.value)
    ++ bits c.args.width c.args.value = rw (e, c.from.ensures)
    (begun (bits_of c.args.out.now.items) s.value c.args.value s.count c.args.width c.requires.value) in
    ap (λ (n : ℕ). bits_of c.extend_from_slice.new.self.items ++ bits rest (all % n)) one
    ∙ word_out c.args.out.now.items c.extend_from_slice.new.self.items all (s.count + c.args.width) rest k
    (c.in_ok-extend_from_slice.ensures.items
    ∙ ap (λ (t : List ℕ). c.args.out.now.items ++ t) c.to_be_bytes.ensures)
    ∙ b
