use Rattle.std.proofs.Common.{◌≡◌, ℕ, List, ◌*◌, ◌^◌, ◌-◌, ◌%◌, ◌∙◌, ap, arith, ◌++◌, ◌∷◌, []}
use Rattle.std.specs.Prelude.{replicate}
use Rattle.std.proofs.lemmas.Nat.{one_shl, mod_below, pow_pos}
use Rattle.pixel_codes.proofs.Writing.{shifted, fits_byte, filled, unfilled, high_byte, byte_out, extends_push}
use Rattle.pixel_codes.proofs.pending.Pending.finish.Goals as goal

pub overflow_cast-value : goal.overflow_cast-value
overflow_cast-value c =
    record { fits = high_byte c.loop-count.value c.loop-count.count c.loop-count-test.true c.loop-count.invariant.fits }

pub loop-count-preserved : goal.loop-count-preserved
loop-count-preserved c =
    let l = c.loop-count in
    let e : 1 * 2 ^ (l.count - 8) % 18446744073709551616 ≡ 2 ^ (l.count - 8) =
    one_shl (l.count - 8) 64 (omega (arith, l.invariant.few)) in
    record {
      few = omega (arith, l.invariant.few);
      fits = rw e (mod_below l.value (2 ^ (l.count - 8)) (pow_pos (l.count - 8)));
      text =
          rw e (byte_out l.out.items c.push.new.self.items l.value l.count c.loop-count-test.true
          c.in_ok-push.ensures.items ∙ l.invariant.text);
      extends =
          extends_push c.args.out.now.items l.out.items c.push.new.self.items _ l.invariant.extends
          c.in_ok-push.ensures.items;
    }

pub overflow_cast-value-then-count-gt0 : goal.overflow_cast-value-then-count-gt0
overflow_cast-value-then-count-gt0 c =
    let s = c.loop-count in
    let e = shifted s.value s.count (8 - s.count) s.invariant.fits (omega arith) in
    record { fits = rw e (fits_byte s.value s.count s.invariant.fits c.loop-count-test.false) }

pub returns-in_ok-push-2-clause-text : goal.returns-in_ok-push-2-clause-text
returns-in_ok-push-2-clause-text c =
    let s = c.loop-count in
    let e = shifted s.value s.count (8 - s.count) s.invariant.fits (omega arith) in
    let pushed : c.push-then-count-gt0.new.self.items ≡ s.out.items ++ s.value * 2 ^ (8 - s.count) ∷ [] =
    rw (← e) c.in_ok-push-2.ensures.items in (
      8 - s.count,
      omega (arith, c.if-count-gt0.true),
      filled s.out.items c.push-then-count-gt0.new.self.items s.value
          s.count (omega arith) pushed ∙ ap (λ (t : List ℕ). t ++ replicate (8 - s.count) 0) s.invariant.text,
    )

pub returns-else-count-gt0-clause-text : goal.returns-else-count-gt0-clause-text
returns-else-count-gt0-clause-text c =
    let s = c.loop-count in (
      0,
      omega arith,
      unfilled s.out.items s.value s.count (omega (arith, c.if-count-gt0.false))
          ∙ ap (λ (t : List ℕ). t ++ replicate 0 0) s.invariant.text,
    )
