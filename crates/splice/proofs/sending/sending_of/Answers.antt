-- The units of the segments, their lengths and their packets.
use Rattle.std.proofs.Common.{◌≡◌, ◌∙◌, ℕ, List, map, length, sym, ap, subst, arith, true}
use Rattle.std.specs.Prelude.{nat_le}
use Rattle.std.specs.List.{concat}
use Rattle.std.proofs.lemmas.Bool.Decides.{nat_tests}
use Rattle.sent_sets.specs.RawSets.{raw_packet}
use Rattle.splice.specs.Private.Sendings.{AreCutTo, IsGreatest}
use Rattle.splice.proofs.SendingLaws.{cut_by, is_longest, is_sending, units_are, units_few}
use Rattle.splice.proofs.sending.sending_of.Goals as goal

pub overflow_mul-size : goal.overflow_mul-size
overflow_mul-size c =
    let shared = c.in_ok-unit_lengths.ensures.units in
    omega (
      arith,
      c.len.ensures,
      units_few c.as_slice-2.result.now c.new-units.result.items c.unit_lengths.new.out.items shared.0
          c.new-units.ensures.items shared.1 shared.2,
      ap length c.as_slice-2.ensures.value,
      c.in_ok-lengths.ensures.few,
      c.requires.short,
    )

pub overflow_add-size : goal.overflow_add-size
overflow_add-size c =
    let shared = c.in_ok-unit_lengths.ensures.units in
    omega (
      arith,
      c.len.ensures,
      units_few c.as_slice-2.result.now c.new-units.result.items c.unit_lengths.new.out.items shared.0
          c.new-units.ensures.items shared.1 shared.2,
      ap length c.as_slice-2.ensures.value,
      c.in_ok-lengths.ensures.few,
      c.requires.short,
    )

pub returns : goal.returns
returns c set at are some =
    let lengths = c.in_ok-lengths.ensures.lengths set.segments are in
    let shared = c.in_ok-unit_lengths.ensures.units in
    let by =
    units_are set.segments c.as_slice-2.result.now c.new-units.result.items c.unit_lengths.new.out.items shared.0
    (c.as_slice-2.ensures.value ∙ lengths) c.new-units.ensures.items shared.1 shared.2 in
    let greatest : IsGreatest c.as_slice.result.now c.longest_of-longest.result =
    record { all = c.longest_of-longest.ensures.all; one = c.longest_of-longest.ensures.one } in
    let longest =
    is_longest set.segments c.as_slice.result.now c.longest_of-longest.result (c.as_slice.ensures.value ∙ lengths)
    greatest are.framed some in
    is_sending set _ c.args.segments.now c.as_slice.result.now are some (c.as_slice.ensures.value ∙ lengths) greatest by
    (omega (arith, c.len.ensures))
    (λ few.
    let fit : nat_le c.longest_of-longest.result 65524 ≡ true = grind (arith, nat_tests) in
    c.in_ok-bytes.ensures fit by.units
    (subst (λ (units : List ℕ). AreCutTo c.args.segments.now units by.units) (sym c.as_slice-3.ensures.value)
    (cut_by c.args.segments.now set.segments c.unit_lengths.new.out.items by are c.longest_of-longest.result longest
    few))
    ∙ ap (λ (time : ℕ). concat (map (raw_packet time) by.units)) (sym at))
