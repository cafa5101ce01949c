use Rattle.std.proofs.Common.{◌≡◌, min, take, true}
use Rattle.std.specs.List.{list_all}
use Rattle.sub_base.specs.Number.{is_digit}
use Rattle.bitmap_font.specs.Words.{value_of}
use Rattle.bitmap_font.proofs.values.magnitude_of.Given as goal

abbrev pub invariant-loop-digit : goal.invariant-loop-digit
invariant-loop-digit l = record {
  digits : list_all is_digit (take l.digit-index l.digits) ≡ true;
  number : l.magnitude ≡ min (value_of (take l.digit-index l.digits)) 2000000;
}
