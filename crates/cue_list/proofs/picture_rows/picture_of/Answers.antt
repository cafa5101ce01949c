use Rattle.std.proofs.Common.{arith}
use Rattle.cue_list.proofs.picture_rows.picture_of.Goals as goal

pub of_codes-requires : goal.of_codes-requires
of_codes-requires c = record {
  wide = (c.requires.wide, omega arith);
  high = (c.requires.high, omega arith);
  full = c.in_ok-codes.ensures.count;
  each = c.in_ok-codes.ensures.range;
}
