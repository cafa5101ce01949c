use Rattle.string_painting.proofs.columns.paint_pair.Goals as goal

pub returns-else-codes_over-codes_per_byte : goal.returns-else-codes_over-codes_per_byte
returns-else-codes_over-codes_per_byte c = record {
  mid = c.paint_column.new.row;
  before = c.paint_column.ensures;
  behind = c.paint_column-else-codes_over-codes_per_byte.ensures;
}
