use Rattle.std.proofs.Common.{◌+◌, ◌*◌}
use Rattle.pixel_codes.proofs.RunTable.{run_text, run_fits, run_narrow}
use Rattle.pixel_codes.proofs.run_table.two_bit_run.Goals as goal

pub returns-clause-text : goal.returns-clause-text
returns-clause-text c = rw c.from.ensures (run_text c.args.code c.args.count c.requires.code c.requires.few)

pub returns-clause-fits : goal.returns-clause-fits
returns-clause-fits c = rw c.from.ensures (run_fits (c.args.code * 64 + c.args.count))

pub returns-clause-narrow : goal.returns-clause-narrow
returns-clause-narrow c = rw c.from.ensures (run_narrow (c.args.code * 64 + c.args.count))
