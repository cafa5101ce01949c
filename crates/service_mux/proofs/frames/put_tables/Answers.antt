use Rattle.service_mux.proofs.TableLaws.{put_all_tables}
use Rattle.service_mux.proofs.frames.put_tables.Goals as goal

pub returns-clause-puts : goal.returns-clause-puts
returns-clause-puts g c =
    put_all_tables c.args.mux.now.pair _ _ _ _ _ _ _ _ c.args.mux.now c.requires c.put_table.ensures.puts
    c.put_table-2.ensures.puts c.put_table-3.ensures.puts
