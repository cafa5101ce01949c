use Rattle.std.proofs.Common.{ap}
use Rattle.std.specs.List.{flat_map}
use Rattle.psi_tables.specs.Walking.{stream_value}
use Rattle.service_text.specs.Services.{services_on}
use Rattle.service_text.proofs.EntryLaws.{more_walked}
use Rattle.service_text.proofs.entries.list_streams.Goals as goal

pub loop-stream-preserved : goal.loop-stream-preserved
loop-stream-preserved c =
    more_walked _ c.loop-stream.list _ _ _ (services_on c.args.number (stream_value c.in-Some.stream)) _
    c.loop-stream.invariant c.list_stream.ensures
    (ap (flat_map (services_on c.args.number)) c.in-Some.ensures.first)
