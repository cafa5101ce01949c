use Rattle.sub_base.specs.Seen.{Seen, seen}
use Rattle.splice.specs.SplicedSets.{spliced_sets}
use Rattle.splice.proofs.TopLaws.{are_read, are_surveyed, ended_cause, ended_leaves, its_streams, nothing_written, refused_cause}
use Rattle.splice.proofs.joining.splice.Goals as goal

pub returns-in-Some-clause-cause : goal.returns-in-Some-clause-cause
returns-in-Some-clause-cause g c =
    let splicing = c.args.splicing in
    let before : Seen =
    seen (g.A.Source.supplied c.args.first.now) (g.B.Source.supplied c.args.second.now)
    (g.K.Sink.received c.args.out.now) in
    let now : Seen =
    seen (g.A.Source.supplied c.read_stream.new.source) (g.B.Source.supplied c.read_stream-2.new.source)
    (g.K.Sink.received c.args.out.now) in
    let start = c.new-joined.result in
    let between = c.read_stream.new.joined in
    let joined = c.read_stream-2.new.joined in
    let one = c.in-Ok.one in
    let two = c.in-Ok-read_stream.two in
    let nothing = c.new-joined.ensures in
    let first = c.in-Ok.ensures.input in
    let second = c.in-Ok-read_stream.ensures.input in
    let streams = its_streams splicing before now start between joined one two nothing first second in
    refused_cause splicing streams before now
    (are_read splicing before now start between joined one two nothing first second) c.in-Some.fault
    (c.in-Some.ensures streams joined
    (are_surveyed splicing before now start between joined one two nothing first second c.last_time-last.result
    c.last_time-last.ensures))
    (nothing_written (g.K.Sink.received c.args.out.now))

pub send-requires-clause-kept : goal.send-requires-clause-kept
send-requires-clause-kept g c =
    let splicing = c.args.splicing in
    let before : Seen =
    seen (g.A.Source.supplied c.args.first.now) (g.B.Source.supplied c.args.second.now)
    (g.K.Sink.received c.args.out.now) in
    let now : Seen =
    seen (g.A.Source.supplied c.read_stream.new.source) (g.B.Source.supplied c.read_stream-2.new.source)
    (g.K.Sink.received c.args.out.now) in
    let start = c.new-joined.result in
    let between = c.read_stream.new.joined in
    let joined = c.read_stream-2.new.joined in
    let one = c.in-Ok.one in
    let two = c.in-Ok-read_stream.two in
    let nothing = c.new-joined.ensures in
    let first = c.in-Ok.ensures.input in
    let second = c.in-Ok-read_stream.ensures.input in
    let streams = its_streams splicing before now start between joined one two nothing first second in (
      spliced_sets splicing streams,
      (c.in-None.ensures streams joined
          (are_surveyed splicing before now start between joined one two nothing first second c.last_time-last.result
          c.last_time-last.ensures)).1,
    )

pub returns-clause-cause : goal.returns-clause-cause
returns-clause-cause g c =
    let splicing = c.args.splicing in
    let before : Seen =
    seen (g.A.Source.supplied c.args.first.now) (g.B.Source.supplied c.args.second.now)
    (g.K.Sink.received c.args.out.now) in
    let now : Seen =
    seen (g.A.Source.supplied c.read_stream.new.source) (g.B.Source.supplied c.read_stream-2.new.source)
    (g.K.Sink.received c.send.new.out) in
    let start = c.new-joined.result in
    let between = c.read_stream.new.joined in
    let joined = c.read_stream-2.new.joined in
    let one = c.in-Ok.one in
    let two = c.in-Ok-read_stream.two in
    let nothing = c.new-joined.ensures in
    let first = c.in-Ok.ensures.input in
    let second = c.in-Ok-read_stream.ensures.input in
    let streams = its_streams splicing before now start between joined one two nothing first second in
    let can =
    c.in-None.ensures streams joined
    (are_surveyed splicing before now start between joined one two nothing first second c.last_time-last.result
    c.last_time-last.ensures) in
    ended_cause splicing streams before now
    (are_read splicing before now start between joined one two nothing first second) c.send.result c.requires.ranges
    (c.send.ensures streams can.0 can.1)

pub returns-clause-nothing : goal.returns-clause-nothing
returns-clause-nothing g c =
    let splicing = c.args.splicing in
    let before : Seen =
    seen (g.A.Source.supplied c.args.first.now) (g.B.Source.supplied c.args.second.now)
    (g.K.Sink.received c.args.out.now) in
    let now : Seen =
    seen (g.A.Source.supplied c.read_stream.new.source) (g.B.Source.supplied c.read_stream-2.new.source)
    (g.K.Sink.received c.send.new.out) in
    let start = c.new-joined.result in
    let between = c.read_stream.new.joined in
    let joined = c.read_stream-2.new.joined in
    let one = c.in-Ok.one in
    let two = c.in-Ok-read_stream.two in
    let nothing = c.new-joined.ensures in
    let first = c.in-Ok.ensures.input in
    let second = c.in-Ok-read_stream.ensures.input in
    let streams = its_streams splicing before now start between joined one two nothing first second in
    let can =
    c.in-None.ensures streams joined
    (are_surveyed splicing before now start between joined one two nothing first second c.last_time-last.result
    c.last_time-last.ensures) in
    ended_leaves splicing streams _ _ c.send.result (c.send.ensures streams can.0 can.1)
