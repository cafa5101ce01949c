use Rattle.std.proofs.Common.{◌∙◌, ◌+◌, ◌-◌, [], true, false, refl, sym, subst, arith}
use Rattle.command_text.specs.Putting.{PutsOut}
use Rattle.sub_base.specs.Endpoints.{Supplied}
use Rattle.sub_base.specs.Seen.{Seen, seen}
use Rattle.sub_base.specs.declared.status.ToolStatus.{ToolStatus}
use Rattle.sub_base.specs.declared.status.ToolStatus.TheVariants as tool
use Rattle.service_mux.specs.Private.Frames.{HaveJoined, HaveTurned, frame_bytes}
use Rattle.service_mux.specs.Private.Lanes.{HasPassed, IsSound}
use Rattle.service_mux.specs.declared.lane.Lane.{Lane}
use Rattle.service_mux.specs.declared.mux_fault.MuxFault.{MuxFault}
use Rattle.service_mux.specs.declared.mux_fault.MuxFault.TheVariants as mux
use Rattle.service_mux.specs.declared.mux_words.ServicePair.{ServicePair}
use Rattle.service_mux.proofs.JoinLaws.{goes_further, join_more, some_more}
use Rattle.service_mux.proofs.JoinSteps.{few_frames, first_on, join_none, second_on}
use Rattle.service_mux.proofs.StopLaws.{IsCaused, closed, done_by, first_stopped, first_unsynced_by, second_stopped, second_unsynced_by, unwritten}
use Rattle.service_mux.proofs.mux.put_all.Goals as goal

pub loop-mux-init : goal.loop-mux-init
loop-mux-init g c =
    let kept = c.put_tables.ensures.kept in
    let first : Supplied = g.A.Source.supplied c.args.first.now in
    let second : Supplied = g.B.Source.supplied c.args.second.now in
    let start : Seen = seen first second (g.K.Sink.received c.args.out.now) in
    record {
      sound = (subst IsSound (sym kept.one) c.requires.sound.0, subst IsSound (sym kept.two) c.requires.sound.1);
      pair = kept.pair;
      turned =
          subst (λ (p : ServicePair). HaveTurned p c.put_tables.new.mux 0) (sym kept.pair) c.put_tables.ensures.turned;
      joined = join_none c.args.mux.now.pair start _ _ _ _ c.put_tables.new.buffer
          (subst (λ (l : Lane). HasPassed first first l []) (sym kept.one) (c.requires.first first))
          (subst (λ (l : Lane). HasPassed second second l []) (sym kept.two) (c.requires.second second))
          c.requires.buffer c.put_tables.ensures.puts;
    }

pub returns-in-Err : goal.returns-in-Err
returns-in-Err g c are =
    let start : Seen =
    seen (g.A.Source.supplied c.args.first.now) (g.B.Source.supplied c.args.second.now)
    (g.K.Sink.received c.args.out.now) in
    let pair = c.args.mux.now.pair in
    let frame = c.loop-mux.frame in
    let old = c.loop-mux.invariant.joined.passed in
    let passed =
    first_on start (g.A.Source.supplied c.loop-mux.first) (g.A.Source.supplied c.reach.new.source)
    (g.B.Source.supplied c.loop-mux.second) c.loop-mux.mux.one.lane c.reach.new.self c.loop-mux.mux.two.lane frame
    old c.reach.ensures.keeps c.reach.ensures.ended c.reach.ensures.kept in
    let Caused : ToolStatus MuxFault
    → Type 0 = IsCaused pair start (g.A.Source.supplied c.reach.new.source)
    (g.B.Source.supplied c.loop-mux.second) (g.K.Sink.received c.close_tool.new.out) c.reach.new.self
    c.loop-mux.mux.two.lane frame passed in
    closed pair start _ _ (g.K.Sink.received c.close_tool.new.out) _ _ frame passed c.stopped.result c.close_tool.result
    (λ written. subst Caused (sym c.stopped.ensures)
    (first_stopped pair start _ _ (g.K.Sink.received c.close_tool.new.out) _ _ frame passed
    (g.A.Source.supplied c.loop-mux.first) c.in-Err.stop old.first_kept
    (c.in-Err.ensures.stop start.first old.first old.first_passed) written))
    (c.close_tool.ensures start.out _ c.loop-mux.invariant.joined.out)

pub returns-then-lacks_sync : goal.returns-then-lacks_sync
returns-then-lacks_sync g c are =
    let start : Seen =
    seen (g.A.Source.supplied c.args.first.now) (g.B.Source.supplied c.args.second.now)
    (g.K.Sink.received c.args.out.now) in
    let pair = c.args.mux.now.pair in
    let frame = c.loop-mux.frame in
    let old = c.loop-mux.invariant.joined.passed in
    let passed =
    first_on start (g.A.Source.supplied c.loop-mux.first) (g.A.Source.supplied c.reach.new.source)
    (g.B.Source.supplied c.loop-mux.second) c.loop-mux.mux.one.lane c.reach.new.self c.loop-mux.mux.two.lane frame
    old c.reach.ensures.keeps c.reach.ensures.ended c.reach.ensures.kept in
    closed pair start _ _ (g.K.Sink.received c.close_tool-then-lacks_sync.new.out) _ _ frame passed
    (tool.Refused (mux.FirstNoSync frame)) c.close_tool-then-lacks_sync.result
    (first_unsynced_by pair start _ _ (g.K.Sink.received c.close_tool-then-lacks_sync.new.out) _ _ frame passed
    c.in-Ok.ensures.sound c.loop-mux.invariant.sound.1 c.in-Ok.more c.in-Ok.ensures.reached
    (sym c.lacks_sync.ensures ∙ c.if-lacks_sync.true))
    (c.close_tool-then-lacks_sync.ensures start.out _ c.loop-mux.invariant.joined.out)

pub returns-in-Err-reach : goal.returns-in-Err-reach
returns-in-Err-reach g c are =
    let start : Seen =
    seen (g.A.Source.supplied c.args.first.now) (g.B.Source.supplied c.args.second.now)
    (g.K.Sink.received c.args.out.now) in
    let pair = c.args.mux.now.pair in
    let frame = c.loop-mux.frame in
    let old = c.loop-mux.invariant.joined.passed in
    let mid =
    first_on start (g.A.Source.supplied c.loop-mux.first) (g.A.Source.supplied c.reach.new.source)
    (g.B.Source.supplied c.loop-mux.second) c.loop-mux.mux.one.lane c.reach.new.self c.loop-mux.mux.two.lane frame
    old c.reach.ensures.keeps c.reach.ensures.ended c.reach.ensures.kept in
    let passed =
    second_on start (g.A.Source.supplied c.reach.new.source) (g.B.Source.supplied c.loop-mux.second)
    (g.B.Source.supplied c.reach-in-loop-mux.new.source) c.reach.new.self c.loop-mux.mux.two.lane
    c.reach-in-loop-mux.new.self frame mid c.reach-in-loop-mux.ensures.keeps c.reach-in-loop-mux.ensures.ended
    c.reach-in-loop-mux.ensures.kept in
    let Caused : ToolStatus MuxFault
    → Type 0 = IsCaused pair start (g.A.Source.supplied c.reach.new.source)
    (g.B.Source.supplied c.reach-in-loop-mux.new.source) (g.K.Sink.received c.close_tool-in-Err-reach.new.out)
    c.reach.new.self c.reach-in-loop-mux.new.self frame passed in
    closed pair start _ _ (g.K.Sink.received c.close_tool-in-Err-reach.new.out) _ _ frame passed
    c.stopped-in-Err-reach.result c.close_tool-in-Err-reach.result
    (λ written. subst Caused (sym c.stopped-in-Err-reach.ensures)
    (second_stopped pair start _ _ (g.K.Sink.received c.close_tool-in-Err-reach.new.out) _ _ frame passed
    (g.B.Source.supplied c.loop-mux.second) c.in-Err-reach.stop old.second_kept
    (c.in-Err-reach.ensures.stop start.second old.second old.second_passed) written))
    (c.close_tool-in-Err-reach.ensures start.out _ c.loop-mux.invariant.joined.out)

pub returns-then-lacks_sync-2 : goal.returns-then-lacks_sync-2
returns-then-lacks_sync-2 g c are =
    let start : Seen =
    seen (g.A.Source.supplied c.args.first.now) (g.B.Source.supplied c.args.second.now)
    (g.K.Sink.received c.args.out.now) in
    let pair = c.args.mux.now.pair in
    let frame = c.loop-mux.frame in
    let old = c.loop-mux.invariant.joined.passed in
    let mid =
    first_on start (g.A.Source.supplied c.loop-mux.first) (g.A.Source.supplied c.reach.new.source)
    (g.B.Source.supplied c.loop-mux.second) c.loop-mux.mux.one.lane c.reach.new.self c.loop-mux.mux.two.lane frame
    old c.reach.ensures.keeps c.reach.ensures.ended c.reach.ensures.kept in
    let passed =
    second_on start (g.A.Source.supplied c.reach.new.source) (g.B.Source.supplied c.loop-mux.second)
    (g.B.Source.supplied c.reach-in-loop-mux.new.source) c.reach.new.self c.loop-mux.mux.two.lane
    c.reach-in-loop-mux.new.self frame mid c.reach-in-loop-mux.ensures.keeps c.reach-in-loop-mux.ensures.ended
    c.reach-in-loop-mux.ensures.kept in
    closed pair start _ _ (g.K.Sink.received c.close_tool-then-lacks_sync-2.new.out) _ _ frame passed
    (tool.Refused (mux.SecondNoSync frame)) c.close_tool-then-lacks_sync-2.result
    (second_unsynced_by pair start _ _ (g.K.Sink.received c.close_tool-then-lacks_sync-2.new.out) _ _ frame passed
    c.in-Ok.ensures.sound c.in-Ok-reach.ensures.sound c.in-Ok.more c.in-Ok-reach.more c.in-Ok.ensures.reached
    (sym c.lacks_sync.ensures ∙ c.if-lacks_sync.false)
    c.in-Ok-reach.ensures.reached (sym c.lacks_sync-in-loop-mux.ensures ∙ c.if-lacks_sync-2.true))
    (c.close_tool-then-lacks_sync-2.ensures start.out _ c.loop-mux.invariant.joined.out)

pub returns-then-is_end : goal.returns-then-is_end
returns-then-is_end g c are =
    let start : Seen =
    seen (g.A.Source.supplied c.args.first.now) (g.B.Source.supplied c.args.second.now)
    (g.K.Sink.received c.args.out.now) in
    let pair = c.args.mux.now.pair in
    let frame = c.loop-mux.frame in
    let old = c.loop-mux.invariant.joined.passed in
    let mid =
    first_on start (g.A.Source.supplied c.loop-mux.first) (g.A.Source.supplied c.reach.new.source)
    (g.B.Source.supplied c.loop-mux.second) c.loop-mux.mux.one.lane c.reach.new.self c.loop-mux.mux.two.lane frame
    old c.reach.ensures.keeps c.reach.ensures.ended c.reach.ensures.kept in
    let passed =
    second_on start (g.A.Source.supplied c.reach.new.source) (g.B.Source.supplied c.loop-mux.second)
    (g.B.Source.supplied c.reach-in-loop-mux.new.source) c.reach.new.self c.loop-mux.mux.two.lane
    c.reach-in-loop-mux.new.self frame mid c.reach-in-loop-mux.ensures.keeps c.reach-in-loop-mux.ensures.ended
    c.reach-in-loop-mux.ensures.kept in
    closed pair start _ _ (g.K.Sink.received c.close_tool-then-is_end.new.out) _ _ frame passed tool.Done
    c.close_tool-then-is_end.result
    (done_by pair start _ _ (g.K.Sink.received c.close_tool-then-is_end.new.out) _ _ frame passed are
    c.in-Ok.ensures.sound c.in-Ok-reach.ensures.sound c.in-Ok.more
    c.in-Ok-reach.more c.in-Ok.ensures.reached c.in-Ok-reach.ensures.reached
    (sym c.is_end.ensures ∙ c.if-is_end.true))
    (c.close_tool-then-is_end.ensures start.out _ c.loop-mux.invariant.joined.out)

pub overflow_add-frame : goal.overflow_add-frame
overflow_add-frame g c =
    let old = c.loop-mux.invariant.joined.passed in
    let few = few_frames _ _ _ _ _ c.loop-mux.frame old c.loop-mux.invariant.sound.0 c.loop-mux.invariant.sound.1 in
    omega (arith, few)

pub loop-mux-smaller : goal.loop-mux-smaller
loop-mux-smaller g c =
    let old = c.loop-mux.invariant.joined.passed in
    let few = few_frames _ _ _ _ _ c.loop-mux.frame old c.loop-mux.invariant.sound.0 c.loop-mux.invariant.sound.1 in
    omega (arith, few)

pub loop-mux-preserved : goal.loop-mux-preserved
loop-mux-preserved g c =
    let start : Seen =
    seen (g.A.Source.supplied c.args.first.now) (g.B.Source.supplied c.args.second.now)
    (g.K.Sink.received c.args.out.now) in
    let pair = c.args.mux.now.pair in
    let frame = c.loop-mux.frame in
    let old = c.loop-mux.invariant.joined.passed in
    let first : Supplied = g.A.Source.supplied c.reach.new.source in
    let second : Supplied = g.B.Source.supplied c.reach-in-loop-mux.new.source in
    let one = c.reach.new.self in
    let two = c.reach-in-loop-mux.new.self in
    let mid =
    first_on start (g.A.Source.supplied c.loop-mux.first) first (g.B.Source.supplied c.loop-mux.second)
    c.loop-mux.mux.one.lane one c.loop-mux.mux.two.lane frame old c.reach.ensures.keeps c.reach.ensures.ended
    c.reach.ensures.kept in
    let passed =
    second_on start first (g.B.Source.supplied c.loop-mux.second) second one c.loop-mux.mux.two.lane two frame mid
    c.reach-in-loop-mux.ensures.keeps c.reach-in-loop-mux.ensures.ended c.reach-in-loop-mux.ensures.kept in
    let joined : HaveJoined pair start (seen first second (g.K.Sink.received c.loop-mux.out)) one two c.loop-mux.buffer
    frame = record { passed = passed; out = c.loop-mux.invariant.joined.out } in
    let first_goes =
    goes_further pair.one start.first first one c.put_frame.new.mux.one.lane passed.first frame c.in-Ok.more
    passed.first_passed passed.first_count c.in-Ok.ensures.reached c.put_frame.ensures.first
    c.put_frame.ensures.ended.0 (sym c.lacks_sync.ensures ∙ c.if-lacks_sync.false) in
    let second_goes =
    goes_further pair.two start.second second two c.put_frame.new.mux.two.lane passed.second frame
    c.in-Ok-reach.more passed.second_passed passed.second_count c.in-Ok-reach.ensures.reached
    c.put_frame.ensures.second c.put_frame.ensures.ended.1
    (sym c.lacks_sync-in-loop-mux.ensures ∙ c.if-lacks_sync-2.false) in
    let more = some_more c.in-Ok.more c.in-Ok-reach.more (sym c.is_end.ensures ∙ c.if-is_end.false) in
    let puts =
    subst (λ (p : ServicePair). PutsOut (g.K.Sink.received c.loop-mux.out) (g.K.Sink.received c.put_frame.new.out)
    c.loop-mux.buffer c.put_frame.new.buffer
    (frame_bytes p
    (record c.loop-mux.mux {
      one = record c.loop-mux.mux.one { lane = one };
      two = record c.loop-mux.mux.two { lane = two };
    }) frame c.in-Ok.more c.in-Ok-reach.more))
    c.loop-mux.invariant.pair c.put_frame.ensures.puts in
    record {
      sound = c.put_frame.ensures.sound;
      pair = c.put_frame.ensures.pair ∙ c.loop-mux.invariant.pair;
      turned =
          subst (λ (p : ServicePair). HaveTurned p c.put_frame.new.mux (frame + 1)) (sym c.put_frame.ensures.pair)
          c.put_frame.ensures.turned;
      joined =
          join_more pair start (seen first second (g.K.Sink.received c.loop-mux.out))
          (seen first second (g.K.Sink.received c.put_frame.new.out)) one two c.put_frame.new.mux.one.lane
          c.put_frame.new.mux.two.lane c.loop-mux.buffer c.put_frame.new.buffer frame c.in-Ok.more c.in-Ok-reach.more
          joined first_goes second_goes more refl refl puts;
    }

pub returns : goal.returns
returns g c are =
    let start : Seen =
    seen (g.A.Source.supplied c.args.first.now) (g.B.Source.supplied c.args.second.now)
    (g.K.Sink.received c.args.out.now) in
    let front = c.loop-mux.invariant.joined.out.front (sym c.has_failed.ensures ∙ c.loop-mux-test.false) in
    unwritten c.args.mux.now.pair start _ _ (g.K.Sink.received c.loop-mux.out) _ _ c.loop-mux.frame
    c.loop-mux.invariant.joined.passed front.0 front.1
