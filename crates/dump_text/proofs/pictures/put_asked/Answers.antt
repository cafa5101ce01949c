-- The text of what a receiver shows at a tick, drawn for it.
use Rattle.std.proofs.Common.{◌≤◌, subst, sym}
use Rattle.std.specs.Prelude.{unwrap_or}
use Rattle.command_text.specs.Putting.{PutsOut}
use Rattle.decoder_model.specs.Kept.{last_time}
use Rattle.decoder_model.specs.Received.{Reception}
use Rattle.decoder_model.specs.Shown.{View, view_at}
use Rattle.receiver.proofs.Asks.{same_kept}
use Rattle.dump_text.specs.DumpText.{view_text}
use Rattle.dump_text.proofs.pictures.put_asked.Goals as goal

pub returns-clause-puts : goal.returns-clause-puts
returns-clause-puts g c ended packets given past stands read late =
    let same = same_kept c.args.receiver.now c.draw.new.self c.draw.ensures.keeps in
    let shown =
    c.picture.ensures.taken packets ended given past (c.draw.ensures.keeps.stands ended packets given stands) read
    (subst (λ (made : Reception). unwrap_or (last_time made.anchor past) 0 ≤ c.args.tick) (sym same) late) in
    subst
    (λ (made : Reception). PutsOut (g.K.Sink.received c.args.out.now) (g.K.Sink.received c.put_view.new.out)
    c.args.buffer.now c.put_view.new.buffer
    (view_text c.args.tick (view_at made.profile made.anchor c.args.tick past))) same
    (subst
    (λ (view : View). PutsOut (g.K.Sink.received c.args.out.now) (g.K.Sink.received c.put_view.new.out)
    c.args.buffer.now c.put_view.new.buffer (view_text c.args.tick view)) shown c.put_view.ensures)
