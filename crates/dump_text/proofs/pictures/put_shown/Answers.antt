use Rattle.std.proofs.Common.{◌≡◌, ◌∙◌, ℕ, List, ap, subst, arith}
use Rattle.command_text.specs.Putting.{PutsOut}
use Rattle.decoder_model.specs.Shown.{view_at}
use Rattle.dump_text.specs.DumpText.{view_text}
use Rattle.dump_text.proofs.TextLaws.{no_earlier}
use Rattle.dump_text.proofs.pictures.put_shown.Goals as goal

pub returns : goal.returns
returns g c ended packets given past stands read late =
    let from = c.from.ensures.before packets ended given past stands read in
    let at : c.max.result ≡ c.args.tick =
    no_earlier c.args.tick c.from.result c.max.result c.max.ensures (omega (arith, from, late)) in
    let shown = c.picture.ensures.taken packets ended given past stands read in
    subst (λ (text : List ℕ). PutsOut (g.K.Sink.received c.args.out.now) (g.K.Sink.received c.put_view.new.out)
    c.args.buffer.now c.put_view.new.buffer text)
    (ap (view_text c.args.tick)
    (shown ∙ ap
    (λ (tick : ℕ). view_at c.args.receiver.now.showing.core.profile c.args.receiver.now.showing.core.anchor tick
    past) at))
    c.put_view.ensures
