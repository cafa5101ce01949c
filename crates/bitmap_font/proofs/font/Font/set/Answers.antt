use Rattle.std.proofs.Common.{◌≡◌, ◌∙◌, ℕ, List, IfOk, chars, subst}
use Rattle.bitmap_font.specs.Setting.{IsSetting}
use Rattle.bitmap_font.proofs.OneSetting.{one_made}
use Rattle.bitmap_font.proofs.font.Font.set.Goals as goal

pub returns-clause-one_picture : goal.returns-clause-one_picture
returns-clause-one_picture c =
    let same : c.deref.result.now ≡ chars c.args.text.now = c.deref.ensures.value ∙ c.in_ok-characters.ensures in
    one_made c.args.self.now (chars c.args.text.now) c.args.fg c.args.bg c.args.depth c.set_characters.result
    (subst (λ (text : List ℕ). IfOk c.set_characters.result
    (IsSetting c.args.self.now text c.args.fg c.args.bg c.args.depth)) same c.set_characters.ensures.set)
    c.set_characters.ensures.picture
