use Rattle.std.proofs.Common.{◌≡◌, List, ℕ, arith}
use Rattle.std.proofs.lemmas.Map.Text.{text_keys}
use Rattle.cue_list.specs.Private.Names.{place_by, named_with}
use Rattle.cue_list.proofs.names.Names.add.Goals as goal

pub returns-clause-added : goal.returns-clause-added
returns-clause-added c =
    let at : (other : List ℕ)
    → place_by (record { places = c.insert.new.self }) other
    ≡ named_with c.args.name.now c.args.place (place_by c.args.self.now) other = λ other. grind
    (arith, text_keys) in
    λ i other. at other i
