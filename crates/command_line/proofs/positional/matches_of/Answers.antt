use Rattle.std.proofs.Common.{◌≡◌, ◌∙◌, ◌≤◌, ℕ, List, [], ap, codes, length, map, rules, unwrap_or}
use Rattle.std.specs.Borrow.{Bor}
use Rattle.std.proofs.lemmas.List.{length-map}
use Rattle.clap.specs.Lexer.{usize_max}
use Rattle.std.proofs.lemmas.Result.{IfErr-weaker, IfOk-weaker}
use Rattle.clap.specs.Matches.{found_of}
use Rattle.clap.specs.Simple.{App, app_of, is_simple, matches_of}
use Rattle.clap.specs.Takes.{takes}
use Rattle.clap.specs.Walk.{all_of}
use Rattle.clap.proofs.WalkLemmas.{raw_values-rows}
use Rattle.command_line.specs.OneArgument.{one_argument}
use Rattle.command_line.proofs.WalkLaws.{is_one_simple, words_found, words_pass}
use Rattle.command_line.proofs.positional.matches_of.Goals as goal

pub returns-clause-ok : goal.returns-clause-ok
returns-clause-ok c =
    let parse = c.try_get_matches_from in
    let texts = map (λ text. text.now) c.args.texts.now in
    let is : app_of c.in_ok-command.command ≡ one_argument = search rules in
    IfOk-weaker parse.result _ _ (λ m h. ap (λ o. unwrap_or o []) (raw_values-rows (found_of m) (codes "word")
    ∙ ap (all_of (codes "word")) ((h (ap is_simple is ∙ is_one_simple)).0 ∙ ap (λ (a : App). matches_of a texts) is))
    ∙ words_found texts c.requires.plain) parse.ensures.matches

pub returns-clause-err : goal.returns-clause-err
returns-clause-err c =
    let parse = c.try_get_matches_from in
    let texts = map (λ text. text.now) c.args.texts.now in
    let is : app_of c.in_ok-command.command ≡ one_argument = search rules in
    let fits : length texts ≤ usize_max =
    rw (length-map c.args.texts.now (λ (text : Bor (List ℕ)). text.now)) c.requires.fits in
    IfErr-weaker parse.result _ _
    (λ e h. h (ap (λ (a : App). takes a texts) is ∙ words_pass texts fits c.requires.plain))
    parse.ensures.passes
