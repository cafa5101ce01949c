use Rattle.std.proofs.Common.{◌≡◌, ◌∙◌, ap, ap₂, codes, rules, true}
use Rattle.std.proofs.lemmas.Result.{IfOk-weaker}
use Rattle.clap.specs.Simple.{App, Shape, app_of, app_of_fields, new_app, on_top, with_rule}
use Rattle.clap.specs.Walk.{rule_of}
use Rattle.command_line.proofs.CommandLaws.{ranged}
use Rattle.command_line.specs.OneArgument.{word_rule}
use Rattle.command_line.proofs.positional.one_argument_command.Goals as goal

pub returns : goal.returns
returns c =
    let no_name : App → App = on_top (λ (s : Shape). record s { no_binary_name = true }) in
    let no_help : App → App = on_top (λ (s : Shape). record s { disable_help_flag = true }) in
    let named : app_of c.no_binary_name.result ≡ no_name (new_app (codes "dvbsub")) = ap app_of_fields c.no_binary_name.ensures ∙ ap no_name c.new-2.ensures.app in
    let set : app_of c.disable_help_flag.result ≡ no_help (no_name (new_app (codes "dvbsub"))) = ap app_of_fields c.disable_help_flag.ensures ∙ ap no_help named in
    let rule : rule_of c.num_args-word.result ≡ word_rule = ranged c.new.result c.num_args-word.result (codes "word") _ c.new.ensures.rule c.num_args-word.ensures.0 c.num_args-word.ensures.1 in
    IfOk-weaker c.arg.result _ _ (λ r h. h.shape (search rules) ∙ ap₂ with_rule set rule) c.arg.ensures
