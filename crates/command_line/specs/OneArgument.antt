-- The command line as `clap` knows it, and the words that it finds.
use Rattle.std.specs.Prelude.{ℕ, List, [], Some, true, codes, option_map, unwrap_or}
use Rattle.clap.specs.Lexer.{usize_max}
use Rattle.clap.specs.Matches.{found_of, matched_of, raw_values}
use Rattle.clap.specs.Simple.{App, new_app, new_rule, on_top, with_rule}
use Rattle.clap.specs.Walk.{Rule}
use Rattle.clap.specs.declared.parser.matches.ArgMatches.{ArgMatches}

-- an argument without a flag, of one word or more
abbrev pub word_rule : Rule
word_rule = record (new_rule (codes "word")) { range = Some (record { start_inclusive = 1; end_inclusive = usize_max }) }

-- a command that has this argument alone: no flag for help, and no program's name before the words
abbrev pub one_argument : App
one_argument = with_rule (on_top (λ shape. record shape { no_binary_name = true; disable_help_flag = true }) (new_app (codes "dvbsub"))) word_rule

-- the words that were found for it
abbrev pub words_in : ArgMatches → List (List ℕ)
words_in matches = unwrap_or (option_map raw_values (matched_of (found_of matches) (codes "word"))) []
