-- Laws of the texts and the anchor of ticks that are asked for on the command line.
use Rattle.std.proofs.Common.{◌≡◌, ◌∙◌, refl, sym, ap, subst, ℕ, ◌+◌, ◌<◌, List, [], ◌∷◌, ◌++◌, length, get_or, take, map, append-nil, arith}
use Rattle.std.proofs.lemmas.List.{take_more}
use Rattle.std.proofs.lemmas.List.Concat.{flat_map-append}
use Rattle.sub_base.specs.Number.{number_of}
use Rattle.sub_base.specs.Endpoints.{Received}
use Rattle.command_text.specs.Putting.{Buffered, PutsOut}
use Rattle.command_text.proofs.PutLaws.{PutsOut-both}
use Rattle.command_words.specs.Ticks.{tick_or_zero}
use Rattle.command_words.proofs.TickLaws.{at_most_latest}
use Rattle.cue_list.specs.declared.script.Script.{Script}
use Rattle.dump_text.specs.DumpText.{anchor_of}
use Rattle.dvbsub_cmd.specs.ExpectOutcome.{authored_text, expect_text}

-- the texts at some ticks, and with one more tick
pub texts_more : (script : Script) (ticks : List ℕ) (i tick : ℕ) → i < length ticks
    → tick ≡ get_or ticks i 0
    → expect_text script (take (i + 1) ticks) ≡ expect_text script (take i ticks) ++ authored_text script tick
texts_more script ticks i tick inside is_tick =
    ap (expect_text script) (take_more ticks i 0 inside)
    ∙ flat_map-append (authored_text script) (take i ticks) (get_or ticks i 0 ∷ [])
    ∙ ap (λ (end : List ℕ). expect_text script (take i ticks) ++ end)
    (append-nil (authored_text script (get_or ticks i 0)) ∙ ap (authored_text script) (sym is_tick))

-- one more text put out
pub PutsOut-text : (before now next : Received) (old mid new : Buffered) (sofar text all : List ℕ)
    → PutsOut before now old mid sofar → PutsOut now next mid new text → all ≡ sofar ++ text
    → PutsOut before next old new all
PutsOut-text before now next old mid new sofar text all first second is_all =
    subst (λ (t : List ℕ). PutsOut before next old new t) (sym is_all)
    (PutsOut-both before now next old mid new sofar text first second)

-- lifted times begin below 2 to the 34
pub early_anchor : (words : List (List ℕ)) → anchor_of (map tick_or_zero words) < 17179869184
early_anchor [] = omega arith
early_anchor (word ∷ words) = omega (arith, at_most_latest word (number_of 11 word) refl)
