use Rattle.std.proofs.Common.{◌≡◌, ℕ, Bor, List, map, take}
use Rattle.command_line.proofs.positional.words_of.Given as goal

abbrev pub invariant-loop-text : goal.invariant-loop-text
invariant-loop-text l =
    let bytes : Bor (List ℕ) → List ℕ = λ text. text.now in
    l.words ≡ map bytes (take l.text-index l.fn.texts)
