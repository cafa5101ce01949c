use Rattle.std.proofs.Common.{rules, ◌≡◌, ◌∙◌, ℕ, ◌+◌, ◌<◌, List, ◌++◌, length, take, slice_index_or, sym, ap}
use Rattle.std.specs.List.{flat_map}
use Rattle.std.proofs.lemmas.List.{flat_map_more, take_all, take_more}
use Rattle.sentence_text.specs.Parts.{part_text}
use Rattle.sentence_text.specs.declared.part.Part.{Part}
use Rattle.sentence_text.proofs.text.Text.say.Goals as goal

-- src/text.rt:49:9
pub loop-part-init : goal.loop-part-init
loop-part-init c = search rules

-- a part more stands at the end
next : (old before after : List ℕ) (parts : List Part) (i : ℕ) (d : Part) → i < length parts
    → before ≡ old ++ flat_map part_text (take i parts) → after ≡ before ++ part_text (slice_index_or parts i d)
    → after ≡ old ++ flat_map part_text (take (i + 1) parts)
next old before after parts i d inside was more =
    more
    ∙ ap (λ text. text ++ part_text (slice_index_or parts i d)) was
    ∙ flat_map_more part_text old (take i parts) (slice_index_or parts i d)
    ∙ ap (λ taken. old ++ flat_map part_text taken) (sym (take_more parts i d inside))

-- src/text.rt:49:9
pub loop-part-preserved : goal.loop-part-preserved
loop-part-preserved c =
    next c.args.self.now c.loop-part.self c.put.new.self c.args.parts.now c.loop-part.part-index _ c.loop-part-test.true
    c.loop-part.invariant c.in_ok-put.ensures

-- src/text.rt:46:5
pub returns : goal.returns
returns c =
    c.loop-part.invariant
    ∙ ap (λ parts. c.args.self.now ++ flat_map part_text parts)
    (take_all c.loop-part.part-index c.args.parts.now c.loop-part-test.false)
