use Rattle.std.proofs.Common.{◌≡◌, ◌∙◌, ℕ, ◌+◌, List, [], ◌∷◌, ◌++◌, length, take, ap, append_assoc, length-append, arith}
use Rattle.stream_syntax.specs.Pes.{written_header, written_pes}
use Rattle.samples.proofs.streams.short_unit.Goals as goal

-- three pieces that were put behind one another, of which the first has 16 bytes
three_put : (n count : ℕ) (first second third begin segments : List ℕ) → count ≡ 16
    → take (0 + count) first ≡ begin → take (16 + n) second ≡ take 16 first ++ segments
    → take (16 + n + 1) third ≡ take (16 + n) second ++ 255 ∷ []
    → take (17 + n) third ≡ begin ++ (segments ++ 255 ∷ [])
three_put n count first second third begin segments sixteen one two three =
    let all : 17 + n ≡ 16 + n + 1 = omega arith in
    let front : 16 ≡ 0 + count = omega (arith, sixteen) in
    ap (λ k. take k third) all ∙ three
    ∙ ap (λ (l : List ℕ). l ++ 255 ∷ [])
    (two ∙ ap (λ (l : List ℕ). l ++ segments) (ap (λ k. take k first) front ∙ one))
    ∙ append_assoc begin segments (255 ∷ [])

-- what stands before the segments, and these, are the packet
whole_unit : (pts : ℕ) (segments : List ℕ)
    → written_header pts (length segments + 11) ++ 0x20 ∷ 0x00 ∷ [] ++ (segments ++ 0xFF ∷ [])
    ≡ written_pes pts (0x20 ∷ 0x00 ∷ (segments ++ 0xFF ∷ []))
whole_unit pts segments =
    let counted : length segments + 11 ≡ 8 + length (0x20 ∷ 0x00 ∷ (segments ++ 0xFF ∷ [])) =
    omega (arith, length-append segments (0xFF ∷ [])) in
    ap (λ count. written_header pts count ++ 0x20 ∷ 0x00 ∷ [] ++ (segments ++ 0xFF ∷ [])) counted

pub returns : goal.returns
returns c =
    three_put (length c.args.segments.now) _ c.put_at.new.unit c.put_at-2.new.unit c.put_at-3.new.unit
    c.unit_begin.result
    c.args.segments.now (ap length c.unit_begin.ensures) c.put_at.ensures c.put_at-2.ensures c.put_at-3.ensures
    ∙ ap (λ (l : List ℕ). l ++ (c.args.segments.now ++ 255 ∷ [])) c.unit_begin.ensures
    ∙ whole_unit c.args.pts c.args.segments.now
