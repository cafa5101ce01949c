-- The blocks of a picture's fields are blocks of an object.
use Rattle.std.proofs.Common.{◌≡◌, ℕ, List, [], ◌∷◌, ◌++◌, length, take, drop, refl, sym, ap, subst, ◌∙◌, arith}
use Rattle.std.proofs.Math.Seq.{take-append_seam, drop-append_seam}
use Rattle.sub_base.specs.Picture.{Picture}
use Rattle.sub_base.specs.declared.depth.Depth.{Depth}
use Rattle.sub_base.specs.declared.depth.Depth.TheVariants.{Two, Four, Eight}
use Rattle.stream_syntax.specs.PixelBlocks.{Part, string, table, line_end, IsPart, AreParts, IsNoDeeper, IsBlock, runs_after}
use Rattle.stream_syntax.specs.FieldBlocks.{AreFieldBlocks, DrawsPicture}
use Rattle.stream_syntax.specs.SegmentTests.{AreBlocks}
use Rattle.stream_syntax.specs.declared.pixel_run.Run.{Run}
use Rattle.set_coder.specs.Private.BothBlocks.{AreBothBlocks}

-- no string is deeper than eight bits
not_deeper : (depth : Depth) → IsNoDeeper depth Eight
not_deeper Two = omega arith
not_deeper Four = omega arith
not_deeper Eight = omega arith

part_by_eight : (region : Depth) (part : Part) (bytes : List ℕ) → IsPart region part bytes
    → IsPart Eight part bytes
part_by_eight region (string depth codes) bytes h = (not_deeper depth, h.1, h.2, h.3)
part_by_eight region (table kind entries) bytes h = h
part_by_eight region line_end bytes h = h

parts_by_eight : (region : Depth) (parts : List Part) (bytes : List ℕ) → AreParts region parts bytes
    → AreParts Eight parts bytes
parts_by_eight region [] bytes h = h
parts_by_eight region (part ∷ parts) bytes h =
    (h.0, h.1, h.2, part_by_eight region part h.0 h.3, parts_by_eight region parts h.1 h.4)

-- a block for a region is a block for eight bits, with its runs there
by_eight : (region : Depth) (bytes : List ℕ) (runs : List Run) → IsBlock region bytes runs → (more : List Run)
    × IsBlock Eight bytes more
by_eight region bytes runs block = (
  runs_after Eight []
      block.parts,
  record {
    parts = block.parts;
    whole = parts_by_eight region block.parts bytes block.whole;
    drawn = refl;
  },
)

nothing : (more : List Run) × IsBlock Eight [] more
nothing = (runs_after Eight [] [], record { parts = []; whole = refl; drawn = refl })

both_blocks : (top bottom : List ℕ) → (more : List Run) × IsBlock Eight top more → (more : List Run)
    × IsBlock Eight bottom more → AreBlocks top bottom
both_blocks top bottom first second =
    record { top_runs = first.0; top_is = first.1; bottom_runs = second.0; bottom_is = second.1 }

-- a block that is none, or one for which there is a reason
bottom_block : (bytes : List ℕ) → ((bytes ≡ [] → ⊥) → (more : List Run) × IsBlock Eight bytes more)
    → (more : List Run) × IsBlock Eight bytes more
bottom_block [] own = nothing
bottom_block (byte ∷ bytes) own = own (λ none. cc)

-- what stands before and after a place
pub halves : (blocks front back top bottom : List ℕ) (end : ℕ) → front ≡ take end blocks
    → back ≡ drop end blocks → blocks ≡ top ++ bottom → end ≡ length top → (front ≡ top)
    × (back ≡ bottom)
halves blocks front back top bottom end f b e l = (
  f ∙ (ap (λ n. take n blocks) l ∙ (ap (take (length top)) e ∙ take-append_seam top bottom)),
  b ∙ (ap (λ n. drop n blocks) l ∙ (ap (drop (length top)) e ∙ drop-append_seam top bottom)),
)

-- the two halves are the blocks of an object
pub are_blocks : (picture : Picture) (region : Depth) (blocks front back : List ℕ) (end : ℕ)
    → AreBothBlocks picture region blocks end → front ≡ take end blocks → back ≡ drop end blocks
    → AreBlocks front back
are_blocks picture region blocks front back end both f b =
    let w = both.written in
    let d = both.drawn in
    let written = halves blocks front back w.0 w.1 end f b w.2 w.3 in
    let drawn = halves blocks front back d.0 d.1 end f b d.2 d.3 in
    let IsSome : List ℕ → Type 0 = λ bytes. (more : List Run) × IsBlock Eight bytes more in
    let top = by_eight region d.0 d.4.top_rows.runs d.4.top_rows.block in
    let first : (more : List Run) × IsBlock Eight front more = subst IsSome (sym drawn.0) top in
    let second : (more : List Run) × IsBlock Eight back more =
    bottom_block back (λ some.
    let own = d.4.own (λ same. some (written.1 ∙ w.4.shared same)) in
    subst IsSome (sym drawn.1) (by_eight region d.1 own.runs own.block)) in
    both_blocks front back first second

-- and the blocks of the picture's fields, which draw it
pub are_both : (picture : Picture) (region : Depth) (blocks front back : List ℕ) (end : ℕ)
    → AreBothBlocks picture region blocks end → front ≡ take end blocks → back ≡ drop end blocks
    → AreFieldBlocks picture region front back × DrawsPicture picture region front back
are_both picture region blocks front back end both f b =
    let w = both.written in
    let d = both.drawn in
    let written = halves blocks front back w.0 w.1 end f b w.2 w.3 in
    let drawn = halves blocks front back d.0 d.1 end f b d.2 d.3 in (
      subst (λ (x : List ℕ). AreFieldBlocks picture region x back) (sym written.0)
          (subst (AreFieldBlocks picture region w.0) (sym written.1) w.4),
      subst (λ (x : List ℕ). DrawsPicture picture region x back) (sym drawn.0)
          (subst (DrawsPicture picture region d.0) (sym drawn.1) d.4),
    )
