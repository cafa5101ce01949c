-- Blocks for a region of a depth: as sub-blocks of up to eight bits, and that none of their strings is too deep.
use Rattle.std.proofs.Common.{◌≡◌, ◌∙◌, ℕ, ◌+◌, ◌≤◌, false, cond, List, [], ◌∷◌, Some, None, refl, ap, arith}
use Rattle.std.specs.Option.{option_map}
use Rattle.std.proofs.lemmas.Bool.Decides.{nat_tests}
use Rattle.sub_base.specs.Depth as depths
use Rattle.sub_base.specs.declared.depth.Depth.{Depth}
use Rattle.sub_base.specs.declared.depth.Depth.TheVariants.{Two, Four, Eight}
use Rattle.stream_syntax.specs.PixelBlocks.{Part, string, table, line_end, IsNoDeeper, IsPart, AreParts}
use Rattle.decoder_model.specs.Faults.{is_too_deep, part_size, too_deep_at}

-- no depth is more than eight bits
within_eight : (depth : Depth) → IsNoDeeper depth Eight
within_eight Two = omega arith
within_eight Four = omega arith
within_eight Eight = omega arith

part_in_eight : (region : Depth) (part : Part) (bytes : List ℕ) → IsPart region part bytes
    → IsPart Eight part bytes
part_in_eight region (string depth codes) bytes h = (within_eight depth, h.1, h.2, h.3)
part_in_eight region (table kind entries) bytes h = h
part_in_eight region line_end bytes h = h

-- the sub-blocks for a region of a depth are sub-blocks of up to eight bits
pub parts_in_eight : (region : Depth) (parts : List Part) (bytes : List ℕ) → AreParts region parts bytes
    → AreParts Eight parts bytes
parts_in_eight region [] bytes h = h
parts_in_eight region (part ∷ parts) bytes h =
    (h.0, h.1, h.2, part_in_eight region part h.0 h.3, parts_in_eight region parts h.1 h.4)

part_not_deep : (region : Depth) (part : Part) (bytes : List ℕ) → IsPart region part bytes
    → is_too_deep region part ≡ false
part_not_deep region (string depth codes) bytes h =
    let no_deeper : depths.bits_of depth ≤ depths.bits_of region = h.0 in grind (arith, nat_tests)
part_not_deep region (table kind entries) bytes h = refl
part_not_deep region line_end bytes h = refl

-- and none of their strings is deeper than the region
pub none_too_deep : (region : Depth) (parts : List Part) (bytes : List ℕ) → AreParts region parts bytes
    → too_deep_at region parts ≡ None
none_too_deep region [] bytes h = refl
none_too_deep region (part ∷ parts) bytes h =
    ap (λ b. cond b (Some 0) (option_map (λ place. part_size part + place) (too_deep_at region parts)))
    (part_not_deep region part h.0 h.3)
    ∙ ap (option_map (λ place. part_size part + place)) (none_too_deep region parts h.1 h.4)
