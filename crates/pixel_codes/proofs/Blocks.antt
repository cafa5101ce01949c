-- A check of a block, sub-block by sub-block.
use Rattle.std.proofs.Common.{◌≡◌, ℕ, ◌+◌, ◌-◌, ◌<◌, ◌≤◌, List, [], ◌∷◌, ◌++◌, length, get_or, take, drop, refl, sym, ap, subst, ◌∙◌, arith}
use Rattle.std.proofs.lemmas.List.{drop_more, take_rest, take-append-drop, take_all, length-drop, length-take-le}
use Rattle.std.proofs.Math.Seq.{take-add}
use Rattle.sub_base.specs.declared.depth.Depth.{Depth}
use Rattle.stream_syntax.specs.PixelBlocks.{Part, IsPart, AreParts, IsRefused, IsBlock, IsBlockFault}
use Rattle.stream_syntax.specs.declared.pixel_run.Run.{Run}
use Rattle.stream_syntax.specs.declared.code_fault.CodeFault.{CodeFault}
use Rattle.stream_syntax.specs.declared.code_fault.CodeKind.{CodeKind}
use Rattle.pixel_codes.specs.Private.Walk.{runs_in}
use Rattle.pixel_codes.proofs.Parts.{AreParts-push, parts_not_refused}
use Rattle.pixel_codes.proofs.Walk.{walk_block}

-- the bytes up to a place are whole sub-blocks
abbrev pub Walked : Depth → List ℕ → ℕ → Type 0
Walked region bytes place = (place ≤ length bytes) × (parts : List Part) × AreParts region parts (take place bytes)

-- the byte at a place and what follows it, as the code cuts them
abbrev pub cut_at : List ℕ → ℕ → List ℕ
cut_at bytes place = get_or bytes place 0 ∷ take (length bytes - (place + 1)) (drop (place + 1) bytes)

cut_at-is : (bytes : List ℕ) (place : ℕ) → place < length bytes → cut_at bytes place ≡ drop place bytes
cut_at-is bytes place h =
    ap (λ (t : List ℕ). get_or bytes place 0 ∷ t) (take_rest bytes (place + 1)) ∙ sym (drop_more bytes place 0 h)

pub walked_none : (region : Depth) (bytes : List ℕ) → Walked region bytes 0
walked_none region bytes = (omega arith, [], refl)

pub walked_more : (region : Depth) (bytes : List ℕ) (place size : ℕ) → place < length bytes
    → Walked region bytes place →
    (1 ≤ size) × (size ≤ length (take (length bytes - (place + 1)) (drop (place + 1) bytes)) + 1) × (part : Part)
    × IsPart region part (take size (cut_at bytes place)) → Walked region bytes (place + size)
walked_more region bytes place size h w p =
    let front = subst (λ (t : List ℕ). IsPart region p.2 (take size t)) (cut_at-is bytes place h) p.3 in
    let l : length (take (length bytes - (place + 1)) (drop (place + 1) bytes)) ≡ length bytes - (place + 1) =
    ap length (take_rest bytes (place + 1)) ∙ length-drop (place + 1) bytes in
    let text : take place bytes ++ take size (drop place bytes) ≡ take (place + size) bytes =
    sym (take-add place size bytes) in (
      omega (arith, p.1, l),
      w.1 ++ p.2
          ∷ [],
      subst (AreParts region (w.1 ++ p.2 ∷ [])) text
          (AreParts-push region w.1 p.2 (take place bytes) (take size (drop place bytes)) w.2 front),
    )

pub fault_at : (region : Depth) (bytes : List ℕ) (place : ℕ) (kind : CodeKind) → place < length bytes
    → Walked region bytes place → IsRefused region kind (cut_at bytes place)
    → IsBlockFault region bytes (record { place = place; kind = kind })
fault_at region bytes place kind h w r = record {
  parts = w.1;
  before = take place bytes;
  after = drop place bytes;
  whole = sym (take-append-drop place bytes);
  good = w.2;
  refused = subst (IsRefused region kind) (cut_at-is bytes place h) r;
  place = sym (length-take-le place bytes w.0);
}

pub not_both : (region : Depth) (bytes : List ℕ) (runs : List Run) (fault : CodeFault) → IsBlock region bytes runs
    → IsBlockFault region bytes fault → ⊥
not_both region bytes runs fault b f =
    parts_not_refused region b.parts f.parts bytes f.before f.after fault.kind b.whole f.good f.whole f.refused

pub whole_block : (region : Depth) (bytes : List ℕ) (place : ℕ) → length bytes ≤ place
    → Walked region bytes place → IsBlock region bytes (runs_in region bytes)
whole_block region bytes place h w =
    let whole : AreParts region w.1 bytes = subst (AreParts region w.1) (take_all place bytes h) w.2 in
    record { parts = w.1; whole = whole; drawn = walk_block region bytes w.1 whole }

pub same_runs : (region : Depth) (bytes : List ℕ) (runs : List Run) → IsBlock region bytes runs
    → runs_in region bytes ≡ runs
same_runs region bytes runs b = walk_block region bytes b.parts b.whole ∙ sym b.drawn
