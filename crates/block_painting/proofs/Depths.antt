-- Places of strings that are deeper than a region, in blocks of strings of up to eight bits.
use Rattle.std.proofs.Common.{◌≡◌, ◌∙◌, sym, ap, subst, refl, ℕ, ◌+◌, ◌-◌, ◌/◌, ◌≤◌, Bool, true, false, cond, List, [], ◌∷◌, ◌++◌, length, Option, Some, None, length-append, arith}
use Rattle.std.specs.Option.{option_map}
use Rattle.std.proofs.lemmas.Bool.Decides.{nat_tests}
use Rattle.sub_base.specs.Depth as depths
use Rattle.sub_base.specs.declared.depth.Depth.{Depth}
use Rattle.sub_base.specs.declared.depth.Depth.TheVariants.{Eight}
use Rattle.stream_syntax.specs.PixelCodes.{bits_of, string_of, IsString}
use Rattle.stream_syntax.specs.PixelCodes.{Code as CodeOf}
use Rattle.stream_syntax.specs.PixelBlocks.{Part, string, table, line_end, table_size, entries_of, IsNoDeeper, IsPart, AreParts}
use Rattle.stream_syntax.specs.declared.map_table.MapTable.{MapTable}
use Rattle.decoder_model.specs.Faults.{part_size, is_too_deep, too_deep_at}
use Rattle.code_strings.proofs.Bits.{length-bits_of}
use Rattle.pixel_codes.specs.declared.part.Head.TheVariants.{PixelString, Table, LineEnd}
use Rattle.block_painting.specs.Private.Heads.{Begins}
use Rattle.block_painting.specs.Private.Walks.{HasPassed}
use Rattle.block_painting.proofs.Heads.{begun_at}

part_here : (region : Depth) (part : Part) (bytes : List ℕ) → IsPart Eight part bytes
    → is_too_deep region part ≡ false → IsPart region part bytes
part_here region (string depth codes) bytes h shallow =
    let no_deeper : depths.bits_of depth ≤ depths.bits_of region = grind (arith, nat_tests) in
    (no_deeper, h.1, h.2, h.3)
part_here region (table kind entries) bytes h shallow = h
part_here region line_end bytes h shallow = h

string_bytes : (depth : Depth) (codes : List CodeOf) (body : List ℕ) → IsString depth codes body
    → (length (string_of depth codes) + 7) / 8 ≡ length body
string_bytes depth codes body is =
    let all : length (bits_of body) ≡ length (string_of depth codes) + length is.fill =
    ap length is.text ∙ length-append (string_of depth codes) is.fill in
    let few = is.short in
    omega (arith, all, length-bits_of body)

part_bytes : (part : Part) (bytes : List ℕ) → IsPart Eight part bytes → part_size part ≡ length bytes
part_bytes (string depth codes) bytes h =
    ap (λ n. 1 + n) (string_bytes depth codes h.1 h.3) ∙ omega (arith, ap length h.2)
part_bytes (table kind entries) bytes h = omega (arith, ap length h.1, h.2)
part_bytes line_end bytes h = sym (ap length h)

none_in : {X Y : Type 0} (f : X → Y) (found : Option X) → option_map f found ≡ None → found ≡ None
none_in f None e = refl
none_in f (Some x) e = absurd (cc)

-- no string is too deep
pub parts_here : (region : Depth) (parts : List Part) (bytes : List ℕ) → AreParts Eight parts bytes
    → too_deep_at region parts ≡ None → AreParts region parts bytes
parts_here region [] bytes h none = h
parts_here region (part ∷ parts) bytes h none =
    by (λ none. parts_here region parts h.1 h.4 none) (is_too_deep region part) refl none
  where
    by : (too_deep_at region parts ≡ None → AreParts region parts h.1) → (deep : Bool)
        → is_too_deep region part ≡ deep
        → cond deep (Some 0) (option_map (λ place. part_size part + place) (too_deep_at region parts)) ≡ None
        → AreParts region (part ∷ parts) bytes
    by rest true is none = absurd (cc)
    by rest false is none = (
      h.0,
      h.1,
      h.2,
      part_here region part h.0 h.3 is,
      rest
          (none_in (λ place. part_size part + place) (too_deep_at region parts) none),
    )

-- ---- what a walk passes

mapped_same : (f g : ℕ → ℕ) → ((place : ℕ) → f place ≡ g place) → (found : Option ℕ)
    → option_map f found ≡ option_map g found
mapped_same f g same None = refl
mapped_same f g same (Some place) = ap Some (same place)

mapped_twice : (f g : ℕ → ℕ) (found : Option ℕ) → option_map f (option_map g found) ≡ option_map (λ n. f (g n)) found
mapped_twice f g None = refl
mapped_twice f g (Some place) = refl

mapped_none : (found : Option ℕ) → found ≡ option_map (λ place. 0 + place) found
mapped_none None = refl
mapped_none (Some place) = ap Some (omega arith)

pub passes_nothing : (region : Depth) (bytes : List ℕ) → HasPassed region bytes bytes
passes_nothing region bytes = record {
  within = omega arith;
  shallow = λ parts are. (
    parts,
    are,
    mapped_none (too_deep_at region parts)
        ∙ mapped_same (λ place. 0 + place) (λ place. (length bytes - length bytes) + place) (λ place. omega arith)
        (too_deep_at region parts),
  );
}

pub passes_twice : (region : Depth) (bytes mid rest : List ℕ) → HasPassed region bytes mid
    → HasPassed region mid rest → HasPassed region bytes rest
passes_twice region bytes mid rest first second = record {
  within = omega (arith, first.within, second.within);
  shallow = λ parts are.
      let one = first.shallow parts are in
      let two = second.shallow one.0 one.1 in (
        two.0,
        two.1,
        one.2 ∙ ap (option_map (λ place. (length bytes - length mid) + place)) two.2
            ∙ mapped_twice (λ place. (length bytes - length mid) + place)
            (λ place. (length mid - length rest) + place) (too_deep_at region two.0)
            ∙ mapped_same (λ place. (length bytes - length mid) + ((length mid - length rest) + place))
            (λ place. (length bytes - length rest) + place)
            (λ place. omega (arith, first.within, second.within)) (too_deep_at region two.0),
      );
}

-- the first sub-block is passed
passes_part : (region : Depth) (part : Part) (parts left : List Part) (bytes front rest : List ℕ)
    → parts ≡ part ∷ left → bytes ≡ front ++ rest → part_size part ≡ length front → is_too_deep region part ≡ false
    → too_deep_at region parts
    ≡ option_map (λ place. (length bytes - length rest) + place) (too_deep_at region left)
passes_part region part parts left bytes front rest is cut size shallow =
    let past : length bytes - length rest ≡ part_size part =
    omega (arith, ap length cut, length-append front rest, size) in
    ap (too_deep_at region) is
    ∙ ap (λ (deep : Bool).
    cond deep (Some 0) (option_map (λ place. part_size part + place) (too_deep_at region left))) shallow
    ∙ mapped_same (λ place. part_size part + place) (λ place. (length bytes - length rest) + place)
    (λ place. omega (arith, past)) (too_deep_at region left)

pub passes_line_end : (region : Depth) (bytes body : List ℕ) → Begins LineEnd bytes body → HasPassed region bytes body
passes_line_end region bytes body begins = record {
  within = omega (arith, ap length begins.1);
  shallow = λ parts are.
      let b = begun_at Eight parts LineEnd bytes body begins are in
      (b.0, b.2, passes_part region line_end parts b.0 bytes (begins.0 ∷ []) body b.1 begins.1 refl refl);
}

pub passes_table : (region : Depth) (kind : MapTable) (bytes body rest : List ℕ) → Begins (Table kind) bytes body
    → ((front after : List ℕ) → body ≡ front ++ after → length front ≡ table_size kind → rest ≡ after)
    → length rest ≤ length body → HasPassed region bytes rest
passes_table region kind bytes body rest begins behind short = record {
  within = omega (arith, ap length begins.1, short);
  shallow = λ parts are.
      let b = begun_at Eight parts (Table kind) bytes body begins are in
      let is : rest ≡ b.2 = behind b.1 b.2 b.4 b.5 in
      let whole : bytes ≡ (begins.0 ∷ b.1) ++ rest =
      begins.1 ∙ ap (λ (t : List ℕ). begins.0 ∷ t) (b.4 ∙ ap (λ (t : List ℕ). b.1 ++ t) (sym is)) in (
        b.0,
        subst (AreParts Eight b.0) (sym is) b.6,
        passes_part region (table kind (entries_of kind b.1)) parts b.0 bytes (begins.0 ∷ b.1) rest b.3 whole
            (omega (arith, b.5)) refl,
      );
}

pub passes_string : (region depth : Depth) (bytes body rest : List ℕ) → Begins (PixelString depth) bytes body
    → IsNoDeeper depth region
    → ((codes : List CodeOf) (front after : List ℕ) → body ≡ front ++ after → IsString depth codes front
    → rest ≡ after)
    → length rest ≤ length body → HasPassed region bytes rest
passes_string region depth bytes body rest begins fits behind short = record {
  within = omega (arith, ap length begins.1, short);
  shallow = λ parts are.
      let b = begun_at Eight parts (PixelString depth) bytes body begins are in
      let is : rest ≡ b.3 = behind b.0 b.2 b.3 b.5 b.7 in
      let whole : bytes ≡ (begins.0 ∷ b.2) ++ rest =
      begins.1 ∙ ap (λ (t : List ℕ). begins.0 ∷ t) (b.5 ∙ ap (λ (t : List ℕ). b.2 ++ t) (sym is)) in (
        b.1,
        subst (AreParts Eight b.1) (sym is) b.8,
        passes_part region (string depth b.0) parts b.1 bytes (begins.0 ∷ b.2) rest b.4 whole
            (omega (arith, string_bytes depth b.0 b.2 b.7)) (not_deep fits),
      );
} where
  not_deep : depths.bits_of depth ≤ depths.bits_of region → is_too_deep region (string depth []) ≡ false
  not_deep no_deeper = grind (arith, nat_tests)

-- a string that is too deep stands first
pub deep_here : (region depth : Depth) (bytes body : List ℕ) → Begins (PixelString depth) bytes body
    → (IsNoDeeper depth region → ⊥) → (parts : List Part) → AreParts Eight parts bytes
    → too_deep_at region parts ≡ Some 0
deep_here region depth bytes body begins deep parts are =
    let b = begun_at Eight parts (PixelString depth) bytes body begins are in
    ap (too_deep_at region) b.4
    ∙ ap (λ (deep : Bool). cond deep (Some 0)
    (option_map (λ place. part_size (string depth b.0) + place) (too_deep_at region b.1))) (is_deep deep)
  where
    is_deep : (depths.bits_of depth ≤ depths.bits_of region → ⊥) → is_too_deep region (string depth []) ≡ true
    is_deep not_here = grind (arith, nat_tests)
