-- All bytes are the sub-blocks of a block, or have a first sub-block that is not in the grammar.
use Rattle.std.proofs.Common.{◌≡◌, ◌∙◌, ◌⊎◌, inl, inr, ℕ, zero, suc, ◌+◌, ◌*◌, ◌/◌, ◌<◌, ◌≤◌, List, [], ◌∷◌, ◌++◌, length, take, drop, Option, Some, None, refl, sym, ap, append_assoc, arith, length-append}
use Rattle.std.proofs.lemmas.Bool.{cases_lt}
use Rattle.std.proofs.lemmas.List.{length-take-le, take-append-drop}
use Rattle.sub_base.specs.declared.depth.Depth.{Depth}
use Rattle.sub_base.specs.Depth as depths
use Rattle.stream_syntax.specs.PixelCodes.{bits_of, Code, IsString}
use Rattle.stream_syntax.specs.PixelBlocks.{Part, string, table, line_end, string_type, table_type, table_size, entries_of, IsPart, AreParts, IsRefused, IsBlockFault}
use Rattle.stream_syntax.specs.declared.map_table.MapTable.{MapTable}
use Rattle.stream_syntax.specs.declared.code_fault.CodeFault.{CodeFault}
use Rattle.stream_syntax.specs.declared.code_fault.CodeKind.{CodeKind}
use Rattle.stream_syntax.specs.declared.code_fault.CodeKind.TheVariants.{UnknownType, TooDeep, CutString, CutTable}
use Rattle.pixel_codes.specs.declared.part.Head.{Head}
use Rattle.pixel_codes.specs.declared.part.Head.TheVariants.{PixelString, Table, LineEnd}
use Rattle.code_strings.specs.declared.token.Token.{Token}
use Rattle.code_strings.specs.declared.token.Token.TheVariants.{Pixels, End}
use Rattle.pixel_codes.specs.Heads.{head_of}
use Rattle.code_strings.specs.Reading.{token_at}
use Rattle.code_strings.proofs.Bits.{IsBits-bits_of}
use Rattle.code_strings.proofs.Tokens.{StandsAt}
use Rattle.code_strings.proofs.NarrowTokens.{token_reads}
use Rattle.code_strings.specs.Reached.{Reached}
use Rattle.code_strings.proofs.Strings.{reached_none, reached_more, string_found, no_string, read_further}
use Rattle.pixel_codes.proofs.Parts.{Begins, begins}

-- ---- strings

-- the bytes begin with a string of a depth
abbrev HasString : Depth → List ℕ → Type 0
HasString depth body =
    (size : ℕ) × (size ≤ length body) × (codes : List Code) × IsString depth codes (take size body)

-- no front of the bytes is one
abbrev HasNone : Depth → List ℕ → Type 0
HasNone depth body =
    (codes : List Code) (front : List ℕ) (rest : List ℕ) → body ≡ front ++ rest
    → IsString depth codes front → ⊥

-- how a walk over the bytes of a string ends
abbrev Walks : Depth → List ℕ → Type 0
Walks depth body = HasString depth body ⊎ HasNone depth body

-- a walk that has reached a place goes on behind the code there
at_token : (depth : Depth) (body : List ℕ) (place : ℕ) (token : Token) (next : ℕ)
    → Reached depth (bits_of body) place
    → StandsAt depth (bits_of body) place token next
    → ((next : ℕ) → place < next → next ≤ 8 * length body → Reached depth (bits_of body) next
    → Walks depth body)
    → Walks depth body
at_token depth body place End next reached stands further =
    let found = string_found depth body place next reached stands in
    inl ((next + 7) / 8, found.0, found.1, found.2)
at_token depth body place (Pixels count colour) next reached stands further =
    let ahead = read_further depth body place count colour next stands in
    further next ahead.0 ahead.1 (reached_more depth (bits_of body) place next count colour reached stands)

at_place : (depth : Depth) (body : List ℕ) (place : ℕ) (found : Option (Token × ℕ))
    → token_at depth (bits_of body) place ≡ found → Reached depth (bits_of body) place
    → ((next : ℕ) → place < next → next ≤ 8 * length body → Reached depth (bits_of body) next
    → Walks depth body)
    → Walks depth body
at_place depth body place None is reached further = inr (no_string depth body place reached is)
at_place depth body place (Some found) is reached further =
    at_token depth body place found.0 found.1 reached
    (token_reads depth (bits_of body) place found (IsBits-bits_of body) is) further

walk : (depth : Depth) (body : List ℕ) (most place : ℕ) → 8 * length body ≤ place + most
    → Reached depth (bits_of body) place → Walks depth body
walk depth body zero place enough reached =
    at_place depth body place (token_at depth (bits_of body) place) refl reached
    (λ next ahead within more. absurd (omega (arith, enough, ahead, within)))
walk depth body (suc most) place enough reached =
    at_place depth body place (token_at depth (bits_of body) place) refl reached
    (λ next ahead within more. walk depth body most next (omega (arith, enough, ahead)) more)

string_or_none : (depth : Depth) (body : List ℕ) → Walks depth body
string_or_none depth body = walk depth body (8 * length body) 0 (omega arith) (reached_none depth (bits_of body))

-- ---- sub-blocks

-- the bytes begin with a sub-block
record HasPart (region : Depth) (bytes : List ℕ) : Type 0 where
  part : Part
  front : List ℕ
  rest : List ℕ
  joined : bytes ≡ front ++ rest
  is_part : IsPart region part front

-- no sub-block begins them
abbrev HasRefusal : Depth → List ℕ → Type 0
HasRefusal region bytes = (kind : CodeKind) × IsRefused region kind bytes

-- what begins bytes, by their first byte
abbrev Starts : Depth → List ℕ → Type 0
Starts region bytes = HasPart region bytes ⊎ HasRefusal region bytes

at_string : (region depth : Depth) (first : ℕ) (body : List ℕ) → first ≡ string_type depth
    → (depths.bits_of region < depths.bits_of depth) ⊎ (depths.bits_of depth ≤ depths.bits_of region)
    → Walks depth body → Starts region (first ∷ body)
at_string region depth first body is (inl deeper) found =
    inr (TooDeep, (depth, is, λ no_deeper. omega (arith, deeper, no_deeper)))
at_string region depth first body is (inr no_deeper) (inl (size, fits, codes, text)) =
    inl (record {
      part = string depth codes;
      front = first ∷ take size body;
      rest = drop size body;
      joined = ap (λ (bytes : List ℕ). first ∷ bytes) (sym (take-append-drop size body));
      is_part = (no_deeper, take size body, ap (λ (byte : ℕ). byte ∷ take size body) is, text);
    })
at_string region depth first body is (inr no_deeper) (inr none) = inr (CutString, (depth, is, no_deeper, none))

at_table : (region : Depth) (kind : MapTable) (first : ℕ) (body : List ℕ) → first ≡ table_type kind
    → (length body < table_size kind) ⊎ (table_size kind ≤ length body)
    → Starts region (first ∷ body)
at_table region kind first body is (inl cut) = inr (CutTable, (kind, is, cut))
at_table region kind first body is (inr fits) =
    inl (record {
      part = table kind (entries_of kind (take (table_size kind) body));
      front = first ∷ take (table_size kind) body;
      rest = drop (table_size kind) body;
      joined = ap (λ (bytes : List ℕ). first ∷ bytes) (sym (take-append-drop (table_size kind) body));
      is_part = (
        take (table_size kind) body,
        ap (λ (byte : ℕ). byte ∷ take (table_size kind) body) is,
        length-take-le (table_size kind) body fits,
        refl,
      );
    })

at_head : (region : Depth) (first : ℕ) (body : List ℕ) (head : Option Head) → Begins first head
    → Starts region (first ∷ body)
at_head region first body None is = inr (UnknownType, is)
at_head region first body (Some (PixelString depth)) is =
    at_string region depth first body is (cases_lt (depths.bits_of region) (depths.bits_of depth))
    (string_or_none depth body)
at_head region first body (Some (Table kind)) is =
    at_table region kind first body is (cases_lt (length body) (table_size kind))
at_head region first body (Some LineEnd) is =
    inl (record {
      part = line_end;
      front = first ∷ [];
      rest = body;
      joined = refl;
      is_part = ap (λ (byte : ℕ). byte ∷ []) is;
    })

-- ---- blocks

abbrev HasParts : Depth → List ℕ → Type 0
HasParts region bytes = (parts : List Part) × AreParts region parts bytes

abbrev HasFault : Depth → List ℕ → Type 0
HasFault region bytes = (fault : CodeFault) × IsBlockFault region bytes fault

-- bytes are a block or have a fault
abbrev IsJudged : Depth → List ℕ → Type 0
IsJudged region bytes = HasParts region bytes ⊎ HasFault region bytes

-- a sub-block has a byte
some_bytes : (region : Depth) (part : Part) (front : List ℕ) → IsPart region part front → 1 ≤ length front
some_bytes region (string depth codes) front is = omega (arith, ap length is.2)
some_bytes region (table kind entries) front is = omega (arith, ap length is.1)
some_bytes region line_end front is = omega (arith, ap length is)

-- a sub-block and what stands behind it
behind_part : (region : Depth) (bytes : List ℕ) (found : HasPart region bytes) → IsJudged region found.rest
    → IsJudged region bytes
behind_part region bytes found (inl (parts, are)) =
    inl (found.part ∷ parts, (found.front, found.rest, found.joined, found.is_part, are))
behind_part region bytes found (inr (fault, bad)) =
    inr (
      record { place = length found.front + fault.place; kind = fault.kind },
      record {
        parts = found.part ∷ bad.parts;
        before = found.front ++ bad.before;
        after = bad.after;
        whole = found.joined ∙ ap (λ (rest : List ℕ). found.front ++ rest) bad.whole
            ∙ sym (append_assoc found.front bad.before bad.after);
        good = (found.front, bad.before, refl, found.is_part, bad.good);
        refused = bad.refused;
        place = omega (arith, bad.place, length-append found.front bad.before);
      },
    )

fewer_behind : (region : Depth) (bytes : List ℕ) (found : HasPart region bytes) → length found.rest < length bytes
fewer_behind region bytes found =
    let some = some_bytes region found.part found.front found.is_part in
    omega (arith, some, ap length found.joined, length-append found.front found.rest)

from_front : (region : Depth) (bytes : List ℕ) → Starts region bytes
    → ((rest : List ℕ) → length rest < length bytes → IsJudged region rest) → IsJudged region bytes
from_front region bytes (inl found) behind =
    behind_part region bytes found (behind found.rest (fewer_behind region bytes found))
from_front region bytes (inr (kind, refused)) behind =
    inr (
      record { place = 0; kind = kind },
      record { parts = []; before = []; after = bytes; whole = refl; good = refl; refused = refused; place = refl },
    )

block_within : (region : Depth) (most : ℕ) (bytes : List ℕ) → length bytes ≤ most → IsJudged region bytes
block_within region most [] few = inl ([], refl)
block_within region zero (first ∷ body) few = absurd (omega arith)
block_within region (suc most) (first ∷ body) few =
    from_front region (first ∷ body) (at_head region first body (head_of first) (begins first))
    (λ rest fewer. block_within region most rest (omega (arith, few, fewer)))

-- all bytes are a block or have a fault
pub parts_or_fault : (region : Depth) (bytes : List ℕ)
    → ((parts : List Part) × AreParts region parts bytes)
    ⊎ ((fault : CodeFault) × IsBlockFault region bytes fault)
parts_or_fault region bytes = block_within region (length bytes) bytes (omega arith)
