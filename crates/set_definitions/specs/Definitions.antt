-- What the segments of display sets define (EN 300 743, clause 7.2), and which definitions say something else under the
-- version that the last one before them had: of what is said, the bytes behind that of the version are compared.
use Rattle.std.specs.Prelude.{ℕ, ◌+◌, ◌/◌, ◌%◌, ◌==◌, ◌&&◌, Bool, false, not, if◌then◌else◌, List, [], ◌∷◌, ◌++◌, length, drop, codes, Option, Some, None}
use Rattle.std.specs.List.{list_any}
use Rattle.command_text.specs.Lines.{line_end, then_number, two_hex}
use Rattle.psi_tables.specs.Crc.{crc_of}
use Rattle.stream_syntax.specs.Tests.{byte_at, word_at}
use Rattle.stream_syntax.specs.declared.wire.TheConstants.{CLUT_DEFINITION, DISPLAY_DEFINITION, OBJECT_DATA, PAGE_COMPOSITION, REGION_COMPOSITION}
use Rattle.sub_base.specs.Lists.{first_given}
use Rattle.set_definitions.specs.declared.definition.Definition.{Definition}
use Rattle.set_definitions.specs.declared.definition.Said.{Said}

-- ---- one segment

-- what the bytes of a segment say whose version stands in the byte of that place: the version, and in the place of the
-- bytes behind, how many they are and their CRC (ISO/IEC 13818-1, annex A)
abbrev pub said_behind : ℕ → List ℕ → Said
said_behind place bytes = record {
  version = byte_at place bytes / 16;
  size = length (drop (place + 1) bytes);
  check = crc_of (drop (place + 1) bytes);
}

-- the definition of that kind, id and number whose version stands in the byte of that place
abbrev pub defines : ℕ → ℕ → ℕ → ℕ → List ℕ → Definition
defines kind id name place bytes =
    record { kind = kind; id = id; name = name; said = said_behind place bytes }

-- what a segment defines, where it defines anything: a page or a display, which have no id, or the region, CLUT or
-- object of an id. Each of these has a number of its own
abbrev pub definition_of : List ℕ → Option Definition
definition_of bytes =
    if byte_at 1 bytes == PAGE_COMPOSITION then Some (defines PAGE_COMPOSITION 0 0 7 bytes)
    else if byte_at 1 bytes == DISPLAY_DEFINITION then Some (defines DISPLAY_DEFINITION 0 1 6 bytes)
    else if byte_at 1 bytes == REGION_COMPOSITION
    then Some (defines REGION_COMPOSITION (byte_at 6 bytes) (2 + byte_at 6 bytes) 7 bytes)
    else if byte_at 1 bytes == CLUT_DEFINITION
    then Some (defines CLUT_DEFINITION (byte_at 6 bytes) (258 + byte_at 6 bytes) 7 bytes)
    else if byte_at 1 bytes == OBJECT_DATA
    then Some (defines OBJECT_DATA (word_at 6 bytes) (514 + word_at 6 bytes) 8 bytes)
    else None

-- a definition, where there is one, and then others
abbrev pub then_others : Option Definition → List Definition → List Definition
then_others None others = others
then_others (Some one) others = one ∷ others

-- the definitions in segments, in order
abbrev pub definitions_in : List (List ℕ) → List Definition
definitions_in [] = []
definitions_in (segment ∷ segments) = then_others (definition_of segment) (definitions_in segments)

-- a page of the state mode change (7.2.2, page_state)
abbrev pub is_mode_change : List ℕ → Bool
is_mode_change bytes = (byte_at 1 bytes == PAGE_COMPOSITION) && (byte_at 7 bytes / 4 % 4 == 2)

-- one of these segments is a page of the state mode change
abbrev pub begins_epoch : List (List ℕ) → Bool
begins_epoch segments = list_any is_mode_change segments

-- ---- behind earlier definitions, the latest first

-- definitions behind earlier ones
abbrev pub defined_behind : List Definition → List Definition → List Definition
defined_behind [] earlier = earlier
defined_behind (one ∷ rest) earlier = defined_behind rest (one ∷ earlier)

-- the earlier definitions of the epoch to which a set with these segments belongs: none where it begins it
abbrev pub earlier_in : List (List ℕ) → List Definition → List Definition
earlier_in segments before = if begins_epoch segments then [] else before

-- what the last one of that number says
abbrev pub last_said : ℕ → List Definition → Option Said
last_said name earlier =
    first_given (λ (one : Definition). if one.name == name then Some one.said else None) earlier

-- the bytes behind that of the version differ in number or in CRC, under the same version. What stands beside the
-- version in its byte (the state of a page, the fill flag of a region, the flags of an object or a display), and the
-- time-out of a page before it, is not compared
abbrev pub says_else : Said → Option Said → Bool
says_else said None = false
says_else said (Some last) =
    (last.version == said.version) && not ((last.size == said.size) && (last.check == said.check))

-- a definition of the set above that says something else than the last one, under its version: the type of its segment
-- and its id
abbrev pub same_version_line : Definition → List ℕ
same_version_line one = codes "sameversion " ++ two_hex one.kind ++ then_number one.id ++ line_end

-- the lines of definitions, each behind those before it
abbrev pub changed_lines : List Definition → List Definition → List (List ℕ)
changed_lines earlier [] = []
changed_lines earlier (one ∷ rest) =
    if says_else one.said (last_said one.name earlier)
    then same_version_line one ∷ changed_lines (one ∷ earlier) rest
    else changed_lines (one ∷ earlier) rest
