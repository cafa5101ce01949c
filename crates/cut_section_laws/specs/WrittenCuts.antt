-- A section that is written into packets of its own (ISO/IEC 13818-1, 2.4.4).
use Rattle.std.specs.Prelude.{◌≡◌, ℕ, ◌+◌, ◌%◌, ◌<◌, ◌≤◌, true, false, List, [], ◌∷◌, ◌++◌, length}
use Rattle.std.specs.List.{concat, AllByRecursion}
use Rattle.stream_syntax.specs.declared.wire.TheConstants.{PAYLOAD_LENGTH}
use Rattle.stream_syntax.specs.TransportPackets.{written_packet}
use Rattle.section_reader.specs.Sections.{sections_of}
use Rattle.cut_section_laws.specs.SectionCuts.{IsWholeSection, pointed}

-- packets that carry these pieces, one each, behind a packet with this counter
abbrev pub packets_behind : ℕ → ℕ → List (List ℕ) → List (List ℕ)
packets_behind pid counter [] = []
packets_behind pid counter (piece ∷ pieces) =
    written_packet pid false ((counter + 1) % 16) piece ∷ packets_behind pid ((counter + 1) % 16) pieces

-- a piece that a payload has room for
abbrev pub FitsPayload : List ℕ → Type 0
FitsPayload piece = (1 ≤ length piece) × (length piece ≤ PAYLOAD_LENGTH)

-- whatever section is written, and into whatever pieces it is cut that payloads have room for, the first behind a
-- pointer_field of 0, from whatever counter on: it alone comes of these packets
abbrev pub EveryWriting : ℕ → Type 0
EveryWriting pid =
    (counter : ℕ) (front section : List ℕ) (pieces : List (List ℕ)) → counter < 16 → IsWholeSection section
    → section ≡ front ++ concat pieces → 1 ≤ length front → FitsPayload (pointed [] front)
    → AllByRecursion FitsPayload pieces
    → sections_of pid (written_packet pid true counter (pointed [] front) ∷ packets_behind pid counter pieces)
    ≡ section ∷ []
