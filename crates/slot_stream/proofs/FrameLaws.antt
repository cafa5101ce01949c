-- The packets of a stream, written frame by frame.
use Rattle.std.proofs.Common.{◌≡◌, ◌∙◌, ℕ, ◌+◌, ◌-◌, ◌<◌, ◌≤◌, min, List, ◌++◌, length, length-append, map, take, drop, Option, sym, ap, subst, arith}
use Rattle.std.proofs.KnownBytes.{Appends-trans}
use Rattle.std.proofs.lemmas.Grind.{flat_map-append}
use Rattle.std.proofs.lemmas.List.{take-append-drop}
use Rattle.std.proofs.lemmas.List.Folds.{flat_map-map}
use Rattle.std.proofs.lemmas.List.Elements.{All-append, All-drop}
use Rattle.std.specs.Io.KnownBytes.{Appends}
use Rattle.std.specs.List.{flat_map, range_with_len}
use Rattle.sub_base.specs.Endpoints.{AppendsPrefix}
use Rattle.command_text.proofs.SentLaws.{Sent-front}
use Rattle.stream_syntax.specs.TransportPackets.{null_packet}
use Rattle.slot_stream.specs.Private.Frames.{AreNull, packets_at}
use Rattle.slot_stream.specs.SlotStream.{Piece, packets_before, slot_packet}
use Rattle.slot_stream.proofs.LaidPackets.{range-split}
use Rattle.slot_stream.proofs.SlotLaws.{stream-rest}

-- the bytes of a frame, one packet after the other
pub frame_bytes : (pid : ℕ) (pieces : List Piece) (slots : List ℕ) (from count : ℕ) (frame : List (List ℕ))
    → frame ≡ map (slot_packet pid pieces slots) (range_with_len from count)
    → flat_map (λ (packet : List ℕ). packet) frame ≡ packets_at pid pieces slots from count
frame_bytes pid pieces slots from count frame is =
    ap (flat_map (λ (packet : List ℕ). packet)) is
    ∙ flat_map-map (λ (packet : List ℕ). packet) (slot_packet pid pieces slots) (range_with_len from count)

-- the packets before a frame, and those of the frame
pub before_more : (pid : ℕ) (pieces : List Piece) (slots : List ℕ) (slot many : ℕ)
    → packets_before pid pieces slots slot ++ packets_at pid pieces slots slot many
    ≡ packets_before pid pieces slots (slot + many)
before_more pid pieces slots slot many =
    let sent = slot_packet pid pieces slots in
    ap (λ (k : ℕ). packets_before pid pieces slots slot ++ packets_at pid pieces slots k many) (omega arith)
    ∙ sym (flat_map-append sent (range_with_len 0 slot) (range_with_len (0 + slot) many))
    ∙ ap (flat_map sent) (sym (range-split slot 0 many))

-- a frame more was written
pub written_more : (pid : ℕ) (pieces : List Piece) (slots : List ℕ) (slot many : ℕ)
    (start old new : Option (List ℕ))
    → Appends start old (packets_before pid pieces slots slot)
    → Appends old new (packets_at pid pieces slots slot many)
    → Appends start new (packets_before pid pieces slots (slot + many))
written_more pid pieces slots slot many start old new before more =
    subst (λ (bytes : List ℕ). Appends start new bytes) (before_more pid pieces slots slot many)
    (Appends-trans start old new (packets_before pid pieces slots slot) (packets_at pid pieces slots slot many) before
    more)

-- a prefix of a frame was written
pub written_front : (pid : ℕ) (pieces : List Piece) (slots : List ℕ) (slot many count : ℕ)
    (start old new : Option (List ℕ)) → slot + many ≤ count
    → Appends start old (packets_before pid pieces slots slot)
    → AppendsPrefix old new (packets_at pid pieces slots slot many)
    → AppendsPrefix start new (packets_before pid pieces slots count)
written_front pid pieces slots slot many count start old new within before front =
    let rest = stream-rest (slot_packet pid pieces slots) (slot + many) count within in
    Sent-front start old new (packets_at pid pieces slots slot many) (packets_before pid pieces slots (slot + many))
    rest.0 (packets_before pid pieces slots count) (record {
      written = packets_before pid pieces slots slot;
      appended = before;
      whole = before_more pid pieces slots slot many;
    }) front rest.1

-- as many slots as are left, or as there is room for
pub room_for_many : (many count slot room : ℕ) → many ≡ min (count - slot) room → many ≤ room
room_for_many many count slot room is = grind arith

pub many_left : (many count slot room : ℕ) → many ≡ min (count - slot) room → slot < count → slot + many ≤ count
many_left many count slot room is less = grind arith

-- what is written in a part of the room leaves the room as it was
pub room_stays : (many : ℕ) (room frame : List (List ℕ)) → length frame ≡ length (take many room)
    → 1 ≤ length room → 1 ≤ length (frame ++ drop many room)
room_stays many room frame same some =
    omega (
      arith,
      same,
      some,
      length-append frame (drop many room),
      length-append (take many room) (drop many room),
      ap length (take-append-drop many room),
    )

pub nulls_stay : (many : ℕ) (room frame : List (List ℕ)) → AreNull frame → AreNull room
    → AreNull (frame ++ drop many room)
nulls_stay many room frame here there =
    All-append (λ (packet : List ℕ). packet ≡ null_packet) frame (drop many room) here
    (All-drop (λ (packet : List ℕ). packet ≡ null_packet) many room there)
