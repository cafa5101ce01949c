-- The packets of sets that are cut into pieces, with null packets between, give the calls of the scheduled sets.
use Rattle.std.proofs.Common.{◌≡◌, ◌≢◌, ◌∙◌, inl, inr, ℕ, zero, suc, ◌+◌, ◌-◌, ◌<◌, ◌≤◌, false, List, [], ◌∷◌, ◌++◌, length, take, drop, reverse, replicate, sym, ap, subst, arith, append-nil, append_assoc, length-append, length-drop}
use Rattle.std.specs.Prelude.{None, flat_map, slice_index}
use Rattle.std.specs.List.{AllByRecursion}
use Rattle.std.proofs.lemmas.Bool.{cases_lt}
use Rattle.sub_base.specs.declared.load.WriteLoad.{WriteLoad}
use Rattle.buffer_model.specs.Calls.{Call}
use Rattle.schedule.specs.Packets.{packets_of, first_packet}
use Rattle.schedule.specs.Slots.{slot_of}
use Rattle.stream_syntax.specs.TransportPackets.{null_packet, packet_fault}
use Rattle.stream_syntax.specs.Units.{hand_after, last_counter}
use Rattle.decoder_model.specs.declared.pages.Pages.{Pages}
use Rattle.decoder_model.specs.Sets.{sets_of}
use Rattle.decoder_model.proofs.Growth.{packets_add}
use Rattle.decoder_model.proofs.SentUnits.{all_taken}
use Rattle.scheduled_level_laws.proofs.EnteredSums.{AreSlots, within_slots, rising}
use Rattle.slot_stream.specs.SlotStream.{Piece, packet_of, all_pieces}
use Rattle.received_level_laws.specs.StreamCalls.{count_with}
use Rattle.received_level_laws.proofs.PacketCalls.{sound_front}
use Rattle.shown_stream.proofs.Calls.BroughtPieces.{null_brings}
use Rattle.shown_stream.proofs.Calls.CallsOfPieces.{Hearing, Place, place_at, E, AreUsedUp, Add, one_more, units_in, AreLeft, Piecewise, Position, nothing_left, goes_on, dropped}
use Rattle.shown_stream.proofs.Calls.EnteredSlots.{no_packet}
use Rattle.slot_stream.proofs.LaidPackets.{laid, IsAhead}
use Rattle.shown_stream.proofs.Calls.PiecePackets.{null_more, null_count}
use Rattle.shown_stream.proofs.Calls.PieceSteps.{piece_step}
use Rattle.shown_stream.proofs.Calls.SetsInHand.{plain_piece}

-- ---- the next packet

pub laid_here : (pid slot number at : ℕ) (piece : Piece) (pieces : List Piece) (slots : List ℕ) → at ≡ slot
    → laid pid slot number (piece ∷ pieces) (at ∷ slots) ≡ packet_of pid number piece
    ∷ laid pid (slot + 1) (number + 1) pieces slots
laid_here pid slot number at piece pieces slots same =
    let none : slot - slot ≡ 0 = omega arith in
    ap (λ n. replicate (n - slot) null_packet ++ packet_of pid number piece
    ∷ laid pid (n + 1) (number + 1) pieces slots) same
    ∙ ap (λ n. replicate n null_packet ++ packet_of pid number piece
    ∷ laid pid (slot + 1) (number + 1) pieces slots) none

pub laid_later : (pid slot number at : ℕ) (piece : Piece) (pieces : List Piece) (slots : List ℕ) → slot < at
    → laid pid slot number (piece ∷ pieces) (at ∷ slots) ≡ null_packet
    ∷ laid pid (slot + 1) number (piece ∷ pieces) (at ∷ slots)
laid_later pid slot number at piece pieces slots later =
    let more : at - slot ≡ suc (at - (slot + 1)) = omega arith in
    ap (λ n. replicate n null_packet ++ packet_of pid number piece ∷ laid pid (at + 1) (number + 1) pieces slots)
    more

-- between the slots of two packets no packet stands
pub none_between : (loads : List WriteLoad) (slots : List ℕ) (slot number : ℕ) → AreSlots loads slots
    → ((q : ℕ) → q < number → slice_index slots q < slot) → slot < slice_index slots number → (i k : ℕ)
    → i < length loads → k < packets_of loads i → slot_of loads slots i k ≢ slot
none_between loads slots slot number are passed later i k inside within = λ same.
    elim (cases_lt (first_packet loads i + k) number) [
      | inl less ↦ (let under = passed (first_packet loads i + k) less in absurd (omega arith))
      | inr most ↦
          elim (cases_lt number (first_packet loads i + k)) [
            | inl more ↦
                (let above = rising slots number (first_packet loads i + k) are.rise more
                (within_slots loads slots i k are inside within) in absurd (omega arith))
            | inr least ↦
                (let at : first_packet loads i + k
                ≡ number = omega arith in absurd (omega (arith, later, same, ap (slice_index slots) at)))
          ]
    ]

-- ---- which calls are used up

-- the calls that are left behind a packet
pub used_next : (coded pid : ℕ) (pages : Pages) (count : ℕ) (before packets : List (List ℕ)) (packet : List ℕ)
    (calls : List (List Call)) → count_with coded pid pages before packet ≡ count
    → AreUsedUp coded pid pages before (packet ∷ packets) (length calls)
    → (count ≤ length calls)
    × AreUsedUp coded pid pages (before ++ packet ∷ []) packets (length (drop count calls))
used_next coded pid pages count before packets packet calls counted used =
    let some = used.0 in
    let left : length calls - count_with coded pid pages before packet ≡ length (drop count calls) =
    ap (λ n. length calls - n) counted ∙ sym (length-drop count calls) in
    (omega (arith, some, counted), subst (AreUsedUp coded pid pages (before ++ packet ∷ []) packets) left used.1)

-- the sets and losses that come with packets are used up by them
pub used_up : (coded pid : ℕ) (pages : Pages) (before packets : List (List ℕ)) (n : ℕ)
    → AllByRecursion (λ packet. packet_fault pid packet ≡ None) (before ++ packets)
    → length (sets_of coded pid pages false (before ++ packets)) ≡ length (sets_of coded pid pages false before) + n
    → AreUsedUp coded pid pages before packets n
used_up coded pid pages before [] n sound all =
    omega (arith, all, ap (λ packets. length (sets_of coded pid pages false packets)) (append-nil before))
used_up coded pid pages before (packet ∷ packets) n sound all =
    let regrouped : (before ++ packet ∷ []) ++ packets ≡ before ++ packet ∷ packets =
    append_assoc before (packet ∷ []) packets in
    let sound_all = subst (AllByRecursion (λ packet. packet_fault pid packet ≡ None)) (sym regrouped) sound in
    let sound_more = sound_front pid (before ++ packet ∷ []) packets sound_all in
    let sound_here = sound_front pid before (packet ∷ []) sound_more in
    let one =
    packets_add coded pid pages before (packet ∷ []) (all_taken pid before sound_here)
    (all_taken pid (before ++ packet ∷ []) sound_more) in
    let rest =
    packets_add coded pid pages (before ++ packet ∷ []) packets
    (all_taken pid (before ++ packet ∷ []) sound_more)
    (all_taken pid ((before ++ packet ∷ []) ++ packets) sound_all) in
    let whole : length (sets_of coded pid pages false ((before ++ packet ∷ []) ++ packets))
    ≡ length (sets_of coded pid pages false before)
    + n = ap (λ packets. length (sets_of coded pid pages false packets)) regrouped ∙ all in
    let first : length (sets_of coded pid pages false (before ++ packet ∷ []))
    ≡ length (sets_of coded pid pages false before) + length one.0 = ap length one.1
    ∙ length-append (sets_of coded pid pages false before) one.0 in
    let later : length (sets_of coded pid pages false ((before ++ packet ∷ []) ++ packets))
    ≡ length (sets_of coded pid pages false (before ++ packet ∷ [])) + length rest.0 = ap length rest.1
    ∙ length-append (sets_of coded pid pages false (before ++ packet ∷ [])) rest.0 in (
      omega (arith, whole, first, later),
      used_up coded pid pages (before ++ packet ∷ []) packets
          (n - count_with coded pid pages before packet) sound_all (omega (arith, whole, first, later)),
    )

-- ---- the packets, one by one

-- behind a place these are the slots of the packets that are left, and these calls of sets
pub record Awaits (hearing : Hearing) (place : Place) (places : List ℕ) (calls : List (List Call)) : Type 0 where
  pub ahead : IsAhead place.slot places
  pub places_are : drop place.number hearing.slots ≡ places
  pub is_left : AreLeft hearing.loads hearing.painted hearing.entry place.set calls

-- the packets that are laid from a place on
abbrev pub laid_from : Hearing → Place → List Piece → List ℕ → List (List ℕ)
laid_from hearing place pieces places = laid hearing.pid place.slot place.number pieces places

-- the first m of these packets add the calls of the scheduled sets at their slots
abbrev pub Tell : (hearing : Hearing) (place : Place) (m : ℕ) (calls : List (List Call)) (packets : List (List ℕ))
    → Type 0
Tell hearing place m calls packets =
    m ≤ length packets
    → AreUsedUp hearing.coded hearing.pid hearing.pages place.before (take m packets) (length calls)
    → Add hearing place.slot place.before (take m packets) calls m

-- so many packets from a place on do so
abbrev pub Walk : (hearing : Hearing) (m : ℕ) → Type 0
Walk hearing m =
    (place : Place) (left : List Piece) (places : List ℕ) (calls : List (List Call)) → Position hearing place left
    → Awaits hearing place places calls → Tell hearing place m calls (laid_from hearing place left places)

-- no packet more
pub walk_none : (hearing : Hearing) → Walk hearing 0
walk_none hearing = λ place left places calls position awaits many used. by place.slot calls used
  where
    by : (slot : ℕ) (calls : List (List Call)) → length calls ≡ 0
        → reverse (flat_map (λ (calls : List Call). calls) calls)
        ++ E hearing slot ≡ E hearing (slot + 0)
    by slot [] none = let same : slot ≡ slot + 0 = omega arith in ap (E hearing) same
    by slot (first ∷ calls) none = absurd (omega arith)

-- one packet more of these pieces, the first of which waits for its slot
pub record Waiting (hearing : Hearing) : Type 0 where
  pub place : Place
  pub left : List Piece
  pub here : Piecewise hearing place left
  pub at : ℕ
  pub places : List ℕ
  pub calls : List (List Call)
  pub awaits : Awaits hearing place (at ∷ places) calls

-- a null packet, and those behind it
walk_null : (hearing : Hearing) (m : ℕ) → Walk hearing m → (waits : Waiting hearing) → waits.place.slot < waits.at
    → Tell hearing waits.place (suc m) waits.calls
    (null_packet
    ∷ laid hearing.pid (waits.place.slot + 1) waits.place.number waits.left (waits.at ∷ waits.places))
walk_null hearing m walk waits later =
    λ many used.
    let place = waits.place in
    let awaits = waits.awaits in
    let packets = laid hearing.pid (place.slot + 1) place.number waits.left (waits.at ∷ waits.places) in
    let counted = null_count hearing place waits.left waits.here in
    let behind =
    used_next hearing.coded hearing.pid hearing.pages 0 place.before (take m packets) null_packet waits.calls counted
    used
    in
    let found = dropped place.number hearing.slots waits.at waits.places awaits.places_are in
    let same : suc place.slot ≡ place.slot + 1 = omega arith in
    one_more hearing place.slot 0 0 m place.before null_packet (take m packets) waits.calls
    (plain_piece hearing.coded hearing.pid hearing.pages 0 place.before null_packet
    (hand_after hearing.pid hearing.coded place.before) (last_counter hearing.pid place.before)
    (null_brings hearing.pid hearing.coded place.before hearing.free)) counted
    (sym (no_packet hearing.loads hearing.slots place.slot hearing.painted hearing.entry (length hearing.loads)
    hearing.are (omega arith)
    (none_between hearing.loads hearing.slots place.slot place.number hearing.are waits.here.goes.passed
    (omega (arith, later, found.1))))
    ∙ ap (E hearing) same)
    (walk (place_at (place.slot + 1) place.number place.set (place.before ++ null_packet ∷ [])) waits.left
    (waits.at ∷ waits.places) waits.calls (goes_on (null_more hearing place waits.left waits.here))
    (record {
      ahead = (omega arith, awaits.ahead.1);
      places_are = awaits.places_are;
      is_left = awaits.is_left;
    })
    (omega arith) behind.1)

-- the pieces behind the next one
abbrev rest_of : (hearing : Hearing) (waits : Waiting hearing) → List Piece
rest_of hearing waits =
    waits.here.pieces ++ (all_pieces waits.here.units ++ all_pieces (units_in waits.here.course.groups))

-- the packet of a piece, and those behind it
walk_piece : (hearing : Hearing) (m : ℕ) → Walk hearing m → (waits : Waiting hearing) → waits.at ≡ waits.place.slot
    → Tell hearing waits.place (suc m) waits.calls
    (packet_of hearing.pid waits.place.number waits.here.piece
    ∷ laid hearing.pid (waits.place.slot + 1) (waits.place.number + 1) (rest_of hearing waits) waits.places)
walk_piece hearing m walk waits reached =
    λ many used.
    let place = waits.place in
    let awaits = waits.awaits in
    let rest = rest_of hearing waits in
    let packets = laid hearing.pid (place.slot + 1) (place.number + 1) rest waits.places in
    let packet = packet_of hearing.pid place.number waits.here.piece in
    let found = dropped place.number hearing.slots waits.at waits.places awaits.places_are in
    let step = piece_step hearing place waits.left waits.here (found.1 ∙ reached) in
    let behind =
    used_next hearing.coded hearing.pid hearing.pages step.count place.before (take m packets) packet waits.calls
    step.counted used in
    let following : suc place.number ≡ place.number + 1 = omega arith in
    one_more hearing place.slot (length waits.here.piece.bytes) step.count m place.before packet
    (take m packets) waits.calls step.plain step.counted (step.adds waits.calls behind.0 awaits.is_left)
    (walk (place_at (place.slot + 1) (place.number + 1) step.next (place.before ++ packet ∷ [])) rest waits.places
    (drop step.count waits.calls) step.onward
    (record {
      ahead = subst (λ (n : ℕ). IsAhead (n + 1) waits.places) reached awaits.ahead.1;
      places_are = ap (λ n. drop n hearing.slots) (sym following) ∙ found.2;
      is_left = step.left_behind waits.calls awaits.is_left;
    })
    (omega arith) behind.1)

-- one packet more
walk_more : (hearing : Hearing) (m : ℕ) → Walk hearing m → Walk hearing (suc m)
walk_more hearing m walk =
    λ place left places calls position awaits. by place left places calls position awaits
  where
    by : Walk hearing (suc m)
    by place left places calls (nothing_left) awaits = λ many used. absurd (omega arith)
    by place left [] calls (goes_on here) awaits =
        subst (λ (pieces : List Piece). Tell hearing place (suc m) calls (laid_from hearing place pieces []))
        (sym here.left_is) (λ many used. absurd (omega arith))
    by place left (first ∷ places) calls (goes_on here) awaits =
        subst (λ (pieces : List Piece). Tell hearing place (suc m) calls
        (laid_from hearing place pieces (first ∷ places))) (sym here.left_is)
        (elim (cases_lt place.slot first) [
          | inl later ↦
              subst (Tell hearing place (suc m) calls)
              (sym (laid_later hearing.pid place.slot place.number first here.piece rest places later))
              (walk_null hearing m walk
              (waiting (here.piece ∷ rest) (subst (Piecewise hearing place) here.left_is here)) later)
          | inr most ↦
              let least = awaits.ahead.0 in
              let same : first ≡ place.slot = omega arith in
              subst (Tell hearing place (suc m) calls)
              (sym (laid_here hearing.pid place.slot place.number first here.piece rest places same))
              (walk_piece hearing m walk (waiting left here) same)
        ])
      where
        rest : List Piece
        rest = here.pieces ++ (all_pieces here.units ++ all_pieces (units_in here.course.groups))

        waiting : (left : List Piece) → Piecewise hearing place left → Waiting hearing
        waiting left here = record {
          place = place;
          left = left;
          here = here;
          at = first;
          places = places;
          calls = calls;
          awaits = awaits;
        }

-- the packets of sets in pieces, from any of them on, add the calls of the scheduled sets
pub walk : (hearing : Hearing) (m : ℕ) → Walk hearing m
walk hearing zero = walk_none hearing
walk hearing (suc m) = walk_more hearing m (walk hearing m)
