-- Packets that are put at their slots in a frame of null packets, and taken out of it again.
use Rattle.std.proofs.Common.{◌≡◌, ◌≢◌, ◌∙◌, ℕ, ◌+◌, ◌<◌, ◌≤◌, ◌⊎◌, inl, inr, List, [], length, length-set, map, get_or, set, refl, sym, ap, arith}
use Rattle.std.specs.List.{range_with_len}
use Rattle.std.specs.List.Sorted.{IsStrictlyIncreasing}
use Rattle.std.proofs.lemmas.List.{ext_get_or, get_or-set_other, get_or-set_same}
use Rattle.std.proofs.lemmas.List.Elements.{All-from_get_or, All-get_or}
use Rattle.std.proofs.lemmas.List.FromFn.{get_or-map-range_with_len, length-map-range_with_len}
use Rattle.stream_syntax.specs.TransportPackets.{null_packet}
use Rattle.slot_stream.specs.Private.Frames.{AreNull, AreNullElsewhere}
use Rattle.slot_stream.specs.SlotStream.{Piece, packet_at, slot_packet}
use Rattle.slot_stream.specs.SlotWalk.{IsNextPlace}
use Rattle.slot_stream.proofs.PieceLaws.{at_most_or_above}
use Rattle.slot_stream.proofs.SlotLaws.{later_slot, place_from-none}

-- the same number, or another one
same_or_other : (a b : ℕ) → (a ≡ b) ⊎ (a ≢ b)
same_or_other a b = grind arith

-- no slot of some, from one number up to another, is this one
abbrev pub HasNone : List ℕ → ℕ → ℕ → ℕ → Type 0
HasNone slots next number slot = (j : ℕ) → next ≤ j → j < number → get_or slots j 0 ≢ slot

-- ---- the slots of a frame

-- those before the frame, and those behind it, have other slots than the frame has
none_there : (slots : List ℕ) (next end from many i : ℕ) → IsNextPlace slots next from
    → IsNextPlace slots end (from + many)
    → i < many → HasNone slots next end (from + i) → (j : ℕ) → j < length slots → get_or slots j 0 ≢ from + i
none_there slots next end from many i first last within none j short =
    elim (at_most_or_above next j) [
      | inl low ↦ elim (at_most_or_above end j) [
        | inl past ↦ let above : from + many ≤ get_or slots j 0 = last.after j past short in λ e. omega arith
        | inr high ↦ none j low high
      ]
      | inr early ↦ let below : get_or slots j 0 < from = first.before j early in λ e. omega arith
    ]

-- the frame's slots are those from one number up to another
pub next_within : (slots : List ℕ) (next end from many : ℕ) → IsNextPlace slots next from
    → IsNextPlace slots end (from + many) → next ≤ end
next_within slots next end from many first last =
    elim (at_most_or_above next end) [
      | inl low ↦ low
      | inr high ↦
          let most = first.within in
          let below : get_or slots end 0 < from = first.before end high in
          let above : from + many ≤ get_or slots end 0 = last.after end (omega arith) (omega arith) in
          absurd (omega arith)
    ]

-- a piece is the next one at its slot
pub next_at : (slots : List ℕ) (number : ℕ) → IsStrictlyIncreasing slots → number < length slots
    → IsNextPlace slots number (get_or slots number 0)
next_at slots number rising short = record {
  within = omega arith;
  before = λ j low. later_slot slots j number rising low short;
  after = λ j high within. elim (same_or_other number j) [
    | inl same ↦ let here : get_or slots number 0 ≡ get_or slots j 0 = ap (λ k. get_or slots k 0) same in omega arith
    | inr other ↦
        let more : get_or slots number 0 < get_or slots j 0 =
        later_slot slots number j rising (omega (arith, high, other)) within in
        omega arith
  ];
}

-- ---- packets are put into it

-- each packet is that of its slot, or else the null packet, where no piece so far has its slot
abbrev pub IsFilling : (ℕ → List ℕ) → List ℕ → ℕ → ℕ → ℕ → List (List ℕ) → Type 0
IsFilling sent slots next number from frame = (i : ℕ) → i < length frame
    → (get_or frame i [] ≡ sent (from + i))
    ⊎ ((get_or frame i [] ≡ null_packet) × HasNone slots next number (from + i))

pub filling_begins : (sent : ℕ → List ℕ) (slots : List ℕ) (next from : ℕ) (frame : List (List ℕ)) → AreNull frame
    → IsFilling sent slots next next from frame
filling_begins sent slots next from frame null = λ i within. inr (
  All-get_or (λ (packet : List ℕ). packet ≡ null_packet) frame i [] within null,
  λ j low high. absurd (omega arith),
)

pub filling_more : (sent : ℕ → List ℕ) (slots : List ℕ) (next number from place : ℕ) (frame : List (List ℕ))
    (packet : List ℕ) → place < length frame → get_or slots number 0 ≡ from + place → packet ≡ sent (from + place)
    → IsFilling sent slots next number from frame
    → IsFilling sent slots next (number + 1) from (set frame place packet)
filling_more sent slots next number from place frame packet fits here is filling i within =
    let inside : i < length frame = omega (arith, within, length-set frame place packet) in
    elim (same_or_other i place) [
      | inl same ↦ inl (ap (λ k. get_or (set frame place packet) k []) same
          ∙ get_or-set_same frame place packet [] fits
          ∙ is ∙ ap (λ k. sent (from + k)) (sym same))
      | inr other ↦
          let stays = get_or-set_other frame place i packet [] other in
          elim (filling i inside) [
            | inl made ↦ inl (stays ∙ made)
            | inr left ↦ inr (
              stays ∙ left.0,
              λ j low high. elim (same_or_other j number) [
                | inl last ↦ λ e. other (omega (arith, e, here, ap (λ k. get_or slots k 0) last))
                | inr before ↦ left.1 j low (omega (arith, high, before))
              ],
            )
          ]
    ]

pub filled : (pid : ℕ) (pieces : List Piece) (slots : List ℕ) (next end from many : ℕ) (frame : List (List ℕ))
    → length frame ≡ many → IsNextPlace slots next from → IsNextPlace slots end (from + many)
    → IsFilling (slot_packet pid pieces slots) slots next end from frame
    → frame ≡ map (slot_packet pid pieces slots) (range_with_len from many)
filled pid pieces slots next end from many frame long first last filling =
    ext_get_or [] frame (map sent (range_with_len from many))
    (long ∙ sym (length-map-range_with_len sent from many))
    (λ i within. here i within (omega (arith, within, long)))
  where
    sent : ℕ → List ℕ
    sent = slot_packet pid pieces slots

    here : (i : ℕ) → i < length frame → i < many
        → get_or frame i [] ≡ get_or (map sent (range_with_len from many)) i []
    here i within inside =
        let told = get_or-map-range_with_len sent from many i (from + i) [] inside refl in
        elim (filling i within) [
          | inl made ↦ made ∙ sym told
          | inr left ↦ left.0
              ∙ sym (ap (packet_at pid pieces)
              (place_from-none slots 0 (from + i) (none_there slots next end from many i first last inside left.1)))
              ∙ sym told
        ]

-- ---- and null packets again

-- slots of no piece have null packets
pub null_elsewhere : (pid : ℕ) (pieces : List Piece) (slots : List ℕ) (from many : ℕ) (frame : List (List ℕ))
    → length frame ≡ many → frame ≡ map (slot_packet pid pieces slots) (range_with_len from many)
    → AreNullElsewhere slots from frame
null_elsewhere pid pieces slots from many frame long is = λ i within none.
    ap (λ (packets : List (List ℕ)). get_or packets i []) is
    ∙ get_or-map-range_with_len (slot_packet pid pieces slots) from many i (from + i) []
    (omega (arith, within, long)) refl
    ∙ ap (packet_at pid pieces) none

-- a packet is the null packet where no piece that is left has its slot
abbrev pub IsClearing : List ℕ → ℕ → ℕ → ℕ → List (List ℕ) → Type 0
IsClearing slots number end from frame = (i : ℕ) → i < length frame → HasNone slots number end (from + i)
    → get_or frame i [] ≡ null_packet

pub clearing_begins : (slots : List ℕ) (next end from : ℕ) (frame : List (List ℕ)) → IsNextPlace slots next from
    → IsNextPlace slots end (from + length frame) → AreNullElsewhere slots from frame
    → IsClearing slots next end from frame
clearing_begins slots next end from frame first last elsewhere = λ i within none. elsewhere i within
    (place_from-none slots 0 (from + i) (none_there slots next end from (length frame) i first last within none))

pub clearing_more : (slots : List ℕ) (number end from place : ℕ) (frame : List (List ℕ)) (packet : List ℕ)
    → place < length frame → get_or slots number 0 ≡ from + place → packet ≡ null_packet
    → IsClearing slots number end from frame → IsClearing slots (number + 1) end from (set frame place packet)
clearing_more slots number end from place frame packet fits here is clearing i within none =
    let inside : i < length frame = omega (arith, within, length-set frame place packet) in
    elim (same_or_other i place) [
      | inl same ↦ ap (λ k. get_or (set frame place packet) k []) same ∙ get_or-set_same frame place packet [] fits
          ∙ is
      | inr other ↦ get_or-set_other frame place i packet [] other
          ∙ clearing i inside (λ j low high. elim (same_or_other j number) [
            | inl last ↦ λ e. other (omega (arith, e, here, ap (λ k. get_or slots k 0) last))
            | inr behind ↦ none j (omega (arith, low, behind)) high
          ])
    ]

pub cleared : (slots : List ℕ) (end from : ℕ) (frame : List (List ℕ)) → IsClearing slots end end from frame
    → AreNull frame
cleared slots end from frame clearing =
    All-from_get_or (λ (packet : List ℕ). packet ≡ null_packet) frame []
    (λ i within. clearing i within (λ j low high. absurd (omega arith)))
