-- What a reader stands for, from one of its steps to the next.
use Rattle.std.proofs.Common.{◌≡◌, ℕ, ◌+◌, ◌-◌, ◌*◌, ◌/◌, ◌≤◌, ◌<◌, List, ◌++◌, length, take, drop, append_assoc, length-append, length-drop, length-take-le, sym, ap, ap₂, subst, ◌∙◌, arith}
use Rattle.std.specs.Prelude.{Result, Ok, Err, OnErr}
use Rattle.std.specs.Counts.{IsPrefixLen}
use Rattle.std.proofs.Math.Seq.{drop-append_seam, take-add, take-append_seam}
use Rattle.std.specs.Io.KnownBytes.{Consumes, IsAtEnd}
use Rattle.std.proofs.KnownBytes.{Consumes-kept, Consumes-trans}
use Rattle.std.proofs.lemmas.List.{drop-drop, drop-take}
use Rattle.std.proofs.lemmas.List.Edits.{take-paste}
use Rattle.std.specs.List.{copy_within}
use Rattle.sub_base.specs.Counts.{counted}
use Rattle.sub_base.specs.Endpoints.{Supplied}
use Rattle.packet_source.specs.Private.Filling.{HasRead, HasReadNothing, given_up}
use Rattle.packet_source.specs.InHand.{InHand, whole_packets}
use Rattle.packet_source.specs.Packets.{GivesMore, HasGivenInHand, stream_length}
use Rattle.packet_source.proofs.GaveLaws.{Gave-whole_packets, bytes_of, length-whole_packets}

-- the bytes behind the last whole packet were moved to that place
moved_rest : (room after : List ℕ) (rest filled place : ℕ) → after ≡ copy_within room rest filled place
    → rest ≤ filled → filled ≤ length room → place ≤ length room
    → take (filled - rest) (drop place after) ≡ take (filled - rest) (drop rest room)
moved_rest room after rest filled place moved below fits there =
    let n : ℕ = filled - rest in
    let front : length (take place room) ≡ place = length-take-le place room there in
    sym (drop-take place n after)
    ∙ ap (λ (l : List ℕ). drop place (take (place + n) l)) moved
    ∙ ap (λ (l : List ℕ). drop place l)
    (take-paste room place (drop rest room) n there (omega (arith, length-drop rest room)))
    ∙ ap (λ (k : ℕ). drop k (take place room ++ take n (drop rest room))) (sym front)
    ∙ drop-append_seam (take place room) (take n (drop rest room))

-- the bytes in hand in a room
abbrev pub in_room : ℕ → ℕ → ℕ → List ℕ → InHand
in_room first start filled room = record { first = first; bytes = take (filled - start) (drop start room) }

hand_count : (start filled : ℕ) (room : List ℕ) → start ≤ filled → filled ≤ length room
    → length (take (filled - start) (drop start room)) ≡ filled - start
hand_count start filled room below fits =
    length-take-le (filled - start) (drop start room) (omega (arith, length-drop start room))

-- the packets in hand were given up
pub given_up-moved : (first start filled front : ℕ) (room after : List ℕ) (hand : InHand) → start ≤ filled
    → filled ≤ length room → 188 ≤ front → front ≤ length room
    → after ≡ copy_within room (start + (filled - start) / 188 * 188) filled
    (front - (filled - (start + (filled - start) / 188 * 188)))
    → in_room first start filled room ≡ hand
    → in_room (first + (filled - start) / 188) (front - (filled - (start + (filled - start) / 188 * 188))) front
    after ≡ given_up hand
given_up-moved first start filled front room after hand below fits low high moved here =
    let count : ℕ = (filled - start) / 188 in
    let rest : ℕ = start + count * 188 in
    let place : ℕ = front - (filled - rest) in
    let kept : front - place ≡ filled - rest = omega arith in
    let long : filled - start ≡ count * 188 + (filled - rest) = omega arith in
    let left : take (front - place) (drop place after)
    ≡ drop (count * 188) (take (filled - start) (drop start room)) =
    ap (λ (n : ℕ). take n (drop place after)) kept
    ∙ moved_rest room after rest filled place moved (omega arith) fits (omega arith)
    ∙ ap (λ (l : List ℕ). take (filled - rest) l) (sym (drop-drop (count * 188) start room))
    ∙ sym (drop-take (count * 188) (filled - rest) (drop start room))
    ∙ ap (λ (n : ℕ). drop (count * 188) (take n (drop start room))) (sym long) in
    ap (hand_of (first + count)) left
    ∙ ap (λ (n : ℕ). hand_of (first + n / 188) (drop (n / 188 * 188) (take (filled - start) (drop start room))))
    (sym (hand_count start filled room below fits))
    ∙ ap given_up here
  where
    hand_of : ℕ → List ℕ → InHand
    hand_of n bytes = record { first = n; bytes = bytes }

-- a room that is filled up with as many bytes as it has
pub refilled : (size : ℕ) (bytes room : List ℕ) → length bytes ≡ size
    → take size (bytes ++ drop (length bytes) room) ≡ bytes
refilled size bytes room full =
    ap (λ (n : ℕ). take n (bytes ++ drop (length bytes) room)) (sym full)
    ∙ take-append_seam bytes (drop (length bytes) room)

longer : (start kept count : ℕ) → start ≤ kept → kept + count - start ≡ kept - start + count
longer start kept count below = omega arith

hand_front : (start kept : ℕ) (bytes : List ℕ) → start ≤ kept
    → take (kept - start) (drop start bytes) ≡ drop start (take kept bytes)
hand_front start kept bytes below =
    let whole : start + (kept - start) ≡ kept = omega arith in
    sym (drop-take start (kept - start) bytes) ∙ ap (λ (k : ℕ). drop start (take k bytes)) whole

-- the bytes in hand are the same where those up to their end are
same_hand : (start kept : ℕ) (room after : List ℕ) → take kept after ≡ take kept room → start ≤ kept
    → take (kept - start) (drop start after) ≡ take (kept - start) (drop start room)
same_hand start kept room after front below =
    hand_front start kept after below ∙ ap (λ (l : List ℕ). drop start l) front
    ∙ sym (hand_front start kept room below)

-- a failed read leaves the bytes in hand
pub hand_kept : (first start kept : ℕ) (room after now : List ℕ) (hand : InHand) → now ≡ after
    → in_room first start kept room ≡ hand → take kept after ≡ take kept room → start ≤ kept
    → in_room first start kept now ≡ hand
hand_kept first start kept room after now hand now_is here front below =
    ap (λ (l : List ℕ). in_room first start kept l) now_is
    ∙ ap with (same_hand start kept room after front below) ∙ here
  where
    with : List ℕ → InHand
    with bytes = record { first = first; bytes = bytes }

pub on_err : {A E : Type 0} (result : Result A E) (P : Type 0) → P → OnErr result P
on_err (Ok value) P p = tt
on_err (Err fault) P p = p

-- bytes were read behind those in hand
pub HasRead-behind : (was is : Supplied) (first start kept count : ℕ) (room after now : List ℕ) (hand : InHand)
    → now ≡ after → in_room first start kept room ≡ hand → take kept after ≡ take kept room
    → start ≤ kept
    → IsPrefixLen count (drop kept after) → Consumes was.left is.left (take count (drop kept after))
    → is.given ≡ counted was.given count
    → (0 < length (drop kept after) → count ≡ 0 → IsAtEnd is.left) → kept < length after
    → HasRead was is hand (in_room first start (kept + count) now) count
HasRead-behind was is first start kept count room after now hand now_is here front below bound bytes given end fits =
    record {
      more = take count (drop kept after);
      count_is = bound.1;
      hand = hand_is;
      bytes = bytes;
      given = given;
      end = end (omega (arith, length-drop kept after));
    }
  where
    with : List ℕ → InHand
    with bytes = record { first = first; bytes = bytes }

    more_than : InHand → InHand
    more_than old = record { first = old.first; bytes = old.bytes ++ take count (drop kept after) }

    whole : kept ≡ start + (kept - start)
    whole = omega arith

    hand_is : in_room first start (kept + count) now ≡ more_than hand
    hand_is =
        ap with
        (ap (λ (l : List ℕ). take (kept + count - start) (drop start l)) now_is
        ∙ ap (λ (k : ℕ). take k (drop start after)) (longer start kept count below)
        ∙ take-add (kept - start) count (drop start after)
        ∙ ap₂ (λ (l k : List ℕ). l ++ take count k) (same_hand start kept room after front below)
        (drop-drop (kept - start) start after ∙ ap (λ (k : ℕ). drop k after) (sym whole)))
        ∙ ap more_than here

-- the packets in hand were given up
Stands-given_up : (before now : Supplied) (hand : InHand) (packets : List (List ℕ))
    → HasGivenInHand before now hand packets
    → HasGivenInHand before now (given_up hand) (packets ++ whole_packets hand.bytes)
Stands-given_up before now hand packets stands = record {
  count =
      omega (arith, length-append packets (whole_packets hand.bytes), length-whole_packets hand.bytes, stands.count);
  gave = Gave-whole_packets before now packets hand.bytes stands.gave;
}

counted_on : (start had held more now : ℕ) → held ≡ counted start had → now ≡ counted held more
    → now ≡ counted start (had + more)
counted_on start had held more now one other = grind arith

-- more was read
Stands-read : (before was is : Supplied) (old new : InHand) (count : ℕ) (packets : List (List ℕ))
    → HasRead was is old new count → HasGivenInHand before was old packets → HasGivenInHand before is new packets
Stands-read before was is old new count packets read stands =
    subst (λ (hand : InHand). HasGivenInHand before is hand packets) (sym read.hand) (record {
      count = stands.count;
      gave = record {
        each = stands.gave.each;
        bytes =
            subst (λ (all : List ℕ). Consumes before.left is.left all)
            (append_assoc (bytes_of packets) old.bytes read.more)
            (Consumes-trans before.left was.left is.left _ read.more stands.gave.bytes read.bytes);
        count =
            counted_on before.given (stream_length packets old.bytes) was.given count is.given stands.gave.count
            read.given ∙ ap (λ (n : ℕ). counted before.given n) longer;
      };
    })
  where
    longer : stream_length packets old.bytes + count ≡ stream_length packets (old.bytes ++ read.more)
    longer = omega (arith, length-append old.bytes read.more, read.count_is)

-- nothing was read
Stands-nothing : (before was is : Supplied) (old new : InHand) (packets : List (List ℕ))
    → HasReadNothing was is old new → HasGivenInHand before was old packets → HasGivenInHand before is new packets
Stands-nothing before was is old new packets nothing stands =
    subst (λ (hand : InHand). HasGivenInHand before is hand packets) (sym nothing.hand) (record {
      count = stands.count;
      gave = record {
        each = stands.gave.each;
        bytes = Consumes-kept before.left was.left is.left _ stands.gave.bytes nothing.left;
        count = nothing.given ∙ stands.gave.count;
      };
    })

-- the packets in hand were given up, and no more
pub given_up_goes : (was : Supplied) (old new : InHand) → new ≡ given_up old → GivesMore was was old new
given_up_goes was old new new_is = λ before packets stands.
    subst (λ (hand : InHand). HasGivenInHand before was hand (packets ++ whole_packets old.bytes)) (sym new_is)
    (Stands-given_up before was old packets stands)

-- the packets in hand were given up, and nothing was read
pub nothing_goes : (was is : Supplied) (old mid new : InHand) → mid ≡ given_up old
    → HasReadNothing was is mid new → GivesMore was is old new
nothing_goes was is old mid new mid_is nothing = λ before packets stands.
    Stands-nothing before was is mid new _ nothing (given_up_goes was old mid mid_is before packets stands)

-- the packets in hand were given up, and more was read
pub read_goes : (was is : Supplied) (old mid new : InHand) (count : ℕ) → mid ≡ given_up old
    → HasRead was is mid new count → GivesMore was is old new
read_goes was is old mid new count mid_is read = λ before packets stands.
    Stands-read before was is mid new count _ read (given_up_goes was old mid mid_is before packets stands)
