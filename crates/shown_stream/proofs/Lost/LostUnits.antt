-- Of a stream of which some packets are lost exactly the units arrive whose packets all come, and a loss before each
-- packet that others are missing before.
use Rattle.std.proofs.Common.{◌≡◌, ◌∙◌, ℕ, suc, ◌+◌, ◌%◌, ◌≤◌, Bool, true, false, List, [], ◌∷◌, ◌++◌, length, map, take, drop, Option, Some, None, refl, sym, ap, subst, arith, append_assoc, append-nil, length-append}
use Rattle.std.specs.Bool.{if◌then◌else◌}
use Rattle.std.specs.List.{AllByRecursion, AllZip, concat, list_all}
use Rattle.stream_syntax.specs.Cutting.{IsUnit}
use Rattle.stream_syntax.specs.Units.{Next, Missing, succession, Fate, Waits, Whole, fate_of, is_waiting, handed_out, followed, is_loss}
use Rattle.ts_packets.specs.Demuxing.{kept}
use Rattle.ts_packets.proofs.AnyCuttingLemmas.{front_waits, unit_is_whole}
use Rattle.decoder_model.specs.declared.pages.Pages.{Pages}
use Rattle.decoder_model.specs.Arrivals.{Arrival, loss, arrival_of_unit, losses_at, units_at}
use Rattle.slot_stream.specs.SlotStream.{Piece, all_pieces, piece_count}
use Rattle.shown_stream.proofs.Lost.LostPieces.{Walk, no_piece_left, passes_by, comes_in}
use Rattle.slot_stream.proofs.SentPieces.{AreFurther}
use Rattle.slot_stream.proofs.SentStream.{first_piece, further_of, its_pieces, its_bytes, its_further}
use Rattle.sent_sets.proofs.PacketCounts.{length-pieces_of}
use Rattle.sent_sets.proofs.Units.{TimedUnit, IsUnitOf, arrives}
use Rattle.shown_stream.proofs.Lost.LostKinds.{Kind, Fresh, Joined, Apart, AreNear, StandsAt, in_turn, missing_before, missed_from, lost_before, Arrive, none_arrive, one_arrives, one_missed, Walking, WalksOn, passed_on, brought, in_hand, further_on, walk_on}

module _ (size : ℕ) (pages : Pages) where
  -- ---- a unit

  abbrev bytes_of : List Piece → List (List ℕ)
  bytes_of pieces = map (λ (piece : Piece). piece.bytes) pieces

  -- all of these come
  abbrev pub all_true : ℕ → List Bool → Bool
  all_true n come = list_all (λ b. b) (take n come)

  -- a unit of which the front has come, in turn, up to the piece before
  abbrev IsGoing : List ℕ → Option ℕ → Option (List ℕ) → ℕ → Option ℕ → Type 0
  IsGoing front last hand number since =
      (m : ℕ) × (last ≡ Some (m % 16)) × (number ≡ m + 1) × (hand ≡ Some front) × (since ≡ Some 0)

  -- it arrives with its last piece, or a piece is missing
  data GoesTo (bytes : List ℕ) (number : ℕ) (rest : List Piece) (come : List Bool) : Bool → List Arrival
      → Type 0 where
    reaches : {arrivals : List Arrival} (place : ℕ) (behind : List Arrival)
        → arrivals ≡ arrival_of_unit pages place bytes ∷ behind
        → Walking size pages Joined number rest come behind
        → GoesTo bytes number rest come true arrivals
    stops : {arrivals : List Arrival} → WalksOn size pages Apart number rest come arrivals
        → GoesTo bytes number rest come false arrivals

  -- what a piece that ends a unit brings, and one behind which it waits
  whole_added : (front piece bytes : List ℕ) (place : ℕ) → fate_of size (front ++ piece) ≡ Whole bytes
      → brought size pages (Some front) Next false piece place ≡ arrival_of_unit pages place bytes ∷ []
  whole_added front piece bytes place fate =
      ap (λ f. losses_at (followed size f) ++ units_at pages place (handed_out (Some f))) fate

  waits_added : (front piece : List ℕ) (place : ℕ) → fate_of size (front ++ piece) ≡ Waits
      → brought size pages (Some front) Next false piece place ≡ []
  waits_added front piece place fate =
      ap (λ f. losses_at (followed size f) ++ units_at pages place (handed_out (Some f))) fate

  whole_kept : (bytes whole : List ℕ) → fate_of size bytes ≡ Whole whole → kept size (Some bytes) ≡ None
  whole_kept bytes whole fate = ap (λ f. if is_waiting f then Some bytes else None) fate

  waits_kept : (bytes : List ℕ) → fate_of size bytes ≡ Waits → kept size (Some bytes) ≡ Some bytes
  waits_kept bytes fate = ap (λ f. if is_waiting f then Some bytes else None) fate

  going : (bytes front : List ℕ) (last : Option ℕ) (hand : Option (List ℕ)) (number : ℕ) (since : Option ℕ)
      (piece : Piece) (further rest : List Piece) (come : List Bool) (arrivals : List Arrival) → IsUnit size bytes
      → bytes ≡ front ++ concat (bytes_of (piece ∷ further))
      → AreFurther (piece ∷ further) → IsGoing front last hand number since → AreNear since come
      → Walk size pages last hand number (piece ∷ (further ++ rest)) come arrivals
      → GoesTo bytes (number + suc (length further)) rest (drop (suc (length further)) come)
      (all_true (suc (length further)) come) arrivals
  going bytes front last hand number since piece further rest [] arrivals is whole are at near walk = elim walk [ ]
  going bytes front last hand number since piece further rest (false ∷ come) arrivals is whole are at near
      (passes_by walk) =
      let close = subst (λ (k : Option ℕ). AreNear k (false ∷ come)) at.4 near in
      let stands : StandsAt Apart last hand (number + 1) (Some 1) =
      (at.0, 1, at.1, (let there = at.2 in omega (arith, there)), omega arith, refl) in
      let same : number + 1 + length further ≡ number + suc (length further) = omega arith in
      stops (subst (λ (n : ℕ). WalksOn size pages Apart n rest (drop (length further) come) arrivals) same
      (walk_on size pages Apart last hand (number + 1) (Some 1) further rest come arrivals are.1 stands close walk))
  going bytes front last hand number since piece [] rest (true ∷ come) arrivals is whole are at near
      (comes_in {arrivals = left} place walk) =
      let order : succession last (number % 16) ≡ Next =
      ap (λ before. succession before (number % 16)) at.1 ∙ in_turn at.0 number at.2 in
      let all : front ++ piece.bytes ≡ bytes = ap (λ xs. front ++ xs) (sym (append-nil piece.bytes)) ∙ sym whole in
      let fate : fate_of size (front ++ piece.bytes) ≡ Whole bytes =
      ap (fate_of size) all ∙ unit_is_whole size bytes is in
      let front_is : brought size pages hand (succession last (number % 16)) piece.starts piece.bytes place
      ≡ arrival_of_unit pages place bytes
      ∷ [] = (λ i. brought size pages (at.3 i) (order i) (are.0.1 i) piece.bytes place)
      ∙ whole_added front piece.bytes bytes place fate in
      let hand_is : in_hand size pages hand (succession last (number % 16)) piece.starts piece.bytes ≡ None =
      (λ i. in_hand size pages (at.3 i) (order i) (are.0.1 i) piece.bytes)
      ∙ whole_kept (front ++ piece.bytes) bytes fate in
      let close = (subst (λ (k : Option ℕ). AreNear k (true ∷ come)) at.4 near).1 in
      reaches place left (ap (λ first. first ++ left) front_is) (record {
        last = Some (number % 16);
        hand = None;
        since = Some 0;
        stands = (number, refl, refl, refl, refl);
        near = close;
        walk =
            subst (λ (now : Option (List ℕ)). Walk size pages (Some (number % 16)) now (number + 1) rest come left)
            hand_is walk;
      })
  going bytes front last hand number since piece (next ∷ further) rest (true ∷ come) arrivals is whole are at near
      (comes_in {arrivals = left} place walk) =
      let order : succession last (number % 16) ≡ Next =
      ap (λ before. succession before (number % 16)) at.1 ∙ in_turn at.0 number at.2 in
      let regrouped : bytes ≡ (front ++ piece.bytes) ++ concat (bytes_of (next ∷ further)) =
      whole ∙ sym (append_assoc front piece.bytes (concat (bytes_of (next ∷ further)))) in
      let some = are.1.0.0.0 in
      let more : 1 ≤ length (concat (bytes_of (next ∷ further))) =
      omega (arith, length-append next.bytes (concat (bytes_of further)), some) in
      let fate : fate_of size (front ++ piece.bytes) ≡ Waits =
      front_waits size (front ++ piece.bytes) (concat (bytes_of (next ∷ further)))
      (subst (IsUnit size) regrouped is) more in
      let front_is : brought size pages hand (succession last (number % 16)) piece.starts piece.bytes place ≡ [] =
      (λ i. brought size pages (at.3 i) (order i) (are.0.1 i) piece.bytes place)
      ∙ waits_added front piece.bytes place fate in
      let hand_is : in_hand size pages hand (succession last (number % 16)) piece.starts piece.bytes
      ≡ Some (front ++ piece.bytes) = (λ i. in_hand size pages (at.3 i) (order i) (are.0.1 i) piece.bytes)
      ∙ waits_kept (front ++ piece.bytes) fate in
      let close = (subst (λ (k : Option ℕ). AreNear k (true ∷ come)) at.4 near).1 in
      let on =
      going bytes (front ++ piece.bytes) (Some (number % 16))
      (in_hand size pages hand (succession last (number % 16)) piece.starts piece.bytes) (number + 1) (Some 0) next
      further
      rest come left is regrouped are.1 (number, refl, refl, hand_is, refl) close walk in
      let same : number + 1 + suc (length further) ≡ number + suc (suc (length further)) = omega arith in
      subst (GoesTo bytes (number + suc (suc (length further))) rest (drop (suc (length further)) come)
      (all_true (suc (length further)) come)) (sym (ap (λ first. first ++ left) front_is))
      (subst (λ (n : ℕ). GoesTo bytes n rest (drop (suc (length further)) come)
      (all_true (suc (length further)) come) left) same on)

  -- a piece with which a unit begins, by what becomes of the unit
  record IsBegun (kind : Kind) (last : Option ℕ) (hand : Option (List ℕ)) (number : ℕ) (piece : Piece)
      (come : List Bool) (place : ℕ) (fate : Fate) : Type 0 where
    brings : brought size pages hand (succession last (number % 16)) piece.starts piece.bytes place ≡ lost_before kind
        ++ units_at pages place (handed_out (Some fate))
    keeps : in_hand size pages hand (succession last (number % 16)) piece.starts piece.bytes
        ≡ kept size (Some piece.bytes)
    near : AreNear (Some 0) come

  is_begun : (kind : Kind) (last : Option ℕ) (hand : Option (List ℕ)) (number : ℕ) (since : Option ℕ)
      (piece : Piece) (come : List Bool) (place : ℕ) (fate : Fate) → piece.starts ≡ true
      → StandsAt kind last hand number since → AreNear since (true ∷ come)
      → fate_of size piece.bytes ≡ fate → is_loss (followed size fate) ≡ false
      → IsBegun kind last hand number piece come place fate
  is_begun Fresh last hand number since piece come place fate first stands near is sound =
      let order : succession last (number % 16) ≡ Next = ap (λ before. succession before (number % 16)) stands.0 in
      record {
        brings =
            (λ i. brought size pages (stands.1 i) (order i) (first i) piece.bytes place)
            ∙ ap (λ f. losses_at (followed size f) ++ units_at pages place (handed_out (Some f))) is
            ∙ ap (λ lost. (if lost then loss ∷ [] else []) ++ units_at pages place (handed_out (Some fate))) sound;
        keeps = λ i. in_hand size pages (stands.1 i) (order i) (first i) piece.bytes;
        near = subst (λ (k : Option ℕ). AreNear k (true ∷ come)) stands.2 near;
      }
  is_begun Joined last hand number since piece come place fate first stands near is sound =
      let order : succession last (number % 16) ≡ Next =
      ap (λ before. succession before (number % 16)) stands.1 ∙ in_turn stands.0 number stands.2 in
      record {
        brings =
            (λ i. brought size pages (stands.3 i) (order i) (first i) piece.bytes place)
            ∙ ap (λ f. losses_at (followed size f) ++ units_at pages place (handed_out (Some f))) is
            ∙ ap (λ lost. (if lost then loss ∷ [] else []) ++ units_at pages place (handed_out (Some fate))) sound;
        keeps = λ i. in_hand size pages (stands.3 i) (order i) (first i) piece.bytes;
        near = (subst (λ (k : Option ℕ). AreNear k (true ∷ come)) stands.4 near).1;
      }
  is_begun Apart last hand number since piece come place fate first stands near is sound =
      let close = subst (λ (k : Option ℕ). AreNear k (true ∷ come)) stands.5 near in
      let order : succession last (number % 16) ≡ Missing ((stands.0 % 16 + 1) % 16) (number % 16) =
      ap (λ before. succession before (number % 16)) stands.2
      ∙ missing_before stands.0 stands.1 number stands.3 stands.4 close.0 in
      record {
        brings =
            (λ i. brought size pages hand (order i) (first i) piece.bytes place)
            ∙ ap (λ f. loss ∷ units_at pages place (handed_out (Some f))) is;
        keeps = λ i. in_hand size pages hand (order i) (first i) piece.bytes;
        near = close.1;
      }

  -- a unit arrives where all its pieces come, and is missed else
  pub data UnitEnds (kind : Kind) (bytes : List ℕ) (number : ℕ) (rest : List Piece) (come : List Bool) : Bool
      → List Arrival → Type 0 where
    comes_whole : {arrivals : List Arrival} (place : ℕ) (behind : List Arrival)
        → arrivals ≡ lost_before kind ++ arrival_of_unit pages place bytes ∷ behind
        → Walking size pages Joined number rest come behind → UnitEnds kind bytes number rest come true arrivals
    is_missed : {arrivals : List Arrival} → WalksOn size pages (missed_from kind) number rest come arrivals
        → UnitEnds kind bytes number rest come false arrivals

  stopped : (kind : Kind) (number : ℕ) (rest : List Piece) (come : List Bool) (arrivals : List Arrival)
      → WalksOn size pages Apart number rest come arrivals
      → WalksOn size pages (missed_from kind) number rest come (lost_before kind ++ arrivals)
  stopped Fresh number rest come arrivals on =
      further_on size pages Fresh Apart number rest come arrivals arrivals 0 refl tt on
  stopped Joined number rest come arrivals on = on
  stopped Apart number rest come arrivals on =
      further_on size pages Apart Apart number rest come (loss ∷ arrivals) arrivals 1 refl tt on

  ended : (kind : Kind) (bytes : List ℕ) (number : ℕ) (rest : List Piece) (come : List Bool) (all : Bool)
      (arrivals left : List Arrival) → arrivals ≡ lost_before kind ++ left
      → GoesTo bytes number rest come all left → UnitEnds kind bytes number rest come all arrivals
  ended kind bytes number rest come true arrivals left are (reaches place behind is on) =
      comes_whole place behind (are ∙ ap (λ more. lost_before kind ++ more) is) on
  ended kind bytes number rest come false arrivals left are (stops on) =
      is_missed
      (subst (WalksOn size pages (missed_from kind) number rest come) (sym are)
      (stopped kind number rest come left on))

  unit_from_start : (kind : Kind) (bytes : List ℕ) (last : Option ℕ) (hand : Option (List ℕ)) (number : ℕ)
      (since : Option ℕ) (piece : Piece) (further rest : List Piece) (come : List Bool) (arrivals : List Arrival)
      → IsUnit size bytes → bytes ≡ concat (bytes_of (piece ∷ further))
      → piece.starts ≡ true → AreFurther further → StandsAt kind last hand number since → AreNear since come
      → Walk size pages last hand number (piece ∷ (further ++ rest)) come arrivals
      → UnitEnds kind bytes (number + suc (length further)) rest (drop (suc (length further)) come)
      (all_true (suc (length further)) come) arrivals
  unit_from_start kind bytes last hand number since piece further rest [] arrivals is whole first are stands near walk =
      elim walk [ ]
  unit_from_start kind bytes last hand number since piece further rest (false ∷ come) arrivals is whole first are
      stands near (passes_by walk) =
      let one = passed_on size pages kind last hand number since (further ++ rest) come arrivals stands near walk in
      let same : number + 1 + length further ≡ number + suc (length further) = omega arith in
      is_missed
      (subst (λ (n : ℕ). WalksOn size pages (missed_from kind) n rest (drop (length further) come) arrivals) same
      (further_on size pages (missed_from kind) one.next (number + 1 + length further) rest (drop (length further) come)
      arrivals
      one.behind one.count one.are one.steps
      (walk_on size pages one.next one.last one.hand (number + 1) one.since further rest come one.behind are one.stands
      one.near
      one.walk)))
  unit_from_start kind bytes last hand number since piece [] rest (true ∷ come) arrivals is whole first are stands
      near (comes_in {arrivals = left} place walk) =
      let all : piece.bytes ≡ bytes = sym (append-nil piece.bytes) ∙ sym whole in
      let fate : fate_of size piece.bytes ≡ Whole bytes = ap (fate_of size) all ∙ unit_is_whole size bytes is in
      let begun = is_begun kind last hand number since piece come place (Whole bytes) first stands near fate refl in
      comes_whole place left
      (ap (λ front. front ++ left) begun.brings
      ∙ append_assoc (lost_before kind) (arrival_of_unit pages place bytes ∷ []) left) (record {
        last = Some (number % 16);
        hand = None;
        since = Some 0;
        stands = (number, refl, refl, refl, refl);
        near = begun.near;
        walk =
            subst (λ (now : Option (List ℕ)). Walk size pages (Some (number % 16)) now (number + 1) rest come left)
            (begun.keeps ∙ whole_kept piece.bytes bytes fate) walk;
      })
  unit_from_start kind bytes last hand number since piece (next ∷ further) rest (true ∷ come) arrivals is whole
      first are stands near (comes_in {arrivals = left} place walk) =
      let some = are.0.0.0 in
      let more : 1 ≤ length (concat (bytes_of (next ∷ further))) =
      omega (arith, length-append next.bytes (concat (bytes_of further)), some) in
      let fate : fate_of size piece.bytes ≡ Waits =
      front_waits size piece.bytes (concat (bytes_of (next ∷ further))) (subst (IsUnit size) whole is) more in
      let begun = is_begun kind last hand number since piece come place Waits first stands near fate refl in
      let on =
      going bytes piece.bytes (Some (number % 16))
      (in_hand size pages hand (succession last (number % 16)) piece.starts piece.bytes) (number + 1) (Some 0) next
      further
      rest come left is whole are (number, refl, refl, begun.keeps ∙ waits_kept piece.bytes fate, refl) begun.near
      walk in
      let same : number + 1 + suc (length further) ≡ number + suc (suc (length further)) = omega arith in
      ended kind bytes (number + suc (suc (length further))) rest (drop (suc (length further)) come)
      (all_true (suc (length further)) come)
      (brought size pages hand (succession last (number % 16)) piece.starts piece.bytes place ++ left) left
      (ap (λ front. front ++ left) (begun.brings ∙ append-nil (lost_before kind)))
      (subst (λ (n : ℕ). GoesTo bytes n rest (drop (suc (length further)) come)
      (all_true (suc (length further)) come) left) same on)

  -- ---- units

  -- of each unit, whether all its pieces come
  abbrev pub come_whole : List (List ℕ) → List Bool → List Bool
  come_whole [] come = []
  come_whole (one ∷ units) come = all_true (piece_count one) come ∷ come_whole units (drop (piece_count one) come)

  -- all units
  pub units_arrive : (kind : Kind) (number : ℕ) (units : List (List ℕ)) (timed : List TimedUnit) (come : List Bool)
      (arrivals : List Arrival) → AllByRecursion (IsUnit size) units → AllZip (IsUnitOf pages) units timed
      → Walking size pages kind number (all_pieces units) come arrivals
      → Arrive kind timed (come_whole units come) arrivals
  units_arrive kind number [] [] come arrivals are each on = by come arrivals on.walk
    where
      by : {last : Option ℕ} {hand : Option (List ℕ)} (come : List Bool) (arrivals : List Arrival)
          → Walk size pages last hand number [] come arrivals → Arrive kind [] [] arrivals
      by [] arrivals (no_piece_left) = none_arrive
      by (b ∷ come) arrivals walk = elim walk [ ]
  units_arrive kind number [] (one ∷ timed) come arrivals are each on = absurd each
  units_arrive kind number (bytes ∷ units) [] come arrivals are each on = absurd each
  units_arrive kind number (bytes ∷ units) (one ∷ timed) come arrivals are each on =
      let long = are.0.bounded in
      let some : 1 ≤ length bytes = omega arith in
      let further = further_of bytes in
      let count : suc (length further) ≡ piece_count bytes =
      sym (ap length (its_pieces bytes some)) ∙ length-pieces_of bytes in
      let walk =
      subst (λ (pieces : List Piece). Walk size pages on.last on.hand number (pieces ++ all_pieces units) come
      arrivals) (its_pieces bytes some) on.walk in
      let ends =
      unit_from_start kind bytes on.last on.hand number on.since (first_piece bytes) further (all_pieces units) come
      arrivals are.0 (its_bytes bytes some) refl (its_further bytes some) on.stands on.near walk in
      subst (λ (n : ℕ). Arrive kind (one ∷ timed) (all_true n come ∷ come_whole units (drop n come)) arrivals)
      count
      (by (all_true (suc (length further)) come) (drop (suc (length further)) come) arrivals ends
      (λ next more left there. units_arrive next (number + suc (length further)) units timed more left are.1 each.1
      there))
    where
      by : {after : ℕ} (all : Bool) (more : List Bool) (arrivals : List Arrival)
          → UnitEnds kind bytes after (all_pieces units) more all arrivals
          → ((next : Kind) (more : List Bool) (left : List Arrival)
          → Walking size pages next after (all_pieces units) more left
          → Arrive next timed (come_whole units more) left)
          → Arrive kind (one ∷ timed) (all ∷ come_whole units more) arrivals
      by true more arrivals (comes_whole place behind is there) onward =
          subst (Arrive kind (one ∷ timed) (true ∷ come_whole units more))
          (sym (is ∙ ap (λ first. lost_before kind ++ first ∷ behind) (arrives pages place bytes one each.0)))
          (one_arrives place (onward Joined more behind there))
      by false more arrivals (is_missed there) onward =
          subst (Arrive kind (one ∷ timed) (false ∷ come_whole units more)) (sym there.are)
          (one_missed there.count there.steps
          (onward there.next more there.behind
          (record {
            last = there.last;
            hand = there.hand;
            since = there.since;
            stands = there.stands;
            near = there.near;
            walk = there.walk;
          })))
