-- How the pieces of a stream of which some packets are lost stand to those before them, and what comes of further
-- pieces of a unit whose beginning is missing.
use Rattle.std.proofs.Common.{◌≡◌, ◌≢◌, ◌∙◌, ℕ, zero, suc, ◌+◌, ◌%◌, ◌≤◌, Bool, true, false, eqb, List, [], ◌∷◌, ◌++◌, length, drop, replicate, Option, Some, None, refl, ap, subst, arith}
use Rattle.std.proofs.lemmas.Bool.Decides.{nat_tests}
use Rattle.stream_syntax.specs.Units.{Succession, Next, Missing, succession, payload_part, unit_after, payload_event}
use Rattle.ts_packets.specs.Demuxing.{next_hand}
use Rattle.decoder_model.specs.declared.pages.Pages.{Pages}
use Rattle.decoder_model.specs.Arrivals.{Arrival, loss, unit, losses_at, units_at}
use Rattle.slot_stream.specs.SlotStream.{Piece}
use Rattle.shown_stream.proofs.Lost.LostPieces.{Walk, passes_by, comes_in}
use Rattle.slot_stream.proofs.SentPieces.{AreFurther}
use Rattle.sent_sets.proofs.Units.{TimedUnit, unit_of}

-- ---- how a piece stands to those before it

-- nothing has come yet; the piece before has come; pieces before are missing behind one that has come
pub data Kind : Type 0 where
  Fresh : Kind
  Joined : Kind
  Apart : Kind

-- between two pieces that come at most 14 are missing: so many are missing behind the last that has come
abbrev pub AreNear : Option ℕ → List Bool → Type 0
AreNear since [] = Unit {0}
AreNear None (false ∷ come) = AreNear None come
AreNear (Some k) (false ∷ come) = AreNear (Some (k + 1)) come
AreNear None (true ∷ come) = AreNear (Some 0) come
AreNear (Some k) (true ∷ come) = (k ≤ 14) × AreNear (Some 0) come

-- the counter before a piece of that number and the unit in hand, where none was begun before it that can go on
abbrev pub StandsAt : Kind → Option ℕ → Option (List ℕ) → ℕ → Option ℕ → Type 0
StandsAt Fresh last hand number since = (last ≡ None) × (hand ≡ None) × (since ≡ None)
StandsAt Joined last hand number since =
    (m : ℕ) × (last ≡ Some (m % 16)) × (number ≡ m + 1) × (hand ≡ None) × (since ≡ Some 0)
StandsAt Apart last hand number since =
    (m k : ℕ) × (last ≡ Some (m % 16)) × (number ≡ m + 1 + k) × (1 ≤ k) × (since ≡ Some k)

pub in_turn : (m number : ℕ) → number ≡ m + 1 → succession (Some (m % 16)) (number % 16) ≡ Next
in_turn m number e =
    let fresh : eqb (number % 16) (m % 16) ≡ false =
    (let differ : number % 16 ≢ m % 16 = omega arith in grind (arith, nat_tests)) in
    let next : eqb (number % 16) ((m % 16 + 1) % 16) ≡ true =
    (let same : number % 16 ≡ (m % 16 + 1) % 16 = omega arith in grind (arith, nat_tests)) in
    rw (fresh, next) refl

pub missing_before : (m k number : ℕ) → number ≡ m + 1 + k → 1 ≤ k → k ≤ 14
    → succession (Some (m % 16)) (number % 16) ≡ Missing ((m % 16 + 1) % 16) (number % 16)
missing_before m k number e some few =
    let fresh : eqb (number % 16) (m % 16) ≡ false =
    (let differ : number % 16 ≢ m % 16 = omega arith in grind (arith, nat_tests)) in
    let other : eqb (number % 16) ((m % 16 + 1) % 16) ≡ false =
    (let differ : number % 16 ≢ (m % 16 + 1) % 16 = omega arith in grind (arith, nat_tests)) in
    rw (fresh, other) refl

-- ---- losses

-- what so many losses take one kind to
abbrev pub Steps : Kind → ℕ → Kind → Type 0
Steps Fresh n Fresh = n ≡ 0
Steps Fresh n Joined = Unit {0}
Steps Fresh n Apart = Unit {0}
Steps Joined n Fresh = ⊥
Steps Joined n Joined = Unit {0}
Steps Joined n Apart = Unit {0}
Steps Apart n Fresh = ⊥
Steps Apart n Joined = 1 ≤ n
Steps Apart n Apart = Unit {0}

pub no_step : (kind : Kind) → Steps kind 0 kind
no_step Fresh = refl
no_step Joined = tt
no_step Apart = tt

pub more_steps : (a b c : Kind) (n k : ℕ) → Steps a n b → Steps b k c → Steps a (n + k) c
more_steps Fresh Fresh Fresh n k h g = omega (arith, h, g)
more_steps Fresh b Joined n k h g = tt
more_steps Fresh b Apart n k h g = tt
more_steps Fresh Joined Fresh n k h g = absurd g
more_steps Fresh Apart Fresh n k h g = absurd g
more_steps Joined Fresh c n k h g = absurd h
more_steps Joined Joined Fresh n k h g = absurd g
more_steps Joined Apart Fresh n k h g = absurd g
more_steps Joined b Joined n k h g = tt
more_steps Joined b Apart n k h g = tt
more_steps Apart Fresh c n k h g = absurd h
more_steps Apart Joined Fresh n k h g = absurd g
more_steps Apart Apart Fresh n k h g = absurd g
more_steps Apart Joined Joined n k h g = omega (arith, h)
more_steps Apart Apart Joined n k h g = omega (arith, g)
more_steps Apart b Apart n k h g = tt

-- a piece that is missed
abbrev pub missed_from : Kind → Kind
missed_from Fresh = Fresh
missed_from Joined = Apart
missed_from Apart = Apart

abbrev pub losses : ℕ → List Arrival
losses n = replicate n loss

pub losses-add : (n k : ℕ) (rest : List Arrival) → losses n ++ (losses k ++ rest) ≡ losses (n + k) ++ rest
losses-add zero k rest = ap (λ count. losses count ++ rest) (omega arith)
losses-add (suc n) k rest =
    let same : suc (n + k) ≡ suc n + k = omega arith in ap (λ all. loss ∷ all) (losses-add n k rest)
    ∙ ap (λ count. losses count ++ rest) same

-- the loss before what comes behind missing pieces
abbrev pub lost_before : Kind → List Arrival
lost_before Fresh = []
lost_before Joined = []
lost_before Apart = loss ∷ []

-- what arrives of units: those that come whole, with a loss before each behind missing pieces; and where one is missed
-- so many losses
pub data Arrive : Kind → List TimedUnit → List Bool → List Arrival → Type 0 where
  none_arrive : {kind : Kind} → Arrive kind [] [] []
  one_arrives : {kind : Kind} {one : TimedUnit} {units : List TimedUnit} {whole : List Bool} {arrivals : List Arrival}
      (place : ℕ) → Arrive Joined units whole arrivals
      → Arrive kind (one ∷ units) (true ∷ whole)
      (lost_before kind ++ unit (unit_of place one.time one.unit) ∷ arrivals)
  one_missed : {kind next : Kind} {one : TimedUnit} {units : List TimedUnit} {whole : List Bool} {arrivals : List
      Arrival} (count : ℕ) → Steps (missed_from kind) count next → Arrive next units whole arrivals
      → Arrive kind (one ∷ units) (false ∷ whole) (losses count ++ arrivals)

-- ---- pieces of a unit of which one is missing

module _ (size : ℕ) (pages : Pages) where
  -- how the pieces behind some stand, and what comes of them
  pub record Walking (kind : Kind) (number : ℕ) (rest : List Piece) (come : List Bool)
      (arrivals : List Arrival) : Type 0 where
    pub last : Option ℕ
    pub hand : Option (List ℕ)
    pub since : Option ℕ
    pub stands : StandsAt kind last hand number since
    pub near : AreNear since come
    pub walk : Walk size pages last hand number rest come arrivals

  -- behind pieces: so many losses, and what comes of those behind
  pub record WalksOn (kind : Kind) (number : ℕ) (rest : List Piece) (come : List Bool)
      (arrivals : List Arrival) : Type 0 where
    pub next : Kind
    pub last : Option ℕ
    pub hand : Option (List ℕ)
    pub since : Option ℕ
    pub count : ℕ
    pub behind : List Arrival
    pub are : arrivals ≡ losses count ++ behind
    pub steps : Steps kind count next
    pub stands : StandsAt next last hand number since
    pub near : AreNear since come
    pub walk : Walk size pages last hand number rest come behind

  -- a piece that does not come
  pub passed_on : (kind : Kind) (last : Option ℕ) (hand : Option (List ℕ)) (number : ℕ) (since : Option ℕ)
      (rest : List Piece) (come : List Bool) (arrivals : List Arrival) → StandsAt kind last hand number since
      → AreNear since (false ∷ come)
      → Walk size pages last hand (number + 1) rest come arrivals
      → WalksOn (missed_from kind) (number + 1) rest come arrivals
  passed_on Fresh last hand number since rest come arrivals stands near walk = record {
    next = Fresh;
    last = last;
    hand = hand;
    since = None;
    count = 0;
    behind = arrivals;
    are = refl;
    steps = refl;
    stands = (stands.0, stands.1, refl);
    near = subst (λ (k : Option ℕ). AreNear k (false ∷ come)) stands.2 near;
    walk = walk;
  }
  passed_on Joined last hand number since rest come arrivals stands near walk = record {
    next = Apart;
    last = last;
    hand = hand;
    since = Some 1;
    count = 0;
    behind = arrivals;
    are = refl;
    steps = tt;
    stands = (stands.0, 1, stands.1, (let at = stands.2 in omega (arith, at)), omega arith, refl);
    near = subst (λ (k : Option ℕ). AreNear k (false ∷ come)) stands.4 near;
    walk = walk;
  }
  passed_on Apart last hand number since rest come arrivals stands near walk = record {
    next = Apart;
    last = last;
    hand = hand;
    since = Some (stands.1 + 1);
    count = 0;
    behind = arrivals;
    are = refl;
    steps = tt;
    stands = (stands.0, stands.1 + 1, stands.2, (let at = stands.3 in omega (arith, at)), omega arith, refl);
    near = subst (λ (k : Option ℕ). AreNear k (false ∷ come)) stands.5 near;
    walk = walk;
  }

  -- what a piece that comes brings, and the unit in hand behind it
  abbrev pub brought : Option (List ℕ) → Succession → Bool → List ℕ → ℕ → List Arrival
  brought hand order starts bytes place =
      losses_at (payload_event size hand order starts bytes)
      ++ units_at pages place (unit_after size hand (payload_part order starts bytes))

  abbrev pub in_hand : Option (List ℕ) → Succession → Bool → List ℕ → Option (List ℕ)
  in_hand hand order starts bytes = next_hand size hand (payload_part order starts bytes)

  -- a further piece of a unit whose beginning is missing
  added_on : (kind : Kind) (last : Option ℕ) (hand : Option (List ℕ)) (number : ℕ) (since : Option ℕ)
      (piece : Piece) (rest : List Piece) (come : List Bool) (arrivals : List Arrival) (place : ℕ)
      → piece.starts ≡ false → StandsAt kind last hand number since
      → AreNear since (true ∷ come)
      → Walk size pages (Some (number % 16))
      (in_hand hand (succession last (number % 16)) piece.starts piece.bytes) (number + 1) rest come arrivals
      → WalksOn kind (number + 1) rest come
      (brought hand (succession last (number % 16)) piece.starts piece.bytes place ++ arrivals)
  added_on Fresh last hand number since piece rest come arrivals place inner stands near walk =
      let order : succession last (number % 16) ≡ Next = ap (λ before. succession before (number % 16)) stands.0 in
      record {
        next = Joined;
        last = Some (number % 16);
        hand = None;
        since = Some 0;
        count = 0;
        behind = arrivals;
        are = ap (λ front. front ++ arrivals) (λ i. brought (stands.1 i) (order i) (inner i) piece.bytes place);
        steps = tt;
        stands = (number, refl, refl, refl, refl);
        near = subst (λ (k : Option ℕ). AreNear k (true ∷ come)) stands.2 near;
        walk =
            subst (λ (kept_now : Option (List ℕ)). Walk size pages (Some (number % 16)) kept_now (number + 1) rest
            come arrivals) (λ i. in_hand (stands.1 i) (order i) (inner i) piece.bytes) walk;
      }
  added_on Joined last hand number since piece rest come arrivals place inner stands near walk =
      let order : succession last (number % 16) ≡ Next =
      ap (λ before. succession before (number % 16)) stands.1 ∙ in_turn stands.0 number stands.2 in
      let close = subst (λ (k : Option ℕ). AreNear k (true ∷ come)) stands.4 near in
      record {
        next = Joined;
        last = Some (number % 16);
        hand = None;
        since = Some 0;
        count = 0;
        behind = arrivals;
        are = ap (λ front. front ++ arrivals) (λ i. brought (stands.3 i) (order i) (inner i) piece.bytes place);
        steps = tt;
        stands = (number, refl, refl, refl, refl);
        near = close.1;
        walk =
            subst (λ (kept_now : Option (List ℕ)). Walk size pages (Some (number % 16)) kept_now (number + 1) rest
            come arrivals) (λ i. in_hand (stands.3 i) (order i) (inner i) piece.bytes) walk;
      }
  added_on Apart last hand number since piece rest come arrivals place inner stands near walk =
      let close = subst (λ (k : Option ℕ). AreNear k (true ∷ come)) stands.5 near in
      let order : succession last (number % 16) ≡ Missing ((stands.0 % 16 + 1) % 16) (number % 16) =
      ap (λ before. succession before (number % 16)) stands.2
      ∙ missing_before stands.0 stands.1 number stands.3 stands.4 close.0 in
      record {
        next = Joined;
        last = Some (number % 16);
        hand = None;
        since = Some 0;
        count = 1;
        behind = arrivals;
        are = ap (λ front. front ++ arrivals) (λ i. brought hand (order i) (inner i) piece.bytes place);
        steps = omega arith;
        stands = (number, refl, refl, refl, refl);
        near = close.1;
        walk =
            subst (λ (kept_now : Option (List ℕ)). Walk size pages (Some (number % 16)) kept_now (number + 1) rest
            come arrivals) (λ i. in_hand hand (order i) (inner i) piece.bytes) walk;
      }

  -- one walk behind another
  pub further_on : (first kind : Kind) (number : ℕ) (rest : List Piece) (come : List Bool)
      (arrivals behind : List Arrival) (count : ℕ) → arrivals ≡ losses count ++ behind
      → Steps first count kind → WalksOn kind number rest come behind → WalksOn first number rest come arrivals
  further_on first kind number rest come arrivals behind count are steps on = record {
    next = on.next;
    last = on.last;
    hand = on.hand;
    since = on.since;
    count = count + on.count;
    behind = on.behind;
    are = are ∙ ap (λ all. losses count ++ all) on.are ∙ losses-add count on.count on.behind;
    steps = more_steps first kind on.next count on.count steps on.steps;
    stands = on.stands;
    near = on.near;
    walk = on.walk;
  }

  weaker_start : (kind : Kind) (number : ℕ) (rest : List Piece) (come : List Bool) (arrivals : List Arrival)
      → WalksOn (missed_from kind) number rest come arrivals → WalksOn kind number rest come arrivals
  weaker_start Fresh number rest come arrivals on = on
  weaker_start Apart number rest come arrivals on = on
  weaker_start Joined number rest come arrivals on =
      further_on Joined Apart number rest come arrivals arrivals 0 refl tt on

  -- all further pieces
  pub walk_on : (kind : Kind) (last : Option ℕ) (hand : Option (List ℕ)) (number : ℕ) (since : Option ℕ)
      (further rest : List Piece) (come : List Bool) (arrivals : List Arrival) → AreFurther further
      → StandsAt kind last hand number since → AreNear since come
      → Walk size pages last hand number (further ++ rest) come arrivals
      → WalksOn kind (number + length further) rest (drop (length further) come) arrivals
  walk_on kind last hand number since [] rest come arrivals are stands near walk =
      let same : number ≡ number + 0 = omega arith in
      subst (λ (n : ℕ). WalksOn kind n rest come arrivals) same
      (record {
        next = kind;
        last = last;
        hand = hand;
        since = since;
        count = 0;
        behind = arrivals;
        are = refl;
        steps = no_step kind;
        stands = stands;
        near = near;
        walk = walk;
      })
  walk_on kind last hand number since (piece ∷ further) rest [] arrivals are stands near walk = elim walk [ ]
  walk_on kind last hand number since (piece ∷ further) rest (false ∷ come) arrivals are stands near
      (passes_by walk) =
      let one =
      weaker_start kind (number + 1) (further ++ rest) come arrivals
      (passed_on kind last hand number since (further ++ rest) come arrivals stands near walk) in
      let same : number + 1 + length further ≡ number + suc (length further) = omega arith in
      subst (λ (n : ℕ). WalksOn kind n rest (drop (length further) come) arrivals) same
      (further_on kind one.next (number + 1 + length further) rest (drop (length further) come) arrivals one.behind
      one.count one.are one.steps
      (walk_on one.next one.last one.hand (number + 1) one.since further rest come one.behind are.1 one.stands one.near
      one.walk))
  walk_on kind last hand number since (piece ∷ further) rest (true ∷ come) arrivals are stands near
      (comes_in {arrivals = left} place walk) =
      let one = added_on kind last hand number since piece (further ++ rest) come left place are.0.1 stands near walk in
      let same : number + 1 + length further ≡ number + suc (length further) = omega arith in
      subst (λ (n : ℕ). WalksOn kind n rest (drop (length further) come)
      (brought hand (succession last (number % 16)) piece.starts piece.bytes place ++ left)) same
      (further_on kind one.next (number + 1 + length further) rest (drop (length further) come)
      (brought hand (succession last (number % 16)) piece.starts piece.bytes place ++ left) one.behind one.count
      one.are one.steps
      (walk_on one.next one.last one.hand (number + 1) one.since further rest come one.behind are.1 one.stands one.near
      one.walk))
