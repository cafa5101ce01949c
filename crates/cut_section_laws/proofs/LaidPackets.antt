-- Sections come out each once and in order, and no others, however they are laid over packets.
use Rattle.std.proofs.Common.{◌≡◌, ◌≢◌, ◌∙◌, ℕ, ◌+◌, ◌%◌, ◌≤◌, Bool, true, false, cond, ◌||◌, nat_eq, List, [], ◌∷◌, ◌++◌, length, Option, Some, None, refl, sym, ap, subst, inl, inr, append-nil, append_assoc}
use Rattle.std.proofs.lemmas.Bool.{lt-ltb, ne_eqb, eq-eqb}
use Rattle.stream_syntax.specs.TransportPackets.{pid_of, has_error_flag, has_bad_field, control_of, counter_of}
use Rattle.stream_syntax.specs.Units.{Succession, Next, Again, Missing, succession}
use Rattle.section_reader.specs.Sections.{Ended, by_counter, ended_with, hand_behind, is_broken, none_ended, sections_behind, started, with_payload}
use Rattle.cut_section_laws.specs.LaidSections.{AreLaid, Closed, EveryLaying, IsDamaged, IsMispointed, IsMissing, Lays, Open, Progress, Stand, between, broken_off, damaged, end, first, idle, lost, middle, mispointed, next_ones, to_the_end, up_to_a_front}
use Rattle.cut_section_laws.specs.SectionCuts.{IsWholeSection, counter_before, is_counted, pointed}
use Rattle.cut_section_laws.proofs.CutPackets.{carried, ends_at, hand_is, next_order, same_counter, stays, taken}
use Rattle.cut_section_laws.proofs.WholeSections.{all_in, front_in, nothing_in, piece_ends, piece_grows, pointed_is, sections_in}

-- ---- what is open

-- the section in hand
abbrev in_hand : Progress → Option (List ℕ)
in_hand Closed = None
in_hand (Open begun owed) = Some begun

-- what is open is a section of which bytes are to come
abbrev IsRight : Progress → Type 0
IsRight Closed = Unit {0}
IsRight (Open begun owed) = IsWholeSection (begun ++ owed) × (1 ≤ length owed)

-- the sections that end, and what is open then
record Gives (ends : Ended) (sections : List (List ℕ)) (next : Progress) : Type 0 where
  are : ends ≡ record { sections = sections; hand = in_hand next }
  right : IsRight next

-- ---- behind a pointer

stand_is : {bytes : List ℕ} → {sections : List (List ℕ)} → {next : Progress} → Stand bytes sections next
    → Gives (all_in bytes) sections next
stand_is {sections} (to_the_end rest bytes all stuffing) = record {
  are = ap all_in bytes ∙ sections_in sections rest all
      ∙ ap (λ (e : Ended). record { sections = sections ++ e.sections; hand = e.hand }) (nothing_in rest stuffing)
      ∙ ap (λ (l : List (List ℕ)). record { sections = l; hand = None }) (append-nil sections);
  right = tt;
}
stand_is {sections} (up_to_a_front front owed bytes all is begun some) = record {
  are = ap all_in bytes ∙ sections_in sections front all
      ∙ ap (λ (e : Ended). record { sections = sections ++ e.sections; hand = e.hand })
      (front_in front owed is begun some)
      ∙ ap (λ (l : List (List ℕ)). record { sections = l; hand = Some front }) (append-nil sections);
  right = (is, some);
}

-- ---- counters

-- where no section is in hand, any counter but that of a double will do
without_hand : (last : Option ℕ) (counter : ℕ) (start : Bool) (bytes : List ℕ) → last ≢ Some counter
    → by_counter None (succession last counter) start bytes ≡ with_payload None start bytes
without_hand None counter start bytes other = refl
without_hand (Some before) counter start bytes other =
    let fresh : nat_eq counter before ≡ false =
    ne_eqb counter before (λ same. other (ap (λ (n : ℕ). Some n) (sym same))) in
    ap (λ (same : Bool). by_counter None
    (cond same Again (cond (nat_eq counter ((before + 1) % 16)) Next (Missing ((before + 1) % 16) counter))) start
    bytes) fresh
    ∙ either (nat_eq counter ((before + 1) % 16))
  where
    either : (next : Bool)
        → by_counter None (cond next Next (Missing ((before + 1) % 16) counter)) start bytes
        ≡ with_payload None start bytes
    either true = refl
    either false = refl

-- behind missing packets the section in hand does not count
behind_missing : (last : Option ℕ) (hand packet : List ℕ) (start : Bool) (bytes : List ℕ) → IsMissing last packet
    → by_counter (Some hand) (succession last (counter_of packet)) start bytes ≡ with_payload None start bytes
behind_missing None hand packet start bytes missing = absurd missing
behind_missing (Some before) hand packet start bytes missing =
    let fresh : nat_eq (counter_of packet) before ≡ false = ne_eqb (counter_of packet) before missing.0 in
    let gap : nat_eq (counter_of packet) ((before + 1) % 16) ≡ false =
    ne_eqb (counter_of packet) ((before + 1) % 16) missing.1 in
    rw (fresh, gap) refl

no_double : (last : Option ℕ) (packet : List ℕ) → IsMissing last packet → last ≢ Some (counter_of packet)
no_double None packet missing same = absurd missing
no_double (Some before) packet missing same = missing.0 (some_is (sym same))
  where
    some_is : {m n : ℕ} → Some m ≡ Some n → m ≡ n
    some_is e = cc

-- where none is open and none begins
idles : (order : Succession) (bytes : List ℕ) → by_counter None order false bytes ≡ none_ended
idles Next bytes = refl
idles Again bytes = refl
idles (Missing expected found) bytes = refl

-- where it is not said where sections begin
pub not_started : (hand : Option (List ℕ)) (bytes : List ℕ) → IsMispointed bytes → started hand bytes ≡ none_ended
not_started hand [] wrong = refl
not_started hand (pointer ∷ bytes) wrong = rw (lt-ltb (length bytes) pointer wrong) refl

-- ---- damage

is_damaged : (packet : List ℕ) → IsDamaged packet → is_broken packet ≡ true
is_damaged packet (inl marked) = rw marked refl
is_damaged packet (inr (inl reserved)) =
    let tested : nat_eq (control_of packet) 0 ≡ true = ap (λ (c : ℕ). nat_eq c 0) reserved in
    by (has_error_flag packet) (nat_eq (control_of packet) 0) (has_bad_field packet) tested
  where
    by : (a b c : Bool) → b ≡ true → (a || b || c) ≡ true
    by true true c e = refl
    by false true c e = refl
    by a false c e = absurd cc
is_damaged packet (inr (inr bad)) =
    by (has_error_flag packet) (nat_eq (control_of packet) 0) (has_bad_field packet) bad
  where
    by : (a b c : Bool) → c ≡ true → (a || b || c) ≡ true
    by true true true e = refl
    by true false true e = refl
    by false true true e = refl
    by false false true e = refl
    by a b false e = absurd cc

pub breaks : (pid : ℕ) (last : Option ℕ) (hand : Option (List ℕ)) (packet : List ℕ) → pid_of packet ≡ pid
    → is_broken packet ≡ true → ended_with pid last hand packet ≡ none_ended
unfolding ended_with
breaks pid last hand packet own broken =
    let tested : nat_eq (pid_of packet) pid ≡ true = eq-eqb (pid_of packet) pid own in
    rw (tested, broken) refl

-- ---- a packet

regrouped : (begun piece more owed : List ℕ) → owed ≡ piece ++ more → begun ++ owed ≡ (begun ++ piece) ++ more
regrouped begun piece more owed bytes =
    ap (λ (l : List ℕ). begun ++ l) bytes ∙ sym (append_assoc begun piece more)

module _ (pid : ℕ) where
  step : {last : Option ℕ} → {packet : List ℕ} → {progress : Progress} → {ended : List (List ℕ)}
      → {next : Progress} → Lays pid last packet progress ended next → IsRight progress
      → Gives (ended_with pid last (in_hand progress) packet) ended next
  step {last} {packet} {progress} (between nothing) right =
      record { are = (stays pid last packet nothing).ends (in_hand progress); right = right }
  step {last} {packet} (idle bytes is) right = record {
    are = carried pid false bytes packet is last None ∙ idles (succession last (counter_of packet)) bytes;
    right = tt;
  }
  step {last} {packet} (first passed bytes other is stand) right =
      let behind = stand_is stand in
      record {
        are =
            carried pid true (pointed passed bytes) packet is last None
            ∙ without_hand last (counter_of packet) true (pointed passed bytes) other
            ∙ pointed_is None passed bytes ∙ behind.are;
        right = behind.right;
      }
  step {last} {packet} {progress = Open begun owed} (middle piece more follows is bytes some) right =
      let Is : List ℕ → Type 0 = λ l. IsWholeSection l in
      let is_section = subst Is (regrouped begun piece more owed bytes) right.0 in
      record {
        are =
            carried pid false piece packet is last (Some begun)
            ∙ ap (λ (order : Succession). by_counter (Some begun) order false piece) (next_order last packet follows)
            ∙ piece_grows begun piece more is_section some;
        right = (is_section, some);
      }
  step {last} {packet} {progress = Open begun owed} (end rest follows is) right = record {
    are =
        carried pid false (owed ++ rest) packet is last (Some begun)
        ∙ ap (λ (order : Succession). by_counter (Some begun) order false (owed ++ rest))
        (next_order last packet follows)
        ∙ piece_ends begun owed rest right.0;
    right = tt;
  }
  step {last} {packet} {progress = Open begun owed} (next_ones rest bytes follows is stand) right =
      let behind = stand_is stand in
      record {
        are =
            carried pid true (pointed (owed ++ rest) bytes) packet is last (Some begun)
            ∙ ap (λ (order : Succession). by_counter (Some begun) order true (pointed (owed ++ rest) bytes))
            (next_order last packet follows)
            ∙ pointed_is (Some begun) (owed ++ rest) bytes
            ∙ ap (λ (e : Ended). record {
              sections = e.sections ++ (all_in bytes).sections;
              hand = (all_in bytes).hand;
            }) (piece_ends begun owed rest right.0)
            ∙ ap (λ (e : Ended). record { sections = (begun ++ owed) ∷ e.sections; hand = e.hand }) behind.are;
        right = behind.right;
      }
  step {last} {packet} {progress = Open begun owed} (broken_off passed more bytes follows is over some stand) right =
      let behind = stand_is stand in
      let Is : List ℕ → Type 0 = λ l. IsWholeSection l in
      let is_section = subst Is (regrouped begun passed more owed over) right.0 in
      record {
        are =
            carried pid true (pointed passed bytes) packet is last (Some begun)
            ∙ ap (λ (order : Succession). by_counter (Some begun) order true (pointed passed bytes))
            (next_order last packet follows)
            ∙ pointed_is (Some begun) passed bytes
            ∙ ap (λ (e : Ended). record {
              sections = e.sections ++ (all_in bytes).sections;
              hand = (all_in bytes).hand;
            }) (piece_grows begun passed more is_section some)
            ∙ behind.are;
        right = behind.right;
      }
  step {last} {packet} {progress} (mispointed bytes other is wrong) right =
      let found = taken (in_hand progress) last true bytes (counter_of packet) other in
      record {
        are =
            carried pid true bytes packet is last (in_hand progress) ∙ found.1 ∙ not_started found.0 bytes wrong;
        right = tt;
      }
  step {last} {packet} {progress} (damaged own broken) right =
      record { are = breaks pid last (in_hand progress) packet own (is_damaged packet broken); right = tt }
  step {last} {packet} {progress = Open begun owed} (lost start bytes is missing lays) right =
      let behind = step lays tt in
      record {
        are =
            carried pid start bytes packet is last (Some begun)
            ∙ behind_missing last begun packet start bytes missing
            ∙ sym (without_hand last (counter_of packet) start bytes (no_double last packet missing))
            ∙ sym (carried pid start bytes packet is last None) ∙ behind.are;
        right = behind.right;
      }

  -- ---- all packets

  record Stands (before : List (List ℕ)) (last : Option ℕ) (progress : Progress) : Type 0 where
    hand : hand_behind pid before ≡ in_hand progress
    counter : counter_before pid before ≡ last
    right : IsRight progress

  all_come : (packets before sections : List (List ℕ)) (last : Option ℕ) (progress : Progress)
      → Stands before last progress → AreLaid pid last progress sections packets
      → sections_behind pid before packets ≡ sections
  all_come [] before sections last progress stands laid = sym laid
  all_come (packet ∷ packets) before sections last progress stands laid =
      let here = step laid.4 stands.right in
      let ends : ends_at pid before packet ≡ record { sections = laid.0; hand = in_hand laid.2 } =
      (λ i. ended_with pid ((sym (same_counter pid before) ∙ stands.counter) i) (stands.hand i) packet)
      ∙ here.are in
      let then = all_come packets (packet ∷ before) laid.1 _ laid.2 (record {
        hand = hand_is pid before packet ∙ ap (λ (e : Ended). e.hand) ends;
        counter = ap (λ (l : Option ℕ). cond (is_counted pid packet) (Some (counter_of packet)) l) stands.counter;
        right = here.right;
      }) laid.5 in
      (λ i. (ends i).sections ++ then i) ∙ sym laid.3

  pub every_laying : EveryLaying pid
  unfolding hand_behind
  every_laying packets sections laid =
      all_come packets [] sections None Closed (record { hand = refl; counter = refl; right = tt }) laid
