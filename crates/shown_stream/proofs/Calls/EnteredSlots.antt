-- The calls of scheduled sets behind an entry, slot by slot: what the packet at a slot adds to them.
use Rattle.std.proofs.Common.{◌≡◌, ◌≢◌, ◌∙◌, inl, inr, ℕ, zero, suc, ◌+◌, ◌-◌, ◌<◌, ◌≤◌, ◌&&◌, nat_le, nat_lt, Bool, true, false, eqb, cond, List, [], ◌∷◌, length, refl, sym, ap, arith}
use Rattle.std.proofs.lemmas.Bool.{cases_lt, eq-eqb, eqb-true}
use Rattle.std.proofs.lemmas.Bool.Decides.{nat_tests}
use Rattle.sub_base.specs.declared.load.WriteLoad.{WriteLoad}
use Rattle.buffer_model.specs.Calls.{Call, Arrived, SetWhole}
use Rattle.schedule.specs.Packets.{packets_of, payload_of}
use Rattle.schedule.specs.Slots.{slot_of}
use Rattle.scheduled_level_laws.specs.EnteredCalls.{Entry, from_of, counts, packet_calls, heard_load, is_whole, set_calls, calls_of_set, entered_calls}
use Rattle.scheduled_level_laws.proofs.EnteredSums.{AreSlots, in_set, in_order, last_packet}

-- ---- tests of numbers

below : (a b : ℕ) → a < b → nat_lt a b ≡ true
below a b h = grind (arith, nat_tests)

not_below : (a b : ℕ) → b ≤ a → nat_lt a b ≡ false
not_below a b h = grind (arith, nat_tests)

at_most : (a b : ℕ) → a ≤ b → nat_le a b ≡ true
at_most a b h = grind (arith, nat_tests)

more_than : (a b : ℕ) → b < a → nat_le a b ≡ false
more_than a b h = grind (arith, nat_tests)

-- a number that is not the bound is below the next bound where it is below this one
below_next : (a b : ℕ) → a ≢ b → nat_lt a (suc b) ≡ nat_lt a b
below_next a b other =
    elim (cases_lt a b) [
      | inl less ↦ below a (suc b) (omega arith) ∙ sym (below a b less)
      | inr most ↦ not_below a (suc b) (omega arith) ∙ sym (not_below a b most)
    ]

-- ---- a slot without a packet

packets_same : (loads : List WriteLoad) (slots : List ℕ) (bound : ℕ) (entry : Entry) (i m : ℕ)
    (past : List Call) → ((k : ℕ) → k < m → slot_of loads slots i k ≢ bound)
    → packet_calls loads slots (suc bound) entry i m past ≡ packet_calls loads slots bound entry i m past
packets_same loads slots bound entry i zero past none = refl
packets_same loads slots bound entry i (suc k) past none =
    let here : counts loads slots (suc bound) entry i k ≡ counts loads slots bound entry i k =
    ap (λ under. nat_le (from_of entry i) k && under)
    (below_next (slot_of loads slots i k) bound (none k (omega arith))) in
    ap (λ counted. cond counted
    (Arrived (slot_of loads slots i k) (payload_of loads i k)
    ∷ packet_calls loads slots (suc bound) entry i k past) (packet_calls loads slots (suc bound) entry i k past))
    here
    ∙ ap (λ rest. cond (counts loads slots bound entry i k)
    (Arrived (slot_of loads slots i k) (payload_of loads i k) ∷ rest) rest)
    (packets_same loads slots bound entry i k past (λ n within. none n (omega arith)))

set_same : (loads : List WriteLoad) (slots : List ℕ) (bound : ℕ) (painted : ℕ → ℕ) (entry : Entry) (i : ℕ)
    (past : List Call) → AreSlots loads slots → i < length loads
    → ((k : ℕ) → k < packets_of loads i → slot_of loads slots i k ≢ bound)
    → calls_of_set loads slots (suc bound) painted entry i past
    ≡ calls_of_set loads slots bound painted entry i past
set_same loads slots bound painted entry i past are inside none =
    ap (set_calls loads slots (suc bound) painted entry i)
    (packets_same loads slots bound entry i (packets_of loads i) past none)
    ∙ ap (λ whole. cond whole
    (SetWhole (heard_load loads painted entry i)
    ∷ packet_calls loads slots bound entry i (packets_of loads i) past)
    (packet_calls loads slots bound entry i (packets_of loads i) past))
    (below_next (slot_of loads slots i (packets_of loads i - 1)) bound
    (none (packets_of loads i - 1) (last_packet loads slots i are inside)))

-- where no packet of the first n sets stands at a slot, nothing is added there
pub no_packet : (loads : List WriteLoad) (slots : List ℕ) (bound : ℕ) (painted : ℕ → ℕ) (entry : Entry)
    (n : ℕ) → AreSlots loads slots → n ≤ length loads
    → ((i k : ℕ) → i < n → k < packets_of loads i → slot_of loads slots i k ≢ bound)
    → entered_calls loads slots (suc bound) painted entry n ≡ entered_calls loads slots bound painted entry n
no_packet loads slots bound painted entry zero are inside none = refl
no_packet loads slots bound painted entry (suc i) are inside none =
    ap (λ past. cond (nat_le entry.set i) (calls_of_set loads slots (suc bound) painted entry i past) [])
    (no_packet loads slots bound painted entry i are (omega arith)
    (λ j k before within. none j k (omega arith) within))
    ∙ ap (λ calls. cond (nat_le entry.set i) calls [])
    (set_same loads slots bound painted entry i (entered_calls loads slots bound painted entry i) are (omega arith)
    (λ k within. none i k (omega arith) within))

-- ---- packets that do not stand below a bound

packets_late : (loads : List WriteLoad) (slots : List ℕ) (bound : ℕ) (entry : Entry) (i m d : ℕ)
    (past : List Call) → ((k : ℕ) → m ≤ k → k < m + d → counts loads slots bound entry i k ≡ false)
    → packet_calls loads slots bound entry i (m + d) past ≡ packet_calls loads slots bound entry i m past
packets_late loads slots bound entry i m zero past none =
    ap (λ n. packet_calls loads slots bound entry i n past) (omega arith)
packets_late loads slots bound entry i m (suc d) past none =
    let next : m + suc d ≡ suc (m + d) = omega arith in
    ap (λ n. packet_calls loads slots bound entry i n past) next
    ∙ ap (λ counted. cond counted
    (Arrived (slot_of loads slots i (m + d)) (payload_of loads i (m + d))
    ∷ packet_calls loads slots bound entry i (m + d) past) (packet_calls loads slots bound entry i (m + d) past))
    (none (m + d) (omega arith) (omega arith))
    ∙ packets_late loads slots bound entry i m d past (λ k least within. none k least (omega arith))

late_counts : (loads : List WriteLoad) (slots : List ℕ) (bound : ℕ) (entry : Entry) (i k : ℕ)
    → bound ≤ slot_of loads slots i k → counts loads slots bound entry i k ≡ false
late_counts loads slots bound entry i k late =
    ap (λ under. nat_le (from_of entry i) k && under) (not_below (slot_of loads slots i k) bound late)
    ∙ never (nat_le (from_of entry i) k)
  where
    never : (b : Bool) → (b && false) ≡ false
    never true = refl
    never false = refl

set_late : (loads : List WriteLoad) (slots : List ℕ) (bound : ℕ) (painted : ℕ → ℕ) (entry : Entry) (i : ℕ)
    (past : List Call) → ((k : ℕ) → k < packets_of loads i → counts loads slots bound entry i k ≡ false)
    → bound ≤ slot_of loads slots i (packets_of loads i - 1)
    → calls_of_set loads slots bound painted entry i past ≡ past
set_late loads slots bound painted entry i past none last =
    let all : packets_of loads i ≡ 0 + packets_of loads i = omega arith in
    ap (λ whole. cond whole
    (SetWhole (heard_load loads painted entry i)
    ∷ packet_calls loads slots bound entry i (packets_of loads i) past)
    (packet_calls loads slots bound entry i (packets_of loads i) past))
    (not_below (slot_of loads slots i (packets_of loads i - 1)) bound last)
    ∙ ap (λ n. packet_calls loads slots bound entry i n past) all
    ∙ packets_late loads slots bound entry i 0 (packets_of loads i) past (λ k least within. none k (omega arith))

sets_late : (loads : List WriteLoad) (slots : List ℕ) (bound : ℕ) (painted : ℕ → ℕ) (entry : Entry)
    (i d : ℕ) → AreSlots loads slots → entry.set ≤ i → i + d ≤ length loads
    → ((j k : ℕ) → i ≤ j → j < i + d → k < packets_of loads j → bound ≤ slot_of loads slots j k)
    → entered_calls loads slots bound painted entry (i + d) ≡ entered_calls loads slots bound painted entry i
sets_late loads slots bound painted entry i zero are begun inside late =
    ap (entered_calls loads slots bound painted entry) (omega arith)
sets_late loads slots bound painted entry i (suc d) are begun inside late =
    let next : i + suc d ≡ suc (i + d) = omega arith in
    ap (entered_calls loads slots bound painted entry) next
    ∙ ap (λ from. cond from
    (calls_of_set loads slots bound painted entry (i + d) (entered_calls loads slots bound painted entry (i + d)))
    []) (at_most entry.set (i + d) (omega arith))
    ∙ set_late loads slots bound painted entry (i + d) (entered_calls loads slots bound painted entry (i + d))
    (λ k within. late_counts loads slots bound entry (i + d) k (late (i + d) k (omega arith) (omega arith) within))
    (late (i + d) (packets_of loads (i + d) - 1) (omega arith) (omega arith)
    (last_packet loads slots (i + d) are (omega arith)))
    ∙ sets_late loads slots bound painted entry i d are begun (omega arith)
    (λ j k least before within. late j k least (omega arith) within)

-- ---- the packet at a slot

-- a packet that counts, at its slot
pub record StandsAt (loads : List WriteLoad) (slots : List ℕ) (entry : Entry) (i k slot : ℕ) : Type 0 where
  pub inside : i < length loads
  pub within : k < packets_of loads i
  pub begun : entry.set ≤ i
  pub counted : from_of entry i ≤ k
  pub here : slot_of loads slots i k ≡ slot

-- the calls up to it and with it, by those of the sets before and those of its own set's packets before
record Around (loads : List WriteLoad) (slots : List ℕ) (painted : ℕ → ℕ) (entry : Entry)
    (i k slot : ℕ) : Type 0 where
  past : List Call
  before : entered_calls loads slots slot painted entry (length loads) ≡ past
  with : entered_calls loads slots (suc slot) painted entry (length loads)
      ≡ cond (is_whole loads slots (suc slot) i)
      (SetWhole (heard_load loads painted entry i) ∷ Arrived slot (payload_of loads i k) ∷ past)
      (Arrived slot (payload_of loads i k) ∷ past)

around : (loads : List WriteLoad) (slots : List ℕ) (painted : ℕ → ℕ) (entry : Entry) (i k slot : ℕ)
    → AreSlots loads slots → StandsAt loads slots entry i k slot → Around loads slots painted entry i k slot
around loads slots painted entry i k slot are stands = record {
  past = packet_calls loads slots slot entry i k front;
  before =
      ap (entered_calls loads slots slot painted entry) split
      ∙ sets_late loads slots slot painted entry (suc i) left are (omega (arith, begun)) (omega (arith, inside))
      (λ j n least low low_n. omega (arith, higher j n least low low_n))
      ∙ ap (λ from. cond from (calls_of_set loads slots slot painted entry i front) []) (at_most entry.set i begun)
      ∙ ap (λ whole. cond whole
      (SetWhole (heard_load loads painted entry i)
      ∷ packet_calls loads slots slot entry i (packets_of loads i) front)
      (packet_calls loads slots slot entry i (packets_of loads i) front))
      (not_below (slot_of loads slots i (packets_of loads i - 1)) slot
      (later (packets_of loads i - 1) (omega (arith, within)) (last_packet loads slots i are inside)))
      ∙ ap (λ n. packet_calls loads slots slot entry i n front) from_here
      ∙ packets_late loads slots slot entry i k (packets_of loads i - k) front
      (λ n least low. late_counts loads slots slot entry i n (later n least (omega (arith, within, low))));
  with =
      ap (entered_calls loads slots (suc slot) painted entry) split
      ∙ sets_late loads slots (suc slot) painted entry (suc i) left are (omega (arith, begun)) (omega (arith, inside))
      higher
      ∙ ap (λ from. cond from
      (calls_of_set loads slots (suc slot) painted entry i (entered_calls loads slots (suc slot) painted entry i))
      []) (at_most entry.set i begun)
      ∙ ap (calls_of_set loads slots (suc slot) painted entry i)
      (no_packet loads slots slot painted entry i are (omega (arith, inside)) lower)
      ∙ ap (set_calls loads slots (suc slot) painted entry i) own;
}
  where
    inside : i < length loads
    inside = stands.inside

    within : k < packets_of loads i
    within = stands.within

    begun : entry.set ≤ i
    begun = stands.begun

    front : List Call
    front = entered_calls loads slots slot painted entry i

    left : ℕ
    left = length loads - suc i

    split : length loads ≡ suc i + left
    split = omega (arith, inside)

    from_here : packets_of loads i ≡ k + (packets_of loads i - k)
    from_here = omega (arith, within)

    higher : (j n : ℕ) → suc i ≤ j → j < suc i + left → n < packets_of loads j
        → suc slot ≤ slot_of loads slots j n
    higher j n least low low_n =
        let above = in_order loads slots i j k n are (omega (arith, least)) (omega (arith, low, inside)) within low_n in
        let here = stands.here in omega (arith, above, here)

    later : (n : ℕ) → k ≤ n → n < packets_of loads i → slot ≤ slot_of loads slots i n
    later n least low =
        elim (cases_lt k n) [
          | inl less ↦
              (let above = in_set loads slots i k n are inside less low in let here = stands.here in omega
              (arith, above, here))
          | inr most ↦
              (let same : n
              ≡ k = omega arith in let here = stands.here in omega (arith, here, ap (slot_of loads slots i) same))
        ]

    further : (n : ℕ) → suc k ≤ n → n < packets_of loads i → suc slot ≤ slot_of loads slots i n
    further n least low =
        let above = in_set loads slots i k n are inside (omega (arith, least)) low in let here = stands.here in omega
        (arith, above, here)

    lower : (j n : ℕ) → j < i → n < packets_of loads j → slot_of loads slots j n ≢ slot
    lower j n less low =
        λ e. (let under = in_order loads slots j i n k are less inside low within in let here = stands.here in absurd
        (omega (arith, under, here, e)))

    lower_own : (n : ℕ) → n < k → slot_of loads slots i n ≢ slot
    lower_own n less =
        λ e. (let under = in_set loads slots i n k are inside less within in let here = stands.here in absurd
        (omega (arith, under, here, e)))

    behind : packets_of loads i ≡ suc k + (packets_of loads i - suc k)
    behind = omega (arith, within)

    counted : counts loads slots (suc slot) entry i k ≡ true
    counted =
        ap (λ from. from && nat_lt (slot_of loads slots i k) (suc slot)) (at_most (from_of entry i) k stands.counted)
        ∙ below (slot_of loads slots i k) (suc slot) (let here = stands.here in omega (arith, here))

    own : packet_calls loads slots (suc slot) entry i (packets_of loads i) front
        ≡ Arrived slot (payload_of loads i k) ∷ packet_calls loads slots slot entry i k front
    own =
        ap (λ n. packet_calls loads slots (suc slot) entry i n front) behind
        ∙ packets_late loads slots (suc slot) entry i (suc k) (packets_of loads i - suc k) front
        (λ n least low. late_counts loads slots (suc slot) entry i n
        (further n least (omega (arith, within, low))))
        ∙ ap (λ counted. cond counted
        (Arrived (slot_of loads slots i k) (payload_of loads i k)
        ∷ packet_calls loads slots (suc slot) entry i k front)
        (packet_calls loads slots (suc slot) entry i k front)) counted
        ∙ ap (λ at. Arrived at (payload_of loads i k) ∷ packet_calls loads slots (suc slot) entry i k front)
        stands.here
        ∙ ap (λ rest. Arrived slot (payload_of loads i k) ∷ rest)
        (packets_same loads slots slot entry i k front lower_own)

-- a packet that is not its set's last adds its bytes
pub packet_adds : (loads : List WriteLoad) (slots : List ℕ) (painted : ℕ → ℕ) (entry : Entry) (i k slot : ℕ)
    → AreSlots loads slots → StandsAt loads slots entry i k slot → suc k < packets_of loads i
    → entered_calls loads slots (suc slot) painted entry (length loads) ≡ Arrived slot (payload_of loads i k)
    ∷ entered_calls loads slots slot painted entry (length loads)
packet_adds loads slots painted entry i k slot are stands more =
    let told = around loads slots painted entry i k slot are stands in
    let inside = stands.inside in
    let here = stands.here in
    let above = in_set loads slots i k (packets_of loads i - 1) are inside (omega arith) (omega arith) in
    told.with
    ∙ ap (λ whole. cond whole
    (SetWhole (heard_load loads painted entry i) ∷ Arrived slot (payload_of loads i k) ∷ told.past)
    (Arrived slot (payload_of loads i k) ∷ told.past))
    (not_below (slot_of loads slots i (packets_of loads i - 1)) (suc slot) (omega (arith, above, here)))
    ∙ ap (λ past. Arrived slot (payload_of loads i k) ∷ past) (sym told.before)

-- its last one adds its bytes and then the set
pub last_adds : (loads : List WriteLoad) (slots : List ℕ) (painted : ℕ → ℕ) (entry : Entry) (i k slot : ℕ)
    → AreSlots loads slots → StandsAt loads slots entry i k slot → suc k ≡ packets_of loads i
    → entered_calls loads slots (suc slot) painted entry (length loads)
    ≡ SetWhole (heard_load loads painted entry i) ∷ Arrived slot (payload_of loads i k)
    ∷ entered_calls loads slots slot painted entry (length loads)
last_adds loads slots painted entry i k slot are stands last =
    let told = around loads slots painted entry i k slot are stands in
    let here = stands.here in
    let same : packets_of loads i - 1 ≡ k = omega arith in
    told.with
    ∙ ap (λ whole. cond whole
    (SetWhole (heard_load loads painted entry i) ∷ Arrived slot (payload_of loads i k) ∷ told.past)
    (Arrived slot (payload_of loads i k) ∷ told.past))
    (below (slot_of loads slots i (packets_of loads i - 1)) (suc slot)
    (omega (arith, here, ap (slot_of loads slots i) same)))
    ∙ ap (λ past. SetWhole (heard_load loads painted entry i) ∷ Arrived slot (payload_of loads i k) ∷ past)
    (sym told.before)

-- ---- before the entry

-- the first packet that counts stands at a slot or behind it
abbrev pub IsNotBegun : List WriteLoad → List ℕ → Entry → ℕ → Type 0
IsNotBegun loads slots entry slot = entry.set < length loads → (entry.packet < packets_of loads entry.set)
    × (slot ≤ slot_of loads slots entry.set entry.packet)

-- up to there nothing is heard
pub nothing_yet : (loads : List WriteLoad) (slots : List ℕ) (painted : ℕ → ℕ) (entry : Entry) (slot n : ℕ)
    → AreSlots loads slots → n ≤ length loads → IsNotBegun loads slots entry slot
    → entered_calls loads slots slot painted entry n ≡ []
nothing_yet loads slots painted entry slot zero are inside early = refl
nothing_yet loads slots painted entry slot (suc i) are inside early =
    elim (cases_lt i entry.set) [
      | inl less ↦ ap
          (λ from. cond from
          (calls_of_set loads slots slot painted entry i (entered_calls loads slots slot painted entry i)) [])
          (more_than entry.set i less)
      | inr most ↦
          ap (λ from. cond from
          (calls_of_set loads slots slot painted entry i (entered_calls loads slots slot painted entry i)) [])
          (at_most entry.set i most)
          ∙ ap (calls_of_set loads slots slot painted entry i)
          (nothing_yet loads slots painted entry slot i are (omega arith) early)
          ∙ set_late loads slots slot painted entry i [] (λ k within. not_counted k within most) (last_late most)
    ]
  where
    it_is : entry.set ≤ i → (entry.packet < packets_of loads entry.set)
        × (slot ≤ slot_of loads slots entry.set entry.packet)
    it_is most = early (omega (arith, most, inside))

    from_slot : (k : ℕ) → entry.set ≤ i → k < packets_of loads i → from_of entry i ≤ k
        → slot ≤ slot_of loads slots i k
    from_slot k most within counted =
        let told = it_is most in
        elim (cases_lt entry.set i) [
          | inl less ↦
              (let above = in_order loads slots entry.set i entry.packet k are less (omega (arith, inside)) told.0
              within in omega (arith, above, told.1))
          | inr least ↦
              let same : i ≡ entry.set = omega (arith, most, least) in
              let begins : from_of entry i ≡ entry.packet =
              ap (λ found. cond found entry.packet 0) (eq-eqb i entry.set same) in
              let own : slot_of loads slots i k ≡ slot_of loads slots entry.set k =
              ap (λ n. slot_of loads slots n k) same in
              let fits : packets_of loads i ≡ packets_of loads entry.set = ap (packets_of loads) same in
              elim (cases_lt entry.packet k) [
                | inl before ↦
                    (let above = in_set loads slots entry.set entry.packet k are (omega (arith, inside, same)) before
                    (omega (arith, within, fits)) in omega (arith, above, told.1, own))
                | inr after ↦
                    (let at : k
                    ≡ entry.packet = omega (arith, after, counted, begins) in omega
                    (arith, told.1, own, ap (slot_of loads slots entry.set) at))
              ]
        ]

    not_counted : (k : ℕ) → k < packets_of loads i → entry.set ≤ i
        → counts loads slots slot entry i k ≡ false
    not_counted k within most =
        elim (cases_lt k (from_of entry i)) [
          | inl less ↦ ap (λ from. from && nat_lt (slot_of loads slots i k) slot)
              (more_than (from_of entry i) k less)
          | inr counted ↦ late_counts loads slots slot entry i k (from_slot k most within counted)
        ]

    within_set : (b : Bool) → eqb i entry.set ≡ b → entry.set ≤ i
        → cond b entry.packet 0 ≤ packets_of loads i - 1
    within_set true e most =
        (let told = it_is most in let same : i
        ≡ entry.set = eqb-true i entry.set e in omega (arith, told.0, ap (packets_of loads) same))
    within_set false e most = omega arith

    last_late : entry.set ≤ i → slot ≤ slot_of loads slots i (packets_of loads i - 1)
    last_late most =
        from_slot (packets_of loads i - 1) most (last_packet loads slots i are (omega (arith, inside)))
        (within_set (eqb i entry.set) refl most)
