-- Whatever stands in packets, the sections that come are laid in them.
use Rattle.std.proofs.Common.{◌≡◌, ◌≢◌, ◌∙◌, ℕ, ◌+◌, ◌%◌, ◌<◌, ◌≤◌, ◌⊎◌, Bool, true, false, cond, ◌||◌, nat_eq, List, [], ◌∷◌, ◌++◌, length, take, drop, Option, Some, None, refl, sym, ap, subst, inl, inr, arith, append_assoc, length-append, length-take-le}
use Rattle.std.proofs.lemmas.Bool.{cases_lt, eq-eqb, eqb-true, ne_eqb}
use Rattle.std.proofs.lemmas.Bool.Decides.{nat_tests}
use Rattle.std.proofs.lemmas.List.{take-append-drop}
use Rattle.stream_syntax.specs.TransportPackets.{pid_of, has_error_flag, has_start_flag, has_payload, has_bad_field, control_of, counter_of, payload_of}
use Rattle.stream_syntax.specs.Units.{Next, Again, Missing, succession}
use Rattle.psi_tables.specs.Sections.{whole_section}
use Rattle.section_reader.specs.Sections.{Ended, by_counter, ended_with, hand_behind, is_broken, section_or_hand, sections_behind, started, with_payload}
use Rattle.cut_section_laws.specs.LaidSections.{AreLaid, Closed, EveryStream, IsDamaged, IsMispointed, IsMissing, Lays, Open, Progress, Stand, between, broken_off, damaged, end, first, idle, lost, middle, mispointed, next_ones}
use Rattle.cut_section_laws.specs.SectionCuts.{AddsNothing, Carries, HasNextCounter, IsUndamaged, IsWholeSection, counter_before, is_counted, pointed}
use Rattle.cut_section_laws.proofs.CutPackets.{carried, ends_at, hand_is, same_counter, stays}
use Rattle.cut_section_laws.proofs.Fronts.{Found, IsFront, completed, ends, found_in, grows_on}
use Rattle.cut_section_laws.proofs.LaidPackets.{breaks, not_started}
use Rattle.cut_section_laws.proofs.WholeSections.{all_in, pointed_is}

some_is : {m n : ℕ} → Some m ≡ Some n → m ≡ n
some_is e = cc

tells : (m n : ℕ) → nat_eq m n ≡ false → m ≢ n
tells m n e same = let f = eq-eqb m n same in absurd cc

-- ---- the section in hand

abbrev HasLast : Option ℕ → Type 0
HasLast None = ⊥
HasLast (Some counter) = Unit {0}

abbrev IsRightHand : Option ℕ → Option (List ℕ) → Type 0
IsRightHand last None = Unit {0}
IsRightHand last (Some front) = IsFront front × HasLast last

-- ---- a packet

module _ (pid : ℕ) (packet : List ℕ) where
  -- before the packet this was in hand, and these sections come with it
  abbrev Back : Option ℕ → Option (List ℕ) → List (List ℕ) → Progress → Type 0
  Back last None sections next = Lays pid last packet Closed sections next
  Back last (Some begun) sections next =
      (owed : List ℕ) × IsWholeSection (begun ++ owed) × (1 ≤ length owed)
      × Lays pid last packet (Open begun owed) sections next

  -- and that is in hand behind it
  abbrev Turns : Option ℕ → Option (List ℕ) → List (List ℕ) → Option (List ℕ) → Type 0
  Turns last hand sections None = Back last hand sections Closed
  Turns last hand sections (Some front) =
      IsFront front
      × ((owed : List ℕ) → IsWholeSection (front ++ owed) → 1 ≤ length owed
      → Back last hand sections (Open front owed))

  abbrev TurnsTo : Option ℕ → Option (List ℕ) → Ended → Type 0
  TurnsTo last hand e = Turns last hand e.sections e.hand

  right_then : (last behind : Option ℕ) (hand next : Option (List ℕ)) (sections : List (List ℕ)) → HasLast behind
      → Turns last hand sections next → IsRightHand behind next
  right_then last behind hand None sections has turns = tt
  right_then last behind hand (Some front) sections has turns = (turns.0, has)

  stays_so : (last : Option ℕ) (hand : Option (List ℕ)) → IsRightHand last hand → AddsNothing pid last packet
      → Turns last hand [] hand
  stays_so last None right nothing = between nothing
  stays_so last (Some begun) right nothing = (right.0, λ owed is some. (owed, is, some, between nothing))

  all_lost : (last : Option ℕ) (hand : Option (List ℕ)) → IsRightHand last hand
      → ((progress : Progress) → Lays pid last packet progress [] Closed) → Back last hand [] Closed
  all_lost last None right lays = lays Closed
  all_lost last (Some begun) right lays =
      let more = completed begun right.0 in (more.0, more.1, more.2, lays (Open begun more.0))

  stand_then : (last : Option ℕ) (hand next : Option (List ℕ)) (bytes : List ℕ) (sections all : List (List ℕ))
      → ((progress : Progress) → Stand bytes sections progress → Back last hand all progress)
      → Found bytes sections next → Turns last hand all next
  stand_then last hand None bytes sections all back found = back Closed found
  stand_then last hand (Some front) bytes sections all back found =
      (found.0, λ owed is some. back (Open front owed) (found.1 owed is some))

  -- ---- a payload

  at_pointer : (bytes : List ℕ)
      → IsMispointed bytes ⊎ ((passed behind : List ℕ) × (bytes ≡ pointed passed behind))
  at_pointer [] = inl tt
  at_pointer (pointer ∷ rest) = elim (cases_lt (length rest) pointer) [
    | inl beyond ↦ inl beyond
    | inr within ↦ inr (
      take pointer rest,
      drop pointer rest,
      (λ i. sym (length-take-le pointer rest within) i ∷ sym (take-append-drop pointer rest) i),
    )
  ]

  -- where no section is in hand
  closed_step : (last : Option ℕ) (start : Bool) (bytes : List ℕ) → last ≢ Some (counter_of packet)
      → Carries pid start bytes packet → TurnsTo last None (with_payload None start bytes)
  closed_step last false bytes other is = idle bytes is
  closed_step last true bytes other is = elim (at_pointer bytes) [
    | inl wrong ↦
        let To : Ended → Type 0 = λ e. TurnsTo last None e in
        subst To (sym (not_started None bytes wrong)) (mispointed bytes other is wrong)
    | inr found ↦
        let To : Ended → Type 0 = λ e. TurnsTo last None e in
        let Carried : List ℕ → Type 0 = λ l. Carries pid true l packet in
        let here = subst Carried found.2 is in
        subst To (sym (ap (started None) found.2 ∙ pointed_is None found.0 found.1))
        (stand_then last None (all_in found.1).hand found.1 (all_in found.1).sections (all_in found.1).sections
        (λ progress stand. first found.0 found.1 other here stand)
        (found_in (length found.1) found.1 (omega arith)))
  ]

  -- where the front of one is in hand, and no packet is missing
  next_is_other : (last : Option ℕ) → HasNextCounter last packet → last ≢ Some (counter_of packet)
  next_is_other None follows same = absurd follows
  next_is_other (Some before) follows same =
      let now : before ≡ counter_of packet = some_is same in omega (arith, follows, now)

  piece_step : (last : Option ℕ) (begun bytes : List ℕ) → HasNextCounter last packet → IsFront begun
      → Carries pid false bytes packet → (whole : Option (List ℕ)) → whole_section (begun ++ bytes) ≡ whole
      → TurnsTo last (Some begun) (section_or_hand (begun ++ bytes) whole)
  piece_step last begun bytes follows front is None found = (
    grows_on begun bytes front found,
    λ owed whole some.
        let Is : List ℕ → Type 0 = λ l. IsWholeSection l in
        let lengths = length-append bytes owed in (
          bytes ++ owed,
          subst Is (append_assoc begun bytes owed) whole,
          omega (arith, some),
          middle bytes owed follows is refl some,
        ),
  )
  piece_step last begun bytes follows front is (Some section) found =
      let here = ends begun bytes section front found in
      let Carried : List ℕ → Type 0 = λ l. Carries pid false l packet in
      let Here : List ℕ → Type 0 = λ l. Lays pid last packet (Open begun here.owed) (l ∷ []) Closed in (
        here.owed,
        here.is,
        here.some,
        subst Here here.section_is (end here.rest follows (subst Carried here.more_is is)),
      )

  pointed_step : (last : Option ℕ) (begun passed behind : List ℕ) → HasNextCounter last packet → IsFront begun
      → Carries pid true (pointed passed behind) packet → (whole : Option (List ℕ))
      → whole_section (begun ++ passed) ≡ whole
      → Turns last (Some begun) ((section_or_hand (begun ++ passed) whole).sections ++ (all_in behind).sections)
      (all_in behind).hand
  pointed_step last begun passed behind follows front is None found =
      let more = completed (begun ++ passed) (grows_on begun passed front found) in
      let Is : List ℕ → Type 0 = λ l. IsWholeSection l in
      let lengths = length-append passed more.0 in
      stand_then last (Some begun) (all_in behind).hand behind (all_in behind).sections (all_in behind).sections
      (λ progress stand. (
        passed ++ more.0,
        subst Is (append_assoc begun passed more.0) more.1,
        omega (arith, more.2),
        broken_off passed more.0 behind follows is refl more.2 stand,
      ))
      (found_in (length behind) behind (omega arith))
  pointed_step last begun passed behind follows front is (Some section) found =
      let here = ends begun passed section front found in
      let Carried : List ℕ → Type 0 = λ l. Carries pid true (pointed l behind) packet in
      stand_then last (Some begun) (all_in behind).hand behind (all_in behind).sections
      (section ∷ (all_in behind).sections)
      (λ progress stand.
      let Here : List ℕ
      → Type 0 = λ l. Lays pid last packet (Open begun here.owed) (l ∷ (all_in behind).sections) progress in (
        here.owed,
        here.is,
        here.some,
        subst Here here.section_is
            (next_ones here.rest behind follows (subst Carried here.more_is is) stand),
      ))
      (found_in (length behind) behind (omega arith))

  open_step : (last : Option ℕ) (begun : List ℕ) (start : Bool) (bytes : List ℕ) → HasNextCounter last packet
      → IsRightHand last (Some begun) → Carries pid start bytes packet
      → TurnsTo last (Some begun) (with_payload (Some begun) start bytes)
  open_step last begun false bytes follows right is =
      piece_step last begun bytes follows right.0 is (whole_section (begun ++ bytes)) refl
  open_step last begun true bytes follows right is = elim (at_pointer bytes) [
    | inl wrong ↦
        let To : Ended → Type 0 = λ e. TurnsTo last (Some begun) e in
        subst To (sym (not_started (Some begun) bytes wrong))
        (all_lost last (Some begun) right
        (λ progress. mispointed bytes (next_is_other last follows) is wrong))
    | inr found ↦
        let To : Ended → Type 0 = λ e. TurnsTo last (Some begun) e in
        let Carried : List ℕ → Type 0 = λ l. Carries pid true l packet in
        subst To (sym (ap (started (Some begun)) found.2 ∙ pointed_is (Some begun) found.0 found.1))
        (pointed_step last begun found.0 found.1 follows right.0 (subst Carried found.2 is)
        (whole_section (begun ++ found.0)) refl)
  ]

  -- where packets are missing
  missing_step : (last : Option ℕ) (begun : List ℕ) (start : Bool) (bytes : List ℕ) (sections : List (List ℕ))
      (next : Option (List ℕ)) → IsMissing last packet → IsFront begun → Carries pid start bytes packet
      → Turns last None sections next → Turns last (Some begun) sections next
  missing_step last begun start bytes sections None missing front is turns =
      let more = completed begun front in (more.0, more.1, more.2, lost start bytes is missing turns)
  missing_step last begun start bytes sections (Some behind) missing front is turns =
      let more = completed begun front in
      (turns.0, λ owed whole some. (more.0, more.1, more.2, lost start bytes is missing (turns.1 owed whole some)))

  counted_step : (last : Option ℕ) (hand : Option (List ℕ)) (start : Bool) (bytes : List ℕ)
      → IsRightHand last hand → Carries pid start bytes packet
      → TurnsTo last hand (by_counter hand (succession last (counter_of packet)) start bytes)
  counted_step None None start bytes right is = closed_step None start bytes (λ e. absurd cc) is
  counted_step None (Some begun) start bytes right is = absurd right.1
  counted_step (Some before) hand start bytes right is =
      by (nat_eq (counter_of packet) before) refl (nat_eq (counter_of packet) ((before + 1) % 16)) refl hand right
    where
      other : nat_eq (counter_of packet) before ≡ false → Some before ≢ Some (counter_of packet)
      other e same = tells (counter_of packet) before e (some_is (sym same))

      by : (again : Bool) → nat_eq (counter_of packet) before ≡ again → (next : Bool)
          → nat_eq (counter_of packet) ((before + 1) % 16) ≡ next → (hand : Option (List ℕ))
          → IsRightHand (Some before) hand
          → TurnsTo (Some before) hand
          (by_counter hand (cond again Again (cond next Next (Missing ((before + 1) % 16) (counter_of packet)))) start
          bytes)
      by true same next e hand right =
          stays_so (Some before) hand right
          (inr (inr (is.own, is.sound, is.full, ap (λ (n : ℕ). Some n) (sym (eqb-true _ _ same)))))
      by false fresh true follows None right = closed_step (Some before) start bytes (other fresh) is
      by false fresh true follows (Some begun) right =
          open_step (Some before) begun start bytes (eqb-true _ _ follows) right is
      by false fresh false gap None right = closed_step (Some before) start bytes (other fresh) is
      by false fresh false gap (Some begun) right =
          let none = closed_step (Some before) start bytes (other fresh) is in
          missing_step (Some before) begun start bytes (with_payload None start bytes).sections
          (with_payload None start bytes).hand
          (tells (counter_of packet) before fresh, tells (counter_of packet) ((before + 1) % 16) gap) right.0 is none

  -- ---- any packet

  record Step (last : Option ℕ) (hand : Option (List ℕ)) (e : Ended) : Type 0 where
    turns : TurnsTo last hand e
    right : IsRightHand (cond (is_counted pid packet) (Some (counter_of packet)) last) e.hand

  -- it adds nothing
  same_last : (last : Option ℕ) → AddsNothing pid last packet
      → cond (is_counted pid packet) (Some (counter_of packet)) last ≡ last
  same_last last (inl other) =
      let tested : nat_eq (pid_of packet) pid ≡ false = ne_eqb (pid_of packet) pid other in rw tested refl
  same_last last (inr (inl empty)) =
      let tested : nat_eq (pid_of packet) pid ≡ true = eq-eqb (pid_of packet) pid empty.0 in
      let bare : has_payload packet ≡ false = ap (λ (c : ℕ). nat_eq c 1 || nat_eq c 3) empty.2 in
      rw (tested, bare) refl
  same_last last (inr (inr double)) =
      let tested : nat_eq (pid_of packet) pid ≡ true = eq-eqb (pid_of packet) pid double.0 in
      rw (tested, double.2, double.1.unmarked, double.1.fitting) (sym double.3)

  nothing_step : (last : Option ℕ) (hand : Option (List ℕ)) → IsRightHand last hand → AddsNothing pid last packet
      → Step last hand (ended_with pid last hand packet)
  nothing_step last hand right nothing =
      let ends = (stays pid last packet nothing).ends hand in
      let To : Ended → Type 0 = λ e. TurnsTo last hand e in
      let Right : Option ℕ → Type 0 = λ l. IsRightHand l hand in
      let RightTo : Ended
      → Type 0 = λ e. IsRightHand (cond (is_counted pid packet) (Some (counter_of packet)) last) e.hand in
      record {
        turns = subst To (sym ends) (stays_so last hand right nothing);
        right = subst RightTo (sym ends) (subst Right (sym (same_last last nothing)) right);
      }

  -- it is damaged
  damage : is_broken packet ≡ true → IsDamaged packet
  damage broken =
      by (has_error_flag packet) refl (nat_eq (control_of packet) 0) refl (has_bad_field packet) refl broken
    where
      by : (a : Bool) → has_error_flag packet ≡ a → (b : Bool) → nat_eq (control_of packet) 0 ≡ b → (c : Bool)
          → has_bad_field packet ≡ c → (a || b || c) ≡ true → IsDamaged packet
      by true marked b e c f some = inl marked
      by false marked true e c f some = inr (inl (eqb-true _ _ e))
      by false marked false e true f some = inr (inr f)
      by false marked false e false f some = absurd cc

  damaged_step : (last : Option ℕ) (hand : Option (List ℕ)) → IsRightHand last hand → pid_of packet ≡ pid
      → is_broken packet ≡ true → Step last hand (ended_with pid last hand packet)
  damaged_step last hand right own broken =
      let ends = breaks pid last hand packet own broken in
      let To : Ended → Type 0 = λ e. TurnsTo last hand e in
      let Right : Option (List ℕ) → Type 0 =
      λ h. IsRightHand (cond (is_counted pid packet) (Some (counter_of packet)) last) h in
      record {
        turns = subst To (sym ends) (all_lost last hand right (λ progress. damaged own (damage broken)));
        right = subst (λ (e : Ended). Right e.hand) (sym ends) tt;
      }

  -- it is right
  undamaged : is_broken packet ≡ false → (nat_eq (control_of packet) 0 ≡ false) × IsUndamaged packet
  undamaged sound =
      by (has_error_flag packet) refl (nat_eq (control_of packet) 0) (has_bad_field packet) refl sound
    where
      by : (a : Bool) → has_error_flag packet ≡ a → (b c : Bool) → has_bad_field packet ≡ c
          → (a || b || c) ≡ false → (b ≡ false) × IsUndamaged packet
      by false unmarked false false fitting none = (refl, record { unmarked = unmarked; fitting = fitting })
      by true unmarked b c fitting none = absurd cc
      by false unmarked true c fitting none = absurd cc
      by false unmarked false true fitting none = absurd cc

  field_alone : (control : ℕ) → control < 4 → nat_eq control 0 ≡ false
      → (nat_eq control 1 || nat_eq control 3) ≡ false → control ≡ 2
  field_alone control small used bare = grind (arith, nat_tests)

  payload_step : (last : Option ℕ) (hand : Option (List ℕ)) → IsRightHand last hand → pid_of packet ≡ pid
      → IsUndamaged packet → has_payload packet ≡ true → Step last hand (ended_with pid last hand packet)
  payload_step last hand right own sound full =
      let start = has_start_flag packet in
      let bytes = payload_of packet in
      let is : Carries pid start bytes packet =
      record { own = own; sound = sound; full = full; begins = refl; payload = refl } in
      let tested : nat_eq (pid_of packet) pid ≡ true = eq-eqb (pid_of packet) pid own in
      let counted : is_counted pid packet ≡ true = rw (tested, full, sound.unmarked, sound.fitting) refl in
      let To : Ended → Type 0 = λ e. TurnsTo last hand e in
      let turns =
      subst To (sym (carried pid start bytes packet is last hand)) (counted_step last hand start bytes right is) in
      let e = ended_with pid last hand packet in
      let Has : Option ℕ → Type 0 = λ l. HasLast l in
      record {
        turns = turns;
        right = right_then last (cond (is_counted pid packet) (Some (counter_of packet)) last) hand e.hand e.sections
            (subst Has (sym (ap (λ (b : Bool). cond b (Some (counter_of packet)) last) counted)) tt) turns;
      }

  step : (last : Option ℕ) (hand : Option (List ℕ)) → IsRightHand last hand
      → Step last hand (ended_with pid last hand packet)
  step last hand right =
      by (nat_eq (pid_of packet) pid) refl (is_broken packet) refl (has_payload packet) refl
    where
      by : (own : Bool) → nat_eq (pid_of packet) pid ≡ own → (broken : Bool) → is_broken packet ≡ broken
          → (full : Bool) → has_payload packet ≡ full → Step last hand (ended_with pid last hand packet)
      by false other broken e full f = nothing_step last hand right (inl (tells (pid_of packet) pid other))
      by true own true broken full f = damaged_step last hand right (eqb-true _ _ own) broken
      by true own false e true full =
          payload_step last hand right (eqb-true _ _ own) (undamaged e).1 full
      by true own false e false bare =
          nothing_step last hand right
          (inr (inl
          (eqb-true _ _ own, (undamaged e).1, field_alone (control_of packet) (omega arith) (undamaged e).0 bare)))

-- ---- all packets

module _ (pid : ℕ) where
  abbrev IsLaidSo : Option ℕ → Option (List ℕ) → List (List ℕ) → List (List ℕ) → Type 0
  IsLaidSo last None sections packets = AreLaid pid last Closed sections packets
  IsLaidSo last (Some begun) sections packets =
      (owed : List ℕ) × IsWholeSection (begun ++ owed) × (1 ≤ length owed)
      × AreLaid pid last (Open begun owed) sections packets

  laid_back : (packet : List ℕ) (packets : List (List ℕ)) (last : Option ℕ) (hand : Option (List ℕ))
      (sections later : List (List ℕ)) (next : Progress) → Back pid packet last hand sections next
      → AreLaid pid (cond (is_counted pid packet) (Some (counter_of packet)) last) next later packets
      → IsLaidSo last hand (sections ++ later) (packet ∷ packets)
  laid_back packet packets last None sections later next back laid =
      (sections, later, next, refl, back, laid)
  laid_back packet packets last (Some begun) sections later next back laid =
      (back.0, back.1, back.2, (sections, later, next, refl, back.3, laid))

  laid_turn : (packet : List ℕ) (packets : List (List ℕ)) (last : Option ℕ) (hand next : Option (List ℕ))
      (sections later : List (List ℕ)) → Turns pid packet last hand sections next
      → IsLaidSo (cond (is_counted pid packet) (Some (counter_of packet)) last) next later packets
      → IsLaidSo last hand (sections ++ later) (packet ∷ packets)
  laid_turn packet packets last hand None sections later turns laid =
      laid_back packet packets last hand sections later Closed turns laid
  laid_turn packet packets last hand (Some front) sections later turns laid =
      laid_back packet packets last hand sections later (Open front laid.0) (turns.1 laid.0 laid.1 laid.2) laid.3

  laid_at_the_end : (last : Option ℕ) (hand : Option (List ℕ)) → IsRightHand last hand → IsLaidSo last hand [] []
  laid_at_the_end last None right = refl
  laid_at_the_end last (Some begun) right =
      let more = completed begun right.0 in (more.0, more.1, more.2, refl)

  all_laid : (packets before : List (List ℕ)) (last : Option ℕ) (hand : Option (List ℕ))
      → counter_before pid before ≡ last → hand_behind pid before ≡ hand → IsRightHand last hand
      → IsLaidSo last hand (sections_behind pid before packets) packets
  all_laid [] before last hand counted held right = laid_at_the_end last hand right
  all_laid (packet ∷ packets) before last hand counted held right =
      let here = step pid packet last hand right in
      let e = ended_with pid last hand packet in
      let same : ends_at pid before packet ≡ e =
      λ i. ended_with pid ((sym (same_counter pid before) ∙ counted) i) (held i) packet in
      let later = all_laid packets (packet ∷ before)
      (cond (is_counted pid packet) (Some (counter_of packet)) last) e.hand
      (ap (λ (l : Option ℕ). cond (is_counted pid packet) (Some (counter_of packet)) l) counted)
      (hand_is pid before packet ∙ ap (λ (e : Ended). e.hand) same) here.right in
      let So : Ended → Type 0 =
      λ e. IsLaidSo last hand (e.sections ++ sections_behind pid (packet ∷ before) packets) (packet ∷ packets) in
      subst So (sym same)
      (laid_turn packet packets last hand e.hand e.sections (sections_behind pid (packet ∷ before) packets) here.turns
      later)

  pub every_stream : EveryStream pid
  unfolding hand_behind
  every_stream packets = all_laid packets [] None None refl refl tt
