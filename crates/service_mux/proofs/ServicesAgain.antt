-- A multiplex gives the packets of its services again.
use Rattle.std.proofs.Common.{◌≡◌, ◌≢◌, ◌∙◌, ◌≤◌, ◌<◌, ℕ, zero, suc, ◌+◌, ◌-◌, ◌*◌, ◌/◌, ◌%◌, ◌^◌, max, Bool, true, false, not, cond, ◌&&◌, ◌||◌, List, [], ◌∷◌, ◌++◌, length, length-append, get_or, take, drop, replicate, Option, Some, None, refl, sym, ap, ap₂, subst, append-nil, append_assoc, slice_get, arith, nat_eq, nat_lt}
use Rattle.std.specs.Prelude.{◌==◌, filter, find, option_map, option_and_then}
use Rattle.std.specs.Bool.{if◌then◌else◌}
use Rattle.std.specs.Option.{option_or}
use Rattle.std.specs.List.{flat_map, range_with_len}
use Rattle.std.proofs.lemmas.Bool.{eq-eqb, ne_eqb, le-ltb}
use Rattle.std.proofs.lemmas.Bool.Decides.{nat_tests}
use Rattle.std.proofs.lemmas.List.{drop_at}
use Rattle.std.proofs.lemmas.List.Elements.{filter-append}
use Rattle.sub_base.specs.Lists.{first_given}
use Rattle.stream_syntax.specs.TransportPackets.{control_of, counter_of, has_bad_field, has_error_flag, has_payload, has_start_flag, null_packet, packet_fault, payload_of, pid_of, written_packet}
use Rattle.stream_syntax.specs.Units.{Next, succession}
use Rattle.stream_syntax.specs.declared.transport.PacketFault.TheVariants as faults
use Rattle.ts_packets.proofs.WrittenPackets.{written_says}
use Rattle.psi_tables.specs.Laws.{IsService}
use Rattle.psi_tables.specs.Sections.{Pat, valid_section, whole_section}
use Rattle.psi_tables.specs.Services.{named_by, pid_in, pid_listed, pmt_in, pmt_named}
use Rattle.psi_tables.specs.Writing.{pat_entry, written_pat, written_pmt}
use Rattle.psi_tables.specs.declared.service.Service.{Service}
use Rattle.psi_tables.specs.Loops.{thirteen_at}
use Rattle.psi_tables.proofs.ReadAgain.{pat_again, pmt_again, whole_pat, whole_pmt}
use Rattle.service_mux.specs.Multiplex.{frame_of, frames_of, if_of, mux_of, service_packet, table_packet, table_payload, turn_packet}
use Rattle.service_mux.specs.MuxWords.{AreServices}
use Rattle.section_reader.specs.Sections.{by_counter, counts, ended_with, following, grown, hand_behind, is_broken, last_counter, none_ended, sections_at, started, with_section}
use Rattle.section_reader.specs.First.{by_sections, first_behind, first_in}
use Rattle.service_mux.specs.Taken.{Named, of_pid, subtitles_of, taken_by, taken_of}
use Rattle.service_mux.specs.declared.mux_words.ServicePair.{ServicePair}
use Rattle.service_mux.proofs.TableLaws.{payload_length, written_table}

-- what entries list for a service, by the first of them
listed_first : (service a b c d : ℕ) (rest : List ℕ)
    → pid_listed service (a ∷ b ∷ c ∷ d ∷ rest)
    ≡ (if a * 256 + b == service then Some ((c * 256 + d) % 2 ^ 13) else pid_listed service rest)
listed_first service a b c d rest = by_test (a * 256 + b == service) refl
  where
    by_test : (found : Bool) → (a * 256 + b == service) ≡ found
        → pid_listed service (a ∷ b ∷ c ∷ d ∷ rest)
        ≡ (if a * 256 + b == service then Some ((c * 256 + d) % 2 ^ 13) else pid_listed service rest)
    by_test true e = rw e refl
    by_test false e = rw e refl

pid_listed_next : (service : ℕ) (bytes : List ℕ) → 4 ≤ length bytes
    → pid_listed service bytes
    ≡ (if get_or bytes 0 0 * 256 + get_or bytes 1 0 == service then Some (thirteen_at 2 bytes)
    else pid_listed service (drop 4 bytes))
pid_listed_next service (a ∷ b ∷ c ∷ d ∷ bytes) long = listed_first service a b c d bytes
pid_listed_next service [] long = absurd (omega arith)
pid_listed_next service (a ∷ []) long = absurd (omega arith)
pid_listed_next service (a ∷ b ∷ []) long = absurd (omega arith)
pid_listed_next service (a ∷ b ∷ c ∷ []) long = absurd (omega arith)

-- ---- the packet of a table is read as its section

record ReadsAs (pid : ℕ) (payload packet : List ℕ) : Type 0 where
  same_pid : pid_of packet ≡ pid
  sound : is_broken packet ≡ false
  full : has_payload packet ≡ true
  starts : has_start_flag packet ≡ true
  payload_is : payload_of packet ≡ payload

-- a packet that is not refused has a control and a right adaptation field
no_faults : (unsynced scrambled reserved bad : Bool)
    → cond unsynced (Some faults.NoSync)
    (cond scrambled (Some faults.Scrambled)
    (cond reserved (Some faults.ReservedControl) (cond bad (Some faults.BadAdaptation) None))) ≡ None
    → (reserved ≡ false) × (bad ≡ false)
no_faults true scrambled reserved bad none = absurd cc
no_faults false true reserved bad none = absurd cc
no_faults false false true bad none = absurd cc
no_faults false false false true none = absurd cc
no_faults false false false false none = (refl, refl)

and_false : (a b : Bool) → a ≡ true → (a && b) ≡ false → b ≡ false
and_false true b is none = none
and_false false b is none = absurd cc

sound_packet : (pid : ℕ) (packet : List ℕ) → packet_fault pid packet ≡ None → pid_of packet ≡ pid
    → has_error_flag packet ≡ false → is_broken packet ≡ false
sound_packet pid packet none same flag =
    let looked : (nat_eq (pid_of packet) pid && not (has_error_flag packet)) ≡ true =
    ap₂ (λ (a b : Bool). a && not b) (eq-eqb _ _ same) flag in
    let fine = no_faults _ _ _ _ none in
    let reserved : nat_eq (control_of packet) 0 ≡ false = and_false _ _ looked fine.0 in
    let field : has_bad_field packet ≡ false = and_false _ _ looked fine.1 in
    ap (λ (f : Bool). f || nat_eq (control_of packet) 0 || has_bad_field packet) flag
    ∙ ap (λ (c : Bool). c || has_bad_field packet) reserved ∙ field

table_reads : (pid : ℕ) (section : List ℕ) (count : ℕ) → pid < 8192 → length section ≤ 183
    → ReadsAs pid (table_payload section) (table_packet pid section count)
table_reads pid section count small fits =
    let long = payload_length section fits in
    let packet = written_packet pid true (count % 16) (table_payload section) in
    let says =
    written_says pid true (count % 16) (table_payload section) small (omega arith) (omega (arith, long))
    (omega (arith, long)) in
    let reads : ReadsAs pid (table_payload section) packet = record {
      same_pid = says.carries.same_pid;
      sound = sound_packet pid packet says.taken says.carries.same_pid says.carries.sound;
      full = says.carries.full;
      starts = says.carries.begins;
      payload_is = says.carries.payload;
    } in
    subst (λ (p : List ℕ). ReadsAs pid (table_payload section) p) (written_table pid section count fits) reads

-- stuffing has no sections
stuffing_ends : (most count : ℕ) → (following most (replicate count 255)).sections ≡ []
stuffing_ends zero count = refl
stuffing_ends (suc most) zero = refl
stuffing_ends (suc most) (suc count) = refl

-- a section with stuffing behind it is the only one
one_follows : (most byte : ℕ) (bytes : List ℕ) (count : ℕ) → nat_eq byte 255 ≡ false
    → whole_section ((byte ∷ bytes) ++ replicate count 255) ≡ Some (byte ∷ bytes)
    → (following (suc most) ((byte ∷ bytes) ++ replicate count 255)).sections ≡ (byte ∷ bytes) ∷ []
one_follows most byte bytes count table whole =
    let all = (byte ∷ bytes) ++ replicate count 255 in
    ap (λ (b : Bool). (if b then none_ended else with_section (following most) all (whole_section all)).sections) table
    ∙ ap (λ (found : Option (List ℕ)). (with_section (following most) all found).sections) whole
    ∙ ap (λ (rest : List ℕ). (byte ∷ bytes) ∷ (following most rest).sections)
    (drop_at (byte ∷ bytes) (replicate count 255) _ refl)
    ∙ ap (λ (more : List (List ℕ)). (byte ∷ bytes) ∷ more) (stuffing_ends most count)

module _ (pid : ℕ) (packet payload : List ℕ) (reads : ReadsAs pid payload packet) where
  ends_started : ended_with pid None None packet ≡ started None payload
  unfolding ended_with
  ends_started =
      ap (λ (b : Bool). if not b then record { sections = []; hand = None } else if is_broken packet then none_ended
      else if not (has_payload packet) then record { sections = []; hand = None }
      else by_counter None (succession None (counter_of packet)) (has_start_flag packet) (payload_of packet))
      (eq-eqb _ _ reads.same_pid)
      ∙ ap (λ (b : Bool). if b then none_ended else if not (has_payload packet)
      then record { sections = []; hand = None }
      else by_counter None (succession None (counter_of packet)) (has_start_flag packet) (payload_of packet))
      reads.sound
      ∙ ap (λ (b : Bool). if not b then record { sections = []; hand = None }
      else by_counter None Next (has_start_flag packet) (payload_of packet)) reads.full
      ∙ ap₂ (λ (start : Bool) (bytes : List ℕ). by_counter None Next start bytes) reads.starts reads.payload_is

-- the section of a table's packet, where no packet of the PID came before
one_section : (pid count byte : ℕ) (bytes : List ℕ) (before : List (List ℕ)) → pid < 8192
    → length (byte ∷ bytes) ≤ 183 → nat_eq byte 255 ≡ false
    → whole_section ((byte ∷ bytes) ++ replicate (183 - length (byte ∷ bytes)) 255) ≡ Some (byte ∷ bytes)
    → last_counter pid before ≡ None → hand_behind pid before ≡ None
    → sections_at pid before (table_packet pid (byte ∷ bytes) count) ≡ (byte ∷ bytes) ∷ []
one_section pid count byte bytes before small fits table whole none_last none_hand =
    let section = byte ∷ bytes in
    let packet = table_packet pid section count in
    let rest = section ++ replicate (183 - length section) 255 in
    let reads = table_reads pid section count small fits in
    let no_pointer : nat_lt (length rest) 0 ≡ false = le-ltb _ _ (omega arith) in
    ap₂ (λ (last : Option ℕ) (hand : Option (List ℕ)). (ended_with pid last hand packet).sections) none_last
    none_hand
    ∙ ap (λ (e : Rattle.section_reader.specs.Sections.Ended). e.sections)
    (ends_started pid packet (table_payload section) reads)
    ∙ ap (λ (b : Bool). (if b then none_ended else record {
      sections = (grown None (take 0 rest)).sections ++ (following (length rest) (drop 0 rest)).sections;
      hand = (following (length rest) (drop 0 rest)).hand;
    }).sections) no_pointer
    ∙ one_follows _ byte bytes (183 - length section) table whole

-- ---- packets of another PID

module _ (pid : ℕ) (packet : List ℕ) (other : nat_eq (pid_of packet) pid ≡ false) (before : List (List ℕ)) where
  other_ends : (last : Option ℕ) (hand : Option (List ℕ))
      → ended_with pid last hand packet ≡ record { sections = []; hand = hand }
  unfolding ended_with
  other_ends last hand =
      ap (λ (b : Bool). if not b then record { sections = []; hand = hand } else if is_broken packet then none_ended
      else if not (has_payload packet) then record { sections = []; hand = hand }
      else by_counter hand (succession last (counter_of packet)) (has_start_flag packet) (payload_of packet)) other

  other_sections : sections_at pid before packet ≡ []
  other_sections =
      ap (λ (e : Rattle.section_reader.specs.Sections.Ended). e.sections)
      (other_ends (last_counter pid before) (hand_behind pid before))

  other_last : last_counter pid (packet ∷ before) ≡ last_counter pid before
  other_last =
      ap (λ (b : Bool). option_map counter_of
      (if b && (not (is_broken packet) && has_payload packet) then Some packet else find (counts pid) before)) other

  other_hand : hand_behind pid (packet ∷ before) ≡ hand_behind pid before
  unfolding hand_behind
  other_hand =
      ap (λ (e : Rattle.section_reader.specs.Sections.Ended). e.hand)
      (other_ends (last_counter pid before) (hand_behind pid before))

nothing_in_hand : (pid : ℕ) → hand_behind pid [] ≡ None
unfolding hand_behind
nothing_in_hand pid = refl

-- ---- what is named first

named_here : (names : List ℕ → Option ℕ) (pid given : ℕ) (before packets : List (List ℕ))
    (packet section : List ℕ) → sections_at pid before packet ≡ section ∷ [] → names section ≡ Some given
    → first_behind names pid before (packet ∷ packets) ≡ Some (given, packets)
named_here names pid given before packets packet section here is =
    ap (λ (sections : List (List ℕ)). by_sections (first_given names sections) packets
    (first_behind names pid (packet ∷ before) packets)) here
    ∙ ap (λ (o : Option ℕ). by_sections (option_or o None) packets
    (first_behind names pid (packet ∷ before) packets)) is

named_later : (names : List ℕ → Option ℕ) (pid : ℕ) (before packets : List (List ℕ)) (packet : List ℕ)
    → sections_at pid before packet ≡ []
    → first_behind names pid before (packet ∷ packets) ≡ first_behind names pid (packet ∷ before) packets
named_later names pid before packets packet none =
    ap (λ (sections : List (List ℕ)). by_sections (first_given names sections) packets
    (first_behind names pid (packet ∷ before) packets)) none

-- the PAT of two services names the PMT of each
module _ (one two : Service) (one_fits : one.number < 2 ^ 16) (two_fits : two.number < 2 ^ 16) where
  abbrev entries : List ℕ
  entries = flat_map pat_entry (one ∷ two ∷ [])

  listed_one : one.pmt < 2 ^ 13 → pid_listed one.number entries ≡ Some one.pmt
  listed_one fits =
      pid_listed_next one.number entries (omega arith)
      ∙ ap (λ (b : Bool). if b then Some (thirteen_at 2 entries) else pid_listed one.number (drop 4 entries))
      (eq-eqb _ _ (omega (arith, one_fits)))
      ∙ ap Some (omega (arith, fits))

  listed_two : two.pmt < 2 ^ 13 → one.number ≢ two.number → pid_listed two.number entries ≡ Some two.pmt
  listed_two fits differ =
      pid_listed_next two.number entries (omega arith)
      ∙ ap (λ (b : Bool). if b then Some (thirteen_at 2 entries) else pid_listed two.number (drop 4 entries))
      (ne_eqb _ _ (λ same. differ (omega (arith, one_fits, same))))
      ∙ pid_listed_next two.number (drop 4 entries) (omega arith)
      ∙ ap (λ (b : Bool). if b then Some (thirteen_at 2 (drop 4 entries))
      else pid_listed two.number (drop 4 (drop 4 entries))) (eq-eqb _ _ (omega (arith, two_fits)))
      ∙ ap Some (omega (arith, fits))

pmt_fits : (number pmt pid page : ℕ) (language : List ℕ) → length language ≡ 3
    → length (written_pmt (record { number = number; pmt = pmt; pid = pid; page = page; language = language }))
    ≤ 183
pmt_fits number pmt pid page (a ∷ b ∷ d ∷ []) three = omega arith
pmt_fits number pmt pid page [] three = absurd (omega (arith, three))
pmt_fits number pmt pid page (a ∷ []) three = absurd (omega (arith, three))
pmt_fits number pmt pid page (a ∷ b ∷ []) three = absurd (omega (arith, three))
pmt_fits number pmt pid page (a ∷ b ∷ d ∷ e ∷ more) three = absurd (omega (arith, three))

-- ---- the packets of a service in frames

-- a packet of that PID, where there is one
abbrev keep : ℕ → Option (List ℕ) → List (List ℕ)
keep pid None = []
keep pid (Some packet) = if pid_of packet == pid then packet ∷ [] else []

same_number : (a b : ℕ) → nat_eq a b ≡ true → a ≡ b
same_number a b is = grind (arith, nat_tests)

null_other : (pid : ℕ) → pid ≢ 8191 → nat_eq (pid_of null_packet) pid ≡ false
null_other pid other = ne_eqb _ _ (λ same. other (sym same))

dropped : (pid : ℕ) (packet : List ℕ) (packets : List (List ℕ)) → nat_eq (pid_of packet) pid ≡ false
    → filter (of_pid pid) (packet ∷ packets) ≡ filter (of_pid pid) packets
dropped pid packet packets other =
    ap (λ (b : Bool). if b then packet ∷ filter (of_pid pid) packets else filter (of_pid pid) packets) other

module _ (pid : ℕ) (no_null : pid ≢ 8191) (packets : List (List ℕ)) where
  own_by : (packet : List ℕ) (is : Bool) → nat_eq (pid_of packet) pid ≡ is
      → filter (of_pid pid) ((if is then packet else null_packet) ∷ packets) ≡ (if is then packet ∷ [] else [])
      ++ filter (of_pid pid) packets
  own_by packet true is =
      ap (λ (b : Bool). if b then packet ∷ filter (of_pid pid) packets else filter (of_pid pid) packets) is
  own_by packet false is = dropped pid null_packet packets (null_other pid no_null)

  own : (o : Option (List ℕ))
      → filter (of_pid pid) (if_of pid o ∷ packets) ≡ keep pid o ++ filter (of_pid pid) packets
  own None = dropped pid null_packet packets (null_other pid no_null)
  own (Some packet) = own_by packet (nat_eq (pid_of packet) pid) refl

  other_by : (other : ℕ) (packet : List ℕ) (is : Bool) → other ≢ pid → nat_eq (pid_of packet) other ≡ is
      → filter (of_pid pid) ((if is then packet else null_packet) ∷ packets) ≡ filter (of_pid pid) packets
  other_by other packet true differ is =
      dropped pid packet packets (ne_eqb _ _ (λ same. differ (sym (same_number _ _ is) ∙ same)))
  other_by other packet false differ is = dropped pid null_packet packets (null_other pid no_null)

  others : (other : ℕ) → other ≢ pid → (o : Option (List ℕ))
      → filter (of_pid pid) (if_of other o ∷ packets) ≡ filter (of_pid pid) packets
  others other differ None = dropped pid null_packet packets (null_other pid no_null)
  others other differ (Some packet) = other_by other packet (nat_eq (pid_of packet) other) differ refl

table_pid : (pid : ℕ) (section : List ℕ) (count : ℕ) → pid < 8192
    → pid_of (table_packet pid section count) ≡ pid
table_pid pid section count small = omega (arith, small)

-- a table's packet in a frame is none of a service
turn_other : (pair : ServicePair) (pid count turn : ℕ) → pair.one.pmt < 8192 → pair.two.pmt < 8192
    → pid ≢ 0 → pid ≢ pair.one.pmt → pid ≢ pair.two.pmt → pid ≢ 8191
    → nat_eq (pid_of (turn_packet pair count turn)) pid ≡ false
turn_other pair pid count zero one_small two_small a b c d =
    ne_eqb _ _ (λ same. a (sym same ∙ table_pid 0 (written_pat (pair.one ∷ pair.two ∷ [])) count (omega arith)))
turn_other pair pid count (suc zero) one_small two_small a b c d =
    ne_eqb _ _ (λ same. b (sym same ∙ table_pid pair.one.pmt (written_pmt pair.one) count one_small))
turn_other pair pid count (suc (suc zero)) one_small two_small a b c d =
    ne_eqb _ _ (λ same. c (sym same ∙ table_pid pair.two.pmt (written_pmt pair.two) count two_small))
turn_other pair pid count (suc (suc (suc turn))) one_small two_small a b c d = null_other pid d

-- lists over numbers one after the other
filter_flat : (p : List ℕ → Bool) (f : ℕ → List (List ℕ)) (n a : ℕ)
    → filter p (flat_map f (range_with_len a n)) ≡ flat_map (λ (i : ℕ). filter p (f i)) (range_with_len a n)
filter_flat p f zero a = refl
filter_flat p f (suc n) a =
    filter-append p (f a) (flat_map f (range_with_len (a + 1) n))
    ∙ ap (λ (rest : List (List ℕ)). filter p (f a) ++ rest) (filter_flat p f n (a + 1))

same_flat : (f g : ℕ → List (List ℕ)) → ((i : ℕ) → f i ≡ g i) → (n a : ℕ)
    → flat_map f (range_with_len a n) ≡ flat_map g (range_with_len a n)
same_flat f g same zero a = refl
same_flat f g same (suc n) a = ap₂ (λ (x y : List (List ℕ)). x ++ y) (same a) (same_flat f g same n (a + 1))

shifted : (f : ℕ → List (List ℕ)) (n a : ℕ)
    → flat_map f (range_with_len (a + 1) n) ≡ flat_map (λ (i : ℕ). f (suc i)) (range_with_len a n)
shifted f zero a = refl
shifted f (suc n) a = ap₂ (λ (x y : List (List ℕ)). x ++ y) (ap f (omega arith)) (shifted f n (a + 1))

nothing_flat : (n a : ℕ) → flat_map (λ (i : ℕ). keep 0 None) (range_with_len a n) ≡ []
nothing_flat zero a = refl
nothing_flat (suc n) a = nothing_flat n (a + 1)

joined_by : (packet : List ℕ) (rest : List (List ℕ)) (is : Bool)
    → (if is then packet ∷ [] else []) ++ rest ≡ (if is then packet ∷ rest else rest)
joined_by packet rest true = refl
joined_by packet rest false = refl

kept_all : (pid : ℕ) (packets : List (List ℕ)) (n : ℕ) → length packets ≤ n
    → flat_map (λ (i : ℕ). keep pid (slice_get packets i)) (range_with_len 0 n) ≡ filter (of_pid pid) packets
kept_all pid [] n few = nothing_flat n 0
kept_all pid (packet ∷ packets) zero few = absurd (omega (arith, few))
kept_all pid (packet ∷ packets) (suc n) few =
    ap (λ (rest : List (List ℕ)). keep pid (Some packet) ++ rest)
    (shifted (λ (i : ℕ). keep pid (slice_get (packet ∷ packets) i)) n 0
    ∙ kept_all pid packets n (omega (arith, few)))
    ∙ joined_by packet (filter (of_pid pid) packets) (nat_eq (pid_of packet) pid)

-- ---- the services

module _ (pair : ServicePair) (first second : List (List ℕ)) (are : AreServices pair) where
  abbrev pat_of : List ℕ
  pat_of = written_pat (pair.one ∷ pair.two ∷ [])

  abbrev rest_of : ℕ → List (List ℕ)
  rest_of n = flat_map (frame_of pair first second) (range_with_len 0 n)

  pat_section : sections_at 0 [] (turn_packet pair 0 0) ≡ pat_of ∷ []
  unfolding hand_behind
  pat_section =
      one_section 0 0 _ _ [] (omega arith) (omega arith) refl
      (whole_pat (pair.one ∷ pair.two ∷ []) (replicate (183 - length pat_of) 255) (omega arith)) refl refl

  pat_says : valid_section pat_of ≡ Some (Pat 1 (flat_map pat_entry (pair.one ∷ pair.two ∷ [])))
  pat_says = ap valid_section (sym (append-nil pat_of)) ∙ pat_again (pair.one ∷ pair.two ∷ []) [] (omega arith)

  one_named : pmt_in pair.one.number pat_of ≡ Some pair.one.pmt
  one_named =
      ap (named_by (pmt_named pair.one.number)) pat_says
      ∙ listed_one pair.one pair.two are.fit.0 are.fit.1 (omega (arith, are.most.0))

  two_named : pmt_in pair.two.number pat_of ≡ Some pair.two.pmt
  two_named =
      ap (named_by (pmt_named pair.two.number)) pat_says
      ∙ listed_two pair.one pair.two are.fit.0 are.fit.1 (omega (arith, are.most.2)) are.numbers

  one_is : IsService pair.one
  one_is =
      record {
        number_fits = are.fit.0;
        pmt_fits = omega (arith, are.most.0);
        pid_fits = omega (arith, are.most.1);
        language_fits = are.languages.0;
      }

  two_is : IsService pair.two
  two_is =
      record {
        number_fits = are.fit.1;
        pmt_fits = omega (arith, are.most.2);
        pid_fits = omega (arith, are.most.3);
        language_fits = are.languages.1;
      }

  one_section_at : sections_at pair.one.pmt [] (turn_packet pair 0 1) ≡ written_pmt pair.one ∷ []
  unfolding hand_behind
  one_section_at =
      one_section pair.one.pmt 0 _ _ [] (omega (arith, are.most.0))
      (pmt_fits pair.one.number pair.one.pmt pair.one.pid pair.one.page pair.one.language are.languages.0) refl
      (whole_pmt pair.one (replicate (183 - length (written_pmt pair.one)) 255) one_is) refl refl

  -- the first PMT is passed by on the way to the second one
  past_one : nat_eq (pid_of (turn_packet pair 0 1)) pair.two.pmt ≡ false
  past_one =
      ne_eqb _ _
      (λ same. are.first.1
      (sym (table_pid pair.one.pmt (written_pmt pair.one) 0 (omega (arith, are.most.0))) ∙ same))

  two_section_at : sections_at pair.two.pmt (turn_packet pair 0 1 ∷ []) (turn_packet pair 0 2)
      ≡ written_pmt pair.two ∷ []
  two_section_at =
      one_section pair.two.pmt 0 _ _ (turn_packet pair 0 1 ∷ []) (omega (arith, are.most.2))
      (pmt_fits pair.two.number pair.two.pmt pair.two.pid pair.two.page pair.two.language are.languages.1) refl
      (whole_pmt pair.two (replicate (183 - length (written_pmt pair.two)) 255) two_is)
      (other_last pair.two.pmt (turn_packet pair 0 1) past_one [])
      (other_hand pair.two.pmt (turn_packet pair 0 1) past_one [] ∙ nothing_in_hand pair.two.pmt)

  says_one : pid_in pair.one.number (written_pmt pair.one) ≡ Some pair.one.pid
  says_one = ap (pid_in pair.one.number) (sym (append-nil (written_pmt pair.one))) ∙ pmt_again pair.one [] one_is

  says_two : pid_in pair.two.number (written_pmt pair.two) ≡ Some pair.two.pid
  says_two = ap (pid_in pair.two.number) (sym (append-nil (written_pmt pair.two))) ∙ pmt_again pair.two [] two_is

  one_subtitles : (n : ℕ)
      → subtitles_of pair.one.number (frames_of pair first second n)
      ≡ Some (pair.one.pid, turn_packet pair 0 2 ∷ rest_of n)
  unfolding frames_of subtitles_of
  one_subtitles n =
      ap (option_and_then (λ (table : Named). first_in (pid_in pair.one.number) table.0 table.1))
      (named_here (pmt_in pair.one.number) 0 pair.one.pmt []
      (turn_packet pair 0 1 ∷ turn_packet pair 0 2 ∷ rest_of n) (turn_packet pair 0 0) pat_of pat_section
      one_named)
      ∙ named_here (pid_in pair.one.number) pair.one.pmt pair.one.pid [] (turn_packet pair 0 2 ∷ rest_of n)
      (turn_packet pair 0 1) (written_pmt pair.one) one_section_at says_one

  two_subtitles : (n : ℕ)
      → subtitles_of pair.two.number (frames_of pair first second n) ≡ Some (pair.two.pid, rest_of n)
  unfolding frames_of subtitles_of
  two_subtitles n =
      ap (option_and_then (λ (table : Named). first_in (pid_in pair.two.number) table.0 table.1))
      (named_here (pmt_in pair.two.number) 0 pair.two.pmt []
      (turn_packet pair 0 1 ∷ turn_packet pair 0 2 ∷ rest_of n) (turn_packet pair 0 0) pat_of pat_section
      two_named)
      ∙ named_later (pid_in pair.two.number) pair.two.pmt [] (turn_packet pair 0 2 ∷ rest_of n)
      (turn_packet pair 0 1) (other_sections pair.two.pmt (turn_packet pair 0 1) past_one [])
      ∙ named_here (pid_in pair.two.number) pair.two.pmt pair.two.pid (turn_packet pair 0 1 ∷ []) (rest_of n)
      (turn_packet pair 0 2) (written_pmt pair.two) two_section_at says_two

  one_frame : (frame : ℕ)
      → filter (of_pid pair.one.pid) (frame_of pair first second frame) ≡ keep pair.one.pid (slice_get first frame)
  one_frame frame =
      let pid = pair.one.pid in
      let no_null : pid ≢ 8191 = λ same. omega (arith, same, are.most.1) in
      let turn =
      turn_other pair pid (1 + frame / 128) (frame % 128) (omega (arith, are.most.0)) (omega (arith, are.most.2))
      (λ same. omega (arith, same, are.least.1)) (λ same. are.first.0 (sym same)) are.second.0 no_null in
      dropped pid (turn_packet pair (1 + frame / 128) (frame % 128))
      (service_packet pair.one first frame ∷ service_packet pair.two second frame ∷ []) turn
      ∙ own pid no_null (service_packet pair.two second frame ∷ []) (slice_get first frame)
      ∙ ap (λ (rest : List (List ℕ)). keep pid (slice_get first frame) ++ rest)
      (others pid no_null [] pair.two.pid (λ same. are.second.1 (sym same)) (slice_get second frame))
      ∙ append-nil (keep pid (slice_get first frame))

  two_frame : (frame : ℕ)
      → filter (of_pid pair.two.pid) (frame_of pair first second frame) ≡ keep pair.two.pid (slice_get second frame)
  two_frame frame =
      let pid = pair.two.pid in
      let no_null : pid ≢ 8191 = λ same. omega (arith, same, are.most.3) in
      let turn =
      turn_other pair pid (1 + frame / 128) (frame % 128) (omega (arith, are.most.0)) (omega (arith, are.most.2))
      (λ same. omega (arith, same, are.least.3)) (λ same. are.first.2 (sym same))
      (λ same. are.second.2 (sym same)) no_null in
      dropped pid (turn_packet pair (1 + frame / 128) (frame % 128))
      (service_packet pair.one first frame ∷ service_packet pair.two second frame ∷ []) turn
      ∙ others pid no_null (service_packet pair.two second frame ∷ []) pair.one.pid are.second.1
      (slice_get first frame)
      ∙ own pid no_null [] (slice_get second frame)
      ∙ append-nil (keep pid (slice_get second frame))

  -- what the frames have of a service
  one_kept : (n : ℕ) → length first ≤ n
      → filter (of_pid pair.one.pid) (rest_of n) ≡ filter (of_pid pair.one.pid) first
  one_kept n few =
      filter_flat (of_pid pair.one.pid) (frame_of pair first second) n 0 ∙ same_flat _ _ one_frame n 0
      ∙ kept_all pair.one.pid first n few

  two_kept : (n : ℕ) → length second ≤ n
      → filter (of_pid pair.two.pid) (rest_of n) ≡ filter (of_pid pair.two.pid) second
  two_kept n few =
      filter_flat (of_pid pair.two.pid) (frame_of pair first second) n 0 ∙ same_flat _ _ two_frame n 0
      ∙ kept_all pair.two.pid second n few

  pub one_again : taken_of pair.one.number (mux_of pair first second) ≡ filter (of_pid pair.one.pid) first
  one_again =
      ap taken_by (one_subtitles (max (length first) (length second)))
      ∙ dropped pair.one.pid (turn_packet pair 0 2) (rest_of (max (length first) (length second)))
      (ne_eqb _ _
      (λ same. are.second.0
      (sym (sym (table_pid pair.two.pmt (written_pmt pair.two) 0 (omega (arith, are.most.2))) ∙ same))))
      ∙ one_kept (max (length first) (length second)) (omega arith)

  pub two_again : taken_of pair.two.number (mux_of pair first second) ≡ filter (of_pid pair.two.pid) second
  two_again =
      ap taken_by (two_subtitles (max (length first) (length second)))
      ∙ two_kept (max (length first) (length second)) (omega arith)
