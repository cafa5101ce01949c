-- The units of a list with one more packet at its end.
use Rattle.std.proofs.Common.{◌≡◌, ℕ, Bool, true, false, cond, ◌&&◌, ◌||◌, not, List, [], ◌∷◌, ◌++◌, map, reverse, Option, Some, None, refl, sym, ap, ◌∙◌, append_assoc}
use Rattle.std.specs.Prelude.{find}
use Rattle.std.specs.Option.{option_map}
use Rattle.std.specs.List.{list_any, list_all, filter_map, cons_option}
use Rattle.std.proofs.lemmas.List.{append-nil, reverse-append, map-append}
use Rattle.stream_syntax.specs.TransportPackets.{counter_of}
use Rattle.sub_base.specs.Lists.{prefixes}
use Rattle.stream_syntax.specs.Units.{is_payload, last_counter, UnitPart, Begins, Adds, Breaks, part_of, each_after, parts_of, begins_unit, breaks_unit, bytes_in, fate_of, is_waiting, last_unit, gathered, stays_in_hand, unit_in_hand, hand_after, joined}
use Rattle.ts_packets.specs.Demuxing.{kept, next_hand}

-- ---- what is told of each packet

pub each_after_push : {X : Type 0} (f : List (List ℕ) → List ℕ → X) (before packets : List (List ℕ))
    (packet : List ℕ)
    → each_after f before (packets ++ packet ∷ []) ≡ each_after f before packets ++ f (before ++ packets) packet
    ∷ []
each_after_push f before [] packet = ap (λ xs. f xs packet ∷ []) (sym (append-nil before))
each_after_push f before (first ∷ packets) packet =
    ap (λ xs. f before first ∷ xs)
    (each_after_push f (before ++ first ∷ []) packets packet
    ∙ ap (λ xs. each_after f (before ++ first ∷ []) packets ++ f xs packet ∷ [])
    (append_assoc before (first ∷ []) packets))

filter_map_push : {X : Type 0} (items : List (Option X)) (item : Option X)
    → filter_map (λ x. x) (items ++ item ∷ []) ≡ filter_map (λ x. x) items ++ cons_option item []
filter_map_push [] None = refl
filter_map_push [] (Some x) = refl
filter_map_push (None ∷ items) item = filter_map_push items item
filter_map_push (Some x ∷ items) item = ap (λ xs. x ∷ xs) (filter_map_push items item)

pub parts_push : (pid : ℕ) (packets : List (List ℕ)) (packet : List ℕ)
    → parts_of pid (packets ++ packet ∷ []) ≡ parts_of pid packets ++ cons_option (part_of pid packets packet) []
unfolding parts_of
parts_push pid packets packet =
    ap (λ items. filter_map (λ x. x) items) (each_after_push (part_of pid) [] packets packet)
    ∙ filter_map_push (each_after (part_of pid) [] packets) (part_of pid packets packet)

-- ---- the last beginning

list_any_push : {X : Type 0} (test : X → Bool) (items : List X) (item : X)
    → list_any test (items ++ item ∷ []) ≡ (list_any test items || test item)
list_any_push test [] item = last (test item)
  where
    last : (b : Bool) → (b || false) ≡ b
    last true = refl
    last false = refl
list_any_push test (first ∷ items) item = either (test first) _ _ _ (list_any_push test items item)
  where
    either : (b c d e : Bool) → c ≡ (d || e) → (b || c) ≡ ((b || d) || e)
    either true c d e same = refl
    either false c d e same = same

list_all_push : {X : Type 0} (test : X → Bool) (items : List X) (item : X)
    → list_all test (items ++ item ∷ []) ≡ (list_all test items && test item)
list_all_push test [] item = last (test item)
  where
    last : (b : Bool) → (b && true) ≡ b
    last true = refl
    last false = refl
list_all_push test (first ∷ items) item = both (test first) _ _ _ (list_all_push test items item)
  where
    both : (b c d e : Bool) → c ≡ (d && e) → (b && c) ≡ ((b && d) && e)
    both true c d e same = same
    both false c d e same = refl

-- the parts of a unit with one more, where there is a unit
abbrev extended : List UnitPart → UnitPart → List UnitPart
extended [] part = []
extended (first ∷ parts) part = (first ∷ parts) ++ part ∷ []

last_unit_push : (parts : List UnitPart) (part : UnitPart)
    → last_unit (parts ++ part ∷ []) ≡ cond (begins_unit part) (part ∷ []) (extended (last_unit parts) part)
last_unit_push [] part = refl
last_unit_push (first ∷ parts) part =
    ap (λ any. cond any (last_unit (parts ++ part ∷ []))
    (cond (begins_unit first) (first ∷ (parts ++ part ∷ [])) [])) (list_any_push begins_unit parts part)
    ∙ one_more (list_any begins_unit parts) (begins_unit part) (begins_unit first) (last_unit_push parts part)
  where
    one_more : (any last now : Bool)
        → last_unit (parts ++ part ∷ []) ≡ cond last (part ∷ []) (extended (last_unit parts) part)
        → cond (any || last) (last_unit (parts ++ part ∷ [])) (cond now (first ∷ (parts ++ part ∷ [])) [])
        ≡ cond last (part ∷ []) (extended (cond any (last_unit parts) (cond now (first ∷ parts) [])) part)
    one_more true last now e = e
    one_more false true now e = e
    one_more false false true e = refl
    one_more false false false e = refl

-- ---- the unit in hand

fronts_push : (parts : List UnitPart) (part : UnitPart)
    → prefixes (parts ++ part ∷ []) ≡ prefixes parts ++ (parts ++ part ∷ []) ∷ []
fronts_push [] part = refl
fronts_push (first ∷ parts) part =
    ap (λ xs. (first ∷ []) ∷ map (λ (front : List UnitPart). first ∷ front) xs) (fronts_push parts part)
    ∙ ap (λ xs. (first ∷ []) ∷ xs)
    (map-append (λ (front : List UnitPart). first ∷ front) (prefixes parts) ((parts ++ part ∷ []) ∷ []))

gathered_push : (parts : List UnitPart) (part : UnitPart)
    → gathered (parts ++ part ∷ []) ≡ gathered parts ++ bytes_in part
gathered_push [] part = append-nil (bytes_in part)
gathered_push (first ∷ parts) part =
    ap (λ xs. bytes_in first ++ xs) (gathered_push parts part)
    ∙ sym (append_assoc (bytes_in first) (gathered parts) (bytes_in part))

-- a prefix of a unit waits for more
abbrev waits : ℕ → List UnitPart → Bool
waits size front = is_waiting (fate_of size (gathered front))

stays_push : (size : ℕ) (unit : List UnitPart) (part : UnitPart) → stays_in_hand size (unit ++ part ∷ [])
    ≡ ((list_all (λ p. not (breaks_unit p)) unit && not (breaks_unit part))
    && (list_all (waits size) (prefixes unit) && is_waiting (fate_of size (gathered unit ++ bytes_in part))))
unfolding stays_in_hand
stays_push size unit part =
    ap (λ sound. sound && list_all (waits size) (prefixes (unit ++ part ∷ [])))
    (list_all_push (λ p. not (breaks_unit p)) unit part)
    ∙ ap (λ waiting. (list_all (λ p. not (breaks_unit p)) unit && not (breaks_unit part)) && waiting)
    (ap (λ xs. list_all (waits size) xs) (fronts_push unit part)
    ∙ list_all_push (waits size) (prefixes unit) (unit ++ part ∷ [])
    ∙ ap (λ bytes. list_all (waits size) (prefixes unit) && is_waiting (fate_of size bytes))
    (gathered_push unit part))

hand_adds : (size : ℕ) (sound waiting : Bool) (bytes payload : List ℕ)
    → cond ((sound && true) && (waiting && is_waiting (fate_of size (bytes ++ payload)))) (Some (bytes ++ payload))
    None
    ≡ kept size (joined (cond (sound && waiting) (Some bytes) None) (Some (Adds payload)))
hand_adds size true true bytes payload = refl
hand_adds size true false bytes payload = refl
hand_adds size false waiting bytes payload = refl

hand_breaks : (sound waiting : Bool) (bytes : List ℕ)
    → cond ((sound && false) && waiting) (Some bytes) None ≡ None
hand_breaks true waiting bytes = refl
hand_breaks false waiting bytes = refl

extended_hand : (size : ℕ) (unit : List UnitPart) (part : UnitPart) → begins_unit part ≡ false
    → unit_in_hand size (extended unit part) ≡ kept size (joined (unit_in_hand size unit) (Some part))
unfolding stays_in_hand
extended_hand size unit (Begins payload) e = absurd cc
extended_hand size [] (Adds payload) e = refl
extended_hand size [] Breaks e = refl
extended_hand size (first ∷ rest) (Adds payload) e =
    ap (λ stays. cond stays (Some (gathered ((first ∷ rest) ++ Adds payload ∷ []))) None)
    (stays_push size (first ∷ rest) (Adds payload))
    ∙ ap (λ bytes. cond
    ((list_all (λ p. not (breaks_unit p)) (first ∷ rest) && true)
    && (list_all (waits size) (prefixes (first ∷ rest))
    && is_waiting (fate_of size (gathered (first ∷ rest) ++ payload)))) (Some bytes) None)
    (gathered_push (first ∷ rest) (Adds payload))
    ∙ hand_adds size (list_all (λ p. not (breaks_unit p)) (first ∷ rest))
    (list_all (waits size) (prefixes (first ∷ rest))) (gathered (first ∷ rest)) payload
extended_hand size (first ∷ rest) Breaks e =
    ap (λ stays. cond stays (Some (gathered ((first ∷ rest) ++ Breaks ∷ []))) None)
    (stays_push size (first ∷ rest) Breaks)
    ∙ hand_breaks (list_all (λ p. not (breaks_unit p)) (first ∷ rest))
    (list_all (waits size) (prefixes (first ∷ rest))
    && is_waiting (fate_of size (gathered (first ∷ rest) ++ []))) (gathered ((first ∷ rest) ++ Breaks ∷ []))

begun_hand : (size : ℕ) (payload : List ℕ)
    → unit_in_hand size (Begins payload ∷ []) ≡ kept size (Some payload)
unfolding stays_in_hand
begun_hand size payload =
    alone (is_waiting (fate_of size (payload ++ [])))
    ∙ ap (λ bytes. cond (is_waiting (fate_of size bytes)) (Some bytes) None) (append-nil payload)
  where
    alone : (b : Bool) → cond (true && (b && true)) (Some (payload ++ [])) None ≡ cond b (Some (payload ++ [])) None
    alone true = refl
    alone false = refl

one_part : (size : ℕ) (parts : List UnitPart) (part : UnitPart)
    → unit_in_hand size (last_unit (parts ++ part ∷ []))
    ≡ kept size (joined (unit_in_hand size (last_unit parts)) (Some part))
one_part size parts (Begins payload) =
    ap (unit_in_hand size) (last_unit_push parts (Begins payload)) ∙ begun_hand size payload
one_part size parts (Adds payload) =
    ap (unit_in_hand size) (last_unit_push parts (Adds payload))
    ∙ extended_hand size (last_unit parts) (Adds payload) refl
one_part size parts Breaks =
    ap (unit_in_hand size) (last_unit_push parts Breaks) ∙ extended_hand size (last_unit parts) Breaks refl

-- a packet of no part leaves the unit in hand, and one of a part adds to it, begins one or breaks it off
pub hand_push : (pid size : ℕ) (packets : List (List ℕ)) (packet : List ℕ)
    → hand_after pid size (packets ++ packet ∷ [])
    ≡ next_hand size (hand_after pid size packets) (part_of pid packets packet)
unfolding hand_after
hand_push pid size packets packet =
    ap (λ parts. unit_in_hand size (last_unit parts)) (parts_push pid packets packet)
    ∙ with_part (part_of pid packets packet)
  where
    with_part : (part : Option UnitPart)
        → unit_in_hand size (last_unit (parts_of pid packets ++ cons_option part []))
        ≡ next_hand size (unit_in_hand size (last_unit (parts_of pid packets))) part
    with_part None = ap (λ parts. unit_in_hand size (last_unit parts)) (append-nil (parts_of pid packets))
    with_part (Some part) = one_part size (parts_of pid packets) part

-- ---- the counter

pub counter_push : (pid : ℕ) (packets : List (List ℕ)) (packet : List ℕ)
    → last_counter pid (packets ++ packet ∷ [])
    ≡ cond (is_payload pid packet) (Some (counter_of packet)) (last_counter pid packets)
unfolding last_counter
counter_push pid packets packet =
    ap (λ back. option_map counter_of (find (is_payload pid) back)) (reverse-append packets (packet ∷ []))
    ∙ found (is_payload pid packet)
  where
    found : (b : Bool)
        → option_map counter_of (cond b (Some packet) (find (is_payload pid) (reverse packets)))
        ≡ cond b (Some (counter_of packet)) (option_map counter_of (find (is_payload pid) (reverse packets)))
    found true = refl
    found false = refl
