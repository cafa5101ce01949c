-- A list of programmes, each of which looks for its PMT.
use Rattle.std.proofs.Common.{◌≡◌, ◌≢◌, ◌∙◌, Bool, true, false, not, ◌&&◌, ◌||◌, None, Some, is_some, ℕ, suc, ◌+◌, ◌<◌, ◌≤◌, ◌⊎◌, List, [], ◌∷◌, ◌++◌, length, length-append, length-set, map, get_or, set, Option, inl, inr, refl, sym, ap, subst, arith}
use Rattle.std.proofs.lemmas.List.{get_or-set_other, get_or-set_same, get_or_append_left}
use Rattle.std.proofs.Math.Seq.{get_or-append_seam, map-set_same}
use Rattle.sub_base.specs.Lists.{first_given}
use Rattle.section_reader.specs.Sections.{sections_of}
use Rattle.service_tables.specs.Reading.{HasCome, HasReadMap, HaveReadMaps, ProgrammeReading, entry_of, map_of, no_programme}
use Rattle.service_tables.specs.Tables.{ProgrammeMap, wanted_in, with_map}
use Rattle.service_tables.specs.declared.first_section.Table.{Table}

-- ---- one programme more

pub none_read : (packets : List (List ℕ)) → HaveReadMaps [] packets
none_read packets = λ k below. absurd (omega arith)

pub one_more_read : (programmes : List ProgrammeReading) (made : ProgrammeReading) (packets : List (List ℕ))
    → HaveReadMaps programmes packets → HasReadMap made packets
    → HaveReadMaps (programmes ++ made ∷ []) packets
one_more_read programmes made packets have has = λ k below.
    by k below (nat_cases k)
  where
    nat_cases : (k : ℕ) → (k < length programmes) ⊎ (length programmes ≤ k)
    nat_cases k = grind arith

    by : (k : ℕ) → k < length (programmes ++ made ∷ []) → (k < length programmes) ⊎ (length programmes ≤ k)
        → HasReadMap (get_or (programmes ++ made ∷ []) k no_programme) packets
    by k below (inl inside) =
        subst (λ (p : ProgrammeReading). HasReadMap p packets)
        (sym (get_or_append_left programmes (made ∷ []) no_programme k inside)) (have k inside)
    by k below (inr outside) =
        let at : length programmes ≡ k = omega (arith, length-append programmes (made ∷ [])) in
        subst (λ (i : ℕ). HasReadMap (get_or (programmes ++ made ∷ []) i no_programme) packets) at
        (subst (λ (p : ProgrammeReading). HasReadMap p packets)
        (sym (get_or-append_seam programmes made [] no_programme)) has)

-- ---- each is fed

-- a programme was fed that packet
pub record IsFed (old new : ProgrammeReading) (packet : List ℕ) : Type 0 where
  pub entry : entry_of new ≡ entry_of old
  pub read : (packets : List (List ℕ)) → HasReadMap old packets → HasReadMap new (packets ++ packet ∷ [])

-- so many of them were
pub record AreFed (old new : List ProgrammeReading) (count : ℕ) (packet : List ℕ) : Type 0 where
  pub same : length new ≡ length old
  pub entries : map entry_of new ≡ map entry_of old
  pub fed : (k : ℕ) → k < count → IsFed (get_or old k no_programme) (get_or new k no_programme) packet
  pub left : (k : ℕ) → count ≤ k → get_or new k no_programme ≡ get_or old k no_programme

pub none_fed : (programmes : List ProgrammeReading) (packet : List ℕ) → AreFed programmes programmes 0 packet
none_fed programmes packet = record {
  same = refl;
  entries = refl;
  fed = λ k below. absurd (omega arith);
  left = λ k from. refl;
}

pub one_more_fed : (old new : List ProgrammeReading) (count : ℕ) (packet : List ℕ) (fed : ProgrammeReading)
    → AreFed old new count packet → count < length new
    → IsFed (get_or new count no_programme) fed packet
    → AreFed old (set new count fed) (count + 1) packet
one_more_fed old new count packet fed are below is = record {
  same = length-set new count fed ∙ are.same;
  entries = map-set_same entry_of new count fed no_programme is.entry ∙ are.entries;
  fed = λ k less. by k less (nat_cases k);
  left = λ k from.
      get_or-set_other new count k fed no_programme (λ e. absurd (omega (arith, e, from)))
      ∙ are.left k (omega (arith, from));
}
  where
    nat_cases : (k : ℕ) → (k < count) ⊎ (count ≤ k)
    nat_cases k = grind arith

    by : (k : ℕ) → k < count + 1 → (k < count) ⊎ (count ≤ k)
        → IsFed (get_or old k no_programme) (get_or (set new count fed) k no_programme) packet
    by k less (inl earlier) =
        subst (λ (p : ProgrammeReading). IsFed (get_or old k no_programme) p packet)
        (sym (get_or-set_other new count k fed no_programme (λ e. absurd (omega (arith, e, earlier)))))
        (are.fed k earlier)
    by k less (inr at) =
        let is_count : count ≡ k = omega (arith, less, at) in
        subst (λ (i : ℕ). IsFed (get_or old i no_programme) (get_or (set new count fed) i no_programme) packet)
        is_count
        (subst (λ (p : ProgrammeReading). IsFed (get_or old count no_programme) p packet)
        (sym (get_or-set_same new count fed no_programme below))
        (subst (λ (p : ProgrammeReading). IsFed p fed packet) (are.left count (omega arith)) is))

pub all_fed : (old new : List ProgrammeReading) (count : ℕ) (packet : List ℕ) → AreFed old new count packet
    → length new ≤ count → (packets : List (List ℕ)) → HaveReadMaps old packets
    → HaveReadMaps new (packets ++ packet ∷ [])
all_fed old new count packet are all packets have = λ k below.
    (are.fed k (omega (arith, all, below))).read packets (have k (omega (arith, below, are.same)))

-- where no PMT came, the programmes are as before
abbrev pub AreSame : Bool → List ProgrammeReading → List ProgrammeReading → Type 0
AreSame came old new = came ≡ false → (packets : List (List ℕ)) → HaveReadMaps old packets
    → map map_of new ≡ map map_of old

pub one_more_same : (old new : List ProgrammeReading) (count : ℕ) (packet : List ℕ) (fed : ProgrammeReading)
    (came one : Bool) → AreFed old new count packet → AreSame came old new → count < length new
    → (one ≡ false → (packets : List (List ℕ)) → HasReadMap (get_or new count no_programme) packets
    → map_of fed ≡ map_of (get_or new count no_programme))
    → AreSame (came || one) old (set new count fed)
one_more_same old new count packet fed came one are same below is none packets have =
    let apart = neither came one none in
    let here : HasReadMap (get_or new count no_programme) packets =
    subst (λ (p : ProgrammeReading). HasReadMap p packets) (sym (are.left count (omega arith)))
    (have count (omega (arith, below, are.same))) in
    map-set_same map_of new count fed no_programme (is apart.1 packets here) ∙ same apart.0 packets have
  where
    neither : (a b : Bool) → (a || b) ≡ false → (a ≡ false) × (b ≡ false)
    neither false false none = (refl, refl)
    neither false true none = absurd cc
    neither true b none = absurd cc

-- the PMT of one has come, if that is so
abbrev pub AreCome : Bool → List ProgrammeReading → List ProgrammeReading → Type 0
AreCome came old new = came ≡ true → HasCome old new

pub one_more_come : (old new : List ProgrammeReading) (count : ℕ) (packet : List ℕ) (fed : ProgrammeReading)
    (came one : Bool) → AreFed old new count packet → AreCome came old new → count < length new
    → one ≡ (not (is_some (get_or new count no_programme).map.section) && is_some fed.map.section)
    → AreCome (came || one) old (set new count fed)
one_more_come old new count packet fed true one are before below is some =
    let has = before refl in
    let other : has.place ≢ count = λ at.
    let here : get_or new has.place no_programme ≡ get_or old has.place no_programme =
    are.left has.place (omega (arith, at)) in
    found_or_not _ (ap (λ (p : ProgrammeReading). p.map.section) here ∙ has.missing) has.found in
    record {
      place = has.place;
      there = has.there;
      missing = has.missing;
      found = ap (λ (p : ProgrammeReading). is_some p.map.section)
          (get_or-set_other new count has.place fed no_programme other)
          ∙ has.found;
    }
  where
    found_or_not : (section : Option (List ℕ)) → section ≡ None → is_some section ≡ true → ⊥
    found_or_not None none found = absurd cc
    found_or_not (Some bytes) none found = absurd cc
one_more_come old new count packet fed false one are before below is some =
    let both = come _ _ (sym is ∙ some) in
    record {
      place = count;
      there = omega (arith, below, are.same);
      missing = ap (λ (p : ProgrammeReading). p.map.section) (sym (are.left count (omega arith))) ∙ both.0;
      found = ap (λ (p : ProgrammeReading). is_some p.map.section) (get_or-set_same new count fed no_programme below)
          ∙ both.1;
    }
  where
    come : (before after : Option (List ℕ)) → (not (is_some before) && is_some after) ≡ true
        → (before ≡ None) × (is_some after ≡ true)
    come None after is_both = (refl, is_both)
    come (Some bytes) after is_both = absurd cc

-- ---- what they stand for

one_map : (programme : ProgrammeReading) (packets : List (List ℕ)) → HasReadMap programme packets
    → with_map packets (entry_of programme) ≡ map_of programme
one_map programme packets has =
    ap (λ (section : Option (List ℕ)). record {
      number = programme.number;
      pid = programme.sections.pid;
      section = section;
    })
    (sym (has.read.taken
    ∙ ap (λ (t : Table). first_given (wanted_in t) (sections_of programme.sections.pid packets)) has.table))

pub maps_of : (programmes : List ProgrammeReading) (packets : List (List ℕ)) → HaveReadMaps programmes packets
    → map (with_map packets) (map entry_of programmes) ≡ map map_of programmes
maps_of [] packets have = refl
maps_of (p ∷ programmes) packets have =
    ap (λ (m : ProgrammeMap). m ∷ map (with_map packets) (map entry_of programmes))
    (one_map p packets (have 0 (omega arith)))
    ∙ ap (λ (l : List ProgrammeMap). map_of p ∷ l)
    (maps_of programmes packets (λ k below. have (suc k) (omega (arith, below))))
