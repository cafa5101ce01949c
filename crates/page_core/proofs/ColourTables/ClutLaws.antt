-- The CLUTs of an epoch, with one more segment.
use Rattle.std.proofs.Common.{◌≡◌, ◌≢◌, ◌⊎◌, ◌∙◌, ℕ, suc, ◌+◌, ◌-◌, ◌==◌, ◌≤◌, ◌<◌, ◌||◌, Bool, true, false, cond, not, List, [], ◌∷◌, ◌++◌, find, length, map, reverse, Option, Some, None, option_map, refl, sym, ap, subst, arith, inl, inr, length-append}
use Rattle.std.specs.Prelude.{filter_map}
use Rattle.std.specs.List.{list_any, cons_option}
use Rattle.std.specs.Option.{is_some, option_or}
use Rattle.std.proofs.lemmas.Bool.{cases_eq, eq-eqb, eqb-true, ne_eqb}
use Rattle.std.proofs.lemmas.List.{length-map, length-reverse, map-append, reverse-append}
use Rattle.std.proofs.lemmas.List.Folds.{find-append}
use Rattle.sub_base.specs.Lists.{different}
use Rattle.stream_syntax.specs.Segments.{SegmentValue, of_page, of_region, of_clut, of_object, of_display, end_of_set, passed_over, Clut}
use Rattle.decoder_model.specs.Contents.{clut_in as value_clut, clut_named, clut_of, where_passes}
use Rattle.decoder_model.specs.Nodes.{clut_id, clut_ids, is_same, table_entries}
use Rattle.decoder_model.specs.Readings.{Content}
use Rattle.decoder_model.specs.Taken.{version_of_clut, has_new_version, is_taken, last_clut, taken_among, taken_of}
use Rattle.sub_base.specs.declared.colour.Colour.{Colour}
use Rattle.page_core.specs.Private.ClutSteps.{AreSetBy, HasColours, HasRoomFor, IsKeptBeside, IsKeptBut, SetsMore, entries_placed, placed_by, with_clut, with_cluts, with_entries_of, with_segment, with_version}
use Rattle.page_core.specs.Composition.{Composition, KeptClut, clut_in}
use Rattle.page_core.proofs.ColourTables.ClutNodes.{is_of_id, version_of}
use Rattle.page_core.proofs.ColourTables.ColourSteps.{more_in_entries, no_more_placed}
use Rattle.page_core.proofs.Counts.PixelRoom.{turned}
use Rattle.page_core.proofs.ColourTables.PlacedLaws.{placed_count}
use Rattle.page_core.proofs.Regions.Versions.{given_by}

-- ---- versions

not_new : (version : ℕ) (last : Option ℕ) → has_new_version version last ≡ false → last ≡ Some version
not_new version None is = absurd (cc)
not_new version (Some last) is = ap Some (eqb-true last version (by_not (last == version) is))
  where
    by_not : (b : Bool) → not b ≡ false → b ≡ true
    by_not true is = refl
    by_not false is = absurd (cc)

chosen : (id : ℕ) (v clut : Clut) (hit : Bool) → (v.clut == id) ≡ hit → cond hit (Some v) None ≡ Some clut
    → (v.clut ≡ id) × (v ≡ clut)
chosen id v clut true is found = (eqb-true v.clut id is, (cc))
chosen id v clut false is found = absurd (cc)

-- a CLUT segment that is not taken has the version of the last one before it
held_version : (id : ℕ) (earlier : List Content) (value : SegmentValue) (clut : Clut)
    → is_taken earlier value ≡ false → where_passes (λ c. c.clut == id) (value_clut value) ≡ Some clut
    → version_of_clut (last_clut id earlier) ≡ Some clut.version
held_version id earlier (of_clut v) clut held found =
    let both = chosen id v clut (v.clut == id) refl found in
    ap (λ n. version_of_clut (last_clut n earlier)) (sym both.0)
    ∙ not_new v.version (version_of_clut (last_clut v.clut earlier)) held
    ∙ ap (λ (c : Clut). Some c.version) both.1
held_version id earlier (of_page v) clut held found = absurd (cc)
held_version id earlier (of_region v) clut held found = absurd (cc)
held_version id earlier (of_object v) clut held found = absurd (cc)
held_version id earlier (of_display v) clut held found = absurd (cc)
held_version id earlier end_of_set clut held found = absurd (cc)
held_version id earlier passed_over clut held found = absurd (cc)

-- the last version of a CLUT is that of its last taken segment
pub clut_version_of_taken : (id : ℕ) (segments : List Content)
    → version_of_clut (last_clut id (taken_of segments).segments) ≡ version_of_clut (last_clut id segments)
unfolding taken_among
clut_version_of_taken id [] = refl
clut_version_of_taken id (segment ∷ earlier) =
    ap version_of_clut (given_by (clut_named id) segment (taken_among earlier) (is_taken earlier segment.value))
    ∙ one_more (clut_named id segment) (is_taken earlier segment.value) (last_clut id (taken_among earlier))
    (last_clut id earlier) (clut_version_of_taken id earlier)
    (λ held clut found. held_version id earlier segment.value clut held found)
  where
    one_more : (named : Option Clut) (taken : Bool) (kept rest : Option Clut)
        → version_of_clut kept ≡ version_of_clut rest
        → (taken ≡ false → (clut : Clut) → named ≡ Some clut → version_of_clut rest ≡ Some clut.version)
        → version_of_clut (cond taken (option_or named kept) kept) ≡ version_of_clut (option_or named rest)
    one_more None true kept rest same held = same
    one_more None false kept rest same held = same
    one_more (Some clut) true kept rest same held = refl
    one_more (Some clut) false kept rest same held = same ∙ held refl clut refl

-- a CLUT segment is taken, by the version that is known
pub clut_taken_by : (earlier : List Content) (content : Content) (clut : Clut) (known : Option ℕ)
    → of_clut clut ≡ content.value → known ≡ version_of_clut (last_clut clut.clut (taken_of earlier).segments)
    → is_taken earlier content.value ≡ has_new_version clut.version known
clut_taken_by earlier content clut known is by_known =
    ap (is_taken earlier) (sym is)
    ∙ ap (has_new_version clut.version) (sym (clut_version_of_taken clut.clut earlier) ∙ sym by_known)

pub taken_more : (content : Content) (earlier : List Content) → is_taken earlier content.value ≡ true
    → taken_among (content ∷ earlier) ≡ content ∷ taken_among earlier
unfolding taken_among
taken_more content earlier is = ap (λ b. cond b (content ∷ taken_among earlier) (taken_among earlier)) is

pub taken_same : (content : Content) (earlier : List Content) → is_taken earlier content.value ≡ false
    → taken_among (content ∷ earlier) ≡ taken_among earlier
unfolding taken_among
taken_same content earlier is = ap (λ b. cond b (content ∷ taken_among earlier) (taken_among earlier)) is

-- ---- ids

-- an id is among those of CLUTs, where there is a last CLUT of that id
clut_among : (id : ℕ) (segments : List Content)
    → list_any (is_same id) (map clut_id (filter_map clut_of segments)) ≡ is_some (last_clut id segments)
clut_among id [] = refl
clut_among id (content ∷ segments) = by (clut_among id segments) (value_clut content.value)
  where
    hit : (clut : Clut) (b : Bool) (rest : Bool) (last : Option Clut) → rest ≡ is_some last
        → (b || rest) ≡ is_some (option_or (cond b (Some clut) None) last)
    hit clut true rest last same = refl
    hit clut false rest last same = same

    by : list_any (is_same id) (map clut_id (filter_map clut_of segments)) ≡ is_some (last_clut id segments)
        → (found : Option Clut)
        → list_any (is_same id) (map clut_id (cons_option found (filter_map clut_of segments)))
        ≡ is_some (option_or (where_passes (λ clut. clut.clut == id) found) (last_clut id segments))
    by rest None = rest
    by rest (Some clut) =
        ap (λ b. b || list_any (is_same id) (map clut_id (filter_map clut_of segments))) (turned id clut.clut)
        ∙ hit clut (clut.clut == id) (list_any (is_same id) (map clut_id (filter_map clut_of segments)))
        (last_clut id segments) rest

pub clut_ids_with : (content : Content) (clut : Clut) (segments : List Content) → clut_of content ≡ Some clut
    → clut_ids (record { segments = content ∷ segments })
    ≡ cond (is_some (last_clut clut.clut segments)) (clut_ids (record { segments = segments }))
    (clut.clut ∷ clut_ids (record { segments = segments }))
unfolding clut_ids
clut_ids_with content clut segments is =
    ap (λ (found : Option Clut). different is_same (map clut_id (cons_option found (filter_map clut_of segments)))) is
    ∙ ap (λ b. cond b (different is_same (map clut_id (filter_map clut_of segments)))
    (clut.clut ∷ different is_same (map clut_id (filter_map clut_of segments)))) (clut_among clut.clut segments)

-- ---- with a version

version_some : (o : Option KeptClut) (last : Option Clut) → option_map version_of o ≡ version_of_clut last
    → is_some o ≡ is_some last
version_some None None is = refl
version_some (Some kept) (Some last) is = refl
version_some None (Some last) is = absurd (cc)
version_some (Some kept) None is = absurd (cc)

ids_with_version : (id version : ℕ) (cluts : List KeptClut)
    → map (λ (kept : KeptClut). kept.clut) (with_version id version cluts)
    ≡ map (λ (kept : KeptClut). kept.clut) cluts
ids_with_version id version [] = refl
ids_with_version id version (kept ∷ cluts) = by (kept.clut == id) refl (ids_with_version id version cluts)
  where
    by : (b : Bool) → (kept.clut == id) ≡ b
        → map (λ (kept : KeptClut). kept.clut) (with_version id version cluts)
        ≡ map (λ (kept : KeptClut). kept.clut) cluts
        → map (λ (kept : KeptClut). kept.clut)
        (cond b (record { clut = id; version = version } ∷ cluts) (kept ∷ with_version id version cluts))
        ≡ kept.clut ∷ map (λ (kept : KeptClut). kept.clut) cluts
    by true is rest = ap (λ n. n ∷ map (λ (kept : KeptClut). kept.clut) cluts) (sym (eqb-true kept.clut id is))
    by false is rest = ap (λ ns. kept.clut ∷ ns) rest

pub count_with_version : (id version : ℕ) (cluts : List KeptClut)
    → length (with_version id version cluts) ≡ length cluts
count_with_version id version cluts =
    sym (length-map (with_version id version cluts) (λ (kept : KeptClut). kept.clut))
    ∙ ap length (ids_with_version id version cluts) ∙ length-map cluts (λ (kept : KeptClut). kept.clut)

-- what is found by an id, where the version of one is changed
found_with_version : (id version asked : ℕ) (cluts : List KeptClut) → is_some (find (is_of_id id) cluts) ≡ true
    → option_map version_of (find (is_of_id asked) (with_version id version cluts))
    ≡ cond (id == asked) (Some version) (option_map version_of (find (is_of_id asked) cluts))
found_with_version id version asked [] some = absurd (cc)
found_with_version id version asked (kept ∷ cluts) some =
    by (kept.clut == id) refl some (found_with_version id version asked cluts)
  where
    by : (b : Bool) → (kept.clut == id) ≡ b → is_some (cond b (Some kept) (find (is_of_id id) cluts)) ≡ true
        → (is_some (find (is_of_id id) cluts) ≡ true
        → option_map version_of (find (is_of_id asked) (with_version id version cluts))
        ≡ cond (id == asked) (Some version) (option_map version_of (find (is_of_id asked) cluts)))
        → option_map version_of
        (find (is_of_id asked)
        (cond b (record { clut = id; version = version } ∷ cluts) (kept ∷ with_version id version cluts)))
        ≡ cond (id == asked) (Some version)
        (option_map version_of (cond (kept.clut == asked) (Some kept) (find (is_of_id asked) cluts)))
    by true is some rest = first (id == asked) (kept.clut == asked) (ap (λ n. n == asked) (eqb-true kept.clut id is))
      where
        first : (hit other : Bool) → other ≡ hit
            → option_map version_of
            (cond hit (Some (record { clut = id; version = version })) (find (is_of_id asked) cluts))
            ≡ cond hit (Some version) (option_map version_of (cond other (Some kept) (find (is_of_id asked) cluts)))
        first true other same = refl
        first false true same = absurd (cc)
        first false false same = refl
    by false is some rest = later (kept.clut == asked) (id == asked) refl refl (rest some)
      where
        later : (hit here : Bool) → (kept.clut == asked) ≡ hit → (id == asked) ≡ here
            → option_map version_of (find (is_of_id asked) (with_version id version cluts))
            ≡ cond here (Some version) (option_map version_of (find (is_of_id asked) cluts))
            → option_map version_of (cond hit (Some kept) (find (is_of_id asked) (with_version id version cluts)))
            ≡ cond here (Some version)
            (option_map version_of (cond hit (Some kept) (find (is_of_id asked) cluts)))
        later true true same at e =
            absurd (let yes : (kept.clut == id)
            ≡ true = eq-eqb kept.clut id (eqb-true kept.clut asked same ∙ sym (eqb-true id asked at)) in cc)
        later true false same at e = refl
        later false here same at e = e

-- and where one more is behind them
found_with_more : (id version asked : ℕ) (cluts : List KeptClut) → is_some (find (is_of_id id) cluts) ≡ false
    → option_map version_of (find (is_of_id asked) (cluts ++ record { clut = id; version = version } ∷ []))
    ≡ cond (id == asked) (Some version) (option_map version_of (find (is_of_id asked) cluts))
found_with_more id version asked cluts none =
    ap (option_map version_of) (find-append (is_of_id asked) cluts (record { clut = id; version = version } ∷ []))
    ∙ by (id == asked) (find (is_of_id asked) cluts)
    (λ at. no_some (find (is_of_id asked) cluts)
    (ap (λ n. is_some (find (is_of_id n) cluts)) (sym (eqb-true id asked at)) ∙ none))
  where
    no_some : {X : Type 0} (o : Option X) → is_some o ≡ false → o ≡ None
    no_some None is = refl
    no_some (Some x) is = absurd (cc)

    by : (hit : Bool) (found : Option KeptClut) → (hit ≡ true → found ≡ None)
        → option_map version_of (option_or found (cond hit (Some (record { clut = id; version = version })) None))
        ≡ cond hit (Some version) (option_map version_of found)
    by true None none = refl
    by true (Some kept) none = absurd (let e = none refl in cc)
    by false None none = refl
    by false (Some kept) none = refl

-- ---- what a CLUT changes in the composition memory

pub kept_with_clut : (id version : ℕ) (old mid new : Composition) → mid ≡ with_clut id version old
    → IsKeptBut mid new → IsKeptBeside old new
kept_with_clut id version old mid new is kept = by (is_some (clut_in old id)) (old.free == 0) refl is
  where
    kept_by : (before : Composition) → before.size ≡ old.size → before.entries ≡ old.entries
        → before.regions ≡ old.regions → before.set_entries ≡ old.set_entries
        → before.free + length before.cluts ≡ old.free + length old.cluts → mid ≡ before
        → IsKeptBeside old new
    kept_by before size entries regions set total same = record {
      size = kept.size ∙ ap (λ (c : Composition). c.size) same ∙ size;
      entries = kept.entries ∙ ap (λ (c : Composition). c.entries) same ∙ entries;
      regions = kept.regions ∙ ap (λ (c : Composition). c.regions) same ∙ regions;
      total =
          let cluts : length new.cluts ≡ length before.cluts =
          ap length (kept.cluts ∙ ap (λ (c : Composition). c.cluts) same) in
          let entries : length mid.set_entries ≡ length old.set_entries =
          ap length (ap (λ (c : Composition). c.set_entries) same ∙ set) in
          let free : mid.free ≡ before.free = ap (λ (c : Composition). c.free) same in
          omega (arith, kept.total, cluts, entries, free, total);
    }

    by : (known full : Bool) → (old.free == 0) ≡ full
        → mid ≡ cond known (with_cluts (with_version id version old.cluts) old.free old)
        (cond full old
        (with_cluts (old.cluts ++ record { clut = id; version = version } ∷ []) (old.free - 1) old))
        → IsKeptBeside old new
    by true full at same =
        kept_by (with_cluts (with_version id version old.cluts) old.free old) refl refl refl refl
        (ap (λ n. old.free + n) (count_with_version id version old.cluts)) same
    by false true at same = kept_by old refl refl refl refl refl same
    by false false at same =
        kept_by (with_cluts (old.cluts ++ record { clut = id; version = version } ∷ []) (old.free - 1) old) refl refl
        refl refl (one_more (cases_eq old.free 0)) same
      where
        one_more : (old.free ≡ 0) ⊎ (old.free ≢ 0)
            → old.free - 1 + length (old.cluts ++ record { clut = id; version = version } ∷ [])
            ≡ old.free + length old.cluts
        one_more (inl none) = absurd (let yes = eq-eqb old.free 0 none in cc)
        one_more (inr some) =
            omega (arith, some, length-append old.cluts (record { clut = id; version = version } ∷ []))

pub kept_as_it_was : (old : Composition) → IsKeptBeside old old
kept_as_it_was old = record { size = refl; entries = refl; regions = refl; total = refl }

-- ---- a segment that is not taken

pub colours_held : (earlier : List Content) (content : Content) (composition : Composition) (inks : List Colour)
    → is_taken earlier content.value ≡ false → HasColours earlier composition inks
    → HasColours (content ∷ earlier) composition inks
colours_held earlier content composition inks held has =
    let same : taken_among earlier ≡ taken_among (content ∷ earlier) = sym (taken_same content earlier held) in
    record {
      clut_ids =
          has.clut_ids ∙ ap (λ (segments : List Content). reverse (clut_ids (record { segments = segments }))) same;
      versions =
          λ id. has.versions id ∙ ap (λ (segments : List Content). version_of_clut (last_clut id segments)) same;
      set =
          subst (λ (segments : List Content). AreSetBy (placed_by segments) composition.set_entries inks) same has.set;
    }

-- ---- one that is taken

-- what there is with its CLUT, and before its entries
record HasClut (content : Content) (taken : List Content) (old mid : Composition) : Type 0 where
  clut_ids : map (λ (kept : KeptClut). kept.clut) mid.cluts
      ≡ reverse (clut_ids (record { segments = content ∷ taken }))
  versions : (id : ℕ)
      → option_map version_of (clut_in mid id) ≡ version_of_clut (last_clut id (content ∷ taken))
  set : mid.set_entries ≡ old.set_entries
  total : mid.free + length mid.cluts ≡ old.free + length old.cluts

-- CLUTs and colours, by the taken segments
record HasTaken (taken : List Content) (composition : Composition) (inks : List Colour) : Type 0 where
  clut_ids : map (λ (kept : KeptClut). kept.clut) composition.cluts
      ≡ reverse (clut_ids (record { segments = taken }))
  versions : (id : ℕ) → option_map version_of (clut_in composition id) ≡ version_of_clut (last_clut id taken)
  set : AreSetBy (placed_by taken) composition.set_entries inks

pub version_by : (clut : Clut) (asked : ℕ) (rest : Option Clut)
    → cond (clut.clut == asked) (Some clut.version) (version_of_clut rest)
    ≡ version_of_clut (option_or (cond (clut.clut == asked) (Some clut) None) rest)
version_by clut asked rest = by (clut.clut == asked)
  where
    by : (hit : Bool)
        → cond hit (Some clut.version) (version_of_clut rest)
        ≡ version_of_clut (option_or (cond hit (Some clut) None) rest)
    by true = refl
    by false = refl

module _ (earlier : List Content) (content : Content) (clut : Clut) (old mid : Composition) (inks : List Colour)
    (is : of_clut clut ≡ content.value) (has : HasColours earlier old inks) where
  taken : List Content
  taken = taken_among earlier

  of : clut_of content ≡ Some clut
  of = sym (ap value_clut is)

  known_is : is_some (clut_in old clut.clut) ≡ is_some (last_clut clut.clut (taken_among earlier))
  known_is = version_some (clut_in old clut.clut) (last_clut clut.clut (taken_among earlier)) (has.versions clut.clut)

  named_last : (asked : ℕ)
      → last_clut asked (content ∷ taken_among earlier)
      ≡ option_or (cond (clut.clut == asked) (Some clut) None) (last_clut asked (taken_among earlier))
  named_last asked =
      ap (λ (o : Option Clut). option_or (where_passes (λ c. c.clut == asked) o)
      (last_clut asked (taken_among earlier))) of

  count_ids : length old.cluts ≡ length (clut_ids (record { segments = taken_among earlier }))
  count_ids =
      sym (length-map old.cluts (λ (kept : KeptClut). kept.clut)) ∙ ap length has.clut_ids
      ∙ length-reverse (clut_ids (record { segments = taken_among earlier }))

  clut_known : is_some (clut_in old clut.clut) ≡ true
      → mid ≡ with_cluts (with_version clut.clut clut.version old.cluts) old.free old
      → HasClut content (taken_among earlier) old mid
  clut_known some same = record {
    clut_ids =
        ap (λ (c : Composition). map (λ (kept : KeptClut). kept.clut) c.cluts) same
        ∙ ids_with_version clut.clut clut.version old.cluts ∙ has.clut_ids
        ∙ ap reverse (sym (clut_ids_with content clut (taken_among earlier) of
        ∙ ap (λ b. cond b (clut_ids (record { segments = taken_among earlier }))
        (clut.clut ∷ clut_ids (record { segments = taken_among earlier }))) (sym known_is ∙ some)));
    versions = λ asked.
        ap (λ (c : Composition). option_map version_of (clut_in c asked)) same
        ∙ found_with_version clut.clut clut.version asked old.cluts some
        ∙ ap (cond (clut.clut == asked) (Some clut.version)) (has.versions asked)
        ∙ version_by clut asked (last_clut asked (taken_among earlier))
        ∙ ap version_of_clut (sym (named_last asked));
    set = ap (λ (c : Composition). c.set_entries) same;
    total =
        ap (λ (c : Composition). c.free + length c.cluts) same
        ∙ ap (λ n. old.free + n) (count_with_version clut.clut clut.version old.cluts);
  }

  clut_new : is_some (clut_in old clut.clut) ≡ false → 0 < old.free
      → mid ≡ with_cluts (old.cluts ++ record { clut = clut.clut; version = clut.version } ∷ []) (old.free - 1)
      old → HasClut content (taken_among earlier) old mid
  clut_new none room same = record {
    clut_ids =
        ap (λ (c : Composition). map (λ (kept : KeptClut). kept.clut) c.cluts) same
        ∙ map-append (λ (kept : KeptClut). kept.clut) old.cluts
        (record { clut = clut.clut; version = clut.version } ∷ [])
        ∙ ap (λ ids. ids ++ clut.clut ∷ []) has.clut_ids
        ∙ sym (reverse-append (clut.clut ∷ []) (clut_ids (record { segments = taken_among earlier })))
        ∙ ap reverse (sym (clut_ids_with content clut (taken_among earlier) of
        ∙ ap (λ b. cond b (clut_ids (record { segments = taken_among earlier }))
        (clut.clut ∷ clut_ids (record { segments = taken_among earlier }))) (sym known_is ∙ none)));
    versions = λ asked.
        ap (λ (c : Composition). option_map version_of (clut_in c asked)) same
        ∙ found_with_more clut.clut clut.version asked old.cluts none
        ∙ ap (cond (clut.clut == asked) (Some clut.version)) (has.versions asked)
        ∙ version_by clut asked (last_clut asked (taken_among earlier))
        ∙ ap version_of_clut (sym (named_last asked));
    set = ap (λ (c : Composition). c.set_entries) same;
    total =
        ap (λ (c : Composition). c.free + length c.cluts) same
        ∙ omega (arith, room, length-append old.cluts (record { clut = clut.clut; version = clut.version } ∷ []));
  }

  placed_more : placed_by (content ∷ taken_among earlier)
      ≡ with_entries_of clut.clut clut.entries (placed_by (taken_among earlier))
  placed_more = ap (λ (o : Option Clut). with_segment o (placed_by (taken_among earlier))) of

  -- how many entries there are with it
  entries_more : length old.set_entries
      ≤ length (table_entries (record { segments = content ∷ taken_among earlier }))
  entries_more =
      let were = has.set.count in
      let more =
      no_more_placed (placed_by (taken_among earlier))
      (with_entries_of clut.clut clut.entries (placed_by (taken_among earlier)))
      (more_in_entries clut.clut clut.entries (placed_by (taken_among earlier))) in
      let are = ap entries_placed placed_more in
      omega (arith, were, more, are, placed_count (content ∷ taken_among earlier))

  with_its_clut : is_taken earlier content.value ≡ true → HasRoomFor (content ∷ earlier) old
      → mid ≡ with_clut clut.clut clut.version old → HasClut content (taken_among earlier) old mid
  with_its_clut takes room same = by (is_some (clut_in old clut.clut)) (cases_eq old.free 0) refl same
    where
      needed : length (clut_ids (record { segments = content ∷ taken_among earlier }))
          + length (table_entries (record { segments = content ∷ taken_among earlier }))
          ≤ old.free + length old.cluts + length old.set_entries
      needed =
          subst (λ (segments : List Content). length (clut_ids (record { segments = segments }))
          + length (table_entries (record { segments = segments }))
          ≤ old.free + length old.cluts + length old.set_entries) (taken_more content earlier takes) room

      by : (known : Bool) → (old.free ≡ 0) ⊎ (old.free ≢ 0) → is_some (clut_in old clut.clut) ≡ known
          → mid ≡ cond known (with_cluts (with_version clut.clut clut.version old.cluts) old.free old)
          (cond (old.free == 0) old
          (with_cluts (old.cluts ++ record { clut = clut.clut; version = clut.version } ∷ []) (old.free - 1) old))
          → HasClut content (taken_among earlier) old mid
      by true free some is = clut_known some is
      by false (inl full) none is =
          let one_more : length (clut_ids (record { segments = content ∷ taken_among earlier }))
          ≡ suc (length (clut_ids (record { segments = taken_among earlier }))) =
          ap length
          (clut_ids_with content clut (taken_among earlier) of
          ∙ ap (λ b. cond b (clut_ids (record { segments = taken_among earlier }))
          (clut.clut ∷ clut_ids (record { segments = taken_among earlier }))) (sym known_is ∙ none)) in
          absurd (omega (arith, needed, one_more, count_ids, entries_more, full))
      by false (inr some) none is =
          clut_new none (omega (arith, some))
          (is ∙ ap (λ b. cond b old
          (with_cluts (old.cluts ++ record { clut = clut.clut; version = clut.version } ∷ []) (old.free - 1) old))
          (ne_eqb old.free 0 some))

  pub colours_taken : (new : Composition) (new_inks : List Colour) → is_taken earlier content.value ≡ true
      → HasRoomFor (content ∷ earlier) old → mid ≡ with_clut clut.clut clut.version old → IsKeptBut mid new
      → SetsMore (with_entries_of clut.clut clut.entries) mid inks new new_inks
      → HasColours (content ∷ earlier) new new_inks
  colours_taken new new_inks takes room same kept sets =
      let half = with_its_clut takes room same in
      let are : taken_among (content ∷ earlier) ≡ content ∷ taken_among earlier =
      taken_more content earlier takes in
      let needed =
      subst (λ (segments : List Content). length (clut_ids (record { segments = segments }))
      + length (table_entries (record { segments = segments }))
      ≤ old.free + length old.cluts + length old.set_entries) are room in
      let ids : length mid.cluts ≡ length (clut_ids (record { segments = content ∷ taken_among earlier })) =
      sym (length-map mid.cluts (λ (kept : KeptClut). kept.clut)) ∙ ap length half.clut_ids
      ∙ length-reverse (clut_ids (record { segments = content ∷ taken_among earlier })) in
      let entries : entries_placed (with_entries_of clut.clut clut.entries (placed_by (taken_among earlier)))
      ≡ length (table_entries (record { segments = content ∷ taken_among earlier })) =
      ap entries_placed (sym placed_more) ∙ placed_count (content ∷ taken_among earlier) in
      let begin : AreSetBy (placed_by (taken_among earlier)) mid.set_entries inks =
      subst (λ set. AreSetBy (placed_by (taken_among earlier)) set inks) (sym half.set) has.set in
      let set =
      sets (placed_by (taken_among earlier)) begin
      (omega (arith, needed, ids, entries, half.total, ap length half.set)) in
      let now : HasTaken (content ∷ taken_among earlier) new new_inks = record {
        clut_ids = ap (map (λ (kept : KeptClut). kept.clut)) kept.cluts ∙ half.clut_ids;
        versions =
            λ id. ap (λ (cluts : List KeptClut). option_map version_of (find (is_of_id id) cluts)) kept.cluts
            ∙ half.versions id;
        set = subst (λ placed. AreSetBy placed new.set_entries new_inks) (sym placed_more) set;
      } in
      from_taken (content ∷ earlier) new new_inks
      (subst (λ (segments : List Content). HasTaken segments new new_inks) (sym are) now)
    where
      from_taken : (segments : List Content) (composition : Composition) (colours : List Colour)
          → HasTaken (taken_among segments) composition colours → HasColours segments composition colours
      from_taken segments composition colours all =
          record { clut_ids = all.clut_ids; versions = all.versions; set = all.set }
