-- Table entries that are set one after another.
use Rattle.std.proofs.Common.{◌≡◌, ◌∙◌, ℕ, suc, ◌+◌, ◌-◌, ◌==◌, ◌≤◌, ◌<◌, ◌||◌, ◌&&◌, Bool, true, false, cond, List, [], ◌∷◌, ◌++◌, length, map, Option, Some, None, refl, sym, ap, subst, inl, inr, arith, length-append}
use Rattle.std.specs.Prelude.{slice_set, slice_index_or, nat_lt, unwrap_or}
use Rattle.std.specs.List.{list_any}
use Rattle.std.specs.Option.{option_or}
use Rattle.std.proofs.lemmas.Bool.{cases_eq, eq-eqb, eqb-true}
use Rattle.std.proofs.lemmas.Grind.{get_or-set_at}
use Rattle.std.proofs.lemmas.List.Folds.{list_any-append}
use Rattle.std.proofs.lemmas.List.{get_or-set_other, length-set}
use Rattle.std.proofs.lemmas.List.Elements.{All-nil, All-cons, All-append}
use Rattle.sub_base.specs.Colour.{clear, default_of}
use Rattle.sub_base.specs.Depth.{code_count}
use Rattle.sub_base.specs.Lists.{different, first_given}
use Rattle.sub_base.specs.declared.colour.Colour.{Colour}
use Rattle.sub_base.specs.declared.depth.Depth.{Depth}
use Rattle.sub_base.specs.declared.depth.Depth.TheVariants.{Two, Four, Eight}
use Rattle.stream_syntax.specs.declared.clut.ClutEntry.{ClutEntry}
use Rattle.decoder_model.specs.Ink.{is_in_table}
use Rattle.decoder_model.specs.Nodes.{TableEntry, is_same_entry}
use Rattle.page_core.specs.Private.ClutSteps.{AreColoured, AreSetBy, IsKeptBut, Placed, SetsMore, colour_at, entries_placed, entry_of, in_depth, in_depths, with_colour, with_entries_of, with_place, with_set}
use Rattle.page_core.specs.Composition.{Composition}
use Rattle.page_core.specs.Private.Inks.{ink_count}
use Rattle.page_core.specs.Private.Marks.{AreMarked}
use Rattle.page_core.specs.Memory.{AreInks, IsInTable, ink_place}
use Rattle.page_core.specs.Private.Nodes.{place_kept}
use Rattle.page_core.specs.declared.marks.Mark.{Mark}
use Rattle.page_core.specs.declared.marks.Mark.TheVariants.{Set}
use Rattle.page_core.specs.declared.node.TablePlace.{TablePlace}
use Rattle.page_core.proofs.Counts.DifferentItems.{no_more_different, right_true}
use Rattle.page_core.proofs.ColourTables.InkTables.{place_of_same}
use Rattle.page_core.proofs.Counts.MarkLaws.{place_inside}
use Rattle.page_core.proofs.Counts.MarkTables.{same_by_place, same_entry, same_itself, set_marked}

-- ---- one entry

-- the marks of one more entry
pub colour_marked : (entry : TableEntry) (old new : Composition) (marks new_marks : List Mark) → IsInTable entry
    → list_any (is_same_entry entry) old.set_entries ≡ false → new ≡ with_colour entry old
    → new_marks ≡ slice_set marks (ink_place entry.clut entry.depth entry.entry) Set
    → AreMarked old.set_entries [] marks → AreMarked new.set_entries [] new_marks
colour_marked entry old new marks new_marks inside none is put are =
    subst (λ (set : List TableEntry). AreMarked set [] new_marks) (sym (ap (λ (c : Composition). c.set_entries) is))
    (subst (AreMarked (old.set_entries ++ entry ∷ []) []) (sym put)
    (set_marked entry old.set_entries [] marks inside none are))

-- what one more entry changes in the composition memory
pub kept_but_one : (entry : TableEntry) (old : Composition) → IsKeptBut old (with_set entry old)
kept_but_one entry old = by (list_any (is_same_entry entry) old.set_entries) (old.free == 0) refl refl
  where
    by : (there full : Bool) → list_any (is_same_entry entry) old.set_entries ≡ there → (old.free == 0) ≡ full
        → IsKeptBut old (cond there old (cond full old (with_colour entry old)))
    by true full is at = record { size = refl; entries = refl; regions = refl; cluts = refl; total = refl }
    by false true is at = record { size = refl; entries = refl; regions = refl; cluts = refl; total = refl }
    by false false is at = record {
      size = refl;
      entries = refl;
      regions = refl;
      cluts = refl;
      total =
          (let some : (old.free ≡ 0)
          → ⊥ = λ e. (let yes = eq-eqb old.free 0 e in cc) in one_less old.free (length old.set_entries)
          (length (old.set_entries ++ entry ∷ [])) some (length-append old.set_entries (entry ∷ [])));
    }
      where
        one_less : (free were are : ℕ) → ((free ≡ 0) → ⊥) → are ≡ were + 1
            → free - 1 + are ≡ free + were
        one_less free were are some is = elim (cases_eq free 0) [
          | inl none ↦ absurd (some none)
          | inr other ↦ omega (arith, other, is)
        ]

-- the colours of the entries that are set, beside one more
inks_with : (entry : TableEntry) (old : Composition) (inks : List Colour) → IsInTable entry
    → AreInks old.set_entries inks → AreInks (with_set entry old).set_entries inks
inks_with entry old inks inside are = by (list_any (is_same_entry entry) old.set_entries) (old.free == 0)
  where
    by : (there full : Bool) → AreInks (cond there old (cond full old (with_colour entry old))).set_entries inks
    by true full = are
    by false true = are
    by false false = record {
      tables =
          All-append IsInTable old.set_entries (entry ∷ []) are.tables
          (All-cons IsInTable entry [] inside (All-nil IsInTable));
      count = are.count;
      defaults = λ clut depth number byte low none.
          let asked : TableEntry = record { clut = clut; depth = depth; entry = number } in
          are.defaults clut depth number byte low
          (first (list_any (is_same_entry asked) old.set_entries) (is_same_entry asked entry || false)
          (sym (list_any-append (is_same_entry asked) old.set_entries (entry ∷ [])) ∙ none));
    }
      where
        first : (a b : Bool) → (a || b) ≡ false → a ≡ false
        first false b is = refl
        first true b is = absurd (cc)

-- what stands at an entry where one is given a colour
pub ink_there : (asked entry : TableEntry) (colour : Colour) (inks : List Colour) → IsInTable asked
    → IsInTable entry → length inks ≡ ink_count
    → slice_index_or (slice_set inks (ink_place entry.clut entry.depth entry.entry) colour)
    (ink_place asked.clut asked.depth asked.entry) clear
    ≡ cond (is_same_entry asked entry) colour
    (slice_index_or inks (ink_place asked.clut asked.depth asked.entry) clear)
ink_there asked entry colour inks in_asked in_entry count = by (is_same_entry asked entry) refl
  where
    asked_place : ℕ
    asked_place = ink_place asked.clut asked.depth asked.entry

    place : ℕ
    place = ink_place entry.clut entry.depth entry.entry

    by : (same : Bool) → is_same_entry asked entry ≡ same
        → slice_index_or (slice_set inks place colour) asked_place clear
        ≡ cond same colour (slice_index_or inks asked_place clear)
    by true is =
        get_or-set_at inks place asked_place colour clear (place_of_same asked entry is)
        (let inside = place_inside entry.clut entry.depth entry.entry in_entry.0 in_entry.1 in omega
        (arith, inside, count))
    by false is =
        get_or-set_other inks place asked_place colour clear
        (λ e. let yes : is_same_entry asked entry
        ≡ true = ap (λ (one : TableEntry). is_same_entry asked one)
        (sym (same_by_place asked entry in_asked in_entry (sym e))) ∙ same_itself asked in absurd (cc))

-- one that is set gets its colour
inks_given : (entry : TableEntry) (colour : Colour) (set : List TableEntry) (inks : List Colour) → IsInTable entry
    → list_any (is_same_entry entry) set ≡ true → AreInks set inks
    → AreInks set (slice_set inks (ink_place entry.clut entry.depth entry.entry) colour)
inks_given entry colour set inks inside there are = record {
  tables = are.tables;
  count = length-set inks (ink_place entry.clut entry.depth entry.entry) colour ∙ are.count;
  defaults = λ clut depth number byte low none.
      let asked : TableEntry = record { clut = clut; depth = depth; entry = number } in
      ink_there asked entry colour inks (byte, low) inside are.count
      ∙ ap (λ b. cond b colour (slice_index_or inks (ink_place clut depth number) clear))
      (other asked none (is_same_entry asked entry) refl)
      ∙ are.defaults clut depth number byte low none;
}
  where
    other : (asked : TableEntry) → list_any (is_same_entry asked) set ≡ false → (b : Bool)
        → is_same_entry asked entry ≡ b → b ≡ false
    other asked none false is = refl
    other asked none true is =
        absurd (let yes : list_any (is_same_entry asked) set
        ≡ true = ap (λ (one : TableEntry). list_any (is_same_entry one) set) (same_entry asked entry is)
        ∙ there in cc)

-- ---- it is placed

abbrev pub placed_as : TableEntry → Colour → Placed
placed_as entry colour = record { entry = entry; colour = colour }

-- with room the entry is among those that are set
record IsAdded (entry : TableEntry) (placed : List Placed) (set : List TableEntry) : Type 0 where
  members : (asked : TableEntry)
      → list_any (is_same_entry asked) set
      ≡ (is_same_entry asked entry || list_any (is_same_entry asked) (map entry_of placed))
  count : length set ≡ length (different is_same_entry (entry ∷ map entry_of placed))

added : (entry : TableEntry) (placed : List Placed) (old : Composition) (inks : List Colour)
    → AreSetBy placed old.set_entries inks
    → length (different is_same_entry (entry ∷ map entry_of placed)) ≤ old.free + length old.set_entries
    → IsAdded entry placed (with_set entry old).set_entries
added entry placed old inks are room = by (list_any (is_same_entry entry) old.set_entries) (old.free == 0) refl refl
  where
    names : List TableEntry
    names = map entry_of placed

    commuted : (a b : Bool) → (a || (b || false)) ≡ (b || a)
    commuted true true = refl
    commuted true false = refl
    commuted false true = refl
    commuted false false = refl

    by : (there full : Bool) → list_any (is_same_entry entry) old.set_entries ≡ there → (old.free == 0) ≡ full
        → IsAdded entry placed (cond there old (cond full old (with_colour entry old))).set_entries
    by true full is at = record {
      members = λ asked. are.members asked ∙ known asked (is_same_entry asked entry) refl;
      count =
          are.count
          ∙ ap (λ b. length (cond b (different is_same_entry names) (entry ∷ different is_same_entry names)))
          (sym (sym (are.members entry) ∙ is));
    }
      where
        known : (asked : TableEntry) (hit : Bool) → is_same_entry asked entry ≡ hit
            → list_any (is_same_entry asked) names ≡ (hit || list_any (is_same_entry asked) names)
        known asked true same =
            ap (λ (one : TableEntry). list_any (is_same_entry one) names) (same_entry asked entry same)
            ∙ sym (are.members entry) ∙ is
        known asked false same = refl
    by false true is at =
        let more : length (different is_same_entry (entry ∷ names)) ≡ suc (length (different is_same_entry names)) =
        ap (λ b. length (cond b (different is_same_entry names) (entry ∷ different is_same_entry names)))
        (sym (are.members entry) ∙ is) in
        absurd (omega (arith, room, more, are.count, none_free old.free at))
      where
        none_free : (n : ℕ) → (n == 0) ≡ true → n ≡ 0
        none_free n e = eqb-true n 0 e
    by false false is at = record {
      members =
          λ asked. list_any-append (is_same_entry asked) old.set_entries (entry ∷ [])
          ∙ ap (λ b. b || (is_same_entry asked entry || false)) (are.members asked)
          ∙ commuted (list_any (is_same_entry asked) names) (is_same_entry asked entry);
      count =
          let more : length (different is_same_entry (entry ∷ names))
          ≡ suc (length (different is_same_entry names)) = ap
          (λ b. length (cond b (different is_same_entry names) (entry ∷ different is_same_entry names)))
          (sym (are.members entry) ∙ is) in
          length-append old.set_entries (entry ∷ []) ∙ omega (arith, more, are.count);
    }

there_then : (entry : TableEntry) (placed : List Placed) (set : List TableEntry) → IsAdded entry placed set
    → list_any (is_same_entry entry) set ≡ true
there_then entry placed set is =
    is.members entry ∙ ap (λ b. b || list_any (is_same_entry entry) (map entry_of placed)) (same_itself entry)

module _ (place : TablePlace) (colour : Colour) (old new : Composition) (inks : List Colour) (byte : place.clut < 256)
    (low : place.entry < code_count place.depth) (is : new ≡ with_set (place_kept place) old) where
  pub kept_by_place : IsKeptBut old new
  kept_by_place = subst (IsKeptBut old) (sym is) (kept_but_one (place_kept place) old)

  pub coloured_by_place : (marks new_marks : List Mark) (new_inks : List Colour)
      → new_inks ≡ slice_set inks (ink_place place.clut place.depth place.entry) colour
      → list_any (is_same_entry (place_kept place)) new.set_entries ≡ true
      → AreColoured old inks marks → AreMarked new.set_entries [] new_marks → AreColoured new new_inks new_marks
  coloured_by_place marks new_marks new_inks put there are marked = record {
    coloured = subst (AreInks new.set_entries) (sym put)
        (inks_given (place_kept place) colour new.set_entries inks (byte, low) there
        (subst (λ (c : Composition). AreInks c.set_entries inks) (sym is)
        (inks_with (place_kept place) old inks (byte, low) are.coloured)));
    marked = marked;
  }

  pub coloured_without_place : (marks new_marks : List Mark) → AreColoured old inks marks
      → AreMarked new.set_entries [] new_marks → AreColoured new inks new_marks
  coloured_without_place marks new_marks are marked = record {
    coloured =
        subst (λ (c : Composition). AreInks c.set_entries inks) (sym is)
        (inks_with (place_kept place) old inks (byte, low) are.coloured);
    marked = marked;
  }

  pub set_by_place : (new_inks : List Colour)
      → new_inks ≡ slice_set inks (ink_place place.clut place.depth place.entry) colour
      → length inks ≡ ink_count → SetsMore (with_place (place_kept place) colour) old inks new new_inks
  set_by_place new_inks put count placed are room =
      let more =
      subst (λ (c : Composition). IsAdded (place_kept place) placed c.set_entries) (sym is)
      (added (place_kept place) placed old inks are room) in
      record {
        colours = λ id depth number id_low number_low.
            let asked : TableEntry = record { clut = id; depth = depth; entry = number } in
            ap (λ (cs : List Colour). slice_index_or cs (ink_place id depth number) clear) put
            ∙ ink_there asked (place_kept place) colour inks (id_low, number_low) (byte, low) count
            ∙ ap (cond (is_same_entry asked (place_kept place)) colour)
            (are.colours id depth number id_low number_low)
            ∙ first asked (is_same_entry asked (place_kept place)) (first_given (colour_at asked) placed);
        members = more.members;
        count = more.count;
      }
    where
      first : (asked : TableEntry) (same : Bool) (rest : Option Colour)
          → cond same colour (unwrap_or rest (default_of asked.depth asked.entry))
          ≡ unwrap_or (option_or (cond same (Some colour) None) rest) (default_of asked.depth asked.entry)
      first asked true rest = refl
      first asked false rest = refl

  -- without room alone it is left out
  pub none_by_place : list_any (is_same_entry (place_kept place)) new.set_entries ≡ false
      → SetsMore (with_place (place_kept place) colour) old inks new inks
  none_by_place none placed are room =
      let more =
      subst (λ (c : Composition). IsAdded (place_kept place) placed c.set_entries) (sym is)
      (added (place_kept place) placed old inks are room) in
      absurd (let yes = there_then (place_kept place) placed new.set_entries more in cc)

-- ---- more of them

-- more entries need no fewer nodes
pub more_in_depth : (clut : ℕ) (entry : ClutEntry) (depth : Depth) (placed : List Placed) (asked : TableEntry)
    → list_any (is_same_entry asked) (map entry_of placed) ≡ true
    → list_any (is_same_entry asked) (map entry_of (in_depth clut entry depth placed)) ≡ true
more_in_depth clut entry depth placed asked there =
    by (is_in_table depth entry && nat_lt entry.entry (code_count depth))
  where
    one : Placed
    one = record { entry = record { clut = clut; depth = depth; entry = entry.entry }; colour = entry.colour }

    by : (b : Bool) → list_any (is_same_entry asked) (map entry_of (cond b (one ∷ placed) placed)) ≡ true
    by true = right_true (is_same_entry asked one.entry) (list_any (is_same_entry asked) (map entry_of placed)) there
    by false = there

pub more_in_depths : (clut : ℕ) (entry : ClutEntry) (placed : List Placed) (asked : TableEntry)
    → list_any (is_same_entry asked) (map entry_of placed) ≡ true
    → list_any (is_same_entry asked) (map entry_of (in_depths clut entry placed)) ≡ true
more_in_depths clut entry placed asked there =
    more_in_depth clut entry Eight (in_depth clut entry Four (in_depth clut entry Two placed)) asked
    (more_in_depth clut entry Four (in_depth clut entry Two placed) asked
    (more_in_depth clut entry Two placed asked there))

pub more_in_entries : (clut : ℕ) (entries : List ClutEntry) (placed : List Placed) (asked : TableEntry)
    → list_any (is_same_entry asked) (map entry_of placed) ≡ true
    → list_any (is_same_entry asked) (map entry_of (with_entries_of clut entries placed)) ≡ true
more_in_entries clut [] placed asked there = there
more_in_entries clut (entry ∷ entries) placed asked there =
    more_in_entries clut entries (in_depths clut entry placed) asked (more_in_depths clut entry placed asked there)

pub no_more_placed : (fewer more : List Placed)
    → ((asked : TableEntry) → list_any (is_same_entry asked) (map entry_of fewer) ≡ true
    → list_any (is_same_entry asked) (map entry_of more) ≡ true) → entries_placed fewer ≤ entries_placed more
no_more_placed fewer more all =
    no_more_different is_same_entry same_itself same_entry (map entry_of fewer) (map entry_of more) all

-- one step and then another
sets_both : (first second : List Placed → List Placed) (old mid new : Composition)
    (old_inks mid_inks new_inks : List Colour)
    → ((placed : List Placed) → entries_placed (first placed) ≤ entries_placed (second (first placed)))
    → IsKeptBut old mid → SetsMore first old old_inks mid mid_inks → SetsMore second mid mid_inks new new_inks
    → SetsMore (λ placed. second (first placed)) old old_inks new new_inks
sets_both first second old mid new old_inks mid_inks new_inks up kept one other placed are room =
    let fewer = up placed in
    let half = one placed are (omega (arith, fewer, room)) in
    other (first placed) half (omega (arith, room, kept.total))

kept_both : (old mid new : Composition) → IsKeptBut old mid → IsKeptBut mid new → IsKeptBut old new
kept_both old mid new one other = record {
  size = other.size ∙ one.size;
  entries = other.entries ∙ one.entries;
  regions = other.regions ∙ one.regions;
  cluts = other.cluts ∙ one.cluts;
  total = other.total ∙ one.total;
}

pub set_in_depths : (clut : ℕ) (entry : ClutEntry) (old one two new : Composition)
    (old_inks one_inks two_inks new_inks : List Colour) → IsKeptBut old one → IsKeptBut one two
    → SetsMore (in_depth clut entry Two) old old_inks one one_inks
    → SetsMore (in_depth clut entry Four) one one_inks two two_inks
    → SetsMore (in_depth clut entry Eight) two two_inks new new_inks
    → SetsMore (in_depths clut entry) old old_inks new new_inks
set_in_depths clut entry old one two new old_inks one_inks two_inks new_inks kept kept_then first second third =
    sets_both (λ placed. in_depth clut entry Four (in_depth clut entry Two placed)) (in_depth clut entry Eight) old two
    new old_inks two_inks new_inks
    (λ placed. no_more_placed (in_depth clut entry Four (in_depth clut entry Two placed)) (in_depths clut entry placed)
    (more_in_depth clut entry Eight (in_depth clut entry Four (in_depth clut entry Two placed))))
    (kept_both old one two kept kept_then)
    (sets_both (in_depth clut entry Two) (in_depth clut entry Four) old one two old_inks one_inks two_inks
    (λ placed. no_more_placed (in_depth clut entry Two placed)
    (in_depth clut entry Four (in_depth clut entry Two placed))
    (more_in_depth clut entry Four (in_depth clut entry Two placed))) kept first second) third

-- ---- the entries of a CLUT segment

-- how far they are set, with these left
pub record IsSetting (clut : ℕ) (all left : List ClutEntry) (old : Composition) (old_inks : List Colour)
    (now : Composition) (inks : List Colour) (marks : List Mark) : Type 0 where
  pub coloured : AreColoured now inks marks
  pub kept : IsKeptBut old now
  pub set : (placed : List Placed) → AreSetBy placed old.set_entries old_inks
      → entries_placed (with_entries_of clut all placed) ≤ old.free + length old.set_entries
      → (so_far : List Placed) × AreSetBy so_far now.set_entries inks
      × (with_entries_of clut left so_far ≡ with_entries_of clut all placed)

pub setting_begins : (clut : ℕ) (all left : List ClutEntry) (old : Composition) (inks : List Colour)
    (marks : List Mark) → left ≡ all → AreColoured old inks marks
    → IsSetting clut all left old inks old inks marks
setting_begins clut all left old inks marks same are = record {
  coloured = are;
  kept = record { size = refl; entries = refl; regions = refl; cluts = refl; total = refl };
  set = λ placed set room. (placed, set, ap (λ es. with_entries_of clut es placed) same);
}

pub setting_goes_on : (clut : ℕ) (all left rest : List ClutEntry) (entry : ClutEntry) (old : Composition)
    (old_inks : List Colour) (now new : Composition) (inks new_inks : List Colour) (marks new_marks : List Mark)
    → left ≡ entry ∷ rest
    → IsSetting clut all left old old_inks now inks marks → AreColoured new new_inks new_marks
    → IsKeptBut now new → SetsMore (in_depths clut entry) now inks new new_inks
    → IsSetting clut all rest old old_inks new new_inks new_marks
setting_goes_on clut all left rest entry old old_inks now new inks new_inks marks new_marks split on are kept more =
    record {
      coloured = are;
      kept = kept_both old now new on.kept kept;
      set = λ placed set room.
          let before = on.set placed set room in
          let so_far = before.0 in
          let all_is : with_entries_of clut rest (in_depths clut entry so_far) ≡ with_entries_of clut all placed =
          sym (ap (λ es. with_entries_of clut es so_far) split) ∙ before.2 in
          let fewer : entries_placed (in_depths clut entry so_far)
          ≤ entries_placed (with_entries_of clut rest (in_depths clut entry so_far)) = no_more_placed
          (in_depths clut entry so_far) (with_entries_of clut rest (in_depths clut entry so_far))
          (more_in_entries clut rest (in_depths clut entry so_far)) in
          let same = ap entries_placed all_is in
          (in_depths clut entry so_far, more so_far before.1 (omega (arith, fewer, same, room, on.kept.total)), all_is);
    }

pub setting_ends : (clut : ℕ) (all left : List ClutEntry) (old : Composition) (old_inks : List Colour)
    (now : Composition) (inks : List Colour) (marks : List Mark) → left ≡ []
    → IsSetting clut all left old old_inks now inks marks
    → SetsMore (with_entries_of clut all) old old_inks now inks
setting_ends clut all left old old_inks now inks marks none on placed are room =
    let end = on.set placed are room in
    subst (λ (ps : List Placed). AreSetBy ps now.set_entries inks)
    (sym (ap (λ es. with_entries_of clut es end.0) none) ∙ end.2) end.1
