-- Table entries that are counted one after another.
use Rattle.std.proofs.Common.{◌≡◌, ◌∙◌, ℕ, ◌+◌, ◌≤◌, ◌<◌, ◌^◌, ◌||◌, ◌&&◌, Bool, true, false, cond, List, [], ◌∷◌, length, map, refl, sym, ap, subst, arith}
use Rattle.std.specs.Prelude.{min, nat_lt, slice_set, slice_index_or}
use Rattle.std.specs.List.{list_any}
use Rattle.std.proofs.Math.Seq.{map-set_same}
use Rattle.sub_base.specs.Depth.{code_count}
use Rattle.sub_base.specs.Lists.{different}
use Rattle.sub_base.specs.declared.colour.Colour.{Colour}
use Rattle.sub_base.specs.declared.depth.Depth.{Depth}
use Rattle.sub_base.specs.declared.depth.Depth.TheVariants.{Two, Four, Eight}
use Rattle.stream_syntax.specs.declared.clut.ClutEntry.{ClutEntry}
use Rattle.decoder_model.specs.Ink.{is_in_table}
use Rattle.decoder_model.specs.Nodes.{TableEntry, is_same_entry}
use Rattle.page_core.specs.Private.ClutSteps.{Placed, entries_placed, entry_of, in_depth, in_depths, with_entries_of, with_place}
use Rattle.page_core.specs.Private.Counting.{AreCounted, CountsMore}
use Rattle.page_core.specs.Private.Marks.{AreMarked, mark_for, uncounted}
use Rattle.page_core.specs.Memory.{IsInTable, ink_place}
use Rattle.page_core.specs.declared.marks.Mark.{Mark}
use Rattle.page_core.specs.declared.marks.Mark.TheVariants.{Unset, Counted}
use Rattle.page_core.proofs.ColourTables.ColourSteps.{more_in_depth, more_in_entries, no_more_placed, placed_as}
use Rattle.page_core.proofs.Counts.DifferentItems.{right_true}
use Rattle.page_core.proofs.Counts.MarkTables.{count_marked, of_asked, same_entry}

-- ---- one entry

-- one that is neither set nor counted is known by its mark
not_marked : (set counted : Bool) → mark_for set counted ≡ Unset → (set ≡ false) × (counted ≡ false)
not_marked false false is = (refl, refl)
not_marked false true is = absurd (cc)
not_marked true counted is = absurd (cc)

marked_so : (set counted : Bool) → (mark_for set counted ≡ Unset → ⊥)
    → (set ≡ true → counted ≡ true) → counted ≡ true
marked_so set true other among = refl
marked_so true false other among = among refl
marked_so false false other among = absurd (other refl)

among_more : (entry : TableEntry) (colour : Colour) (placed : List Placed) (set : List TableEntry)
    → ((asked : TableEntry) → list_any (is_same_entry asked) set ≡ true
    → list_any (is_same_entry asked) (map entry_of placed) ≡ true)
    → (asked : TableEntry) → list_any (is_same_entry asked) set ≡ true
    → list_any (is_same_entry asked) (map entry_of (placed_as entry colour ∷ placed)) ≡ true
among_more entry colour placed set among asked there =
    right_true (is_same_entry asked entry) (list_any (is_same_entry asked) (map entry_of placed)) (among asked there)

pub one_counted : (entry : TableEntry) (marks new : List Mark) → IsInTable entry
    → slice_index_or marks (ink_place entry.clut entry.depth entry.entry) Unset ≡ Unset
    → new ≡ slice_set marks (ink_place entry.clut entry.depth entry.entry) Counted
    → (colour : Colour) → CountsMore (with_place entry colour) marks new 1
one_counted entry marks new inside unset put colour placed set are few =
    let none =
    not_marked (list_any (is_same_entry entry) set) (list_any (is_same_entry entry) (map entry_of placed))
    (sym (are.marked.each entry.clut entry.depth entry.entry inside.0 inside.1) ∙ unset) in (
      record {
        marked =
            subst (AreMarked set (entry ∷ map entry_of placed)) (sym put)
            (count_marked entry set (map entry_of placed) marks inside none.0 are.marked);
        among = among_more entry colour placed set are.among;
      },
      ap (λ b. length
          (cond b (different is_same_entry (map entry_of placed))
          (entry ∷ different is_same_entry (map entry_of placed)))) none.1 ∙ omega arith,
    )

pub none_counted : (entry : TableEntry) (marks : List Mark) → IsInTable entry
    → (slice_index_or marks (ink_place entry.clut entry.depth entry.entry) Unset ≡ Unset → ⊥)
    → (colour : Colour) → CountsMore (with_place entry colour) marks marks 0
none_counted entry marks inside other colour placed set are few =
    let names = map entry_of placed in
    let there : list_any (is_same_entry entry) names ≡ true =
    marked_so (list_any (is_same_entry entry) set) (list_any (is_same_entry entry) names)
    (λ unset. other (are.marked.each entry.clut entry.depth entry.entry inside.0 inside.1 ∙ unset))
    (are.among entry) in (
      record {
        marked = record {
          different = are.marked.different;
          count = are.marked.count;
          each = λ clut depth number byte low.
              let asked = of_asked clut depth number in
              are.marked.each clut depth number byte low
              ∙ ap (mark_for (list_any (is_same_entry asked) set))
              (known asked there (is_same_entry asked entry) refl);
        };
        among = among_more entry colour placed set are.among;
      },
      ap (λ b. length (cond b (different is_same_entry names) (entry ∷ different is_same_entry names))) there
          ∙ omega arith,
    )
  where
    known : (asked : TableEntry) → list_any (is_same_entry entry) (map entry_of placed) ≡ true → (hit : Bool)
        → is_same_entry asked entry ≡ hit
        → list_any (is_same_entry asked) (map entry_of placed)
        ≡ (hit || list_any (is_same_entry asked) (map entry_of placed))
    known asked there true is =
        ap (λ (one : TableEntry). list_any (is_same_entry one) (map entry_of placed)) (same_entry asked entry is)
        ∙ there
    known asked there false is = refl

-- a mark that was not set or counted is so again when counted marks are taken off
pub uncounted_same : (marks new : List Mark) (place : ℕ) → slice_index_or marks place Unset ≡ Unset
    → new ≡ slice_set marks place Counted → map uncounted new ≡ map uncounted marks
uncounted_same marks new place unset put =
    ap (map uncounted) put ∙ map-set_same uncounted marks place Counted Unset (sym (ap uncounted unset))

-- an entry of the table of a depth
pub counted_where : (clut : ℕ) (entry : ClutEntry) (depth : Depth) (marks new : List Mark) (count : ℕ)
    → (is_in_table depth entry && nat_lt entry.entry (code_count depth)) ≡ true
    → ((colour : Colour)
    → CountsMore (with_place (record { clut = clut; depth = depth; entry = entry.entry }) colour) marks new
    count) → CountsMore (in_depth clut entry depth) marks new count
counted_where clut entry depth marks new count hit counts placed set are few =
    let is : in_depth clut entry depth placed
    ≡ with_place (record { clut = clut; depth = depth; entry = entry.entry }) entry.colour placed =
    ap (λ b. cond b (with_place (record { clut = clut; depth = depth; entry = entry.entry }) entry.colour placed)
    placed) hit in
    let step = counts entry.colour placed set are (subst (λ (ps : List Placed). entries_placed ps < 2 ^ 63) is few) in
    (subst (λ (ps : List Placed). AreCounted ps set new) (sym is) step.0, ap entries_placed is ∙ step.1)

-- ---- more of them

counts_both : (first second : List Placed → List Placed) (old mid new : List Mark) (one other : ℕ)
    → ((placed : List Placed) → entries_placed (first placed) ≤ entries_placed (second (first placed)))
    → CountsMore first old mid one → CountsMore second mid new other
    → CountsMore (λ placed. second (first placed)) old new (one + other)
counts_both first second old mid new one other up is then placed set are few =
    let fewer = up placed in
    let half = is placed set are (omega (arith, fewer, few)) in
    let whole = then (first placed) set half.0 few in
    (whole.0, omega (arith, half.1, whole.1))

pub counted_in_depths : (clut : ℕ) (entry : ClutEntry) (old one two new : List Mark) (a b c : ℕ)
    → CountsMore (in_depth clut entry Two) old one a → CountsMore (in_depth clut entry Four) one two b
    → CountsMore (in_depth clut entry Eight) two new c
    → CountsMore (in_depths clut entry) old new (a + b + c)
counted_in_depths clut entry old one two new a b c first second third =
    counts_both (λ placed. in_depth clut entry Four (in_depth clut entry Two placed)) (in_depth clut entry Eight) old
    two new (a + b) c
    (λ placed. no_more_placed (in_depth clut entry Four (in_depth clut entry Two placed)) (in_depths clut entry placed)
    (more_in_depth clut entry Eight (in_depth clut entry Four (in_depth clut entry Two placed))))
    (counts_both (in_depth clut entry Two) (in_depth clut entry Four) old one two a b
    (λ placed. no_more_placed (in_depth clut entry Two placed)
    (in_depth clut entry Four (in_depth clut entry Two placed))
    (more_in_depth clut entry Four (in_depth clut entry Two placed))) first second) third

-- ---- the entries of a CLUT segment

pub record IsCounting (clut : ℕ) (all left : List ClutEntry) (old now : List Mark) (count : ℕ) : Type 0 where
  pub marks : map uncounted now ≡ map uncounted old
  pub counted : (placed : List Placed) (set : List TableEntry) → AreCounted placed set old
      → entries_placed (with_entries_of clut all placed) < 2 ^ 63
      → (so_far : List Placed) × AreCounted so_far set now
      × (with_entries_of clut left so_far ≡ with_entries_of clut all placed)
      × (entries_placed so_far ≡ entries_placed placed + count)

pub counting_begins : (clut : ℕ) (all left : List ClutEntry) (marks : List Mark) → left ≡ all
    → IsCounting clut all left marks marks 0
counting_begins clut all left marks same =
    record {
      marks = refl;
      counted = λ placed set are
          few. (placed, are, ap (λ es. with_entries_of clut es placed) same, omega arith);
    }

pub counting_goes_on : (clut : ℕ) (all left rest : List ClutEntry) (entry : ClutEntry) (old now new : List Mark)
    (count more total : ℕ) → left ≡ entry ∷ rest → total ≡ min (count + more) 18446744073709551615
    → IsCounting clut all left old now count → map uncounted new ≡ map uncounted now
    → CountsMore (in_depths clut entry) now new more → IsCounting clut all rest old new total
counting_goes_on clut all left rest entry old now new count more total split sum on marks counts = record {
  marks = marks ∙ on.marks;
  counted = λ placed set are few.
      let before = on.counted placed set are few in
      let so_far = before.0 in
      let all_is : with_entries_of clut rest (in_depths clut entry so_far) ≡ with_entries_of clut all placed =
      sym (ap (λ es. with_entries_of clut es so_far) split) ∙ before.2 in
      let fewer : entries_placed (in_depths clut entry so_far)
      ≤ entries_placed (with_entries_of clut rest (in_depths clut entry so_far)) = no_more_placed
      (in_depths clut entry so_far) (with_entries_of clut rest (in_depths clut entry so_far))
      (more_in_entries clut rest (in_depths clut entry so_far)) in
      let same = ap entries_placed all_is in
      let step = counts so_far set before.1 (omega (arith, fewer, same, few)) in
      (in_depths clut entry so_far, step.0, all_is, omega (arith, step.1, before.3, fewer, same, few, sum));
}

pub counting_ends : (clut : ℕ) (all left : List ClutEntry) (old now : List Mark) (count : ℕ) → left ≡ []
    → IsCounting clut all left old now count → CountsMore (with_entries_of clut all) old now count
counting_ends clut all left old now count none on placed set are few =
    let end = on.counted placed set are few in
    let is : end.0 ≡ with_entries_of clut all placed =
    sym (ap (λ es. with_entries_of clut es end.0) none) ∙ end.2 in
    (subst (λ (ps : List Placed). AreCounted ps set now) is end.1, sym (ap entries_placed is) ∙ end.3)
