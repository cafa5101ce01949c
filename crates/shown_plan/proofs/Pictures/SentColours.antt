-- The colour that a CLUT segment of a set gives an entry: that of its latest row.
use Rattle.std.proofs.Common.{◌≡◌, ◌∙◌, ℕ, ◌+◌, ◌==◌, ◌<◌, Bool, true, false, ◌&&◌, ◌||◌, cond, List, [], ◌∷◌, ◌++◌, map, filter, Option, Some, None, refl, ap, arith}
use Rattle.std.specs.List.{list_any, range_with_len}
use Rattle.std.specs.Option.{option_or}
use Rattle.std.proofs.lemmas.Bool.Decides.{nat_tests}
use Rattle.std.proofs.lemmas.List.{get_or-map}
use Rattle.std.proofs.lemmas.List.Folds.{list_any-append, list_any_at}
use Rattle.std.proofs.lemmas.List.FromFn.{length-range_with_len, get_or-range_with_len}
use Rattle.sub_base.specs.Depth.{bits_of, code_count}
use Rattle.sub_base.specs.Lists.{last_given}
use Rattle.sub_base.specs.declared.depth.Depth.{Depth}
use Rattle.sub_base.specs.declared.depth.Depth.TheVariants.{Two, Four, Eight}
use Rattle.cue_records.specs.declared.row_values.ColourRow.{ColourRow}
use Rattle.cue_list.specs.declared.epoch.Epoch.{Epoch}
use Rattle.page_epoch.proofs.RowLaws.{entry_of, length-entries_at}
use Rattle.page_epoch.specs.SentCluts.{row_at, entries_at, all_entries, is_of_entry, defined_rows, rows_from}
use Rattle.set_coder.specs.SetSegments.{clut_entry_of}
use Rattle.decoder_model.specs.Ink.{is_in_table, colour_by_entry}
use Rattle.shown_plan.proofs.Pictures.ColourRows.{latest_of, colour_at, given_by, given_latest, is_entry, given_all_entries}

-- ---- each entry that a depth has is one of all entries

entry_found : (depth : Depth) (number : ℕ) → number < code_count depth
    → list_any (is_entry (entry_of depth number)) (entries_at depth) ≡ true
unfolding entries_at
entry_found depth number small =
    list_any_at (is_entry (entry_of depth number)) (entries_at depth) number (entry_of depth number)
    (omega (arith, small, length-entries_at depth))
    (ap (is_entry (entry_of depth number))
    (get_or-map (λ (n : ℕ). entry_of depth n) (range_with_len 0 (code_count depth)) number 0
    (entry_of depth number) (omega (arith, small, length-range_with_len 0 (code_count depth)))
    ∙ ap (entry_of depth) (get_or-range_with_len 0 (code_count depth) number 0 small))
    ∙ (let first : (bits_of depth == bits_of depth)
    ≡ true = grind (arith, nat_tests) in let second : ((0 + number) == number)
    ≡ true = grind (arith, nat_tests) in rw (first, second) refl))

pub is_an_entry : (depth : Depth) (number : ℕ) → number < code_count depth
    → list_any (is_entry (entry_of depth number)) all_entries ≡ true
unfolding all_entries
is_an_entry Two number small =
    list_any-append (is_entry (entry_of Two number)) (entries_at Two) (entries_at Four ++ entries_at Eight)
    ∙ ap (λ b. b || list_any (is_entry (entry_of Two number)) (entries_at Four ++ entries_at Eight))
    (entry_found Two number small)
is_an_entry Four number small =
    list_any-append (is_entry (entry_of Four number)) (entries_at Two) (entries_at Four ++ entries_at Eight)
    ∙ ap (λ b. list_any (is_entry (entry_of Four number)) (entries_at Two) || b)
    (list_any-append (is_entry (entry_of Four number)) (entries_at Four) (entries_at Eight)
    ∙ ap (λ b. b || list_any (is_entry (entry_of Four number)) (entries_at Eight))
    (entry_found Four number small))
    ∙ either (list_any (is_entry (entry_of Four number)) (entries_at Two))
  where
    either : (b : Bool) → (b || true) ≡ true
    either true = refl
    either false = refl
is_an_entry Eight number small =
    list_any-append (is_entry (entry_of Eight number)) (entries_at Two) (entries_at Four ++ entries_at Eight)
    ∙ ap (λ b. list_any (is_entry (entry_of Eight number)) (entries_at Two) || b)
    (list_any-append (is_entry (entry_of Eight number)) (entries_at Four) (entries_at Eight)
    ∙ ap (λ b. list_any (is_entry (entry_of Eight number)) (entries_at Four) || b)
    (entry_found Eight number small) ∙ either (list_any (is_entry (entry_of Eight number)) (entries_at Four)))
    ∙ either (list_any (is_entry (entry_of Eight number)) (entries_at Two))
  where
    either : (b : Bool) → (b || true) ≡ true
    either true = refl
    either false = refl

-- ---- the entries of a segment

-- the test that the rows of a set pass: all are sent by a set that is not normal, those of its tick else
abbrev pub is_sent_row : List ColourRow → Bool → ℕ → ℕ → Bool
is_sent_row colours whole tick place = cond whole true ((row_at colours place).tick == tick)

-- an entry that is sent gives its number in its table the colour of its row
entry_gives : (epoch : Epoch) (depth : Depth) (number place : ℕ)
    → colour_by_entry depth number (clut_entry_of epoch place)
    ≡ cond (is_of_entry (entry_of depth number) (row_at epoch.colours place)) (Some (colour_at epoch.colours place))
    None
entry_gives epoch depth number place = ap (λ b. cond b (Some (colour_at epoch.colours place)) None) (by depth)
  where
    row : ColourRow
    row = row_at epoch.colours place

    swapped : (a b : Bool) → (a && b) ≡ (b && a)
    swapped true true = refl
    swapped true false = refl
    swapped false true = refl
    swapped false false = refl

    by : (depth : Depth)
        → ((row.entry == number) && is_in_table depth (clut_entry_of epoch place))
        ≡ ((bits_of row.depth == bits_of depth) && (row.entry == number))
    by Two = swapped (row.entry == number) (bits_of row.depth == 2)
    by Four = swapped (row.entry == number) (bits_of row.depth == 4)
    by Eight = swapped (row.entry == number) (bits_of row.depth == 8)

-- the last of the items that pass a test gives what the last of all gives that passes it
given_kept : {X Y : Type 0} (f : X → Option Y) (p : X → Bool) (xs : List X)
    → last_given f (filter p xs) ≡ last_given (λ x. cond (p x) (f x) None) xs
given_kept f p [] = refl
given_kept {X} {Y} f p (x ∷ xs) = by (p x) (given_kept f p xs)
  where
    none : (found : Option Y) → found ≡ option_or found None
    none None = refl
    none (Some y) = refl

    by : (b : Bool) → last_given f (filter p xs) ≡ last_given (λ x. cond (p x) (f x) None) xs
        → last_given f (cond b (x ∷ filter p xs) (filter p xs))
        ≡ option_or (last_given (λ x. cond (p x) (f x) None) xs) (cond b (f x) None)
    by true again = ap (λ found. option_or found (f x)) again
    by false again = again ∙ none (last_given (λ x. cond (p x) (f x) None) xs)

last_same : {X Y : Type 0} (f g : X → Option Y) (xs : List X) → ((x : X) → f x ≡ g x)
    → last_given f xs ≡ last_given g xs
last_same f g [] same = refl
last_same f g (x ∷ xs) same = λ i. option_or (last_same f g xs same i) (same x i)

last_mapped : {X Y Z : Type 0} (f : Y → Option Z) (g : X → Y) (xs : List X)
    → last_given f (map g xs) ≡ last_given (λ x. f (g x)) xs
last_mapped f g [] = refl
last_mapped f g (x ∷ xs) = ap (λ found. option_or found (f (g x))) (last_mapped f g xs)

-- what the rows of a set give an entry is what its latest row gives, where it is sent
pub rows_give : (epoch : Epoch) (whole : Bool) (clut tick : ℕ) (depth : Depth) (number : ℕ)
    → number < code_count depth
    → last_given (colour_by_entry depth number)
    (map (clut_entry_of epoch) (rows_from epoch.colours whole tick (defined_rows epoch.colours clut tick)))
    ≡ given_latest epoch.colours (is_sent_row epoch.colours whole tick)
    (latest_of epoch.colours clut (entry_of depth number) tick)
rows_give epoch whole clut tick depth number small =
    last_mapped (colour_by_entry depth number) (clut_entry_of epoch)
    (rows_from epoch.colours whole tick (defined_rows epoch.colours clut tick))
    ∙ by whole
    ∙ given_all_entries epoch.colours clut tick (is_sent_row epoch.colours whole tick) (entry_of depth number)
    all_entries
    ∙ ap (λ b. cond b
    (given_latest epoch.colours (is_sent_row epoch.colours whole tick)
    (latest_of epoch.colours clut (entry_of depth number) tick)) None) (is_an_entry depth number small)
  where
    in_test : (b : Bool) (place : ℕ)
        → cond b (colour_by_entry depth number (clut_entry_of epoch place)) None
        ≡ cond (b && is_of_entry (entry_of depth number) (row_at epoch.colours place))
        (Some (colour_at epoch.colours place)) None
    in_test true place = entry_gives epoch depth number place
    in_test false place = refl

    by : (whole : Bool)
        → last_given (λ place. colour_by_entry depth number (clut_entry_of epoch place))
        (rows_from epoch.colours whole tick (defined_rows epoch.colours clut tick))
        ≡ last_given (given_by epoch.colours (is_sent_row epoch.colours whole tick) (entry_of depth number))
        (defined_rows epoch.colours clut tick)
    by true =
        last_same (λ place. colour_by_entry depth number (clut_entry_of epoch place))
        (given_by epoch.colours (is_sent_row epoch.colours true tick) (entry_of depth number))
        (defined_rows epoch.colours clut tick) (entry_gives epoch depth number)
    by false =
        given_kept (λ place. colour_by_entry depth number (clut_entry_of epoch place))
        (λ place. (row_at epoch.colours place).tick == tick) (defined_rows epoch.colours clut tick)
        ∙ last_same
        (λ place. cond ((row_at epoch.colours place).tick == tick)
        (colour_by_entry depth number (clut_entry_of epoch place)) None)
        (given_by epoch.colours (is_sent_row epoch.colours false tick) (entry_of depth number))
        (defined_rows epoch.colours clut tick)
        (λ place. in_test ((row_at epoch.colours place).tick == tick) place)
