-- What taken CLUT segments place in the tables is what the definitions say.
use Rattle.std.proofs.Common.{◌≡◌, ◌∙◌, ℕ, ◌==◌, ◌<◌, ◌||◌, ◌&&◌, Bool, true, false, cond, List, [], ◌∷◌, length, map, Option, Some, None, refl, sym, ap, arith}
use Rattle.std.specs.Prelude.{filter_map, flat_map, nat_lt, option_and_then, unwrap_or}
use Rattle.std.specs.List.{list_any, cons_option}
use Rattle.std.specs.Option.{option_or}
use Rattle.std.proofs.lemmas.Bool.{eq-eqb}
use Rattle.std.proofs.lemmas.Bool.Decides.{nat_tests}
use Rattle.std.proofs.lemmas.List.Folds.{list_any-append}
use Rattle.sub_base.specs.Colour.{default_of}
use Rattle.sub_base.specs.Depth as depths
use Rattle.sub_base.specs.Depth.{code_count}
use Rattle.sub_base.specs.Lists.{first_given, last_given}
use Rattle.sub_base.specs.declared.colour.Colour.{Colour}
use Rattle.sub_base.specs.declared.depth.Depth.{Depth}
use Rattle.sub_base.specs.declared.depth.Depth.TheVariants.{Two, Four, Eight}
use Rattle.stream_syntax.specs.Segments.{Clut}
use Rattle.stream_syntax.specs.declared.clut.ClutEntry.{ClutEntry}
use Rattle.decoder_model.specs.Contents.{clut_of, where_passes}
use Rattle.decoder_model.specs.Ink.{colour_by_clut, colour_by_entry, colour_by_segment, ink_of, is_in_table}
use Rattle.decoder_model.specs.Nodes.{TableEntry, entries_of_clut, in_table, in_tables, is_same_entry, table_entries}
use Rattle.decoder_model.specs.Readings.{Content}
use Rattle.page_core.specs.Private.ClutSteps.{Placed, colour_at, entries_placed, entry_of, in_depth, in_depths, placed_by, placed_colour, with_entries_of, with_segment}
use Rattle.page_core.proofs.Counts.DifferentItems.{among_different, as_many_different}
use Rattle.page_core.proofs.Counts.MarkTables.{same_entry, same_itself}
use Rattle.page_core.proofs.Counts.PixelRoom.{turned}

-- ---- colours

chosen_none : {X : Type 0} (b : Bool) (rest : Option X) → option_or (cond b None None) rest ≡ rest
chosen_none true rest = refl
chosen_none false rest = refl

-- an entry in the table of its depth
given_in_depth : (clut : ℕ) (entry : ClutEntry) (depth : Depth) (placed : List Placed) (id number : ℕ)
    → number < code_count depth
    → first_given (colour_at (record { clut = id; depth = depth; entry = number })) (in_depth clut entry depth placed)
    ≡ option_or (cond (clut == id) (colour_by_entry depth number entry) None)
    (first_given (colour_at (record { clut = id; depth = depth; entry = number })) placed)
given_in_depth clut entry depth placed id number low =
    by (is_in_table depth entry) (nat_lt entry.entry (code_count depth)) (clut == id) (entry.entry == number) refl refl
    (turned id clut) (turned number entry.entry) (eq-eqb (depths.bits_of depth) (depths.bits_of depth) refl)
  where
    asked : TableEntry
    asked = record { clut = id; depth = depth; entry = number }

    one : Placed
    one = record { entry = record { clut = clut; depth = depth; entry = entry.entry }; colour = entry.colour }

    rest : Option Colour
    rest = first_given (colour_at asked) placed

    by : (flagged inside here same : Bool) → nat_lt entry.entry (code_count depth) ≡ inside
        → (entry.entry == number) ≡ same → (id == clut) ≡ here → (number == entry.entry) ≡ same
        → (depths.bits_of depth == depths.bits_of depth) ≡ true
        → first_given (colour_at asked) (cond (flagged && inside) (one ∷ placed) placed)
        ≡ option_or (cond here (cond (same && flagged) (Some entry.colour) None) None) rest
    by true true here same is equal at names depth_is =
        ap (λ b. option_or (cond b (Some entry.colour) None) rest) (λ i. at i && (depth_is i && names i))
        ∙ chosen here same
      where
        chosen : (a b : Bool)
            → option_or (cond (a && (true && b)) (Some entry.colour) None) rest
            ≡ option_or (cond a (cond (b && true) (Some entry.colour) None) None) rest
        chosen true true = refl
        chosen true false = refl
        chosen false b = refl
    by true false here true is equal at names depth_is = absurd (grind (arith, nat_tests, is, equal, low))
    by true false here false is equal at names depth_is = sym (chosen_none here rest)
    by false inside here true is equal at names depth_is = sym (chosen_none here rest)
    by false inside here false is equal at names depth_is = sym (chosen_none here rest)

-- one in the table of another depth
given_in_other : (clut : ℕ) (entry : ClutEntry) (other : Depth) (placed : List Placed) (asked : TableEntry)
    → (depths.bits_of asked.depth == depths.bits_of other) ≡ false
    → first_given (colour_at asked) (in_depth clut entry other placed) ≡ first_given (colour_at asked) placed
given_in_other clut entry other placed asked differ =
    by (is_in_table other entry && nat_lt entry.entry (code_count other))
  where
    none : (a b c : Bool) → b ≡ false
        → option_or (cond (a && (b && c)) (Some entry.colour) None) (first_given (colour_at asked) placed)
        ≡ first_given (colour_at asked) placed
    none true true c is = absurd (cc)
    none true false c is = refl
    none false b c is = refl

    by : (b : Bool)
        → first_given (colour_at asked)
        (cond b (record { entry = record { clut = clut; depth = other; entry = entry.entry }; colour = entry.colour }
        ∷ placed) placed) ≡ first_given (colour_at asked) placed
    by true =
        none (asked.clut == clut) (depths.bits_of asked.depth == depths.bits_of other) (asked.entry == entry.entry)
        differ
    by false = refl

given_in_depths : (clut : ℕ) (entry : ClutEntry) (depth : Depth) (placed : List Placed) (id number : ℕ)
    → number < code_count depth
    → first_given (colour_at (record { clut = id; depth = depth; entry = number })) (in_depths clut entry placed)
    ≡ option_or (cond (clut == id) (colour_by_entry depth number entry) None)
    (first_given (colour_at (record { clut = id; depth = depth; entry = number })) placed)
given_in_depths clut entry Two placed id number low =
    given_in_other clut entry Eight (in_depth clut entry Four (in_depth clut entry Two placed))
    (record { clut = id; depth = Two; entry = number }) refl
    ∙ given_in_other clut entry Four (in_depth clut entry Two placed)
    (record { clut = id; depth = Two; entry = number }) refl
    ∙ given_in_depth clut entry Two placed id number low
given_in_depths clut entry Four placed id number low =
    given_in_other clut entry Eight (in_depth clut entry Four (in_depth clut entry Two placed))
    (record { clut = id; depth = Four; entry = number }) refl
    ∙ given_in_depth clut entry Four (in_depth clut entry Two placed) id number low
    ∙ ap (option_or (cond (clut == id) (colour_by_entry Four number entry) None))
    (given_in_other clut entry Two placed (record { clut = id; depth = Four; entry = number }) refl)
given_in_depths clut entry Eight placed id number low =
    given_in_depth clut entry Eight (in_depth clut entry Four (in_depth clut entry Two placed)) id number low
    ∙ ap (option_or (cond (clut == id) (colour_by_entry Eight number entry) None))
    (given_in_other clut entry Four (in_depth clut entry Two placed)
    (record { clut = id; depth = Eight; entry = number }) refl
    ∙ given_in_other clut entry Two placed (record { clut = id; depth = Eight; entry = number }) refl)

-- the entries of a segment, the last one before all others
given_by_entries : (clut : ℕ) (entries : List ClutEntry) (depth : Depth) (placed : List Placed) (id number : ℕ)
    → number < code_count depth
    → first_given (colour_at (record { clut = id; depth = depth; entry = number }))
    (with_entries_of clut entries placed)
    ≡ option_or (cond (clut == id) (last_given (colour_by_entry depth number) entries) None)
    (first_given (colour_at (record { clut = id; depth = depth; entry = number })) placed)
given_by_entries clut [] depth placed id number low =
    sym (chosen_none (clut == id)
    (first_given (colour_at (record { clut = id; depth = depth; entry = number })) placed))
given_by_entries clut (entry ∷ entries) depth placed id number low =
    given_by_entries clut entries depth (in_depths clut entry placed) id number low
    ∙ ap (option_or (cond (clut == id) (last_given (colour_by_entry depth number) entries) None))
    (given_in_depths clut entry depth placed id number low)
    ∙ joined (clut == id) (last_given (colour_by_entry depth number) entries) (colour_by_entry depth number entry)
    (first_given (colour_at (record { clut = id; depth = depth; entry = number })) placed)
  where
    joined : (here : Bool) (last first rest : Option Colour)
        → option_or (cond here last None) (option_or (cond here first None) rest)
        ≡ option_or (cond here (option_or last first) None) rest
    joined true (Some x) first rest = refl
    joined true None first rest = refl
    joined false last first rest = refl

-- the colour that was placed is the one that the segments give
pub placed_given : (depth : Depth) (segments : List Content) (id number : ℕ) → number < code_count depth
    → first_given (colour_at (record { clut = id; depth = depth; entry = number })) (placed_by segments)
    ≡ first_given (colour_by_segment id depth number) segments
placed_given depth [] id number low = refl
placed_given depth (content ∷ segments) id number low =
    by (clut_of content) (placed_given depth segments id number low)
  where
    asked : TableEntry
    asked = record { clut = id; depth = depth; entry = number }

    passed : (clut : Clut) (here : Bool) (rest : Option Colour)
        → option_or (cond here (last_given (colour_by_entry depth number) clut.entries) None) rest
        ≡ option_or (option_and_then (colour_by_clut depth number) (cond here (Some clut) None)) rest
    passed clut true rest = refl
    passed clut false rest = refl

    by : (found : Option Clut)
        → first_given (colour_at asked) (placed_by segments)
        ≡ first_given (colour_by_segment id depth number) segments
        → first_given (colour_at asked) (with_segment found (placed_by segments))
        ≡ option_or
        (option_and_then (colour_by_clut depth number) (where_passes (λ clut. clut.clut == id) found))
        (first_given (colour_by_segment id depth number) segments)
    by None rest = rest
    by (Some clut) rest =
        given_by_entries clut.clut clut.entries depth (placed_by segments) id number low
        ∙ ap (option_or (cond (clut.clut == id) (last_given (colour_by_entry depth number) clut.entries) None)) rest
        ∙ passed clut (clut.clut == id) (first_given (colour_by_segment id depth number) segments)

-- ---- which are set

module _ (asked : TableEntry) where
  named : List Placed → Bool
  named placed = list_any (is_same_entry asked) (map entry_of placed)

  hit_in : ℕ → ClutEntry → Depth → Bool
  hit_in clut entry depth =
      cond (is_in_table depth entry && nat_lt entry.entry (code_count depth))
      (is_same_entry asked (record { clut = clut; depth = depth; entry = entry.entry })) false

  named_in_depth : (clut : ℕ) (entry : ClutEntry) (depth : Depth) (placed : List Placed)
      → named (in_depth clut entry depth placed) ≡ (hit_in clut entry depth || named placed)
  unfolding named hit_in
  named_in_depth clut entry depth placed = by (is_in_table depth entry && nat_lt entry.entry (code_count depth))
    where
      one : Placed
      one = record { entry = record { clut = clut; depth = depth; entry = entry.entry }; colour = entry.colour }

      by : (b : Bool)
          → list_any (is_same_entry asked) (map entry_of (cond b (one ∷ placed) placed))
          ≡ (cond b (is_same_entry asked one.entry) false || list_any (is_same_entry asked) (map entry_of placed))
      by true = refl
      by false = refl

  named_in_table : (clut : ℕ) (entry : ClutEntry) (depth : Depth) (others : List TableEntry)
      → list_any (is_same_entry asked) (cons_option (in_table clut entry depth) others)
      ≡ (hit_in clut entry depth || list_any (is_same_entry asked) others)
  unfolding hit_in
  named_in_table clut entry depth others = by (is_in_table depth entry && nat_lt entry.entry (code_count depth))
    where
      one : TableEntry
      one = record { clut = clut; depth = depth; entry = entry.entry }

      by : (b : Bool)
          → list_any (is_same_entry asked) (cons_option (cond b (Some one) None) others)
          ≡ (cond b (is_same_entry asked one) false || list_any (is_same_entry asked) others)
      by true = refl
      by false = refl

  named_in_depths : (clut : ℕ) (entry : ClutEntry) (placed : List Placed)
      → named (in_depths clut entry placed)
      ≡ (list_any (is_same_entry asked) (in_tables clut entry) || named placed)
  named_in_depths clut entry placed =
      named_in_depth clut entry Eight (in_depth clut entry Four (in_depth clut entry Two placed))
      ∙ ap (λ b. hit_in clut entry Eight || b)
      (named_in_depth clut entry Four (in_depth clut entry Two placed)
      ∙ ap (λ b. hit_in clut entry Four || b) (named_in_depth clut entry Two placed))
      ∙ turned_round (hit_in clut entry Two) (hit_in clut entry Four) (hit_in clut entry Eight) (named placed)
      ∙ ap (λ b. b || named placed)
      (sym (named_in_table clut entry Two (filter_map (in_table clut entry) (Four ∷ Eight ∷ []))
      ∙ ap (λ b. hit_in clut entry Two || b)
      (named_in_table clut entry Four (filter_map (in_table clut entry) (Eight ∷ []))
      ∙ ap (λ b. hit_in clut entry Four || b) (named_in_table clut entry Eight []))))
    where
      turned_round : (a b c rest : Bool) → (c || (b || (a || rest))) ≡ ((a || (b || (c || false))) || rest)
      turned_round true true true rest = refl
      turned_round true true false rest = refl
      turned_round true false true rest = refl
      turned_round true false false rest = refl
      turned_round false true true rest = refl
      turned_round false true false rest = refl
      turned_round false false true rest = refl
      turned_round false false false rest = refl

  named_by_entries : (clut : ℕ) (entries : List ClutEntry) (placed : List Placed)
      → named (with_entries_of clut entries placed)
      ≡ (list_any (is_same_entry asked) (flat_map (in_tables clut) entries) || named placed)
  named_by_entries clut [] placed = refl
  named_by_entries clut (entry ∷ entries) placed =
      named_by_entries clut entries (in_depths clut entry placed)
      ∙ ap (λ b. list_any (is_same_entry asked) (flat_map (in_tables clut) entries) || b)
      (named_in_depths clut entry placed)
      ∙ turned_round (list_any (is_same_entry asked) (in_tables clut entry))
      (list_any (is_same_entry asked) (flat_map (in_tables clut) entries)) (named placed)
      ∙ ap (λ b. b || named placed)
      (sym (list_any-append (is_same_entry asked) (in_tables clut entry) (flat_map (in_tables clut) entries)))
    where
      turned_round : (a b rest : Bool) → (b || (a || rest)) ≡ ((a || b) || rest)
      turned_round true true rest = refl
      turned_round true false rest = refl
      turned_round false true rest = refl
      turned_round false false rest = refl

  placed_named : (segments : List Content)
      → named (placed_by segments)
      ≡ list_any (is_same_entry asked) (flat_map entries_of_clut (filter_map clut_of segments))
  unfolding named
  placed_named [] = refl
  placed_named (content ∷ segments) = by (clut_of content) (placed_named segments)
    where
      by : (found : Option Clut)
          → named (placed_by segments)
          ≡ list_any (is_same_entry asked) (flat_map entries_of_clut (filter_map clut_of segments))
          → named (with_segment found (placed_by segments))
          ≡ list_any (is_same_entry asked)
          (flat_map entries_of_clut (cons_option found (filter_map clut_of segments)))
      by None rest = rest
      by (Some clut) rest =
          named_by_entries clut.clut clut.entries (placed_by segments)
          ∙ ap (λ b. list_any (is_same_entry asked) (flat_map (in_tables clut.clut) clut.entries) || b) rest
          ∙ sym (list_any-append (is_same_entry asked) (flat_map (in_tables clut.clut) clut.entries)
          (flat_map entries_of_clut (filter_map clut_of segments)))

  pub among_placed : (segments : List Content)
      → list_any (is_same_entry asked) (map entry_of (placed_by segments))
      ≡ list_any (is_same_entry asked) (flat_map entries_of_clut (filter_map clut_of segments))
  unfolding named
  among_placed segments = placed_named segments

-- ---- by the definitions

pub placed_ink : (segments : List Content) (id : ℕ) (depth : Depth) (number : ℕ) → number < code_count depth
    → placed_colour (placed_by segments) (record { clut = id; depth = depth; entry = number })
    ≡ ink_of (record { segments = segments }) id depth number
unfolding ink_of
placed_ink segments id depth number low =
    ap (λ (o : Option Colour). unwrap_or o (default_of depth number)) (placed_given depth segments id number low)

pub placed_member : (segments : List Content) (asked : TableEntry)
    → list_any (is_same_entry asked) (map entry_of (placed_by segments))
    ≡ list_any (is_same_entry asked) (table_entries (record { segments = segments }))
unfolding table_entries
placed_member segments asked =
    among_placed asked segments
    ∙ sym (among_different is_same_entry same_itself same_entry asked
    (flat_map entries_of_clut (filter_map clut_of segments)))

pub placed_count : (segments : List Content)
    → entries_placed (placed_by segments) ≡ length (table_entries (record { segments = segments }))
unfolding table_entries
placed_count segments =
    as_many_different is_same_entry same_itself same_entry (map entry_of (placed_by segments))
    (flat_map entries_of_clut (filter_map clut_of segments)) (λ asked. among_placed asked segments)
