-- The listings, CLUTs and table entries that a receiver has of an epoch take no more nodes than the plan says.
use Rattle.std.proofs.Common.{◌≡◌, ◌∙◌, ℕ, zero, suc, ◌==◌, ◌&&◌, ◌<◌, ◌≤◌, nat_lt, Bool, true, false, cond, eqb, List, [], ◌∷◌, length, map, get_or, sum_by, Option, Some, None, refl, sym, ap, subst, arith}
use Rattle.std.specs.Prelude.{All, filter_map}
use Rattle.std.specs.List.{Contains, cons_option, flat_map, list_any, range_with_len}
use Rattle.std.specs.Option.{option_or, option_and_then}
use Rattle.std.proofs.lemmas.Bool.Decides.{nat_tests}
use Rattle.std.proofs.lemmas.List.{length-map, length-append}
use Rattle.std.proofs.lemmas.List.Elements.{All-head, All-tail, All-cons, All-append, All-contains_itself}
use Rattle.std.proofs.lemmas.List.Folds.{list_any_at}
use Rattle.std.proofs.lemmas.List.Sums.{sum_by-cons}
use Rattle.sub_base.specs.Depth.{bits_of, code_count}
use Rattle.sub_base.specs.Lists.{different}
use Rattle.sub_base.specs.Picture.{Picture}
use Rattle.sub_base.specs.declared.depth.Depth.{Depth}
use Rattle.sub_base.specs.declared.depth.Depth.TheVariants.{Two, Four, Eight}
use Rattle.stream_syntax.specs.Segments.{SegmentValue, of_page, of_region, of_clut, of_object, of_display, end_of_set, passed_over, Clut}
use Rattle.stream_syntax.specs.declared.clut.ClutEntry.{ClutEntry}
use Rattle.cue_records.specs.declared.row_values.ColourRow.{ColourRow}
use Rattle.cue_list.specs.declared.epoch.Epoch.{Epoch}
use Rattle.cue_records.specs.declared.region.Region.{Region as AuthoredRegion}
use Rattle.page_epoch.proofs.ListLaws.{All-none, All-pieces, sum_mapped}
use Rattle.page_epoch.proofs.RowLaws.{entry_of, own_within}
use Rattle.page_epoch.specs.Live.{places_below}
use Rattle.page_epoch.specs.SentCluts.{no_row, row_at, rows_of_clut, is_of_entry, defined_rows, clut_with, clut_version as planned_version, clut_count, sent_clut, named_cluts, sent_cluts}
use Rattle.page_epoch.specs.SentRegions.{drawn_count}
use Rattle.page_epoch.specs.declared.planned_set.SentClut.{SentClut}
use Rattle.set_coder.specs.SetSegments.{clut_entry_of}
use Rattle.decoder_model.specs.Contents.{clut_of, clut_named}
use Rattle.decoder_model.specs.Ink.{is_in_table}
use Rattle.decoder_model.specs.Nodes.{is_same, region_ids, clut_id, clut_ids, TableEntry, is_same_entry, in_table, in_tables, entries_of_clut, table_entries, listing_count, listings_held}
use Rattle.decoder_model.specs.Readings.{Content}
use Rattle.decoder_model.specs.Taken.{last_region, last_clut, version_of_clut}
use Rattle.decoder_model.proofs.NoFaults.{sum_within}
use Rattle.shown_plan.proofs.Segments.CarriedSets.{in_range}
use Rattle.shown_plan.proofs.Steps.ClutChanges.{undefined_unknown}
use Rattle.shown_plan.proofs.Steps.ClutRows.{AreSeenRows, defined_own, row_defined}
use Rattle.shown_plan.proofs.Steps.Keeps.{IsSentEntry, IsSentBy, IsSent, KeepsRegion, KeepsClut}
use Rattle.shown_plan.proofs.Segments.Lists.{all_at, kept_one, kept_pass, place_there, piece_there, mapped_there, sum_below, sum_ones, different_all, different_pairs}
use Rattle.shown_plan.proofs.Steps.SetPixels.{own_region, IsKnownId, AreKnownIds, ids_within}

-- ---- listings

held_by_id : Epoch → List ℕ → ℕ → ℕ
held_by_id epoch seen id = drawn_count epoch.cues id seen

-- the listings of a receiver's regions are no more than the plan counts
pub listings_within : (pictures : List Picture) (epoch : Epoch) (tick : ℕ) (earlier : List ℕ)
    (taken : List Content) → AreKnownIds epoch taken
    → All (KeepsRegion pictures epoch tick earlier taken) epoch.regions
    → listings_held (record { segments = taken })
    ≤ sum_by (λ (region : AuthoredRegion). drawn_count epoch.cues region.id (tick ∷ earlier)) epoch.regions
unfolding held_by_id
listings_within pictures epoch tick earlier taken are kept =
    omega (
      arith,
      sum_below (λ id. listing_count (last_region id taken)) (held_by_id epoch (tick ∷ earlier))
          (region_ids (record { segments = taken }))
          (λ k d within. few (get_or (region_ids (record { segments = taken })) k d) (are.known k d within)),
      ids_within epoch taken (held_by_id epoch (tick ∷ earlier)) are,
      sum_mapped (held_by_id epoch (tick ∷ earlier)) (λ (region : AuthoredRegion). region.id) epoch.regions,
    )
  where
    few : (id : ℕ) → IsKnownId epoch taken id
        → listing_count (last_region id taken) ≤ held_by_id epoch (tick ∷ earlier) id
    few id known =
        (let own = own_region epoch.regions known.0.head.region known.2.own in
        let region = all_at (KeepsRegion pictures epoch tick earlier taken) epoch.regions own.0 kept own.1 in
        let same : own.0.id ≡ id = own.2 ∙ known.3 in
        let count : listing_count (last_region id taken) ≡ length region.last.listings =
        ap (λ (n : ℕ). listing_count (last_region n taken)) (sym same) ∙ ap listing_count region.known in
        let most : drawn_count epoch.cues own.0.id (tick ∷ earlier) ≡ drawn_count epoch.cues id (tick ∷ earlier) =
        ap (λ (n : ℕ). drawn_count epoch.cues n (tick ∷ earlier)) same in
        let enough = region.few in
        omega (arith, count, most, enough))

-- ---- CLUTs

-- a CLUT that is defined by a tick is sent by a set that is not normal
defined_sent : (epoch : Epoch) (tick : ℕ) (earlier : List ℕ) (clut : ℕ) (first : ℕ) (rest : List ℕ)
    → All (λ (row : ColourRow). row.clut < 256) epoch.colours
    → defined_rows epoch.colours clut tick ≡ first ∷ rest
    → Contains (sent_cluts epoch.colours true (tick ∷ earlier))
    (record { clut = clut; version = planned_version epoch.colours clut (tick ∷ earlier); rows = first ∷ rest })
defined_sent epoch tick earlier clut first rest small is =
    piece_there (sent_clut epoch.colours true (tick ∷ earlier)) (named_cluts epoch.colours) clut
    (record { clut = clut; version = planned_version epoch.colours clut (tick ∷ earlier); rows = first ∷ rest })
    named
    (subst (λ (sent : List SentClut). Contains sent
    (record {
      clut = clut;
      version = planned_version epoch.colours clut (tick ∷ earlier);
      rows = first
          ∷ rest;
    })) (sym (ap (clut_with clut (planned_version epoch.colours clut (tick ∷ earlier))) is))
    (0, omega arith, refl))
  where
    own : Contains (rows_of_clut epoch.colours clut) first × ((row_at epoch.colours first).tick ≤ tick)
    own =
        all_at (λ place. Contains (rows_of_clut epoch.colours clut) place
        × ((row_at epoch.colours place).tick ≤ tick)) (defined_rows epoch.colours clut tick) first
        (defined_own epoch.colours clut tick)
        (subst (λ (rows : List ℕ). Contains rows first) (sym is) (0, omega arith, refl))

    within : first < length epoch.colours
    within =
        all_at (λ place. place < length epoch.colours) (rows_of_clut epoch.colours clut) first
        (own_within epoch.colours clut) own.0

    mine : ((row_at epoch.colours first).clut == clut) ≡ true
    mine =
        all_at (λ place. ((row_at epoch.colours place).clut == clut) ≡ true) (rows_of_clut epoch.colours clut) first
        (kept_pass (λ place. (row_at epoch.colours place).clut == clut) (places_below (length epoch.colours))) own.0

    low : clut < 256
    low = (let here = small first no_row within in let own_clut = mine in grind (arith, nat_tests))

    named : Contains (named_cluts epoch.colours) clut
    named =
        kept_one (λ clut. list_any (λ (row : ColourRow). row.clut == clut) epoch.colours)
        (range_with_len 0 clut_count) clut (in_range clut low)
        (list_any_at (λ (row : ColourRow). row.clut == clut) epoch.colours first no_row within mine)

-- what is known of a CLUT that a receiver has
abbrev IsDefinedClut : Epoch → ℕ → List ℕ → ℕ → Type 0
IsDefinedClut epoch tick earlier clut =
    Contains (map (λ (sent : SentClut). sent.clut) (sent_cluts epoch.colours true (tick ∷ earlier))) clut

clut_defined : (epoch : Epoch) (tick : ℕ) (earlier : List ℕ) (taken : List Content) (clut : ℕ) (last : Clut)
    → All (λ (row : ColourRow). row.clut < 256) epoch.colours → AreSeenRows epoch.colours clut tick earlier
    → KeepsClut epoch.colours tick earlier taken clut
    → last_clut clut taken ≡ Some last → IsDefinedClut epoch tick earlier clut
clut_defined epoch tick earlier taken clut last small rows kept known = by (defined_rows epoch.colours clut tick) refl
  where
    by : (found : List ℕ) → defined_rows epoch.colours clut tick ≡ found → IsDefinedClut epoch tick earlier clut
    by [] is =
        absurd (let no : Some last.version ≡ None = sym (ap version_of_clut known) ∙ kept.version
        ∙ undefined_unknown epoch.colours clut tick earlier rows is in cc)
    by (first ∷ rest) is =
        mapped_there (λ (sent : SentClut). sent.clut) (sent_cluts epoch.colours true (tick ∷ earlier))
        (record { clut = clut; version = planned_version epoch.colours clut (tick ∷ earlier); rows = first ∷ rest })
        (defined_sent epoch tick earlier clut first rest small is)

some_clut : (id : ℕ) (segments : List Content) (content : Content) (clut : Clut) → Contains segments content
    → clut_named id content ≡ Some clut → (last : Clut) × (last_clut id segments ≡ Some last)
some_clut id [] content clut there named = absurd (omega (arith, there.1))
some_clut id (first ∷ segments) content clut (zero, within, is) named = by (clut_named id first) refl
  where
    by : (found : Option Clut) → clut_named id first ≡ found → (last : Clut)
        × (option_or (clut_named id first) (last_clut id segments) ≡ Some last)
    by (Some last) e = (last, ap (λ found. option_or found (last_clut id segments)) e)
    by None e =
        absurd (let same : first ≡ content = is in let no : None ≡ Some clut = sym e ∙ ap (clut_named id) same
        ∙ named in cc)
some_clut id (first ∷ segments) content clut (suc k, within, is) named =
    by (clut_named id first) refl (some_clut id segments content clut (k, omega (arith, within), is) named)
  where
    by : (found : Option Clut) → clut_named id first ≡ found → (last : Clut)
        × (last_clut id segments ≡ Some last) → (last : Clut)
        × (option_or (clut_named id first) (last_clut id segments) ≡ Some last)
    by (Some last) e again = (last, ap (λ found. option_or found (last_clut id segments)) e)
    by None e again = (again.0, ap (λ found. option_or found (last_clut id segments)) e ∙ again.1)

clut_itself : (content : Content) (clut : Clut) → clut_of content ≡ Some clut
    → clut_named clut.clut content ≡ Some clut
clut_itself content clut e =
    ap (λ found. option_and_then (λ (c : Clut). cond (eqb c.clut clut.clut) (Some c) None) found) e
    ∙ ap (λ b. cond b (Some clut) None)
    (let same : eqb clut.clut clut.clut ≡ true = grind (arith, nat_tests) in same)

-- each CLUT among the segments of a receiver is defined
each_defined : (epoch : Epoch) (tick : ℕ) (earlier : List ℕ) (all taken : List Content)
    → All (λ (row : ColourRow). row.clut < 256) epoch.colours
    → ((clut : ℕ) → AreSeenRows epoch.colours clut tick earlier)
    → ((clut : ℕ) → KeepsClut epoch.colours tick earlier all clut) → All (Contains all) taken
    → All (IsDefinedClut epoch tick earlier) (map clut_id (filter_map clut_of taken))
each_defined epoch tick earlier all [] small rows kept inside = All-none _
each_defined epoch tick earlier all (content ∷ taken) small rows kept inside =
    by (clut_of content) refl
    (each_defined epoch tick earlier all taken small rows kept (All-tail (Contains all) content taken inside))
  where
    by : (found : Option Clut) → clut_of content ≡ found
        → All (IsDefinedClut epoch tick earlier) (map clut_id (filter_map clut_of taken))
        → All (IsDefinedClut epoch tick earlier) (map clut_id (filter_map clut_of (content ∷ taken)))
    by None e again =
        subst (λ (found : Option Clut). All (IsDefinedClut epoch tick earlier)
        (map clut_id (cons_option found (filter_map clut_of taken)))) (sym e) again
    by (Some clut) e again =
        subst (λ (found : Option Clut). All (IsDefinedClut epoch tick earlier)
        (map clut_id (cons_option found (filter_map clut_of taken)))) (sym e)
        (All-cons (IsDefinedClut epoch tick earlier) clut.clut (map clut_id (filter_map clut_of taken))
        (let last = some_clut clut.clut all content clut (All-head (Contains all) content taken inside)
        (clut_itself content clut e) in clut_defined epoch tick earlier all clut.clut last.0 small (rows clut.clut)
        (kept clut.clut) last.1) again)

-- the CLUTs that a receiver has are no more than those that are defined
pub cluts_within : (epoch : Epoch) (tick : ℕ) (earlier : List ℕ) (taken : List Content)
    → All (λ (row : ColourRow). row.clut < 256) epoch.colours
    → ((clut : ℕ) → AreSeenRows epoch.colours clut tick earlier)
    → ((clut : ℕ) → KeepsClut epoch.colours tick earlier taken clut)
    → length (clut_ids (record { segments = taken }))
    ≤ length (sent_cluts epoch.colours true (tick ∷ earlier))
unfolding clut_ids
cluts_within epoch tick earlier taken small rows kept =
    omega (
      arith,
      sum_ones (different is_same (map clut_id (filter_map clut_of taken))),
      sum_ones (map (λ (sent : SentClut). sent.clut) (sent_cluts epoch.colours true (tick ∷ earlier))),
      length-map (sent_cluts epoch.colours true (tick ∷ earlier)) (λ (sent : SentClut). sent.clut),
      sum_within (λ (id : ℕ). 1) (different is_same (map clut_id (filter_map clut_of taken)))
          (map (λ (sent : SentClut). sent.clut) (sent_cluts epoch.colours true (tick ∷ earlier)))
          (different_pairs is_same (map clut_id (filter_map clut_of taken))
          (λ (id : ℕ). (let same : (id == id) ≡ true = grind (arith, nat_tests) in same)))
          (different_all is_same (IsDefinedClut epoch tick earlier) (map clut_id (filter_map clut_of taken))
          (each_defined epoch tick earlier taken taken small rows kept (All-contains_itself taken))),
    )

-- ---- entries of tables

-- the entry of a table that a colour row sets
abbrev entry_by_row : Epoch → ℕ → ℕ → TableEntry
entry_by_row epoch clut place =
    record { clut = clut; depth = (row_at epoch.colours place).depth; entry = (row_at epoch.colours place).entry }

-- all entries that are defined by a tick
abbrev defined_entries : Epoch → List ℕ → List TableEntry
defined_entries epoch seen =
    flat_map (λ (sent : SentClut). map (entry_by_row epoch sent.clut) sent.rows) (sent_cluts epoch.colours true seen)

count_defined : (epoch : Epoch) (cluts : List SentClut)
    → length (flat_map (λ (sent : SentClut). map (entry_by_row epoch sent.clut) sent.rows) cluts)
    ≡ sum_by (λ (sent : SentClut). length sent.rows) cluts
count_defined epoch [] = refl
count_defined epoch (sent ∷ cluts) =
    omega (
      arith,
      length-append (map (entry_by_row epoch sent.clut) sent.rows)
          (flat_map (λ (sent : SentClut). map (entry_by_row epoch sent.clut) sent.rows) cluts),
      length-map sent.rows (entry_by_row epoch sent.clut),
      sum_by-cons (λ (sent : SentClut). length sent.rows) sent cluts,
      count_defined epoch cluts,
    )

same_bits : (a b : Depth) → bits_of a ≡ bits_of b → a ≡ b
same_bits Two Two e = refl
same_bits Four Four e = refl
same_bits Eight Eight e = refl
same_bits Two Four e = absurd (omega (arith, e))
same_bits Two Eight e = absurd (omega (arith, e))
same_bits Four Two e = absurd (omega (arith, e))
same_bits Four Eight e = absurd (omega (arith, e))
same_bits Eight Two e = absurd (omega (arith, e))
same_bits Eight Four e = absurd (omega (arith, e))

-- the row at a place, of that CLUT and by the tick, sets an entry that is defined
row_entry_defined : (epoch : Epoch) (tick : ℕ) (earlier : List ℕ) (clut place : ℕ)
    → All (λ (row : ColourRow). row.clut < 256) epoch.colours → AreSeenRows epoch.colours clut tick earlier
    → Contains (rows_of_clut epoch.colours clut) place
    → (row_at epoch.colours place).tick ≤ tick
    → Contains (defined_entries epoch (tick ∷ earlier)) (entry_by_row epoch clut place)
row_entry_defined epoch tick earlier clut place small rows there come =
    let latest = row_defined epoch.colours clut tick earlier place rows there come in
    by (defined_rows epoch.colours clut tick) refl latest.0 latest.1 latest.3
  where
    by : (found : List ℕ) → defined_rows epoch.colours clut tick ≡ found → (latest : ℕ)
        → Contains (defined_rows epoch.colours clut tick) latest
        → is_of_entry (entry_of (row_at epoch.colours place).depth (row_at epoch.colours place).entry)
        (row_at epoch.colours latest) ≡ true
        → Contains (defined_entries epoch (tick ∷ earlier)) (entry_by_row epoch clut place)
    by [] is latest in_rows mine =
        absurd (let no : Contains {X = ℕ} [] latest = subst (λ (rows : List ℕ). Contains rows latest) is in_rows in
        omega (arith, no.1))
    by (first ∷ rest) is latest in_rows mine =
        (let sent : SentClut = record {
          clut = clut;
          version = planned_version epoch.colours clut (tick ∷ earlier);
          rows = first ∷ rest;
        } in
        let depth : (row_at epoch.colours latest).depth ≡ (row_at epoch.colours place).depth =
        same_bits (row_at epoch.colours latest).depth (row_at epoch.colours place).depth (grind (arith, nat_tests))
        in
        let number : (row_at epoch.colours latest).entry ≡ (row_at epoch.colours place).entry =
        grind (arith, nat_tests) in
        let same : entry_by_row epoch clut latest ≡ entry_by_row epoch clut place =
        λ i. record { clut = clut; depth = depth i; entry = number i } in
        subst (Contains (defined_entries epoch (tick ∷ earlier))) same
        (piece_there (λ (sent : SentClut). map (entry_by_row epoch sent.clut) sent.rows)
        (sent_cluts epoch.colours true (tick ∷ earlier)) sent (entry_by_row epoch clut latest)
        (defined_sent epoch tick earlier clut first rest small is)
        (mapped_there (entry_by_row epoch clut) (first ∷ rest) latest
        (subst (λ (rows : List ℕ). Contains rows latest) is in_rows))))

-- each entry that a CLUT segment sets is defined
entries_defined : (epoch : Epoch) (tick : ℕ) (earlier : List ℕ) (clut : ℕ) (entries : List ClutEntry)
    → All (λ (row : ColourRow). row.clut < 256) epoch.colours → AreSeenRows epoch.colours clut tick earlier
    → All (IsSentEntry epoch tick clut) entries
    → All (Contains (defined_entries epoch (tick ∷ earlier))) (flat_map (in_tables clut) entries)
entries_defined epoch tick earlier clut entries small rows sent =
    All-pieces (Contains (defined_entries epoch (tick ∷ earlier))) (in_tables clut) entries
    (λ k d within. one (get_or entries k d) (sent k d within))
  where
    table : (entry : ClutEntry) (place : ℕ) (depth : Depth) → entry ≡ clut_entry_of epoch place
        → Contains (defined_entries epoch (tick ∷ earlier)) (entry_by_row epoch clut place) → (b : Bool)
        → is_in_table depth entry ≡ b → (c : Bool) → nat_lt entry.entry (code_count depth) ≡ c
        → (rest : List TableEntry) → All (Contains (defined_entries epoch (tick ∷ earlier))) rest
        → All (Contains (defined_entries epoch (tick ∷ earlier)))
        (cons_option (cond (b && c) (Some (record { clut = clut; depth = depth; entry = entry.entry })) None) rest)
    table entry place depth is defined false eb c ec rest all = all
    table entry place depth is defined true eb false ec rest all = all
    table entry place depth is defined true eb true ec rest all =
        All-cons (Contains (defined_entries epoch (tick ∷ earlier)))
        (record { clut = clut; depth = depth; entry = entry.entry }) rest
        (subst (Contains (defined_entries epoch (tick ∷ earlier)))
        (let d : (row_at epoch.colours place).depth
        ≡ depth = flagged depth (sym (ap (is_in_table depth) is) ∙ eb) in
        λ i. record { clut = clut; depth = d i; entry = (sym is i).entry }) defined) all
      where
        flagged : (depth : Depth) → is_in_table depth (clut_entry_of epoch place) ≡ true
            → (row_at epoch.colours place).depth ≡ depth
        flagged Two e = same_bits (row_at epoch.colours place).depth Two (grind (arith, nat_tests))
        flagged Four e = same_bits (row_at epoch.colours place).depth Four (grind (arith, nat_tests))
        flagged Eight e = same_bits (row_at epoch.colours place).depth Eight (grind (arith, nat_tests))

    one : (entry : ClutEntry) → IsSentEntry epoch tick clut entry
        → All (Contains (defined_entries epoch (tick ∷ earlier))) (in_tables clut entry)
    one entry sent =
        (let mine : ((row_at epoch.colours sent.place).clut == clut)
        ≡ true = (let e = sent.of_clut in grind (arith, nat_tests)) in
        let there =
        kept_one (λ place. (row_at epoch.colours place).clut == clut) (places_below (length epoch.colours))
        sent.place (place_there (length epoch.colours) sent.place sent.there) mine in
        let defined = row_entry_defined epoch tick earlier clut sent.place small rows there sent.come in
        table entry sent.place Two sent.is defined (is_in_table Two entry) refl (nat_lt entry.entry (code_count Two))
        refl (filter_map (in_table clut entry) (Four ∷ Eight ∷ []))
        (table entry sent.place Four sent.is defined (is_in_table Four entry) refl
        (nat_lt entry.entry (code_count Four)) refl (filter_map (in_table clut entry) (Eight ∷ []))
        (table entry sent.place Eight sent.is defined (is_in_table Eight entry) refl
        (nat_lt entry.entry (code_count Eight)) refl [] (All-none _))))

all_entries_defined : (epoch : Epoch) (tick : ℕ) (earlier : List ℕ) (taken : List Content)
    → All (λ (row : ColourRow). row.clut < 256) epoch.colours
    → ((clut : ℕ) → AreSeenRows epoch.colours clut tick earlier) → All (IsSent epoch tick) taken
    → All (Contains (defined_entries epoch (tick ∷ earlier))) (flat_map entries_of_clut (filter_map clut_of taken))
all_entries_defined epoch tick earlier [] small rows sent = All-none _
all_entries_defined epoch tick earlier (content ∷ taken) small rows sent =
    by content.value refl (All-head (IsSent epoch tick) content taken sent)
    (all_entries_defined epoch tick earlier taken small rows (All-tail (IsSent epoch tick) content taken sent))
  where
    Goal : Option Clut → Type 0
    Goal found =
        All (Contains (defined_entries epoch (tick ∷ earlier)))
        (flat_map entries_of_clut (cons_option found (filter_map clut_of taken)))

    by : (value : SegmentValue) → content.value ≡ value → IsSentBy epoch tick value
        → All (Contains (defined_entries epoch (tick ∷ earlier)))
        (flat_map entries_of_clut (filter_map clut_of taken)) → Goal (clut_of content)
    by value e own again =
        elim value as (λ v. content.value ≡ v → IsSentBy epoch tick v → Goal (clut_of content)) [
          | of_page v ↦ λ e own. rw e again
          | of_region v ↦ λ e own. rw e again
          | of_clut v ↦ λ e own. rw e
              (All-append (Contains (defined_entries epoch (tick ∷ earlier))) (entries_of_clut v)
              (flat_map entries_of_clut (filter_map clut_of taken))
              (entries_defined epoch tick earlier v.clut v.entries small (rows v.clut) own) again)
          | of_object v ↦ λ e own. rw e again
          | of_display v ↦ λ e own. rw e again
          | end_of_set ↦ λ e own. rw e again
          | passed_over ↦ λ e own. rw e again
        ] e own

-- the entries that a receiver's CLUTs have are no more than those that are defined
pub entries_within : (epoch : Epoch) (tick : ℕ) (earlier : List ℕ) (taken : List Content)
    → All (λ (row : ColourRow). row.clut < 256) epoch.colours
    → ((clut : ℕ) → AreSeenRows epoch.colours clut tick earlier) → All (IsSent epoch tick) taken
    → length (table_entries (record { segments = taken }))
    ≤ sum_by (λ (sent : SentClut). length sent.rows) (sent_cluts epoch.colours true (tick ∷ earlier))
unfolding table_entries
entries_within epoch tick earlier taken small rows sent =
    omega (
      arith,
      sum_ones (different is_same_entry (flat_map entries_of_clut (filter_map clut_of taken))),
      sum_ones (defined_entries epoch (tick ∷ earlier)),
      count_defined epoch (sent_cluts epoch.colours true (tick ∷ earlier)),
      sum_within (λ (entry : TableEntry). 1)
          (different is_same_entry (flat_map entries_of_clut (filter_map clut_of taken)))
          (defined_entries epoch (tick ∷ earlier))
          (different_pairs is_same_entry (flat_map entries_of_clut (filter_map clut_of taken)) (λ entry. itself entry))
          (different_all is_same_entry (Contains (defined_entries epoch (tick ∷ earlier)))
          (flat_map entries_of_clut (filter_map clut_of taken))
          (all_entries_defined epoch tick earlier taken small rows sent)),
    )
  where
    itself : (entry : TableEntry) → is_same_entry entry entry ≡ true
    itself entry =
        (let a : (entry.clut == entry.clut) ≡ true = grind (arith, nat_tests) in
        let b : (bits_of entry.depth == bits_of entry.depth) ≡ true = grind (arith, nat_tests) in
        let c : (entry.entry == entry.entry) ≡ true = grind (arith, nat_tests) in rw (a, b, c) refl)
