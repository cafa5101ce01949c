-- The version and the colours of each CLUT of an epoch behind one set of the plan more are the plan's.
use Rattle.std.proofs.Common.{◌≡◌, ◌≢◌, ◌∙◌, ℕ, ◌+◌, ◌-◌, ◌%◌, ◌==◌, ◌<◌, Bool, true, false, not, cond, eqb, List, [], ◌∷◌, map, filter, reverse, Option, Some, None, refl, sym, ap, subst, arith}
use Rattle.std.specs.List.{Contains, count_by}
use Rattle.std.specs.Option.{option_or, option_map}
use Rattle.std.proofs.lemmas.Bool.Decides.{nat_tests}
use Rattle.sub_base.specs.Depth.{code_count}
use Rattle.sub_base.specs.Lists.{last_given}
use Rattle.sub_base.specs.declared.depth.Depth.{Depth}
use Rattle.cue_records.specs.declared.row_values.ColourRow.{ColourRow}
use Rattle.cue_list.specs.declared.epoch.Epoch.{Epoch}
use Rattle.page_epoch.proofs.ClutLaws.{changed_version-more}
use Rattle.page_epoch.proofs.RowLaws.{entry_of}
use Rattle.page_epoch.specs.EpochStates.{changed_version, clut_after, next_version}
use Rattle.page_epoch.specs.SentCluts.{defined_rows, is_changed, clut_version as planned_version, clut_with, rows_from, sent_clut}
use Rattle.page_epoch.specs.declared.planned_set.SentClut.{SentClut}
use Rattle.set_coder.specs.SetSegments.{clut_entry_of}
use Rattle.decoder_model.specs.Ink.{colour_by_entry}
use Rattle.decoder_model.specs.Readings.{Content}
use Rattle.decoder_model.specs.Taken.{has_new_version, version_of_clut, last_clut}
use Rattle.decoder_model.proofs.Searches.{option_or-none}
use Rattle.shown_plan.proofs.Steps.ClutChanges.{changes_send, still_not_sent, version_known, defined_known, undefined_unknown, IsNextFor, latest_unchanged, given_upon}
use Rattle.shown_plan.proofs.Steps.ClutNext.{IsClutView, untaken, taken_clut, own_kept}
use Rattle.shown_plan.proofs.Steps.ClutRows.{AreSeenRows}
use Rattle.shown_plan.proofs.Pictures.ColourRows.{latest_of, colour_at, given_latest}
use Rattle.shown_plan.proofs.Steps.Keeps.{KeepsClut}
use Rattle.shown_plan.proofs.Segments.Ordered.{clut_content}
use Rattle.shown_plan.proofs.Pictures.SentColours.{is_sent_row, rows_give}
use Rattle.shown_plan.proofs.Segments.SetView.{keeps}

-- a set that is not normal gives each entry the colour of its latest row
all_given : (colours : List ColourRow) (tick : ℕ) (found : Option ℕ)
    → given_latest colours (is_sent_row colours true tick) found ≡ option_map (colour_at colours) found
all_given colours tick None = refl
all_given colours tick (Some place) = refl

-- ---- the first set that a receiver has of the epoch

pub clut_first : {epoch : Epoch} {id tick : ℕ} {earlier : List ℕ} {now : List Content}
    → AreSeenRows epoch.colours id tick earlier
    → IsClutView epoch id (sent_clut epoch.colours true (tick ∷ earlier) id) [] now
    → KeepsClut epoch.colours tick earlier now id
clut_first {epoch} {id} {tick} {earlier} {now} rows view = by (defined_rows epoch.colours id tick) refl view
  where
    gives : (found : List ℕ) → defined_rows epoch.colours id tick ≡ found → (depth : Depth) (number : ℕ)
        → number < code_count depth
        → last_given (colour_by_entry depth number) (map (clut_entry_of epoch) found)
        ≡ option_map (colour_at epoch.colours) (latest_of epoch.colours id (entry_of depth number) tick)
    gives found is depth number small =
        ap (λ places. last_given (colour_by_entry depth number) (map (clut_entry_of epoch) places)) (sym is)
        ∙ rows_give epoch true id tick depth number small
        ∙ all_given epoch.colours tick (latest_of epoch.colours id (entry_of depth number) tick)

    by : (found : List ℕ) → defined_rows epoch.colours id tick ≡ found
        → IsClutView epoch id
        (clut_with id (planned_version epoch.colours id (tick ∷ earlier)) (defined_rows epoch.colours id tick)) []
        now → KeepsClut epoch.colours tick earlier now id
    by [] is view =
        (let none : clut_with id (planned_version epoch.colours id (tick ∷ earlier))
        (defined_rows epoch.colours id tick)
        ≡ [] = ap (clut_with id (planned_version epoch.colours id (tick ∷ earlier))) is in
        let stays =
        untaken epoch id
        (clut_with id (planned_version epoch.colours id (tick ∷ earlier)) (defined_rows epoch.colours id tick)) []
        now view (ap (λ (own : List SentClut). filter (keeps []) (map (clut_content epoch) (reverse own))) none) in
        record {
          version = ap version_of_clut stays.0 ∙ sym (undefined_unknown epoch.colours id tick earlier rows is);
          inks = λ depth number small. stays.1 depth number ∙ gives [] is depth number small;
        })
    by (place ∷ places) is view =
        (let sent : SentClut = record {
          clut = id;
          version = planned_version epoch.colours id (tick ∷ earlier);
          rows = place ∷ places;
        } in
        let one : clut_with id (planned_version epoch.colours id (tick ∷ earlier))
        (defined_rows epoch.colours id tick) ≡ sent
        ∷ [] = ap (clut_with id (planned_version epoch.colours id (tick ∷ earlier))) is in
        let known =
        taken_clut epoch sent
        (clut_with id (planned_version epoch.colours id (tick ∷ earlier)) (defined_rows epoch.colours id tick)) []
        now view
        (ap (λ (own : List SentClut). filter (keeps []) (map (clut_content epoch) (reverse own))) one
        ∙ own_kept epoch [] sent true refl) in
        record {
          version =
              ap version_of_clut known.0
              ∙ sym (defined_known epoch.colours id tick place earlier rows
              (subst (λ (all : List ℕ). Contains all place) (sym is) (0, omega arith, refl)));
          inks = λ depth number small.
              known.1 depth number
              ∙ option_or-none
              (last_given (colour_by_entry depth number) (map (clut_entry_of epoch) (place ∷ places)))
              ∙ gives (place ∷ places) is depth number small;
        })

-- ---- one set more

course_small : (colours : List ColourRow) (clut version : ℕ) (seen : List ℕ)
    → changed_version colours seen clut ≡ Some version → version < 16
course_small colours clut version seen is = by (count_by (is_changed colours clut) seen == 0) is
  where
    by : (b : Bool) → cond b None (Some ((count_by (is_changed colours clut) seen - 1) % 16)) ≡ Some version
        → version < 16
    by true is = absurd (cc)
    by false is =
        (let same : (count_by (is_changed colours clut) seen - 1) % 16 ≡ version = cc in omega (arith, same))

-- the next version of a CLUT is new to whoever knows the one before
next_is_new : (known : Option ℕ) (version : ℕ) → ((last : ℕ) → known ≡ Some last → last < 16)
    → Some version ≡ next_version known → has_new_version version known ≡ true
next_is_new None version small is = refl
next_is_new (Some last) version small is =
    let same : version ≡ (last + 1) % 16 = cc in
    let low = small last refl in
    let differ : last ≢ version = (λ e. omega (arith, e, same, low)) in
    ap not (let other : eqb last version ≡ false = grind (arith, nat_tests) in other)

same_is_old : (version : ℕ) → has_new_version version (Some version) ≡ false
same_is_old version = ap not (let same : eqb version version ≡ true = grind (arith, nat_tests) in same)

pub clut_next : {epoch : Epoch} {id tick before : ℕ} {more : List ℕ} {taken now : List Content} (whole : Bool)
    → IsNextFor epoch.colours id tick before more
    → IsClutView epoch id (sent_clut epoch.colours whole (tick ∷ before ∷ more) id) taken now
    → KeepsClut epoch.colours before more taken id → KeepsClut epoch.colours tick (before ∷ more) now id
clut_next {epoch} {id} {tick} {before} {more} {taken} {now} whole next view kept =
    by (is_changed epoch.colours id tick) (rows_from epoch.colours whole tick (defined_rows epoch.colours id tick)) refl
    refl
  where
    version : ℕ
    version = planned_version epoch.colours id (tick ∷ before ∷ more)

    own : List SentClut
    own = sent_clut epoch.colours whole (tick ∷ before ∷ more) id

    course_on : (b : Bool) → is_changed epoch.colours id tick ≡ b
        → changed_version epoch.colours (tick ∷ before ∷ more) id
        ≡ clut_after b (changed_version epoch.colours (before ∷ more) id)
    course_on b is =
        changed_version-more epoch.colours id tick (before ∷ more)
        ∙ ap (λ b. clut_after b (changed_version epoch.colours (before ∷ more) id)) is

    -- nothing changed, and nothing is taken
    stays : is_changed epoch.colours id tick ≡ false
        → filter (keeps taken) (map (clut_content epoch) (reverse own)) ≡ []
        → KeepsClut epoch.colours tick (before ∷ more) now id
    stays still none =
        (let same = untaken epoch id own taken now view none in
        record {
          version = ap version_of_clut same.0 ∙ kept.version ∙ sym (course_on false still);
          inks = λ depth number small. same.1 depth number ∙ kept.inks depth number small
              ∙ ap (option_map (colour_at epoch.colours))
              (sym (latest_unchanged epoch.colours id before tick (entry_of depth number) next.rise next.between
              still));
        })

    by : (b : Bool) (found : List ℕ) → is_changed epoch.colours id tick ≡ b
        → rows_from epoch.colours whole tick (defined_rows epoch.colours id tick) ≡ found
        → KeepsClut epoch.colours tick (before ∷ more) now id
    by false [] still is =
        stays still
        (ap (λ (places : List ℕ). filter (keeps taken)
        (map (clut_content epoch) (reverse (clut_with id version places)))) is)
    by true [] changed is =
        (let some = changes_send epoch.colours whole id tick (before ∷ more) next.rows changed in
        let there : Contains {X = ℕ} [] some.0 = subst (λ (places : List ℕ). Contains places some.0) is some.1 in
        absurd (omega (arith, there.1)))
    by true (place ∷ places) changed is =
        (let sent : SentClut = record { clut = id; version = version; rows = place ∷ places } in
        let course : changed_version epoch.colours (tick ∷ before ∷ more) id ≡ Some version =
        version_known epoch.colours id tick (tick ∷ before ∷ more) (0, omega arith, refl) changed in
        let new : has_new_version version (version_of_clut (last_clut id taken)) ≡ true =
        ap (has_new_version version) kept.version
        ∙ next_is_new (changed_version epoch.colours (before ∷ more) id) version
        (λ last known. course_small epoch.colours id last (before ∷ more) known)
        (sym course ∙ course_on true changed) in
        let known =
        taken_clut epoch sent own taken now view
        (ap (λ (places : List ℕ). filter (keeps taken)
        (map (clut_content epoch) (reverse (clut_with id version places)))) is
        ∙ own_kept epoch taken sent true new) in
        record {
          version = ap version_of_clut known.0 ∙ sym course;
          inks = λ depth number small.
              known.1 depth number
              ∙ (λ i. option_or (last_given (colour_by_entry depth number) (map (clut_entry_of epoch) (sym is i)))
              (kept.inks depth number small i))
              ∙ ap (λ given. option_or given
              (option_map (colour_at epoch.colours) (latest_of epoch.colours id (entry_of depth number) before)))
              (rows_give epoch whole id tick depth number small)
              ∙ given_upon epoch.colours whole id before tick (entry_of depth number) next.rise next.between;
        })
    by false (place ∷ places) still is = held whole refl
      where
        held : (w : Bool) → whole ≡ w → KeepsClut epoch.colours tick (before ∷ more) now id
        held false normal =
            (let none : place ∷ places ≡ [] = sym is
            ∙ ap (λ w. rows_from epoch.colours w tick (defined_rows epoch.colours id tick)) normal
            ∙ still_not_sent epoch.colours id tick still in absurd (cc))
        held true all =
            (let sent : SentClut = record { clut = id; version = version; rows = place ∷ places } in
            let there : Contains (defined_rows epoch.colours id tick) place =
            subst (λ (all : List ℕ). Contains all place)
            (sym (sym (ap (λ w. rows_from epoch.colours w tick (defined_rows epoch.colours id tick)) all) ∙ is))
            (0, omega arith, refl) in
            let course : changed_version epoch.colours (before ∷ more) id ≡ Some version =
            sym (course_on false still)
            ∙ defined_known epoch.colours id tick place (before ∷ more) next.rows there in
            let old : has_new_version version (version_of_clut (last_clut id taken)) ≡ false =
            ap (has_new_version version) (kept.version ∙ course) ∙ same_is_old version in
            stays still
            (ap (λ (places : List ℕ). filter (keeps taken)
            (map (clut_content epoch) (reverse (clut_with id version places)))) is
            ∙ own_kept epoch taken sent false old))
