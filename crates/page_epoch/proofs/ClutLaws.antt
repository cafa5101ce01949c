-- CLUTs from instant to instant.
use Rattle.std.proofs.Common.{◌≡◌, ◌∙◌, ℕ, ◌+◌, ◌-◌, ◌*◌, ◌%◌, ◌==◌, ◌<◌, ◌≤◌, Bool, true, false, cond, List, [], ◌∷◌, ◌++◌, take, length, get_or, All, Option, None, Some, unwrap_or, ◌⊎◌, inl, inr, refl, sym, ap, subst, arith}
use Rattle.std.specs.List.{count_by}
use Rattle.std.proofs.lemmas.List.{map_more, get_or-map, length_push, length-append}
use Rattle.std.proofs.lemmas.List.Sums.{sum_by-cons, sum_by-append}
use Rattle.std.proofs.lemmas.List.Elements.{All-push}
use Rattle.std.proofs.lemmas.Bool.Decides.{nat_tests}
use Rattle.cue_records.specs.declared.row_values.ColourRow.{ColourRow}
use Rattle.page_epoch.specs.declared.planned_set.SentClut.{SentClut}
use Rattle.page_epoch.specs.declared.clut_changes.ClutChanges.{ClutChanges}
use Rattle.page_epoch.specs.SentCluts.{is_changed, clut_version, clut_with, rows_from, defined_rows, sent_clut}
use Rattle.page_epoch.specs.Needs.{clut_nodes}
use Rattle.page_epoch.specs.EpochStates.{version_of_count, changed_version, changed_versions, clut_after, IsSmallVersion, sent_of, row_nodes}
use Rattle.page_epoch.proofs.ListLaws.{flat_map_next}

-- ---- one CLUT

version_some : (n : ℕ) → 0 < n → version_of_count n ≡ Some ((n - 1) % 16)
version_some n h =
    let t : (n == 0) ≡ false = grind (arith, nat_tests) in
    ap (λ (b : Bool). cond b None (Some ((n - 1) % 16))) t

one_after : (n : ℕ) → 0 < n → (1 + n - 1) % 16 ≡ ((n - 1) % 16 + 1) % 16
one_after n h = omega arith

count_step_some : (n : ℕ) → 0 < n → version_of_count (1 + n) ≡ clut_after true (version_of_count n)
count_step_some n h =
    version_some (1 + n) (omega arith) ∙ ap (λ (k : ℕ). Some k) (one_after n h)
    ∙ sym (ap (clut_after true) (version_some n h))

count_step_true : (n : ℕ) → (n ≡ 0) ⊎ (0 < n)
    → version_of_count (1 + n) ≡ clut_after true (version_of_count n)
count_step_true n (inl e) = let P : ℕ
    → Type 0 = λ k. version_of_count (1 + k) ≡ clut_after true (version_of_count k) in subst P (sym e) refl
count_step_true n (inr h) = count_step_some n h

count_step : (b : Bool) (n : ℕ) → version_of_count (cond b 1 0 + n) ≡ clut_after b (version_of_count n)
count_step true n = count_step_true n (grind arith)
count_step false n = ap version_of_count (omega arith)

pub changed_version-more : (colours : List ColourRow) (clut tick : ℕ) (seen : List ℕ) →
    changed_version colours (tick ∷ seen) clut
    ≡ clut_after (is_changed colours clut tick) (changed_version colours seen clut)
changed_version-more colours clut tick seen =
    ap version_of_count (sum_by-cons (λ tick. cond (is_changed colours clut tick) 1 0) tick seen)
    ∙ count_step (is_changed colours clut tick) (count_by (is_changed colours clut) seen)

version_or_zero_by : (n : ℕ) → (n ≡ 0) ⊎ (0 < n) → unwrap_or (version_of_count n) 0 ≡ (n - 1) % 16
version_or_zero_by n (inl e) =
    let P : ℕ → Type 0 = λ k. unwrap_or (version_of_count k) 0 ≡ (k - 1) % 16 in subst P (sym e) refl
version_or_zero_by n (inr h) = ap (λ version. unwrap_or version 0) (version_some n h)

version_or_zero : (n : ℕ) → unwrap_or (version_of_count n) 0 ≡ (n - 1) % 16
version_or_zero n = version_or_zero_by n (grind arith)

-- the version that is sent
pub version_sent : (colours : List ColourRow) (clut : ℕ) (seen : List ℕ)
    → unwrap_or (changed_version colours seen clut) 0 ≡ clut_version colours clut seen
version_sent colours clut seen = version_or_zero (count_by (is_changed colours clut) seen)

pub nodes_with : (clut version : ℕ) (rows : List ℕ) → clut_nodes (clut_with clut version rows) ≡ row_nodes rows
nodes_with clut version [] = refl
nodes_with clut version (row ∷ rows) = omega arith

pub nodes_joined : (xs ys : List SentClut) → clut_nodes (xs ++ ys) ≡ clut_nodes xs + clut_nodes ys
nodes_joined xs ys =
    let long = length-append xs ys in
    let rows = sum_by-append (λ (clut : SentClut). length clut.rows) xs ys in
    omega arith

-- ---- all CLUTs

-- the first so many CLUTs were taken to the next instant
pub record HaveStepped (colours : List ColourRow) (cluts : List ClutChanges) (versions : List (Option ℕ)) (tick : ℕ)
    (whole : Bool) (count : ℕ) (next : List (Option ℕ)) (sent : List SentClut) (nodes : ℕ) : Type 0 where
  pub versions_are : (seen : List ℕ) → versions ≡ changed_versions colours seen cluts
      → next ≡ changed_versions colours (tick ∷ seen) (take count cluts)
  pub sent_are : (seen : List ℕ) → versions ≡ changed_versions colours seen cluts
      → sent ≡ sent_of colours whole (tick ∷ seen) (take count cluts)
  pub nodes_are : (seen : List ℕ) → versions ≡ changed_versions colours seen cluts
      → nodes ≡ clut_nodes (sent_of colours true (tick ∷ seen) (take count cluts))
  pub long : length next ≡ count
  pub small : All IsSmallVersion next
  pub few : nodes ≤ 277 * count

version_there : (colours : List ColourRow) (seen : List ℕ) (cluts : List ClutChanges) (versions : List (Option ℕ))
    (i : ℕ) (clut : ClutChanges) →
    versions ≡ changed_versions colours seen cluts → i < length cluts → clut ≡ get_or cluts i clut
    → get_or versions i None ≡ changed_version colours seen clut.clut
version_there colours seen cluts versions i clut e h r =
    ap (λ xs. get_or xs i None) e
    ∙ get_or-map (λ (x : ClutChanges). changed_version colours seen x.clut) cluts i clut None h
    ∙ ap (λ (x : ClutChanges). changed_version colours seen x.clut) (sym r)

pub HaveStepped-more : {colours : List ColourRow} {cluts : List ClutChanges} {versions : List
    (Option ℕ)} {tick : ℕ} {whole : Bool} {i : ℕ} {next : List (Option ℕ)} {sent : List SentClut} {nodes : ℕ}
    (clut : ClutChanges) (version : Option ℕ) (found : List SentClut) (own : ℕ) →
    HaveStepped colours cluts versions tick whole i next sent nodes → i < length cluts
    → clut ≡ get_or cluts i clut →
    version ≡ clut_after (is_changed colours clut.clut tick) (get_or versions i None) → IsSmallVersion version →
    found ≡ clut_with clut.clut (unwrap_or version 0)
    (rows_from colours whole tick (defined_rows colours clut.clut tick)) →
    own ≡ row_nodes (defined_rows colours clut.clut tick) → own ≤ 277 →
    HaveStepped colours cluts versions tick whole (i + 1) (next ++ version ∷ []) (sent ++ found) (nodes + own)
HaveStepped-more {colours} {cluts} {versions} {tick} {whole} {i} {next} {sent} {nodes} clut version found own before h r
    v small f n few =
    let here : (seen : List ℕ) → versions ≡ changed_versions colours seen cluts
    → version ≡ changed_version colours (tick ∷ seen) clut.clut = λ seen e.
    v ∙ ap (clut_after (is_changed colours clut.clut tick)) (version_there colours seen cluts versions i clut e h r)
    ∙ sym (changed_version-more colours clut.clut tick seen) in
    let sends = λ (all : Bool) (seen : List ℕ) (x : ClutChanges). sent_clut colours all (tick ∷ seen) x.clut in
    let number : (seen : List ℕ) → versions ≡ changed_versions colours seen cluts
    → unwrap_or version 0 ≡ clut_version colours clut.clut (tick ∷ seen) = λ seen e.
    ap (λ x. unwrap_or x 0) (here seen e) ∙ version_sent colours clut.clut (tick ∷ seen) in
    record {
      versions_are = λ seen e.
          ap (λ xs. xs ++ version ∷ []) (before.versions_are seen e)
          ∙ ap (λ x. changed_versions colours (tick ∷ seen) (take i cluts) ++ x ∷ [])
          (here seen e ∙ ap (λ (x : ClutChanges). changed_version colours (tick ∷ seen) x.clut) r)
          ∙ sym (map_more (λ (x : ClutChanges). changed_version colours (tick ∷ seen) x.clut) cluts i clut h);
      sent_are = λ seen e.
          ap (λ xs. xs ++ found) (before.sent_are seen e)
          ∙ ap (λ xs. sent_of colours whole (tick ∷ seen) (take i cluts) ++ xs)
          (f ∙ ap (λ (k : ℕ). clut_with clut.clut k
          (rows_from colours whole tick (defined_rows colours clut.clut tick))) (number seen e)
          ∙ ap (sends whole seen) r)
          ∙ sym (flat_map_next (sends whole seen) cluts i clut h);
      nodes_are = λ seen e.
          ap (λ (k : ℕ). k + own) (before.nodes_are seen e)
          ∙ ap (λ (k : ℕ). clut_nodes (sent_of colours true (tick ∷ seen) (take i cluts)) + k)
          (n ∙ sym (nodes_with clut.clut (clut_version colours clut.clut (tick ∷ seen))
          (defined_rows colours clut.clut tick)) ∙ ap (λ (x : ClutChanges). clut_nodes (sends true seen x)) r)
          ∙ sym (ap clut_nodes (flat_map_next (sends true seen) cluts i clut h)
          ∙ nodes_joined (sent_of colours true (tick ∷ seen) (take i cluts))
          (sends true seen (get_or cluts i clut)));
      long = length_push next version ∙ ap (λ (k : ℕ). k + 1) before.long;
      small = All-push IsSmallVersion next version before.small small;
      few = let h = before.few in omega arith;
    }
