-- The version of the page from set to set.
use Rattle.std.proofs.Common.{◌≡◌, ◌∙◌, ℕ, ◌+◌, ◌%◌, ◌<◌, Bool, cond, List, [], ◌∷◌, ◌++◌, map, drop, take, reverse, length, get_or, All, Some, sum_by, count_by, refl, sym, ap, subst, arith}
use Rattle.std.specs.Prelude.{slice_get}
use Rattle.std.proofs.Math.Seq.{take-append_seam}
use Rattle.std.proofs.lemmas.List.{drop-append-le, length-reverse, reverse-append, reverse-reverse}
use Rattle.std.proofs.lemmas.List.Sums.{sum_by-append, sum_by-cons}
use Rattle.std.proofs.lemmas.Option.{slice_get-get_or}
use Rattle.cue_list.proofs.EpochLaws.{get-last}
use Rattle.cue_list.specs.declared.epoch.Epoch.{Epoch}
use Rattle.page_epoch.specs.declared.planned_set.PlannedSet.{PlannedSet}
use Rattle.page_epoch.specs.Instants.{is_named}
use Rattle.page_epoch.specs.States.{instants_of, page_version}
use Rattle.page_epoch.specs.Plan.{IsNextSet, AllBehind}
use Rattle.page_epoch.specs.EpochWalks.{version_behind}
use Rattle.page_epoch.proofs.ListLaws.{version_step}

-- what passes a test behind the first item of a list that is given the latest first, one item on
counted_on : (p : ℕ → Bool) (ticks : List ℕ) (tick : ℕ) → 0 < length ticks
    → count_by p (drop 1 (reverse (tick ∷ ticks))) ≡ cond (p tick) 1 0 + count_by p (drop 1 (reverse ticks))
counted_on p ticks tick some =
    let f : ℕ → ℕ = λ x. cond (p x) 1 0 in
    let long = length-reverse ticks in
    let behind : drop 1 (reverse (tick ∷ ticks)) ≡ drop 1 (reverse ticks) ++ tick ∷ [] =
    ap (drop 1) (reverse-append (tick ∷ []) ticks)
    ∙ drop-append-le 1 (reverse ticks) (tick ∷ []) (omega arith) in
    let all = ap (sum_by f) behind ∙ sum_by-append f (drop 1 (reverse ticks)) (tick ∷ []) in
    let one = sum_by-cons f tick [] in
    omega arith

-- one instant on, the version rises where a record names the instant
pub version_on : (epochs : List Epoch) (ticks : List ℕ) (tick : ℕ) (named : Bool)
    → named ≡ is_named epochs tick → 0 < length ticks →
    page_version epochs (tick ∷ ticks)
    ≡ cond named ((page_version epochs ticks + 1) % 16) (page_version epochs ticks)
version_on epochs ticks tick named n some =
    ap (λ (x : ℕ). x % 16) (counted_on (is_named epochs) ticks tick some)
    ∙ version_step (is_named epochs tick) (count_by (is_named epochs) (drop 1 (reverse ticks)))
    ∙ ap (λ (b : Bool). cond b ((page_version epochs ticks + 1) % 16) (page_version epochs ticks)) (sym n)

-- what holds of each set behind those before it holds of the last one
pub last_stands : (P : List PlannedSet → PlannedSet → Type 0) (sets earlier : List PlannedSet)
    (before : PlannedSet) → sets ≡ reverse earlier ++ before ∷ [] → AllBehind P sets → P earlier before
last_stands P sets earlier before e all =
    let n = length (reverse earlier) in
    let found : slice_get sets n ≡ Some before =
    ap (λ (xs : List PlannedSet). slice_get xs n) e ∙ get-last (reverse earlier) before in
    let front : reverse (take n sets) ≡ earlier =
    ap (λ (xs : List PlannedSet). reverse (take n xs)) e
    ∙ ap reverse (take-append_seam (reverse earlier) (before ∷ [])) ∙ reverse-reverse earlier in
    subst (λ (xs : List PlannedSet). P xs before) front (all n before found)

-- the version behind the sets so far is the next one
pub version_is : (epochs : List Epoch) (refresh : ℕ) (sets past : List PlannedSet) (tick : ℕ) (named : Bool)
    → past ≡ reverse sets → AllBehind (IsNextSet epochs refresh) sets → named ≡ is_named epochs tick →
    version_behind past named ≡ page_version epochs (instants_of past tick)
version_is epochs refresh sets [] tick named p all n = refl
version_is epochs refresh sets (before ∷ earlier) tick named p all n =
    let is : IsNextSet epochs refresh earlier before =
    last_stands (IsNextSet epochs refresh) sets earlier before
    (sym (reverse-reverse sets) ∙ ap reverse (sym p) ∙ reverse-append (before ∷ []) earlier) all in
    ap (λ (v : ℕ). cond named ((v + 1) % 16) v) is.version
    ∙ sym (version_on epochs (map (λ (set : PlannedSet). set.pts) (before ∷ earlier)) tick named n
    (omega arith))

pub small_versions : (epochs : List Epoch) (refresh : ℕ) (sets : List PlannedSet)
    → AllBehind (IsNextSet epochs refresh) sets → All (λ (set : PlannedSet). set.page_version < 16) sets
small_versions epochs refresh sets all = λ k d h.
    let next = all k (get_or sets k d) (slice_get-get_or sets k d h) in
    let version = next.version in
    omega arith
