-- Where a segment is counted among entries in rising order.
use Rattle.std.proofs.Common.{◌≡◌, ℕ, zero, suc, ◌<◌, ◌≤◌, ◌==◌, ◌∙◌, true, false, List, [], ◌∷◌, length, set, get_or, ap, arith, refl, sym, Bool, Result, Ok, ◌||◌, nat_lt, if◌then◌else◌, is_ok, subst, take}
use Rattle.std.specs.List.{insert}
use Rattle.std.proofs.lemmas.List.{take_all}
use Rattle.std.proofs.lemmas.Bool.Decides.{nat_tests}
use Rattle.pid_text.specs.PidUnits.{Head}
use Rattle.pid_text.specs.Private.Listing.{PageListing, fresh, noted, with_segment}
use Rattle.pid_text.specs.declared.page_tally.PageTally.{PageTally}

-- all entries before a place have a lower page
abbrev pub AreLower : ℕ → ℕ → List PageTally → Type 0
AreLower place page entries = (k : ℕ) (d : PageTally) → k < place → (get_or entries k d).page < page

-- where no entry of the page is there, one is put in
pub noted_in : (head : Head) (entries : List PageTally) (place : ℕ) → place ≤ length entries
    → AreLower place head.page entries
    → ((d : PageTally) → place < length entries → head.page < (get_or entries place d).page)
    → noted head entries ≡ insert entries place (with_segment head.kind (fresh head.page))
unfolding noted
noted_in head [] zero within lower higher = refl
noted_in head [] (suc place) within lower higher = absurd (omega arith)
noted_in head (entry ∷ entries) zero within lower higher =
    let above : head.page < entry.page = higher entry (omega arith) in grind (arith, nat_tests)
noted_in head (entry ∷ entries) (suc place) within lower higher =
    let below : entry.page < head.page = lower 0 entry (omega arith) in
    let rest =
    noted_in head entries place (omega arith) (λ k d low. lower (suc k) d (omega arith))
    (λ d inside. higher d (omega arith)) in
    grind (arith, nat_tests)

-- where one is there, it counts the segment
pub noted_at : (head : Head) (entries : List PageTally) (place : ℕ) (entry : PageTally) → place < length entries
    → AreLower place head.page entries
    → get_or entries place entry ≡ entry → entry.page ≡ head.page
    → noted head entries ≡ set entries place (with_segment head.kind entry)
unfolding noted
noted_at head [] place entry within lower is same = absurd (omega arith)
noted_at head (first ∷ entries) zero entry within lower is same =
    let page : first.page ≡ head.page = ap (λ (e : PageTally). e.page) is ∙ same in
    let step : noted head (first ∷ entries) ≡ with_segment head.kind first ∷ entries = grind (arith, nat_tests) in
    step ∙ ap (λ (e : PageTally). with_segment head.kind e ∷ entries) is
noted_at head (first ∷ entries) (suc place) entry within lower is same =
    let below : first.page < head.page = lower 0 first (omega arith) in
    let rest =
    noted_at head entries place entry (omega arith) (λ k d low. lower (suc k) d (omega arith)) is same in
    grind (arith, nat_tests)

-- the same by what the place has
pub noted_by : (head : Head) (entries new : List PageTally) (place : ℕ) → place ≤ length entries
    → AreLower place head.page entries
    → ((d : PageTally) → place < length entries → head.page ≤ (get_or entries place d).page)
    → ((d : PageTally) → place < length entries → false ≡ ((get_or entries place d).page == head.page))
    → new ≡ insert entries place (with_segment head.kind (fresh head.page))
    → new ≡ noted head entries
noted_by head entries new place within lower behind other is =
    is ∙ sym (noted_in head entries place within lower
    (λ d inside. let far = other d inside in let low = behind d inside in grind (arith, nat_tests)))

pub noted_there : (head : Head) (entries new : List PageTally) (place : ℕ) (entry counted : PageTally)
    → place < length entries → AreLower place head.page entries
    → ((d : PageTally) → place < length entries → true ≡ ((get_or entries place d).page == head.page))
    → entry ≡ get_or entries place entry → counted ≡ with_segment head.kind entry
    → new ≡ set entries place counted → new ≡ noted head entries
noted_there head entries new place entry counted within lower same at counts is =
    let named : true ≡ (entry.page == head.page) =
    same entry within ∙ ap (λ (e : PageTally). e.page == head.page) (sym at) in
    let page : entry.page ≡ head.page = grind (arith, nat_tests) in
    is ∙ ap (set entries place) counts ∙ sym (noted_at head entries place entry within lower (sym at) page)

-- what an insertion that did not fail leaves
pub inserted : {E : Type 0} (entries new : List PageTally) (place : ℕ) (entry value : PageTally)
    (answer : Result (Unit {0}) E) (done : Unit {0})
    → new ≡ (if is_ok answer then insert entries place entry else entries) → answer ≡ Ok done → entry ≡ value
    → new ≡ insert entries place value
inserted {E} entries new place entry value answer done is ok same =
    is ∙ ap (λ (a : Result (Unit {0}) E). if is_ok a then insert entries place entry else entries) ok
    ∙ ap (insert entries place) same

-- entries that are few enough are all kept
pub all_kept : (more : Bool) (entries all : List PageTally) → entries ≡ all → length entries ≤ 64
    → let listing : PageListing = record { entries = entries; more = more } in
    listing ≡ record { entries = take 64 all; more = more || nat_lt 64 (length all) }
all_kept more entries all is few = λ i. record {
  entries = (is ∙ sym (take_all 64 all (subst (λ (xs : List PageTally). length xs ≤ 64) is few))) i;
  more = more_is i;
}
  where
    few_all : length all ≤ 64
    few_all = subst (λ (xs : List PageTally). length xs ≤ 64) is few

    more_is : more ≡ (more || nat_lt 64 (length all))
    more_is = grind (arith, nat_tests)
