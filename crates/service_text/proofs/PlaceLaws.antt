-- A service in its place among the first of services.
use Rattle.std.proofs.Common.{◌≡◌, ◌∙◌, ℕ, zero, suc, ◌+◌, ◌≤◌, min, nat_lt, Bool, true, false, cond, List, [], ◌∷◌, ◌++◌, length, take, refl, sym, ap, arith}
use Rattle.std.specs.Prelude.{◌||◌, if◌then◌else◌, insert, is_ok, Ok, Result}
use Rattle.std.specs.List.{flat_map}
use Rattle.std.proofs.lemmas.Bool.Decides.{nat_tests}
use Rattle.std.proofs.lemmas.List.{length-take}
use Rattle.std.proofs.Math.Seq.{take-length}
use Rattle.pid_text.specs.PidText.{more_where}
use Rattle.service_text.specs.Listing.{IsListing, ListsMore, ServiceListing, listing_text}
use Rattle.service_text.specs.Order.{AreInOrder, comes_before}
use Rattle.service_text.specs.ServiceText.{IsServicesText, service_line}
use Rattle.service_text.specs.Private.Placing.{place_in, placed}
use Rattle.service_text.specs.declared.service.SubtitleService.{SubtitleService}
use Rattle.service_text.proofs.OrderLaws.{none_in_order, one_more_in_order}

-- ---- its place

pub place_within : (service : SubtitleService) (services : List SubtitleService)
    → place_in service services ≤ length services
place_within service [] = omega arith
place_within service (first ∷ services) =
    by (comes_before service first) (place_within service services)
  where
    by : (is : Bool) → place_in service services ≤ length services
        → cond is zero (suc (place_in service services)) ≤ length (first ∷ services)
    by true within = omega arith
    by false within = omega (arith, within)

pub place_next : (service : SubtitleService) (first : SubtitleService) (services : List SubtitleService)
    (is : Bool) → comes_before service first ≡ is
    → place_in service (first ∷ services) ≡ cond is 0 (1 + place_in service services)
place_next service first services true e = rw e refl
place_next service first services false e = rw e (omega arith)

pub insert_placed : (service : SubtitleService) (services : List SubtitleService)
    → insert services (place_in service services) service ≡ placed service services
insert_placed service [] = refl
insert_placed service (first ∷ services) =
    by (comes_before service first) (insert_placed service services)
  where
    by : (is : Bool) → insert services (place_in service services) service ≡ placed service services
        → insert (first ∷ services) (cond is zero (suc (place_in service services))) service
        ≡ cond is (service ∷ first ∷ services) (first ∷ placed service services)
    by true later = refl
    by false later = ap (λ (l : List SubtitleService). first ∷ l) later

-- what an insertion that did not fail leaves
pub put_there : {E : Type 0} → (services new : List SubtitleService) → (place : ℕ) → (service : SubtitleService)
    → (answer : Result (Unit {0}) E) → (done : Unit {0})
    → new ≡ (if is_ok answer then insert services place service else services) → answer ≡ Ok done
    → place ≡ place_in service services → new ≡ placed service services
put_there {E} services new place service answer done is fine there =
    is ∙ ap (λ (a : Result (Unit {0}) E). if is_ok a then insert services place service else services) fine
    ∙ ap (λ (n : ℕ). insert services n service) there
    ∙ insert_placed service services

pub placed_length : (service : SubtitleService) (services : List SubtitleService)
    → length (placed service services) ≡ length services + 1
placed_length service [] = refl
placed_length service (first ∷ services) = by (comes_before service first) (placed_length service services)
  where
    by : (is : Bool) → length (placed service services) ≡ length services + 1
        → length (cond is (service ∷ first ∷ services) (first ∷ placed service services))
        ≡ length (first ∷ services) + 1
    by true later = omega arith
    by false later = omega (arith, later)

-- ---- the first of them

take_less : (n : ℕ) (services : List SubtitleService) → take n (take (suc n) services) ≡ take n services
take_less zero services = refl
take_less (suc n) [] = refl
take_less (suc n) (first ∷ services) = ap (λ (l : List SubtitleService). first ∷ l) (take_less n services)

pub take_placed : (n : ℕ) (service : SubtitleService) (services : List SubtitleService)
    → take n (placed service (take n services)) ≡ take n (placed service services)
take_placed zero service services = refl
take_placed (suc n) service [] = refl
take_placed (suc n) service (first ∷ services) =
    by (comes_before service first) (take_placed n service services)
  where
    by : (is : Bool) → take n (placed service (take n services)) ≡ take n (placed service services)
        → take (suc n) (cond is (service ∷ first ∷ take n services) (first ∷ placed service (take n services)))
        ≡ take (suc n) (cond is (service ∷ first ∷ services) (first ∷ placed service services))
    by true later = ap (λ (l : List SubtitleService). service ∷ l) (take_less n (first ∷ services))
    by false later = ap (λ (l : List SubtitleService). first ∷ l) later

-- ---- lists

pub nothing_listed : (listing : ServiceListing) → listing.entries ≡ [] → listing.more ≡ false → IsListing listing []
nothing_listed listing entries more = record {
  ordered = [];
  order = none_in_order;
  entries = entries;
  more = more;
}

more_by : (kept ordered : ℕ) → kept ≡ min 512 ordered
    → (nat_lt 512 ordered || nat_lt 512 (kept + 1)) ≡ nat_lt 512 (ordered + 1)
more_by kept ordered is = grind (arith, nat_tests, is)

-- one service more
pub one_more_listed : (old new : ServiceListing) (service : SubtitleService)
    → new ≡ record {
      entries = take 512 (placed service old.entries);
      more = old.more || nat_lt 512 (length (placed service old.entries));
    }
    → ListsMore old new (service ∷ [])
one_more_listed old new service is = record {
  listed = λ services listing. record {
    ordered = placed service listing.ordered;
    order = one_more_in_order services listing.ordered service listing.order;
    entries =
        ap (λ (l : ServiceListing). l.entries) is
        ∙ ap (λ (l : List SubtitleService). take 512 (placed service l)) listing.entries
        ∙ take_placed 512 service listing.ordered;
    more =
        ap (λ (l : ServiceListing). l.more) is
        ∙ ap (λ (b : Bool). b || nat_lt 512 (length (placed service old.entries))) listing.more
        ∙ ap (λ (n : ℕ). nat_lt 512 (length listing.ordered) || nat_lt 512 n) (placed_length service old.entries)
        ∙ more_by (length old.entries) (length listing.ordered)
        (ap (λ (l : List SubtitleService). length l) listing.entries ∙ length-take 512 listing.ordered)
        ∙ ap (nat_lt 512) (sym (placed_length service listing.ordered));
  };
}

-- nothing was dropped
pub all_kept : (more : Bool) (entries all : List SubtitleService) → entries ≡ all → length entries ≤ 512
    → (let listing : ServiceListing = record { entries = entries; more = more } in listing)
    ≡ record { entries = take 512 all; more = more || nat_lt 512 (length all) }
all_kept more entries all is few = λ i. record { entries = kept i; more = same i }
  where
    short : length all ≤ 512
    short = omega (arith, few, ap (λ (l : List SubtitleService). length l) is)

    kept : entries ≡ take 512 all
    kept = is ∙ sym (take_all 512 all short)
      where
        take_all : (n : ℕ) (xs : List SubtitleService) → length xs ≤ n → take n xs ≡ xs
        take_all zero [] h = refl
        take_all zero (x ∷ xs) h = absurd (omega (arith, h))
        take_all (suc n) [] h = refl
        take_all (suc n) (x ∷ xs) h = ap (λ (l : List SubtitleService). x ∷ l) (take_all n xs (omega (arith, h)))

    or_false : (b : Bool) → b ≡ (b || false)
    or_false true = refl
    or_false false = refl

    same : more ≡ (more || nat_lt 512 (length all))
    same = or_false more ∙ ap (λ (b : Bool). more || b) (sym few_enough)
      where
        few_enough : nat_lt 512 (length all) ≡ false
        few_enough = grind (arith, nat_tests, short)

-- what is told of a list
pub listing_told : (listing : ServiceListing) (services : List SubtitleService) → IsListing listing services
    → IsServicesText services (listing_text listing)
listing_told listing services is = record {
  ordered = is.ordered;
  order = is.order;
  whole = λ i. flat_map service_line (is.entries i) ++ more_where (is.more i);
}

pub ordered_told : (services ordered : List SubtitleService) → AreInOrder services ordered
    → (text : List ℕ) × IsServicesText services text
ordered_told services ordered order = (
  flat_map service_line (take 512 ordered) ++ more_where (nat_lt 512 (length ordered)),
  record { ordered = ordered; order = order; whole = refl },
)
