-- The order of services.
use Rattle.std.proofs.Common.{◌≡◌, ◌∙◌, ℕ, ◌==◌, nat_lt, Bool, true, false, cond, List, [], ◌∷◌, ◌++◌, refl, sym, ap, subst, append-nil, append_assoc, arith}
use Rattle.std.specs.Prelude.{◌&&◌, ◌||◌, filter}
use Rattle.std.specs.List.{AllByRecursion}
use Rattle.std.proofs.lemmas.Bool.Decides.{nat_tests}
use Rattle.std.proofs.lemmas.List.Elements.{filter-append}
use Rattle.service_text.specs.Order.{AreInOrder, AreServicesRising, comes_before, has_lower_number, has_lower_page, is_level}
use Rattle.service_text.specs.Private.Placing.{placed}
use Rattle.service_text.specs.declared.service.SubtitleService.{SubtitleService}

-- ---- tests one after another

clash : {X : Type 0} → true ≡ false → X
clash e = absurd cc

-- one number decides, or where it is the same the rest
lower_both : (a b c : ℕ) (r s t : Bool) → (r ≡ true → s ≡ true → t ≡ true)
    → (nat_lt a b || (a == b && r)) ≡ true → (nat_lt b c || (b == c && s)) ≡ true
    → (nat_lt a c || (a == c && t)) ≡ true
lower_both a b c r s true goes one other = grind (arith, nat_tests)
lower_both a b c true true false goes one other = clash (sym (goes refl refl))
lower_both a b c true false false goes one other = grind (arith, nat_tests)
lower_both a b c false true false goes one other = grind (arith, nat_tests)
lower_both a b c false false false goes one other = grind (arith, nat_tests)

not_lower : (a : ℕ) (rest : Bool) → rest ≡ false → (nat_lt a a || (a == a && rest)) ≡ false
not_lower a true e = clash e
not_lower a false e = grind (arith, nat_tests)

number_both : (a b c : SubtitleService) → has_lower_number a b ≡ true → has_lower_number b c ≡ true
    → has_lower_number a c ≡ true
number_both a b c one other =
    lower_both a.number b.number c.number (nat_lt a.ancillary b.ancillary) (nat_lt b.ancillary c.ancillary)
    (nat_lt a.ancillary c.ancillary) (λ e f. grind (arith, nat_tests, e, f)) one other

page_both : (a b c : SubtitleService) → has_lower_page a b ≡ true → has_lower_page b c ≡ true
    → has_lower_page a c ≡ true
page_both a b c one other =
    lower_both a.page b.page c.page (has_lower_number a b) (has_lower_number b c) (has_lower_number a c)
    (number_both a b c) one other

pub before_both : (a b c : SubtitleService) → comes_before a b ≡ true → comes_before b c ≡ true
    → comes_before a c ≡ true
before_both a b c one other =
    lower_both a.pid b.pid c.pid (has_lower_page a b) (has_lower_page b c) (has_lower_page a c) (page_both a b c) one
    other

pub not_before : (a : SubtitleService) → comes_before a a ≡ false
not_before a =
    not_lower a.pid (has_lower_page a a)
    (not_lower a.page (has_lower_number a a) (not_lower a.number (nat_lt a.ancillary a.ancillary) last))
  where
    last : nat_lt a.ancillary a.ancillary ≡ false
    last = grind (arith, nat_tests)

-- what comes before something comes before what does not come before that
not_behind : (a b c : SubtitleService) → comes_before a b ≡ true → comes_before c b ≡ false
    → comes_before c a ≡ false
not_behind a b c one other = by (comes_before c a) refl
  where
    by : (is : Bool) → comes_before c a ≡ is → comes_before c a ≡ false
    by false e = e
    by true e = clash (sym (before_both c a b e one) ∙ other)

-- ---- a service in its place

all_placed : (P : SubtitleService → Type 0) → (service : SubtitleService) → (services : List SubtitleService)
    → P service → AllByRecursion P services → AllByRecursion P (placed service services)
all_placed P service [] one all = (one, tt)
all_placed P service (first ∷ services) one all =
    by (comes_before service first) (all_placed P service services one all.1)
  where
    by : (is : Bool) → AllByRecursion P (placed service services)
        → AllByRecursion P (cond is (service ∷ first ∷ services) (first ∷ placed service services))
    by true later = (one, all)
    by false later = (all.0, later)

none_before : (service first : SubtitleService) (services : List SubtitleService) → comes_before service first ≡ true
    → AllByRecursion (λ later. comes_before later first ≡ false) services
    → AllByRecursion (λ later. comes_before later service ≡ false) services
none_before service first [] is all = tt
none_before service first (later ∷ services) is all =
    (not_behind service first later is all.0, none_before service first services is all.1)

pub rising_placed : (service : SubtitleService) (services : List SubtitleService) → AreServicesRising services
    → AreServicesRising (placed service services)
rising_placed service [] rising = (tt, tt)
rising_placed service (first ∷ services) rising =
    by (comes_before service first) refl (rising_placed service services rising.1)
  where
    by : (is : Bool) → comes_before service first ≡ is → AreServicesRising (placed service services)
        → AreServicesRising (cond is (service ∷ first ∷ services) (first ∷ placed service services))
    by true e later = (
      (not_behind service first first e (not_before first), none_before service first services e rising.0),
      rising,
    )
    by false e later =
        (all_placed (λ s. comes_before s first ≡ false) service services e rising.0, later)

-- ---- services that are level

both_true : (a b : Bool) → (a && b) ≡ true → (a ≡ true) × (b ≡ true)
both_true true b e = (refl, e)
both_true false b e = clash (sym e)

equal : (a b : ℕ) → (a == b) ≡ true → a ≡ b
equal a b e = grind (arith, nat_tests, e)

-- two services that are level with one come before the same ones
level_same : (a b key other : SubtitleService) → is_level a key ≡ true → is_level b key ≡ true
    → comes_before a other ≡ comes_before b other
level_same a b key other one two =
    let one_pid = both_true (a.pid == key.pid) _ one in
    let one_page = both_true (a.page == key.page) _ one_pid.1 in
    let one_number = both_true (a.number == key.number) (a.ancillary == key.ancillary) one_page.1 in
    let two_pid = both_true (b.pid == key.pid) _ two in
    let two_page = both_true (b.page == key.page) _ two_pid.1 in
    let two_number = both_true (b.number == key.number) (b.ancillary == key.ancillary) two_page.1 in
    same (equal a.pid key.pid one_pid.0 ∙ sym (equal b.pid key.pid two_pid.0))
    (equal a.page key.page one_page.0 ∙ sym (equal b.page key.page two_page.0))
    (equal a.number key.number one_number.0 ∙ sym (equal b.number key.number two_number.0))
    (equal a.ancillary key.ancillary one_number.1 ∙ sym (equal b.ancillary key.ancillary two_number.1))
  where
    same : a.pid ≡ b.pid → a.page ≡ b.page → a.number ≡ b.number → a.ancillary ≡ b.ancillary
        → comes_before a other ≡ comes_before b other
    same pid page number ancillary = λ i.
        nat_lt (pid i) other.pid
        || (pid i == other.pid
        && (nat_lt (page i) other.page
        || (page i == other.page
        && (nat_lt (number i) other.number || (number i == other.number && nat_lt (ancillary i) other.ancillary)))))

-- behind one that comes later none is level
none_level : (service key first : SubtitleService) (services : List SubtitleService) → is_level service key ≡ true
    → comes_before service first ≡ true
    → AllByRecursion (λ later. comes_before later first ≡ false) services
    → filter (λ other. is_level other key) services ≡ []
none_level service key first [] level is all = refl
none_level service key first (later ∷ services) level is all =
    by (is_level later key) refl (none_level service key first services level is all.1)
  where
    by : (b : Bool) → is_level later key ≡ b → filter (λ other. is_level other key) services ≡ []
        → cond b (later ∷ filter (λ other. is_level other key) services) (filter (λ other. is_level other key) services)
        ≡ []
    by true e rest = clash (sym is ∙ level_same service later key first level e ∙ all.0)
    by false e rest = rest

level_placed : (service key : SubtitleService) (services : List SubtitleService) → AreServicesRising services
    → filter (λ other. is_level other key) (placed service services)
    ≡ filter (λ other. is_level other key) services ++ filter (λ other. is_level other key) (service ∷ [])
level_placed service key [] rising = refl
level_placed service key (first ∷ services) rising =
    by (comes_before service first) refl (level_placed service key services rising.1)
  where
    keeps : List SubtitleService → List SubtitleService
    keeps list = filter (λ other. is_level other key) list

    level_first : (b : Bool) → is_level service key ≡ b → comes_before service first ≡ true
        → cond b (service ∷ keeps (first ∷ services)) (keeps (first ∷ services))
        ≡ keeps (first ∷ services) ++ cond b (service ∷ []) []
    level_first true level is =
        let none = none_level service key first (first ∷ services) level is (not_before first, rising.0) in
        ap (λ (l : List SubtitleService). service ∷ l) none
        ∙ ap (λ (l : List SubtitleService). l ++ service ∷ []) (sym none)
    level_first false level is = sym (append-nil (keeps (first ∷ services)))

    more : (b : Bool) → keeps (placed service services) ≡ keeps services ++ keeps (service ∷ [])
        → cond b (first ∷ keeps (placed service services)) (keeps (placed service services))
        ≡ cond b (first ∷ keeps services) (keeps services) ++ keeps (service ∷ [])
    more true later = ap (λ (l : List SubtitleService). first ∷ l) later
    more false later = later

    by : (is : Bool) → comes_before service first ≡ is
        → keeps (placed service services) ≡ keeps services ++ keeps (service ∷ [])
        → keeps (cond is (service ∷ first ∷ services) (first ∷ placed service services))
        ≡ keeps (first ∷ services) ++ keeps (service ∷ [])
    by true e later = level_first (is_level service key) refl e
    by false e later = more (is_level first key) later

-- ---- services in order, and one more

pub none_in_order : AreInOrder [] []
none_in_order = record { rising = tt; same = λ service. refl }

pub one_more_in_order : (services ordered : List SubtitleService) (service : SubtitleService)
    → AreInOrder services ordered → AreInOrder (services ++ service ∷ []) (placed service ordered)
one_more_in_order services ordered service order = record {
  rising = rising_placed service ordered order.rising;
  same = λ key.
      level_placed service key ordered order.rising
      ∙ ap (λ (l : List SubtitleService). l ++ filter (λ other. is_level other key) (service ∷ [])) (order.same key)
      ∙ sym (filter-append (λ other. is_level other key) services (service ∷ []));
}

-- all services have an order
pub all_in_order : (earlier ordered services : List SubtitleService) → AreInOrder earlier ordered
    → (all : List SubtitleService) × AreInOrder (earlier ++ services) all
all_in_order earlier ordered [] order =
    (ordered, subst (λ (l : List SubtitleService). AreInOrder l ordered) (sym (append-nil earlier)) order)
all_in_order earlier ordered (service ∷ services) order =
    let found =
    all_in_order (earlier ++ service ∷ []) (placed service ordered) services
    (one_more_in_order earlier ordered service order) in (
      found.0,
      subst (λ (l : List SubtitleService). AreInOrder l found.0)
          (append_assoc earlier (service ∷ []) services) found.1,
    )
