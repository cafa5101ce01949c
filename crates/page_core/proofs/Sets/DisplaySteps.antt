-- The display in force with the display of a set.
use Rattle.std.proofs.Common.{◌≡◌, ◌∙◌, refl, ap, ℕ, ◌≤◌, ◌||◌, Bool, true, false, cond, ltb, List, [], ◌∷◌, ◌++◌, filter, reverse, Option, Some, None, arith}
use Rattle.std.specs.Prelude.{filter_map, option_and_then, unwrap_or}
use Rattle.std.specs.List.{cons_option}
use Rattle.std.specs.Option.{option_or, is_some}
use Rattle.std.proofs.lemmas.Bool.Decides.{nat_tests}
use Rattle.sub_base.specs.Lists.{first_given}
use Rattle.sub_base.specs.declared.profile.Profile.{Profile}
use Rattle.stream_syntax.specs.Segments.{SegmentValue, of_page, of_region, of_clut, of_object, of_display, end_of_set, passed_over, Display}
use Rattle.decoder_model.specs.Contents.{page_in, display_in, display_of, display_in_set}
use Rattle.decoder_model.specs.Faults.{display_fault, display_in_force, display_or_default}
use Rattle.decoder_model.specs.Readings.{Content}
use Rattle.decoder_model.specs.declared.set_fault.SetFault.TheVariants.{DisplayTooLarge}
use Rattle.page_core.specs.Private.Epochs.{HasOneDisplay}
use Rattle.page_core.specs.Private.RegionTests.{before_regions}
use Rattle.page_core.proofs.Sets.Defining.{any_reversed, any_of_none, some_given}
use Rattle.page_core.proofs.Sets.Orders.{is_display, is_page, or_assoc}

-- ---- searches

given_behind : {X Y : Type 0} (f : X → Option Y) (xs ys : List X)
    → first_given f (xs ++ ys) ≡ option_or (first_given f xs) (first_given f ys)
given_behind f [] ys = refl
given_behind f (x ∷ xs) ys =
    ap (option_or (f x)) (given_behind f xs ys) ∙ or_assoc (f x) (first_given f xs) (first_given f ys)

not_some : {X : Type 0} (o : Option X) → is_some o ≡ false → o ≡ None
not_some None is = refl
not_some (Some x) is = absurd (cc)

module _ {X Y : Type 0} (f : X → Option Y) where
  none_given : (xs : List X) → first_given f xs ≡ None → filter_map f xs ≡ []
  none_given [] none = refl
  none_given (x ∷ xs) none = by (f x) none (none_given xs)
    where
      by : (found : Option Y) → option_or found (first_given f xs) ≡ None
          → (first_given f xs ≡ None → filter_map f xs ≡ []) → cons_option found (filter_map f xs) ≡ []
      by None is rest = rest is
      by (Some y) is rest = absurd (cc)

  none_kept : (xs : List X) → filter_map f xs ≡ [] → filter (λ x. is_some (f x)) xs ≡ []
  none_kept [] none = refl
  none_kept (x ∷ xs) none = by (f x) refl none (none_kept xs)
    where
      by : (found : Option Y) → f x ≡ found → cons_option found (filter_map f xs) ≡ []
          → (filter_map f xs ≡ [] → filter (λ x. is_some (f x)) xs ≡ [])
          → cond (is_some (f x)) (x ∷ filter (λ x. is_some (f x)) xs) (filter (λ x. is_some (f x)) xs) ≡ []
      by None is all rest =
          ap (λ (o : Option Y). cond (is_some o) (x ∷ filter (λ x. is_some (f x)) xs)
          (filter (λ x. is_some (f x)) xs)) is ∙ rest all
      by (Some y) is all rest = absurd (cc)

  -- the one that is kept
  one_kept : (xs : List X) (y : Y) → filter_map f xs ≡ y ∷ [] → (x : X)
      × (filter (λ x. is_some (f x)) xs ≡ x ∷ []) × (f x ≡ Some y)
  one_kept [] y one = absurd (cc)
  one_kept (x ∷ xs) y one = by (f x) refl one (one_kept xs y)
    where
      by : (found : Option Y) → f x ≡ found → cons_option found (filter_map f xs) ≡ y ∷ []
          → (filter_map f xs ≡ y ∷ [] → (one : X) × (filter (λ x. is_some (f x)) xs ≡ one ∷ [])
          × (f one ≡ Some y))
          → (one : X)
          × (cond (is_some (f x)) (x ∷ filter (λ x. is_some (f x)) xs) (filter (λ x. is_some (f x)) xs)
          ≡ one ∷ []) × (f one ≡ Some y)
      by None is all rest =
          let found = rest all in (
            found.0,
            ap
                (λ (o : Option Y). cond (is_some o) (x ∷ filter (λ x. is_some (f x)) xs)
                (filter (λ x. is_some (f x)) xs)) is ∙ found.1,
            found.2,
          )
      by (Some here) is all rest =
          let same : here ≡ y = cc in
          let none : filter_map f xs ≡ [] = cc in (
            x,
            ap (λ (o : Option Y). cond (is_some o) (x ∷ filter (λ x. is_some (f x)) xs)
                (filter (λ x. is_some (f x)) xs)) is ∙ ap (λ (rest : List X). x ∷ rest) (none_kept xs none),
            is ∙ ap Some same,
          )

-- ---- displays

no_display_in_page : (value : SegmentValue) → is_some (page_in value) ≡ true → display_in value ≡ None
no_display_in_page (of_page value) is = refl
no_display_in_page (of_region value) is = absurd (cc)
no_display_in_page (of_clut value) is = absurd (cc)
no_display_in_page (of_object value) is = absurd (cc)
no_display_in_page (of_display value) is = absurd (cc)
no_display_in_page end_of_set is = absurd (cc)
no_display_in_page passed_over is = absurd (cc)

no_display_in_pages : (set : List Content) → first_given display_of (reverse (filter is_page set)) ≡ None
no_display_in_pages set =
    not_some (first_given display_of (reverse (filter is_page set)))
    (some_given display_of (reverse (filter is_page set)) ∙ any_reversed is_display (filter is_page set)
    ∙ any_of_none is_display is_page set (λ content is. ap is_some (no_display_in_page content.value is)))

-- the display of a set is in force behind it, and the one from before where it has none
pub display_behind : (older set : List Content) (display : Option Display) → display_in_set set ≡ display
    → ((one : Display) → display_in_set set ≡ Some one → HasOneDisplay set one)
    → display_in_force (before_regions older set) ≡ unwrap_or display (display_in_force older)
display_behind older set display is once =
    ap display_or_default
    (given_behind display_of (reverse (filter is_page set)) (reverse (filter is_display set) ++ older)
    ∙ ap (λ (o : Option Display). option_or o (first_given display_of (reverse (filter is_display set) ++ older)))
    (no_display_in_pages set))
    ∙ by display is
  where
    by : (display : Option Display) → display_in_set set ≡ display
        → display_or_default (first_given display_of (reverse (filter is_display set) ++ older))
        ≡ unwrap_or display (display_in_force older)
    by None none =
        ap (λ (contents : List Content). display_or_default (first_given display_of (reverse contents ++ older)))
        (none_kept display_of set (none_given display_of set none))
    by (Some one) some =
        let kept = one_kept display_of set one (once one some) in
        ap (λ (contents : List Content). display_or_default (first_given display_of (reverse contents ++ older)))
        kept.1
        ∙ ap (λ (o : Option Display). display_or_default (option_or o (first_given display_of older))) kept.2

-- a display without a fault is one that the profile holds
pub display_fits : (profile : Profile) (display : Display)
    → option_and_then (display_fault profile) (Some display) ≡ None → (display.width ≤ profile.width)
    × (display.height ≤ profile.height)
display_fits profile display none =
    by (ltb profile.width display.width) (ltb profile.height display.height) refl refl none
  where
    low : (a b : ℕ) → ltb a b ≡ false → b ≤ a
    low a b is = grind (arith, nat_tests)

    by : (wide high : Bool) → ltb profile.width display.width ≡ wide → ltb profile.height display.height ≡ high
        → cond (wide || high) (Some (DisplayTooLarge display.width display.height)) None ≡ None
        → (display.width ≤ profile.width) × (display.height ≤ profile.height)
    by true high is_wide is_high none = absurd (cc)
    by false true is_wide is_high none = absurd (cc)
    by false false is_wide is_high none =
        (low profile.width display.width is_wide, low profile.height display.height is_high)
