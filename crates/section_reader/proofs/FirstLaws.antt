-- What sections give first, one packet after the other.
use Rattle.std.proofs.Common.{◌≡◌, ◌∙◌, ℕ, List, [], ◌∷◌, ◌++◌, Option, Some, None, refl, ap}
use Rattle.std.specs.Prelude.{option_map}
use Rattle.std.specs.Option.{option_or}
use Rattle.sub_base.specs.Lists.{first_given}
use Rattle.section_reader.specs.First.{Found, by_sections, first_behind}
use Rattle.section_reader.specs.Reading.{latest_first}
use Rattle.section_reader.specs.Sections.{sections_at}

none_cases : {X : Type 0} → (o : Option X) → (rest : List (List ℕ)) → (later : Option (Found X))
    → by_sections o rest later ≡ None → (o ≡ None) × (later ≡ None)
none_cases None rest later none = (refl, none)
none_cases (Some given) rest later none = absurd cc

some_cases : {X : Type 0} → (o : Option X) → (rest : List (List ℕ)) → (packet : List ℕ)
    → (later more : Option (Found X)) → (found : Found X) → by_sections o rest later ≡ Some found
    → (later ≡ Some found → more ≡ Some (found.0, found.1 ++ packet ∷ []))
    → by_sections o (rest ++ packet ∷ []) more ≡ Some (found.0, found.1 ++ packet ∷ [])
some_cases None rest packet later more found some goes = goes some
some_cases {X} (Some given) rest packet later more found some goes =
    ap (λ (o : Option (Found X)). option_map (λ (f : Found X). (f.0, f.1 ++ packet ∷ [])) o) some

module _ {X : Type 0} (gives : List ℕ → Option X) (pid : ℕ) where
  -- nothing is given before it
  pub named_at : (before packets : List (List ℕ)) (packet : List ℕ)
      → first_behind gives pid before packets ≡ None
      → first_behind gives pid before (packets ++ packet ∷ [])
      ≡ by_sections (first_given gives (sections_at pid (latest_first before packets) packet)) [] None
  named_at before [] packet none = refl
  named_at before (first ∷ packets) packet none =
      let cases =
      none_cases (first_given gives (sections_at pid before first)) packets
      (first_behind gives pid (first ∷ before) packets) none in
      ap (λ (o : Option X). by_sections o (packets ++ packet ∷ [])
      (first_behind gives pid (first ∷ before) (packets ++ packet ∷ []))) cases.0
      ∙ named_at (first ∷ before) packets packet cases.1

  -- something is
  pub named_before : (before packets : List (List ℕ)) (packet : List ℕ) (found : Found X)
      → first_behind gives pid before packets ≡ Some found
      → first_behind gives pid before (packets ++ packet ∷ []) ≡ Some (found.0, found.1 ++ packet ∷ [])
  named_before before [] packet found some = absurd cc
  named_before before (first ∷ packets) packet found some =
      some_cases (first_given gives (sections_at pid before first)) packets packet
      (first_behind gives pid (first ∷ before) packets)
      (first_behind gives pid (first ∷ before) (packets ++ packet ∷ [])) found some
      (named_before (first ∷ before) packets packet found)

-- ---- sections in a row

or_both : {X : Type 0} → (a b c : Option X) → option_or a (option_or b c) ≡ option_or (option_or a b) c
or_both None b c = refl
or_both (Some x) b c = refl

pub given_append : {X : Type 0} → (f : List ℕ → Option X) → (xs ys : List (List ℕ))
    → first_given f (xs ++ ys) ≡ option_or (first_given f xs) (first_given f ys)
given_append f [] ys = refl
given_append f (x ∷ xs) ys =
    ap (option_or (f x)) (given_append f xs ys) ∙ or_both (f x) (first_given f xs) (first_given f ys)

-- what one section more gives
pub given_more : {X : Type 0} → (f : List ℕ → Option X) → (xs : List (List ℕ)) → (x : List ℕ)
    → first_given f (xs ++ x ∷ []) ≡ option_or (first_given f xs) (f x)
given_more f xs x = given_append f xs (x ∷ []) ∙ ap (option_or (first_given f xs)) (or_none (f x))
  where
    or_none : {X : Type 0} → (a : Option X) → option_or a None ≡ a
    or_none None = refl
    or_none (Some y) = refl
