-- Sections that follow one another in bytes.
use Rattle.std.proofs.Common.{◌≡◌, ◌∙◌, ℕ, zero, suc, ◌≤◌, ◌==◌, Bool, true, false, List, [], ◌∷◌, ◌++◌, length, take, drop, Option, Some, None, refl, sym, ap, subst, arith, cond, append-nil, append_assoc, length-drop, length-take-le}
use Rattle.std.proofs.lemmas.Bool.Decides.{nat_tests}
use Rattle.std.specs.Prelude.{◌||◌, nat_lt, not}
use Rattle.psi_tables.specs.Sections.{is_cut, section_size, whole_section}
use Rattle.section_reader.specs.Reading.{Takes}
use Rattle.section_reader.specs.Sections.{Ended, following, none_ended, with_section}
use Rattle.section_reader.specs.Private.Following.{HasFollowed, begins_section, follows}

-- ---- the section that begins bytes

whole_cases : (cut : Bool) (all s : List ℕ) → cond cut None (Some all) ≡ Some s → (cut ≡ false) × (s ≡ all)
whole_cases true all s e = absurd cc
whole_cases false all s e = (refl, cc)

cut_cases : (cut : Bool) (all : List ℕ) → cond cut None (Some all) ≡ None → cut ≡ true
cut_cases true all e = refl
cut_cases false all e = absurd cc

fits_in : (count size : ℕ) → (nat_lt count 3 || nat_lt count size) ≡ false → size ≤ count
fits_in count size e = grind (arith, nat_tests)

-- it has three bytes at least, and no more than the bytes
pub record IsWhole (bytes section : List ℕ) : Type 0 where
  pub is : section ≡ take (section_size bytes) bytes
  pub count : length section ≡ section_size bytes
  pub fits : section_size bytes ≤ length bytes

pub whole_is : (bytes section : List ℕ) → whole_section bytes ≡ Some section → IsWhole bytes section
whole_is bytes section whole =
    let found = whole_cases (is_cut bytes) (take (section_size bytes) bytes) section whole in
    let fits : section_size bytes ≤ length bytes = fits_in (length bytes) (section_size bytes) found.0 in
    record {
      is = found.1;
      count = ap (λ (l : List ℕ). length l) found.1 ∙ length-take-le (section_size bytes) bytes fits;
      fits = fits;
    }

-- ---- one behind another

with_same : (f g : List ℕ → Ended) (bytes : List ℕ) (whole : Option (List ℕ))
    → ((section : List ℕ) → whole ≡ Some section
    → f (drop (length section) bytes) ≡ g (drop (length section) bytes))
    → with_section f bytes whole ≡ with_section g bytes whole
with_same f g bytes None same = refl
with_same f g bytes (Some section) same =
    ap (λ (e : Ended). record { sections = section ∷ e.sections; hand = e.hand }) (same section refl)

-- how many there may be does not matter
pub following_same : (m n : ℕ) (bytes : List ℕ) → length bytes ≤ m → length bytes ≤ n
    → following m bytes ≡ following n bytes
following_same zero zero bytes h k = refl
following_same zero (suc n) [] h k = refl
following_same zero (suc n) (byte ∷ bytes) h k = absurd (omega arith)
following_same (suc m) zero [] h k = refl
following_same (suc m) zero (byte ∷ bytes) h k = absurd (omega arith)
following_same (suc m) (suc n) [] h k = refl
following_same (suc m) (suc n) (byte ∷ bytes) h k =
    ap (λ (e : Ended). cond (byte == 255) none_ended e)
    (with_same (following m) (following n) (byte ∷ bytes) (whole_section (byte ∷ bytes)) (λ section whole.
    following_same m n (drop (length section) (byte ∷ bytes)) (shorter section m whole h)
    (shorter section n whole k)))
  where
    shorter : (section : List ℕ) (most : ℕ) → whole_section (byte ∷ bytes) ≡ Some section
        → length (byte ∷ bytes) ≤ suc most → length (drop (length section) (byte ∷ bytes)) ≤ most
    shorter section most whole h =
        let is = whole_is (byte ∷ bytes) section whole in
        omega (arith, length-drop (length section) (byte ∷ bytes), is.count, is.fits)

-- nothing but stuffing
follows_nothing : (bytes : List ℕ) → begins_section bytes ≡ false → follows bytes ≡ none_ended
follows_nothing [] none = refl
follows_nothing (byte ∷ bytes) none = by (byte == 255) none
  where
    by : (stuffing : Bool) → not stuffing ≡ false
        → cond stuffing none_ended
        (with_section (following (length bytes)) (byte ∷ bytes) (whole_section (byte ∷ bytes))) ≡ none_ended
    by true e = refl
    by false e = absurd cc

-- a section that begins
follows_begun : (bytes : List ℕ) → begins_section bytes ≡ true
    → follows bytes ≡ with_section follows bytes (whole_section bytes)
follows_begun [] begun = absurd cc
follows_begun (byte ∷ bytes) begun =
    by (byte == 255) begun
    ∙ with_same (following (length bytes)) follows (byte ∷ bytes) (whole_section (byte ∷ bytes)) behind
  where
    by : (stuffing : Bool) → not stuffing ≡ true
        → cond stuffing none_ended
        (with_section (following (length bytes)) (byte ∷ bytes) (whole_section (byte ∷ bytes)))
        ≡ with_section (following (length bytes)) (byte ∷ bytes) (whole_section (byte ∷ bytes))
    by true e = absurd cc
    by false e = refl

    behind : (section : List ℕ) → whole_section (byte ∷ bytes) ≡ Some section
        → following (length bytes) (drop (length section) (byte ∷ bytes))
        ≡ follows (drop (length section) (byte ∷ bytes))
    behind section whole =
        let is = whole_is (byte ∷ bytes) section whole in
        following_same (length bytes) (length (drop (length section) (byte ∷ bytes)))
        (drop (length section) (byte ∷ bytes))
        (omega (arith, length-drop (length section) (byte ∷ bytes), is.count, is.fits))
        (omega arith)

pub follows_cut : (bytes : List ℕ) → begins_section bytes ≡ true → whole_section bytes ≡ None
    → follows bytes ≡ record { sections = []; hand = Some bytes }
follows_cut bytes begun cut =
    follows_begun bytes begun ∙ ap (λ (w : Option (List ℕ)). with_section follows bytes w) cut

pub follows_section : (bytes section : List ℕ) → begins_section bytes ≡ true
    → whole_section bytes ≡ Some section
    → follows bytes
    ≡ record {
      sections = section
          ∷ (follows (drop (length section) bytes)).sections;
      hand = (follows (drop (length section) bytes)).hand;
    }
follows_section bytes section begun whole =
    follows_begun bytes begun ∙ ap (λ (w : Option (List ℕ)). with_section follows bytes w) whole

-- ---- the walk

-- nothing was taken
pub takes_nothing : {Taker Kept : Type 0} → (stands : Taker → List (List ℕ) → Type 0) → (kept : Taker → Kept)
    → (taker : Taker) → Takes stands kept taker taker []
takes_nothing stands kept taker = record {
  same = refl;
  took = λ sections is. subst (λ (l : List (List ℕ)). stands taker l) (sym (append-nil sections)) is;
}

-- and then these
pub takes_both : {Taker Kept : Type 0} → (stands : Taker → List (List ℕ) → Type 0) → (kept : Taker → Kept)
    → (old mid new : Taker) → (first later : List (List ℕ))
    → Takes stands kept old mid first → Takes stands kept mid new later
    → Takes stands kept old new (first ++ later)
takes_both stands kept old mid new first later one other = record {
  same = other.same ∙ one.same;
  took = λ sections is. subst (λ (l : List (List ℕ)). stands new l) (append_assoc sections first later)
      (other.took (sections ++ first) (one.took sections is));
}

module _ {Taker Kept : Type 0} (stands : Taker → List (List ℕ) → Type 0) (kept : Taker → Kept) where
  pub nothing_followed : (taker : Taker) (bytes : List ℕ) → length bytes ≤ 184
      → HasFollowed stands kept taker taker bytes bytes
  nothing_followed taker bytes short = record {
    passed = [];
    sections = refl;
    hand = refl;
    taken = takes_nothing stands kept taker;
    short = short;
  }

  -- one section more
  pub followed_more : (old mid new : Taker) (bytes rest section : List ℕ)
      → HasFollowed stands kept old mid bytes rest → begins_section rest ≡ true
      → whole_section rest ≡ Some section → Takes stands kept mid new (section ∷ [])
      → HasFollowed stands kept old new bytes (drop (length section) rest)
  followed_more old mid new bytes rest section has begun whole takes =
      let behind = follows_section rest section begun whole in
      record {
        passed = has.passed ++ section ∷ [];
        sections = has.sections ∙ ap (λ (e : Ended). has.passed ++ e.sections) behind
            ∙ sym (append_assoc has.passed (section ∷ []) (follows (drop (length section) rest)).sections);
        hand = has.hand ∙ ap (λ (e : Ended). e.hand) behind;
        taken = takes_both stands kept old mid new has.passed (section ∷ []) has.taken takes;
        short = omega (arith, has.short, length-drop (length section) rest);
      }

  -- what is left is in hand
  pub followed_cut : (old new : Taker) (bytes rest : List ℕ) → HasFollowed stands kept old new bytes rest
      → begins_section rest ≡ true → whole_section rest ≡ None
      → ((follows bytes).hand ≡ Some rest) × Takes stands kept old new (follows bytes).sections
  followed_cut old new bytes rest has begun cut =
      let behind = follows_cut rest begun cut in (
        has.hand ∙ ap (λ (e : Ended). e.hand) behind,
        subst (λ (l : List (List ℕ)). Takes stands kept old new l)
            (sym (has.sections ∙ ap (λ (e : Ended). has.passed ++ e.sections) behind ∙ append-nil has.passed))
            has.taken,
      )

  -- nothing is left
  pub followed_all : (old new : Taker) (bytes rest : List ℕ) → HasFollowed stands kept old new bytes rest
      → begins_section rest ≡ false
      → ((follows bytes).hand ≡ None) × Takes stands kept old new (follows bytes).sections
  followed_all old new bytes rest has none =
      let behind = follows_nothing rest none in (
        has.hand ∙ ap (λ (e : Ended). e.hand) behind,
        subst (λ (l : List (List ℕ)). Takes stands kept old new l)
            (sym (has.sections ∙ ap (λ (e : Ended). has.passed ++ e.sections) behind ∙ append-nil has.passed))
            has.taken,
      )
