-- What the objects of a display set write to a region: the codes of the cues that the region lists.
use Rattle.std.proofs.Common.{◌≡◌, ◌∙◌, ℕ, ◌+◌, ◌-◌, ◌==◌, ◌<◌, ◌≤◌, nat_le, nat_lt, Bool, true, false, not, ◌&&◌, cond, List, [], ◌∷◌, ◌++◌, length, map, filter, reverse, Option, Some, None, unwrap_or, refl, sym, ap, arith}
use Rattle.std.specs.Prelude.{find}
use Rattle.std.specs.Option.{option_or, option_map}
use Rattle.std.proofs.lemmas.List.{reverse-append}
use Rattle.std.proofs.lemmas.Bool.Decides.{nat_tests}
use Rattle.sub_base.specs.Lists.{last_given}
use Rattle.sub_base.specs.Picture.{Picture, IsPicture}
use Rattle.cue_list.specs.Authored.{code_of, covers, shows, code_shown, authored_code, live_cues, is_live}
use Rattle.cue_list.specs.declared.epoch.Cue.{Cue}
use Rattle.cue_list.specs.declared.epoch.Epoch.{Epoch}
use Rattle.page_epoch.specs.Live.{cue_at, no_cue, places_below, live_places}
use Rattle.set_coder.specs.SetSegments.{picture_of_cue, depth_of_cue}
use Rattle.decoder_model.specs.Pixels.{code_by_listing}
use Rattle.decoder_model.specs.Readings.{Content}
use Rattle.decoder_model.proofs.DrawnPictures.{in_picture, IsOutside, left_of, right_of, above, below, outside_picture}
use Rattle.page_epoch.proofs.ListLaws.{places_back, map_kept}
use Rattle.shown_plan.specs.NamedSets.{Names, named_listing}
use Rattle.shown_plan.proofs.Segments.ReadSets.{IsDrawnObject}

-- the code that the cue at a place shows there, where it shows one of its own
abbrev pub code_by_cue : List Picture → Epoch → ℕ → ℕ → ℕ → Option ℕ
code_by_cue pictures epoch x y place =
    cond (shows pictures (cue_at epoch.cues place) x y) (Some (code_of pictures (cue_at epoch.cues place) x y)) None

-- ---- one cue

-- a place that a cue does not cover lies outside its picture
outside : (names : Names) (pictures : List Picture) (epoch : Epoch) (place x y : ℕ)
    → covers pictures (cue_at epoch.cues place) x y ≡ false
    → IsOutside (picture_of_cue pictures epoch place) (named_listing names epoch place) x y
outside names pictures epoch place x y e =
    by (nat_le cue.x x) (nat_lt x (cue.x + picture.width)) (nat_le cue.y y) (nat_lt y (cue.y + picture.height)) refl
    refl refl refl e
  where
    cue : Cue
    cue = cue_at epoch.cues place

    picture : Picture
    picture = picture_of_cue pictures epoch place

    by : (a b c d : Bool) → nat_le cue.x x ≡ a → nat_lt x (cue.x + picture.width) ≡ b → nat_le cue.y y ≡ c
        → nat_lt y (cue.y + picture.height) ≡ d
        → covers pictures (cue_at epoch.cues place) x y ≡ false
        → IsOutside picture (named_listing names epoch place) x y
    by false b c d ea eb ec ed e = left_of (grind (arith, nat_tests))
    by true false c d ea eb ec ed e = right_of (grind (arith, nat_tests))
    by true true false d ea eb ec ed e = above (grind (arith, nat_tests))
    by true true true false ea eb ec ed e = below (grind (arith, nat_tests))
    by true true true true ea eb ec ed e =
        absurd (let all : covers pictures (cue_at epoch.cues place) x y
        ≡ true = rw (ea, eb, ec, ed) refl in let no : true ≡ false = sym all ∙ e in cc)

-- the object of a cue writes the codes that the cue shows
pub cue_paints : {names : Names} {pictures : List Picture} {epoch : Epoch} (place x y : ℕ) (content : Content)
    → IsPicture (picture_of_cue pictures epoch place) → IsDrawnObject names pictures epoch place content
    → code_by_listing (depth_of_cue epoch place) (cue_at epoch.cues place).see_through content.top content.bottom x y
    (named_listing names epoch place) ≡ code_by_cue pictures epoch x y place
cue_paints {names} {pictures} {epoch} place x y content is_picture drawn = by (covers pictures cue x y) refl
  where
    cue : Cue
    cue = cue_at epoch.cues place

    by : (b : Bool) → covers pictures cue x y ≡ b
        → code_by_listing (depth_of_cue epoch place) cue.see_through content.top content.bottom x y
        (named_listing names epoch place) ≡ code_by_cue pictures epoch x y place
    by false e =
        outside_picture cue.see_through (named_listing names epoch place) (depth_of_cue epoch place) content.top
        content.bottom
        (picture_of_cue pictures epoch place) is_picture drawn.draws x y (outside names pictures epoch place x y e)
        ∙ sym (ap
        (λ b. cond (b && not (cue.see_through && (code_of pictures cue x y == 1)))
        (Some (code_of pictures cue x y)) None) e)
    by true e =
        let left : cue.x ≤ x = grind (arith, nat_tests) in
        let right : x < cue.x + (picture_of_cue pictures epoch place).width = grind (arith, nat_tests) in
        let top : cue.y ≤ y = grind (arith, nat_tests) in
        let bottom : y < cue.y + (picture_of_cue pictures epoch place).height = grind (arith, nat_tests) in
        in_picture cue.see_through (named_listing names epoch place) (depth_of_cue epoch place) content.top
        content.bottom
        (picture_of_cue pictures epoch place) is_picture drawn.draws
        (x - cue.x) (y - cue.y) x y (omega arith) (omega arith) (omega arith) (omega arith)
        ∙ sym (ap
        (λ b. cond (b && not (cue.see_through && (code_of pictures cue x y == 1)))
        (Some (code_of pictures cue x y)) None) e)

-- ---- the authored code

-- the cues that are live in a region are those at its live places
pub live_are : (cues : List Cue) (region tick : ℕ)
    → live_cues cues region tick ≡ map (cue_at cues) (live_places cues region tick)
live_are cues region tick =
    sym (twice (λ place. (cue_at cues place).region == region) (λ place. is_live tick (cue_at cues place))
    (places_below (length cues))
    ∙ back)
  where
    twice : (p q : ℕ → Bool) (places : List ℕ)
        → map (cue_at cues) (filter q (filter p places))
        ≡ map (cue_at cues) (filter (λ place. p place && q place) places)
    twice p q [] = refl
    twice p q (place ∷ places) = one (p place) (twice p q places)
      where
        one : (b : Bool)
            → map (cue_at cues) (filter q (filter p places))
            ≡ map (cue_at cues) (filter (λ place. p place && q place) places)
            → map (cue_at cues) (filter q (cond b (place ∷ filter p places) (filter p places)))
            ≡ map (cue_at cues)
            (cond (b && q place) (place ∷ filter (λ place. p place && q place) places)
            (filter (λ place. p place && q place) places))
        one false again = again
        one true again = kept (q place)
          where
            kept : (c : Bool)
                → map (cue_at cues) (cond c (place ∷ filter q (filter p places)) (filter q (filter p places)))
                ≡ map (cue_at cues)
                (cond c (place ∷ filter (λ place. p place && q place) places)
                (filter (λ place. p place && q place) places))
            kept true = ap (λ all. cue_at cues place ∷ all) again
            kept false = again

    back : map (cue_at cues)
        (filter (λ place. ((cue_at cues place).region == region) && is_live tick (cue_at cues place))
        (places_below (length cues))) ≡ live_cues cues region tick
    back =
        map_kept (cue_at cues) (λ (cue : Cue). cue) (cue_at cues)
        (λ place. ((cue_at cues place).region == region) && is_live tick (cue_at cues place))
        (λ (cue : Cue). (cue.region == region) && is_live tick cue) (places_below (length cues))
        (λ k d within. (refl, refl))
        ∙ kept_self
        (filter (λ (cue : Cue). (cue.region == region) && is_live tick cue)
        (map (cue_at cues) (places_below (length cues))))
        ∙ ap (filter (λ (cue : Cue). (cue.region == region) && is_live tick cue)) (places_back cues no_cue)
      where
        kept_self : (all : List Cue) → map (λ (cue : Cue). cue) all ≡ all
        kept_self [] = refl
        kept_self (cue ∷ all) = ap (λ rest. cue ∷ rest) (kept_self all)

-- the item itself, where it passes
abbrev where_shown : List Picture → ℕ → ℕ → Cue → Option Cue
where_shown pictures x y cue = cond (shows pictures cue x y) (Some cue) None

find_behind : {X : Type 0} (p : X → Bool) (xs : List X) (x : X)
    → find p (xs ++ x ∷ []) ≡ option_or (find p xs) (cond (p x) (Some x) None)
find_behind p [] x = refl
find_behind {X} p (first ∷ xs) x = one (p first) (find_behind p xs x)
  where
    one : (b : Bool) → find p (xs ++ x ∷ []) ≡ option_or (find p xs) (cond (p x) (Some x) None)
        → cond b (Some first) (find p (xs ++ x ∷ []))
        ≡ option_or (cond b (Some first) (find p xs)) (cond (p x) (Some x) None)
    one true again = refl
    one false again = again

-- the first of a list that is turned round is the last of it
pub find_turned : {X : Type 0} (p : X → Bool) (xs : List X)
    → find p (reverse xs) ≡ last_given (λ x. cond (p x) (Some x) None) xs
find_turned p [] = refl
find_turned {X} p (x ∷ xs) =
    ap (find p) (reverse-append (x ∷ []) xs) ∙ find_behind p (reverse xs) x
    ∙ ap (λ found. option_or found (cond (p x) (Some x) None)) (find_turned p xs)

-- the code that is authored in a region is that of the last of its live cues that shows one
pub authored_last : (pictures : List Picture) (epoch : Epoch) (id tick x y : ℕ)
    → authored_code pictures (live_cues epoch.cues id tick) x y
    ≡ unwrap_or (last_given (code_by_cue pictures epoch x y) (live_places epoch.cues id tick)) 0
authored_last pictures epoch id tick x y =
    ap (λ cues. authored_code pictures cues x y) (live_are epoch.cues id tick)
    ∙ ap (code_shown pictures x y)
    (find_turned (λ cue. shows pictures cue x y) (map (cue_at epoch.cues) (live_places epoch.cues id tick)))
    ∙ found (live_places epoch.cues id tick)
  where
    more : (rest : Option Cue) (b : Bool) (cue : Cue)
        → option_or (option_map (λ cue. code_of pictures cue x y) rest)
        (cond b (Some (code_of pictures cue x y)) None)
        ≡ option_map (λ cue. code_of pictures cue x y) (option_or rest (cond b (Some cue) None))
    more (Some a) b cue = refl
    more None true cue = refl
    more None false cue = refl

    mapped : (places : List ℕ)
        → last_given (code_by_cue pictures epoch x y) places
        ≡ option_map (λ cue. code_of pictures cue x y)
        (last_given (where_shown pictures x y) (map (cue_at epoch.cues) places))
    mapped [] = refl
    mapped (place ∷ places) =
        ap (λ found. option_or found (code_by_cue pictures epoch x y place)) (mapped places)
        ∙ more (last_given (where_shown pictures x y) (map (cue_at epoch.cues) places))
        (shows pictures (cue_at epoch.cues place) x y) (cue_at epoch.cues place)

    of_cue : (found : Option Cue)
        → code_shown pictures x y found ≡ unwrap_or (option_map (λ cue. code_of pictures cue x y) found) 0
    of_cue None = refl
    of_cue (Some cue) = refl

    found : (places : List ℕ)
        → code_shown pictures x y (last_given (where_shown pictures x y) (map (cue_at epoch.cues) places))
        ≡ unwrap_or (last_given (code_by_cue pictures epoch x y) places) 0
    found places =
        of_cue (last_given (where_shown pictures x y) (map (cue_at epoch.cues) places))
        ∙ ap (λ code. unwrap_or code 0) (sym (mapped places))
