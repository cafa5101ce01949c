-- The values of valid records are those of a script, one record after another.
use Rattle.std.proofs.Common.{◌≡◌, ◌∙◌, ◌⊎◌, inl, inr, refl, sym, ap, subst, ℕ, ◌+◌, ◌≤◌, true, false, List, [], ◌∷◌, ◌++◌, length, map, get_or, sum_by, Option, Some, None, arith}
use Rattle.std.specs.Prelude.{AllPairs}
use Rattle.std.specs.List.{list_any, flat_map}
use Rattle.std.proofs.lemmas.List.Quantifiers.{all_pairs_push}
use Rattle.std.proofs.lemmas.List.Sums.{sum_by-append}
use Rattle.cue_records.specs.declared.row_values.ColourRow.{ColourRow}
use Rattle.cue_list.specs.declared.epoch.Cue.{Cue}
use Rattle.cue_list.specs.declared.epoch.Epoch.{Epoch}
use Rattle.cue_records.specs.declared.row_values.PictureHead.{PictureHead}
use Rattle.cue_list.specs.Past.{with_last, is_close}
use Rattle.cue_list.specs.RowFaults.{starts_before, lasts_past}
use Rattle.cue_list.specs.Sound.{IsTick, Follows, ticks_of, ticks_of_cue}
use Rattle.cue_list.specs.Private.State.{with_colour, with_cue}
use Rattle.cue_list.proofs.EpochLaws.{IsEpochOf, epoch-heads, epoch-new, follows-last, follows-later}
use Rattle.cue_list.proofs.TicksApartLaws.{Member, Member-append, Member-at, AreApartTicks, AreApartTicks-more}

-- ---- members

pub Member-left : {A : Type 0} (x : A) (xs ys : List A) → Member x xs → Member x (xs ++ ys)
Member-left x [] ys m = absurd m
Member-left x (z ∷ xs) ys (inl e) = inl e
Member-left x (z ∷ xs) ys (inr m) = inr (Member-left x xs ys m)

pub Member-right : {A : Type 0} (x : A) (xs ys : List A) → Member x ys → Member x (xs ++ ys)
Member-right x [] ys m = m
Member-right x (z ∷ xs) ys m = inr (Member-right x xs ys m)

pub member-last : {A : Type 0} (x : A) (xs : List A) (y : A) → Member x (xs ++ y ∷ []) → Member x xs ⊎ (x ≡ y)
member-last x [] y (inl e) = inr e
member-last x [] y (inr m) = absurd m
member-last x (z ∷ xs) y (inl e) = inl (inl e)
member-last x (z ∷ xs) y (inr m) =
    elim (member-last x xs y m) [ inl first ↦ inl (inr first) | inr last ↦ inr last ]

member-map : {A : Type 0} (f : A → ℕ) (u : ℕ) (xs : List A) (y : A) → Member u (map f (xs ++ y ∷ []))
    → Member u (map f xs) ⊎ (u ≡ f y)
member-map f u [] y (inl e) = inr e
member-map f u [] y (inr m) = absurd m
member-map f u (z ∷ xs) y (inl e) = inl (inl e)
member-map f u (z ∷ xs) y (inr m) =
    elim (member-map f u xs y m) [ inl first ↦ inl (inr first) | inr last ↦ inr last ]

pub member-flat : {A : Type 0} (f : A → List ℕ) (u : ℕ) (xs : List A) (y : A)
    → Member u (flat_map f (xs ++ y ∷ [])) → Member u (flat_map f xs) ⊎ Member u (f y)
member-flat f u [] y m = elim (Member-append u (f y) [] m) [ inl first ↦ inr first | inr none ↦ absurd none ]
member-flat f u (z ∷ xs) y m = elim (Member-append u (f z) (flat_map f (xs ++ y ∷ [])) m) [
  | inl first ↦ inl (Member-left u (f z) (flat_map f xs) first)
  | inr more ↦ elim (member-flat f u xs y more)
      [ inl inner ↦ inl (Member-right u (f z) (flat_map f xs) inner) | inr last ↦ inr last ]
]

some-is : {A : Type 0} (x y : A) → Some x ≡ Some y → y ≡ x
some-is x y h = cc

-- ---- epochs

pub record EpochFacts (origin width height : ℕ) (heads : List PictureHead) (ended : List Epoch)
    (epoch : Option Epoch) : Type 0 where
  pub each : (e : Epoch) → Member e ended → IsEpochOf origin width height heads e
  pub last : (e : Epoch) → epoch ≡ Some e → IsEpochOf origin width height heads e
  pub follow : AllPairs Follows ended
  pub follow_last : (e x : Epoch) → epoch ≡ Some e → Member x ended → Follows x e
  pub first : epoch ≡ None → ended ≡ []

pub EpochFacts-none : (origin width height : ℕ) (heads : List PictureHead) (ended : List Epoch)
    (epoch : Option Epoch) → ended ≡ [] → epoch ≡ None → EpochFacts origin width height heads ended epoch
EpochFacts-none origin width height heads ended epoch none closed = record {
  each = λ e m. absurd (subst (λ (xs : List Epoch). Member e xs) none m);
  last = λ e is. absurd (let never : None ≡ Some e = sym closed ∙ is in cc);
  follow = λ i j other before within. absurd (let empty = ap length none in omega arith);
  follow_last = λ e x is m. absurd (subst (λ (xs : List Epoch). Member x xs) none m);
  first = λ _. none;
}

pub EpochFacts-new : (origin width height start number : ℕ) (heads : List PictureHead) (ended : List Epoch)
    (epoch : Option Epoch) → EpochFacts origin width height heads ended epoch
    → IsTick origin start → starts_before start epoch ≡ true → lasts_past start epoch ≡ false
    → EpochFacts origin width height heads (with_last ended epoch)
    (Some (record { start = start; row = number; regions = []; colours = []; cues = [] }))
EpochFacts-new origin width height start number heads ended None old tick starts over =
    let none : ended ≡ [] = old.first refl in
    let fresh : Epoch = record { start = start; row = number; regions = []; colours = []; cues = [] } in
    record {
      each = old.each;
      last =
          λ e is. subst (IsEpochOf origin width height heads) (sym (some-is fresh e is))
          (epoch-new origin width height start number heads tick);
      follow = old.follow;
      follow_last = λ e x is m. absurd (subst (λ (xs : List Epoch). Member x xs) none m);
      first = λ never. absurd (let no_epoch : Some fresh ≡ None = never in cc);
    }
EpochFacts-new origin width height start number heads ended (Some last) old tick starts over =
    let fresh : Epoch = record { start = start; row = number; regions = []; colours = []; cues = [] } in
    let over_last : Follows last fresh = follows-last start last fresh refl starts over in
    let later : last.start ≤ fresh.start = let before = over_last.starts in omega arith in
    record {
      each =
          λ e m. elim (member-last e ended last m) [
            | inl before ↦ old.each e before
            | inr same ↦ subst (IsEpochOf origin width height heads) (sym same)
                (old.last last refl)
          ];
      last =
          λ e is. subst (IsEpochOf origin width height heads) (sym (some-is fresh e is))
          (epoch-new origin width height start number heads tick);
      follow =
          all_pairs_push Follows ended last old.follow
          (λ k other within. old.follow_last last (get_or ended k other) refl (Member-at ended k other within));
      follow_last = λ e x is m. subst (Follows x) (sym (some-is fresh e is)) (elim (member-last x ended last m) [
        | inl before ↦ follows-later x last fresh (old.follow_last last x refl before) later
        | inr same ↦ subst (λ (y : Epoch). Follows y fresh) (sym same) over_last
      ]);
      first = λ never. absurd (let no_epoch : Some fresh ≡ None = never in cc);
    }

-- a last epoch that is changed, and starts as before
pub EpochFacts-changed : (origin width height : ℕ) (heads : List PictureHead) (ended : List Epoch)
    (epoch changed : Epoch) → EpochFacts origin width height heads ended (Some epoch)
    → changed.start ≡ epoch.start → IsEpochOf origin width height heads changed
    → EpochFacts origin width height heads ended (Some changed)
EpochFacts-changed origin width height heads ended epoch changed old same is = record {
  each = old.each;
  last = λ e eq. subst (IsEpochOf origin width height heads) (sym (some-is changed e eq)) is;
  follow = old.follow;
  follow_last =
      λ e x eq m. subst (Follows x) (sym (some-is changed e eq))
      (follows-later x epoch changed (old.follow_last epoch x refl m) (omega arith));
  first = λ never. absurd (let no_epoch : Some changed ≡ None = never in cc);
}

-- one more picture
pub EpochFacts-heads : (origin width height : ℕ) (heads more : List PictureHead) (ended : List Epoch)
    (epoch : Option Epoch) → EpochFacts origin width height heads ended epoch
    → EpochFacts origin width height (heads ++ more) ended epoch
EpochFacts-heads origin width height heads more ended epoch old = record {
  each = λ e m. epoch-heads origin width height heads more e (old.each e m);
  last = λ e is. epoch-heads origin width height heads more e (old.last e is);
  follow = old.follow;
  follow_last = old.follow_last;
  first = old.first;
}

-- ---- ticks

pub record TickFacts (ended : List Epoch) (epoch : Option Epoch) (ticks : List ℕ) : Type 0 where
  pub apart : AreApartTicks ticks
  pub each : (u : ℕ) → Member u (flat_map ticks_of ended) → Member u ticks
  pub last : (e : Epoch) → epoch ≡ Some e → (u : ℕ) → Member u (ticks_of e) → Member u ticks

pub TickFacts-new : (ended : List Epoch) (epoch : Option Epoch) (ticks : List ℕ) (start number : ℕ)
    → TickFacts ended epoch ticks → list_any (is_close start) ticks ≡ false
    → TickFacts (with_last ended epoch)
    (Some (record { start = start; row = number; regions = []; colours = []; cues = [] })) (start ∷ ticks)
TickFacts-new ended epoch ticks start number old far = record {
  apart = AreApartTicks-more start ticks far old.apart;
  each = λ u m. inr (ended-in epoch old u m);
  last =
      λ e is u m. fresh-in u
      (subst (λ (x : Epoch). Member u (ticks_of x))
      (some-is (record { start = start; row = number; regions = []; colours = []; cues = [] }) e is) m);
}
  where
    ended-in : (o : Option Epoch) → TickFacts ended o ticks → (u : ℕ)
        → Member u (flat_map ticks_of (with_last ended o)) → Member u ticks
    ended-in None facts u m = facts.each u m
    ended-in (Some last) facts u m =
        elim (member-flat ticks_of u ended last m)
        [ inl before ↦ facts.each u before | inr here ↦ facts.last last refl u here ]

    fresh-in : (u : ℕ) → Member u (start ∷ []) → Member u (start ∷ ticks)
    fresh-in u (inl e) = inl e
    fresh-in u (inr m) = absurd m

pub TickFacts-same : (ended : List Epoch) (epoch changed : Epoch) (ticks : List ℕ)
    → TickFacts ended (Some epoch) ticks → ticks_of changed ≡ ticks_of epoch
    → TickFacts ended (Some changed) ticks
TickFacts-same ended epoch changed ticks old same = record {
  apart = old.apart;
  each = old.each;
  last =
      λ e is u m. old.last epoch refl u
      (subst (λ (ts : List ℕ). Member u ts) same
      (subst (λ (x : Epoch). Member u (ticks_of x)) (some-is changed e is) m));
}

pub TickFacts-colour : (ended : List Epoch) (epoch : Epoch) (row : ColourRow) (ticks : List ℕ)
    → TickFacts ended (Some epoch) ticks → list_any (is_close row.tick) ticks ≡ false
    → TickFacts ended (Some (with_colour row epoch)) (row.tick ∷ ticks)
TickFacts-colour ended epoch row ticks old far = record {
  apart = AreApartTicks-more row.tick ticks far old.apart;
  each = λ u m. inr (old.each u m);
  last = λ e is u m. here u (subst (λ (x : Epoch). Member u (ticks_of x)) (some-is (with_colour row epoch) e is) m);
}
  where
    tick : ColourRow → ℕ
    tick r = r.tick

    here : (u : ℕ)
        → Member u
        (epoch.start
        ∷ (map (λ (r : ColourRow). r.tick) (epoch.colours ++ row ∷ []) ++ flat_map ticks_of_cue epoch.cues))
        → Member u (row.tick ∷ ticks)
    here u (inl e) = inr (old.last epoch refl u (inl e))
    here u (inr m) =
        elim (Member-append u (map (λ (r : ColourRow). r.tick) (epoch.colours ++ row ∷ []))
        (flat_map ticks_of_cue epoch.cues) m) [
          | inl colours ↦ elim (member-map (λ (r : ColourRow). r.tick) u epoch.colours row colours) [
            | inl before ↦ inr
                (old.last epoch refl u
                (inr (Member-left u (map (λ (r : ColourRow). r.tick) epoch.colours) (flat_map ticks_of_cue epoch.cues)
                before)))
            | inr last ↦ inl last
          ]
          | inr cues ↦ inr
              (old.last epoch refl u
              (inr (Member-right u (map (λ (r : ColourRow). r.tick) epoch.colours) (flat_map ticks_of_cue epoch.cues)
              cues)))
        ]

pub TickFacts-cue : (ended : List Epoch) (epoch : Epoch) (cue : Cue) (ticks : List ℕ)
    → TickFacts ended (Some epoch) ticks
    → list_any (is_close cue.start) ticks ≡ false → list_any (is_close cue.end) ticks ≡ false
    → is_close cue.start cue.end ≡ false
    → TickFacts ended (Some (with_cue (Some cue) epoch)) (cue.start ∷ cue.end ∷ ticks)
TickFacts-cue ended epoch cue ticks old start_far end_far apart = record {
  apart =
      AreApartTicks-more cue.start (cue.end ∷ ticks) (rw (apart, start_far) refl)
      (AreApartTicks-more cue.end ticks end_far old.apart);
  each = λ u m. inr (inr (old.each u m));
  last =
      λ e is u m. here u (subst (λ (x : Epoch). Member u (ticks_of x)) (some-is (with_cue (Some cue) epoch) e is) m);
}
  where
    own : (u : ℕ) → Member u (cue.start ∷ cue.end ∷ []) → Member u (cue.start ∷ cue.end ∷ ticks)
    own u (inl e) = inl e
    own u (inr (inl e)) = inr (inl e)
    own u (inr (inr m)) = absurd m

    here : (u : ℕ)
        → Member u
        (epoch.start
        ∷ (map (λ (r : ColourRow). r.tick) epoch.colours ++ flat_map ticks_of_cue (epoch.cues ++ cue ∷ [])))
        → Member u (cue.start ∷ cue.end ∷ ticks)
    here u (inl e) = inr (inr (old.last epoch refl u (inl e)))
    here u (inr m) =
        elim (Member-append u (map (λ (r : ColourRow). r.tick) epoch.colours)
        (flat_map ticks_of_cue (epoch.cues ++ cue ∷ [])) m) [
          | inl colours ↦ inr
              (inr (old.last epoch refl u
              (inr (Member-left u (map (λ (r : ColourRow). r.tick) epoch.colours) (flat_map ticks_of_cue epoch.cues)
              colours))))
          | inr cues ↦ elim (member-flat ticks_of_cue u epoch.cues cue cues) [
            | inl before ↦ inr
                (inr (old.last epoch refl u
                (inr (Member-right u (map (λ (r : ColourRow). r.tick) epoch.colours) (flat_map ticks_of_cue epoch.cues)
                before))))
            | inr last ↦ own u last
          ]
        ]

-- ---- counts

abbrev pub colours_of : Epoch → ℕ
colours_of epoch = length epoch.colours

abbrev pub cues_of : Epoch → ℕ
cues_of epoch = length epoch.cues

abbrev pub in_last : (Epoch → ℕ) → Option Epoch → ℕ
in_last count None = 0
in_last count (Some epoch) = count epoch

pub sum-last : (count : Epoch → ℕ) (ended : List Epoch) (epoch : Option Epoch)
    → sum_by count (with_last ended epoch) ≡ sum_by count ended + in_last count epoch
sum-last count ended None = omega arith
sum-last count ended (Some epoch) = let split = sum_by-append count ended (epoch ∷ []) in omega (arith, split)

pub length-push : {A : Type 0} (xs : List A) (x : A) → length (xs ++ x ∷ []) ≡ length xs + 1
length-push [] x = refl
length-push (y ∷ xs) x = let more = length-push xs x in omega arith
