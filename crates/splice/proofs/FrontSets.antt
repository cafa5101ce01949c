-- The sets of a stream before a cut: where all sets that are not kept or lie before it are shown, they stand at the
-- front, each shown, and before the cut they show what the whole stream does.
use Rattle.std.proofs.Common.{◌≡◌, ◌∙◌, ℕ, ◌<◌, ◌≤◌, ◌⊎◌, inl, inr, true, false, cond, List, [], ◌∷◌, ◌++◌, filter, Option, Some, None, refl, sym, ap, subst, arith}
use Rattle.std.specs.Prelude.{nat_lt}
use Rattle.std.specs.Option.{option_or}
use Rattle.std.proofs.lemmas.Bool.{cases_lt}
use Rattle.std.proofs.lemmas.Bool.Decides.{nat_tests}
use Rattle.sub_base.specs.declared.profile.Profile.{Profile}
use Rattle.decoder_model.specs.Kept.{time_of, lifted_after, lifted_time, last_time}
use Rattle.decoder_model.specs.Readings.{Reading, AreDeliveriesRead}
use Rattle.decoder_model.specs.Sets.{Delivery, lost, whole, refused}
use Rattle.decoder_model.specs.Shown.{view_at}
use Rattle.decoder_model.specs.Verdict.{verdict_of}
use Rattle.decoder_model.specs.declared.set_end.SetEnd.TheVariants.{Shown}
use Rattle.decoder_model.proofs.NearTimes.{IsNear, behind_last}
use Rattle.decoder_model.proofs.Views.{view_before}
use Rattle.sent_sets.specs.RawSets.{RawSet}
use Rattle.splice.specs.KeptSets.{set_at}
use Rattle.splice.specs.SplicedSets.{is_before}
use Rattle.splice.specs.StreamTests.{IsLookedAt}
use Rattle.splice.proofs.KeptPasts.{kept_back, same_lifted, AreAllShown, IsKeptSet, kept_set, not_unkept, AreKeptSets, kept_more}

-- ---- before the cut

abbrev AreBefore : ℕ → List RawSet → List RawSet
AreBefore cut sets = filter (is_before cut) sets

-- each of these that is not kept, or is kept before the cut, is shown
abbrev pub AreShownBefore : Profile → ℕ → ℕ → List (Delivery Reading) → Type 0
AreShownBefore profile anchor cut [] = Unit {0}
AreShownBefore profile anchor cut (set ∷ past) =
    (IsLookedAt (Some cut) (lifted_time anchor past set) → verdict_of profile anchor past set ≡ Some Shown)
    × AreShownBefore profile anchor cut past

-- from a set on that is kept at the cut or behind it, none lies before it
abbrev pub IsBehindCut : ℕ → ℕ → List (Delivery Reading) → Type 0
IsBehindCut anchor cut past = (last : ℕ) × (last_time anchor past ≡ Some last) × (cut ≤ last)

-- the sets at the front, and those behind them
pub record HasFront (profile : Profile) (anchor cut : ℕ) (past : List (Delivery (List ℕ)))
    (sets : List (Delivery Reading)) : Type 0 where
  pub later : List (Delivery Reading)
  pub front : List (Delivery Reading)
  pub parts : sets ≡ later ++ front
  pub behind : (later ≡ []) ⊎ IsBehindCut anchor cut sets
  pub shown : AreAllShown profile anchor front
  pub kept : AreKeptSets anchor front (filter (is_before cut) (kept_back anchor past))
  pub same_view : (tick : ℕ) → tick < cut → view_at profile anchor tick sets ≡ view_at profile anchor tick front

-- a set before the cut, and one that is not
before_is : (cut : ℕ) (raw : RawSet) → raw.time < cut → is_before cut raw ≡ true
before_is cut raw early = grind (arith, nat_tests)

before_not : (cut time : ℕ) → cut ≤ time → nat_lt time cut ≡ false
before_not cut time late = grind (arith, nat_tests)

-- what is kept from the cut on is left out
left_out : (cut at : ℕ) (delivery : Delivery (List ℕ)) (sets : List RawSet) → cut ≤ at
    → filter (is_before cut) (set_at (Some at) delivery ++ sets) ≡ filter (is_before cut) sets
left_out cut at lost sets late = refl
left_out cut at (whole time size bytes) sets late =
    ap (λ b. cond b (record { time = at; segments = bytes } ∷ filter (is_before cut) sets)
    (filter (is_before cut) sets)) (before_not cut at late)
left_out cut at (refused time size fault) sets late = refl

-- and what is kept before it is taken
taken : (cut : ℕ) (raw : RawSet) (sets : List RawSet) → raw.time < cut
    → filter (is_before cut) (raw ∷ sets) ≡ raw ∷ filter (is_before cut) sets
taken cut raw sets early =
    ap (λ b. cond b (raw ∷ filter (is_before cut) sets) (filter (is_before cut) sets)) (before_is cut raw early)

last_with : (anchor at : ℕ) (past : List (Delivery Reading)) (set : Delivery Reading)
    → lifted_time anchor past set ≡ Some at → last_time anchor (set ∷ past) ≡ Some at
unfolding last_time
last_with anchor at past set kept = ap (λ found. option_or found (last_time anchor past)) kept

-- behind a set from the cut on none is kept before it
not_before : (anchor cut at : ℕ) (past : List (Delivery Reading)) (set : Delivery Reading)
    → IsBehindCut anchor cut past → lifted_time anchor past set ≡ Some at → at < cut → ⊥
not_before anchor cut at past set behind kept early =
    let near : IsNear behind.0 at =
    behind_last anchor behind.0 at (time_of set)
    (ap (λ found. lifted_after anchor found set) (sym behind.1) ∙ kept) in
    let above = near.0 in
    let late = behind.2 in
    omega (arith, above, late, early)

-- a set behind the cut more
later_set : (profile : Profile) (anchor cut at : ℕ) (past : List (Delivery (List ℕ))) (delivery : Delivery (List ℕ))
    (sets : List (Delivery Reading)) (set : Delivery Reading)
    → lifted_time anchor past delivery ≡ Some at → lifted_time anchor sets set ≡ Some at → cut ≤ at
    → HasFront profile anchor cut past sets → HasFront profile anchor cut (delivery ∷ past) (set ∷ sets)
later_set profile anchor cut at past delivery sets set told kept late has = record {
  later = set ∷ has.later;
  front = has.front;
  parts = ap (λ all. set ∷ all) has.parts;
  behind = inr (at, last_with anchor at sets set kept, late);
  shown = has.shown;
  kept =
      subst (AreKeptSets anchor has.front)
      (sym (ap (λ found. filter (is_before cut) (set_at found delivery ++ kept_back anchor past)) told
      ∙ left_out cut at delivery (kept_back anchor past) late)) has.kept;
  same_view =
      λ tick early. view_before profile anchor tick at sets set kept (omega (arith, early, late))
      ∙ has.same_view tick early;
}

-- a set before the cut more
front_set : (profile : Profile) (anchor cut : ℕ) (past : List (Delivery (List ℕ))) (delivery : Delivery (List ℕ))
    (sets : List (Delivery Reading)) (set : Delivery Reading) → (is : IsKeptSet anchor past delivery sets set)
    → verdict_of profile anchor sets set ≡ Some Shown → is.raw.time < cut
    → HasFront profile anchor cut past sets → HasFront profile anchor cut (delivery ∷ past) (set ∷ sets)
front_set profile anchor cut past delivery sets set is shown early has = by has.behind
  where
    by : (has.later ≡ []) ⊎ IsBehindCut anchor cut sets
        → HasFront profile anchor cut (delivery ∷ past) (set ∷ sets)
    by (inr behind) = absurd (not_before anchor cut is.raw.time sets set behind is.kept early)
    by (inl none) =
        let all : sets ≡ has.front = has.parts ∙ ap (λ later. later ++ has.front) none in
        record {
          later = [];
          front = set ∷ sets;
          parts = refl;
          behind = inl refl;
          shown = (shown, subst (AreAllShown profile anchor) (sym all) has.shown);
          kept =
              subst (AreKeptSets anchor (set ∷ sets))
              (sym (ap (λ here. filter (is_before cut) (here ++ kept_back anchor past)) is.there
              ∙ taken cut is.raw (kept_back anchor past) early))
              (kept_more anchor past delivery sets set (filter (is_before cut) (kept_back anchor past)) is
              (subst (λ front. AreKeptSets anchor front (filter (is_before cut) (kept_back anchor past))) (sym all)
              has.kept));
          same_view = λ tick before. refl;
        }

-- the sets before the cut
pub has_front : (profile : Profile) (anchor cut : ℕ) (past : List (Delivery (List ℕ)))
    (sets : List (Delivery Reading)) → AreDeliveriesRead past sets → AreShownBefore profile anchor cut sets
    → HasFront profile anchor cut past sets
has_front profile anchor cut [] [] are shown = record {
  later = [];
  front = [];
  parts = refl;
  behind = inl refl;
  shown = tt;
  kept = record { kept = tt; read = tt };
  same_view = λ tick early. refl;
}
has_front profile anchor cut [] (set ∷ sets) are shown = absurd are
has_front profile anchor cut (delivery ∷ past) [] are shown = absurd are
has_front profile anchor cut (delivery ∷ past) (set ∷ sets) are shown =
    by (lifted_time anchor sets set) refl (has_front profile anchor cut past sets are.1 shown.1)
  where
    told : (lifted : Option ℕ) → lifted_time anchor sets set ≡ lifted → lifted_time anchor past delivery ≡ lifted
    told lifted e = same_lifted anchor past sets delivery set are.1 are.0 ∙ e

    within : (at : ℕ) → lifted_time anchor sets set ≡ Some at → HasFront profile anchor cut past sets
        → (at < cut) ⊎ (cut ≤ at) → HasFront profile anchor cut (delivery ∷ past) (set ∷ sets)
    within at e has (inr late) = later_set profile anchor cut at past delivery sets set (told (Some at) e) e late has
    within at e has (inl early) =
        let is_shown = shown.0 (subst (IsLookedAt (Some cut)) (sym e) early) in
        let is = kept_set profile anchor past delivery sets set are.1 are.0 is_shown in
        let same : is.raw.time ≡ at = some_is (sym is.kept ∙ e) in
        front_set profile anchor cut past delivery sets set is is_shown (omega (arith, same, early)) has
      where
        some_is : {a b : ℕ} → Some a ≡ Some b → a ≡ b
        some_is e = cc

    by : (lifted : Option ℕ) → lifted_time anchor sets set ≡ lifted → HasFront profile anchor cut past sets
        → HasFront profile anchor cut (delivery ∷ past) (set ∷ sets)
    by None e has =
        absurd (not_unkept profile anchor sets set (shown.0 (subst (IsLookedAt (Some cut)) (sym e) tt)) e)
    by (Some at) e has = within at e has (cases_lt at cut)
