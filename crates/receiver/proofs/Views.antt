-- What is shown before the time of the set that is ready.
use Rattle.std.proofs.Common.{◌≡◌, ◌∙◌, ℕ, ◌<◌, List, [], ◌∷◌, ◌++◌, reverse, append_assoc, Some, refl, sym, ap, subst}
use Rattle.std.proofs.lemmas.List.{reverse-append}
use Rattle.decoder_model.specs.Kept.{last_time, lifted_time}
use Rattle.decoder_model.specs.Readings.{AreDeliveriesRead, IsDeliveryRead, Reading}
use Rattle.decoder_model.specs.Sets.{Delivery}
use Rattle.std.specs.Option.{option_or}
use Rattle.decoder_model.specs.Shown.{view_at}
use Rattle.sub_base.specs.declared.profile.Profile.{Profile}
use Rattle.decoder_model.proofs.Later.{IsPast, view_stays}
use Rattle.decoder_model.proofs.Views.{view_before}

-- ---- a set is ready

-- deliveries that are read so, the latest first, split where the deliveries do
pub record AreSplit (front behind : List (Delivery (List ℕ))) (past : List (Delivery Reading)) : Type 0 where
  pub first : List (Delivery Reading)
  pub rest : List (Delivery Reading)
  pub joined : past ≡ first ++ rest
  pub are_first : AreDeliveriesRead front first
  pub are_rest : AreDeliveriesRead behind rest

pub read_split : (front behind : List (Delivery (List ℕ))) (past : List (Delivery Reading))
    → AreDeliveriesRead (front ++ behind) past → AreSplit front behind past
read_split [] behind past are = record { first = []; rest = past; joined = refl; are_first = tt; are_rest = are }
read_split (delivery ∷ front) behind [] are = absurd are
read_split (delivery ∷ front) behind (one ∷ past) are =
    let more = read_split front behind past are.1 in
    record {
      first = one
          ∷ more.first;
      rest = more.rest;
      joined = ap (λ (all : List (Delivery Reading)). one ∷ all) more.joined;
      are_first = (are.0, more.are_first);
      are_rest = more.are_rest;
    }

-- before the lifted time of the next set what is shown is what was
pub shown_before : (profile : Profile) (anchor tick lifted : ℕ) (given rest : List (Delivery (List ℕ)))
    (next : Delivery (List ℕ)) (past : List (Delivery Reading))
    → ((before : List (Delivery Reading)) (one : Delivery Reading) → AreDeliveriesRead (reverse given) before
    → IsDeliveryRead next one → lifted_time anchor before one ≡ Some lifted) → tick < lifted
    → AreDeliveriesRead (reverse (given ++ next ∷ rest)) past
    → (before : List (Delivery Reading)) × AreDeliveriesRead (reverse given) before
    × (view_at profile anchor tick past ≡ view_at profile anchor tick before)
unfolding last_time
shown_before profile anchor tick lifted given rest next past at early are =
    by (read_split (reverse rest) (next ∷ reverse given) past
    (subst (λ (all : List (Delivery (List ℕ))). AreDeliveriesRead all past)
    (ap reverse (sym (append_assoc given (next ∷ []) rest)) ∙ reverse-append (given ++ next ∷ []) rest
    ∙ ap (λ (front : List (Delivery (List ℕ))). reverse rest ++ front) (reverse-append given (next ∷ [])))
    are))
  where
    within : (first before : List (Delivery Reading)) (one : Delivery Reading) → past ≡ first ++ one ∷ before
        → IsDeliveryRead next one → AreDeliveriesRead (reverse given) before
        → (before : List (Delivery Reading)) × AreDeliveriesRead (reverse given) before
        × (view_at profile anchor tick past ≡ view_at profile anchor tick before)
    within first before one is read reads =
        let time : lifted_time anchor before one ≡ Some lifted = at before one reads read in
        let later : IsPast anchor tick (one ∷ before) =
        record {
          last = lifted;
          is_last = ap (λ found. option_or found (last_time anchor before)) time;
          early = early;
        } in (
          before,
          reads,
          ap (view_at profile anchor tick) is ∙ (view_stays profile anchor tick first (one ∷ before) later).1
              ∙ view_before profile anchor tick lifted before one time early,
        )

    by : AreSplit (reverse rest) (next ∷ reverse given) past → (before : List (Delivery Reading))
        × AreDeliveriesRead (reverse given) before
        × (view_at profile anchor tick past ≡ view_at profile anchor tick before)
    by split = cases split.rest split.joined split.are_rest
      where
        cases : (found : List (Delivery Reading)) → past ≡ split.first ++ found
            → AreDeliveriesRead (next ∷ reverse given) found
            → (before : List (Delivery Reading)) × AreDeliveriesRead (reverse given) before
            × (view_at profile anchor tick past ≡ view_at profile anchor tick before)
        cases [] joined are = absurd are
        cases (one ∷ before) joined are = within split.first before one joined are.0 are.1
