-- The view at a tick, by whether the time of the latest set has come.
use Rattle.std.proofs.Common.{◌≡◌, ◌∙◌, ℕ, ◌<◌, ◌≤◌, true, false, List, ◌∷◌, Some, None, ap, arith}
use Rattle.std.specs.Prelude.{nat_le}
use Rattle.std.specs.Bool.{if◌then◌else◌}
use Rattle.std.proofs.lemmas.Bool.Decides.{nat_tests}
use Rattle.sub_base.specs.declared.profile.Profile.{Profile}
use Rattle.stream_syntax.specs.Segments.{Page}
use Rattle.decoder_model.specs.Contents.{page_in_set}
use Rattle.decoder_model.specs.Faults.{contents_in}
use Rattle.decoder_model.specs.Kept.{lifted_time, epoch_of}
use Rattle.decoder_model.specs.Readings.{Content, Reading}
use Rattle.decoder_model.specs.Sets.{Delivery, whole}
use Rattle.decoder_model.specs.Shown.{View, scene_in, standing_in, standing_with, standing_after, view_of, from_time_on, view_at}
use Rattle.decoder_model.specs.Verdict.{verdict_of, sets_since}
use Rattle.decoder_model.specs.declared.set_end.SetEnd.TheVariants.{Shown}

-- what is seen of what stands after a past
abbrev seen_after : Profile → ℕ → ℕ → List (Delivery Reading) → View
seen_after profile anchor tick past = view_of tick (standing_after profile anchor past)

-- a set that is not kept, and a loss, change no view
pub view_without : (profile : Profile) (anchor tick : ℕ) (past : List (Delivery Reading))
    (delivery : Delivery Reading) → lifted_time anchor past delivery ≡ None
    → view_at profile anchor tick (delivery ∷ past) ≡ view_at profile anchor tick past
unfolding view_at
view_without profile anchor tick past delivery e =
    ap (λ lifted. from_time_on lifted tick (seen_after profile anchor tick (delivery ∷ past))
    (view_at profile anchor tick past)) e

not_come : (lifted tick : ℕ) → tick < lifted → nat_le lifted tick ≡ false
not_come lifted tick early = grind (arith, nat_tests)

has_come : (lifted tick : ℕ) → lifted ≤ tick → nat_le lifted tick ≡ true
has_come lifted tick come = grind (arith, nat_tests)

-- nor does a set whose time has not come
pub view_before : (profile : Profile) (anchor tick lifted : ℕ) (past : List (Delivery Reading))
    (delivery : Delivery Reading) → lifted_time anchor past delivery ≡ Some lifted → tick < lifted
    → view_at profile anchor tick (delivery ∷ past) ≡ view_at profile anchor tick past
unfolding view_at
view_before profile anchor tick lifted past delivery e early =
    ap (λ found. from_time_on found tick (seen_after profile anchor tick (delivery ∷ past))
    (view_at profile anchor tick past)) e
    ∙ ap (λ come. if come then seen_after profile anchor tick (delivery ∷ past)
    else view_at profile anchor tick past) (not_come lifted tick early)

-- a kept set whose time has come decides the view
pub view_with : (profile : Profile) (anchor tick lifted : ℕ) (past : List (Delivery Reading))
    (delivery : Delivery Reading) → lifted_time anchor past delivery ≡ Some lifted → lifted ≤ tick
    → view_at profile anchor tick (delivery ∷ past)
    ≡ view_of tick (standing_after profile anchor (delivery ∷ past))
unfolding view_at
view_with profile anchor tick lifted past delivery e come =
    ap (λ found. from_time_on found tick (seen_after profile anchor tick (delivery ∷ past))
    (view_at profile anchor tick past)) e
    ∙ ap (λ is_come. if is_come then seen_after profile anchor tick (delivery ∷ past)
    else view_at profile anchor tick past) (has_come lifted tick come)

-- a set that is shown stands, with the sets of its epoch
pub stands_where_shown : (profile : Profile) (anchor lifted : ℕ) (past : List (Delivery Reading)) (time size : ℕ)
    (readings : List Reading) (page : Page) (epoch : List (List Content))
    → lifted_time anchor past (whole time size readings) ≡ Some lifted
    → verdict_of profile anchor past (whole time size readings) ≡ Some Shown
    → page_in_set (contents_in readings) ≡ Some page
    → epoch_of (contents_in readings ∷ sets_since profile anchor past) ≡ Some epoch
    → standing_after profile anchor (whole time size readings ∷ past)
    ≡ Some (record { time = lifted; page = page; scene = scene_in epoch page })
unfolding standing_after
stands_where_shown profile anchor lifted past time size readings page epoch kept shown page_is epoch_is =
    ap (λ found. standing_with (sets_since profile anchor past) found (whole time size readings)
    (verdict_of profile anchor past (whole time size readings)) (standing_after profile anchor past)) kept
    ∙ ap (λ verdict. standing_with (sets_since profile anchor past) (Some lifted) (whole time size readings) verdict
    (standing_after profile anchor past)) shown
    ∙ ap (λ found. standing_in lifted found (epoch_of (contents_in readings ∷ sets_since profile anchor past)))
    page_is
    ∙ ap (standing_in lifted (Some page)) epoch_is

-- and the view is its page's from its time on, until the time-out
pub view_of_shown : (profile : Profile) (anchor tick lifted : ℕ) (past : List (Delivery Reading)) (time size : ℕ)
    (readings : List Reading) (page : Page) (epoch : List (List Content))
    → lifted_time anchor past (whole time size readings) ≡ Some lifted → lifted ≤ tick
    → verdict_of profile anchor past (whole time size readings) ≡ Some Shown
    → page_in_set (contents_in readings) ≡ Some page
    → epoch_of (contents_in readings ∷ sets_since profile anchor past) ≡ Some epoch
    → view_at profile anchor tick (whole time size readings ∷ past)
    ≡ view_of tick (Some (record { time = lifted; page = page; scene = scene_in epoch page }))
view_of_shown profile anchor tick lifted past time size readings page epoch kept come shown page_is epoch_is =
    view_with profile anchor tick lifted past (whole time size readings) kept come
    ∙ ap (view_of tick)
    (stands_where_shown profile anchor lifted past time size readings page epoch kept shown page_is epoch_is)
