-- Tallies with one set or loss more, and how great they are.
use Rattle.std.proofs.Common.{◌≡◌, ◌∙◌, ℕ, suc, ◌+◌, Bool, false, cond, List, [], ◌∷◌, ◌++◌, length, Option, Some, None, append-nil, refl, sym, ap, arith}
use Rattle.std.specs.Prelude.{◌==◌}
use Rattle.std.proofs.lemmas.Bool.Decides.{nat_tests}
use Rattle.decoder_model.specs.Readings.{Reading}
use Rattle.decoder_model.specs.Sets.{Delivery}
use Rattle.decoder_model.specs.Verdict.{verdict_of}
use Rattle.decoder_model.specs.declared.set_end.SetEnd.{SetEnd}
use Rattle.decoder_model.specs.declared.set_end.SetEnd.TheVariants.{Shown, Waiting, Broken, NotLater}
use Rattle.set_receiver.specs.Taking.{AreLost}
use Rattle.sub_base.specs.declared.profile.Profile.{Profile}
use Rattle.fault_text.specs.FaultText.{defined_after, defined_with, ends_of, how_many, is_broken, is_loss, is_not_later, is_shown, is_waiting, segments_handed, set_count, sets_text, tally_of, text_behind}
use Rattle.fault_text.specs.Faulting.{counted_end, known_behind, with_lost}
use Rattle.fault_text.specs.declared.tally.Tally.{Tally}

-- ---- one more

pub ends_more : (profile : Profile) (anchor : ℕ) (past : List (Delivery Reading)) (one : Delivery Reading)
    → ends_of profile anchor (one ∷ past) ≡ verdict_of profile anchor past one ∷ ends_of profile anchor past
unfolding ends_of
ends_more profile anchor past one = refl

pub text_more : (profile : Profile) (anchor : ℕ) (given : List (Delivery (List ℕ))) (past : List (Delivery Reading))
    (raw : Delivery (List ℕ)) (one : Delivery Reading)
    → sets_text profile anchor (raw ∷ given) (one ∷ past)
    ≡ sets_text profile anchor given past ++ text_behind profile anchor given past raw one
unfolding sets_text
text_more profile anchor given past raw one = refl

pub defined_more : (profile : Profile) (anchor : ℕ) (given : List (Delivery (List ℕ)))
    (past : List (Delivery Reading)) (raw : Delivery (List ℕ)) (one : Delivery Reading)
    → defined_after profile anchor (raw ∷ given) (one ∷ past)
    ≡ defined_with (verdict_of profile anchor past one) (segments_handed profile.coded raw)
    (defined_after profile anchor given past)
unfolding defined_after
defined_more profile anchor given past raw one = refl

pub none_defined : (profile : Profile) (anchor : ℕ) → [] ≡ defined_after profile anchor [] []
unfolding defined_after
none_defined profile anchor = refl

pub none_counted : (profile : Profile) (anchor : ℕ) → tally_of [] ≡ tally_of (ends_of profile anchor [])
unfolding ends_of
none_counted profile anchor = refl

pub none_told : (profile : Profile) (anchor : ℕ) → [] ≡ sets_text profile anchor [] []
unfolding sets_text
none_told profile anchor = refl

one_more : (n : ℕ) → n + 1 ≡ suc n
one_more n = omega arith

-- a set of that end
pub counted_more : (end : SetEnd) (ends : List (Option SetEnd))
    → counted_end end (tally_of ends) ≡ tally_of (Some end ∷ ends)
counted_more Shown ends i = record (tally_of ends) { shown = one_more (how_many is_shown ends) i }
counted_more Waiting ends i = record (tally_of ends) { waiting = one_more (how_many is_waiting ends) i }
counted_more (Broken fault) ends i = record (tally_of ends) { broken = one_more (how_many is_broken ends) i }
counted_more (NotLater last) ends i = record (tally_of ends) { not_later = one_more (how_many is_not_later ends) i }

-- ---- losses

-- losses are counted, and nothing is told of them
pub losses_counted : (profile : Profile) (anchor : ℕ) (more past : List (Delivery Reading)) → AreLost more
    → tally_of (ends_of profile anchor (more ++ past))
    ≡ with_lost (length more) (tally_of (ends_of profile anchor past))
losses_counted profile anchor [] past are = λ i. record (tally_of (ends_of profile anchor past)) { lost = same i }
  where
    same : how_many is_loss (ends_of profile anchor past) ≡ how_many is_loss (ends_of profile anchor past) + 0
    same = omega arith
losses_counted profile anchor (one ∷ more) past are =
    ap tally_of
    (ends_more profile anchor (more ++ past) one
    ∙ ap (λ (loss : Delivery Reading). verdict_of profile anchor (more ++ past) loss
    ∷ ends_of profile anchor (more ++ past)) are.0)
    ∙ none_more (ends_of profile anchor (more ++ past))
    ∙ ap (with_lost 1) (losses_counted profile anchor more past are.1)
    ∙ both (length more) (tally_of (ends_of profile anchor past))
  where
    none_more : (ends : List (Option SetEnd)) → tally_of (None ∷ ends) ≡ with_lost 1 (tally_of ends)
    none_more ends i = record (tally_of ends) { lost = sym (one_more (how_many is_loss ends)) i }

    both : (count : ℕ) (tally : Tally) → with_lost 1 (with_lost count tally) ≡ with_lost (suc count) tally
    both count tally i = record tally { lost = same i }
      where
        same : tally.lost + count + 1 ≡ tally.lost + suc count
        same = omega arith

pub losses_untold : (profile : Profile) (anchor : ℕ) (raws : List (Delivery (List ℕ))) (more : List (Delivery Reading))
    (given : List (Delivery (List ℕ))) (past : List (Delivery Reading)) → length raws ≡ length more → AreLost more
    → sets_text profile anchor given past ≡ sets_text profile anchor (raws ++ given) (more ++ past)
losses_untold profile anchor [] [] given past many are = refl
losses_untold profile anchor [] (one ∷ more) given past many are = absurd (omega (arith, many))
losses_untold profile anchor (raw ∷ raws) [] given past many are = absurd (omega (arith, many))
losses_untold profile anchor (raw ∷ raws) (one ∷ more) given past many are =
    losses_untold profile anchor raws more given past (omega (arith, many)) are.1
    ∙ sym (append-nil (sets_text profile anchor (raws ++ given) (more ++ past)))
    ∙ ap (λ (loss : Delivery Reading). sets_text profile anchor (raws ++ given) (more ++ past)
    ++ text_behind profile anchor (raws ++ given) (more ++ past) raw loss) (sym are.0)
    ∙ sym (text_more profile anchor (raws ++ given) (more ++ past) raw one)

never_zero : (count : ℕ) → (suc count == 0) ≡ false
never_zero count = grind (arith, nat_tests)

-- where something was lost, no definition is known
pub losses_forget : (profile : Profile) (anchor : ℕ) (raws : List (Delivery (List ℕ))) (more : List (Delivery Reading))
    (given : List (Delivery (List ℕ))) (past : List (Delivery Reading)) → length raws ≡ length more → AreLost more
    → known_behind (length more) (defined_after profile anchor given past)
    ≡ defined_after profile anchor (raws ++ given) (more ++ past)
losses_forget profile anchor [] [] given past many are = refl
losses_forget profile anchor [] (one ∷ more) given past many are = absurd (omega (arith, many))
losses_forget profile anchor (raw ∷ raws) [] given past many are = absurd (omega (arith, many))
losses_forget profile anchor (raw ∷ raws) (one ∷ more) given past many are =
    ap (λ (b : Bool). cond b (defined_after profile anchor given past) []) (never_zero (length more))
    ∙ ap (λ (loss : Delivery Reading). defined_with (verdict_of profile anchor (more ++ past) loss)
    (segments_handed profile.coded raw) (defined_after profile anchor (raws ++ given) (more ++ past))) (sym are.0)
    ∙ sym (defined_more profile anchor (raws ++ given) (more ++ past) raw one)

-- ---- how great

-- each set and loss is counted once
pub all_counted : (ends : List (Option SetEnd))
    → set_count (tally_of ends) + (tally_of ends).lost ≡ length ends
all_counted [] = omega arith
all_counted (None ∷ ends) = omega (arith, all_counted ends)
all_counted (Some Shown ∷ ends) = omega (arith, all_counted ends)
all_counted (Some Waiting ∷ ends) = omega (arith, all_counted ends)
all_counted (Some (Broken fault) ∷ ends) = omega (arith, all_counted ends)
all_counted (Some (NotLater last) ∷ ends) = omega (arith, all_counted ends)

no_ends : (profile : Profile) (anchor : ℕ) → ends_of profile anchor [] ≡ []
unfolding ends_of
no_ends profile anchor = refl

pub ends_count : (profile : Profile) (anchor : ℕ) (past : List (Delivery Reading))
    → length (ends_of profile anchor past) ≡ length past
ends_count profile anchor [] = ap (λ (l : List (Option SetEnd)). length l) (no_ends profile anchor)
ends_count profile anchor (one ∷ past) =
    ap (λ (l : List (Option SetEnd)). length l) (ends_more profile anchor past one)
    ∙ ap suc (ends_count profile anchor past)
