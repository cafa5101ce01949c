-- What a receiver that draws what it is asked for stands for.
use Rattle.std.proofs.Common.{◌≡◌, ◌∙◌, ℕ, Bool, List, ◌∷◌, ◌++◌, refl, sym, ap, subst}
use Rattle.decoder_model.specs.Received.{sets_received}
use Rattle.decoder_model.specs.Sets.{Delivery}
use Rattle.display_sets.specs.Gathered.{ready_sets}
use Rattle.set_receiver.specs.Receiving as held
use Rattle.set_receiver.specs.Receiving.{SetReceiving}
use Rattle.receiver.specs.Asking.{Asking, IsNext, IsSame, KeepsSets}

-- nothing changed
pub keeps_itself : (asking : Asking) → KeepsSets asking asking
keeps_itself asking = record { same = refl; stands = λ ended fed given stands. stands }

-- nothing but the picture did, and again
pub keeps_both : (a b c : Asking) → KeepsSets a b → KeepsSets b c → KeepsSets a c
keeps_both a b c one other = record {
  same = other.same ∙ one.same;
  stands = λ ended fed given stands. other.stands ended fed given (one.stands ended fed given stands);
}

-- so it is for the same, has the same sets ready, and the same one comes next
pub same_kept : (old new : Asking) → KeepsSets old new → IsSame old new
same_kept old new keeps = ap held.reception keeps.same

pub ready_kept : (old new : Asking) → KeepsSets old new → ready_sets new.sets ≡ ready_sets old.sets
ready_kept old new keeps = ap (λ (receiving : SetReceiving). ready_sets receiving.collecting.sets) keeps.same

pub next_kept : (old new : Asking) → KeepsSets old new → (ended : Bool) (fed : List (List ℕ))
    (given : List (Delivery (List ℕ))) (next : Delivery (List ℕ)) (rest : List (Delivery (List ℕ)))
    → IsNext ended fed given next rest old → IsNext ended fed given next rest new
next_kept old new keeps ended fed given next rest is = record {
  stands = keeps.stands ended fed given is.stands;
  all =
      subst (λ (receiving : SetReceiving). sets_received (held.reception receiving) ended fed ≡ given ++ next ∷ rest)
      (sym keeps.same) is.all;
}
