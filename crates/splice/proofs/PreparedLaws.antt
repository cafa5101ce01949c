-- A set that is ready, whose segments are in memory.
use Rattle.std.proofs.Common.{◌≡◌, ◌∙◌, ℕ, ◌^◌, ◌<◌, List, Option, Some, length, sym, ap, subst}
use Rattle.std.specs.Prelude.{IfOk, Result, Ok, option_map}
use Rattle.std.specs.Borrow.{Bor}
use Rattle.std.specs.Option.{ForSome}
use Rattle.std.proofs.lemmas.Result.{IfOk-weaker}
use Rattle.sub_base.specs.declared.faults.NoMemory.{NoMemory}
use Rattle.decoder_model.specs.Sets.{Delivery, lost, whole, refused}
use Rattle.decoder_model.specs.declared.set_fault.SetFault.{SetFault}
use Rattle.display_sets.specs.Filling.{AreBytes}
use Rattle.display_sets.specs.Gathered.{ReadySet}
use Rattle.display_sets.specs.Lent.{lent, lent_content}
use Rattle.display_sets.specs.Standing.{IsReady}
use Rattle.display_sets.specs.declared.ready.Ready.{Ready}
use Rattle.splice.specs.Private.Surveys.{IsPreparedOf}
use Rattle.splice.specs.declared.part.Part.{Part}
use Rattle.splice.specs.declared.prepared.Prepared.{Prepared}

pub within_of : (ready : Option Ready) (set : Ready) (bytes : Bor (List ℕ)) → ready ≡ Some set
    → set.segments ≡ Ok bytes → ForSome ready (λ set. IfOk set.segments (λ bytes. length bytes.now < 2 ^ 32))
    → length bytes.now < 2 ^ 32
within_of ready set bytes is found within =
    subst (λ (segments : Result (Bor (List ℕ)) SetFault). IfOk segments (λ bytes. length bytes.now < 2 ^ 32)) found
    (within set is)

-- the content of what is lent
content_is : (ready : Option Ready) (set : Ready) (bytes : Bor (List ℕ)) (one : ReadySet) → ready ≡ Some set
    → set.segments ≡ Ok bytes → option_map lent ready ≡ Some one → one.content ≡ Ok bytes.now
content_is ready set bytes one is found given =
    by (lent set) one (sym (ap (option_map lent) is) ∙ given) (ap lent_content found)
  where
    by : (a b : ReadySet) → Some a ≡ Some b → a.content ≡ Ok bytes.now → b.content ≡ Ok bytes.now
    by a b e known = cc

same_bytes : (bytes other : List ℕ) (result : Result (List ℕ) SetFault) → result ≡ Ok bytes → result ≡ Ok other
    → bytes ≡ other
same_bytes bytes other result one two = cc

pub prepared_so : (part : Part) (begin lifted : Option ℕ) (ready : Option Ready) (set : Ready) (bytes : Bor (List ℕ))
    → ready ≡ Some set → set.segments ≡ Ok bytes → (next : Prepared)
    → ((time size : ℕ) (segments : List (List ℕ)) → AreBytes segments bytes.now
    → IsPreparedOf part begin lifted (whole time size segments) next)
    → (delivery : Delivery (List ℕ)) (one : ReadySet) → option_map lent ready ≡ Some one → IsReady delivery one
    → IsPreparedOf part begin lifted delivery next
prepared_so part begin lifted ready set bytes is found next known lost one given is_ready = absurd is_ready
prepared_so part begin lifted ready set bytes is found next known (whole time size segments) one given is_ready =
    known time size segments
    (subst (λ (all : List ℕ). AreBytes segments all)
    (same_bytes is_ready.2.0 bytes.now one.content is_ready.2.1 (content_is ready set bytes one is found given))
    is_ready.2.2)
prepared_so part begin lifted ready set bytes is found next known (refused time size fault) one given is_ready =
    absurd (let other = content_is ready set bytes one is found given in let never = is_ready.2 in cc)

pub prepared_whole : (part : Part) (begin lifted : Option ℕ) (ready : Option Ready) (set : Ready)
    (bytes : Bor (List ℕ)) → ready ≡ Some set → set.segments ≡ Ok bytes → (result : Result Prepared NoMemory)
    → IfOk result (λ next. (time size : ℕ) (segments : List (List ℕ)) → AreBytes segments bytes.now
    → IsPreparedOf part begin lifted (whole time size segments) next)
    → IfOk result (λ next. (delivery : Delivery (List ℕ)) (one : ReadySet) → option_map lent ready ≡ Some one
    → IsReady delivery one → IsPreparedOf part begin lifted delivery next)
prepared_whole part begin lifted ready set bytes is found result known =
    IfOk-weaker result _ _ (prepared_so part begin lifted ready set bytes is found) known
