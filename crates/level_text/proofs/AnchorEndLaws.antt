-- A receiver whose lifted times begin when its first packet arrives: what is told at the end of its stream, or so far.
use Rattle.std.proofs.Common.{◌≡◌, ◌∙◌, ℕ, zero, suc, ◌+◌, ◌-◌, min, Bool, true, false, List, [], ◌∷◌, ◌++◌, get_or, Option, Some, None, append-nil, refl, sym, subst}
use Rattle.buffer_model.specs.Ticks.{by_ticks}
use Rattle.check_text.specs.Checking.{Checking, HasMetered}
use Rattle.check_text.specs.Courses.{IsTextBy}
use Rattle.check_text.proofs.MeteredLaws.{metered_so_far, none_received}
use Rattle.command_text.specs.Putting.{Buffered, PutsOut}
use Rattle.command_text.proofs.PutLaws.{PutsOut-nothing}
use Rattle.decoder_model.specs.Received.{Reception}
use Rattle.pcr_clock.specs.Arrivals.{tick_at}
use Rattle.set_receiver.specs.Receiving.{reception}
use Rattle.sub_base.specs.Endpoints.{Received}
use Rattle.sub_base.specs.declared.pace.Pace.{Pace}
use Rattle.level_text.specs.Anchoring.{Anchoring, EndsTimed, FinishesTimed, HasBegun, HasTimed, IsBegunIn, IsTimed, IsTimedIn}
use Rattle.level_text.specs.ClockText.{at_ticks, from_first}
use Rattle.level_text.specs.declared.anchored_meter.TheConstants.{LATEST_ANCHOR}
use Rattle.level_text.proofs.AnchorLaws.{not_both}

-- behind all ticks that are known stands 0
zero_behind : (known : List ℕ) (place : ℕ) → get_or (known ++ 0 ∷ []) place 0 ≡ get_or known place 0
zero_behind [] zero = refl
zero_behind [] (suc place) = refl
zero_behind (tick ∷ known) zero = refl
zero_behind (tick ∷ known) (suc place) = zero_behind known place

-- a text by the ticks of a list is one by the same ticks
abbrev by_slots : Reception → Bool → List (List ℕ) → List ℕ → (ℕ → ℕ) → Type 0
by_slots asked ended packets text slot_of =
    IsTextBy (record { slot_of = slot_of; pace = by_ticks asked.profile })
    (record {
      profile = asked.profile;
      pid = asked.pid;
      pages = asked.pages;
      anchor = min LATEST_ANCHOR (slot_of 0);
    }) ended packets text

-- a text by a receiver's own pace is that of what it is for
pub text_as_asked : (asked made : Reception) (pace : Pace) (ended : Bool) (ticks : List ℕ) (packets : List (List ℕ))
    (text : List ℕ)
    → made ≡ from_first ticks asked → pace ≡ by_ticks asked.profile
    → IsTextBy (record { slot_of = tick_at ticks; pace = pace }) made ended packets text
    → IsTextBy (at_ticks ticks asked.profile) (from_first ticks asked) ended packets text
text_as_asked asked made pace ended ticks packets text own pace_is told =
    subst (λ (one : Reception). IsTextBy (at_ticks ticks asked.profile) one ended packets text) own
    (subst (λ (one : Pace). IsTextBy (record { slot_of = tick_at ticks; pace = one }) made ended packets text) pace_is
    told)

nothing_told : (asked : Reception) (ticks : List ℕ) (packets : List (List ℕ)) (text : List ℕ) → packets ≡ [] → text ≡ []
    → IsTextBy (at_ticks ticks asked.profile) (from_first ticks asked) false packets text
nothing_told asked ticks packets text none empty =
    subst (λ (all : List (List ℕ)). IsTextBy (at_ticks ticks asked.profile) (from_first ticks asked) false all text)
    (sym none)
    (subst (λ (front : List ℕ). IsTextBy (at_ticks ticks asked.profile) (from_first ticks asked) false [] front)
    (sym empty)
    (record {
      told = [];
      are = record { past = []; received = none_received (from_first ticks asked); are = refl };
      whole = refl;
    }))

-- what was told of packets, where the stream does not end with them
pub told_so_far : (asked : Reception) (ticks : List ℕ) (sets : Option Checking) (packets : List (List ℕ))
    (text : List ℕ) → IsTimedIn asked ticks sets packets text
    → IsTextBy (at_ticks ticks asked.profile) (from_first ticks asked) false packets text
told_so_far asked ticks None packets text is = nothing_told asked ticks packets text is.0 is.1
told_so_far asked ticks (Some sets) packets text is =
    text_as_asked asked (reception sets.receiving) sets.meter.pace false ticks packets text is.1.own is.1.pace
    (metered_so_far (tick_at ticks) sets packets text is.1.metered)

-- the stream has not ended
pub unfinished : (anchoring : Anchoring) (shown : Received) (buffer : Buffered)
    → FinishesTimed false shown shown anchoring anchoring buffer buffer
unfinished anchoring shown buffer = record {
  goes = λ known taken text has. (
    [],
    subst (λ (front : List ℕ). EndsTimed false known anchoring taken front) (sym (append-nil text))
        (record {
          nothing = has.nothing;
          told = λ found. told_so_far anchoring.asked known anchoring.sets taken text (has.taken found);
        }),
    PutsOut-nothing shown buffer,
  );
}

-- the stream has ended, where the receiver is there
pub finished_timed : (before now : Received) (old begun new : Anchoring) (sets : Checking) (was is : Buffered)
    → ((known : List ℕ) (taken : List (List ℕ)) (text : List ℕ) → HasTimed known old taken text
    → HasBegun (known ++ 0 ∷ []) begun taken text)
    → begun.sets ≡ Some sets → begun.is_wanting ≡ false → new.is_wanting ≡ false → new.asked ≡ begun.asked
    → ((slot_of : ℕ → ℕ) (packets : List (List ℕ)) (text : List ℕ) → HasMetered slot_of sets packets text
    → (more : List ℕ)
    × IsTextBy (record { slot_of = slot_of; pace = sets.meter.pace }) (reception sets.receiving) true packets
    (text ++ more) × PutsOut before now was is more)
    → FinishesTimed true before now old new was is
finished_timed before now old begun new sets was is begins there found now_found for_same finishes = record {
  goes = λ known taken text has.
      let timed : IsTimed begun.asked (known ++ 0 ∷ []) sets taken text =
      subst (λ (one : Option Checking). IsBegunIn begun.asked (known ++ 0 ∷ []) one taken text) there
      ((begins known taken text has).taken found) in
      let told = finishes (tick_at (known ++ 0 ∷ [])) taken text timed.metered in
      let by_more =
      text_as_asked begun.asked (reception sets.receiving) sets.meter.pace true (known ++ 0 ∷ []) taken
      (text ++ told.0) timed.own timed.pace told.1 in (
        told.0,
        record {
          nothing = λ wanting. absurd (not_both new.is_wanting wanting now_found);
          told = λ _.
              subst (λ (asked : Reception). IsTextBy (at_ticks known asked.profile) (from_first known asked) true taken
              (text ++ told.0)) (sym for_same)
              (subst (by_slots begun.asked true taken (text ++ told.0)) (λ i place. zero_behind known place i)
              by_more);
        },
        told.2,
      );
}

-- the stream has ended, where no memory was found for the receiver
pub finished_untold : (shown : Received) (old new : Anchoring) (buffer : Buffered)
    → ((known : List ℕ) (taken : List (List ℕ)) (text : List ℕ) → HasTimed known old taken text
    → HasBegun (known ++ 0 ∷ []) new taken text)
    → new.sets ≡ None → FinishesTimed true shown shown old new buffer buffer
finished_untold shown old new buffer begins none = record {
  goes = λ known taken text has. (
    [],
    record {
      nothing = λ wanting. append-nil text ∙ (begins known taken text has).nothing wanting;
      told = λ found. absurd
          (subst (λ (there : Option Checking). IsBegunIn new.asked (known ++ 0 ∷ []) there taken text) none
          ((begins known taken text has).taken found));
    },
    PutsOut-nothing shown buffer,
  );
}
