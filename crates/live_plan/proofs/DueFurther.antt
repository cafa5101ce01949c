-- What is due with one row more begins with what was due.
use Rattle.std.proofs.Common.{◌≡◌, ◌∙◌, refl, sym, ap, ℕ, ◌+◌, ◌*◌, ◌≤◌, nat_le, false, List, [], ◌∷◌, ◌++◌, length, take, Option, Some, None, arith, append-nil, length-append}
use Rattle.std.proofs.lemmas.Bool.Decides.{nat_tests}
use Rattle.std.proofs.lemmas.List.{length-take}
use Rattle.sub_base.specs.Pace.{pace_of}
use Rattle.sub_base.specs.Profile.{profile_of}
use Rattle.cue_list.specs.Past.{looking_back}
use Rattle.live_plan.proofs.DueFronts.{slots_later}
use Rattle.live_plan.proofs.DueRows.{due_begins, front_goes_on, split_tick}
use Rattle.live_plan.proofs.OneBatch.{one_batch}
use Rattle.live_plan.proofs.TakenRows.{tick_let_in, ticks_rise}
use Rattle.live_plan.specs.LetIn.{LetIn}
use Rattle.live_plan.specs.LiveRows.{Inserter, IsDue, IsDueBy, RowOrTick, before_tick, due_front, last_tick, nearest_in, row, slots_by, tick}

-- a tick that was let in lies above the last one
later_tick : (inserter : Inserter) (past : List RowOrTick) (last next : ℕ) → LetIn inserter (tick next ∷ past)
    → last_tick past ≡ Some last → last ≤ next
later_tick inserter past last next inside is =
    let test : nat_le next last ≡ false =
    rw is at (ticks_rise inserter past next (tick_let_in inserter past next inside)) in
    grind (arith, nat_tests)

module _ (inserter : Inserter) (past : List RowOrTick) (before now : List ℕ) where
  abbrev Begins : Type 0
  Begins = (more : List ℕ) × (now ≡ before ++ more)

  -- the last tick is the same
  same_tick : (last : Option ℕ) → IsDueBy inserter past last before → IsDueBy inserter past last now → Begins
  same_tick None none nothing = ([], nothing ∙ (sym none ∙ sym (append-nil before)))
  same_tick (Some time) (packets, batch, front) (others, batch_too, front_too) = (
    [],
    front_too
        ∙ (ap (due_front inserter (before_tick past) time)
        (one_batch inserter (before_tick past) others packets batch_too batch)
        ∙ (sym front ∙ sym (append-nil before))),
  )

  -- a later tick
  next_tick : (next : ℕ) (last : Option ℕ) → last_tick past ≡ last → LetIn inserter (tick next ∷ past)
      → IsDue inserter past before → IsDueBy inserter past last before → IsDue inserter (tick next ∷ past) now → Begins
  next_tick next None none inside was nothing is = (now, sym (ap (λ l. l ++ now) nothing))
  next_tick next (Some last) some inside was (packets, batch, front) (all, is_all, its_front) =
      let slots =
      slots_by (looking_back inserter.font (nearest_in past)).origin (pace_of 0 (profile_of inserter.profile)).step
      next in
      let begins = due_begins inserter past before inside.1 was in
      let parts = split_tick past last some in
      let short : length before ≤ 188 * slots =
      omega (
        arith,
        ap length front,
        slots_later inserter past (before_tick past) parts.0 last next packets parts.1 inside.1 batch
            (later_tick inserter past last next inside some),
      ) in
      let is_front : now ≡ take (188 * slots) (before ++ begins.0) =
      its_front ∙ ap (take (188 * slots)) (one_batch inserter past all (before ++ begins.0) is_all begins.1) in
      let longer : length before ≤ length now =
      omega (
        arith,
        ap length is_front,
        length-take (188 * slots) (before ++ begins.0),
        length-append before begins.0,
        short,
      ) in
      front_goes_on (188 * slots) before begins.0 now is_front longer

-- what is due with one row more begins with what was due
pub due_goes_further : (inserter : Inserter) (past : List RowOrTick) (taken : RowOrTick) (before now : List ℕ)
    → LetIn inserter (taken ∷ past) → IsDue inserter past before → IsDue inserter (taken ∷ past) now
    → (more : List ℕ) × (now ≡ before ++ more)
due_goes_further inserter past (row cells) before now inside was is =
    same_tick inserter past before now (last_tick past) was is
due_goes_further inserter past (tick next) before now inside was is =
    next_tick inserter past before now next (last_tick past) refl inside was was is
