-- What is due stays due, and begins the packets of what was let in.
use Rattle.std.proofs.Common.{◌≡◌, ◌∙◌, inl, ℕ, ◌+◌, ◌-◌, ◌*◌, ◌/◌, ◌≤◌, List, [], ◌∷◌, ◌++◌, length, take, Option, Some, None, refl, sym, ap, subst, arith}
use Rattle.std.proofs.Math.Seq.{take-append-add}
use Rattle.std.proofs.lemmas.List.{length-take}
use Rattle.stream_syntax.specs.declared.wire.TheConstants.{PACKET_LENGTH}
use Rattle.live_plan.proofs.DueFronts.{due_stays}
use Rattle.live_plan.proofs.OneBatch.{due_slots as whole_slots, one_batch}
use Rattle.live_plan.specs.LetIn.{LetIn}
use Rattle.live_plan.specs.LiveOutcome.{BeginsBatch, Runs, let_in, none_yet, passed_over, turned_away}
use Rattle.live_plan.specs.LiveRows.{Inserter, IsBatchOf, IsDue, IsDueBy, RowOrTick, before_tick, last_tick, row, tick}

pub runs_let_in : {inserter : Inserter} {pieces : List (List ℕ)} {past : List RowOrTick} {count : ℕ} {lines : List ℕ}
    → Runs inserter pieces past count lines → LetIn inserter past
runs_let_in none_yet = tt
runs_let_in (passed_over piece runs none) = runs_let_in runs
runs_let_in (let_in piece cells runs one lets) = ((cells, refl, lets), runs_let_in runs)
runs_let_in (turned_away piece fault runs some found refused) = runs_let_in runs

-- what is due are whole slots
pub due_slots : (inserter : Inserter) (past : List RowOrTick) (due : List ℕ) → IsDue inserter past due
    → PACKET_LENGTH * (length due / PACKET_LENGTH) ≡ length due
due_slots inserter past due is =
    let slots = whole_slots inserter past due is in omega (arith, slots.1)

-- ---- what goes on

some_batch : (inserter : Inserter) (past : List RowOrTick) → LetIn inserter past
    → (packets : List ℕ) × IsBatchOf inserter past packets
some_batch inserter [] are = ([], inl (refl, refl))
some_batch inserter (taken ∷ past) ((cells, is, lets), are) =
    (lets.packets, subst (λ one. IsBatchOf inserter (one ∷ past) lets.packets) (sym is) lets.batch)

-- the last tick with what came behind it and before it
pub split_tick : (past : List RowOrTick) (time : ℕ) → last_tick past ≡ Some time
    → (later : List RowOrTick) × (past ≡ later ++ tick time ∷ before_tick past)
split_tick [] time is = absurd (some_there time is)
  where
    some_there : (time : ℕ) → None ≡ Some time → ⊥
    some_there time is = grind (arith, is)
split_tick (row cells ∷ past) time is =
    let rest = split_tick past time is in (row cells ∷ rest.0, ap (λ l. row cells ∷ l) rest.1)
split_tick (tick last ∷ past) time is = ([], ap (λ t. tick t ∷ past) (same_tick last time is))
  where
    same_tick : (last time : ℕ) → Some last ≡ Some time → last ≡ time
    same_tick last time is = grind (arith, is)

-- what is due begins the packets
pub due_begins : (inserter : Inserter) (past : List RowOrTick) (due : List ℕ) → LetIn inserter past
    → IsDue inserter past due → BeginsBatch inserter past due
due_begins inserter past due are is = by (last_tick past) refl is
  where
    there : (packets : List ℕ) × IsBatchOf inserter past packets
    there = some_batch inserter past are

    by : (last : Option ℕ) → last_tick past ≡ last → IsDueBy inserter past last due → BeginsBatch inserter past due
    by None none nothing = (there.0, subst (λ l. IsBatchOf inserter past (l ++ there.0)) (sym nothing) there.1)
    by (Some time) some (packets, batch, front) =
        let parts = split_tick past time some in
        let goes =
        due_stays inserter (before_tick past) parts.0 time packets there.0 (subst (LetIn inserter) parts.1 are) batch
        (subst (λ p. IsBatchOf inserter p there.0) parts.1 there.1) in (
          goes.0,
          subst (λ l. IsBatchOf inserter past l) (goes.1 ∙ ap (λ l. l ++ goes.0) (sym front)) there.1,
        )

-- bytes that begin the packets begin them, whichever packets these are
pub batch_goes_on : (inserter : Inserter) (past : List RowOrTick) (begun packets : List ℕ)
    → BeginsBatch inserter past begun → IsBatchOf inserter past packets
    → (more : List ℕ) × (packets ≡ begun ++ more)
batch_goes_on inserter past begun packets begins is =
    (begins.0, one_batch inserter past packets (begun ++ begins.0) is begins.1)

short : (n : ℕ) (all now : List ℕ) → now ≡ take n all → length now ≤ n
short n all now is = omega (arith, ap length is, length-take n all)

-- a prefix of bytes that is as long as their beginning goes on with it
pub front_goes_on : (n : ℕ) (before more now : List ℕ) → now ≡ take n (before ++ more) → length before ≤ length now
    → (rest : List ℕ) × (now ≡ before ++ rest)
front_goes_on n before more now is longer =
    let most : length now ≤ n = short n (before ++ more) now is in
    let split : n ≡ length before + (n - length before) = omega arith in (
      take (n - length before) more,
      is ∙ (ap (λ k. take k (before ++ more)) split ∙ take-append-add before more (n - length before)),
    )
