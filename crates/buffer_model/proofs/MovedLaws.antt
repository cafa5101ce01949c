-- A past that is told from a later slot on: the origin is that much later.
use Rattle.std.proofs.Common.{◌≡◌, ◌∙◌, ℕ, ◌+◌, arith, List, [], ◌∷◌, refl, ap, sym, true, false}
use Rattle.sub_base.specs.declared.load.SetLoad.{SetLoad}
use Rattle.sub_base.specs.declared.pace.Pace.{Pace}
use Rattle.sub_base.specs.Pace.{tick_of, left_by, done_tick}
use Rattle.buffer_model.specs.Calls.{Call, Arrived, SetWhole, Dropped, arrived, left, unassigned, last_slot, last_shown, level_at, done_of}
use Rattle.buffer_model.specs.Within.{AreWithin, moved, later_by, has_arrived, AllHeard}

-- a slot there has the tick of the later slot here
tick_moved : (pace : Pace) (by slot : ℕ) → tick_of (later_by by pace) slot ≡ tick_of pace (slot + by)
tick_moved pace by slot = omega arith

arrived_moved : (by : ℕ) (past : List Call) → arrived (moved by past) ≡ arrived past
arrived_moved by [] = refl
arrived_moved by (Arrived slot bytes ∷ past) = ap (λ n. n + bytes) (arrived_moved by past)
arrived_moved by (SetWhole load ∷ past) = arrived_moved by past
arrived_moved by (Dropped ∷ past) = arrived_moved by past

unassigned_moved : (by : ℕ) (past : List Call) → unassigned (moved by past) ≡ unassigned past
unassigned_moved by [] = refl
unassigned_moved by (Arrived slot bytes ∷ past) = ap (λ n. n + bytes) (unassigned_moved by past)
unassigned_moved by (SetWhole load ∷ past) = refl
unassigned_moved by (Dropped ∷ past) = refl

last_moved : (by : ℕ) (past : List Call) → has_arrived past ≡ true
    → last_slot (moved by past) ≡ last_slot past + by
last_moved by [] h = let e : false ≡ true = h in cc
last_moved by (Arrived slot bytes ∷ past) h = refl
last_moved by (SetWhole load ∷ past) h = last_moved by past h
last_moved by (Dropped ∷ past) h = last_moved by past h

shown_moved : (by : ℕ) (past : List Call) → last_shown (moved by past) ≡ last_shown past
shown_moved by [] = refl
shown_moved by (Arrived slot bytes ∷ past) = shown_moved by past
shown_moved by (SetWhole load ∷ past) = refl
shown_moved by (Dropped ∷ past) = shown_moved by past

-- done ticks are the same
pub done_moved : (pace : Pace) (by : ℕ) (load : SetLoad) (past : List Call) → has_arrived past ≡ true
    → done_of (later_by by pace) load past ≡ done_of pace load (moved by past)
done_moved pace by load past h =
    ap (λ tick. done_tick tick (last_shown past) load)
    (tick_moved pace by (last_slot past) ∙ ap (tick_of pace) (sym (last_moved by past h)))
    ∙ ap (λ shown. done_tick (tick_of pace (last_slot (moved by past))) shown load) (sym (shown_moved by past))

-- what has left by a tick is the same
left_moved : (pace : Pace) (by tick : ℕ) (past : List Call) → AllHeard past
    → left (later_by by pace) tick past ≡ left pace tick (moved by past)
left_moved pace by tick [] h = refl
left_moved pace by tick (Arrived slot bytes ∷ past) h = left_moved pace by tick past h
left_moved pace by tick (SetWhole load ∷ past) h =
    ap (λ done. left_by tick done (unassigned past) + left (later_by by pace) tick past)
    (done_moved pace by load past h.0)
    ∙ ap (λ bytes. left_by tick (done_of pace load (moved by past)) bytes + left (later_by by pace) tick past)
    (sym (unassigned_moved by past))
    ∙ ap (λ rest. left_by tick (done_of pace load (moved by past)) (unassigned (moved by past)) + rest)
    (left_moved pace by tick past h.1)
left_moved pace by tick (Dropped ∷ past) h =
    ap (λ bytes. bytes + left (later_by by pace) tick past) (sym (unassigned_moved by past))
    ∙ ap (λ rest. unassigned (moved by past) + rest) (left_moved pace by tick past h)

-- levels are the same
pub level_moved : (pace : Pace) (by slot bytes : ℕ) (past : List Call) → AllHeard past →
    level_at (later_by by pace) slot bytes past ≡ level_at pace (slot + by) bytes (moved by past)
level_moved pace by slot bytes past h =
    omega (
      arith,
      arrived_moved by past,
      left_moved pace by (tick_of (later_by by pace) slot) past h,
      ap (λ tick. left pace tick (moved by past)) (tick_moved pace by slot),
    )

-- so buffer and times hold for the one where they do for the other
pub moved_within : (pace : Pace) (by : ℕ) (past : List Call) → AllHeard past → AreWithin pace (moved by past)
    → AreWithin (later_by by pace) past
moved_within pace by [] heard h = tt
moved_within pace by (Arrived slot bytes ∷ past) heard h =
    (omega (arith, h.0, level_moved pace by slot bytes past heard), moved_within pace by past heard h.1)
moved_within pace by (SetWhole load ∷ past) heard h =
    (omega (arith, h.0, done_moved pace by load past heard.0), moved_within pace by past heard.1 h.1)
moved_within pace by (Dropped ∷ past) heard h = moved_within pace by past heard h
