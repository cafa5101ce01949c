-- The sets of a generated script's plan are far apart: no page is sent again, and two ticks of the script are.
use Rattle.std.proofs.Common.{◌≡◌, ◌∙◌, ◌⊎◌, inl, inr, ℕ, ◌+◌, ◌*◌, ◌/◌, ◌<◌, ◌≤◌, true, List, [], ◌∷◌, ◌++◌, map, length, get_or, All, Some, sym, ap, subst, refl, arith}
use Rattle.std.specs.Prelude.{slice_get}
use Rattle.std.specs.List.{flat_map, range_with_len, list_any, AllZip, Contains}
use Rattle.std.proofs.lemmas.List.{get_or-append-add, get_or_append_left, get_or-map, get_or_default, length-append, take_all}
use Rattle.std.proofs.lemmas.List.Elements.{All-cons, All-contains, All-tail, All-nil}
use Rattle.std.proofs.lemmas.List.Folds.{Any-from_list_any}
use Rattle.std.proofs.lemmas.Option.{get_or_from_slice_get, slice_get_within}
use Rattle.sub_base.specs.declared.profile.Profile.{Profile}
use Rattle.cue_records.specs.declared.row_values.ColourRow.{ColourRow}
use Rattle.cue_list.specs.declared.epoch.Cue.{Cue}
use Rattle.cue_list.specs.declared.epoch.Epoch.{Epoch}
use Rattle.cue_list.specs.declared.script.Script.{Script}
use Rattle.cue_list.specs.Authored.{is_live}
use Rattle.cue_list.specs.Sound.{ticks_of, ticks_of_cue}
use Rattle.generated_script_laws.specs.Listed.{AreFarApart}
use Rattle.generated_script.specs.Generated.{IsGenerated, IsGeneratedEpoch}
use Rattle.generated_script.proofs.TickLaws.{IsGeneratedTick, cue_of, epoch_at, lasts, ticks_far, ticks_generated}
use Rattle.page_epoch.specs.declared.planned_set.PlannedSet.{PlannedSet}
use Rattle.page_epoch.specs.Instants.{named_ticks, shows_cue, IsRefresh, IsInstant, AreInstants}
use Rattle.page_epoch.specs.Plan.{IsPlan}
use Rattle.page_epoch.proofs.InstantLaws.{in_order}
use Rattle.generated_script_laws.proofs.LiveCues.{begun_by, going_at}

-- ---- pieces of a list

left_part : {X : Type 0} (P : X → Type 0) (xs ys : List X) → All P (xs ++ ys) → All P xs
left_part P xs ys all i d h =
    subst P (get_or_append_left xs ys d i h) (all i d (let long = length-append xs ys in omega arith))

right_part : {X : Type 0} (P : X → Type 0) (xs ys : List X) → All P (xs ++ ys) → All P ys
right_part P xs ys all i d h =
    subst P (get_or-append-add xs ys i d) (all (length xs + i) d (let long = length-append xs ys in omega arith))

-- what holds of the whole holds of each piece
pub each_piece : {X Y : Type 0} (P : Y → Type 0) (f : X → List Y) (xs : List X) → All P (flat_map f xs)
    → All (λ x. All P (f x)) xs
each_piece P f [] all = All-nil (λ x. All P (f x))
each_piece P f (x ∷ xs) all =
    All-cons (λ y. All P (f y)) x xs (left_part P (f x) (flat_map f xs) all)
    (each_piece P f xs (right_part P (f x) (flat_map f xs) all))

-- what holds of all ticks holds of the end of a cue
end_of : (P : ℕ → Type 0) (epochs : List Epoch) (i j : ℕ) (epoch : Epoch) (cue : Cue)
    → All P (named_ticks epochs) → i < length epochs → j < length (get_or epochs i epoch).cues
    → P (get_or (get_or epochs i epoch).cues j cue).end
end_of P epochs i j epoch cue all h g =
    let here : All P (ticks_of (get_or epochs i epoch)) = each_piece P ticks_of epochs all i epoch h in
    let rest : All P
    (map (λ (row : ColourRow). row.tick) (get_or epochs i epoch).colours
    ++ flat_map ticks_of_cue (get_or epochs i epoch).cues) = All-tail P (get_or epochs i epoch).start _ here in
    let ends : All P (flat_map ticks_of_cue (get_or epochs i epoch).cues) =
    right_part P (map (λ (row : ColourRow). row.tick) (get_or epochs i epoch).colours)
    (flat_map ticks_of_cue (get_or epochs i epoch).cues) rest in
    each_piece P ticks_of_cue (get_or epochs i epoch).cues ends j cue g 1 0 (omega arith)

-- ---- refreshes

-- a cue that is live at a tick
record IsGoing (epochs : List Epoch) (tick : ℕ) : Type 0 where
  place : ℕ
  at : ℕ
  epoch : Epoch
  cue : Cue
  there : place < length epochs
  within : at < length (get_or epochs place epoch).cues
  begun : (get_or (get_or epochs place epoch).cues at cue).start ≤ tick
  going : tick < (get_or (get_or epochs place epoch).cues at cue).end

going_of : (epochs : List Epoch) (tick : ℕ) → shows_cue epochs tick ≡ true → IsGoing epochs tick
going_of epochs tick shown =
    let one = Any-from_list_any (λ (epoch : Epoch). list_any (is_live tick) epoch.cues) epochs shown in
    let here : get_or epochs one.0 one.1 ≡ one.1 = one.3 in
    let live : list_any (is_live tick) (get_or epochs one.0 one.1).cues ≡ true =
    ap (λ (epoch : Epoch). list_any (is_live tick) epoch.cues) here ∙ one.4 in
    let two = Any-from_list_any (is_live tick) (get_or epochs one.0 one.1).cues live in
    let found : is_live tick (get_or (get_or epochs one.0 one.1).cues two.0 two.1) ≡ true =
    ap (is_live tick) two.3 ∙ two.4 in
    record {
      place = one.0;
      at = two.0;
      epoch = one.1;
      cue = two.1;
      there = one.2;
      within = two.2;
      begun = begun_by tick (get_or (get_or epochs one.0 one.1).cues two.0 two.1) found;
      going = going_at tick (get_or (get_or epochs one.0 one.1).cues two.0 two.1) found;
    }

-- a cue lasts less than a refresh
cue_short : (number : ℕ) (epochs : List Epoch) (place at : ℕ) (epoch : Epoch) (cue : Cue)
    → AllZip (IsGeneratedEpoch number) (range_with_len 0 ((number + 15) / 16)) epochs → place < length epochs
    → at < length (get_or epochs place epoch).cues →
    (get_or (get_or epochs place epoch).cues at cue).end
    ≤ (get_or (get_or epochs place epoch).cues at cue).start + 216000
cue_short number epochs place at epoch cue are h g =
    let own = cue_of number place (get_or epochs place epoch) (epoch_at number epochs place epoch are h) at cue g in
    let start = ap (λ (c : Cue). c.start) own in
    let end = ap (λ (c : Cue). c.end) own in
    let long = (lasts (16 * place + at)).1 in
    omega arith

no_refresh : (number : ℕ) (epochs : List Epoch) (tick : ℕ)
    → AllZip (IsGeneratedEpoch number) (range_with_len 0 ((number + 15) / 16)) epochs
    → IsRefresh epochs 450000 tick → ⊥
no_refresh number epochs tick are refresh =
    let going = going_of epochs refresh.last refresh.shown in
    let short = cue_short number epochs going.place going.at going.epoch going.cue are going.there going.within in
    let between =
    end_of (λ (t : ℕ). (t ≤ refresh.last) ⊎ (refresh.next ≤ t)) epochs going.place going.at going.epoch
    going.cue refresh.neighbours.between going.there going.within in
    let begun = going.begun in
    let ends = going.going in
    let some = refresh.some in
    let after = refresh.after in
    let room = refresh.room in
    elim between [ inl before ↦ omega arith | inr later ↦ omega arith ]

-- ---- instants

instant_generated : (number : ℕ) (epochs : List Epoch) (tick : ℕ)
    → AllZip (IsGeneratedEpoch number) (range_with_len 0 ((number + 15) / 16)) epochs
    → IsInstant epochs 450000 tick → IsGeneratedTick tick
instant_generated number epochs tick are (inl named) =
    All-contains IsGeneratedTick (named_ticks epochs) tick (ticks_generated number epochs are) named
instant_generated number epochs tick are (inr refresh) = absurd (no_refresh number epochs tick are refresh)

first_named : (number : ℕ) (epochs : List Epoch) (tick : ℕ)
    → AllZip (IsGeneratedEpoch number) (range_with_len 0 ((number + 15) / 16)) epochs
    → IsInstant epochs 450000 tick → Contains (named_ticks epochs) 180000
first_named number [] tick are (inl named) = absurd (omega (arith, named.1))
first_named number [] tick are (inr refresh) = absurd (no_refresh number [] tick are refresh)
first_named number (epoch ∷ epochs) tick are instant =
    let start = (epoch_at number (epoch ∷ epochs) 0 epoch are (omega arith)).start in
    (0, omega arith, start ∙ refl)

-- the instants by their places
record AreFarTicks (ticks : List ℕ) : Type 0 where
  first : 0 < length ticks → get_or ticks 0 0 ≡ 180000
  next : (i : ℕ) → i + 1 < length ticks → get_or ticks i 0 + 27000 ≤ get_or ticks (i + 1) 0

far_ticks : (number : ℕ) (epochs : List Epoch) (ticks : List ℕ)
    → AllZip (IsGeneratedEpoch number) (range_with_len 0 ((number + 15) / 16)) epochs
    → AreInstants epochs 450000 ticks → AreFarTicks ticks
far_ticks number epochs ticks are instants = record {
  first = λ some.
      let named = first_named number epochs (get_or ticks 0 0) are (instants.each 0 0 some) in
      let there = instants.all 180000 (inl named) in
      let is : get_or ticks there.0 180000 ≡ 180000 = there.2 in
      let same = get_or_default ticks there.0 180000 0 there.1 in
      let least = in_order ticks 0 there.0 instants.rise (omega arith) there.1 in
      let tick = (instant_generated number epochs (get_or ticks 0 0) are (instants.each 0 0 some)).is in
      omega arith;
  next = λ i h.
      ticks_far (get_or ticks i 0) (get_or ticks (i + 1) 0)
      (instant_generated number epochs (get_or ticks i 0) are (instants.each i 0 (omega arith)))
      (instant_generated number epochs (get_or ticks (i + 1) 0) are (instants.each (i + 1) 0 h))
      (instants.rise i h);
}

-- ---- sets

-- the time of the set at a place
time_at : (sets : List PlannedSet) (ticks : List ℕ) (i : ℕ) (set : PlannedSet)
    → map (λ (x : PlannedSet). x.pts) sets ≡ ticks → slice_get sets i ≡ Some set
    → set.pts ≡ get_or ticks i 0
time_at sets ticks i set times found =
    let here : get_or sets i set ≡ set = get_or_from_slice_get sets i set set found in
    sym (ap (λ (x : PlannedSet). x.pts) here)
    ∙ sym (get_or-map (λ (x : PlannedSet). x.pts) sets i set 0 (slice_get_within sets i set found))
    ∙ ap (λ (xs : List ℕ). get_or xs i 0) times

-- no page is sent again
pub none_refreshed : (number : ℕ) (script : Script) (tick : ℕ) → IsGenerated number script
    → IsRefresh script.epochs script.refresh tick → ⊥
none_refreshed number script tick is refreshed =
    no_refresh number script.epochs tick is.epochs
    (subst (λ (refresh : ℕ). IsRefresh script.epochs refresh tick) is.refresh refreshed)

pub sets_apart : (number : ℕ) (script : Script) (profile : Profile) (sets : List PlannedSet)
    → IsGenerated number script → IsPlan script profile sets → AreFarApart sets
sets_apart number script profile sets is plan =
    let planned = plan.planned in
    let ticks = planned.instants in
    let instants : AreInstants script.epochs 450000 planned.instants =
    subst (λ (refresh : ℕ). AreInstants script.epochs refresh planned.instants) is.refresh planned.are_instants
    in
    let far = far_ticks number script.epochs planned.instants is.epochs instants in
    let all = planned.all in
    let times : map (λ (x : PlannedSet). x.pts) sets ≡ planned.instants =
    planned.first.times ∙ take_all (length sets) planned.instants (omega arith) in
    record {
      first =
          λ set found. let short = slice_get_within sets 0 set found in time_at sets planned.instants 0 set times found
          ∙ far.first (omega arith);
      next = λ i before set found also.
          let short = slice_get_within sets (i + 1) set also in
          let one = time_at sets planned.instants i before times found in
          let two = time_at sets planned.instants (i + 1) set times also in
          let gap = far.next i (omega arith) in
          omega arith;
    }
