-- Rows have one batch, of whole packets.
use Rattle.std.proofs.Common.{◌≡◌, ◌∙◌, inl, inr, sym, ap, subst, ℕ, ◌*◌, min, true, false, List, [], ◌∷◌, length, take, get_or, All, Option, Some, None, arith}
use Rattle.std.specs.List.{AllZip}
use Rattle.std.proofs.lemmas.List.{length-take}
use Rattle.std.proofs.lemmas.List.Elements.{All-head, All-tail}
use Rattle.sub_base.specs.Pace.{pace_of}
use Rattle.sub_base.specs.Profile.{profile_of}
use Rattle.sub_base.specs.declared.pace.Pace.{Pace}
use Rattle.sub_base.specs.declared.profile.Profile.{Profile}
use Rattle.sub_base.specs.declared.profile.ProfileName.{ProfileName}
use Rattle.cue_list.specs.declared.epoch.Epoch.{Epoch}
use Rattle.cue_list.specs.declared.script.Script.{Script}
use Rattle.grown_script_laws.specs.Growth.{Grows}
use Rattle.page_epoch.specs.Plan.{ArePlanned, IsPlan}
use Rattle.page_epoch.specs.declared.planned_set.PlannedSet.{PlannedSet}
use Rattle.grown_script_laws.proofs.GrownPlans.{HasGrown, sets_have_grown}
use Rattle.schedule.specs.Slots.{IsOnTime, IsSchedule}
use Rattle.set_coder.specs.SetSegments.{AreSetPackets}
use Rattle.set_coder.specs.SetSizes.{IsSetLoad}
use Rattle.grown_script_laws.proofs.GrownPackets.{load_stays, packets_stay}
use Rattle.shown_stream.specs.Compiled.{IsCompiledTo, all_units, compiling_for, sent_pace}
use Rattle.shown_stream.proofs.OneStream.{one_stream}
use Rattle.slot_stream.specs.SlotStream.{all_pieces, slot_count}
use Rattle.slot_stream.proofs.FrontPackets.{all_are_pieces, length-before}
use Rattle.live_plan.specs.LiveRows.{Inserter, IsBatchOf, IsDue, IsDueBy, RowOrTick, before_tick, due_front, last_tick, nearest_in, compiling_by}
use Rattle.live_plan.proofs.GrownScripts.{same_script_grows}
use Rattle.live_plan.proofs.TakenRows.{listed}

-- ---- two scripts of the same records

-- each set has grown at its own time
own_grown : (old new : Script) (profile : Profile) (sets : List PlannedSet)
    → ((horizon : ℕ) → Grows horizon old new) → IsPlan old profile sets
    → All (λ (set : PlannedSet). HasGrown set.pts old new set) sets
own_grown old new profile sets grows plan k d within =
    let horizon = (get_or sets k d).pts in
    sets_have_grown horizon old new profile sets (grows horizon) plan k d within (omega arith)

-- lists beside each other in one way are so in another
zip_on : {A B : Type 0} (R S : A → B → Type 0) (P : A → Type 0) (xs : List A) (ys : List B)
    → ((x : A) (y : B) → P x → R x y → S x y) → All P xs → AllZip R xs ys → AllZip S xs ys
zip_on R S P [] [] step each are = are
zip_on R S P [] (y ∷ ys) step each are = absurd are
zip_on R S P (x ∷ xs) [] step each are = absurd are
zip_on R S P (x ∷ xs) (y ∷ ys) step each are =
    (step x y (All-head P x xs each) are.0, zip_on R S P xs ys step (All-tail P x xs each) are.1)

same_plan : (old new : Script) (profile : Profile) (sets : List PlannedSet) → new.width ≡ old.width
    → new.height ≡ old.height → new.epochs ≡ old.epochs → new.refresh ≡ old.refresh → IsPlan old profile sets
    → IsPlan new profile sets
same_plan old new profile sets width height epochs refresh plan = record {
  display = record {
    across = omega (arith, plan.display.across, width);
    down = omega (arith, plan.display.down, height);
  };
  planned = subst (λ (all : List Epoch). ArePlanned all new.refresh profile sets) (sym epochs)
      (subst (λ (n : ℕ). ArePlanned old.epochs n profile sets) (sym refresh) plan.planned);
}

-- two scripts of the same records are compiled to the same packets
same_compiled : (profile : ProfileName) (pid page : ℕ) (old new : Script) (packets : List ℕ)
    → ((horizon : ℕ) → Grows horizon old new) → new.epochs ≡ old.epochs
    → IsCompiledTo (compiling_for profile pid page old) packets
    → IsCompiledTo (compiling_for profile pid page new) packets
same_compiled profile pid page old new packets grows epochs was =
    let first = grows 0 in
    let Grown : PlannedSet → Type 0 = λ set. HasGrown set.pts old new set in
    let grown = own_grown old new (profile_of profile) was.sets grows was.planned.plan in
    let pace : sent_pace profile old ≡ sent_pace profile new =
    ap (λ (origin : ℕ). pace_of origin (profile_of profile)) (sym first.origin) in
    record {
      sets = was.sets;
      loads = was.loads;
      planned = record {
        plan = same_plan old new (profile_of profile) was.sets first.width first.height epochs first.refresh
            was.planned.plan;
        asked = zip_on (IsSetLoad old) (IsSetLoad new) Grown was.sets was.loads
            (λ set load has is. load_stays set.pts old new set load (grows set.pts) has is) grown was.planned.asked;
      };
      each = was.each;
      units = was.units;
      carried = zip_on (AreSetPackets old page) (AreSetPackets new page) Grown was.sets was.units
          (λ set units has are. packets_stay set.pts page old new set units (grows set.pts) has are) grown was.carried;
      sized = was.sized;
      table = was.table;
      schedule = subst (λ (one : Pace). IsSchedule was.loads (length was.loads) one was.table) pace was.schedule;
      on_time = subst (λ (one : Pace). IsOnTime was.loads (length was.loads) one was.table) pace was.on_time;
      sent = was.sent;
    }

-- ---- one batch

-- rows have one batch
pub one_batch : (inserter : Inserter) (past : List RowOrTick) (packets others : List ℕ)
    → IsBatchOf inserter past packets → IsBatchOf inserter past others → packets ≡ others
one_batch inserter past packets others (inl (none, nothing)) (inl (also, empty)) = nothing ∙ sym empty
one_batch inserter past packets others (inl (none, nothing)) (inr (some, script, right, compiled)) =
    absurd (let clash : true ≡ false = sym some ∙ none in cc)
one_batch inserter past packets others (inr (some, script, right, compiled)) (inl (none, nothing)) =
    absurd (let clash : true ≡ false = sym some ∙ none in cc)
one_batch inserter past packets others (inr (some, old, right, was)) (inr (more, new, also, is)) =
    let lists = listed inserter.font past old right in
    let again = listed inserter.font past new also in
    one_stream (compiling_by inserter new) packets others
    (same_compiled inserter.profile inserter.pid inserter.page old new packets
    (λ horizon. same_script_grows horizon inserter.font (nearest_in past) old new lists again)
    (again.epochs_are ∙ sym lists.epochs_are) was) is

-- what is due is one list
pub one_due : (inserter : Inserter) (past : List RowOrTick) (due others : List ℕ) → IsDue inserter past due
    → IsDue inserter past others → due ≡ others
one_due inserter past due others first second = by (last_tick past) first second
  where
    by : (last : Option ℕ) → IsDueBy inserter past last due → IsDueBy inserter past last others → due ≡ others
    by None one other = one ∙ sym other
    by (Some time) (packets, batch, is) (more, again, also) =
        is ∙ ap (due_front inserter (before_tick past) time)
        (one_batch inserter (before_tick past) packets more batch again)
        ∙ sym also

-- ---- whole packets

-- bytes are so many packets
abbrev pub AreSlots : List ℕ → Type 0
AreSlots bytes = (count : ℕ) × (length bytes ≡ 188 * count)

-- a batch is of whole packets
pub batch_slots : (inserter : Inserter) (past : List RowOrTick) (packets : List ℕ) → IsBatchOf inserter past packets
    → AreSlots packets
batch_slots inserter past packets (inl (none, nothing)) = (0, ap (λ (xs : List ℕ). length xs) nothing)
batch_slots inserter past packets (inr (some, script, right, compiled)) =
    let units = all_units compiled.units in
    let slots = compiled.table.slots in (
      slot_count slots,
      ap (λ (xs : List ℕ). length xs) compiled.sent
          ∙ length-before inserter.pid (all_pieces units) slots (slot_count slots) (all_are_pieces units),
    )

least : (a b : ℕ) → min (188 * a) (188 * b) ≡ 188 * min a b
least a b = grind arith

-- and so is what is due
pub due_slots : (inserter : Inserter) (past : List RowOrTick) (due : List ℕ) → IsDue inserter past due → AreSlots due
due_slots inserter past due is = by (last_tick past) is
  where
    front : (n : ℕ) (packets : List ℕ) → AreSlots packets → AreSlots (take (188 * n) packets)
    front n packets (count, whole) =
        (min n count, length-take (188 * n) packets ∙ ap (min (188 * n)) whole ∙ least n count)

    by : (last : Option ℕ) → IsDueBy inserter past last due → AreSlots due
    by None nothing = (0, ap (λ (xs : List ℕ). length xs) nothing)
    by (Some time) (packets, batch, is) =
        subst AreSlots (sym is)
        (front _ packets (batch_slots inserter (before_tick past) packets batch))
