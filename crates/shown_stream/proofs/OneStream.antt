-- A script is compiled to one stream: its plan, the loads and packets of its sets, and their schedule are each one.
use Rattle.std.proofs.Common.{◌≡◌, ◌∙◌, refl, sym, subst, ℕ, List, [], ◌∷◌, length, arith}
use Rattle.std.specs.List.{AllZip}
use Rattle.sub_base.specs.Profile.{profile_of}
use Rattle.sub_base.specs.declared.load.WriteLoad.{WriteLoad}
use Rattle.page_epoch.specs.declared.planned_set.PlannedSet.{PlannedSet}
use Rattle.page_epoch.proofs.OnePlan.{one_plan}
use Rattle.schedule.specs.Slots.{IsSchedule}
use Rattle.schedule.proofs.AnswerLaws.{one_schedule}
use Rattle.set_coder.specs.SetSegments.{AreSetPackets}
use Rattle.set_coder.specs.SetSizes.{IsSetLoad}
use Rattle.set_coder.proofs.OnePackets.{one_packets}
use Rattle.set_coder.proofs.SetSizeLaws.{one_load}
use Rattle.slot_stream.specs.SlotStream.{all_pieces, stream_of}
use Rattle.shown_stream.specs.Compiled.{AreLoads, AreUnitsOfSets, IsCompiledTo, all_units, sent_pace, Compiling}

-- lists that stand to one list, place by place, as one item alone can, are the same
one_beside : {A B : Type 0} (R : A → B → Type 0) (xs : List A) (ys zs : List B)
    → ((x : A) (y z : B) → R x y → R x z → y ≡ z) → AllZip R xs ys → AllZip R xs zs → ys ≡ zs
one_beside R [] [] [] one first second = refl
one_beside R [] [] (z ∷ zs) one first second = absurd second
one_beside R [] (y ∷ ys) zs one first second = absurd first
one_beside R (x ∷ xs) [] zs one first second = absurd first
one_beside R (x ∷ xs) (y ∷ ys) [] one first second = absurd second
one_beside R (x ∷ xs) (y ∷ ys) (z ∷ zs) one first second =
    let head : y ≡ z = one x y z first.0 second.0 in
    let tail : ys ≡ zs = one_beside R xs ys zs one first.1 second.1 in
    λ i. head i ∷ tail i

-- a script is compiled to one stream, for a profile, a PID and a page
pub one_stream : (compiling : Compiling) (packets others : List ℕ)
    → IsCompiledTo compiling packets → IsCompiledTo compiling others
    → packets ≡ others
one_stream compiling packets others first second =
    let pace = sent_pace compiling.profile compiling.script in
    let sets : second.sets ≡ first.sets =
    one_plan compiling.script (profile_of compiling.profile) second.sets first.sets second.planned.plan
    first.planned.plan in
    let Loads : List PlannedSet → Type 0 = λ sets. AreLoads compiling.script sets second.loads in
    let loads : second.loads ≡ first.loads =
    one_beside (IsSetLoad compiling.script) first.sets second.loads first.loads (one_load compiling.script)
    (subst Loads sets second.planned.asked) first.planned.asked in
    let Units : List PlannedSet → Type 0 = λ sets. AreUnitsOfSets compiling.script compiling.page sets second.units in
    let units : first.units ≡ second.units =
    one_beside (AreSetPackets compiling.script compiling.page) first.sets first.units second.units
    (one_packets compiling.script compiling.page) first.carried
    (subst Units sets second.carried) in
    let Schedule : List WriteLoad → Type 0 = λ loads. IsSchedule loads (length loads) pace second.table in
    let table : first.table ≡ second.table =
    one_schedule first.loads (length first.loads) pace first.table second.table first.each (omega arith)
    first.schedule (subst Schedule loads second.schedule) in
    first.sent ∙ (λ i. stream_of compiling.pid (all_pieces (all_units (units i))) (table i).slots) ∙ sym second.sent
