-- A receiver gets as many units of a set of a plan as the set has PES packets.
use Rattle.std.proofs.Common.{◌≡◌, ◌∙◌, ℕ, suc, List, [], ◌∷◌, length, refl, sym, ap}
use Rattle.std.proofs.lemmas.List.{length-map}
use Rattle.cue_list.specs.declared.script.Script.{Script}
use Rattle.page_epoch.specs.declared.planned_set.PlannedSet.{PlannedSet}
use Rattle.set_coder.specs.SetSegments.{unit_packet}
use Rattle.sent_sets.proofs.SentLate.{HaveAsMany}
use Rattle.shown_stream.proofs.Sent.CompiledSets.{IsSentAs, AreSentAs}
use Rattle.shown_stream.proofs.Sent.WrittenSets.{unit_with}
use Rattle.sent_sets.proofs.Units.{TimedSet}

-- ---- units and packets before a set

pub same_many : (script : Script) (page : ℕ) (set : PlannedSet) (packets : List (List ℕ)) (sent : TimedSet)
    → IsSentAs script page set packets sent → length sent.units ≡ length packets
same_many script page set packets sent is =
    ap length is.each ∙ length-map is.units (unit_with page set.pts)
    ∙ sym (length-map is.units (unit_packet page set.pts)) ∙ sym (ap length is.written)

pub have_as_many : (script : Script) (page : ℕ) (sets : List PlannedSet) (units : List (List (List ℕ)))
    (sent : List TimedSet) → AreSentAs script page sets units sent → HaveAsMany units sent
have_as_many script page [] [] [] are = tt
have_as_many script page [] [] (one ∷ sent) are = absurd are
have_as_many script page [] (packets ∷ units) sent are = absurd are
have_as_many script page (set ∷ sets) [] sent are = absurd are
have_as_many script page (set ∷ sets) (packets ∷ units) [] are = absurd are
have_as_many script page (set ∷ sets) (packets ∷ units) (one ∷ sent) are =
    (same_many script page set packets one are.0, have_as_many script page sets units sent are.1)

-- one set for each
pub count_sets : (script : Script) (page : ℕ) (sets : List PlannedSet) (units : List (List (List ℕ)))
    (sent : List TimedSet) → AreSentAs script page sets units sent → (length sent ≡ length sets)
    × (length units ≡ length sets)
count_sets script page [] [] [] are = (refl, refl)
count_sets script page [] [] (one ∷ sent) are = absurd are
count_sets script page [] (packets ∷ units) sent are = absurd are
count_sets script page (set ∷ sets) [] sent are = absurd are
count_sets script page (set ∷ sets) (packets ∷ units) [] are = absurd are
count_sets script page (set ∷ sets) (packets ∷ units) (one ∷ sent) are =
    let more = count_sets script page sets units sent are.1 in (ap suc more.0, ap suc more.1)
