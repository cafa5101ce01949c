use Rattle.std.proofs.Common.{◌≡◌, ℕ, [], ◌∷◌, ◌++◌, ◌+◌, ◌≤◌, ◌<◌, IsTrue, inl, inr, sym, subst, ◌∙◌, arith, true, false}
use Rattle.std.proofs.lemmas.Bool.{cases_lt}
use Rattle.sub_base.specs.declared.load.TheConstants.{UNIT_ROOM}
use Rattle.pes_packets.specs.Units.{IsOpenAfter}
use Rattle.pes_packets.proofs.Filling.{open_grown, open_closed}
use Rattle.pes_packets.proofs.units.OpenUnit.take.Goals as goal

pub returns-then-has_room-clause-taken : goal.returns-then-has_room-clause-taken
returns-then-has_room-clause-taken c = λ segments lengths before.
    let same = c.from-bytes.ensures in
    subst (λ (n : ℕ). IsOpenAfter (segments ++ c.args.segment ∷ []) (lengths ++ []) (c.args.self.now.bytes + n))
    (sym same)
    (open_grown segments lengths c.args.self.now.bytes c.args.segment (omega (arith, c.requires.segment.0))
    (λ any. omega (arith, c.has_room.ensures.0 c.if-has_room.true any, same)) before)

pub returns-clause-taken : goal.returns-clause-taken
returns-clause-taken c = λ segments lengths before.
    let room = c.has_room.ensures in
    let same = c.from-bytes.ensures in
    let now = c.args.self.now.bytes in
    let closed_by = open_closed segments lengths now c.args.segment (omega (arith, c.requires.segment.0)) in
    let over : (0 < now → now + c.from-bytes.result ≤ UNIT_ROOM)
    → ⊥ = λ fits. let yes : IsTrue c.has_room.result = room.1 fits in absurd
    (let e : true ≡ false = sym yes ∙ c.if-has_room.false in cc) in
    let any : 0 < now = elim (cases_lt 0 now) [
      | inl some ↦ some
      | inr none ↦ absurd (over (λ some. absurd (omega (arith, none, some))))
    ] in
    let long : UNIT_ROOM < now + c.args.segment = elim (cases_lt UNIT_ROOM (now + c.args.segment)) [
      | inl more ↦ more
      | inr fits ↦ absurd (over (λ _. omega (arith, fits, same)))
    ] in
    subst (λ (n : ℕ). IsOpenAfter (segments ++ c.args.segment ∷ []) (lengths ++ n ∷ []) c.from-bytes.result)
    (sym c.length_with-length.ensures)
    (subst (λ (n : ℕ). IsOpenAfter (segments ++ c.args.segment ∷ []) (lengths ++ (17 + now) ∷ []) n) (sym same)
    (closed_by any long before))
