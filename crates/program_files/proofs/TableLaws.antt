-- Bytes that are written in two pieces, one after the other.
use Rattle.std.proofs.Common.{◌≡◌, ℕ, ◌+◌, ◌≤◌, inl, inr, true, false, is_ok, List, ◌++◌, length, take, Result, Ok, Err, sym, subst, arith}
use Rattle.std.specs.Prelude.{OnOk, OnErr}
use Rattle.std.specs.Io.KnownBytes.{Appends}
use Rattle.std.proofs.KnownBytes.{Appends-trans}
use Rattle.std.proofs.Math.Seq.{take-append-add}
use Rattle.std.proofs.lemmas.List.{length-append, take-append-le}
use Rattle.sub_base.proofs.TransferSteps.{HasRisen-since}
use Rattle.sub_base.specs.Endpoints.{Received, HasWriteFault, Wrote, WrotePrefix}
use Rattle.program_files.specs.Table.{IsToldOn}

-- a prefix of the first piece is one of both
pub front_told : {F : Type 0} (before now : Received) (first second : List ℕ) (result : Result (Unit {0}) F)
    → is_ok result ≡ false → OnErr result (WrotePrefix before now first) → OnErr result (HasWriteFault before now)
    → IsToldOn before now (first ++ second)
front_told before now first second (Ok x) failed front risen = absurd cc
front_told before now first second (Err e) failed (n, few, front) risen =
    inr (
      (
        n,
        omega (arith, few, length-append first second),
        subst (Appends before.written now.written) (sym (take-append-le n first second few)) front,
      ),
      risen,
    )

-- and so is the first piece with a prefix of the second
pub both_told : {F : Type 0} (before between now : Received) (first second : List ℕ)
    (one other : Result (Unit {0}) F) → is_ok one ≡ true
    → OnOk one (Wrote before between first) → before.faults ≤ between.faults
    → OnOk other (Wrote between now second) → OnErr other (WrotePrefix between now second)
    → OnErr other (HasWriteFault between now) → IsToldOn before now (first ++ second)
both_told before between now first second (Err e) other done whole kept all front risen = absurd cc
both_told before between now first second (Ok x) (Ok y) done whole kept all front risen =
    inl (Appends-trans before.written between.written now.written first second whole all)
both_told before between now first second (Ok x) (Err e) done whole kept all (n, few, front) risen =
    inr (
      (
        length first + n,
        omega (arith, few, length-append first second),
        subst (Appends before.written now.written) (sym (take-append-add first second n))
            (Appends-trans before.written between.written now.written first (take n second) whole front),
      ),
      HasRisen-since before.faults between.faults now.faults kept risen,
    )
