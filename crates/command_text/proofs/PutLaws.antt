-- Text that is put out, one piece after the other.
use Rattle.std.proofs.Common.{◌≡◌, ℕ, ◌≤◌, Bool, true, false, List, [], ◌++◌, append-nil, append_assoc, refl, sym, subst, arith}
use Rattle.sub_base.specs.Counts.{HasRisen}
use Rattle.sub_base.specs.Endpoints.{AppendsPrefix}
use Rattle.sub_base.proofs.TransferSteps.{HasRisen-since}
use Rattle.command_text.specs.Putting.{Buffered, IsPutOut, PutsOut}
use Rattle.sub_base.specs.Endpoints.{Received}
use Rattle.command_text.proofs.SentLaws.{Sent-front}

-- nothing was put out
pub PutsOut-nothing : (shown : Received) (buffer : Buffered) → PutsOut shown shown buffer buffer []
PutsOut-nothing shown buffer = record {
  extends =
      λ start told. λ out. subst (λ (text : List ℕ). IsPutOut start shown buffer text) (sym (append-nil told)) out;
}

-- two texts, one after the other
pub PutsOut-both : (a b c : Received) (old mid new : Buffered) (first second : List ℕ) → PutsOut a b old mid first
    → PutsOut b c mid new second → PutsOut a c old new (first ++ second)
PutsOut-both a b c old mid new first second one other = record {
  extends = λ start told. λ out.
      subst (λ (text : List ℕ). IsPutOut start c new text) (append_assoc told first second)
      (other.extends start (told ++ first) (one.extends start told out));
}

-- the sink failed while the waiting text was written
pub PutsOut-failed : (before now : Received) (old new : Buffered) (bytes : List ℕ) → old.failed ≡ false
    → bytes ≡ old.waits → AppendsPrefix before.written now.written bytes → HasRisen before.faults now.faults
    → before.faults ≤ now.faults → new.failed ≡ true
    → PutsOut before now old new []
PutsOut-failed before now old new bytes good same front risen kept failed = record {
  extends = λ start told. λ out. record {
    sent = λ well. absurd (clash new.failed failed well);
    front = λ _. (
      Sent-front start.written before.written now.written old.waits told [] (told ++ []) (out.sent good)
          (subst (λ (b : List ℕ). AppendsPrefix before.written now.written b) same front) refl,
      HasRisen-since start.faults before.faults now.faults out.kept risen,
    );
    kept = omega (arith, out.kept);
  };
}
  where
    clash : (b : Bool) → b ≡ true → b ≡ false → ⊥
    clash b one other = cc
