-- What an answer that is the definition's means.
use Rattle.std.proofs.Common.{◌≡◌, ℕ, ◌<◌, List, get_or, Option, Some, None, Result, Ok, Err}
use Rattle.std.specs.Prelude.{IfOk, IfErr, IsOkAnd}
use Rattle.stream_syntax.specs.declared.pes.PesFault.{PesFault}
use Rattle.stream_syntax.specs.Pes.{IsPes, Gives, pes_fault, pes_of, unless_fault}
use Rattle.pes_packets.proofs.PesLayout.{read_is_pes, pes_is_read}

pub gives_found : {X : Type 0} (pts : X → ℕ) (segments : X → List ℕ) (r : Result X PesFault)
    (bytes : List ℕ) → ((i : ℕ) → get_or bytes i 0 < 256)
    → Gives (λ (x : X). (pts x, segments x)) r (pes_of bytes)
    → IfOk r (λ (x : X). IsPes bytes (pts x) (segments x))
gives_found pts segments (Ok x) bytes fits e = read_is_pes bytes fits (pts x) (segments x) e
gives_found pts segments (Err fault) bytes fits e = tt

pub gives_only : {X : Type 0} (pts : X → ℕ) (segments : X → List ℕ) (r : Result X PesFault)
    (bytes : List ℕ) → Gives (λ (x : X). (pts x, segments x)) r (pes_of bytes)
    → (time : ℕ) (rest : List ℕ) → IsPes bytes time rest
    → IsOkAnd r (λ (x : X). (pts x ≡ time) × (segments x ≡ rest))
gives_only pts segments (Ok x) bytes e time rest pes = same _ _ (pes_is_read bytes time rest pes) e
  where
    same : (a b : ℕ × List ℕ) {answer : Result (ℕ × List ℕ) PesFault} → answer ≡ Ok a
        → answer ≡ Ok b → (b.0 ≡ a.0) × (b.1 ≡ a.1)
    same a b {answer} f g = (cc, cc)
gives_only pts segments (Err fault) bytes e time rest pes = absurd (clash _ _ (pes_is_read bytes time rest pes) e)
  where
    clash : (a : ℕ × List ℕ) (f : PesFault) {answer : Result (ℕ × List ℕ) PesFault}
        → answer ≡ Ok a → answer ≡ Err f → ⊥
    clash a f {answer} g h = cc

fault_told : (fault : Option PesFault) (value : ℕ × List ℕ) (told : PesFault)
    → unless_fault fault value ≡ Err told → fault ≡ Some told
fault_told None value told e = absurd cc
fault_told (Some fault) value told e = cc

pub gives_fault : {X : Type 0} (view : X → ℕ × List ℕ) (r : Result X PesFault) (bytes : List ℕ)
    → Gives view r (pes_of bytes) → IfErr r (λ fault. pes_fault bytes ≡ Some fault)
gives_fault view (Ok x) bytes e = tt
gives_fault view (Err fault) bytes e = fault_told (pes_fault bytes) _ fault e
