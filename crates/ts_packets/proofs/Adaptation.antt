-- How an adaptation field is written.
use Rattle.std.proofs.Common.{◌≡◌, ℕ, zero, suc, ◌-◌, ◌<◌, ◌∷◌, replicate, set, refl, ap, arith}
use Rattle.stream_syntax.specs.TransportPackets.{adaptation_field}

-- the count and the flags over a field of stuffing
pub long_field : (n : ℕ) → 1 < n → set (set (replicate n 255) 0 (n - 1)) 1 0 ≡ adaptation_field n
long_field zero more = absurd (omega arith)
long_field (suc zero) more = absurd (omega arith)
long_field (suc (suc k)) more = ap (λ (count : ℕ). count ∷ 0 ∷ replicate k 255) (omega arith)

pub short_field : (n : ℕ) → n ≡ 1 → set (replicate n 255) 0 0 ≡ adaptation_field n
short_field zero one = absurd (omega arith)
short_field (suc zero) one = refl
short_field (suc (suc k)) one = absurd (omega arith)
