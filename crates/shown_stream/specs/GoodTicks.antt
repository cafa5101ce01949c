-- The ticks at which a stream that is entered late is shown as the whole stream is.
use Rattle.std.specs.Prelude.{◌≡◌, ℕ, zero, suc, ◌≤◌, true, false, List, [], ◌∷◌, map, Some}
use Rattle.decoder_model.specs.Streams.{SentSet, Sending, IsGoodTick, entry_set}

-- the packets of a stream, the first so many of them missed
abbrev pub late_sendings : ℕ → List (List ℕ) → List Sending
late_sendings zero stream = map (λ (bytes : List ℕ). record { packet = bytes; received = true }) stream
late_sendings (suc n) [] = []
late_sendings (suc n) (first ∷ stream) = record { packet = first; received = false } ∷ late_sendings n stream

-- where the first so many packets are missed, the good ticks are those from the time of the entry set on, and no others
pub record AreGoodFromEntry (sets : List SentSet) (packets : List (List ℕ)) (missed : ℕ) : Type 0 where
  pub good : (tick : ℕ) (entry : SentSet) → entry_set missed sets ≡ Some entry → entry.time ≤ tick
      → IsGoodTick sets (late_sendings missed packets) tick
  pub only : (tick : ℕ) → IsGoodTick sets (late_sendings missed packets) tick
      → (entry : SentSet) × (entry_set missed sets ≡ Some entry) × (entry.time ≤ tick)
