-- The bytes of a set's segments, as they are read one after another.
use Rattle.std.proofs.Common.{ℕ, List, [], ◌∷◌, refl, sym, subst}
use Rattle.std.specs.List.{AllByRecursion, concat}
use Rattle.decoder_model.specs.Readings.{Reading, AreReadings}
use Rattle.decoder_model.specs.Received.{IsFramed, AreRead}
use Rattle.display_sets.specs.Filling.{AreBytes}

joined_read : (segments : List (List ℕ)) (readings : List Reading) → AllByRecursion IsFramed segments
    → AreReadings segments readings → AreRead readings (concat segments)
joined_read [] [] framed are = refl
joined_read [] (reading ∷ readings) framed are = absurd are
joined_read (segment ∷ segments) [] framed are = absurd are
joined_read (segment ∷ segments) (reading ∷ readings) framed are = (
  concat segments,
  record { segment = segment; is_framed = framed.0; is_reading = are.0; joined = refl },
  joined_read
      segments readings framed.1 are.1,
)

pub bytes_read : (segments : List (List ℕ)) (readings : List Reading) (bytes : List ℕ) → AreBytes segments bytes
    → AreReadings segments readings → AreRead readings bytes
bytes_read segments readings bytes are read =
    subst (AreRead readings) (sym are.joined) (joined_read segments readings are.framed read)
