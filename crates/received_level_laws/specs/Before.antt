-- What a receiver had received before more came.
use Rattle.std.specs.Prelude.{◌≡◌, ℕ, List, ◌++◌, false}
use Rattle.decoder_model.specs.Readings.{Reading}
use Rattle.decoder_model.specs.Received.{HasReceived, Reception}
use Rattle.decoder_model.specs.Sets.{Delivery}

-- these sets and losses, the latest first, are more ones behind those that were received of these packets before
pub record IsMoreThan (reception : Reception) (packets : List (List ℕ)) (all : List (Delivery Reading)) : Type 0 where
  pub past : List (Delivery Reading)
  pub more : List (Delivery Reading)
  pub joined : all ≡ more ++ past
  pub received : HasReceived reception false packets past
