-- What a program writes where its words are wrong.
use Rattle.std.specs.Prelude.{◌⊎◌, List, ℕ}
use Rattle.sub_base.specs.Endpoints.{Received, HasWriteFault, Wrote, WrotePrefix}

-- a sink has received these bytes, or a prefix of them where it failed
abbrev pub IsToldOn : Received → Received → List ℕ → Type 0
IsToldOn before now bytes = Wrote before now bytes ⊎ (WrotePrefix before now bytes × HasWriteFault before now)
