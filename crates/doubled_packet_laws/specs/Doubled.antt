-- Transport packets that are sent twice (ISO/IEC 13818-1, 2.4.3.3).
use Rattle.std.specs.Prelude.{ℕ, if◌then◌else◌, List, [], ◌∷◌, flat_map}
use Rattle.stream_syntax.specs.Units.{is_payload}

-- the packets with each payload packet of the PID twice, one copy right behind the other, and every other one once
abbrev pub doubled : ℕ → List (List ℕ) → List (List ℕ)
doubled pid packets =
    flat_map (λ packet. if is_payload pid packet then packet ∷ packet ∷ [] else packet ∷ []) packets
