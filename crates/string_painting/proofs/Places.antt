-- How far fields and bytes go: a byte has at most eight fields.
use Rattle.std.proofs.Common.{ℕ, ◌+◌, ◌-◌, ◌*◌, ◌/◌, ◌≤◌, arith}
use Rattle.sub_base.specs.declared.depth.Depth.{Depth}
use Rattle.sub_base.specs.declared.depth.Depth.TheVariants.{Two, Four, Eight}
use Rattle.string_painting.specs.Codes.{codes_in_byte}

pub few_fields : (depth : Depth) (bytes : ℕ) → codes_in_byte depth * bytes ≤ 8 * bytes
few_fields Two bytes = omega arith
few_fields Four bytes = omega arith
few_fields Eight bytes = omega arith

-- fields that some bytes have begin no more bytes
pub started_within : (depth : Depth) (fields bytes : ℕ) → fields ≤ codes_in_byte depth * bytes
    → (fields + (codes_in_byte depth - 1)) / codes_in_byte depth ≤ bytes
started_within Two fields bytes h = omega arith
started_within Four fields bytes h = omega arith
started_within Eight fields bytes h = omega arith

-- the bytes that fields begin have at least as many bits
pub started_far : (depth : Depth) (fields : ℕ)
    → fields ≤ 8 * ((fields + (codes_in_byte depth - 1)) / codes_in_byte depth)
started_far Two fields = omega arith
started_far Four fields = omega arith
started_far Eight fields = omega arith
