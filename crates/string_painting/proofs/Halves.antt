-- The entries of a map table that has two in a byte.
use Rattle.std.proofs.Common.{◌≡◌, refl, ℕ, zero, suc, ◌*◌, ◌/◌, ◌%◌, ◌<◌, List, [], ◌∷◌, length, get_or, arith}
use Rattle.stream_syntax.specs.PixelBlocks.{entries_of}
use Rattle.stream_syntax.specs.declared.map_table.MapTable.TheVariants.{TwoToFour}
use Rattle.string_painting.specs.Private.Packing.{half_of}

-- an entry is the half of its byte
pub entry_is : (table : List ℕ) (code : ℕ) → code < 2 * length table
    → get_or (entries_of TwoToFour table) code 0 ≡ half_of (get_or table (code / 2) 0) code
entry_is [] code h = absurd (omega arith)
entry_is (byte ∷ table) zero h = refl
entry_is (byte ∷ table) (suc zero) h = refl
entry_is (byte ∷ table) (suc (suc code)) h =
    let e : suc (suc code) / 2 ≡ suc (code / 2) = omega arith in
    let f : suc (suc code) % 2 ≡ code % 2 = omega arith in
    rw (e, f) (entry_is table code (omega arith))
