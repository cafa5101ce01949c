-- The bits of a string so far.
use Rattle.std.specs.Prelude.{ℕ, List, ◌++◌}
use Rattle.stream_syntax.specs.PixelCodes.{bits, bits_of}
use Rattle.pixel_codes.specs.declared.pending.Pending.{Pending}

-- the bits of the bytes so far, and those that wait
abbrev pub stream : List ℕ → Pending → List ℕ
stream bytes pending = bits_of bytes ++ bits pending.count pending.value
