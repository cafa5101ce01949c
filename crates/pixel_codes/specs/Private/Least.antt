-- The least bits of a run by a table, and the codes that the writer chooses for it.
use Rattle.std.specs.Prelude.{ℕ, zero, suc, ◌+◌, ◌-◌, ◌*◌, ◌/◌, ◌%◌, ◌==◌, if◌then◌else◌, min, nat_lt, List, [], ◌∷◌}
use Rattle.sub_base.specs.declared.depth.Depth.{Depth}
use Rattle.sub_base.specs.declared.depth.Depth.TheVariants.{Two, Four, Eight}
use Rattle.stream_syntax.specs.PixelCodes.{Code, pixel, one_zero, two_zeros, zeros, short_run, middle_run, long_run, pixel_count}

-- the least bits in 2 bit codes of fewer pixels than the longest code gives, of a code that is not 0
unfoldable pub two_some : ℕ → ℕ
two_some rest =
    if rest == 0 then 0
    else (if rest == 1 then 2
    else (if rest == 2 then 4
    else (if rest == 3 then 6
    else (if nat_lt rest 11 then 8
    else (if nat_lt rest 12 then 10 else (if nat_lt rest 28 then 12 else (if nat_lt rest 29 then 14 else 16)))))))

-- the least bits in 2 bit codes of fewer pixels than the longest code gives, of code 0
unfoldable pub two_none : ℕ → ℕ
two_none rest =
    if rest == 0 then 0
    else (if rest == 1 then 4
    else (if rest == 2 then 6 else (if nat_lt rest 11 then 8 else (if nat_lt rest 28 then 12 else 16))))

-- the least bits in 4 bit codes of fewer pixels than the longest code gives, of a code that is not 0
unfoldable pub four_some : ℕ → ℕ
four_some rest =
    if rest == 0 then 0
    else (if rest == 1 then 4
    else (if rest == 2 then 8 else (if nat_lt rest 8 then 12 else (if nat_lt rest 25 then 16 else 20))))

-- the least bits in 4 bit codes of fewer pixels than the longest code gives, of code 0
unfoldable pub four_none : ℕ → ℕ
four_none rest = if rest == 0 then 0 else (if nat_lt rest 10 then 8 else (if nat_lt rest 25 then 16 else 20))

-- the least bits in 8 bit codes of fewer pixels than the longest code gives, of a code that is not 0
unfoldable pub eight_some : ℕ → ℕ
eight_some rest = if rest == 0 then 0 else (if rest == 1 then 8 else (if rest == 2 then 16 else 24))

-- the least bits in 8 bit codes of fewer pixels than the longest code gives, of code 0
unfoldable pub eight_none : ℕ → ℕ
eight_none rest = if rest == 0 then 0 else 16

-- how many pixels the longest code of a depth gives
abbrev pub longest : Depth → ℕ
longest Two = 284
longest Four = 280
longest Eight = 127

-- how many bits the longest code of a depth has, for pixels of that code
abbrev pub longest_bits : Depth → ℕ → ℕ
longest_bits Two code = 16
longest_bits Four code = 20
longest_bits Eight zero = 16
longest_bits Eight (suc code) = 24

-- the least bits at a depth of so many pixels of that code, fewer than the longest code gives
abbrev pub rest_bits : Depth → ℕ → ℕ → ℕ
rest_bits Two zero rest = two_none rest
rest_bits Two (suc code) rest = two_some rest
rest_bits Four zero rest = four_none rest
rest_bits Four (suc code) rest = four_some rest
rest_bits Eight zero rest = eight_none rest
rest_bits Eight (suc code) rest = eight_some rest

-- the least bits of a run
abbrev pub table_bits : Depth → ℕ → ℕ → ℕ
table_bits depth code count =
    longest_bits depth code * (count / longest depth) + rest_bits depth code (count % longest depth)

-- the first 2 bit code of a run of fewer pixels than a middle run gives
abbrev pub two_few : ℕ → ℕ → Code
two_few zero count =
    if nat_lt 2 count then short_run (min (count - 3) 7) 0 else (if count == 2 then two_zeros else one_zero)
two_few (suc code) count = if nat_lt 3 count then short_run (min (count - 3) 7) (suc code) else pixel (suc code)

-- the first 4 bit code of a run of fewer pixels than a long run gives
abbrev pub four_few : ℕ → ℕ → Code
four_few zero count =
    if nat_lt 9 count then middle_run (count - 9) 0
    else (if nat_lt 2 count then zeros (count - 2) else (if count == 2 then two_zeros else one_zero))
four_few (suc code) count =
    if nat_lt 8 count then middle_run (count - 9) (suc code)
    else (if nat_lt 3 count then short_run (min (count - 4) 3) (suc code) else pixel (suc code))

-- the first code that the writer chooses for a run
abbrev pub first_code : Depth → ℕ → ℕ → Code
first_code Two code count =
    if nat_lt 28 count then long_run (min (count - 29) 255) code
    else (if nat_lt 11 count then middle_run (min (count - 12) 15) code else two_few code count)
first_code Four code count = if nat_lt 24 count then long_run (min (count - 25) 255) code else four_few code count
first_code Eight zero count = zeros (min count 127)
first_code Eight (suc code) count = if nat_lt 2 count then short_run (min count 127) (suc code) else pixel (suc code)

-- the codes that the writer chooses for a run, in at most so many steps
unfoldable pub chosen_within : ℕ → Depth → ℕ → ℕ → List Code
chosen_within zero depth code count = []
chosen_within (suc steps) depth code zero = []
chosen_within (suc steps) depth code (suc count) =
    first_code depth code (suc count)
    ∷ chosen_within steps depth code (suc count - pixel_count depth (first_code depth code (suc count)))

-- the codes that the writer chooses for a run of so many pixels of a code, in order
abbrev pub chosen : Depth → ℕ → ℕ → List Code
chosen depth code count = chosen_within count depth code count
