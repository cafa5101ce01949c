-- Which display sets of a stream are sent, and when, as code has it.
use Rattle.std.specs.Prelude.{ℕ, ◌+◌, ◌-◌, nat_lt, if◌then◌else◌, Bool, true, List, map, filter, Option, Some, None, unwrap_or}
use Rattle.sent_sets.specs.RawSets.{RawSet}
use Rattle.splice.specs.SplicedSets.{begin_of, is_before, moved}
use Rattle.splice.specs.declared.part.Part.{Part}
use Rattle.splice.specs.declared.part.Part.TheVariants.{Before, From}

-- the cut
abbrev pub cut_of : Part → ℕ
cut_of (Before cut) = cut
cut_of (From cut) = cut

-- the cut before which sets have to be shown, where it is one
abbrev pub shown_before : Part → Option ℕ
shown_before (Before cut) = Some cut
shown_before (From cut) = None

-- a set with that lifted time has to be shown
abbrev pub is_looked_at : Part → Option ℕ → Bool
is_looked_at (Before cut) None = true
is_looked_at (Before cut) (Some time) = nat_lt time cut
is_looked_at (From cut) lifted = true

-- of the sets that are kept these are sent
abbrev pub placed : Part → List RawSet → List RawSet
placed (Before cut) sets = filter (is_before cut) sets
placed (From cut) sets = map (moved cut (begin_of sets)) sets

-- the time at which one of them is sent, by the time of the first, which it is itself where there is none
abbrev pub sent_time : Part → Option ℕ → ℕ → Option ℕ
sent_time (Before cut) begin lifted = if nat_lt lifted cut then Some lifted else None
sent_time (From cut) begin lifted = Some (lifted + cut - unwrap_or begin lifted)
