-- What `check` tells of the packets of a stream: each display set with its end, its load and the tick at which it is
-- done, then the greatest level of the coded data buffer, and the first breach.
use Rattle.std.specs.Prelude.{◌≡◌, ℕ, Bool, true, false, List, ◌++◌, codes, Option, Some, None}
use Rattle.std.specs.List.{flat_map}
use Rattle.buffer_model.specs.Calls.{Call, first_breach_of, greatest}
use Rattle.buffer_model.specs.declared.breach.Breach.{Breach}
use Rattle.buffer_model.specs.declared.breach.Breach.TheVariants.{Coded, Late}
use Rattle.command_text.specs.Lines.{line_end, then_number}
use Rattle.decoder_model.specs.Received.{Reception}
use Rattle.decoder_model.specs.declared.set_end.SetEnd.{SetEnd}
use Rattle.decoder_model.specs.declared.set_end.SetEnd.TheVariants.{Shown, Waiting, Broken, NotLater}
use Rattle.received_level_laws.specs.StreamCalls.{AreCallsOf}
use Rattle.received_level_laws.specs.ToldSets.{AreToldCalls, ToldDoneSet, ToldCall, calls_told, told_sets}
use Rattle.sub_base.specs.Pace.{pace_of}
use Rattle.sub_base.specs.declared.pace.Pace.{Pace}

-- ---- lines

-- what becomes of a set, in a word
abbrev pub end_word : SetEnd → List ℕ
end_word Shown = codes "shown"
end_word Waiting = codes "waiting"
end_word (Broken fault) = codes "broken"
end_word (NotLater last) = codes "notlater"

-- a set: its presentation time in ticks, what becomes of it, the bytes of its units, and the tick at which it is done
abbrev pub set_line : ToldDoneSet → List ℕ
set_line one =
    codes "set" ++ then_number one.set.load.pts ++ codes " " ++ end_word one.set.end ++ then_number one.set.load.size
    ++ then_number one.done ++ line_end

-- the greatest level of the coded data buffer, in bytes
abbrev pub peak_line : ℕ → List ℕ
peak_line level = codes "peak" ++ then_number level ++ line_end

-- the first breach: the slot and the level there, or the set's presentation time and the tick at which it is done
abbrev pub breach_line : Option Breach → List ℕ
breach_line None = codes "breach none" ++ line_end
breach_line (Some (Coded slot level)) = codes "breach coded" ++ then_number slot ++ then_number level ++ line_end
breach_line (Some (Late done pts)) = codes "breach late" ++ then_number pts ++ then_number done ++ line_end

-- ---- the text

-- the lines of all sets that are told
abbrev pub sets_text : Pace → List ToldCall → List ℕ
sets_text pace told = flat_map set_line (told_sets pace told)

-- what is told of the whole stream, once it has ended
abbrev pub end_text : Pace → List ToldCall → List ℕ
end_text pace told =
    peak_line (greatest pace (calls_told told)) ++ breach_line (first_breach_of pace (calls_told told))

-- the lines of the sets, and behind them what is told where the stream has ended
abbrev pub check_text : Bool → Pace → List ToldCall → List ℕ
check_text false pace told = sets_text pace told
check_text true pace told = sets_text pace told ++ end_text pace told

-- the text of the sets and levels that these packets have in a receiver, the first of them in slot 0 at the tick at
-- which lifted times begin; the stream ends with the packets or not
pub record IsCheckText (reception : Reception) (ended : Bool) (packets : List (List ℕ)) (text : List ℕ) : Type 0 where
  pub told : List ToldCall
  pub are : AreToldCalls reception 0 ended packets told
  pub whole : text ≡ check_text ended (pace_of reception.anchor reception.profile) told

-- the greatest level of the coded data buffer of a receiver over these packets, the first of them in slot 0 at the tick
-- at which lifted times begin; more packets may come
pub record IsPeak (reception : Reception) (packets : List (List ℕ)) (peak : ℕ) : Type 0 where
  pub calls : List Call
  pub called : AreCallsOf reception 0 false packets calls
  pub peak_is : peak ≡ greatest (pace_of reception.anchor reception.profile) calls
