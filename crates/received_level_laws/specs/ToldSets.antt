-- The display sets that a stream gives, as they are told: what becomes of each, its load, and the tick at which it is
-- done (EN 300 743, clauses 5.1 and 5.2), among the calls of the buffer levels.
use Rattle.std.specs.Prelude.{◌≡◌, ℕ, Bool, List, [], map, filter_map, reverse, Option, Some, None, option_map}
use Rattle.sub_base.specs.Lists.{with_earlier}
use Rattle.sub_base.specs.Pace.{tick_of}
use Rattle.sub_base.specs.declared.load.SetLoad.{SetLoad}
use Rattle.sub_base.specs.declared.pace.Pace.{Pace}
use Rattle.sub_base.specs.declared.profile.Profile.{Profile}
use Rattle.buffer_model.specs.Calls.{Call, Arrived, SetWhole, Dropped, last_slot, done_of}
use Rattle.decoder_model.specs.Arrivals.{packets_taken}
use Rattle.decoder_model.specs.Painting.{set_load}
use Rattle.decoder_model.specs.Readings.{Reading}
use Rattle.decoder_model.specs.Received.{HasReceived, Reception}
use Rattle.decoder_model.specs.Sets.{Delivery}
use Rattle.decoder_model.specs.Verdict.{verdict_of}
use Rattle.decoder_model.specs.declared.set_end.SetEnd.{SetEnd}
use Rattle.decoder_model.specs.declared.set_end.SetEnd.TheVariants.{Shown, Waiting, Broken, NotLater}
use Rattle.received_level_laws.specs.StreamCalls.{set_call, each_behind, calls_from}

-- ---- sets

-- a display set as it is told: what becomes of it, and its load, at its lifted time or at the time as read where it
-- is not kept
pub record ToldSet : Type 0 where
  pub end : SetEnd
  pub load : SetLoad

-- the set that is told of what has that verdict and load: a loss has neither, and none is told of it
abbrev pub set_told : Option SetEnd → Option SetLoad → Option ToldSet
set_told None load = None
set_told (Some end) None = None
set_told (Some end) (Some load) = Some (record { end = end; load = load })

-- a call, and the set that it is of where it is a set's
pub record ToldCall : Type 0 where
  pub call : Call
  pub set : Option ToldSet

-- a call that is of no set
abbrev pub of_no_set : Call → ToldCall
of_no_set call = record { call = call; set = None }

-- a call of that set
abbrev pub of_set : Option ToldSet → Call → ToldCall
of_set set call = record { call = call; set = set }

-- the calls of what is handed behind a past, told with the set that they are of
abbrev pub told_call : Profile → ℕ → List (Delivery Reading) → Delivery Reading → List ToldCall
told_call profile anchor past delivery =
    map (of_set (set_told (verdict_of profile anchor past delivery) (set_load profile anchor past delivery)))
    (set_call profile anchor past delivery)

-- the told calls of sets and losses in their order, each behind those before it, which are these and then older ones
abbrev pub told_behind : Profile → ℕ → List (Delivery Reading) → List (Delivery Reading)
    → List (List ToldCall)
told_behind profile anchor older received = each_behind (told_call profile anchor) older received

-- the call of a set with that end and load: one that is not kept is dropped
abbrev pub call_of_end : SetEnd → SetLoad → Call
call_of_end Shown load = SetWhole load
call_of_end Waiting load = SetWhole load
call_of_end (Broken fault) load = SetWhole load
call_of_end (NotLater last) load = Dropped

-- ---- a stream

-- the told calls, the first one first, of packets that were all taken, the first of which stands in that slot, and of
-- what was received with them, the latest first
abbrev pub told_of : Reception → ℕ → List (List ℕ) → List (Delivery Reading) → List ToldCall
told_of reception slot packets past =
    calls_from of_no_set reception.profile.coded reception.pid reception.pages slot [] packets
    (told_behind reception.profile reception.anchor [] (reverse past))

-- these are the told calls, the first one first, that packets give to a receiver, the first of which stands in that
-- slot; the stream ends with the packets or not
pub record AreToldCalls (reception : Reception) (slot : ℕ) (ended : Bool) (packets : List (List ℕ))
    (told : List ToldCall) : Type 0 where
  pub past : List (Delivery Reading)
  pub received : HasReceived reception ended packets past
  pub are : told ≡ told_of reception slot (packets_taken reception.pid packets) past

-- the calls themselves, the latest first
abbrev pub calls_told : List ToldCall → List Call
calls_told told = reverse (map (λ (one : ToldCall). one.call) told)

-- ---- when sets are done

-- a set that is told, and the tick at which it is done
pub record ToldDoneSet : Type 0 where
  pub set : ToldSet
  pub done : ℕ

-- the tick at which a set with that call is done behind earlier calls, the latest first: one that is not kept is
-- dropped, at the tick of the last packet that arrived before
abbrev pub done_by : Pace → List Call → Call → ℕ
done_by pace past (Arrived slot bytes) = tick_of pace (last_slot past)
done_by pace past (SetWhole load) = done_of pace load past
done_by pace past Dropped = tick_of pace (last_slot past)

-- the tick at which the set of a told call is done, behind earlier ones, the latest first
abbrev pub done_behind : Pace → List ToldCall → ToldCall → ℕ
done_behind pace earlier told = done_by pace (map (λ (one : ToldCall). one.call) earlier) told.call

-- the set of a told call behind earlier ones, with the tick at which it is done; none where the call is of no set
abbrev pub done_set : Pace → List ToldCall → ToldCall → Option ToldDoneSet
done_set pace earlier told =
    option_map (λ (set : ToldSet). record { set = set; done = done_behind pace earlier told }) told.set

-- the sets of told calls in their order, each behind those before it, which are these and then earlier ones
abbrev pub told_sets_behind : Pace → List ToldCall → List ToldCall → List ToldDoneSet
told_sets_behind pace earlier told =
    filter_map (λ (placed : ToldCall × List ToldCall). done_set pace placed.1 placed.0) (with_earlier earlier told)

-- the sets of told calls, in their order
abbrev pub told_sets : Pace → List ToldCall → List ToldDoneSet
told_sets pace told = told_sets_behind pace [] told
