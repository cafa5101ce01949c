-- What a receiver shows of a compiled stream that it enters late, or of which packets are lost, and what its page
-- memory holds (EN 300 743, clause 5.1.1).
use Rattle.std.specs.Prelude.{◌≡◌, ℕ, true, List, Some, slice_get}
use Rattle.sub_base.specs.Profile.{profile_of}
use Rattle.page_epoch.specs.declared.planned_set.PlannedSet.{PlannedSet}
use Rattle.decoder_model.specs.Readings.{Reading}
use Rattle.decoder_model.specs.Received.{HasReceived}
use Rattle.decoder_model.specs.Sets.{Delivery}
use Rattle.decoder_model.specs.Streams.{entered_at, entry_set, is_from, Sending, IsReceived, IsGoodTick}
use Rattle.shown_stream.specs.HoldsWhole.{HoldsWhole}
use Rattle.shown_stream.specs.KeptSets.{IsFromEntry, IsKept}
use Rattle.shown_stream.specs.SentPlan.{SentPlan, received_with}
use Rattle.shown_stream.specs.SentSets.{sent_set, sent_sets, first_times_from, first_times_received}
use Rattle.shown_stream.specs.Shows.{authored_view, IsAnchorOf, Shows, ShowsFrom}

-- a receiver that the sets of a plan are sent for, which gets these packets but for the first so many, with any anchor
-- that suits the sets of which packets come, up to the first of which all do. At each tick it shows what the script
-- authors, from the time on of the first set that comes whole and is not of state normal, and nothing before it or
-- where there is none; each set that comes whole is kept at its own time and is not broken; and with each of them whose
-- epoch is known its page memory holds the script
pub record IsEnteredRightly (sent : SentPlan) (packets : List (List ℕ)) (missed : ℕ) : Type 0 where
  pub shown : (anchor : ℕ) → IsAnchorOf (first_times_from missed (sent_sets sent.table sent.sets)) anchor
      → (tick : ℕ)
      → ShowsFrom (received_with sent anchor) (entered_at missed packets)
      (entry_set missed (sent_sets sent.table sent.sets)) tick (authored_view sent.script tick)
  pub kept : (anchor : ℕ) → IsAnchorOf (first_times_from missed (sent_sets sent.table sent.sets)) anchor
      → (past : List (Delivery Reading))
      → HasReceived (received_with sent anchor) true (entered_at missed packets) past
      → (number : ℕ) (set : PlannedSet) → slice_get sent.sets number ≡ Some set
      → is_from missed (sent_set sent.table number set) ≡ true
      → IsKept (profile_of sent.profile) anchor (IsFromEntry (entry_set missed (sent_sets sent.table sent.sets))) past
      set
  pub held : (anchor : ℕ) → IsAnchorOf (first_times_from missed (sent_sets sent.table sent.sets)) anchor
      → (past : List (Delivery Reading))
      → HasReceived (received_with sent anchor) true (entered_at missed packets) past
      → HoldsWhole sent.script (profile_of sent.profile) anchor sent.sets
      (λ number set. is_from missed (sent_set sent.table number set) ≡ true) past

-- a receiver that the sets of a plan are sent for, which gets these packets of a compiled stream, between two
-- neighbouring payload packets of which at most 14 are lost, with any anchor that suits the sets of which packets come,
-- up to the first of which all do. At each tick up to which, from some set on that is not of state normal, all sets
-- have come whole, it shows what the script authors; each set that comes whole is kept at its own time and is not
-- broken, and is shown where that time is such a tick; and with each of them whose epoch is known its page memory holds
-- the script
pub record IsCutRightly (sent : SentPlan) (sendings : List Sending) (received : List (List ℕ)) : Type 0 where
  pub shown : (anchor : ℕ) → IsAnchorOf (first_times_received sendings (sent_sets sent.table sent.sets)) anchor
      → (tick : ℕ) → IsGoodTick (sent_sets sent.table sent.sets) sendings tick
      → Shows (received_with sent anchor) received tick (authored_view sent.script tick)
  pub kept : (anchor : ℕ) → IsAnchorOf (first_times_received sendings (sent_sets sent.table sent.sets)) anchor
      → (past : List (Delivery Reading)) → HasReceived (received_with sent anchor) true received past
      → (number : ℕ) (set : PlannedSet) → slice_get sent.sets number ≡ Some set
      → IsReceived sendings (sent_set sent.table number set)
      → IsKept (profile_of sent.profile) anchor (IsGoodTick (sent_sets sent.table sent.sets) sendings) past set
  pub held : (anchor : ℕ) → IsAnchorOf (first_times_received sendings (sent_sets sent.table sent.sets)) anchor
      → (past : List (Delivery Reading)) → HasReceived (received_with sent anchor) true received past
      → HoldsWhole sent.script (profile_of sent.profile) anchor sent.sets
      (λ number set. IsReceived sendings (sent_set sent.table number set)) past
