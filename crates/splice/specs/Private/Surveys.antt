-- What is found of a stream, packet by packet and set by set, and what that has to do with all that came.
use Rattle.std.specs.Prelude.{◌≡◌, ℕ, ◌+◌, ◌-◌, ◌^◌, ◌<◌, ◌≤◌, ◌==◌, ◌&&◌, not, min, if◌then◌else◌, Bool, true, false, List, [], ◌∷◌, ◌++◌, length, reverse, Option, Some, None}
use Rattle.std.specs.Option.{option_or}
use Rattle.stream_syntax.specs.declared.page.State.TheVariants.{ModeChange}
use Rattle.decoder_model.specs.Contents.{has_state}
use Rattle.decoder_model.specs.Faults.{contents_in}
use Rattle.decoder_model.specs.Kept.{lifted_time}
use Rattle.decoder_model.specs.Readings.{Reading, IsDeliveryRead}
use Rattle.decoder_model.specs.Received.{Reception}
use Rattle.decoder_model.specs.Sets.{Delivery, lost, whole, refused}
use Rattle.decoder_model.specs.Verdict.{verdict_of}
use Rattle.decoder_model.specs.declared.set_end.SetEnd.{SetEnd}
use Rattle.decoder_model.specs.declared.set_end.SetEnd.TheVariants.{Shown, Waiting, Broken, NotLater}
use Rattle.sent_sets.specs.RawSets.{RawSet}
use Rattle.set_receiver.specs.Receiving.{SetReceiving, reception}
use Rattle.set_receiver.specs.Taking.{HasPast}
use Rattle.splice.specs.KeptSets.{kept_among, kept_sets, set_at}
use Rattle.splice.specs.StreamTests.{AreSetsShown, AreShownUpTo, BeginsAnew, IsFirstLost, IsFirstUnshown, IsLookedAt, IsLossless}
use Rattle.splice.specs.Private.JoinedSets.{HasSets, IsJoinedOf}
use Rattle.splice.specs.Private.Parts.{is_looked_at, placed, sent_time, shown_before}
use Rattle.splice.specs.Private.Sendings.{IsSendingOf}
use Rattle.splice.specs.declared.found.Finding.{Finding}
use Rattle.splice.specs.declared.found.Finding.TheVariants.{Good, Unshown, Lost}
use Rattle.splice.specs.declared.found.Found.{Found}
use Rattle.splice.specs.declared.found.Glimpse.{Glimpse}
use Rattle.splice.specs.declared.joined.Joined.{Joined}
use Rattle.splice.specs.declared.part.Part.{Part}
use Rattle.splice.specs.declared.prepared.Placed.{Placed}
use Rattle.splice.specs.declared.prepared.Prepared.{Prepared}

-- ---- what is found

-- nothing keeps the stream from being joined so far
abbrev pub is_good : Finding → Bool
is_good Good = true
is_good (Unshown set) = false
is_good (Lost packet) = false

-- the set is shown, by what became of it in the receiver
abbrev pub is_shown : SetEnd → Bool
is_shown Shown = true
is_shown Waiting = false
is_shown (Broken fault) = false
is_shown (NotLater last) = false

-- nothing so far
abbrev pub nothing_found : Found
nothing_found = record { finding = Good; sets = 0; anew = false; begin = None }

-- a set more, by what became of it
abbrev pub found_after : Part → Glimpse → SetEnd → Found → Found
found_after part glimpse end found =
    if is_looked_at part glimpse.lifted && not (is_shown end)
    then record { finding = Unshown found.sets; sets = found.sets; anew = found.anew; begin = found.begin }
    else record {
      finding = found.finding;
      sets = min (found.sets + 1) (2 ^ 64 - 1);
      anew = if found.sets == 0 then glimpse.anew else found.anew;
      begin = option_or found.begin glimpse.kept;
    }

-- a loss more; the first of all losses counts
abbrev pub finding_lost : ℕ → Finding → Finding
finding_lost packet Good = Lost packet
finding_lost packet (Unshown set) = Lost packet
finding_lost packet (Lost first) = Lost first

-- what is found of a stream with a loss more, at the packet of that number
abbrev pub lost_after : ℕ → Found → Found
lost_after packet found = record {
  finding = finding_lost packet found.finding;
  sets = found.sets;
  anew = found.anew;
  begin = found.begin;
}

-- so many losses more, with one packet
abbrev pub found_with : ℕ → ℕ → Found → Found
found_with losses packet found = if losses == 0 then found else lost_after packet found

-- ---- a set that is looked at before it is taken

-- the time of the first set, where there is one
abbrev pub first_time : List RawSet → Option ℕ
first_time [] = None
first_time (set ∷ sets) = Some set.time

-- a set of the state mode change
abbrev pub begins_anew : Delivery Reading → Bool
begins_anew lost = false
begins_anew (whole time size readings) = has_state ModeChange (contents_in readings)
begins_anew (refused time size fault) = false

-- a set with these segments is sent at that time, where there is one
abbrev pub IsPlacedAt : Option ℕ → List (List ℕ) → Option Placed → Type 0
IsPlacedAt None segments placed = placed ≡ None
IsPlacedAt (Some time) segments placed =
    (one : Placed) × (placed ≡ Some one) × (one.time ≡ time)
    × (1 ≤ length segments → IsSendingOf (record { time = time; segments = segments }) one.sending)

-- a set that is kept is sent at its time in the joined stream, where it is
abbrev pub IsPlacedFor : Part → Option ℕ → List RawSet → Option Placed → Type 0
IsPlacedFor part begin [] placed = placed ≡ None
IsPlacedFor part begin (set ∷ sets) placed = IsPlacedAt (sent_time part begin set.time) set.segments placed

-- what is known of a set with that lifted time before it is taken
pub record IsPreparedOf (part : Part) (begin lifted : Option ℕ) (delivery : Delivery (List ℕ)) (next : Prepared)
    : Type 0 where
  pub lifted_is : next.glimpse.lifted ≡ lifted
  pub kept : next.glimpse.kept ≡ first_time (set_at lifted delivery)
  pub anew : (one : Delivery Reading) → IsDeliveryRead delivery one → next.glimpse.anew ≡ begins_anew one
  pub placed : IsPlacedFor part begin (set_at lifted delivery) next.placed

-- ---- a stream so far

-- the first set is a mode change; the latest stands first
abbrev pub is_anew : List (Delivery Reading) → Bool
is_anew [] = false
is_anew (one ∷ []) = begins_anew one
is_anew (one ∷ next ∷ past) = is_anew (next ∷ past)

-- the set of that number is the first of these that has to be shown and is not
pub record IsUnshownIn (made : Reception) (cut : Option ℕ) (past : List (Delivery Reading)) (place : ℕ)
    : Type 0 where
  pub later : List (Delivery Reading)
  pub delivery : Delivery Reading
  pub before : List (Delivery Reading)
  pub parts : past ≡ later ++ delivery ∷ before
  pub place_is : place ≡ length before
  pub looked_at : IsLookedAt cut (lifted_time made.anchor before delivery)
  pub not_shown : verdict_of made.profile made.anchor before delivery ≡ Some Shown → ⊥
  pub first : AreShownUpTo made cut before

-- nothing is lost, and each set that has to be shown is; those that are sent are kept behind earlier ones
pub record IsGoodSo (made : Reception) (part : Part) (earlier : List RawSet) (packets : List (List ℕ))
    (past : List (Delivery Reading)) (before : List (Delivery (List ℕ))) (found : Found) (joined : Joined)
    : Type 0 where
  pub lossless : IsLossless made packets
  pub count : found.sets ≡ length past
  pub shown : AreShownUpTo made (shown_before part) past
  pub anew : found.anew ≡ is_anew past
  pub begin : found.begin ≡ first_time (kept_among made.anchor before)
  pub joined_are : IsJoinedOf (earlier ++ placed part (kept_among made.anchor before)) joined

-- what was found so far is so
abbrev pub IsFoundSo : Reception → Part → List RawSet → List (List ℕ) → List (Delivery Reading)
    → List (Delivery (List ℕ)) → Found → Joined → Finding → Type 0
IsFoundSo made part earlier packets past before found joined Good =
    IsGoodSo made part earlier packets past before found joined
IsFoundSo made part earlier packets past before found joined (Unshown set) =
    IsLossless made packets × IsUnshownIn made (shown_before part) past set × HasSets joined
IsFoundSo made part earlier packets past before found joined (Lost packet) =
    IsFirstLost made packets packet × HasSets joined

-- the receiver was fed the packets, and this was found of them
pub record HasFound (made : Reception) (part : Part) (earlier : List RawSet) (ended : Bool)
    (packets : List (List ℕ)) (receiving : SetReceiving) (found : Found) (joined : Joined) : Type 0 where
  pub own : reception receiving ≡ made
  pub low : made.anchor < 2 ^ 33
  pub few : length packets ≤ 2 ^ 26
  pub past : List (Delivery Reading)
  pub has : HasPast ended packets past receiving
  pub so : IsFoundSo made part earlier packets past (reverse has.given) found joined found.finding

-- sets were taken
pub record TakesSets (part : Part) (old new : SetReceiving) (was is : Found) (start end : Joined) : Type 0 where
  pub goes : (made : Reception) (earlier : List RawSet) (ended : Bool) (packets : List (List ℕ))
      → HasFound made part earlier ended packets old was start
      → HasFound made part earlier ended packets new is end

-- a packet was taken, with the sets that it made ready
pub record TakesPacket (part : Part) (packet : List ℕ) (place : ℕ) (old new : SetReceiving) (was is : Found)
    (start end : Joined) : Type 0 where
  pub goes : (made : Reception) (earlier : List RawSet) (packets : List (List ℕ)) → length packets ≡ place
      → HasFound made part earlier false packets old was start
      → HasFound made part earlier false (packets ++ packet ∷ []) new is end

-- ---- a stream that was gone through

-- a stream that can be joined: its sets that are sent are kept behind earlier ones
pub record IsGoodStream (made : Reception) (part : Part) (earlier : List RawSet) (packets : List (List ℕ))
    (found : Found) (joined : Joined) : Type 0 where
  pub lossless : IsLossless made packets
  pub shown : AreSetsShown made (shown_before part) packets
  pub begins : found.anew ≡ true → BeginsAnew made packets
  pub only : BeginsAnew made packets → found.anew ≡ true
  pub joined_are : IsJoinedOf (earlier ++ placed part (kept_sets made packets)) joined

-- what was found of a stream that has ended is so: it can be joined; or the set of that number is the first that has to
-- be shown and is not; or the packet of that number is the first with which something is lost
abbrev pub IsSurveyed : Reception → Part → List RawSet → List (List ℕ) → Found → Joined → Finding → Type 0
IsSurveyed made part earlier packets found joined Good = IsGoodStream made part earlier packets found joined
IsSurveyed made part earlier packets found joined (Unshown set) =
    IsLossless made packets × IsFirstUnshown made (shown_before part) packets set × HasSets joined
IsSurveyed made part earlier packets found joined (Lost packet) = IsFirstLost made packets packet × HasSets joined
