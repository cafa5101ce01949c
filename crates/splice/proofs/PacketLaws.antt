-- What is found with one more packet, before its sets are taken.
use Rattle.std.proofs.Common.{◌≡◌, ◌∙◌, ℕ, zero, suc, ◌^◌, ◌<◌, ◌≤◌, ◌==◌, ◌||◌, Bool, true, false, cond, List, [], ◌∷◌, ◌++◌, get_or, length, reverse, None, refl, sym, ap, subst, arith, append-nil, append_assoc}
use Rattle.std.proofs.lemmas.List.{get_or_default}
use Rattle.std.specs.List.{list_any}
use Rattle.std.proofs.lemmas.Bool.Decides.{nat_tests}
use Rattle.std.proofs.lemmas.List.{length-append}
use Rattle.std.proofs.lemmas.List.Elements.{All-push}
use Rattle.stream_syntax.specs.TransportPackets.{packet_fault}
use Rattle.decoder_model.specs.Arrivals.{arrivals_at, arrivals_of, packets_taken}
use Rattle.decoder_model.specs.Readings.{Reading}
use Rattle.decoder_model.specs.Received.{Reception}
use Rattle.decoder_model.specs.Sets.{Delivery, lost, whole, refused, runs_of}
use Rattle.display_sets.specs.Gathered.{ReadySet, ready_sets}
use Rattle.display_sets.specs.Standing.{AreReady}
use Rattle.sent_sets.specs.RawSets.{RawSet}
use Rattle.set_reader.specs.Collecting.{losses}
use Rattle.set_receiver.specs.Receiving.{IsSameReception, SetReceiving, HasBeenFed, reception}
use Rattle.set_receiver.specs.Taking.{AreAllBytes}
use Rattle.set_receiver.proofs.PastLaws.{losses_read}
use Rattle.set_receiver.proofs.TakenSets.{are_losses}
use Rattle.splice.specs.KeptSets.{kept_among}
use Rattle.splice.specs.StreamTests.{IsFirstLost, IsLossless, is_lost}
use Rattle.splice.specs.Private.Parts.{placed}
use Rattle.splice.specs.Private.Surveys.{HasFound, IsFoundSo, TakesPacket, TakesSets, finding_lost, found_with, lost_after}
use Rattle.splice.specs.declared.found.Finding.{Finding}
use Rattle.splice.specs.declared.found.Finding.TheVariants.{Good, Unshown, Lost}
use Rattle.splice.specs.declared.found.Found.{Found}
use Rattle.splice.specs.declared.joined.Joined.{Joined}
use Rattle.splice.specs.declared.part.Part.{Part}
use Rattle.splice.proofs.LossLaws.{any_joined, is_loss, loss_more, runs_loss, sets_loss}

-- ---- losses

-- no set that is ready is a loss
none_waiting : (waiting : List (Delivery (List ℕ))) (sets : List ReadySet) → AreReady waiting sets
    → list_any is_loss waiting ≡ false
none_waiting [] sets are = refl
none_waiting (one ∷ waiting) [] are = absurd are
none_waiting (lost ∷ waiting) (set ∷ sets) are = absurd are.0
none_waiting (whole time size segments ∷ waiting) (set ∷ sets) are = none_waiting waiting sets are.1
none_waiting (refused time size fault ∷ waiting) (set ∷ sets) are = none_waiting waiting sets are.1

or_false : (b : Bool) → (b || false) ≡ b
or_false true = refl
or_false false = refl

-- something is lost of what was fed exactly where a loss was given
given_loss : (made : Reception) (ended : Bool) (fed : List (List ℕ)) (given : List (Delivery (List ℕ)))
    (receiving : SetReceiving) → reception receiving ≡ made → HasBeenFed ended fed given receiving
    → list_any is_lost (arrivals_of made.profile.coded made.pid made.pages fed) ≡ list_any is_loss given
given_loss made ended fed given receiving own stands =
    let gathered = receiving.collecting.sets in
    let sets = stands.reads.sets in
    (λ i. list_any is_lost (arrivals_of (sym own i).profile.coded (sym own i).pid (sym own i).pages fed))
    ∙ (λ i. list_any is_lost
    (arrivals_of (sym stands.coded i) receiving.collecting.demux.pid receiving.collecting.sets.pages fed))
    ∙ sym (runs_loss
    (arrivals_of gathered.coded receiving.collecting.demux.pid receiving.collecting.sets.pages fed))
    ∙ sym (sets_loss gathered.coded ended (runs_of
    (arrivals_of gathered.coded receiving.collecting.demux.pid receiving.collecting.sets.pages fed)))
    ∙ ap (list_any is_loss) sets.sets ∙ any_joined is_loss given sets.waiting
    ∙ ap (λ (b : Bool). list_any is_loss given || b)
    (none_waiting sets.waiting (ready_sets gathered) sets.are_ready) ∙ or_false (list_any is_loss given)

-- ---- a packet more

-- the first loss stays the first
lost_later : (made : Reception) (packets : List (List ℕ)) (packet : List ℕ) (place : ℕ)
    → IsFirstLost made packets place → IsFirstLost made (packets ++ packet ∷ []) place
lost_later made packets packet place is = record {
  before = is.before;
  packet = is.packet;
  rest = is.rest ++ packet ∷ [];
  parts =
      ap (λ (all : List (List ℕ)). all ++ packet ∷ []) is.parts
      ∙ append_assoc is.before (is.packet ∷ is.rest) (packet ∷ []);
  place_is = is.place_is;
  lossless = is.lossless;
  brings = is.brings;
}

-- nothing is lost with it
still_so : (made : Reception) (part : Part) (earlier : List RawSet) (packets : List (List ℕ)) (packet : List ℕ)
    (past : List (Delivery Reading)) (before : List (Delivery (List ℕ))) (found : Found) (joined : Joined)
    (finding : Finding) → (IsLossless made packets → IsLossless made (packets ++ packet ∷ []))
    → IsFoundSo made part earlier packets past before found joined finding
    → IsFoundSo made part earlier (packets ++ packet ∷ []) past before found joined finding
still_so made part earlier packets packet past before found joined Good more so = record {
  lossless = more so.lossless;
  count = so.count;
  shown = so.shown;
  anew = so.anew;
  begin = so.begin;
  joined_are = so.joined_are;
}
still_so made part earlier packets packet past before found joined (Unshown set) more so = (more so.0, so.1, so.2)
still_so made part earlier packets packet past before found joined (Lost place) more so =
    (lost_later made packets packet place so.0, so.1)

-- something is lost with it
lost_so : (made : Reception) (part : Part) (earlier : List RawSet) (packets : List (List ℕ)) (packet : List ℕ)
    (past more : List (Delivery Reading)) (before after : List (Delivery (List ℕ))) (found is : Found)
    (joined : Joined) (place : ℕ) (finding : Finding)
    → (IsLossless made packets → IsFirstLost made (packets ++ packet ∷ []) place)
    → IsFoundSo made part earlier packets past before found joined finding
    → IsFoundSo made part earlier (packets ++ packet ∷ []) more after is joined (finding_lost place finding)
lost_so made part earlier packets packet past more before after found is joined place Good brings so =
    (brings so.lossless, (earlier ++ placed part (kept_among made.anchor before), so.joined_are))
lost_so made part earlier packets packet past more before after found is joined place (Unshown set) brings so =
    (brings so.0, so.2)
lost_so made part earlier packets packet past more before after found is joined place (Lost first) brings so =
    (lost_later made packets packet first so.0, so.1)

some_more : (n : ℕ) → (suc n == 0) ≡ false
some_more n = grind (arith, nat_tests)

found_lost : (n place : ℕ) (was : Found) → found_with (suc n) place was ≡ lost_after place was
found_lost n place was = ap (λ (b : Bool). cond b was (lost_after place was)) (some_more n)

module _ (part : Part) (old mid : SetReceiving) (packet : List ℕ) (place count : ℕ) (was : Found) (start : Joined)
    (bytes : AreAllBytes packet) (few : place < 2 ^ 26)
    (none : packet_fault (reception old).pid packet ≡ None)
    (feeds : (fed : List (List ℕ)) (given : List (Delivery (List ℕ))) → HasBeenFed false fed given old
    → HasBeenFed false (fed ++ packet ∷ []) (given ++ losses count) mid)
    (same : IsSameReception old mid) where
  first_lost : (made : Reception) (packets : List (List ℕ)) (given : List (Delivery (List ℕ))) (n : ℕ)
      → reception old ≡ made → length packets ≡ place → HasBeenFed false packets given old
      → HasBeenFed false (packets ++ packet ∷ []) (given ++ losses (suc n)) mid → IsLossless made packets
      → IsFirstLost made (packets ++ packet ∷ []) place
  first_lost made packets given n own many stands fed lossless = record {
    before = packets;
    packet = packet;
    rest = [];
    parts = refl;
    place_is = sym many;
    lossless = lossless;
    brings =
        sym (ap (λ (b : Bool).
        b || list_any is_lost (arrivals_at made.profile.coded made.pid made.pages packets packet)) lossless)
        ∙ sym (loss_more made.profile.coded made.pid made.pages packets packet
        (subst (λ (r : Reception). packets_taken r.pid packets ≡ packets) own stands.reads.taken)
        (subst (λ (r : Reception). packet_fault r.pid packet ≡ None) own none))
        ∙ given_loss made false (packets ++ packet ∷ []) (given ++ losses (suc n)) mid (same ∙ own) fed
        ∙ any_joined is_loss given (losses (suc n))
        ∙ or_true (list_any is_loss given);
  }
    where
      or_true : (b : Bool) → (b || true) ≡ true
      or_true true = refl
      or_true false = refl

  still_lossless : (made : Reception) (packets : List (List ℕ)) (given : List (Delivery (List ℕ)))
      → reception old ≡ made → HasBeenFed false packets given old
      → HasBeenFed false (packets ++ packet ∷ []) given mid → IsLossless made packets
      → IsLossless made (packets ++ packet ∷ [])
  still_lossless made packets given own stands fed lossless =
      given_loss made false (packets ++ packet ∷ []) given mid (same ∙ own) fed
      ∙ sym (given_loss made false packets given old own stands) ∙ lossless

  few_more : (packets : List (List ℕ)) → length packets ≡ place → length (packets ++ packet ∷ []) ≤ 2 ^ 26
  few_more packets many = omega (arith, many, few, length-append packets (packet ∷ []))

  fed_by : (n : ℕ) → ((fed : List (List ℕ)) (given : List (Delivery (List ℕ))) → HasBeenFed false fed given old
      → HasBeenFed false (fed ++ packet ∷ []) (given ++ losses n) mid)
      → (made : Reception) (earlier : List RawSet) (packets : List (List ℕ)) → length packets ≡ place
      → HasFound made part earlier false packets old was start
      → HasFound made part earlier false (packets ++ packet ∷ []) mid (found_with n place was) start
  fed_by zero fed made earlier packets many so =
      let stands : HasBeenFed false (packets ++ packet ∷ []) so.has.given mid =
      subst (λ (all : List (Delivery (List ℕ))). HasBeenFed false (packets ++ packet ∷ []) all mid)
      (append-nil so.has.given) (fed packets so.has.given so.has.stands) in
      record {
        own = same ∙ so.own;
        low = so.low;
        few = few_more packets many;
        past = so.past;
        has = record {
          bytes = All-push AreAllBytes packets packet so.has.bytes bytes;
          given = so.has.given;
          stands = stands;
          read = so.has.read;
        };
        so =
            still_so made part earlier packets packet so.past (reverse so.has.given) was start was.finding
            (still_lossless made packets so.has.given so.own so.has.stands stands) so.so;
      }
  fed_by (suc n) fed made earlier packets many so =
      let stands = fed packets so.has.given so.has.stands in
      let read = losses_read (losses (suc n)) so.has.given so.past (are_losses (suc n)) so.has.read in
      subst (λ (f : Found). HasFound made part earlier false (packets ++ packet ∷ []) mid f start)
      (sym (found_lost n place was))
      (record {
        own = same ∙ so.own;
        low = so.low;
        few = few_more packets many;
        past = read.more ++ so.past;
        has = record {
          bytes = All-push AreAllBytes packets packet so.has.bytes bytes;
          given = so.has.given ++ losses (suc n);
          stands = stands;
          read = read.read;
        };
        so =
            lost_so made part earlier packets packet so.past (read.more ++ so.past) (reverse so.has.given)
            (reverse (so.has.given ++ losses (suc n))) was (lost_after place was) start place was.finding
            (first_lost made packets so.has.given n so.own many so.has.stands stands) so.so;
      })

  -- a packet was taken, with its sets
  pub packet_taken : (new : SetReceiving) (half is : Found) (end : Joined) → half ≡ found_with count place was
      → TakesSets part mid new half is start end → TakesPacket part packet place old new was is start end
  packet_taken new half is end found sets = record {
    goes = λ made earlier packets many. λ so.
        sets.goes made earlier false (packets ++ packet ∷ [])
        (subst (λ (f : Found). HasFound made part earlier false (packets ++ packet ∷ []) mid f start) (sym found)
        (fed_by count feeds made earlier packets many so));
  }

-- a packet was passed by, which brings nothing
pub passed_by : (part : Part) (receiving : SetReceiving) (packet : List ℕ) (place : ℕ) (found : Found) (joined : Joined)
    → AreAllBytes packet → place < 2 ^ 26 → packet_fault (reception receiving).pid packet ≡ None
    → ((fed : List (List ℕ)) (given : List (Delivery (List ℕ))) → HasBeenFed false fed given receiving
    → HasBeenFed false (fed ++ packet ∷ []) given receiving)
    → TakesPacket part packet place receiving receiving found found joined joined
passed_by part receiving packet place found joined bytes few none goes_on =
    packet_taken part receiving receiving packet place 0 found joined bytes few none
    (λ fed given stands.
    subst (λ (all : List (Delivery (List ℕ))). HasBeenFed false (fed ++ packet ∷ []) all receiving)
    (sym (append-nil given)) (goes_on fed given stands))
    refl receiving found found joined refl (record { goes = λ made earlier ended packets. λ so. so })

-- the bytes of a packet
pub bytes_of : (packet : List ℕ) → ((k : ℕ) → get_or packet k 0 < 256) → AreAllBytes packet
bytes_of packet small k d within = omega (arith, small k, get_or_default packet k d 0 within)
