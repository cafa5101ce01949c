-- What `faults` has told of packets, with one more packet, and at the end.
use Rattle.std.proofs.Common.{◌≡◌, ◌∙◌, ℕ, zero, suc, ◌+◌, ◌*◌, ◌<◌, ◌≤◌, ◌^◌, Bool, true, false, List, [], ◌∷◌, ◌++◌, length, reverse, None, append-nil, append_assoc, refl, sym, ap, subst, arith, length-append}
use Rattle.std.proofs.lemmas.List.{length-reverse, reverse-append}
use Rattle.std.proofs.lemmas.List.Elements.{All-nil, All-push}
use Rattle.command_text.specs.Putting.{Buffered, PutsOut}
use Rattle.command_text.proofs.PutLaws.{PutsOut-both, PutsOut-nothing}
use Rattle.decoder_model.specs.Readings.{AreDeliveriesRead, Reading}
use Rattle.decoder_model.specs.Received.{HasReceived, Reception, sets_received}
use Rattle.decoder_model.specs.Sets.{Delivery}
use Rattle.display_sets.specs.Gathered.{first_ready, ready_sets}
use Rattle.display_sets.proofs.Standings.{first_is}
use Rattle.packet_source.specs.declared.limits.TheConstants.{STREAM_LIMIT}
use Rattle.packet_walk.specs.Told.{HasTaken, TellsOne}
use Rattle.set_definitions.specs.Knowing.{Knowledge, Knows}
use Rattle.set_definitions.specs.declared.definition.Definition.{Definition}
use Rattle.set_reader.specs.Collecting.{losses}
use Rattle.set_reader.proofs.Feeds.{arrived_at, first_read}
use Rattle.set_receiver.specs.Receiving.{AreLosses, IsSameReception, SetReceiving, HasBeenFed, reception}
use Rattle.set_receiver.specs.Taking.{AllReceived, AreAllBytes}
use Rattle.set_receiver.proofs.PastLaws.{losses_read}
use Rattle.set_receiver.proofs.Takes.{sets_read_are}
use Rattle.sub_base.specs.Endpoints.{Received}
use Rattle.fault_text.specs.FaultText.{IsFaultsText, defined_after, ends_of, faults_text, set_count, sets_text, tally_line, tally_of}
use Rattle.fault_text.specs.Faulting.{Faulting, HasFaulted, IsFaultedTo, TellsSets, faults_tell, known_behind, with_lost}
use Rattle.fault_text.specs.declared.tally.Tally.{Tally}
use Rattle.fault_text.proofs.FewSets.{as_many_read, few_received}
use Rattle.fault_text.proofs.TallyLaws.{all_counted, ends_count, losses_counted, losses_forget, losses_untold, none_counted, none_defined, none_told}

-- ---- all that was taken

-- where no set is ready, all were taken
pub all_taken : (receiving : SetReceiving) → ready_sets receiving.collecting.sets ≡ [] → AllReceived receiving
all_taken receiving none fed ended given stands =
    sets_read_are ended fed given receiving stands
    ∙ first_read ended fed given receiving.collecting None stands.reads
    (first_is receiving.collecting.sets None (sym (ap first_ready none)) (arrived_at receiving.collecting fed) ended
    given
    stands.reads.sets)

-- what holds of the receiver that it was made as holds of it as it is
own_at : (made : Reception) (ended : Bool) (receiving : SetReceiving) (tally : Tally) (known : Knowledge)
    (packets : List (List ℕ)) (past : List (Delivery Reading)) (text : List ℕ)
    → IsFaultedTo made ended receiving tally known packets past text
    → IsFaultedTo (reception receiving) ended receiving tally known packets past text
own_at made ended receiving tally known packets past text at =
    subst (λ (one : Reception). IsFaultedTo one ended receiving tally known packets past text) (sym at.own) at

has_faulted : (receiving : SetReceiving) (tally : Tally) (known : Knowledge) (room : ℕ) (packets : List (List ℕ))
    (past : List (Delivery Reading)) (text : List ℕ) → AllReceived receiving
    → IsFaultedTo (reception receiving) false receiving tally known packets past text
    → HasFaulted (record { receiving = receiving; tally = tally; known = known; room = room }) packets text
has_faulted receiving tally known room packets past text all at = record {
  past = past;
  at = at;
  all = all packets false at.taken.given at.taken.stands;
}

received_at : (made : Reception) (ended : Bool) (receiving : SetReceiving) (tally : Tally) (known : Knowledge)
    (packets : List (List ℕ)) (past : List (Delivery Reading)) (text : List ℕ)
    (at : IsFaultedTo made ended receiving tally known packets past text)
    → sets_received made ended packets ≡ at.taken.given
    → HasReceived made ended packets past
received_at made ended receiving tally known packets past text at all =
    subst (λ (sets : List (Delivery (List ℕ))). AreDeliveriesRead (reverse sets) past) (sym all) at.taken.read

-- ---- before the first packet

pub nothing_faulted : (receiving : SetReceiving) (tally : Tally) (known : Knowledge) (room : ℕ)
    → ready_sets receiving.collecting.sets ≡ [] → HasBeenFed false [] [] receiving → tally ≡ tally_of []
    → Knows known []
    → HasFaulted (record { receiving = receiving; tally = tally; known = known; room = room }) [] []
nothing_faulted receiving tally known room none stands counted knows =
    let made = reception receiving in
    has_faulted receiving tally known room [] [] [] (all_taken receiving none)
    (record {
      own = refl;
      taken = record { bytes = All-nil AreAllBytes; given = []; stands = stands; read = tt };
      counted = counted ∙ none_counted made.profile made.anchor;
      knows = subst (Knows known) (none_defined made.profile made.anchor) knows;
      whole = none_told made.profile made.anchor;
    })

-- ---- how many

-- no more than two for each packet
pub few_told : (faulting : Faulting) (packets : List (List ℕ)) (text : List ℕ) → HasFaulted faulting packets text
    → set_count faulting.tally + faulting.tally.lost ≤ 2 * length packets
few_told faulting packets text has =
    let made = reception faulting.receiving in
    let ends = ends_of made.profile made.anchor has.past in
    omega (
      arith,
      ap (λ (tally : Tally). set_count tally + tally.lost) has.at.counted,
      all_counted ends,
      ends_count made.profile made.anchor has.past,
      few_received made false packets has.past
          (received_at made false faulting.receiving faulting.tally faulting.known packets has.past text has.at
          has.all),
    )

pub few_taken : (faulting : Faulting) (place : ℕ) → HasTaken HasFaulted faulting place → place < STREAM_LIMIT
    → set_count faulting.tally + faulting.tally.lost ≤ 2 ^ 41
few_taken faulting place taken within =
    omega (arith, few_told faulting taken.packets taken.text taken.told, taken.counted, within)

-- ---- a packet

are_losses : (count : ℕ) → AreLosses (losses count)
are_losses zero = tt
are_losses (suc count) = (refl, are_losses count)

many_losses : (count : ℕ) → length (losses count) ≡ count
many_losses zero = refl
many_losses (suc count) = ap suc (many_losses count)

-- a packet was fed
record IsFed (made : Reception) (receiving : SetReceiving) (tally : Tally) (known : Knowledge) (packets : List (List ℕ))
    (past : List (Delivery Reading)) (text : List ℕ) : Type 0 where
  more : List (Delivery Reading)
  at : IsFaultedTo made false receiving tally known packets (more ++ past) text

fed_at : (made : Reception) (old new : SetReceiving) (tally : Tally) (known left : Knowledge) (count : ℕ)
    (packets : List (List ℕ)) (packet : List ℕ) (past : List (Delivery Reading)) (text : List ℕ)
    → AreAllBytes packet → IsSameReception old new
    → ((fed : List (List ℕ)) (given : List (Delivery (List ℕ))) → HasBeenFed false fed given old
    → HasBeenFed false (fed ++ packet ∷ []) (given ++ losses count) new)
    → ((earlier : List Definition) → Knows known earlier → Knows left (known_behind count earlier))
    → IsFaultedTo made false old tally known packets past text
    → IsFed made new (with_lost count tally) left (packets ++ packet ∷ []) past text
fed_at made old new tally known left count packets packet past text bytes same feeds forgets at =
    let given = at.taken.given in
    let read = losses_read (losses count) given past (are_losses count) at.taken.read in
    let many : length read.more ≡ count =
    omega (
      arith,
      as_many_read (reverse (given ++ losses count)) (read.more ++ past) read.read,
      as_many_read (reverse given) past at.taken.read,
      length-reverse (given ++ losses count),
      length-reverse given,
      length-append given (losses count),
      length-append read.more past,
      many_losses count,
    ) in
    let raws = reverse (losses count) in
    let as_many : length raws ≡ length read.more =
    omega (arith, many, length-reverse (losses count), many_losses count) in
    let last : reverse (given ++ losses count) ≡ raws ++ reverse given = reverse-append given (losses count) in
    record {
      more = read.more;
      at = record {
        own = same ∙ at.own;
        taken = record {
          bytes = All-push AreAllBytes packets packet at.taken.bytes bytes;
          given = given ++ losses count;
          stands = feeds packets given at.taken.stands;
          read = read.read;
        };
        counted =
            (λ i. with_lost (sym many i) (at.counted i))
            ∙ sym (losses_counted made.profile made.anchor read.more past read.are_lost);
        knows =
            subst (Knows left)
            ((λ i. known_behind (sym many i) (defined_after made.profile made.anchor (reverse given) past))
            ∙ losses_forget made.profile made.anchor raws read.more (reverse given) past as_many read.are_lost
            ∙ ap (λ (all : List (Delivery (List ℕ))). defined_after made.profile made.anchor all (read.more ++ past))
            (sym last))
            (forgets (defined_after made.profile made.anchor (reverse given) past) at.knows);
        whole =
            at.whole
            ∙ losses_untold made.profile made.anchor raws read.more (reverse given) past as_many read.are_lost
            ∙ ap (λ (all : List (Delivery (List ℕ))). sets_text made.profile made.anchor all (read.more ++ past))
            (sym last);
      };
    }

-- with the sets that were taken then
pub packet_told : (old mid new : SetReceiving) (start fin : Tally) (known left knows : Knowledge) (room count : ℕ)
    (place : ℕ) (packet : List ℕ) (before now : Received) (was is : Buffered) → AreAllBytes packet
    → IsSameReception old mid
    → ((fed : List (List ℕ)) (given : List (Delivery (List ℕ))) → HasBeenFed false fed given old
    → HasBeenFed false (fed ++ packet ∷ []) (given ++ losses count) mid)
    → ((earlier : List Definition) → Knows known earlier → Knows left (known_behind count earlier))
    → TellsSets before now mid new (with_lost count start) fin left knows was is → IsSameReception mid new
    → AllReceived new
    → TellsOne HasFaulted before now
    (record { receiving = old; tally = start; known = known; room = room })
    (record { receiving = new; tally = fin; known = knows; room = room }) was is place packet
packet_told old mid new start fin known left knows room count place packet before now was is bytes same feeds forgets
    sets later all = record {
      goes = λ packets text. λ counted has.
          let made = reception old in
          let fed =
          fed_at made old mid start known left count packets packet has.past text bytes same feeds forgets has.at
          in
          let taken = sets.goes made false (packets ++ packet ∷ []) (fed.more ++ has.past) text fed.at in (
            taken.1,
            has_faulted new fin knows room (packets ++ packet ∷ []) (taken.0 ++ (fed.more ++ has.past))
                (text ++ taken.1)
                all
                (own_at made false new fin knows (packets ++ packet ∷ []) (taken.0 ++ (fed.more ++ has.past))
                (text ++ taken.1) taken.2),
            taken.3,
          );
    }

-- a packet of another PID
pub other_told : (old : SetReceiving) (tally : Tally) (known : Knowledge) (room : ℕ) (place : ℕ) (packet : List ℕ)
    (shown : Received) (buffer : Buffered)
    → AreAllBytes packet → ready_sets old.collecting.sets ≡ []
    → ((fed : List (List ℕ)) (given : List (Delivery (List ℕ))) → HasBeenFed false fed given old
    → HasBeenFed false (fed ++ packet ∷ []) given old)
    → TellsOne HasFaulted shown shown (record { receiving = old; tally = tally; known = known; room = room })
    (record { receiving = old; tally = tally; known = known; room = room }) buffer buffer place packet
other_told old tally known room place packet shown buffer bytes none stays = record {
  goes = λ packets text. λ counted has. (
    [],
    subst
        (HasFaulted (record { receiving = old; tally = tally; known = known; room = room }) (packets ++ packet ∷ []))
        (sym (append-nil text))
        (has_faulted old tally known room (packets ++ packet ∷ []) has.past text (all_taken old none)
        (record {
          own = has.at.own;
          taken = record {
            bytes = All-push AreAllBytes packets packet has.at.taken.bytes bytes;
            given = has.at.taken.given;
            stands = stays packets has.at.taken.given has.at.taken.stands;
            read = has.at.taken.read;
          };
          counted = has.at.counted;
          knows = has.at.knows;
          whole = has.at.whole;
        })),
    PutsOut-nothing shown buffer,
  );
}

-- ---- the text

-- the text of the packets, where the stream goes on
pub faulted_so_far : (faulting : Faulting) (packets : List (List ℕ)) (text : List ℕ)
    → HasFaulted faulting packets text → faults_tell faulting false packets text
faulted_so_far faulting packets text has =
    let made = reception faulting.receiving in
    record {
      past = has.past;
      received =
          received_at made false faulting.receiving faulting.tally faulting.known packets has.past text has.at has.all;
      whole =
          has.at.whole
          ∙ ap (λ (all : List (Delivery (List ℕ))). sets_text made.profile made.anchor (reverse all) has.past)
          (sym has.all)
          ∙ sym (append-nil (sets_text made.profile made.anchor (reverse (sets_received made false packets)) has.past));
    }

-- the text of the packets, where the stream has ended with them
pub end_told : (old mid new : SetReceiving) (start fin : Tally) (known knows : Knowledge) (room : ℕ)
    (before half now : Received) (was between is : Buffered)
    → IsSameReception old mid
    → ((fed : List (List ℕ)) (given : List (Delivery (List ℕ))) → HasBeenFed false fed given old
    → HasBeenFed true fed given mid)
    → TellsSets before half mid new start fin known knows was between → AllReceived new
    → PutsOut half now between is (tally_line fin)
    → (packets : List (List ℕ)) (text : List ℕ)
    → HasFaulted (record { receiving = old; tally = start; known = known; room = room }) packets text
    → (more : List ℕ)
    × faults_tell (record { receiving = old; tally = start; known = known; room = room }) true packets (text ++ more)
    × PutsOut before now was is more
end_told old mid new start fin known knows room before half now was between is same ends sets all last packets text
    has =
    let made = reception old in
    let ended : IsFaultedTo made true mid start known packets has.past text = record {
      own = same;
      taken = record {
        bytes = has.at.taken.bytes;
        given = has.at.taken.given;
        stands = ends packets has.at.taken.given has.at.taken.stands;
        read = has.at.taken.read;
      };
      counted = has.at.counted;
      knows = has.at.knows;
      whole = has.at.whole;
    } in
    let taken = sets.goes made true packets has.past text ended in
    let past = taken.0 ++ has.past in
    let given : sets_received made true packets ≡ taken.2.taken.given =
    ap (λ (one : Reception). sets_received one true packets) (sym taken.2.own)
    ∙ all packets true taken.2.taken.given taken.2.taken.stands in (
      taken.1 ++ tally_line fin,
      record {
        past = past;
        received = received_at made true new fin knows packets past (text ++ taken.1) taken.2 given;
        whole =
            sym (append_assoc text taken.1 (tally_line fin))
            ∙ (λ i. taken.2.whole i ++ tally_line (taken.2.counted i))
            ∙ ap (λ (all : List (Delivery (List ℕ))). faults_text made.profile made.anchor true (reverse all) past)
            (sym given);
      },
      PutsOut-both before half now was between is taken.1 (tally_line fin) taken.3 last,
    )

-- what a receiver at work tells is what it was made for
pub tells_as_made : (asked : Reception) (faulting : Faulting) (ended : Bool) (packets : List (List ℕ)) (text : List ℕ)
    → reception faulting.receiving ≡ asked → faults_tell faulting ended packets text
    → IsFaultsText asked ended packets text
tells_as_made asked faulting ended packets text same is =
    subst (λ (one : Reception). IsFaultsText one ended packets text) same is
