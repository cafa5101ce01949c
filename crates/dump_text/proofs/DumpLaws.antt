-- What `dump` has told, behind one more set.
use Rattle.std.proofs.Common.{◌≡◌, ◌∙◌, ℕ, zero, suc, ◌≤◌, Bool, true, false, List, [], ◌∷◌, ◌++◌, length, take, get_or, reverse, append-nil, append_assoc, Option, Some, None, refl, sym, ap, subst, arith}
use Rattle.std.specs.Prelude.{unwrap_or}
use Rattle.std.proofs.lemmas.List.{take_all}
use Rattle.std.proofs.lemmas.List.Elements.{All-nil, All-push}
use Rattle.command_text.specs.Putting.{Buffered, PutsOut}
use Rattle.command_text.proofs.PutLaws.{PutsOut-both, PutsOut-nothing}
use Rattle.decoder_model.specs.declared.pages.Pages.{Pages}
use Rattle.decoder_model.specs.Kept.{last_time, lifted_time}
use Rattle.decoder_model.specs.Readings.{AreDeliveriesRead, IsDeliveryRead, Reading}
use Rattle.decoder_model.specs.Sets.{Delivery, has_ended, lost, runs_of, sets_in, sets_of}
use Rattle.decoder_model.specs.Arrivals.{Arrival}
use Rattle.decoder_model.specs.Received.{Reception}
use Rattle.display_sets.proofs.PacketLaws.{none_arrived, sets_of_packets}
use Rattle.reading_laws.proofs.PacketsRead.{packets_read}
use Rattle.set_receiver.specs.Receiving.{AreLosses}
use Rattle.set_receiver.specs.Taking.{AreAllBytes}
use Rattle.set_receiver.proofs.TakenSets.{next_read, read_more}
use Rattle.receiver.specs.Asking.{AllTaken, Asking, HasNext, IsNext, IsSame, Stands, reception}
use Rattle.sub_base.specs.Endpoints.{Received}
use Rattle.sub_base.specs.declared.profile.Profile.{Profile}
use Rattle.packet_walk.specs.Told.{TellsOne}
use Rattle.dump_text.specs.DumpText.{IsDumpText, settled_ticks, shown_text}
use Rattle.dump_text.specs.Dumping.{AreBefore, AreFrom, Dumping, DumpsOn, HasDumped, IsSameDump, IsSettled, IsDumpTold, IsToldOf, PutsBetween, Settles, ticks_between}
use Rattle.dump_text.proofs.TextLaws.{before_end, text_joined}
use Rattle.dump_text.proofs.ToldLaws.{told_kept, told_same}

-- ---- one more set

module _ (old new : Asking) (ticks : List ℕ) (told : ℕ) (at : Option ℕ)
    (has_next : HasNext old)
    (lifts : (packets : List (List ℕ)) (ended : Bool) (given rest : List (Delivery (List ℕ)))
    (next : Delivery (List ℕ)) (past : List (Delivery Reading)) (one : Delivery Reading)
    → IsNext ended packets given next rest old → AreDeliveriesRead (reverse given) past
    → IsDeliveryRead next one → at ≡ lifted_time old.showing.core.anchor past one)
    (takes : (ended : Bool) (packets : List (List ℕ)) (given rest : List (Delivery (List ℕ)))
    (delivery : Delivery (List ℕ)) → IsNext ended packets given delivery rest old
    → Stands ended packets (given ++ delivery ∷ []) new)
    (same : IsSame old new)
    (within : told ≤ length ticks) where
  -- the set that comes next, as it is read
  record Comes (ended : Bool) (packets : List (List ℕ)) (given : List (Delivery (List ℕ)))
      (past : List (Delivery Reading)) : Type 0 where
    delivery : Delivery (List ℕ)
    one : Delivery Reading
    stands : Stands ended packets (given ++ delivery ∷ []) new
    read : AreDeliveriesRead (reverse (given ++ delivery ∷ [])) (one ∷ past)
    lifted : at ≡ lifted_time old.showing.core.anchor past one

  comes : (ended : Bool) (packets : List (List ℕ)) (text : List ℕ) (is : IsDumpTold ended old ticks told packets text)
      → Comes ended packets is.given is.past
  comes ended packets text is =
      let next = has_next ended packets is.given is.stands in
      let all = packets_read (reception old) ended packets is.bytes in
      let found =
      next_read (reception old) ended packets is.given next.1 next.0 all.0 all.1 next.2.all in
      record {
        delivery = next.0;
        one = found.0;
        stands = takes ended packets is.given next.1 next.0 next.2;
        read = read_more is.given next.0 is.past found.0 is.read found.1;
        lifted = lifts packets ended is.given next.1 next.0 is.past found.0 next.2 is.read found.1;
      }

  -- the same in the receiver as it is then
  told_in_new : (next : ℕ) (past : List (Delivery Reading)) (text : List ℕ)
      → IsToldOf old.showing.core.profile old.showing.core.anchor ticks next past text
      → IsToldOf new.showing.core.profile new.showing.core.anchor ticks next past text
  told_in_new next past text is =
      subst (λ (made : Reception). IsToldOf made.profile made.anchor ticks next past text) (sym same) is

  -- a set that is not kept settles no tick
  dumps_none : (shown : Received) (buffer : Buffered) → at ≡ None
      → DumpsOn shown shown old new ticks told told buffer buffer
  dumps_none shown buffer none = record {
    goes = λ ended packets text. λ is.
        let next = comes ended packets text is in (
          [],
          subst (IsDumpTold ended new ticks told packets) (sym (append-nil text)) (record {
            bytes = is.bytes;
            given = is.given ++ next.delivery ∷ [];
            stands = next.stands;
            past = next.one ∷ is.past;
            read = next.read;
            of = told_in_new told (next.one ∷ is.past) text
                (told_same old.showing.core.profile old.showing.core.anchor ticks is.past next.one told text within
                (sym next.lifted ∙ none) is.of);
          }),
          PutsOut-nothing shown buffer,
        );
  }

  -- a kept set settles the ticks before its time
  dumps_some : (before now : Received) (was is : Buffered) (next time : ℕ) → at ≡ Some time → told ≤ next
      → next ≤ length ticks → AreBefore time told next ticks → AreFrom time next ticks
      → PutsBetween old before now was is ticks told next → DumpsOn before now old new ticks told next was is
  dumps_some before now was is next time some from inside early later puts = record {
    goes = λ ended packets text. λ state.
        let coming = comes ended packets text state in (
          shown_text old.showing.core.profile old.showing.core.anchor state.past (ticks_between told next ticks),
          record {
            bytes = state.bytes;
            given = state.given ++ coming.delivery ∷ [];
            stands = coming.stands;
            past = coming.one ∷ state.past;
            read = coming.read;
            of =
                told_in_new next (coming.one ∷ state.past)
                (text ++ shown_text old.showing.core.profile old.showing.core.anchor state.past
                (ticks_between told next ticks))
                (told_kept old.showing.core.profile old.showing.core.anchor ticks state.past coming.one told next time
                text from inside (sym coming.lifted ∙ some) early later state.of);
          },
          puts ended packets state.given state.past state.stands state.read state.of.later,
        );
  }

  -- the set, whether it is kept or not
  pub dumps_by : (before now : Received) (was is : Buffered) (next : ℕ) (time : Option ℕ) → at ≡ time
      → Settles old before now was is ticks told next time → DumpsOn before now old new ticks told next was is
  dumps_by before now was is next None none settles =
      subst (λ (shown : Received). DumpsOn before shown old new ticks told next was is) (sym settles.same_out)
      (subst (λ (buffer : Buffered). DumpsOn before before old new ticks told next was buffer)
      (sym settles.same_buffer)
      (subst (λ (n : ℕ). DumpsOn before before old new ticks told n was was) (sym settles.same_told)
      (dumps_none before was none)))
  dumps_by before now was is next (Some time) some settles =
      dumps_some before now was is next time some settles.from settles.within settles.early settles.later settles.puts

-- ---- several sets

pub dumps_nothing : (shown : Received) (receiving : Asking) (ticks : List ℕ) (told : ℕ) (buffer : Buffered)
    → DumpsOn shown shown receiving receiving ticks told told buffer buffer
dumps_nothing shown receiving ticks told buffer = record {
  goes =
      λ ended packets
      text. λ is. (
        [],
        subst (IsDumpTold ended receiving ticks told packets) (sym (append-nil text)) is,
        PutsOut-nothing
            shown buffer,
      );
}

pub dumps_both : (a b c : Received) (old mid new : Asking) (ticks : List ℕ) (told next last : ℕ)
    (was between is : Buffered) → DumpsOn a b old mid ticks told next was between
    → DumpsOn b c mid new ticks next last between is
    → DumpsOn a c old new ticks told last was is
dumps_both a b c old mid new ticks told next last was between is one other = record {
  goes = λ ended packets text. λ state.
      let first = one.goes ended packets text state in
      let second = other.goes ended packets (text ++ first.0) first.1 in (
        first.0 ++ second.0,
        subst (IsDumpTold ended new ticks last packets) (append_assoc text first.0 second.0) second.1,
        PutsOut-both a b c was between is first.0 second.0 first.2 second.2,
      );
}

-- ---- the same receiver

pub same_dumps : (a b c : Dumping) → IsSameDump a b → IsSameDump b c → IsSameDump a c
same_dumps a b c one other =
    record { receiver = other.receiver ∙ one.receiver; ticks = other.ticks ∙ one.ticks }

pub same_dump_itself : (dumping : Dumping) → IsSameDump dumping dumping
same_dump_itself dumping = record { receiver = refl; ticks = refl }

-- ---- before the first packet

-- every tick is no earlier than nothing
pub from_nothing : (anchor : ℕ) (ticks : List ℕ)
    → AreFrom (unwrap_or (last_time {S = Reading} anchor []) 0) 0 ticks
unfolding last_time
from_nothing anchor ticks k from within = omega arith

-- nothing is told
abbrev pub nothing_told : (receiving : Asking) (ticks : List ℕ) → Stands false [] [] receiving
    → IsDumpTold false receiving ticks 0 [] []
nothing_told receiving ticks stands = record {
  bytes = All-nil AreAllBytes;
  given = [];
  stands = stands;
  past = [];
  read = tt;
  of =
      record {
        settled = λ k below. absurd (omega arith);
        later = from_nothing receiving.showing.core.anchor ticks;
        whole = refl;
      };
}

-- no packets have sets
pub no_packets : (coded pid : ℕ) (pages : Pages) → sets_of coded pid pages false [] ≡ []
no_packets coded pid pages =
    sets_of_packets coded pid pages false []
    ∙ ap (λ (arrivals : List Arrival). sets_in coded (has_ended false pid []) (runs_of arrivals))
    (none_arrived coded pid pages)

-- ---- losses

-- what is told stays with losses
told_lost : (profile : Profile) (anchor : ℕ) (ticks : List ℕ) (told : ℕ) (text : List ℕ)
    (losses given : List (Delivery (List ℕ))) (past : List (Delivery Reading)) → told ≤ length ticks
    → AreLosses losses
    → AreDeliveriesRead (reverse given) past → IsToldOf profile anchor ticks told past text
    → (more : List (Delivery Reading)) × AreDeliveriesRead (reverse (given ++ losses)) more
    × IsToldOf profile anchor ticks told more text
told_lost profile anchor ticks told text [] given past within are read is = (
  past,
  subst (λ (deliveries : List (Delivery (List ℕ))). AreDeliveriesRead (reverse deliveries) past)
      (sym (append-nil given)) read,
  is,
)
told_lost profile anchor ticks told text (loss ∷ losses) given past within are read is =
    let rest = told_lost profile anchor ticks told text losses (given ++ loss ∷ []) (lost ∷ past) within are.1
    (read_more given loss past lost read
    (subst (λ (one : Delivery (List ℕ)). IsDeliveryRead one lost) (sym are.0) refl))
    (told_same profile anchor ticks past lost told text within refl is) in (
      rest.0,
      subst (λ (deliveries : List (Delivery (List ℕ))). AreDeliveriesRead (reverse deliveries) rest.0)
          (append_assoc given (loss ∷ []) losses) rest.1,
      rest.2,
    )

-- a packet that was fed
pub fed_told : (old new : Asking) (ticks : List ℕ) (told : ℕ) (packets : List (List ℕ))
    (packet text : List ℕ) → told ≤ length ticks → AreAllBytes packet → IsSame old new
    → ((fed : List (List ℕ)) (given : List (Delivery (List ℕ))) → Stands false fed given old
    → (losses : List (Delivery (List ℕ))) × AreLosses losses
    × Stands false (fed ++ packet ∷ []) (given ++ losses) new)
    → IsDumpTold false old ticks told packets text → IsDumpTold false new ticks told (packets ++ packet ∷ []) text
fed_told old new ticks told packets packet text within bytes same feeds is =
    let fed = feeds packets is.given is.stands in
    let more =
    told_lost old.showing.core.profile old.showing.core.anchor ticks told text fed.0 is.given is.past within fed.1
    is.read is.of in
    record {
      bytes = All-push AreAllBytes packets packet is.bytes bytes;
      given = is.given ++ fed.0;
      stands = fed.2;
      past = more.0;
      read = more.1;
      of =
          subst (λ (made : Reception). IsToldOf made.profile made.anchor ticks told more.0 text) (sym same) more.2;
    }

-- a packet that was fed, and the sets that were taken then
pub packet_told : (before now : Received) (old : Dumping) (mid new : Asking) (next : ℕ) (was is : Buffered)
    (place : ℕ) (packet : List ℕ) → old.told ≤ length old.ticks → AreAllBytes packet → IsSame old.receiving mid
    → ((fed : List (List ℕ)) (given : List (Delivery (List ℕ))) → Stands false fed given old.receiving
    → (losses : List (Delivery (List ℕ))) × AreLosses losses
    × Stands false (fed ++ packet ∷ []) (given ++ losses) mid)
    → IsSame mid new → AllTaken new → next ≤ length old.ticks
    → DumpsOn before now mid new old.ticks old.told next was is
    → TellsOne HasDumped before now old
    (record { receiving = new; bands = old.bands; ticks = old.ticks; told = next }) was is place packet
packet_told before now old mid new next was is place packet within bytes same feeds later all inside dumps = record {
  goes = λ packets text. λ count has.
      let fed = fed_told old.receiving mid old.ticks old.told packets packet text within bytes same feeds has.told in
      let on = dumps.goes false (packets ++ packet ∷ []) text fed in (
        on.0,
        record {
          within = inside;
          told = on.1;
          all = all (packets ++ packet ∷ []) false on.1.given on.1.stands;
        },
        on.2,
      );
}

-- ---- the text

same_text : (profile : Profile) (anchor : ℕ) (ticks : List ℕ) (told : ℕ) (past : List (Delivery Reading))
    (text : List ℕ) (last : Option ℕ) → last_time anchor past ≡ last → told ≤ length ticks
    → IsToldOf profile anchor ticks told past text
    → settled_ticks last ticks ≡ take told ticks
same_text profile anchor ticks told past text None is within of = by told refl
  where
    by : (n : ℕ) → told ≡ n → [] ≡ take told ticks
    by zero none = ap (λ (n : ℕ). take n ticks) (sym none)
    by (suc n) some =
        absurd (let no : IsSettled (last_time anchor past) (get_or ticks 0 0) = of.settled 0 (omega arith) in subst
        (λ (last : Option ℕ). IsSettled last (get_or ticks 0 0)) is no)
same_text profile anchor ticks told past text (Some last) is within of =
    before_end last told ticks within
    (λ k below. subst (λ (last : Option ℕ). IsSettled last (get_or ticks k 0)) is (of.settled k below))
    (subst (λ (last : Option ℕ). AreFrom (unwrap_or last 0) told ticks) is of.later)

-- the text of the packets, where the stream goes on
pub dumped_so_far : (dumping : Dumping) (packets : List (List ℕ)) (text : List ℕ) → HasDumped dumping packets text
    → IsDumpText (reception dumping.receiving) dumping.ticks false packets text
dumped_so_far dumping packets text has =
    let profile = dumping.receiving.showing.core.profile in
    let anchor = dumping.receiving.showing.core.anchor in
    record {
      past = has.told.past;
      received =
          subst (λ (all : List (Delivery (List ℕ))). AreDeliveriesRead (reverse all) has.told.past) (sym has.all)
          has.told.read;
      whole = has.told.of.whole
          ∙ ap (shown_text profile anchor has.told.past)
          (sym (same_text profile anchor dumping.ticks dumping.told has.told.past text
          (last_time anchor has.told.past) refl has.within has.told.of));
    }

-- the text of the packets, where the stream has ended with them
pub dumped_whole : (before mid now : Received) (old : Dumping) (fed new : Asking) (next : ℕ)
    (was between is : Buffered)
    → ((packets : List (List ℕ)) (given : List (Delivery (List ℕ))) → Stands false packets given old.receiving
    → Stands true packets given fed)
    → IsSame old.receiving fed → DumpsOn before mid fed new old.ticks old.told next was between → IsSame fed new
    → AllTaken new → next ≤ length old.ticks
    → PutsBetween new mid now between is old.ticks next (length old.ticks)
    → (packets : List (List ℕ)) (text : List ℕ) → HasDumped old packets text
    → (more : List ℕ)
    × IsDumpText (reception old.receiving) old.ticks true packets (text ++ more)
    × PutsOut before now was is more
dumped_whole before mid now old fed new next was between is finishes same dumps later all within rest packets text has =
    let ended : IsDumpTold true fed old.ticks old.told packets text = record {
      bytes = has.told.bytes;
      given = has.told.given;
      stands = finishes packets has.told.given has.told.stands;
      past = has.told.past;
      read = has.told.read;
      of =
          subst (λ (made : Reception). IsToldOf made.profile made.anchor old.ticks old.told has.told.past text)
          (sym same) has.told.of;
    } in
    let on = dumps.goes true packets text ended in
    let state : IsDumpTold true new old.ticks next packets (text ++ on.0) = on.1 in
    let profile = new.showing.core.profile in
    let anchor = new.showing.core.anchor in
    let both : IsSame old.receiving new = later ∙ same in
    let others : List ℕ = shown_text profile anchor state.past (ticks_between next (length old.ticks) old.ticks) in
    let whole : (text ++ on.0) ++ others ≡ shown_text profile anchor state.past old.ticks =
    ap (λ (front : List ℕ). front ++ others) state.of.whole
    ∙ sym (text_joined profile anchor state.past next (length old.ticks) old.ticks within)
    ∙ ap (shown_text profile anchor state.past) (take_all (length old.ticks) old.ticks (omega arith)) in
    let is_new : IsDumpText (reception new) old.ticks true packets ((text ++ on.0) ++ others) =
    record {
      past = state.past;
      received =
          subst (λ (all : List (Delivery (List ℕ))). AreDeliveriesRead (reverse all) state.past)
          (sym (all packets true state.given state.stands)) state.read;
      whole = whole;
    } in (
      on.0 ++ others,
      subst (λ (t : List ℕ). IsDumpText (reception old.receiving) old.ticks true packets t)
          (append_assoc text on.0 others)
          (subst (λ (made : Reception). IsDumpText made old.ticks true packets ((text ++ on.0) ++ others)) both
          is_new),
      PutsOut-both before mid now was between is on.0 others on.2
          (rest true packets state.given state.past state.stands state.read state.of.later),
    )
