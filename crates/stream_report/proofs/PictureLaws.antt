-- What `pictures` has told of packets, with one more set or packet, and at the end.
use Rattle.std.proofs.Common.{◌≡◌, ◌∙◌, ℕ, ◌≤◌, Bool, true, false, List, [], ◌∷◌, ◌++◌, reverse, append-nil, append_assoc, Option, Some, None, refl, sym, ap, subst}
use Rattle.std.specs.Prelude.{unwrap_or}
use Rattle.std.specs.List.{AllByRecursion}
use Rattle.std.proofs.lemmas.List.Concat.{flat_map-append}
use Rattle.std.proofs.lemmas.List.Elements.{All-nil, All-push}
use Rattle.command_text.specs.Putting.{Buffered, PutsOut}
use Rattle.command_text.proofs.PutLaws.{PutsOut-both, PutsOut-nothing}
use Rattle.decoder_model.specs.Kept.{last_time, lifted_time}
use Rattle.decoder_model.specs.Readings.{AreDeliveriesRead, IsDeliveryRead, Reading}
use Rattle.decoder_model.specs.Received.{Reception, sets_received}
use Rattle.decoder_model.specs.Sets.{Delivery}
use Rattle.decoder_model.specs.Shown.{view_at}
use Rattle.decoder_model.specs.Verdict.{verdict_of}
use Rattle.decoder_model.specs.declared.set_end.SetEnd.{SetEnd}
use Rattle.dump_text.specs.DumpText.{shown_text, view_text}
use Rattle.dump_text.proofs.DumpLaws.{no_packets}
use Rattle.packet_walk.specs.Told.{TellsOne}
use Rattle.page_core.specs.Memory as cores
use Rattle.reading_laws.proofs.PacketsRead.{packets_read}
use Rattle.receiver.specs.Receiving.{IsNext, IsSame, Receiving, Stands, reception}
use Rattle.receiver.specs.Taking.{AllTaken, HasNext}
use Rattle.set_receiver.specs.Receiving.{AreLosses}
use Rattle.set_receiver.specs.Taking.{AreAllBytes}
use Rattle.set_receiver.proofs.PastLaws.{losses_read}
use Rattle.set_receiver.proofs.TakenSets.{next_read, read_more}
use Rattle.sub_base.specs.Endpoints.{Received}
use Rattle.sub_base.specs.declared.profile.Profile.{Profile}
use Rattle.sub_base.specs.Seen.{Seen}
use Rattle.sub_base.specs.ToolOutcome.{TellsTool}
use Rattle.sub_base.specs.declared.status.ToolStatus.{ToolStatus}
use Rattle.stream_report.specs.PicturesOutcome.{HasPicturesRead}
use Rattle.stream_report.specs.declared.pictures_words.PictureReport.{PictureReport}
use Rattle.stream_report.specs.declared.report_fault.ReportFault.{ReportFault}
use Rattle.stream_report.proofs.EndLaws.{answered}
use Rattle.stream_report.specs.PicturesText.{IsPicturesText, alone, end_before, ticks_of_sets, ticks_told, until_after}
use Rattle.stream_report.specs.Private.Picturing.{HasPictured, IsPictured, IsPicturedOf, IsUntilWith, Picturing, PicturesOn, PutsTicks, pictures_tell}
use Rattle.stream_report.proofs.PastLaws.{IsNextUntil, added, end_late, next_until, own_late, pictured_lost, pictured_more, pictured_nothing}

-- ---- one more set

-- the set that comes next, as it is read
record Comes (ended : Bool) (packets : List (List ℕ)) (given : List (Delivery (List ℕ)))
    (past : List (Delivery Reading)) (old new : Receiving) (at : Option ℕ) (end : SetEnd) : Type 0 where
  delivery : Delivery (List ℕ)
  one : Delivery Reading
  stands : Stands ended packets (given ++ delivery ∷ []) new
  read : AreDeliveriesRead (reverse (given ++ delivery ∷ [])) (one ∷ past)
  lifted : at ≡ lifted_time (reception old).anchor past one
  verdict : Some end ≡ verdict_of (reception old).profile (reception old).anchor past one

module _ (old new : Receiving) (at : Option ℕ) (end : SetEnd)
    (has_next : HasNext old)
    (lifts : (packets : List (List ℕ)) (ended : Bool) (given rest : List (Delivery (List ℕ)))
    (next : Delivery (List ℕ)) (past : List (Delivery Reading)) (one : Delivery Reading)
    → IsNext ended packets given next rest old → AreDeliveriesRead (reverse given) past
    → IsDeliveryRead next one → at ≡ lifted_time (reception old).anchor past one)
    (takes : (ended : Bool) (packets : List (List ℕ)) (given rest : List (Delivery (List ℕ)))
    (delivery : Delivery (List ℕ)) → IsNext ended packets given delivery rest old
    → Stands ended packets (given ++ delivery ∷ []) new)
    (answers : (ended : Bool) (packets : List (List ℕ)) (given rest : List (Delivery (List ℕ)))
    (delivery : Delivery (List ℕ)) (past : List (Delivery Reading)) (one : Delivery Reading)
    → IsNext ended packets given delivery rest old → AreDeliveriesRead (reverse given) past
    → IsDeliveryRead delivery one
    → Some end ≡ verdict_of (reception old).profile (reception old).anchor past one)
    (same : IsSame old new)
    (before mid now : Received) (was between is : Buffered) (until next : Option ℕ)
    (ahead : PutsTicks old before mid was between (end_before at until))
    (its_own : PutsTicks new mid now between is (alone at))
    (until_is : IsUntilWith new.showing.core until at end next) where
  comes : (made : Reception) (ended : Bool) (packets : List (List ℕ)) (text : List ℕ)
      (state : IsPictured made ended old until packets text) → Comes ended packets state.given state.past old new at end
  comes made ended packets text state =
      let coming = has_next ended packets state.given state.stands in
      let asked = reception old in
      let all = packets_read asked ended packets state.bytes in
      let found = next_read asked ended packets state.given coming.1 coming.0 all.0 all.1 coming.2.all in
      record {
        delivery = coming.0;
        one = found.0;
        stands = takes ended packets state.given coming.1 coming.0 coming.2;
        read = read_more state.given coming.0 state.past found.0 state.read found.1;
        lifted = lifts packets ended state.given coming.1 coming.0 state.past found.0 coming.2 state.read found.1;
        verdict = answers ended packets state.given coming.1 coming.0 state.past found.0 coming.2 state.read found.1;
      }

  -- the next end of a time-out, of the memory that has the set
  next_in : (ended : Bool) (packets : List (List ℕ)) (given : List (Delivery (List ℕ)))
      (past : List (Delivery Reading)) (time : Option ℕ) (come : Comes ended packets given past old new at end)
      → IsUntilWith new.showing.core until time end next
      → IsNextUntil (reception new).profile (reception new).anchor past come.one until time end next
  next_in ended packets given past None come is_with = is_with
  next_in ended packets given past (Some time) come is_with =
      is_with (come.one ∷ past) (come.stands.sets.holds (come.one ∷ past) come.read)

  -- a set was taken, and its texts put out, by the receiver as it is then
  set_told : (ended : Bool) (packets : List (List ℕ)) (text : List ℕ)
      → IsPictured (reception new) ended old until packets text
      → (more : List ℕ) × IsPictured (reception new) ended new next packets (text ++ more)
      × PutsOut before now was is more
  set_told ended packets text state =
      let made = reception new in
      let come = comes made ended packets text state in
      let lifted : lifted_time made.anchor state.past come.one ≡ at =
      sym (come.lifted ∙ ap (λ (one : Reception). lifted_time one.anchor state.past come.one) (sym same)) in
      let verdict : Some end ≡ verdict_of made.profile made.anchor state.past come.one =
      come.verdict ∙ (λ i. verdict_of (sym same i).profile (sym same i).anchor state.past come.one) in
      let ending = next_until made.profile made.anchor state.past come.one at until next end lifted verdict
      (next_in ended packets state.given state.past at come until_is) state.of.ends in
      let puts_end = ahead ended packets state.given state.past state.stands state.read
      (subst (λ (one : Reception). AllByRecursion
      (λ tick. unwrap_or (last_time one.anchor state.past) 0 ≤ tick) (end_before at until)) same
      (end_late made.profile made.anchor state.past come.one at until state.of.ends.late)) in
      let puts_own = its_own ended packets (state.given ++ come.delivery ∷ []) (come.one ∷ state.past) come.stands
      come.read (own_late made.profile made.anchor state.past come.one at lifted) in (
        added made.profile made.anchor state.past come.one at until,
        record {
          own = refl;
          bytes = state.bytes;
          given = state.given ++ come.delivery ∷ [];
          stands = come.stands;
          past = come.one ∷ state.past;
          read = come.read;
          of = pictured_more made.profile made.anchor state.past come.one at until next text lifted ending state.of;
        },
        PutsOut-both before mid now was between is
            (shown_text made.profile made.anchor state.past (end_before at until))
            (shown_text made.profile made.anchor (come.one ∷ state.past) (alone at))
            (subst (λ (one : Reception). PutsOut before mid was between
            (shown_text one.profile one.anchor state.past (end_before at until))) (sym same) puts_end)
            puts_own,
      )

  -- whatever the receiver is for
  pub one_told : PicturesOn before now old new until next was is
  one_told = record {
    goes = λ made ended packets text. λ state.
        let here : made ≡ reception new = sym state.own ∙ sym same in
        subst (λ (one : Reception). (more : List ℕ) × IsPictured one ended new next packets (text ++ more)
        × PutsOut before now was is more) (sym here)
        (set_told ended packets text
        (subst (λ (one : Reception). IsPictured one ended old until packets text) here state));
  }

-- ---- several sets

pub on_nothing : (shown : Received) (receiving : Receiving) (until : Option ℕ) (buffer : Buffered)
    → PicturesOn shown shown receiving receiving until until buffer buffer
on_nothing shown receiving until buffer = record {
  goes = λ made ended packets text. λ is. (
    [],
    subst (IsPictured made ended receiving until packets) (sym (append-nil text)) is,
    PutsOut-nothing shown buffer,
  );
}

pub on_both : (a b c : Received) (old mid new : Receiving) (until next last : Option ℕ) (was between is : Buffered)
    → PicturesOn a b old mid until next was between → PicturesOn b c mid new next last between is
    → PicturesOn a c old new until last was is
on_both a b c old mid new until next last was between is one other = record {
  goes = λ made ended packets text. λ state.
      let first = one.goes made ended packets text state in
      let second = other.goes made ended packets (text ++ first.0) first.1 in (
        first.0 ++ second.0,
        subst (IsPictured made ended new last packets) (append_assoc text first.0 second.0) second.1,
        PutsOut-both a b c was between is first.0 second.0 first.2 second.2,
      );
}

-- ---- packets

-- a receiver that was fed nothing
pub nothing_pictured : (receiving : Receiving) (bands : ℕ) → Stands false [] [] receiving
    → HasPictured (record { receiving = receiving; bands = bands; until = None }) [] []
nothing_pictured receiving bands stands = record {
  told = record {
    own = refl;
    bytes = All-nil AreAllBytes;
    given = [];
    stands = stands;
    past = [];
    read = tt;
    of = pictured_nothing (reception receiving).profile (reception receiving).anchor;
  };
  all = no_packets (reception receiving).profile.coded (reception receiving).pid (reception receiving).pages;
}

-- a packet that was fed
fed_told : (made : Reception) (old new : Receiving) (until : Option ℕ) (packets : List (List ℕ)) (packet text : List ℕ)
    → AreAllBytes packet → IsSame old new
    → ((fed : List (List ℕ)) (given : List (Delivery (List ℕ))) → Stands false fed given old
    → (losses : List (Delivery (List ℕ))) × AreLosses losses
    × Stands false (fed ++ packet ∷ []) (given ++ losses) new)
    → IsPictured made false old until packets text
    → IsPictured made false new until (packets ++ packet ∷ []) text
fed_told made old new until packets packet text bytes same feeds is =
    let fed = feeds packets is.given is.stands in
    let lost = losses_read fed.0 is.given is.past fed.1 is.read in
    record {
      own = same ∙ is.own;
      bytes = All-push AreAllBytes packets packet is.bytes bytes;
      given = is.given ++ fed.0;
      stands = fed.2;
      past = lost.more ++ is.past;
      read = lost.read;
      of = pictured_lost made.profile made.anchor until lost.more is.past text lost.are_lost is.of;
    }

-- with the sets that were taken then
pub packet_told : (before now : Received) (old : Picturing) (mid new : Receiving) (next : Option ℕ)
    (was is : Buffered) (place : ℕ) (packet : List ℕ) → AreAllBytes packet → IsSame old.receiving mid
    → ((fed : List (List ℕ)) (given : List (Delivery (List ℕ))) → Stands false fed given old.receiving
    → (losses : List (Delivery (List ℕ))) × AreLosses losses
    × Stands false (fed ++ packet ∷ []) (given ++ losses) mid)
    → IsSame mid new → AllTaken new → PicturesOn before now mid new old.until next was is
    → TellsOne HasPictured before now old
    (record { receiving = new; bands = old.bands; until = next }) was is place packet
packet_told before now old mid new next was is place packet bytes same feeds later all on = record {
  goes = λ packets text. λ count has.
      let made = reception old.receiving in
      let both : IsSame old.receiving new = later ∙ same in
      let fed = fed_told made old.receiving mid old.until packets packet text bytes same feeds has.told in
      let told = on.goes made false (packets ++ packet ∷ []) text fed in (
        told.0,
        record {
          told = record {
            own = refl;
            bytes = told.1.bytes;
            given = told.1.given;
            stands = told.1.stands;
            past = told.1.past;
            read = told.1.read;
            of =
                subst (λ (one : Reception). IsPicturedOf one.profile one.anchor next told.1.past (text ++ told.0))
                (sym both) told.1.of;
          };
          all = all (packets ++ packet ∷ []) false told.1.given told.1.stands;
        },
        told.2,
      );
}

-- ---- the text

-- the text of the packets, where the stream goes on
pub pictured_so_far : (picturing : Picturing) (packets : List (List ℕ)) (text : List ℕ)
    → HasPictured picturing packets text → pictures_tell picturing false packets text
pictured_so_far picturing packets text has =
    let made = reception picturing.receiving in
    record {
      past = has.told.past;
      received =
          subst (λ (all : List (Delivery (List ℕ))). AreDeliveriesRead (reverse all) has.told.past) (sym has.all)
          has.told.read;
      whole = has.told.of.whole
          ∙ ap (shown_text made.profile made.anchor has.told.past)
          (sym (append-nil (ticks_of_sets made.profile made.anchor has.told.past)));
    }

-- the last time-out ends no earlier than the last kept set
last_late : (profile : Profile) (anchor : ℕ) (until : Option ℕ) (past : List (Delivery Reading)) (text : List ℕ)
    → IsPicturedOf profile anchor until past text
    → AllByRecursion (λ tick. unwrap_or (last_time anchor past) 0 ≤ tick) (alone until)
last_late profile anchor None past text of = tt
last_late profile anchor (Some until) past text of = (of.ends.late, tt)

-- the text with the end of the last time-out
whole_text : (profile : Profile) (anchor : ℕ) (until : Option ℕ) (past : List (Delivery Reading)) (text : List ℕ)
    → IsPicturedOf profile anchor until past text
    → text ++ shown_text profile anchor past (alone until)
    ≡ shown_text profile anchor past (ticks_told profile anchor true past)
whole_text profile anchor until past text of =
    (λ i. of.whole i ++ shown_text profile anchor past (alone (of.ends.at_end i)))
    ∙ sym (flat_map-append (λ (tick : ℕ). view_text tick (view_at profile anchor tick past))
    (ticks_of_sets profile anchor past) (alone (until_after profile anchor past)))

-- the text of the packets, where the stream has ended with them
pub pictured_whole : (before mid now : Received) (old : Picturing) (fed new : Receiving) (next : Option ℕ)
    (was between is : Buffered)
    → ((packets : List (List ℕ)) (given : List (Delivery (List ℕ))) → Stands false packets given old.receiving
    → Stands true packets given fed)
    → IsSame old.receiving fed → PicturesOn before mid fed new old.until next was between → IsSame fed new
    → AllTaken new → PutsTicks new mid now between is (alone next)
    → (packets : List (List ℕ)) (text : List ℕ) → HasPictured old packets text
    → (more : List ℕ) × pictures_tell old true packets (text ++ more) × PutsOut before now was is more
pictured_whole before mid now old fed new next was between is finishes same on later all puts packets text has =
    let made = reception old.receiving in
    let both : IsSame old.receiving new = later ∙ same in
    let ended : IsPictured made true fed old.until packets text = record {
      own = same;
      bytes = has.told.bytes;
      given = has.told.given;
      stands = finishes packets has.told.given has.told.stands;
      past = has.told.past;
      read = has.told.read;
      of = has.told.of;
    } in
    let told = on.goes made true packets text ended in
    let state = told.1 in
    let last = shown_text made.profile made.anchor state.past (alone next) in (
      told.0 ++ last,
      record {
        past = state.past;
        received =
            subst (λ (one : Reception). AreDeliveriesRead (reverse (sets_received one true packets)) state.past) both
            (subst (λ (deliveries : List (Delivery (List ℕ))). AreDeliveriesRead (reverse deliveries) state.past)
            (sym (all packets true state.given state.stands)) state.read);
        whole =
            sym (append_assoc text told.0 last)
            ∙ whole_text made.profile made.anchor next state.past (text ++ told.0) state.of;
      },
      PutsOut-both before mid now was between is told.0 last told.2
          (subst (λ (one : Reception). PutsOut mid now between is
          (shown_text one.profile one.anchor state.past (alone next))) both
          (puts true packets state.given state.past state.stands state.read
          (last_late (reception new).profile (reception new).anchor next state.past (text ++ told.0)
          (subst (λ (one : Reception). IsPicturedOf one.profile one.anchor next state.past (text ++ told.0))
          (sym both) state.of)))),
    )

-- what a receiver at work tells is what it was made for
pub tells_as_made : (made : Reception) (picturing : Picturing) (ended : Bool) (packets : List (List ℕ))
    (text : List ℕ) → reception picturing.receiving ≡ made → pictures_tell picturing ended packets text
    → IsPicturesText made ended packets text
tells_as_made made picturing ended packets text same is =
    subst (λ (one : Reception). IsPicturesText one ended packets text) same is

-- ---- the answer

-- what holds of the status of a run holds of the answer of the tool
pub pictures_answered : (asked : Option PictureReport) (before now : Seen) (name : ReportFault → List ℕ)
    (notes_before notes_now : Received) (run answer : ToolStatus ReportFault) → HasPicturesRead asked before now run
    → TellsTool name notes_before notes_now run answer → HasPicturesRead asked before now answer
pictures_answered None before now name notes_before notes_now run answer held tells = tt
pictures_answered (Some report) before now name notes_before notes_now run answer held tells =
    answered (HasPicturesRead (Some report) before now) name notes_before notes_now run answer tt held tells
