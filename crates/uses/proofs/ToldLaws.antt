-- The text that is told of the packets of a script is that of what is shown of it.
use Rattle.std.proofs.Common.{◌≡◌, ◌∙◌, ℕ, ◌+◌, ◌-◌, ◌≤◌, true, List, [], ◌∷◌, ◌++◌, reverse, Option, Some, append-nil, sym, ap, subst, arith}
use Rattle.std.specs.List.{concat}
use Rattle.std.specs.Io.KnownBytes.{Appends}
use Rattle.cue_records.specs.declared.limits.TheConstants.{LONGEST_SCRIPT}
use Rattle.cue_list.specs.declared.script.Script.{Script}
use Rattle.decoder_model.specs.Frames.{only}
use Rattle.decoder_model.specs.Readings.{Reading}
use Rattle.decoder_model.specs.Received.{HasReceived, for_page, sets_received}
use Rattle.decoder_model.specs.Sets.{Delivery}
use Rattle.decoder_model.specs.Shown.{view_at}
use Rattle.dump_text.specs.DumpText.{IsDumpText, anchor_of, view_text, asked_for}
use Rattle.packet_source.proofs.JoinedPackets.{one_stream}
use Rattle.packet_walk.specs.ToldEnds.{IsToldEnd, IsWhole}
use Rattle.packet_walk.specs.declared.told_end.ToldEnd.{ToldEnd}
use Rattle.packet_walk.specs.declared.told_end.ToldEnd.TheVariants as told_end
use Rattle.reading_laws.proofs.OneReading.{same_past}
use Rattle.script_stream.specs.SentScripts.{IsSentFor, SentScript, stream_bytes}
use Rattle.script_stream.specs.ShownRightly.{IsShownRightly}
use Rattle.shown_stream.specs.Compiled.{compiling_for}
use Rattle.sub_base.specs.Endpoints.{Received}
use Rattle.sub_base.specs.Profile.{profile_of}
use Rattle.sub_base.specs.declared.profile.ProfileName.TheVariants.{Sd}
use Rattle.uses.specs.ToldPicture.{IsDone, TellsPicture}

module _ (script : Script) (tick : ℕ) (sent : SentScript) (of : IsSentFor (compiling_for Sd 256 1 script) sent)
    (shown : IsShownRightly (compiling_for Sd 256 1 script) sent.sets sent.loads sent.table (stream_bytes sent))
    (late : script.origin ≤ tick) (early : tick ≤ script.origin + LONGEST_SCRIPT) where
  -- the text of packets that are those of the script
  told_text : (packets : List (List ℕ)) (text : List ℕ) → packets ≡ shown.packets
      → (told : IsDumpText (asked_for (profile_of Sd) 256 (only 1) (tick ∷ [])) (tick ∷ []) true packets text)
      → (before now : Option (List ℕ)) → Appends before now text → TellsPicture script tick before now
  told_text packets text same told before now written =
      let anchor = anchor_of (tick ∷ []) in
      let suits = shown.first_suits 0 anchor (omega (arith, late, early)) (omega (arith, late, early)) in
      let here = (shown.entered 0).shown anchor suits tick in
      let received : HasReceived (for_page Sd 256 1 anchor) true shown.packets told.past =
      subst (λ (all : List (List ℕ)). HasReceived (for_page Sd 256 1 anchor) true all told.past) same
      told.received in
      let past : told.past ≡ here.is_shown.past =
      same_past (reverse (sets_received (for_page Sd 256 1 anchor) true shown.packets)) told.past
      here.is_shown.past received here.is_shown.received in
      let text_is : text ≡ view_text tick here.shown =
      told.whole
      ∙ append-nil (view_text tick (view_at (profile_of Sd) anchor tick told.past))
      ∙ ap (λ (all : List (Delivery Reading)). view_text tick (view_at (profile_of Sd) anchor tick all)) past
      ∙ ap (view_text tick) (sym here.is_shown.is_view) in
      record {
        sent = sent;
        is_sent = of;
        shown = here.shown;
        from = here.from_entry;
        written = subst (Appends before now) text_is written;
      }

  -- a source in memory that had the script's packets was read to its end
  whole_told : (cut : ℕ) (bytes left : List ℕ) (given faults given_now faults_now : ℕ) (start next : Received)
      → bytes ≡ stream_bytes sent
      → IsWhole (IsDumpText (asked_for (profile_of Sd) 256 (only 1) (tick ∷ [])) (tick ∷ [])) 256
      (record { left = Some bytes; given = given; faults = faults })
      (record { left = Some left; given = given_now; faults = faults_now }) start next cut
      → TellsPicture script tick start.written next.written
  whole_told cut bytes left given faults given_now faults_now start next are is =
      let read : concat is.packets ++ is.rest ≡ concat shown.packets =
      sym (append-nil (concat is.packets ++ is.rest))
      ∙ ap (λ (end : List ℕ). (concat is.packets ++ is.rest) ++ end) (sym is.end)
      ∙ sym is.taken.gave.bytes ∙ are ∙ shown.joined in
      let same = one_stream is.packets shown.packets is.rest is.taken.gave.each shown.whole is.short read in
      told_text is.packets is.text same is.told start.written next.written is.written

  -- so it is with the end of its telling
  pub told_picture : (end : ToldEnd) (bytes left : List ℕ) (given faults given_now faults_now : ℕ)
      (start next : Received) → IsDone end → bytes ≡ stream_bytes sent
      → IsToldEnd (IsDumpText (asked_for (profile_of Sd) 256 (only 1) (tick ∷ [])) (tick ∷ [])) 256
      (record { left = Some bytes; given = given; faults = faults })
      (record { left = Some left; given = given_now; faults = faults_now }) start next end
      → TellsPicture script tick start.written next.written
  told_picture (told_end.Done cut) bytes left given faults given_now faults_now start next done are is =
      whole_told cut bytes left given faults given_now faults_now start next are is
  told_picture (told_end.Refused refused) bytes left given faults given_now faults_now start next done are is =
      absurd done
  told_picture told_end.Unread bytes left given faults given_now faults_now start next done are is = absurd done
  told_picture told_end.TooLong bytes left given faults given_now faults_now start next done are is = absurd done
  told_picture told_end.Unwritten bytes left given faults given_now faults_now start next done are is = absurd done
  told_picture told_end.Memory bytes left given faults given_now faults_now start next done are is = absurd done
