-- The cause of the status of `pairdump`, by the end of its telling of the stream.
use Rattle.std.proofs.Common.{◌≡◌, ℕ, ◌<◌, inl, inr, false, List, [], ◌∷◌, length, map, Option, refl, sym, subst, arith}
use Rattle.std.proofs.Math.Seq.{take-length}
use Rattle.std.specs.Io.KnownBytes.{Appends}
use Rattle.sub_base.specs.Endpoints.{AppendsPrefix, Received, Supplied}
use Rattle.sub_base.specs.Number.{number_of}
use Rattle.sub_base.specs.Seen.{seen}
use Rattle.sub_base.specs.ToolOutcome.{IsToolCause}
use Rattle.sub_base.specs.declared.status.ToolStatus.{ToolStatus}
use Rattle.command_words.proofs.TickLaws.{at_most_latest}
use Rattle.command_words.specs.Ticks.{tick_or_zero}
use Rattle.dump_text.specs.DumpText.{anchor_of}
use Rattle.packet_walk.specs.ToldEnds.{IsFront, IsToldEnd, IsUpToFailure}
use Rattle.packet_walk.specs.declared.told_end.ToldEnd.{ToldEnd}
use Rattle.packet_walk.specs.declared.told_end.ToldEnd.TheVariants as told_end
use Rattle.page_pair.specs.PairDump.{HasDumpedRead, dump_causes, dump_status, tells_pair}
use Rattle.page_pair.specs.declared.pair_dump.PairDump.{PairDump}
use Rattle.page_pair.specs.declared.pair_fault.PairFault.{PairFault}

-- lifted times begin below 2 to the 34
pub early_anchor : (words : List (List ℕ)) → anchor_of (map tick_or_zero words) < 17179869184
early_anchor [] = omega arith
early_anchor (word ∷ words) = omega (arith, at_most_latest word (number_of 11 word) refl)

whole_prefix : (old new : Option (List ℕ)) (bytes : List ℕ) → Appends old new bytes → AppendsPrefix old new bytes
whole_prefix old new bytes whole =
    (length bytes, omega arith, subst (λ (l : List ℕ). Appends old new l) (sym (take-length bytes)) whole)

module _ (dump : PairDump) (ticks : List ℕ) (before now second : Supplied) (start next : Received) where
  -- the texts of the packets that were read whole are a prefix
  unread_front : IsUpToFailure (tells_pair dump ticks) dump.pid before now start next
      → IsFront (tells_pair dump ticks) dump.pid before now start next
  unread_front is =
      record {
        packets = is.packets;
        rest = is.rest;
        taken = is.taken;
        ended = false;
        at_end = λ e. absurd (cc);
        text = is.text;
        told = is.told;
        written = whole_prefix start.written next.written is.text is.written;
      }

  of_end : (end : ToldEnd) → IsToldEnd (tells_pair dump ticks) dump.pid before now start next end
      → IsToolCause (dump_causes ticks dump (seen before second start) (seen now second next))
      (seen before second start) (seen now second next) (dump_status end)
  of_end (told_end.Done cut) h = ((cut, h), refl)
  of_end (told_end.Refused refused) h = (h, refl)
  of_end told_end.Unread h = (h.0, (inr (unread_front h.1), refl))
  of_end told_end.TooLong h = (h.0, (inr h.1, refl))
  of_end told_end.Unwritten h = (h.0, (inr h.1, refl))
  of_end told_end.Memory h = (inl h.1, refl)

  pub dump_cause : (end : ToldEnd) (status : ToolStatus PairFault) → status ≡ dump_status end
      → IsToldEnd (tells_pair dump ticks) dump.pid before now start next end
      → IsToolCause (dump_causes ticks dump (seen before second start) (seen now second next))
      (seen before second start) (seen now second next) status
  dump_cause end status is h =
      subst (IsToolCause (dump_causes ticks dump (seen before second start) (seen now second next))
      (seen before second start) (seen now second next)) (sym is) (of_end end h)

  told_at : (end : ToldEnd) → IsToldEnd (tells_pair dump ticks) dump.pid before now start next end
      → HasDumpedRead ticks dump (seen before second start) (seen now second next) (dump_status end)
  told_at (told_end.Done cut) h = tt
  told_at (told_end.Refused refused) h = tt
  told_at told_end.Unread h = h.1
  told_at told_end.TooLong h = tt
  told_at told_end.Unwritten h = tt
  told_at told_end.Memory h = h

  pub dump_told : (end : ToldEnd) (status : ToolStatus PairFault) → status ≡ dump_status end
      → IsToldEnd (tells_pair dump ticks) dump.pid before now start next end
      → HasDumpedRead ticks dump (seen before second start) (seen now second next) status
  dump_told end status is h =
      subst (HasDumpedRead ticks dump (seen before second start) (seen now second next)) (sym is) (told_at end h)
