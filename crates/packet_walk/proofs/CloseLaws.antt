-- The end of a walk over a stream, with the text that waits.
use Rattle.std.proofs.Common.{◌≡◌, ℕ, ◌≤◌, ◌⊎◌, inl, inr, Bool, true, false, List, [], ◌++◌, length, take, Option, append-nil, length-append, refl, sym, ap, subst, ◌∙◌, arith}
use Rattle.std.specs.Io.KnownBytes.{Appends, IsAtEnd}
use Rattle.std.proofs.Math.Seq.{take-append_seam}
use Rattle.sub_base.specs.Counts.{HasRisen, counted}
use Rattle.sub_base.specs.Endpoints.{AppendsPrefix}
use Rattle.packet_source.specs.Packets.{Gave, IsWithin, stream_length}
use Rattle.packet_source.specs.declared.limits.TheConstants.{STREAM_LIMIT}
use Rattle.packet_source.specs.declared.stream_end.StreamEnd.TheVariants as stream
use Rattle.packet_walk.specs.ToldEnds.{IsToldEnd, IsFront, Telling}
use Rattle.packet_walk.specs.Walking.{IsToldFrom}
use Rattle.packet_walk.specs.declared.walk.Refused.{Refused}
use Rattle.packet_walk.specs.declared.walk.WalkEnd.{WalkEnd}
use Rattle.packet_walk.specs.declared.walk.WalkEnd.TheVariants as end
use Rattle.command_text.specs.Putting.{Buffered, IsPutOut, PutsOut}
use Rattle.sub_base.specs.Endpoints.{Supplied, Received}
use Rattle.command_text.specs.Putting.{Sent}
use Rattle.packet_walk.specs.Closing.{ClosesWalk, ClosesEnd, HasEnded}
use Rattle.packet_walk.specs.declared.told_end.ToldEnd.{ToldEnd}
use Rattle.packet_walk.specs.declared.told_end.ToldEnd.TheVariants as told_end

-- what was written of a text that is put out is a prefix of it
sent_front : (start now : Option (List ℕ)) (waits text : List ℕ) → Sent start now waits text
    → AppendsPrefix start now text
sent_front start now waits text sent =
    let count : length sent.written ≤ length text =
    omega (arith, ap (λ (l : List ℕ). length l) sent.whole, length-append sent.written waits) in
    let front : take (length sent.written) text ≡ sent.written =
    ap (λ (l : List ℕ). take (length sent.written) l) (sym sent.whole) ∙ take-append_seam sent.written waits in
    (length sent.written, count, subst (λ (l : List ℕ). Appends start now l) (sym front) sent.appended)

put_front : (start now : Received) (buffer : Buffered) (text : List ℕ) (failed : Bool) → failed ≡ buffer.failed
    → IsPutOut start now buffer text → AppendsPrefix start.written now.written text
put_front start now buffer text true is out = (out.front (sym is)).0
put_front start now buffer text false is out =
    sent_front start.written now.written buffer.waits text (out.sent (sym is))

-- a stream that goes on adds nothing for its end
goes_on : (now : Supplied) → false ≡ true → IsAtEnd now.left
goes_on now ended = absurd (clash ended)
  where
    clash : false ≡ true → ⊥
    clash never = cc

-- a prefix of what was told was written
told_front : (Told : Telling) (is_end : Bool) (pid : ℕ) (before now : Supplied) (start out : Received)
    (buffer : Buffered) (packets : List (List ℕ)) (rest : List ℕ) → (is_end ≡ true → IsAtEnd now.left)
    → IsToldFrom (Told is_end) pid before now start out buffer packets rest → IsFront Told pid before now start out
told_front Told is_end pid before now start out buffer packets rest at_end told =
    record {
      packets = packets;
      rest = rest;
      taken = told.taken;
      ended = is_end;
      at_end = at_end;
      text = told.text;
      told = told.told;
      written = put_front start out buffer told.text buffer.failed refl told.put_out;
    }

-- the source gave at most its limit
at_most : (start had now limit : ℕ) → had ≤ limit → now ≡ counted start had → now ≤ counted start limit
at_most start had now limit within given = grind arith

given_at_most : (before now : Supplied) (packets : List (List ℕ)) (rest : List ℕ) → Gave before now packets rest
    → IsWithin packets rest → now.given ≤ counted before.given STREAM_LIMIT
given_at_most before now packets rest gave within =
    at_most before.given (stream_length packets rest) now.given STREAM_LIMIT within gave.count

-- the sink failed
pub closed_failed : (before now : Received) (old new : Buffered) (run : ToldEnd) → PutsOut before now old new []
    → new.failed ≡ true → ClosesWalk before now old run told_end.Unwritten
closed_failed before now old new run puts failed = λ start text. λ out.
    let ended : IsPutOut start now new (text ++ []) = puts.extends start text out in
    let front = ended.front failed in
    inr (refl, subst (λ (l : List ℕ). AppendsPrefix start.written now.written l) (append-nil text) front.0, front.1)

-- a write fault where the text was told
write_fault : (Told : Telling) (is_end : Bool) (pid : ℕ) (before now : Supplied) (start out next : Received)
    (buffer : Buffered) (packets : List (List ℕ)) (rest : List ℕ) → (is_end ≡ true → IsAtEnd now.left)
    → (told : IsToldFrom (Told is_end) pid before now start out buffer packets rest) → IsWithin packets rest
    → AppendsPrefix start.written next.written told.text → HasRisen start.faults next.faults
    → IsToldEnd Told pid before now start next told_end.Unwritten
write_fault Told is_end pid before now start out next buffer packets rest at_end told within front risen = (
  risen,
  record {
    packets = packets;
    rest = rest;
    taken = told.taken;
    ended = is_end;
    at_end = at_end;
    text = told.text;
    told = told.told;
    written = front;
  },
  given_at_most before now packets rest told.taken.gave within,
)

ended_whole : (Told : Telling) (pid : ℕ) (before now : Supplied) (start out next : Received) (buffer : Buffered)
    (cut : ℕ) (answer : ToldEnd) → HasEnded Told pid before now start out buffer (end.Stream (stream.Whole cut))
    → ClosesWalk out next buffer (told_end.Done cut) answer
    → IsToldEnd Told pid before now start next answer
ended_whole Told pid before now start out next buffer cut answer ended closes =
    by_close (closes start ended.2.text ended.2.put_out)
  where
    by_close : ((answer ≡ told_end.Done cut) × Appends start.written next.written ended.2.text)
        ⊎ ((answer ≡ told_end.Unwritten) × AppendsPrefix start.written next.written ended.2.text
        × HasRisen start.faults next.faults)
        → IsToldEnd Told pid before now start next answer
    by_close (inl whole) =
        subst (λ (s : ToldEnd). IsToldEnd Told pid before now start next s) (sym whole.0) (record {
          packets = ended.0;
          rest = ended.1;
          taken = ended.2.taken;
          within = ended.3;
          end = ended.6;
          short = ended.4;
          cut_is = ended.5;
          text = ended.2.text;
          told = ended.2.told;
          written = whole.1;
        })
    by_close (inr front) =
        subst (λ (s : ToldEnd). IsToldEnd Told pid before now start next s) (sym front.0)
        (write_fault Told true pid before now start out next buffer ended.0 ended.1 (λ _. ended.6) ended.2 ended.3
        front.1 front.2)

ended_refused : (Told : Telling) (pid : ℕ) (before now : Supplied) (start out next : Received) (buffer : Buffered)
    (refused : Refused) (answer : ToldEnd) → HasEnded Told pid before now start out buffer (end.Refused refused)
    → ClosesWalk out next buffer (told_end.Refused refused) answer
    → IsToldEnd Told pid before now start next answer
ended_refused Told pid before now start out next buffer refused answer ended closes =
    by_close (closes start ended.3.text ended.3.put_out)
  where
    by_close : ((answer ≡ told_end.Refused refused)
        × Appends start.written next.written ended.3.text)
        ⊎ ((answer ≡ told_end.Unwritten) × AppendsPrefix start.written next.written ended.3.text
        × HasRisen start.faults next.faults)
        → IsToldEnd Told pid before now start next answer
    by_close (inl whole) =
        subst (λ (s : ToldEnd). IsToldEnd Told pid before now start next s) (sym whole.0) (record {
          packets = ended.0;
          refused = ended.1;
          rest = ended.2;
          taken = ended.3.taken;
          within = ended.4;
          whole = ended.5;
          place_is = ended.6;
          fault_is = ended.7;
          text = ended.3.text;
          told = ended.3.told;
          written = whole.1;
        })
    by_close (inr front) =
        subst (λ (s : ToldEnd). IsToldEnd Told pid before now start next s) (sym front.0)
        (write_fault Told false pid before now start out next buffer ended.0 (ended.1 ++ ended.2) (goes_on now) ended.3
        ended.4 front.1 front.2)

ended_unread : (Told : Telling) (pid : ℕ) (before now : Supplied) (start out next : Received) (buffer : Buffered)
    (answer : ToldEnd) → HasEnded Told pid before now start out buffer (end.Stream stream.Unread)
    → ClosesWalk out next buffer told_end.Unread answer
    → IsToldEnd Told pid before now start next answer
ended_unread Told pid before now start out next buffer answer ended closes =
    by_close (closes start ended.2.text ended.2.put_out)
  where
    by_close : ((answer ≡ told_end.Unread) × Appends start.written next.written ended.2.text)
        ⊎ ((answer ≡ told_end.Unwritten) × AppendsPrefix start.written next.written ended.2.text
        × HasRisen start.faults next.faults)
        → IsToldEnd Told pid before now start next answer
    by_close (inl whole) = subst (λ (s : ToldEnd). IsToldEnd Told pid before now start next s) (sym whole.0) (
      ended.5,
      record {
        packets = ended.0;
        rest = ended.1;
        taken = ended.2.taken;
        within = ended.3;
        short = ended.4;
        text = ended.2.text;
        told = ended.2.told;
        written = whole.1;
      },
    )
    by_close (inr front) =
        subst (λ (s : ToldEnd). IsToldEnd Told pid before now start next s) (sym front.0)
        (write_fault Told false pid before now start out next buffer ended.0 ended.1 (goes_on now) ended.2 ended.3
        front.1 front.2)

ended_unwritten : (Told : Telling) (pid : ℕ) (before now : Supplied) (start out : Received) (buffer : Buffered)
    → HasEnded Told pid before now start out buffer end.Unwritten
    → IsToldEnd Told pid before now start out told_end.Unwritten
ended_unwritten Told pid before now start out buffer ended =
    let front = ended.2.put_out.front ended.4 in
    write_fault Told false pid before now start out out buffer ended.0 ended.1 (goes_on now) ended.2 ended.3 front.0
    front.1

ended_too_long : (Told : Telling) (pid : ℕ) (before now : Supplied) (start out : Received) (buffer : Buffered)
    → HasEnded Told pid before now start out buffer (end.Stream stream.TooLong)
    → IsToldEnd Told pid before now start out told_end.TooLong
ended_too_long Told pid before now start out buffer ended =
    (ended.3, told_front Told false pid before now start out buffer ended.0 ended.1 (goes_on now) ended.2)

-- what a command answers has its cause in the end of its walk
pub closed : (Told : Telling) (pid : ℕ) (before now : Supplied) (start out next : Received) (buffer : Buffered)
    (ended : WalkEnd) (answer : ToldEnd) → HasEnded Told pid before now start out buffer ended
    → ClosesEnd out next buffer ended answer → IsToldEnd Told pid before now start next answer
closed Told pid before now start out next buffer (end.Stream (stream.Whole cut)) answer has closes =
    ended_whole Told pid before now start out next buffer cut answer has closes
closed Told pid before now start out next buffer (end.Stream stream.Unread) answer has closes =
    ended_unread Told pid before now start out next buffer answer has closes
closed Told pid before now start out next buffer (end.Stream stream.TooLong) answer has closes =
    subst (λ (s : ToldEnd). IsToldEnd Told pid before now start next s) (sym closes.0)
    (subst (λ (shown : Received). IsToldEnd Told pid before now start shown told_end.TooLong)
    (sym closes.1) (ended_too_long Told pid before now start out buffer has))
closed Told pid before now start out next buffer (end.Refused refused) answer has closes =
    ended_refused Told pid before now start out next buffer refused answer has closes
closed Told pid before now start out next buffer end.Unwritten answer has closes =
    subst (λ (s : ToldEnd). IsToldEnd Told pid before now start next s) (sym closes.0)
    (subst (λ (shown : Received). IsToldEnd Told pid before now start shown told_end.Unwritten)
    (sym closes.1) (ended_unwritten Told pid before now start out buffer has))
