-- The lines of the segments of a field.
use Rattle.std.proofs.Math.Seq.{take-length}
use Rattle.std.proofs.Common.{◌≡◌, ℕ, ◌+◌, List, [], ◌∷◌, ◌++◌, length, take, append-nil, append_assoc, refl, sym, ap, subst, ◌∙◌}
use Rattle.stream_syntax.specs.Pes.{IsPes}
use Rattle.stream_syntax.specs.Segments.{IsSegment, SegmentValue}
use Rattle.stream_syntax.specs.Tests.{byte_at, word_at}
use Rattle.stream_syntax.specs.declared.segment_fault.SegmentFault.{SegmentFault}
use Rattle.stream_syntax.specs.DataField.{Frame, broken, frames_of}
use Rattle.stream_syntax.proofs.FrameLaws.{frames_are}
use Rattle.segments.specs.declared.frame.Frame.{Frame as FrameOfBytes}
use Rattle.segments.specs.Framing.{IsFrameOf, IsFirstFrame}
use Rattle.segments.proofs.Framing.{body_size}
use Rattle.list_text.specs.ListLines.{segment_line, fault_line, unit_line}
use Rattle.list_text.specs.ListText.{IsSegmentLine, valid, AreFrameLines, AreSegmentLines, none_left, cut_line, line_first, AreUnitLines, of_subtitles}
use Rattle.command_text.specs.Putting.{Buffered, PutsOut}
use Rattle.sub_base.specs.Endpoints.{Received}
use Rattle.command_text.proofs.PutLaws.{PutsOut-nothing, PutsOut-both}

-- a segment that was read has the line of its head
pub valid_line : (place : ℕ) (frame : FrameOfBytes) (bytes line : List ℕ) (value : SegmentValue)
    → IsFrameOf bytes frame → frame.whole ≡ length bytes → IsSegment (take frame.whole bytes) value
    → line ≡ segment_line place frame.kind frame.page (length frame.body.now) → IsSegmentLine place bytes line
valid_line place frame bytes line value framed exact is line_is =
    valid value
    (subst (λ (front : List ℕ). IsSegment front value) (ap (λ n. take n bytes) exact ∙ take-length bytes) is)
    (line_is ∙
    (ap (λ (k : ℕ). segment_line place k frame.page (length frame.body.now)) framed.kind_is
    ∙ (ap (λ (p : ℕ). segment_line place (byte_at 1 bytes) p (length frame.body.now)) framed.page_is
    ∙ ap (λ (n : ℕ). segment_line place (byte_at 1 bytes) (word_at 2 bytes) n) (body_size bytes frame framed))))

-- the lines so far, and those of the frames that are left, are those of all frames
pub record AreLinesSoFar (before now : Received) (old new : Buffered) (place : ℕ)
    (left all : List Frame) : Type 0 where
  pub lines : List ℕ
  pub puts : PutsOut before now old new lines
  pub leads : (others : List ℕ) → AreFrameLines place left others → AreFrameLines 2 all (lines ++ others)

pub no_lines : (shown : Received) (buffer : Buffered) (left all : List Frame) → left ≡ all
    → AreLinesSoFar shown shown buffer buffer 2 left all
no_lines shown buffer left all is = record {
  lines = [];
  puts = PutsOut-nothing shown buffer;
  leads = λ others. λ are. subst (λ (frames : List Frame). AreFrameLines 2 frames others) is are;
}

-- one line more
pub line_more : (before now next : Received) (old mid new : Buffered) (place : ℕ) (left behind all : List Frame)
    (line : List ℕ) (frame : FrameOfBytes) → AreLinesSoFar before now old mid place left all
    → (first : IsFirstFrame left behind frame) → IsSegmentLine place first.bytes line
    → PutsOut now next mid new line
    → AreLinesSoFar before next old new (place + frame.whole) behind all
line_more before now next old mid new place left behind all line frame told first is puts = record {
  lines = told.lines ++ line;
  puts = PutsOut-both before now next old mid new told.lines line told.puts puts;
  leads = λ others. λ are.
      let rest : AreFrameLines (place + length first.bytes) behind others =
      subst (λ (n : ℕ). AreFrameLines (place + n) behind others) first.exact are in
      let here : AreFrameLines place left (line ++ others) =
      subst (λ (frames : List Frame). AreFrameLines place frames (line ++ others)) (sym first.first)
      (line_first line others is rest refl) in
      subst (λ (text : List ℕ). AreFrameLines 2 all text) (sym (append_assoc told.lines line others))
      (told.leads (line ++ others) here);
}

-- the segments have ended
pub lines_ended : (before now : Received) (old new : Buffered) (place : ℕ) (segments : List ℕ) (left : List Frame)
    → AreLinesSoFar before now old new place left (frames_of segments) → left ≡ []
    → (lines : List ℕ) × AreSegmentLines 2 segments lines × PutsOut before now old new lines
lines_ended before now old new place segments left told none =
    let rest : AreFrameLines place left [] =
    subst (λ (frames : List Frame). AreFrameLines place frames []) (sym none) (none_left refl) in (
      told.lines,
      subst (λ (text : List ℕ). AreSegmentLines 2 segments text) (append-nil told.lines)
          (record { frames = frames_of segments; stand = frames_are segments; told = told.leads [] rest }),
      told.puts,
    )

-- a segment has no frame
pub lines_broken : (before now next : Received) (old mid new : Buffered) (place : ℕ) (segments line : List ℕ)
    (left : List Frame) (fault : SegmentFault) → AreLinesSoFar before now old mid place left (frames_of segments)
    → left ≡ broken fault ∷ [] → line ≡ fault_line place fault → PutsOut now next mid new line
    → (lines : List ℕ) × AreSegmentLines 2 segments lines × PutsOut before next old new lines
lines_broken before now next old mid new place segments line left fault told is line_is puts =
    let rest : AreFrameLines place left line =
    subst (λ (frames : List Frame). AreFrameLines place frames line) (sym is) (cut_line line_is) in (
      told.lines ++ line,
      record { frames = frames_of segments; stand = frames_are segments; told = told.leads line rest },
      PutsOut-both before now next old mid new told.lines line told.puts puts,
    )

-- a unit that is a PES packet of subtitles: its line, and those of its segments
pub unit_lines : (before now next : Received) (old mid new : Buffered) (place pts : ℕ)
    (unit segments line : List ℕ) → IsPes unit pts segments → line ≡ unit_line place pts (length unit)
    → PutsOut before now old mid line
    → (rest : List ℕ) × AreSegmentLines 2 segments rest × PutsOut now next mid new rest
    → (lines : List ℕ) × AreUnitLines place unit lines × PutsOut before next old new lines
unit_lines before now next old mid new place pts unit segments line pes line_is puts rest = (
  line ++ rest.0,
  of_subtitles pts segments rest.0 pes rest.1 (ap (λ (head : List ℕ). head ++ rest.0) line_is),
  PutsOut-both before now next old mid new line rest.0 puts rest.2,
)
