-- What reads do to a run: bytes cut into pieces, which go in.
use Rattle.std.proofs.Common.{◌≡◌, ◌∙◌, refl, sym, ap, subst, ℕ, ◌+◌, ◌-◌, ◌<◌, ◌≤◌, ◌==◌, true, false, List, [], ◌∷◌, ◌++◌, length, take, drop, Result, Ok, Err, arith, append_assoc, append-nil, length-append}
use Rattle.std.proofs.KnownBytes.{Consumes-kept, Consumes-nil, Consumes-trans}
use Rattle.std.proofs.lemmas.Bool.Decides.{nat_tests}
use Rattle.std.proofs.lemmas.List.{drop-drop}
use Rattle.std.specs.Io.KnownBytes.{Consumes, IsAtEnd, Keeps}
use Rattle.script_input.specs.ReadScript.{text_limit}
use Rattle.sub_base.proofs.TransferSteps.{Consumes-none, HasRisen-since, HasRisenPast-since, counted-more, given-none}
use Rattle.sub_base.specs.Counts.{HasRisen, counted}
use Rattle.sub_base.specs.Endpoints.{Received, Supplied}
use Rattle.live_plan.proofs.PieceLaws.{pieces-append}
use Rattle.live_plan.proofs.RunLaws.{fresh_paid, go_on_anew, wanting}
use Rattle.live_plan.specs.Pieces.{Pieces, all_pieces, pieces_behind, pieces_of, put_first, rest_only, with_rest}
use Rattle.live_plan.specs.Private.Cutting.{IsEnded, put_all}
use Rattle.live_plan.specs.Private.Running.{Begun, IsFresh, IsHalted, IsPaid, IsPieceEnd, begun_of}
use Rattle.live_plan.specs.Private.RunningReads.{AllAreTaken, AreTaken, HasReadAll, IsCutShort, IsNonePut, IsOnePut, IsReadStop, IsRestTaken, pieces_ahead}
use Rattle.live_plan.specs.declared.run.Run.{Run}
use Rattle.live_plan.specs.declared.run.Stop.{Stop}
use Rattle.live_plan.specs.declared.run.Stop.TheVariants as stop

-- ---- pieces ahead

-- whole pieces before others
with_rest-append : (first second : List (List ℕ)) (rest : List ℕ)
    → with_rest (first ++ second) rest ≡ first ++ with_rest second rest
with_rest-append first second [] = refl
with_rest-append first second (byte ∷ rest) = append_assoc first second ((byte ∷ rest) ∷ [])

-- all pieces, where the first of them are given
ahead-put_all : (front bytes : List ℕ) (first : List (List ℕ)) (pieces : Pieces)
    → pieces_behind front bytes ≡ put_all first pieces
    → pieces_ahead front bytes ≡ first ++ with_rest pieces.whole pieces.rest
ahead-put_all front bytes first pieces is =
    ap (λ (all : Pieces). with_rest all.whole all.rest) is ∙ with_rest-append first pieces.whole pieces.rest

ahead-put_first : (front bytes piece : List ℕ) (pieces : Pieces) → pieces_behind front bytes ≡ put_first piece pieces
    → pieces_ahead front bytes ≡ piece ∷ with_rest pieces.whole pieces.rest
ahead-put_first front bytes piece pieces is = ahead-put_all front bytes (piece ∷ []) pieces is

-- the pieces of a text that was read further
pub all_pieces-append : (text last : List ℕ)
    → all_pieces (text ++ last) ≡ (pieces_of text).whole ++ pieces_ahead (pieces_of text).rest last
all_pieces-append text last =
    ahead-put_all [] (text ++ last) (pieces_of text).whole (pieces_behind (pieces_of text).rest last)
    (pieces-append text last)

-- the pieces of a text, and the bytes behind them
pub all_pieces-rest : (text : List ℕ) → all_pieces text ≡ (pieces_of text).whole ++ rest_only (pieces_of text).rest
all_pieces-rest text =
    ap (λ whole. with_rest whole (pieces_of text).rest) (sym (append-nil (pieces_of text).whole))
    ∙ with_rest-append (pieces_of text).whole [] (pieces_of text).rest

-- ---- runs that stopped

-- further pieces were ahead
pub more_ahead : (begun : Begun) (earlier ahead all more : List (List ℕ)) (out notes : Received) (stop : Stop)
    → all ≡ ahead ++ more → IsHalted begun earlier ahead out notes stop
    → IsHalted begun earlier all out notes stop
more_ahead begun earlier ahead all more out notes stop is halted = record {
  further = halted.further;
  left = halted.left ++ more;
  parts = is
      ∙ (ap (λ l. l ++ more) halted.parts ∙ append_assoc halted.further halted.left more);
  past = halted.past;
  count = halted.count;
  lines = halted.lines;
  runs = halted.runs;
  due = halted.due;
  is_due = halted.is_due;
  behind = halted.behind;
  written = halted.written;
  begins = halted.begins;
  halt = halted.halt;
}

-- the piece in hand did not go in
pub piece_halted : (begun : Begun) (earlier further : List (List ℕ)) (front bytes piece : List ℕ) (count : ℕ)
    (out notes : Received) (stop : Stop) → IsEnded front bytes piece count
    → IsHalted begun earlier (further ++ piece ∷ []) out notes stop
    → IsHalted begun earlier (further ++ pieces_ahead front bytes) out notes stop
piece_halted begun earlier further front bytes piece count out notes stop ended halted =
    let rest = pieces_ahead [] (drop count bytes) in
    more_ahead begun earlier (further ++ piece ∷ []) (further ++ pieces_ahead front bytes) rest out notes stop
    (ap (λ l. further ++ l) (ahead-put_first front bytes piece (pieces_behind [] (drop count bytes)) ended.pieces)
    ∙ sym (append_assoc further (piece ∷ []) rest))
    halted

-- ---- bytes more

-- so many of the bytes were taken
pub record HasComeTo (begun : Begun) (earlier : List (List ℕ)) (front bytes : List ℕ) (done : ℕ)
    (out notes : Received) (run : Run) (now : List ℕ) : Type 0 where
  pub further : List (List ℕ)
  pub paid : IsPaid begun earlier further out notes run
  pub joined : pieces_behind front bytes ≡ put_all further (pieces_behind now (drop done bytes))

pub none_come : (begun : Begun) (earlier : List (List ℕ)) (front bytes : List ℕ) (out notes : Received) (run : Run)
    → IsPaid begun earlier [] out notes run → HasComeTo begun earlier front bytes 0 out notes run front
none_come begun earlier front bytes out notes run paid = record { further = []; paid = paid; joined = refl }

module _ (begun : Begun) (earlier : List (List ℕ)) (front bytes : List ℕ) (done : ℕ) (now : List ℕ) where
  pub one_come : (further : List (List ℕ)) (rest : List ℕ) (out notes : Received) (run : Run) (next : List ℕ)
      (count : ℕ) → rest ≡ drop done bytes
      → pieces_behind front bytes ≡ put_all further (pieces_behind now (drop done bytes))
      → IsOnePut begun earlier further now rest out notes run next count
      → HasComeTo begun earlier front bytes (done + count) out notes run next
  one_come further rest out notes run next count is joined put =
      let behind = pieces_behind next (drop (done + count) bytes) in
      let later : drop count rest ≡ drop (done + count) bytes = ap (drop count) is ∙ drop-drop count done bytes in
      let ended : pieces_behind now (drop done bytes) ≡ put_first put.piece behind =
      ap (pieces_behind now) (sym is)
      ∙ (put.ended.pieces
      ∙ (ap (λ l. put_first put.piece (pieces_behind [] l)) later
      ∙ ap (λ l. put_first put.piece (pieces_behind l (drop (done + count) bytes))) (sym put.anew))) in
      let whole : further ++ put.piece ∷ behind.whole ≡ (further ++ put.piece ∷ []) ++ behind.whole =
      sym (append_assoc further (put.piece ∷ []) behind.whole) in
      record {
        further = further ++ put.piece ∷ [];
        paid = put.paid;
        joined = joined ∙ (ap (put_all further) ended ∙ (λ i. record { whole = whole i; rest = behind.rest }));
      }

  pub all_come : (further : List (List ℕ)) (rest : List ℕ) (out notes : Received) (run : Run) (next : List ℕ)
      → rest ≡ drop done bytes
      → pieces_behind front bytes ≡ put_all further (pieces_behind now (drop done bytes))
      → IsNonePut begun earlier further now rest out notes run next
      → AllAreTaken begun earlier front bytes out notes run next
  all_come further rest out notes run next is joined put =
      let all : pieces_behind front bytes ≡ put_all further (record { whole = []; rest = next }) =
      joined ∙ ap (put_all further) (ap (pieces_behind now) (sym is) ∙ put.goes_on.pieces) in
      let whole : further ≡ (pieces_behind front bytes).whole =
      sym (ap (λ (pieces : Pieces). pieces.whole) all ∙ append-nil further) in
      record {
        paid = subst (λ pieces. IsPaid begun earlier pieces out notes run) whole put.paid;
        rest = sym (ap (λ (pieces : Pieces). pieces.rest) all);
      }

  pub come_halted : (further : List (List ℕ)) (rest : List ℕ) (out notes : Received) (stop : Stop)
      → rest ≡ drop done bytes
      → pieces_behind front bytes ≡ put_all further (pieces_behind now (drop done bytes))
      → IsHalted begun earlier (further ++ pieces_ahead now rest) out notes stop
      → IsHalted begun earlier (pieces_ahead front bytes) out notes stop
  come_halted further rest out notes stop is joined halted =
      subst (λ pieces. IsHalted begun earlier pieces out notes stop)
      (ap (λ l. further ++ pieces_ahead now l) is
      ∙ sym (ahead-put_all front bytes further (pieces_behind now (drop done bytes)) joined))
      halted

-- ---- the bytes behind the last whole piece

pub no_rest : (rest : List ℕ) → (length rest == 0) ≡ true → rest ≡ []
no_rest [] is = refl
no_rest (byte ∷ rest) is = absurd (grind (arith, nat_tests))

pub rest_taken : (begun : Begun) (earlier : List (List ℕ)) (rest : List ℕ) (out notes : Received) (run : Run)
    (answer : Result Unit Stop) → (length rest == 0) ≡ false → IsPieceEnd begun earlier [] rest out notes run answer
    → IsRestTaken begun earlier rest out notes run answer
rest_taken begun earlier [] out notes run answer some end = absurd (let never : true ≡ false = some in cc)
rest_taken begun earlier (byte ∷ rest) out notes run (Ok done) some end = end
rest_taken begun earlier (byte ∷ rest) out notes run (Err stop) some end = end

-- ---- a script

-- so much of the script was read, and its whole pieces went in
pub record HasReadOn (begun : Begun) (before now : Supplied) (total : ℕ) (out notes : Received) (run : Run)
    (front : List ℕ) : Type 0 where
  pub text : List ℕ
  pub given : Consumes before.left now.left text
  pub counts : now.given ≡ counted before.given (length text)
  pub faults : before.faults ≤ now.faults
  pub long : length text ≡ total
  pub paid : IsPaid begun (pieces_of text).whole [] out notes run
  pub front_is : front ≡ (pieces_of text).rest

pub nothing_read : (source : Supplied) (out notes : Received) (run : Run) (front : List ℕ) → IsFresh run → front ≡ []
    → HasReadOn (begun_of run out notes) source source 0 out notes run front
nothing_read source out notes run front fresh none = record {
  text = [];
  given = Consumes-nil source.left;
  counts = grind arith;
  faults = omega arith;
  long = refl;
  paid = fresh_paid run out notes fresh;
  front_is = none;
}

module _ (begun : Begun) (before mid now : Supplied) (total : ℕ) (out notes : Received) (run : Run)
    (front : List ℕ) (on : HasReadOn begun before mid total out notes run front) where
  pub read_whole : (buffer : List ℕ) (count : ℕ) → count ≡ 0 → total ≤ text_limit
      → Consumes mid.left now.left (take count buffer) → IsAtEnd now.left → now.given ≡ counted mid.given count
      → HasReadAll begun before now out notes run front
  read_whole buffer count none within given end counts = record {
    text = on.text;
    read = record {
      whole = Consumes-none before.left mid.left now.left on.text buffer count on.given given none;
      end = end;
      within = omega (arith, on.long, within);
      given = given-none before.given mid.given now.given count (length on.text) counts none on.counts;
    };
    paid = on.paid;
    rest_is = on.front_is;
  }

  pub read_failed : Keeps mid.left now.left → HasRisen mid.faults now.faults
      → IsReadStop begun before now out notes stop.Unread
  read_failed kept rose = (
    HasRisen-since before.faults mid.faults now.faults on.faults rose,
    record {
      text = on.text;
      given = Consumes-kept before.left mid.left now.left on.text on.given kept;
      run = run;
      paid = on.paid;
    },
  )

  module _ (last : List ℕ) (few : length last ≤ 4096) (given : Consumes mid.left now.left last) where
    -- a run that stopped in the bytes that were read last
    stopped : (its_out its_notes : Received) (stop : Stop)
        → IsHalted begun (pieces_of on.text).whole (pieces_ahead front last) its_out its_notes stop
        → IsCutShort begun before now its_out its_notes stop
    stopped its_out its_notes stop halted = record {
      earlier = on.text;
      last = last;
      few = few;
      given = Consumes-trans before.left mid.left now.left on.text last on.given given;
      ahead = pieces_ahead front last;
      pieces = all_pieces-append on.text last
          ∙ ap (λ l. (pieces_of on.text).whole ++ pieces_ahead l last) (sym on.front_is);
      halted = halted;
    }

    pub read_too_long : text_limit - total < length last → total ≤ text_limit
        → now.given ≡ counted mid.given (length last) → IsReadStop begun before now out notes stop.TooLong
    read_too_long more within counts = (
      HasRisenPast-since text_limit before.given (length on.text) (length last) now.given
          (omega (arith, on.long, within)) (omega (arith, on.long, more))
          (counts ∙ ap (λ k. counted k (length last)) on.counts),
      stopped out notes stop.Memory
          (wanting begun (pieces_of on.text).whole [] (pieces_ahead front last) out notes run on.paid),
    )

    by_stop : (its_out its_notes : Received) (stop : Stop) → IsCutShort begun before now its_out its_notes stop
        → IsReadStop begun before now its_out its_notes stop
    by_stop its_out its_notes stop.Memory cut = cut
    by_stop its_out its_notes stop.Out cut = cut
    by_stop its_out its_notes stop.Notes cut = cut
    by_stop its_out its_notes stop.Unread cut = absurd cut.halted.halt
    by_stop its_out its_notes stop.TooLong cut = absurd cut.halted.halt
    by_stop its_out its_notes stop.NoEpoch cut = absurd cut.halted.halt

    pub read_stopped : (its_out its_notes : Received) (its_run : Run) (its_front : List ℕ) (stop : Stop)
        → AreTaken begun (pieces_of on.text).whole front last its_out its_notes its_run its_front (Err stop)
        → IsReadStop begun before now its_out its_notes stop
    read_stopped its_out its_notes its_run its_front stop halted =
        by_stop its_out its_notes stop (stopped its_out its_notes stop halted)

    pub read_further : (its_out its_notes : Received) (its_run : Run) (its_front : List ℕ)
        → AreTaken begun (pieces_of on.text).whole front last its_out its_notes its_run its_front (Ok tt)
        → now.given ≡ counted mid.given (length last) → mid.faults ≤ now.faults
        → HasReadOn begun before now (total + length last) its_out its_notes its_run its_front
    read_further its_out its_notes its_run its_front taken counts kept =
        let own : pieces_of (on.text ++ last) ≡ put_all (pieces_of on.text).whole (pieces_behind front last) =
        pieces-append on.text last
        ∙ ap (λ l. put_all (pieces_of on.text).whole (pieces_behind l last)) (sym on.front_is) in
        record {
          text = on.text ++ last;
          given = Consumes-trans before.left mid.left now.left on.text last on.given given;
          counts = counted-more before.given mid.given now.given on.text last (on.text ++ last) on.counts counts refl;
          faults = omega (arith, on.faults, kept);
          long = omega (arith, on.long, length-append on.text last);
          paid = subst (λ pieces. IsPaid begun pieces [] its_out its_notes its_run)
              (sym (ap (λ (pieces : Pieces). pieces.whole) own))
              (go_on_anew begun (pieces_of on.text).whole (pieces_behind front last).whole its_out its_notes its_run
              taken.paid);
          front_is = taken.rest ∙ sym (ap (λ (pieces : Pieces). pieces.rest) own);
        }
