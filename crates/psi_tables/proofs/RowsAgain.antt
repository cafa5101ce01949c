-- What has the rows of the layout is taken: entries, descriptors and streams.
use Rattle.std.proofs.Common.{◌≡◌, ℕ, suc, ◌+◌, ◌*◌, ◌%◌, ◌^◌, ◌<◌, true, List, [], ◌∷◌, ◌++◌, length, take, drop, refl, sym, ap, subst, ◌∙◌, append_assoc, arith}
use Rattle.std.specs.Prelude.{sum_by}
use Rattle.std.specs.List.{flat_map, AllByRecursion}
use Rattle.std.proofs.lemmas.List.{drop-drop, drop_at, length-append, take_at}
use Rattle.std.proofs.lemmas.List.Sums.{sum_by-cons}
use Rattle.stream_syntax.specs.Fields.{Field, number, reserved, HasFields}
use Rattle.stream_syntax.specs.PixelCodes.{bits_of}
use Rattle.segments.proofs.Bits.{bits_of-cons, bits_of-two, no_bits, take_byte, take_number, take_reserved, take_word}
use Rattle.segments.proofs.Objects.{Split, bytes_again}
use Rattle.segments.proofs.Shapes.{AreBytes, AreBytes-drop, fields_bytes, take_r4_12}
use Rattle.psi_tables.specs.Layout.{AreDescriptors, descriptor_bytes, entry_rows, stream_rows}
use Rattle.psi_tables.specs.Loops.{Descriptor, PatEntry, Stream, are_descriptors, are_streams, descriptors_of, entries_of, stream_size, streams_of}
use Rattle.psi_tables.proofs.LoopLaws.{are_descriptors-more, are_streams-more, descriptors_more, streams_more}
use Rattle.psi_tables.proofs.RowsLaid.{Laid}

-- ---- two bytes with a PID, and the byte with the version

pub take_r3_13 : (a b v : ℕ) (fields : List Field) (bytes : List ℕ) → a < 256 → b < 256 → v < 2 ^ 13
    → HasFields (reserved 3 ∷ number 13 v ∷ fields) (bits_of (a ∷ b ∷ bytes))
    → ((a * 256 + b) % 8192 ≡ v) × HasFields fields (bits_of bytes)
take_r3_13 a b v fields bytes lta lt fits has =
    let n : ℕ = a * 256 + b in
    let opened = subst (HasFields (reserved 3 ∷ number 13 v ∷ fields)) (bits_of-two a b bytes lt) has in
    let first = take_reserved 3 13 n (number 13 v ∷ fields) (bits_of bytes) opened in
    let second = take_number 13 0 n v fields (bits_of bytes) fits first in
    (omega (arith, second.0), subst (HasFields fields) (no_bits n (bits_of bytes)) second.1)

pub take_2_5_1 : (b v : ℕ) (fields : List Field) (bytes : List ℕ) → b < 256 → v < 2 ^ 5
    → HasFields (reserved 2 ∷ number 5 v ∷ number 1 1 ∷ fields) (bits_of (b ∷ bytes)) → (b % 2 ≡ 1)
    × HasFields fields (bits_of bytes)
take_2_5_1 b v fields bytes lt fits has =
    let opened = subst (HasFields (reserved 2 ∷ number 5 v ∷ number 1 1 ∷ fields)) (bits_of-cons b bytes) has in
    let first = take_reserved 2 6 b (number 5 v ∷ number 1 1 ∷ fields) (bits_of bytes) opened in
    let second = take_number 5 1 b v (number 1 1 ∷ fields) (bits_of bytes) fits first in
    let third = take_number 1 0 b 1 fields (bits_of bytes) (omega arith) second.1 in
    (omega (arith, third.0), subst (HasFields fields) (no_bits b (bits_of bytes)) third.1)

pub AreBytes_behind : (front more all : List ℕ) → all ≡ front ++ more → AreBytes all → AreBytes more
AreBytes_behind front more all parts small =
    subst AreBytes (ap (drop (length front)) parts ∙ drop_at front more (length front) refl)
    (AreBytes-drop (length front) all small)

-- ---- entries

pub record EntriesAgain (entries : List PatEntry) (all : List ℕ) (fields : List Field) : Type 0 where
  pub body : List ℕ
  pub more : List ℕ
  pub parts : all ≡ body ++ more
  pub listed : entries_of body ≡ entries
  pub size : length body ≡ 4 * length entries
  pub has : Laid fields more

same-entry : (entry : PatEntry) (n p : ℕ) → n ≡ entry.number → p ≡ entry.pid
    → record { number = n; pid = p } ≡ entry
same-entry entry n p e f = rw (e, f) refl

pub entries_again : (entries : List PatEntry) (all : List ℕ) (fields : List Field) → AreBytes all
    → Laid (flat_map entry_rows entries ++ fields) all
    → EntriesAgain entries all fields
entries_again [] all fields small has =
    record { body = []; more = all; parts = refl; listed = refl; size = refl; has = has }
entries_again (entry ∷ entries) [] fields small has = absurd (omega (arith, fields_bytes _ [] has.0))
entries_again (entry ∷ entries) (a ∷ []) fields small has = absurd (omega (arith, fields_bytes _ (a ∷ []) has.0))
entries_again (entry ∷ entries) (a ∷ b ∷ []) fields small has =
    absurd (omega (arith, fields_bytes _ (a ∷ b ∷ []) has.0))
entries_again (entry ∷ entries) (a ∷ b ∷ c ∷ []) fields small has =
    absurd (omega (arith, fields_bytes _ (a ∷ b ∷ c ∷ []) has.0))
entries_again (entry ∷ entries) (a ∷ b ∷ c ∷ d ∷ rest) fields small has =
    let named = take_word entry.number a b _ (c ∷ d ∷ rest) has.1.0 (small 0) (small 1) has.0 in
    let pid =
    take_r3_13 c d entry.pid (flat_map entry_rows entries ++ fields) rest (small 2) (small 3) has.1.1.1.0 named.1 in
    with-others (entries_again entries rest fields (λ i. small (suc (suc (suc (suc i))))) (pid.1, has.1.1.1.1))
    (same-entry entry (a * 256 + b) ((c * 256 + d) % 8192) named.0 pid.0)
  where
    with-others : EntriesAgain entries rest fields
        → record { number = a * 256 + b; pid = (c * 256 + d) % 8192 } ≡ entry
        → EntriesAgain (entry ∷ entries) (a ∷ b ∷ c ∷ d ∷ rest) fields
    with-others others same = record {
      body = a ∷ b ∷ c ∷ d ∷ others.body;
      more = others.more;
      parts = ap (λ bytes. a ∷ b ∷ c ∷ d ∷ bytes) others.parts;
      listed = ap (λ first. first ∷ entries_of others.body) same ∙ ap (λ rest. entry ∷ rest) others.listed;
      size = omega (arith, others.size);
      has = others.has;
    }

-- ---- descriptors

-- what was put behind a list of that length
pub behind_is : (xs ys : List ℕ) (front : List ℕ) → drop (length front + length xs) (front ++ (xs ++ ys)) ≡ ys
behind_is xs ys front =
    sym (drop-drop (length xs) (length front) (front ++ (xs ++ ys)))
    ∙ ap (drop (length xs)) (drop_at front (xs ++ ys) (length front) refl) ∙ drop_at xs ys (length xs) refl

-- one descriptor more before whole ones
descriptors-step : (descriptor : Descriptor) (rest : List ℕ) → are_descriptors rest ≡ true
    → are_descriptors (descriptor.tag ∷ length descriptor.content ∷ (descriptor.content ++ rest)) ≡ true
descriptors-step descriptor rest whole =
    let bytes : List ℕ = descriptor.tag ∷ length descriptor.content ∷ (descriptor.content ++ rest) in
    let all = length-append descriptor.content rest in
    let first : descriptors_of bytes ≡ descriptor ∷ descriptors_of rest =
    descriptors_more bytes (omega arith) (omega (arith, all))
    ∙ ap (λ content. record { tag = descriptor.tag; content = content }
    ∷ descriptors_of (drop (2 + length descriptor.content) bytes))
    (take_at descriptor.content rest (length descriptor.content) refl)
    ∙ ap (λ behind. descriptor ∷ descriptors_of behind)
    (behind_is descriptor.content rest (descriptor.tag ∷ length descriptor.content ∷ [])) in
    are_descriptors-more bytes rest descriptor.tag descriptor.content first (omega (arith, all)) ∙ whole

none-whole : are_descriptors [] ≡ true
unfolding descriptors_of
none-whole = refl

whole-again : (descriptors : List Descriptor) → are_descriptors (flat_map descriptor_bytes descriptors) ≡ true
whole-again [] = none-whole
whole-again (descriptor ∷ descriptors) =
    descriptors-step descriptor (flat_map descriptor_bytes descriptors) (whole-again descriptors)

pub descriptors_again : (bytes : List ℕ) → AreDescriptors bytes → are_descriptors bytes ≡ true
descriptors_again bytes are = ap are_descriptors are.1 ∙ whole-again are.0

-- ---- streams

pub record StreamsAgain (streams : List Stream) (all : List ℕ) (fields : List Field) : Type 0 where
  pub body : List ℕ
  pub more : List ℕ
  pub parts : all ≡ body ++ more
  pub listed : streams_of body ≡ streams
  pub whole : are_streams body ≡ true
  pub size : length body ≡ sum_by stream_size streams
  pub has : Laid fields more

no-streams : (all : List ℕ) (fields : List Field) → Laid fields all → StreamsAgain [] all fields
unfolding streams_of
no-streams all fields has =
    record { body = []; more = all; parts = refl; listed = refl; whole = refl; size = refl; has = has }

same-stream : (stream : Stream) (k p : ℕ) (d : List ℕ) → k ≡ stream.kind → p ≡ stream.pid
    → d ≡ stream.descriptors
    → record { kind = k; pid = p; descriptors = d } ≡ stream
same-stream stream k p d e f g = rw (e, f, g) refl

-- the bytes of a stream, and those behind it
stream-step : (stream : Stream) (a b c d e : ℕ) (rest : List ℕ) → (a ≡ stream.kind)
    × ((b * 256 + c) % 8192 ≡ stream.pid) × ((d * 256 + e) % 4096 ≡ length stream.descriptors)
    → streams_of (a ∷ b ∷ c ∷ d ∷ e ∷ (stream.descriptors ++ rest)) ≡ stream ∷ streams_of rest
stream-step stream a b c d e rest is =
    let bytes : List ℕ = a ∷ b ∷ c ∷ d ∷ e ∷ (stream.descriptors ++ rest) in
    let info : List ℕ = stream.descriptors in
    let all = length-append info rest in
    let taken : take ((d * 256 + e) % 4096) (info ++ rest) ≡ info =
    take_at info rest ((d * 256 + e) % 4096) (sym is.2) in
    let left : drop (5 + (d * 256 + e) % 4096) bytes ≡ rest =
    ap (λ n. drop (5 + n) bytes) is.2 ∙ behind_is info rest (a ∷ b ∷ c ∷ d ∷ e ∷ []) in
    streams_more bytes (omega arith) (omega (arith, all, is.2))
    ∙ ap (λ behind. record {
      kind = a;
      pid = (b * 256 + c) % 8192;
      descriptors = take ((d * 256 + e) % 4096)
          (info ++ rest);
    } ∷ streams_of behind) left
    ∙ ap (λ first. first ∷ streams_of rest)
    (same-stream stream a ((b * 256 + c) % 8192) (take ((d * 256 + e) % 4096) (info ++ rest)) is.0 is.1 taken)

-- the bytes of a stream, the head one by one, and what stands behind it
record StreamHead (stream : Stream) (all : List ℕ) (fields : List Field) : Type 0 where
  kind : ℕ
  pid_high : ℕ
  pid_low : ℕ
  size_high : ℕ
  size_low : ℕ
  rest : List ℕ
  parts : all ≡ kind ∷ pid_high ∷ pid_low ∷ size_high ∷ size_low ∷ (stream.descriptors ++ rest)
  is : (kind ≡ stream.kind) × ((pid_high * 256 + pid_low) % 8192 ≡ stream.pid)
      × ((size_high * 256 + size_low) % 4096 ≡ length stream.descriptors)
  small : AreBytes rest
  has : Laid fields rest

head_again : (stream : Stream) (all : List ℕ) (fields : List Field) → AreBytes all
    → Laid (stream_rows stream ++ fields) all → StreamHead stream all fields
head_again stream [] fields small has = absurd (omega (arith, fields_bytes _ [] has.0))
head_again stream (a ∷ []) fields small has = absurd (omega (arith, fields_bytes _ (a ∷ []) has.0))
head_again stream (a ∷ b ∷ []) fields small has = absurd (omega (arith, fields_bytes _ (a ∷ b ∷ []) has.0))
head_again stream (a ∷ b ∷ c ∷ []) fields small has =
    absurd (omega (arith, fields_bytes _ (a ∷ b ∷ c ∷ []) has.0))
head_again stream (a ∷ b ∷ c ∷ d ∷ []) fields small has =
    absurd (omega (arith, fields_bytes _ (a ∷ b ∷ c ∷ d ∷ []) has.0))
head_again stream (a ∷ b ∷ c ∷ d ∷ e ∷ tail) fields small has =
    let info : List ℕ = stream.descriptors in
    let kind = take_byte stream.kind a _ _ has.1.0 (small 0) has.0 in
    let pid = take_r3_13 b c stream.pid _ _ (small 1) (small 2) has.1.1.1.0 kind.1 in
    let size = take_r4_12 d e (length info) _ tail (small 3) (small 4) has.1.1.1.1.1.0 pid.1 in
    let small_tail : AreBytes tail = λ i. small (suc (suc (suc (suc (suc i))))) in
    with-split (bytes_again info tail fields small_tail has.1.1.1.1.1.1 size.1) small_tail (kind.0, pid.0, size.0)
  where
    with-split : Split stream.descriptors tail fields → AreBytes tail
        → (a ≡ stream.kind) × ((b * 256 + c) % 8192 ≡ stream.pid)
        × ((d * 256 + e) % 4096 ≡ length stream.descriptors)
        → StreamHead stream (a ∷ b ∷ c ∷ d ∷ e ∷ tail) fields
    with-split split small_tail is = record {
      kind = a;
      pid_high = b;
      pid_low = c;
      size_high = d;
      size_low = e;
      rest = split.more;
      parts = ap (λ bytes. a ∷ b ∷ c ∷ d ∷ e ∷ bytes) split.parts;
      is = is;
      small = AreBytes_behind stream.descriptors split.more tail split.parts small_tail;
      has = (split.has, split.fit);
    }

with-others : {stream : Stream} {streams : List Stream} {all : List ℕ} {fields : List Field}
    → AreDescriptors stream.descriptors
    → (head : StreamHead stream all (flat_map stream_rows streams ++ fields))
    → StreamsAgain streams head.rest fields → StreamsAgain (stream ∷ streams) all fields
with-others {stream} {streams} {all} {fields} descriptors head others =
    let info : List ℕ = stream.descriptors in
    let body : List ℕ =
    head.kind ∷ head.pid_high ∷ head.pid_low ∷ head.size_high ∷ head.size_low ∷ (info ++ others.body) in
    let step : streams_of body ≡ stream ∷ streams_of others.body =
    stream-step stream head.kind head.pid_high head.pid_low head.size_high head.size_low others.body head.is in
    let all_size = length-append info others.body in
    let total = sum_by-cons stream_size stream streams in
    record {
      body = body;
      more = others.more;
      parts =
          head.parts
          ∙ ap (λ bytes. head.kind ∷ head.pid_high ∷ head.pid_low ∷ head.size_high ∷ head.size_low ∷ bytes)
          (ap (λ bytes. info ++ bytes) others.parts ∙ sym (append_assoc info others.body others.more));
      listed = step ∙ ap (λ rest. stream ∷ rest) others.listed;
      whole =
          are_streams-more body others.body stream step (omega (arith, all_size))
          ∙ rw (descriptors_again info descriptors, others.whole) refl;
      size = omega (arith, all_size, others.size, total);
      has = others.has;
    }

with-head : {stream : Stream} {streams : List Stream} {all : List ℕ} {fields : List Field}
    → AreDescriptors stream.descriptors
    → StreamHead stream all (flat_map stream_rows streams ++ fields)
    → ((rest : List ℕ) → AreBytes rest → Laid (flat_map stream_rows streams ++ fields) rest
    → StreamsAgain streams rest fields) → StreamsAgain (stream ∷ streams) all fields
with-head descriptors head behind = with-others descriptors head (behind head.rest head.small head.has)

pub streams_again : (streams : List Stream) (all : List ℕ) (fields : List Field) → AreBytes all
    → AllByRecursion (λ stream. AreDescriptors stream.descriptors) streams
    → Laid (flat_map stream_rows streams ++ fields) all → StreamsAgain streams all fields
streams_again [] all fields small whole has = no-streams all fields has
streams_again (stream ∷ streams) all fields small whole has =
    with-head whole.0
    (head_again stream all (flat_map stream_rows streams ++ fields) small
    (subst (λ rows. Laid rows all) (append_assoc (stream_rows stream) (flat_map stream_rows streams) fields) has))
    (λ rest small has. streams_again streams rest fields small whole.1 has)
