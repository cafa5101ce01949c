-- What a reader takes has the rows of its layout: entries, descriptors and streams.
use Rattle.std.proofs.Common.{◌≡◌, ℕ, zero, suc, ◌+◌, ◌*◌, ◌/◌, ◌%◌, ◌<◌, ◌≤◌, Bool, true, false, List, [], ◌∷◌, ◌++◌, length, take, drop, refl, sym, ap, subst, ◌∙◌, append_assoc, arith, length-drop, inl, inr}
use Rattle.std.specs.Prelude.{◌&&◌, sum_by}
use Rattle.std.specs.List.{flat_map, AllByRecursion}
use Rattle.std.proofs.lemmas.Bool.{cases_lt, eqb-true}
use Rattle.std.proofs.lemmas.List.Sums.{sum_by-cons}
use Rattle.std.proofs.lemmas.List.{drop-drop, length-take-le, take-append-drop}
use Rattle.stream_syntax.specs.Fields.{Field, number, reserved, HasFields, FitsFields}
use Rattle.stream_syntax.specs.PixelCodes.{bits_of}
use Rattle.stream_syntax.specs.Segments.{bytes_fields}
use Rattle.segments.proofs.Bits.{bits_of-cons, bits_of-two, no_bits, put_byte, put_number, put_reserved, put_word}
use Rattle.segments.proofs.Objects.{bytes_laid}
use Rattle.segments.proofs.Shapes.{AreBytes, AreBytes-drop, AreBytes-take, put_r4_12}
use Rattle.psi_tables.specs.Layout.{AreDescriptors, entry_rows, stream_rows}
use Rattle.psi_tables.specs.Loops.{Stream, are_descriptors, are_streams, descriptors_of, entries_of, first_size, stream_size, streams_of}
use Rattle.psi_tables.proofs.LoopLaws.{are_descriptors-more, are_descriptors_end, are_streams-more, are_streams_end, descriptor_cut, descriptor_short, descriptors_more, stream_cut, stream_short, streams_more}

-- the bits of bytes are those of rows, and each number fits its row
abbrev pub Laid : List Field → List ℕ → Type 0
Laid fields bytes = HasFields fields (bits_of bytes) × FitsFields fields

-- ---- two bytes with a PID, and the byte with the version

put_r3_13 : (a b : ℕ) (fields : List Field) (bytes : List ℕ) → a < 256 → b < 256
    → HasFields fields (bits_of bytes)
    → HasFields (reserved 3 ∷ number 13 ((a * 256 + b) % 8192) ∷ fields) (bits_of (a ∷ b ∷ bytes))
put_r3_13 a b fields bytes lta lt has =
    let n : ℕ = a * 256 + b in
    let second =
    put_number 13 0 n ((a * 256 + b) % 8192) fields (bits_of bytes) (omega arith)
    (subst (HasFields fields) (sym (no_bits n (bits_of bytes))) has) in
    subst (HasFields (reserved 3 ∷ number 13 ((a * 256 + b) % 8192) ∷ fields)) (sym (bits_of-two a b bytes lt))
    (put_reserved 3 13 n (number 13 ((a * 256 + b) % 8192) ∷ fields) (bits_of bytes) second)

pub pid_laid : (a b : ℕ) (fields : List Field) (bytes : List ℕ) → a < 256 → b < 256
    → Laid fields bytes → Laid (reserved 3 ∷ number 13 ((a * 256 + b) % 8192) ∷ fields) (a ∷ b ∷ bytes)
pid_laid a b fields bytes lta lt has = (put_r3_13 a b fields bytes lta lt has.0, (tt, (omega arith, has.1)))

pub size_laid : (a b : ℕ) (fields : List Field) (bytes : List ℕ) → a < 256 → b < 256
    → Laid fields bytes → Laid (reserved 4 ∷ number 12 ((a * 256 + b) % 4096) ∷ fields) (a ∷ b ∷ bytes)
size_laid a b fields bytes lta lt has = (put_r4_12 a b fields bytes lta lt has.0, (tt, (omega arith, has.1)))

pub byte_laid : (b : ℕ) (fields : List Field) (bytes : List ℕ) → b < 256 → Laid fields bytes
    → Laid (number 8 b ∷ fields) (b ∷ bytes)
byte_laid b fields bytes lt has = (put_byte b fields bytes lt has.0, (lt, has.1))

pub word_laid : (a b : ℕ) (fields : List Field) (bytes : List ℕ) → a < 256 → b < 256 → Laid fields bytes
    → Laid (number 16 (a * 256 + b) ∷ fields) (a ∷ b ∷ bytes)
word_laid a b fields bytes lta lt has = (put_word a b fields bytes lta lt has.0, (omega arith, has.1))

pub version_laid : (b : ℕ) (fields : List Field) (bytes : List ℕ) → b < 256 → b % 2 ≡ 1
    → Laid fields bytes → Laid (reserved 2 ∷ number 5 (b / 2 % 32) ∷ number 1 1 ∷ fields) (b ∷ bytes)
version_laid b fields bytes lt current has =
    let third =
    put_number 1 0 b 1 fields (bits_of bytes) (omega (arith, current))
    (subst (HasFields fields) (sym (no_bits b (bits_of bytes))) has.0) in
    let second = put_number 5 1 b (b / 2 % 32) (number 1 1 ∷ fields) (bits_of bytes) (omega arith) third in
    let first = put_reserved 2 6 b (number 5 (b / 2 % 32) ∷ number 1 1 ∷ fields) (bits_of bytes) second in (
      subst (HasFields (reserved 2 ∷ number 5 (b / 2 % 32) ∷ number 1 1 ∷ fields)) (sym (bits_of-cons b bytes))
          first,
      (tt, (omega arith, (omega arith, has.1))),
    )

-- ---- entries

pub entries_laid : (bytes more : List ℕ) (fields : List Field) → AreBytes bytes → length bytes % 4 ≡ 0
    → Laid fields more → Laid (flat_map entry_rows (entries_of bytes) ++ fields) (bytes ++ more)
entries_laid [] more fields small whole has = has
entries_laid (a ∷ b ∷ c ∷ d ∷ bytes) more fields small whole has =
    word_laid a b _ (c ∷ d ∷ (bytes ++ more)) (small 0) (small 1)
    (pid_laid c d _ (bytes ++ more) (small 2) (small 3)
    (entries_laid bytes more fields (λ i. small (suc (suc (suc (suc i))))) (omega (arith, whole)) has))
entries_laid (a ∷ []) more fields small whole has = absurd (omega (arith, whole))
entries_laid (a ∷ b ∷ []) more fields small whole has = absurd (omega (arith, whole))
entries_laid (a ∷ b ∷ c ∷ []) more fields small whole has = absurd (omega (arith, whole))

-- ---- descriptors

not-none : (bytes : List ℕ) → 1 ≤ length bytes → descriptors_of bytes ≡ []
    → are_descriptors bytes ≡ true → ⊥
not-none bytes some none whole = omega (arith, some, eqb-true _ _ (sym (are_descriptors_end bytes none) ∙ whole))

descriptors-are : (most : ℕ) (bytes : List ℕ) → length bytes ≤ most → are_descriptors bytes ≡ true
    → AreDescriptors bytes
descriptors-are most [] few whole = ([], refl)
descriptors-are zero (tag ∷ bytes) few whole = absurd (omega (arith, few))
descriptors-are (suc most) (tag ∷ []) few whole =
    absurd (not-none (tag ∷ []) (omega arith) (descriptor_short (tag ∷ []) (omega arith)) whole)
descriptors-are (suc most) (tag ∷ size ∷ rest) few whole =
    elim (cases_lt (length (tag ∷ size ∷ rest)) (2 + size)) [
      | inl cut ↦ absurd
          (not-none (tag ∷ size ∷ rest) (omega arith) (descriptor_cut (tag ∷ size ∷ rest) (omega arith) cut)
          whole)
      | inr fits ↦
          let behind : List ℕ = drop size rest in
          let content : List ℕ = take size rest in
          let more = descriptors_more (tag ∷ size ∷ rest) (omega arith) fits in
          let long : length content ≡ size = length-take-le size rest (omega (arith, fits)) in
          let left = length-drop size rest in
          let behind_is : drop (2 + size) (tag ∷ size ∷ rest) ≡ behind =
          sym (drop-drop size 2 (tag ∷ size ∷ rest)) in
          let first : descriptors_of (tag ∷ size ∷ rest) ≡ record { tag = tag; content = content }
          ∷ descriptors_of behind =
          more ∙ ap (λ bytes. record { tag = tag; content = content } ∷ descriptors_of bytes) behind_is in
          let rest_whole : are_descriptors behind ≡ true =
          sym (are_descriptors-more (tag ∷ size ∷ rest) behind tag content first
          (omega (arith, long, left, fits))) ∙ whole in
          let others = descriptors-are most behind (omega (arith, left, few)) rest_whole in (
            record { tag = tag; content = content } ∷ others.0,
            ap (λ n. tag ∷ n ∷ rest) (sym long)
                ∙ ap (λ bytes. tag ∷ length content ∷ bytes) (sym (take-append-drop size rest))
                ∙ ap (λ bytes. tag ∷ length content ∷ (content ++ bytes)) others.1,
          )
    ]

pub descriptors_are : (bytes : List ℕ) → are_descriptors bytes ≡ true → AreDescriptors bytes
descriptors_are bytes whole = descriptors-are (length bytes) bytes (omega arith) whole

-- ---- streams

pub record LaidStreams (bytes more : List ℕ) (fields : List Field) : Type 0 where
  pub rows : Laid (flat_map stream_rows (streams_of bytes) ++ fields) (bytes ++ more)
  pub descriptors : AllByRecursion (λ stream. AreDescriptors stream.descriptors) (streams_of bytes)
  pub size : sum_by stream_size (streams_of bytes) ≡ length bytes

no-streams : (more : List ℕ) (fields : List Field) → Laid fields more → LaidStreams [] more fields
unfolding streams_of
no-streams more fields has = record { rows = has; descriptors = tt; size = refl }

no-stream : (bytes : List ℕ) → 1 ≤ length bytes → streams_of bytes ≡ [] → are_streams bytes ≡ true → ⊥
no-stream bytes some none whole = omega (arith, some, eqb-true _ _ (sym (are_streams_end bytes none) ∙ whole))

pub both : (a b : Bool) → (a && b) ≡ true → (a ≡ true) × (b ≡ true)
both true true e = (refl, refl)
both true false e = absurd cc
both false b e = absurd cc

-- one stream more before those that have their rows
with-stream : (bytes behind more : List ℕ) (stream : Stream) (fields : List Field)
    → streams_of bytes ≡ stream ∷ streams_of behind
    → length bytes ≡ 5 + length stream.descriptors + length behind → AreDescriptors stream.descriptors
    → Laid ((stream_rows stream ++ flat_map stream_rows (streams_of behind)) ++ fields) (bytes ++ more)
    → LaidStreams behind more fields → LaidStreams bytes more fields
with-stream bytes behind more stream fields first all descriptors rows rest = record {
  rows = subst (λ streams. Laid (flat_map stream_rows streams ++ fields) (bytes ++ more)) (sym first) rows;
  descriptors =
      subst (λ streams. AllByRecursion (λ stream. AreDescriptors stream.descriptors) streams) (sym first)
      (descriptors, rest.descriptors);
  size =
      ap (sum_by stream_size) first ∙ sum_by-cons stream_size stream (streams_of behind)
      ∙ omega (arith, all, rest.size);
}

streams-laid : (most : ℕ) (bytes more : List ℕ) (fields : List Field) → AreBytes bytes → length bytes ≤ most
    → are_streams bytes ≡ true → Laid fields more
    → LaidStreams bytes more fields
streams-laid most [] more fields small few whole has = no-streams more fields has
streams-laid most (a ∷ []) more fields small few whole has =
    absurd (no-stream (a ∷ []) (omega arith) (stream_short (a ∷ []) (omega arith)) whole)
streams-laid most (a ∷ b ∷ []) more fields small few whole has =
    absurd (no-stream (a ∷ b ∷ []) (omega arith) (stream_short (a ∷ b ∷ []) (omega arith)) whole)
streams-laid most (a ∷ b ∷ c ∷ []) more fields small few whole has =
    absurd (no-stream (a ∷ b ∷ c ∷ []) (omega arith) (stream_short (a ∷ b ∷ c ∷ []) (omega arith)) whole)
streams-laid most (a ∷ b ∷ c ∷ d ∷ []) more fields small few whole has =
    absurd (no-stream (a ∷ b ∷ c ∷ d ∷ []) (omega arith)
    (stream_short (a ∷ b ∷ c ∷ d ∷ []) (omega arith)) whole)
streams-laid zero (a ∷ b ∷ c ∷ d ∷ e ∷ rest) more fields small few whole has = absurd (omega (arith, few))
streams-laid (suc most) (a ∷ b ∷ c ∷ d ∷ e ∷ rest) more fields small few whole has =
    elim (cases_lt (length (a ∷ b ∷ c ∷ d ∷ e ∷ rest)) (first_size (a ∷ b ∷ c ∷ d ∷ e ∷ rest))) [
      | inl cut ↦ absurd
          (no-stream (a ∷ b ∷ c ∷ d ∷ e ∷ rest) (omega arith)
          (stream_cut (a ∷ b ∷ c ∷ d ∷ e ∷ rest) (omega arith) cut) whole)
      | inr fits ↦
          let size : ℕ = (d * 256 + e) % 4096 in
          let info : List ℕ = take size rest in
          let behind : List ℕ = drop size rest in
          let stream : Stream = record { kind = a; pid = (b * 256 + c) % 8192; descriptors = info } in
          let long : length info ≡ size = length-take-le size rest (omega (arith, fits)) in
          let left = length-drop size rest in
          let first : streams_of (a ∷ b ∷ c ∷ d ∷ e ∷ rest) ≡ stream ∷ streams_of behind =
          streams_more (a ∷ b ∷ c ∷ d ∷ e ∷ rest) (omega arith) fits
          ∙ ap (λ bytes. stream ∷ streams_of bytes)
          (sym (drop-drop size 5 (a ∷ b ∷ c ∷ d ∷ e ∷ rest))) in
          let all : length (a ∷ b ∷ c ∷ d ∷ e ∷ rest) ≡ 5 + length info + length behind =
          omega (arith, long, left, fits) in
          let wholes : (are_descriptors info ≡ true) × (are_streams behind ≡ true) =
          both _ _ (sym (are_streams-more (a ∷ b ∷ c ∷ d ∷ e ∷ rest) behind stream first all) ∙ whole)
          in
          let small_rest : AreBytes rest = λ i. small (suc (suc (suc (suc (suc i))))) in
          let others =
          streams-laid most behind more fields (AreBytes-drop size rest small_rest) (omega (arith, left, few))
          wholes.1 has in
          let others_rows : List Field = flat_map stream_rows (streams_of behind) in
          let bytes_part : Laid (bytes_fields info ++ (others_rows ++ fields)) (info ++ (behind ++ more)) =
          bytes_laid info (behind ++ more) (others_rows ++ fields) (AreBytes-take size rest small_rest) others.rows in
          let rest_is : info ++ (behind ++ more) ≡ rest ++ more =
          sym (append_assoc info behind more) ∙ ap (λ bytes. bytes ++ more) (take-append-drop size rest) in
          let part : Laid ((bytes_fields info ++ others_rows) ++ fields) (rest ++ more) =
          subst (λ rows. Laid rows (rest ++ more)) (sym (append_assoc (bytes_fields info) others_rows fields))
          (subst (λ bytes. Laid (bytes_fields info ++ (others_rows ++ fields)) bytes) rest_is bytes_part) in
          let sized : Laid (reserved 4 ∷ number 12 (length info) ∷ ((bytes_fields info ++ others_rows) ++ fields))
          (d ∷ e ∷ (rest ++ more)) =
          subst (λ n. Laid (reserved 4 ∷ number 12 n ∷ ((bytes_fields info ++ others_rows) ++ fields))
          (d ∷ e ∷ (rest ++ more))) (sym long)
          (size_laid d e ((bytes_fields info ++ others_rows) ++ fields) (rest ++ more) (small 3) (small 4) part) in
          with-stream (a ∷ b ∷ c ∷ d ∷ e ∷ rest) behind more stream fields first all
          (descriptors_are info wholes.0)
          (byte_laid a _ _ (small 0) (pid_laid b c _ _ (small 1) (small 2) sized)) others
    ]

pub streams_laid : (bytes more : List ℕ) (fields : List Field) → AreBytes bytes → are_streams bytes ≡ true
    → Laid fields more → LaidStreams bytes more fields
streams_laid bytes more fields small whole has =
    streams-laid (length bytes) bytes more fields small (omega arith) whole has
