-- A section that no test refuses has the layout of a section, and what has this layout is refused by no test.
use Rattle.std.proofs.Common.{◌≡◌, ℕ, suc, ◌+◌, ◌-◌, ◌*◌, ◌/◌, ◌%◌, ◌^◌, ◌<◌, ◌≤◌, ◌⊎◌, Bool, true, false, ltb, List, [], ◌∷◌, ◌++◌, All, length, take, drop, Option, Some, None, refl, sym, ap, subst, ◌∙◌, append_assoc, arith, length-drop, inl, inr}
use Rattle.std.specs.Prelude.{◌==◌, ◌||◌, not, if◌then◌else◌}
use Rattle.std.specs.List.{flat_map}
use Rattle.std.proofs.Math.Seq.{take-add, take-append-add}
use Rattle.std.proofs.lemmas.Bool.{cases_lt, eqb-true, le-ltb, ltb-false}
use Rattle.std.proofs.lemmas.Bool.Decides.{nat_tests}
use Rattle.std.proofs.lemmas.List.{append-nil, drop-drop, get_or_past, length-append, length-take-le, take-append-drop, take_at}
use Rattle.std.proofs.lemmas.List.Elements.{All-get_or}
use Rattle.std.proofs.lemmas.Nat.{mod_below, pow_pos}
use Rattle.stream_syntax.specs.Fields.{Field, number, number_of, reserved, no_row, row_first}
use Rattle.stream_syntax.specs.PixelCodes.{bits, bits_of}
use Rattle.stream_syntax.specs.Segments.{bytes_fields}
use Rattle.stream_syntax.specs.Tests.{byte_at}
use Rattle.pixel_codes.proofs.Bits.{IsBits-bits_of, bits-number_of, length-bits_of, number_of-bits}
use Rattle.segments.proofs.Bits.{take_byte, take_word}
use Rattle.segments.proofs.Objects.{Split, bytes_again, bytes_laid}
use Rattle.segments.proofs.Shapes.{AreBytes, AreBytes-drop, AreBytes-take, fields_bytes, take_r4_12}
use Rattle.psi_tables.specs.Crc.{crc_of}
use Rattle.psi_tables.specs.Layout.{HasDescriptors, IsSection, Says, Table, body_rows, body_size, pat_table, pmt_table, stream_rows, table_id, table_number}
use Rattle.psi_tables.specs.Loops.{are_descriptors, are_entries, are_streams, entries_of, streams_of, twelve_at}
use Rattle.psi_tables.specs.Sections.{Pat, Pmt, SectionValue, body_of, head_descriptors, is_body, is_pmt_body, valid_section, section_fault, section_size, section_value, streams_in}
use Rattle.psi_tables.proofs.RowsAgain.{AreBytes_behind, StreamsAgain, behind_is, descriptors_again, entries_again, streams_again, take_2_5_1, take_r3_13}
use Rattle.psi_tables.proofs.RowsLaid.{Laid, both, byte_laid, descriptors_are, entries_laid, pid_laid, size_laid, streams_laid, version_laid, word_laid}
use Rattle.psi_tables.proofs.SectionLaws.{PassesHead, by_value, valid_value}

pub all_bytes : (bytes : List ℕ) → All (λ byte. byte < 256) bytes → AreBytes bytes
all_bytes bytes small i =
    elim (cases_lt i (length bytes)) [
      | inl lt ↦ All-get_or (λ byte. byte < 256) bytes i 0 lt small
      | inr le ↦ rw (get_or_past bytes i 0 le) (omega arith)
    ]

-- ---- bodies

-- what is laid out of a body, before further rows
record LaidBody (id : ℕ) (table : ℕ) (body more : List ℕ) (fields : List Field) : Type 0 where
  laid : Table
  id_is : table_id laid ≡ table
  number_is : table_number laid ≡ id
  size : body_size laid ≡ length body
  rows : Laid (body_rows laid ++ fields) (body ++ more)
  descriptors : HasDescriptors laid
  says : Says (if table == 0 then Pat id body else Pmt id (streams_in body)) laid

entry-count : (bytes : List ℕ) → length bytes % 4 ≡ 0 → 4 * length (entries_of bytes) ≡ length bytes
entry-count [] whole = refl
entry-count (a ∷ b ∷ c ∷ d ∷ bytes) whole = omega (arith, entry-count bytes (omega (arith, whole)))
entry-count (a ∷ []) whole = absurd (omega (arith, whole))
entry-count (a ∷ b ∷ []) whole = absurd (omega (arith, whole))
entry-count (a ∷ b ∷ c ∷ []) whole = absurd (omega (arith, whole))

pat-laid : (id : ℕ) (body more : List ℕ) (fields : List Field) → AreBytes body → are_entries body ≡ true
    → Laid fields more → LaidBody id 0 body more fields
pat-laid id body more fields small whole has =
    let fours : length body % 4 ≡ 0 = eqb-true _ _ whole in
    record {
      laid = pat_table id (entries_of body);
      id_is = refl;
      number_is = refl;
      size = entry-count body fours;
      rows = entries_laid body more fields small fours has;
      descriptors = tt;
      says = (refl, refl);
    }

-- what a PMT's body passes
record PassesPmt (body : List ℕ) : Type 0 where
  head : 4 ≤ length body
  room : 4 + twelve_at 2 body ≤ length body
  descriptors : are_descriptors (head_descriptors body) ≡ true
  streams : are_streams (streams_in body) ≡ true

neither : (a b : Bool) → not (a || b) ≡ true → (a ≡ false) × (b ≡ false)
neither false false e = (refl, refl)
neither false true e = absurd cc
neither true b e = absurd cc

passes-pmt : (body : List ℕ) → is_pmt_body body ≡ true → PassesPmt body
passes-pmt body whole =
    let first = both _ _ whole in
    let room = neither _ _ first.0 in
    let loops = both _ _ first.1 in
    record { head = ltb-false _ _ room.0; room = ltb-false _ _ room.1; descriptors = loops.0; streams = loops.1 }

pmt-whole : (body : List ℕ) → PassesPmt body → is_pmt_body body ≡ true
pmt-whole body passes =
    let head : ltb (length body) 4 ≡ false = le-ltb _ _ passes.head in
    let room : ltb (length body) (4 + twelve_at 2 body) ≡ false = le-ltb _ _ passes.room in
    rw (head, room, passes.descriptors, passes.streams) refl

pmt-laid : (id : ℕ) (body more : List ℕ) (fields : List Field) → AreBytes body → PassesPmt body
    → Laid fields more → LaidBody id 2 body more fields
pmt-laid id [] more fields small passes has = absurd (omega (arith, passes.head))
pmt-laid id (a ∷ []) more fields small passes has = absurd (omega (arith, passes.head))
pmt-laid id (a ∷ b ∷ []) more fields small passes has = absurd (omega (arith, passes.head))
pmt-laid id (a ∷ b ∷ c ∷ []) more fields small passes has = absurd (omega (arith, passes.head))
pmt-laid id (a ∷ b ∷ c ∷ d ∷ rest) more fields small passes has =
    let body : List ℕ = a ∷ b ∷ c ∷ d ∷ rest in
    let size : ℕ = (c * 256 + d) % 4096 in
    let info : List ℕ = take size rest in
    let loop : List ℕ = drop size rest in
    let loop_is : streams_in body ≡ loop = sym (drop-drop size 4 body) in
    let small_rest : AreBytes rest = λ i. small (suc (suc (suc (suc i)))) in
    let long : length info ≡ size = length-take-le size rest (omega (arith, passes.room)) in
    let streams =
    streams_laid loop more fields (AreBytes-drop size rest small_rest)
    (ap are_streams (sym loop_is) ∙ passes.streams) has in
    let loop_rows : List Field = flat_map stream_rows (streams_of loop) in
    let info_part =
    bytes_laid info (loop ++ more) (loop_rows ++ fields) (AreBytes-take size rest small_rest) streams.rows in
    let rest_is : info ++ (loop ++ more) ≡ rest ++ more =
    sym (append_assoc info loop more) ∙ ap (λ bytes. bytes ++ more) (take-append-drop size rest) in
    let part : Laid ((bytes_fields info ++ loop_rows) ++ fields) (rest ++ more) =
    subst (λ rows. Laid rows (rest ++ more)) (sym (append_assoc (bytes_fields info) loop_rows fields))
    (subst (λ bytes. Laid (bytes_fields info ++ (loop_rows ++ fields)) bytes) rest_is info_part) in
    let sized : Laid (reserved 4 ∷ number 12 (length info) ∷ ((bytes_fields info ++ loop_rows) ++ fields))
    (c ∷ d ∷ (rest ++ more)) =
    subst (λ n. Laid (reserved 4 ∷ number 12 n ∷ ((bytes_fields info ++ loop_rows) ++ fields))
    (c ∷ d ∷ (rest ++ more))) (sym long)
    (size_laid c d ((bytes_fields info ++ loop_rows) ++ fields) (rest ++ more) (small 2) (small 3) part) in
    record {
      laid = pmt_table id ((a * 256 + b) % 8192) info (streams_of loop);
      id_is = refl;
      number_is = refl;
      size = omega (arith, long, streams.size, length-drop size rest, passes.room);
      rows = pid_laid a b _ _ (small 0) (small 1) sized;
      descriptors = (descriptors_are info passes.descriptors, streams.descriptors);
      says = (refl, ap streams_of loop_is);
    }

-- ---- the CRC

crc_laid : (c : List ℕ) → length c ≡ 4 → Laid (number 32 (number_of (bits_of c)) ∷ []) c
crc_laid c four =
    let ones = IsBits-bits_of c in
    let size : length (bits_of c) ≡ 32 = omega (arith, length-bits_of c, four) in
    let check : ℕ = number_of (bits_of c) in
    let row : bits_of c ≡ bits 32 check =
    sym (subst (λ n. bits n check ≡ bits_of c) size (bits-number_of (bits_of c) ones)) in
    let same : check ≡ check % 2 ^ 32 = ap number_of row ∙ number_of-bits 32 check in
    let fits : check < 2 ^ 32 = omega (arith, same, mod_below check (2 ^ 32) (pow_pos 32)) in
    (row_first (bits_of c) [] row no_row (sym (append-nil (bits_of c))), (fits, tt))

-- ---- from the tests to the layout

-- a first row of so many tests that none fails
none_of : {Fault : Type 0} → (fails : Bool) (fault : Fault) (rest : Option Fault)
    → (if fails then Some fault else rest) ≡ None → (fails ≡ false) × (rest ≡ None)
none_of true fault rest e = absurd cc
none_of false fault rest e = (refl, e)

either-false : (a b : Bool) → (a || b) ≡ false → (a ≡ false) × (b ≡ false)
either-false false false e = (refl, refl)
either-false false true e = absurd cc
either-false true b e = absurd cc

not-false : (a : Bool) → not a ≡ false → a ≡ true
not-false true e = refl
not-false false e = absurd cc

pub record Passes (bytes : List ℕ) : Type 0 where
  pub have : 3 ≤ length bytes
  pub whole : 3 + twelve_at 1 bytes ≤ length bytes
  pub fits : (9 ≤ twelve_at 1 bytes) × (twelve_at 1 bytes ≤ 1021)
  pub right_crc : crc_of (take (section_size bytes) bytes) ≡ 0
  pub table : (byte_at 0 bytes == 0 || byte_at 0 bytes == 2) ≡ true
  pub current : byte_at 5 bytes % 2 ≡ 1
  pub body : is_body (byte_at 0 bytes) (body_of bytes) ≡ true

passes : (bytes : List ℕ) → section_fault bytes ≡ None → Passes bytes
passes bytes none =
    let cut = none_of _ _ _ none in
    let size = none_of _ _ _ cut.1 in
    let check = none_of _ _ _ size.1 in
    let table = none_of _ _ _ check.1 in
    let current = none_of _ _ _ table.1 in
    let body = none_of _ _ _ current.1 in
    let room = either-false _ _ cut.0 in
    let bounds = either-false _ _ size.0 in
    record {
      have = ltb-false _ _ room.0;
      whole = ltb-false _ _ room.1;
      fits = (ltb-false _ _ bounds.0, ltb-false _ _ bounds.1);
      right_crc = eqb-true _ _ (not-false _ check.0);
      table = not-false _ table.0;
      current = odd (byte_at 5 bytes) current.0;
      body = not-false _ body.0;
    }
  where
    odd : (n : ℕ) → (n % 2 == 0) ≡ false → n % 2 ≡ 1
    odd n e = grind (arith, nat_tests)

zero_or_two : (table : ℕ) → (table == 0 || table == 2) ≡ true → (table ≡ 0) ⊎ (table ≡ 2)
zero_or_two table e = grind (arith, nat_tests)

body-laid : (id table : ℕ) (body more : List ℕ) (fields : List Field) → (table ≡ 0) ⊎ (table ≡ 2)
    → AreBytes body → is_body table body ≡ true → Laid fields more
    → LaidBody id table body more fields
body-laid id table body more fields kind small whole has =
    elim kind [
      | inl pat ↦ subst (λ t. LaidBody id t body more fields) (sym pat)
          (pat-laid id body more fields small (subst (λ t. is_body t body ≡ true) pat whole) has)
      | inr pmt ↦ subst (λ t. LaidBody id t body more fields) (sym pmt)
          (pmt-laid id body more fields small (passes-pmt body (subst (λ t. is_body t body ≡ true) pmt whole)) has)
    ]

section_laid : (bytes : List ℕ) → AreBytes bytes → Passes bytes → (table : Table)
    × IsSection (take (section_size bytes) bytes) table × Says (section_value bytes) table
section_laid (a ∷ b ∷ c ∷ d ∷ e ∷ f ∷ g ∷ h ∷ rest) small p =
    let bytes : List ℕ = a ∷ b ∷ c ∷ d ∷ e ∷ f ∷ g ∷ h ∷ rest in
    let length_field : ℕ = (b * 256 + c) % 4096 in
    let n : ℕ = 3 + length_field - 12 in
    let body : List ℕ = take n rest in
    let crc : List ℕ = take 4 (drop n rest) in
    let check : ℕ = number_of (bits_of crc) in
    let count : 3 + length_field ≡ 8 + (n + 4) = omega (arith, p.fits.0) in
    let all : take (3 + length_field) bytes ≡ a ∷ b ∷ c ∷ d ∷ e ∷ f ∷ g ∷ h ∷ (body ++ crc) =
    ap (λ k. take k bytes) count ∙ take-append-add (a ∷ b ∷ c ∷ d ∷ e ∷ f ∷ g ∷ h ∷ []) rest (n + 4)
    ∙ ap (λ tail. a ∷ b ∷ c ∷ d ∷ e ∷ f ∷ g ∷ h ∷ tail) (take-add n 4 rest) in
    let small_rest : AreBytes rest = λ i. small (suc (suc (suc (suc (suc (suc (suc (suc i)))))))) in
    let long : length body ≡ n = length-take-le n rest (omega (arith, p.whole, p.fits.0)) in
    let four : length crc ≡ 4 =
    length-take-le 4 (drop n rest) (omega (arith, length-drop n rest, p.whole, p.fits.0)) in
    let laid =
    body-laid (d * 256 + e) a body crc (number 32 check ∷ []) (zero_or_two a p.table)
    (AreBytes-take n rest small_rest) p.body (crc_laid crc four) in
    let table : Table = laid.laid in
    let tail : List Field =
    reserved 2 ∷ number 5 (f / 2 % 32) ∷ number 1 1 ∷ number 8 g ∷ number 8 h
    ∷ (body_rows table ++ number 32 check ∷ []) in
    let section : List ℕ = a ∷ b ∷ c ∷ d ∷ e ∷ f ∷ g ∷ h ∷ (body ++ crc) in
    let rows : Laid (number 8 a ∷ reserved 4 ∷ number 12 length_field ∷ number 16 (d * 256 + e) ∷ tail)
    section =
    byte_laid a _ _ (small 0) (size_laid b c _ _ (small 1) (small 2) (word_laid d e _ _ (small 3) (small 4)
    (version_laid f _ _ (small 5) p.current (byte_laid g _ _ (small 6) (byte_laid h _ _ (small 7) laid.rows))))) in
    let size_is : length_field ≡ 9 + body_size table = omega (arith, laid.size, long, p.fits.0) in
    let named : Laid
    (number 8 (table_id table) ∷ reserved 4 ∷ number 12 (9 + body_size table)
    ∷ number 16 (table_number table) ∷ tail) section =
    subst (λ k. Laid
    (number 8 (table_id table) ∷ reserved 4 ∷ number 12 (9 + body_size table) ∷ number 16 k ∷ tail) section)
    (sym laid.number_is)
    (subst (λ k. Laid (number 8 (table_id table) ∷ reserved 4 ∷ number 12 k ∷ number 16 (d * 256 + e) ∷ tail)
    section) size_is
    (subst (λ k. Laid (number 8 k ∷ reserved 4 ∷ number 12 length_field ∷ number 16 (d * 256 + e) ∷ tail)
    section) (sym laid.id_is) rows)) in
    let placed : Laid
    (number 8 (table_id table) ∷ reserved 4 ∷ number 12 (9 + body_size table)
    ∷ number 16 (table_number table) ∷ tail) (take (3 + length_field) bytes) =
    subst (λ bytes. Laid
    (number 8 (table_id table) ∷ reserved 4 ∷ number 12 (9 + body_size table)
    ∷ number 16 (table_number table) ∷ tail) bytes) (sym all) named in (
      table,
      record {
        marks = record { version = f / 2 % 32; section = g; last = h; check = check };
        short = omega (arith, size_is, p.fits.1);
        fits = placed.1;
        layout = placed.0;
        descriptors = laid.descriptors;
        right_crc = p.right_crc;
      },
      laid.says,
    )
section_laid [] small p = absurd (omega (arith, p.have))
section_laid (a ∷ []) small p = absurd (omega (arith, p.have))
section_laid (a ∷ b ∷ []) small p = absurd (omega (arith, p.have))
section_laid (a ∷ b ∷ c ∷ []) small p = absurd (omega (arith, p.whole, p.fits.0))
section_laid (a ∷ b ∷ c ∷ d ∷ []) small p = absurd (omega (arith, p.whole, p.fits.0))
section_laid (a ∷ b ∷ c ∷ d ∷ e ∷ []) small p = absurd (omega (arith, p.whole, p.fits.0))
section_laid (a ∷ b ∷ c ∷ d ∷ e ∷ f ∷ []) small p = absurd (omega (arith, p.whole, p.fits.0))
section_laid (a ∷ b ∷ c ∷ d ∷ e ∷ f ∷ g ∷ []) small p = absurd (omega (arith, p.whole, p.fits.0))

-- ---- from the layout to the tests

record BodyAgain (table : Table) (all : List ℕ) (fields : List Field) : Type 0 where
  body : List ℕ
  more : List ℕ
  parts : all ≡ body ++ more
  size : length body ≡ body_size table
  whole : is_body (table_id table) body ≡ true
  says : Says
      (if table_id table == 0 then Pat (table_number table) body else Pmt (table_number table) (streams_in body)) table
  has : Laid fields more

body_again : (table : Table) (all : List ℕ) (fields : List Field) → AreBytes all → HasDescriptors table
    → Laid (body_rows table ++ fields) all → BodyAgain table all fields
body_again (pat_table id entries) all fields small whole has =
    let found = entries_again entries all fields small has in
    record {
      body = found.body;
      more = found.more;
      parts = found.parts;
      size = found.size;
      whole = rw found.size (grind (arith, nat_tests));
      says = (refl, found.listed);
      has = found.has;
    }
body_again (pmt_table service pcr info streams) [] fields small whole has =
    absurd (omega (arith, fields_bytes _ [] has.0))
body_again (pmt_table service pcr info streams) (a ∷ []) fields small whole has =
    absurd (omega (arith, fields_bytes _ (a ∷ []) has.0))
body_again (pmt_table service pcr info streams) (a ∷ b ∷ []) fields small whole has =
    absurd (omega (arith, fields_bytes _ (a ∷ b ∷ []) has.0))
body_again (pmt_table service pcr info streams) (a ∷ b ∷ c ∷ []) fields small whole has =
    absurd (omega (arith, fields_bytes _ (a ∷ b ∷ c ∷ []) has.0))
body_again (pmt_table service pcr info streams) (a ∷ b ∷ c ∷ d ∷ tail) fields small whole has =
    let loop_rows : List Field = flat_map stream_rows streams in
    let clock = take_r3_13 a b pcr _ _ (small 0) (small 1) has.1.1.0 has.0 in
    let size =
    take_r4_12 c d (length info) ((bytes_fields info ++ loop_rows) ++ fields) tail (small 2) (small 3) has.1.1.1.1.0
    clock.1 in
    let small_tail : AreBytes tail = λ i. small (suc (suc (suc (suc i)))) in
    let rows : Laid (bytes_fields info ++ (loop_rows ++ fields)) tail =
    subst (λ rows. Laid rows tail) (append_assoc (bytes_fields info) loop_rows fields) (size.1, has.1.1.1.1.1) in
    with-split (bytes_again info tail (loop_rows ++ fields) small_tail rows.1 rows.0) small_tail size.0
  where
    with-loop : (split : Split info tail (flat_map stream_rows streams ++ fields))
        → (c * 256 + d) % 4096 ≡ length info → StreamsAgain streams split.more fields
        → BodyAgain (pmt_table service pcr info streams) (a ∷ b ∷ c ∷ d ∷ tail) fields
    with-loop split size_is found =
        let body : List ℕ = a ∷ b ∷ c ∷ d ∷ (info ++ found.body) in
        let size : ℕ = (c * 256 + d) % 4096 in
        let all_size = length-append info found.body in
        let descriptors : take size (info ++ found.body) ≡ info = take_at info found.body size (sym size_is) in
        let loop : streams_in body ≡ found.body =
        ap (λ n. drop (4 + n) body) size_is ∙ behind_is info found.body (a ∷ b ∷ c ∷ d ∷ []) in
        record {
          body = body;
          more = found.more;
          parts =
              ap (λ bytes. a ∷ b ∷ c ∷ d ∷ bytes)
              (split.parts ∙ ap (λ bytes. info ++ bytes) found.parts
              ∙ sym (append_assoc info found.body found.more));
          size = omega (arith, all_size, found.size);
          whole = pmt-whole body (record {
            head = omega arith;
            room = omega (arith, all_size, size_is);
            descriptors = ap are_descriptors descriptors ∙ descriptors_again info whole.0;
            streams = ap are_streams loop ∙ found.whole;
          });
          says = (refl, ap streams_of loop ∙ found.listed);
          has = found.has;
        }

    with-split : Split info tail (flat_map stream_rows streams ++ fields) → AreBytes tail
        → (c * 256 + d) % 4096 ≡ length info
        → BodyAgain (pmt_table service pcr info streams) (a ∷ b ∷ c ∷ d ∷ tail) fields
    with-split split small_tail size_is =
        with-loop split size_is
        (streams_again streams split.more fields (AreBytes_behind info split.more tail split.parts small_tail)
        whole.1 (split.has, split.fit))

-- the bytes of a section of a table, the head one by one
record Cells (table : Table) : Type 0 where
  version : ℕ
  section : ℕ
  last : ℕ
  size_high : ℕ
  size_low : ℕ
  id_high : ℕ
  id_low : ℕ
  body : List ℕ
  crc : List ℕ
  size : (size_high * 256 + size_low) % 4096 ≡ 9 + body_size table
  id : id_high * 256 + id_low ≡ table_number table
  current : version % 2 ≡ 1
  long : length body ≡ body_size table
  four : length crc ≡ 4
  whole : is_body (table_id table) body ≡ true

abbrev bytes_in : (table : Table) → Cells table → List ℕ
bytes_in table cells =
    table_id table ∷ cells.size_high ∷ cells.size_low ∷ cells.id_high ∷ cells.id_low ∷ cells.version
    ∷ cells.section ∷ cells.last
    ∷ (cells.body ++ cells.crc)

known_table : (table : Table) → (table_id table == 0 || table_id table == 2) ≡ true
known_table (pat_table id entries) = refl
known_table (pmt_table service pcr info streams) = refl

cells_right : (table : Table) (cells : Cells table) (more : List ℕ) → 9 + body_size table ≤ 1021
    → crc_of (bytes_in table cells) ≡ 0
    → valid_section (bytes_in table cells ++ more)
    ≡ Some (if table_id table == 0 then Pat (table_number table) cells.body
    else Pmt (table_number table) (streams_in cells.body))
cells_right table cells more short check =
    let bytes : List ℕ = bytes_in table cells in
    let size : ℕ = 9 + body_size table in
    let body : List ℕ = cells.body in
    let inner = length-append body cells.crc in
    let outer = length-append (body ++ cells.crc) more in
    let have : length bytes ≡ 3 + size = omega (arith, inner, cells.long, cells.four) in
    let taken : take (3 + size) (bytes ++ more) ≡ bytes = take_at bytes more (3 + size) have in
    let head : ltb (length (bytes ++ more)) 3 ≡ false = le-ltb _ _ (omega (arith, outer, inner)) in
    let room : ltb (length (bytes ++ more)) (3 + (cells.size_high * 256 + cells.size_low) % 4096) ≡ false =
    le-ltb _ _ (omega (arith, outer, inner, cells.size, cells.long, cells.four)) in
    let even : (cells.version % 2 == 0) ≡ false = let odd = cells.current in grind (arith, nat_tests) in
    let passes : PassesHead (bytes ++ more) size = record {
      size_is = sym cells.size;
      whole = rw (head, room) refl;
      fits = (omega arith, short);
      right_crc = ap crc_of taken ∙ check;
      table = known_table table;
      current = even;
    } in
    let count : 3 + size - 4 - 8 ≡ length body = omega (arith, cells.long) in
    let same : take (3 + size - 4 - 8) ((body ++ cells.crc) ++ more) ≡ body =
    ap (take (3 + size - 4 - 8)) (append_assoc body cells.crc more)
    ∙ take_at body (cells.crc ++ more) (3 + size - 4 - 8) (sym count) in
    valid_value (bytes ++ more) size
    (if table_id table == 0 then Pat (table_number table) body else Pmt (table_number table) (streams_in body))
    passes
    (ap (is_body (table_id table)) same ∙ cells.whole) (rw (same, cells.id) refl)

section_again : (bytes more : List ℕ) (table : Table) → AreBytes bytes → IsSection bytes table
    → (value : SectionValue) × (valid_section (bytes ++ more) ≡ Some value) × Says value table
section_again ([]) more table small is = absurd (omega (arith, fields_bytes _ ([]) is.layout))
section_again (a ∷ []) more table small is = absurd (omega (arith, fields_bytes _ (a ∷ []) is.layout))
section_again (a ∷ b ∷ []) more table small is = absurd (omega (arith, fields_bytes _ (a ∷ b ∷ []) is.layout))
section_again (a ∷ b ∷ c ∷ []) more table small is =
    absurd (omega (arith, fields_bytes _ (a ∷ b ∷ c ∷ []) is.layout))
section_again (a ∷ b ∷ c ∷ d ∷ []) more table small is =
    absurd (omega (arith, fields_bytes _ (a ∷ b ∷ c ∷ d ∷ []) is.layout))
section_again (a ∷ b ∷ c ∷ d ∷ e ∷ []) more table small is =
    absurd (omega (arith, fields_bytes _ (a ∷ b ∷ c ∷ d ∷ e ∷ []) is.layout))
section_again (a ∷ b ∷ c ∷ d ∷ e ∷ f ∷ []) more table small is =
    absurd (omega (arith, fields_bytes _ (a ∷ b ∷ c ∷ d ∷ e ∷ f ∷ []) is.layout))
section_again (a ∷ b ∷ c ∷ d ∷ e ∷ f ∷ g ∷ []) more table small is =
    absurd (omega (arith, fields_bytes _ (a ∷ b ∷ c ∷ d ∷ e ∷ f ∷ g ∷ []) is.layout))
section_again (a ∷ b ∷ c ∷ d ∷ e ∷ f ∷ g ∷ h ∷ rest) more table small is =
    let tail : List Field = body_rows table ++ number 32 is.marks.check ∷ [] in
    let kind = take_byte (table_id table) a _ _ is.fits.0 (small 0) is.layout in
    let size = take_r4_12 b c (9 + body_size table) _ _ (small 1) (small 2) is.fits.1.1.0 kind.1 in
    let named = take_word (table_number table) d e _ _ is.fits.1.1.1.0 (small 3) (small 4) size.1 in
    let version = take_2_5_1 f is.marks.version _ _ (small 5) is.fits.1.1.1.1.1.0 named.1 in
    let section = take_byte is.marks.section g _ _ is.fits.1.1.1.1.1.1.1.0 (small 6) version.1 in
    let last = take_byte is.marks.last h tail rest is.fits.1.1.1.1.1.1.1.1.0 (small 7) section.1 in
    let small_rest : AreBytes rest = λ i. small (suc (suc (suc (suc (suc (suc (suc (suc i)))))))) in
    with-body
    (body_again table rest (number 32 is.marks.check ∷ []) small_rest is.descriptors
    (last.1, is.fits.1.1.1.1.1.1.1.1.1)) kind.0 (size.0, named.0, version.0)
  where
    with-body : BodyAgain table rest (number 32 is.marks.check ∷ []) → a ≡ table_id table
        → ((b * 256 + c) % 4096 ≡ 9 + body_size table) × (d * 256 + e ≡ table_number table) × (f % 2 ≡ 1)
        → (value : SectionValue)
        × (valid_section ((a ∷ b ∷ c ∷ d ∷ e ∷ f ∷ g ∷ h ∷ rest) ++ more) ≡ Some value)
        × Says value table
    with-body body kind says =
        let cells : Cells table = record {
          version = f;
          section = g;
          last = h;
          size_high = b;
          size_low = c;
          id_high = d;
          id_low = e;
          body = body.body;
          crc = body.more;
          size = says.0;
          id = says.1;
          current = says.2;
          long = body.size;
          four = omega (arith, fields_bytes _ body.more body.has.0);
          whole = body.whole;
        } in
        let parts : a ∷ b ∷ c ∷ d ∷ e ∷ f ∷ g ∷ h ∷ rest ≡ bytes_in table cells =
        ap (λ n. n ∷ b ∷ c ∷ d ∷ e ∷ f ∷ g ∷ h ∷ rest) kind
        ∙ ap (λ tail. table_id table ∷ b ∷ c ∷ d ∷ e ∷ f ∷ g ∷ h ∷ tail) body.parts in (
          if table_id table == 0 then Pat (table_number table) body.body
              else Pmt (table_number table) (streams_in body.body),
          ap (λ bytes. valid_section (bytes ++ more)) parts
              ∙ cells_right table cells more is.short (ap crc_of (sym parts) ∙ is.right_crc),
          body.says,
        )

-- ---- the laws

pub laid_out : (bytes : List ℕ) (value : SectionValue) → All (λ byte. byte < 256) bytes
    → valid_section bytes ≡ Some value
    → (table : Table) × IsSection (take (section_size bytes) bytes) table × Says value table
laid_out bytes value small right =
    let found = by_value bytes value right in
    let laid = section_laid bytes (all_bytes bytes small) (passes bytes found.0) in
    (laid.0, laid.1, subst (λ value. Says value laid.0) found.1 laid.2)

pub taken_again : (bytes more : List ℕ) (table : Table) → All (λ byte. byte < 256) bytes → IsSection bytes table
    → (value : SectionValue) × (valid_section (bytes ++ more) ≡ Some value) × Says value table
taken_again bytes more table small is = section_again bytes more table (all_bytes bytes small) is
