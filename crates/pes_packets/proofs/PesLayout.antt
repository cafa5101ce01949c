-- Bytes that pass a reader's tests have the layout, and bytes of the layout pass them.
use Rattle.std.proofs.Common.{◌≡◌, ℕ, ◌+◌, ◌-◌, ◌*◌, ◌/◌, ◌%◌, ◌^◌, ◌<◌, ◌≤◌, List, [], ◌∷◌, ◌++◌, length, take, drop, get_or, Option, Some, None, Ok, refl, sym, ap, ◌∙◌, subst, arith, rules, append_assoc}
use Rattle.std.proofs.lemmas.List.{drop_more, drop-drop, take-append-drop, length-append, get_or_at, get_or-append-add, drop_at, length-take}
use Rattle.byteorder.specs.Endian.{big_number}
use Rattle.stream_syntax.specs.declared.pes.PesFault.{PesFault}
use Rattle.stream_syntax.specs.BitFields.{AreGroups, packed}
use Rattle.stream_syntax.specs.Pes.{PesForm, pes_groups, pes_bytes, IsSubtitleForm, IsPes, field_place, pes_fault, pts_in, segments_in, pes_of, unless_fault}
use Rattle.pes_packets.proofs.ReaderTests.{Passes, passes_is_faultless, faultless_passes}

-- ---- bytes of the layout pass the tests

-- what stands in front of the data field
abbrev front : PesForm → List ℕ
front form = packed (pes_groups form) ++ form.further_header

-- an item and what follows it behind a prefix of known length
item_behind : (xs front rest : List ℕ) (n item : ℕ) → xs ≡ front ++ item ∷ rest → length front ≡ n
    → get_or xs n 0 ≡ item
item_behind xs front rest n item e len = ap (λ (ys : List ℕ). get_or ys n 0) e ∙ get_or_at front item rest 0 n len

rest_behind : (xs front rest : List ℕ) (n : ℕ) → xs ≡ front ++ rest → length front ≡ n
    → drop n xs ≡ rest
rest_behind xs front rest n e len = ap (λ (ys : List ℕ). drop n ys) e ∙ drop_at front rest n len

-- the data field behind the front, in two ways of writing it
field_parts : (form : PesForm) (pts : ℕ) (segments : List ℕ) → IsSubtitleForm form pts segments
    → pes_bytes form ≡ (packed (pes_groups form) ++ form.further_header) ++ 0x20 ∷ 0 ∷ segments
field_parts form pts segments taken =
    ap (λ (xs : List ℕ). packed (pes_groups form) ++ (form.further_header ++ xs)) taken.subtitles
    ∙ sym (append_assoc (packed (pes_groups form)) form.further_header (0x20 ∷ 0 ∷ segments))

regroup : (xs ys : List ℕ) (a b : ℕ) → xs ++ a ∷ b ∷ ys ≡ (xs ++ a ∷ []) ++ b ∷ ys
regroup xs ys a b = sym (append_assoc xs (a ∷ []) (b ∷ ys))

regroup_both : (xs ys : List ℕ) (a b : ℕ) → xs ++ a ∷ b ∷ ys ≡ (xs ++ a ∷ b ∷ []) ++ ys
regroup_both xs ys a b = sym (append_assoc xs (a ∷ b ∷ []) ys)

size_of : (form : PesForm) (pts : ℕ) (segments : List ℕ) → IsSubtitleForm form pts segments
    → length (pes_bytes form) ≡ 14 + (length form.further_header + (2 + length segments))
size_of form pts segments taken =
    rw taken.subtitles (omega (arith, length-append form.further_header (0x20 ∷ 0 ∷ segments)))

pub form_passes : (form : PesForm) (pts : ℕ) (segments : List ℕ) → IsSubtitleForm form pts segments
    → Passes (pes_bytes form)
form_passes form pts segments taken =
    let size = size_of form pts segments taken in
    let parts = field_parts form pts segments taken in
    let place : length (front form) ≡ field_place (pes_bytes form) = omega (arith, taken.header, taken.fits) in
    let second_place : length (front form ++ 0x20 ∷ []) ≡ field_place (pes_bytes form) + 1 =
    omega (arith, place, length-append (front form) (0x20 ∷ [])) in
    let fits = taken.fits in
    let clear = taken.clear in
    let timed = taken.timed in
    let whole = taken.whole in
    record {
      start = omega arith;
      prefix = refl;
      stream = omega (arith, taken.private_stream);
      head = omega arith;
      count = omega arith;
      bits = omega arith;
      clear = omega arith;
      timed = omega arith;
      header = omega (arith, taken.header);
      room = omega (arith, taken.header);
      first_marker = omega arith;
      second_marker = omega arith;
      third_marker = omega arith;
      identifier =
          item_behind (pes_bytes form) (front form) (0 ∷ segments) (field_place (pes_bytes form)) 0x20 parts place;
      stream_number =
          item_behind (pes_bytes form) (front form ++ 0x20 ∷ []) segments (field_place (pes_bytes form) + 1) 0
          (parts ∙ regroup (front form) segments 0x20 0) second_place;
    }

-- the three parts of a time and their marker bits, as the number in their bytes
time_again : (pts first second third : ℕ) → pts < 2 ^ 33 → first < 2 ^ 8 → first / 2 % 8 ≡ pts / 2 ^ 30
    → second ≡ pts / 2 ^ 15 % 2 ^ 15 * 2 + 1 → third ≡ pts % 2 ^ 15 * 2 + 1
    → first / 2 % 8 * 2 ^ 30 + second / 2 * 2 ^ 15 + third / 2 ≡ pts
time_again pts first second third small byte high middle low = omega arith

two_bytes : (n : ℕ) → n < 2 ^ 16 → n / 256 % 256 * 256 + n % 256 ≡ n
two_bytes n small = omega arith

form_time : (form : PesForm) (pts : ℕ) (segments : List ℕ) → IsSubtitleForm form pts segments
    → pts_in (pes_bytes form) ≡ pts
form_time form pts segments taken =
    let small : form.pts < 2 ^ 33 = omega (arith, taken.fits) in
    let high : get_or (pes_bytes form) 9 0 / 2 % 8 ≡ form.pts / 2 ^ 30 = omega (arith, taken.fits) in
    let middle : big_number 2 (drop 10 (pes_bytes form)) ≡ form.pts / 2 ^ 15 % 2 ^ 15 * 2 + 1 =
    omega (arith, two_bytes (form.pts / 2 ^ 15 % 2 ^ 15 * 2 + 1)) in
    let low : big_number 2 (drop 12 (pes_bytes form)) ≡ form.pts % 2 ^ 15 * 2 + 1 =
    omega (arith, two_bytes (form.pts % 2 ^ 15 * 2 + 1)) in
    time_again form.pts (get_or (pes_bytes form) 9 0) (big_number 2 (drop 10 (pes_bytes form)))
    (big_number 2 (drop 12 (pes_bytes form))) small (omega arith) high middle low ∙ taken.time

form_segments : (form : PesForm) (pts : ℕ) (segments : List ℕ) → IsSubtitleForm form pts segments
    → segments_in (pes_bytes form) ≡ segments
form_segments form pts segments taken =
    let parts = field_parts form pts segments taken ∙ regroup_both (front form) segments 0x20 0 in
    let place : length (front form ++ 0x20 ∷ 0 ∷ []) ≡ field_place (pes_bytes form) + 2 =
    omega (arith, taken.header, taken.fits, length-append (front form) (0x20 ∷ 0 ∷ [])) in
    rest_behind (pes_bytes form) (front form ++ 0x20 ∷ 0 ∷ []) segments (field_place (pes_bytes form) + 2) parts
    place

-- what has the layout is read
pub pes_is_read : (bytes : List ℕ) (pts : ℕ) (segments : List ℕ) → IsPes bytes pts segments
    → pes_of bytes ≡ Ok (pts, segments)
pes_is_read bytes pts segments pes =
    ap pes_of pes.layout
    ∙ ap (λ (fault : Option PesFault). unless_fault fault
    (pts_in (pes_bytes pes.form), segments_in (pes_bytes pes.form)))
    (passes_is_faultless (pes_bytes pes.form) (form_passes pes.form pts segments pes.taken))
    ∙ ap (λ (time : ℕ). Ok (time, segments_in (pes_bytes pes.form))) (form_time pes.form pts segments pes.taken)
    ∙ ap (λ (rest : List ℕ). Ok (pts, rest)) (form_segments pes.form pts segments pes.taken)

-- ---- bytes that pass the tests have the layout

-- the form that bytes have
abbrev form_in : ℕ → ℕ → ℕ → ℕ → ℕ → ℕ → ℕ → List ℕ → List ℕ → PesForm
form_in stream count sixth seventh eighth ninth time further field = record {
  stream_id = stream;
  packet_length = count;
  scrambling = sixth / 16 % 4;
  priority = sixth / 8 % 2;
  alignment = sixth / 4 % 2;
  copyright = sixth / 2 % 2;
  original = sixth % 2;
  pts_dts_flags = seventh / 64;
  further_flags = seventh % 64;
  header_length = eighth;
  pts_prefix = ninth / 16;
  pts = time;
  further_header = further;
  data_field = field;
}

-- a time's parts
time_high : (top middle low : ℕ) → middle < 2 ^ 15 → low < 2 ^ 15
    → (top * 2 ^ 30 + middle * 2 ^ 15 + low) / 2 ^ 30 ≡ top
time_high top middle low m l = omega arith

time_middle : (top middle low : ℕ) → middle < 2 ^ 15 → low < 2 ^ 15
    → (top * 2 ^ 30 + middle * 2 ^ 15 + low) / 2 ^ 15 % 2 ^ 15 ≡ middle
time_middle top middle low m l = omega arith

time_low : (top middle low : ℕ) → middle < 2 ^ 15 → low < 2 ^ 15
    → (top * 2 ^ 30 + middle * 2 ^ 15 + low) % 2 ^ 15 ≡ low
time_low top middle low m l = omega arith

-- a control byte from its fields
control_byte : (b : ℕ) → b < 256 → b / 64 ≡ 2
    → (2 * 64 + (b / 16 % 4 * 16 + (b / 8 % 2 * 8 + (b / 4 % 2 * 4 + (b / 2 % 2 * 2 + (b % 2 * 1 + 0)))))) % 256 ≡ b
control_byte b small high = omega arith

flags_byte : (b : ℕ) → b < 256 → (b / 64 * 64 + (b % 64 * 1 + 0)) % 256 ≡ b
flags_byte b small = omega arith

time_byte : (b : ℕ) → b < 256 → b % 2 ≡ 1 → (b / 16 * 16 + (b / 2 % 8 * 2 + (1 * 1 + 0))) % 256 ≡ b
time_byte b small marked = omega arith

high_byte : (a b : ℕ) → a < 256 → b < 256 → b % 2 ≡ 1
    → ((a * 256 + b) / 2 * 2 + (1 * 1 + 0)) / 256 % 256 ≡ a
high_byte a b s t marked = omega arith

low_byte : (a b : ℕ) → a < 256 → b < 256 → b % 2 ≡ 1 → ((a * 256 + b) / 2 * 2 + (1 * 1 + 0)) % 256 ≡ b
low_byte a b s t marked = omega arith

-- the two bytes at a place, and the rest
two_at : (xs : List ℕ) (n a b : ℕ) → n + 2 ≤ length xs → get_or xs n 0 ≡ a
    → get_or xs (n + 1) 0 ≡ b → drop n xs ≡ a ∷ b ∷ drop (n + 2) xs
two_at xs n a b room first second =
    drop_more xs n 0 (omega arith)
    ∙ ap (λ (item : ℕ). item ∷ drop (n + 1) xs) first
    ∙ ap (λ (rest : List ℕ). a ∷ rest)
    (drop_more xs (n + 1) 0 (omega arith) ∙ ap (λ (item : ℕ). item ∷ drop (n + 1 + 1) xs) second
    ∙ ap (λ (k : ℕ). b ∷ drop k xs) (omega arith))

cons_same : (a b : ℕ) (xs ys : List ℕ) → a ≡ b → xs ≡ ys → a ∷ xs ≡ b ∷ ys
cons_same a b xs ys e f = cc

module _ (b0 b1 b2 b3 b4 b5 b6 b7 b8 b9 b10 b11 b12 b13 : ℕ) (rest : List ℕ) where
  abbrev all_bytes : List ℕ
  all_bytes = b0 ∷ b1 ∷ b2 ∷ b3 ∷ b4 ∷ b5 ∷ b6 ∷ b7 ∷ b8 ∷ b9 ∷ b10 ∷ b11 ∷ b12 ∷ b13 ∷ rest

  abbrev form_of : PesForm
  form_of =
      form_in b3 (b4 * 256 + b5) b6 b7 b8 b9
      (b9 / 2 % 8 * 2 ^ 30 + (b10 * 256 + b11) / 2 * 2 ^ 15 + (b12 * 256 + b13) / 2) (take (b8 - 5) rest)
      (drop (b8 - 5) rest)

  form_of_time : (fits : (i : ℕ) → get_or all_bytes i 0 < 256) → pts_in all_bytes ≡ form_of.pts
  form_of_time fits = omega arith

  abbrev first_bytes : List ℕ
  first_bytes = b0 ∷ b1 ∷ b2 ∷ b3 ∷ b4 ∷ b5 ∷ b6 ∷ b7 ∷ b8 ∷ b9 ∷ b10 ∷ b11 ∷ b12 ∷ b13 ∷ []

  byte_behind : (n place : ℕ) → place ≡ 14 + n → get_or rest n 0 ≡ get_or all_bytes place 0
  byte_behind n place e = sym (ap (λ (k : ℕ). get_or all_bytes k 0) e ∙ get_or-append-add first_bytes rest n 0)

  bytes_behind : (n place : ℕ) → place ≡ 14 + n → drop n rest ≡ drop place all_bytes
  bytes_behind n place e = drop-drop n 14 all_bytes ∙ ap (λ (k : ℕ). drop k all_bytes) (sym e)

  form_of_field : Passes all_bytes → drop (b8 - 5) rest ≡ 0x20 ∷ 0 ∷ segments_in all_bytes
  form_of_field p =
      let header = p.header in
      let room = p.room in
      two_at rest (b8 - 5) 0x20 0 (omega arith)
      (byte_behind (b8 - 5) (field_place all_bytes) (omega arith) ∙ p.identifier)
      (byte_behind (b8 - 5 + 1) (field_place all_bytes + 1) (omega arith) ∙ p.stream_number)
      ∙ ap (λ (segments : List ℕ). 0x20 ∷ 0 ∷ segments)
      (bytes_behind (b8 - 5 + 2) (field_place all_bytes + 2) (omega arith))

  form_of_fits : (fits : (i : ℕ) → get_or all_bytes i 0 < 256) → AreGroups (pes_groups form_of)
  form_of_fits fits =
      let f3 : b3 < 256 = fits 3 in
      let f4 : b4 < 256 = fits 4 in
      let f5 : b5 < 256 = fits 5 in
      let f6 : b6 < 256 = fits 6 in
      let f7 : b7 < 256 = fits 7 in
      let f8 : b8 < 256 = fits 8 in
      let f9 : b9 < 256 = fits 9 in
      let f10 : b10 < 256 = fits 10 in
      let f11 : b11 < 256 = fits 11 in
      let f12 : b12 < 256 = fits 12 in
      let f13 : b13 < 256 = fits 13 in
      search (rules, arith)

  form_of_taken : (fits : (i : ℕ) → get_or all_bytes i 0 < 256) → Passes all_bytes
      → IsSubtitleForm form_of (pts_in all_bytes) (segments_in all_bytes)
  form_of_taken fits p =
      let room = p.room in
      let header = p.header in
      let count = p.count in
      record {
        fits = form_of_fits fits;
        private_stream = p.stream;
        whole = omega (arith, ap length (take-append-drop (b8 - 5) rest));
        clear = p.clear;
        timed = p.timed;
        header = omega (arith, length-take (b8 - 5) rest);
        time = sym (form_of_time fits);
        subtitles = form_of_field p;
      }

  form_of_layout : (fits : (i : ℕ) → get_or all_bytes i 0 < 256) → Passes all_bytes
      → all_bytes ≡ pes_bytes form_of
  form_of_layout fits p =
      let high : (b10 * 256 + b11) / 2 < 2 ^ 15 = omega (arith, fits 10, fits 11) in
      let low : (b12 * 256 + b13) / 2 < 2 ^ 15 = omega (arith, fits 12, fits 13) in
      let top : form_of.pts / 2 ^ 30 ≡ b9 / 2 % 8 =
      time_high (b9 / 2 % 8) ((b10 * 256 + b11) / 2) ((b12 * 256 + b13) / 2) high low in
      let middle : form_of.pts / 2 ^ 15 % 2 ^ 15 ≡ (b10 * 256 + b11) / 2 =
      time_middle (b9 / 2 % 8) ((b10 * 256 + b11) / 2) ((b12 * 256 + b13) / 2) high low in
      let last : form_of.pts % 2 ^ 15 ≡ (b12 * 256 + b13) / 2 =
      time_low (b9 / 2 % 8) ((b10 * 256 + b11) / 2) ((b12 * 256 + b13) / 2) high low in
      cons_same _ _ _ _ (omega (arith, fits 0, fits 1, fits 2, p.prefix))
      (cons_same _ _ _ _ (omega (arith, fits 0, fits 1, fits 2, p.prefix))
      (cons_same _ _ _ _ (omega (arith, fits 0, fits 1, fits 2, p.prefix))
      (cons_same _ _ _ _ (omega (arith, fits 3))
      (cons_same _ _ _ _ (omega (arith, fits 4, fits 5))
      (cons_same _ _ _ _ (omega (arith, fits 4, fits 5))
      (cons_same _ _ _ _ (sym (control_byte b6 (fits 6) p.bits))
      (cons_same _ _ _ _ (sym (flags_byte b7 (fits 7)))
      (cons_same _ _ _ _ (omega (arith, fits 8))
      (cons_same _ _ _ _ (sym (rw top (time_byte b9 (fits 9) p.first_marker)))
      (cons_same _ _ _ _ (sym (rw middle (high_byte b10 b11 (fits 10) (fits 11) p.second_marker)))
      (cons_same _ _ _ _ (sym (rw middle (low_byte b10 b11 (fits 10) (fits 11) p.second_marker)))
      (cons_same _ _ _ _ (sym (rw last (high_byte b12 b13 (fits 12) (fits 13) p.third_marker)))
      (cons_same _ _ _ _ (sym (rw last (low_byte b12 b13 (fits 12) (fits 13) p.third_marker)))
      (sym (take-append-drop (b8 - 5) rest)))))))))))))))

faultless_is_pes : (bytes : List ℕ) → ((i : ℕ) → get_or bytes i 0 < 256) → Passes bytes
    → IsPes bytes (pts_in bytes) (segments_in bytes)
faultless_is_pes
    (b0 ∷ b1 ∷ b2 ∷ b3 ∷ b4 ∷ b5 ∷ b6 ∷ b7 ∷ b8 ∷ b9 ∷ b10 ∷ b11 ∷ b12 ∷ b13 ∷ rest) fits
    p = record {
      form = form_of b0 b1 b2 b3 b4 b5 b6 b7 b8 b9 b10 b11 b12 b13 rest;
      taken = form_of_taken b0 b1 b2 b3 b4 b5 b6 b7 b8 b9 b10 b11 b12 b13 rest fits p;
      layout = form_of_layout b0 b1 b2 b3 b4 b5 b6 b7 b8 b9 b10 b11 b12 b13 rest fits p;
    }
faultless_is_pes bytes fits p = absurd (omega (arith, p.room, p.header))

unless_ok : (fault : Option PesFault) (value answer : ℕ × List ℕ) → unless_fault fault value ≡ Ok answer
    → (fault ≡ None) × (value ≡ answer)
unless_ok None value answer e = (refl, cc)
unless_ok (Some fault) value answer e = absurd cc

-- what is read has the layout
pub read_is_pes : (bytes : List ℕ) → ((i : ℕ) → get_or bytes i 0 < 256)
    → (pts : ℕ) (segments : List ℕ) → pes_of bytes ≡ Ok (pts, segments) → IsPes bytes pts segments
read_is_pes bytes fits pts segments e =
    let read = unless_ok (pes_fault bytes) (pts_in bytes, segments_in bytes) (pts, segments) e in
    let P : ℕ × List ℕ → Type 0 = λ value. IsPes bytes value.0 value.1 in
    subst P read.1 (faultless_is_pes bytes fits (faultless_passes bytes read.0))
