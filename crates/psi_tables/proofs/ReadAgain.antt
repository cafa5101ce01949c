-- What was written is read again, whatever follows it.
use Rattle.std.proofs.Common.{◌≡◌, ℕ, ◌+◌, ◌-◌, ◌*◌, ◌/◌, ◌%◌, ◌^◌, ◌<◌, ◌≤◌, true, false, ltb, List, [], ◌∷◌, ◌++◌, length, take, Some, None, refl, sym, ap, ◌∙◌, append_assoc, arith}
use Rattle.std.specs.Prelude.{◌==◌, ◌||◌, if◌then◌else◌}
use Rattle.std.specs.List.{flat_map}
use Rattle.std.proofs.lemmas.Bool.{le-ltb}
use Rattle.std.proofs.lemmas.Bool.Decides.{nat_tests}
use Rattle.std.proofs.lemmas.List.{length-append, take_at}
use Rattle.byteorder.specs.Endian.{big_bytes}
use Rattle.psi_tables.specs.Crc.{crc_of}
use Rattle.psi_tables.specs.Laws.{IsService}
use Rattle.psi_tables.specs.Loops.{descriptors_of, streams_of, twelve_at}
use Rattle.psi_tables.specs.Sections.{Pat, Pmt, is_body, is_cut, is_pmt_body, valid_section, section_size, streams_in, whole_section}
use Rattle.psi_tables.specs.Services.{named_by, pid_in, pid_named, subtitle_pid}
use Rattle.psi_tables.specs.Writing.{before_crc, pat_entry, pmt_body, written_pat, written_pmt, written_section}
use Rattle.psi_tables.specs.declared.service.Service.{Service}
use Rattle.psi_tables.proofs.OwnCrc.{written_crc}
use Rattle.psi_tables.proofs.SectionLaws.{PassesHead, valid_value}
use Rattle.psi_tables.proofs.WritingLaws.{pat_size}

-- a section that can be written: a PAT or a PMT, with a body of its kind
record IsWritable (table id : ℕ) (body : List ℕ) : Type 0 where
  table_is : (table == 0 || table == 2) ≡ true
  id_fits : id < 2 ^ 16
  short : length body ≤ 1012
  body_is : is_body table body ≡ true

written-length : (table id : ℕ) (body : List ℕ) → length (written_section table id body) ≡ 12 + length body
written-length table id body = omega (arith, length-append body (big_bytes 4 (crc_of (before_crc table id body))))

length-is : (table id : ℕ) (body more : List ℕ) → length body ≤ 1012
    → 9 + length body ≡ twelve_at 1 (written_section table id body ++ more)
length-is table id body more short = omega arith

size-is : (table id : ℕ) (body more : List ℕ) → length body ≤ 1012
    → section_size (written_section table id body ++ more) ≡ length (written_section table id body)
size-is table id body more short = omega (arith, length-is table id body more short, written-length table id body)

taken : (table id : ℕ) (body more : List ℕ) → length body ≤ 1012
    → take (section_size (written_section table id body ++ more)) (written_section table id body ++ more)
    ≡ written_section table id body
taken table id body more short = take_at (written_section table id body) more _ (sym (size-is table id body more short))

is-whole : (table id : ℕ) (body more : List ℕ) → length body ≤ 1012
    → is_cut (written_section table id body ++ more) ≡ false
is-whole table id body more short =
    let all = length-append (written_section table id body) more in
    let head : ltb (length (written_section table id body ++ more)) 3 ≡ false =
    le-ltb _ _ (omega (arith, all, written-length table id body)) in
    let rest : ltb (length (written_section table id body ++ more))
    (section_size (written_section table id body ++ more)) ≡ false =
    le-ltb _ _ (omega (arith, all, size-is table id body more short)) in
    rw (head, rest) refl

whole_written : (table id : ℕ) (body more : List ℕ) → length body ≤ 1012
    → whole_section (written_section table id body ++ more) ≡ Some (written_section table id body)
whole_written table id body more short =
    rw (is-whole table id body more short) (ap Some (taken table id body more short))

read_written : (table id : ℕ) (body more : List ℕ) → IsWritable table id body
    → valid_section (written_section table id body ++ more)
    ≡ Some (if table == 0 then Pat id body else Pmt id (streams_in body))
read_written table id body more is =
    let passes : PassesHead (written_section table id body ++ more) (9 + length body) = record {
      size_is = length-is table id body more is.short;
      whole = is-whole table id body more is.short;
      fits = (omega arith, omega (arith, is.short));
      right_crc =
          ap (λ n. crc_of (take n (written_section table id body ++ more)))
          (ap (λ n. 3 + n) (length-is table id body more is.short))
          ∙ ap crc_of (taken table id body more is.short) ∙ written_crc (before_crc table id body);
      table = is.table_is;
      current = refl;
    } in
    let crc : List ℕ = big_bytes 4 (crc_of (before_crc table id body)) in
    let size : 3 + (9 + length body) - 4 - 8 ≡ length body = omega arith in
    let same : take (3 + (9 + length body) - 4 - 8) ((body ++ crc) ++ more) ≡ body =
    ap (take (3 + (9 + length body) - 4 - 8)) (append_assoc body crc more)
    ∙ take_at body (crc ++ more) _ (sym size) in
    let id_is : id / 256 % 256 * 256 + id % 256 ≡ id = omega (arith, is.id_fits) in
    valid_value (written_section table id body ++ more) (9 + length body)
    (if table == 0 then Pat id body else Pmt id (streams_in body)) passes
    (ap (is_body table) same ∙ is.body_is)
    (rw (same, id_is) refl)

-- ---- PATs

pat_writable : (services : List Service) → length services ≤ 8 → IsWritable 0 1 (flat_map pat_entry services)
pat_writable services few =
    let size = pat_size services in
    record {
      table_is = refl;
      id_fits = omega arith;
      short = omega (arith, size);
      body_is = rw size
          (grind (arith, nat_tests));
    }

pub pat_again : (services : List Service) (more : List ℕ) → length services ≤ 8
    → valid_section (written_pat services ++ more) ≡ Some (Pat 1 (flat_map pat_entry services))
pat_again services more few = read_written 0 1 (flat_map pat_entry services) more (pat_writable services few)

pub whole_pat : (services : List Service) (more : List ℕ) → length services ≤ 8
    → whole_section (written_pat services ++ more) ≡ Some (written_pat services)
whole_pat services more few = whole_written 0 1 (flat_map pat_entry services) more (omega (arith, pat_size services))

-- ---- PMTs

-- the body of a PMT by its parts
abbrev pmt_parts : (pid page : ℕ) (language : List ℕ) → List ℕ
pmt_parts pid page language = pmt_body (record { number = 0; pmt = 0; pid = pid; page = page; language = language })

parts-size : (pid page : ℕ) (language : List ℕ) → length language ≡ 3
    → length (pmt_parts pid page language) ≡ 19
parts-size pid page language three =
    omega (arith, three, length-append language (0x10 ∷ (big_bytes 2 page ++ big_bytes 2 page)))

parts-whole : (pid page : ℕ) (language : List ℕ) → length language ≡ 3
    → is_pmt_body (pmt_parts pid page language) ≡ true
unfolding descriptors_of streams_of
parts-whole pid page (a ∷ b ∷ d ∷ []) three = refl
parts-whole pid page [] three = absurd (omega (arith, three))
parts-whole pid page (a ∷ []) three = absurd (omega (arith, three))
parts-whole pid page (a ∷ b ∷ []) three = absurd (omega (arith, three))
parts-whole pid page (a ∷ b ∷ d ∷ e ∷ more) three = absurd (omega (arith, three))

parts-pid : (pid page : ℕ) (language : List ℕ) → length language ≡ 3 → pid < 2 ^ 13
    → subtitle_pid (streams_in (pmt_parts pid page language)) ≡ Some pid
unfolding descriptors_of streams_of
parts-pid pid page (a ∷ b ∷ d ∷ []) three fits = ap Some (omega (arith, fits))
parts-pid pid page [] three fits = absurd (omega (arith, three))
parts-pid pid page (a ∷ []) three fits = absurd (omega (arith, three))
parts-pid pid page (a ∷ b ∷ []) three fits = absurd (omega (arith, three))
parts-pid pid page (a ∷ b ∷ d ∷ e ∷ more) three fits = absurd (omega (arith, three))

pmt-short : (service : Service) → IsService service → length (pmt_body service) ≤ 1012
pmt-short service is = omega (arith, parts-size service.pid service.page service.language is.language_fits)

pub pmt_again : (service : Service) (more : List ℕ) → IsService service
    → pid_in service.number (written_pmt service ++ more) ≡ Some service.pid
pmt_again service more is =
    let body : List ℕ = pmt_body service in
    let writable : IsWritable 2 service.number body = record {
      table_is = refl;
      id_fits = is.number_fits;
      short = pmt-short service is;
      body_is = parts-whole service.pid service.page service.language is.language_fits;
    } in
    let same : (service.number == service.number) ≡ true = grind (arith, nat_tests) in
    ap (named_by (pid_named service.number)) (read_written 2 service.number body more writable)
    ∙ ap (λ own. if own then subtitle_pid (streams_in body) else None) same
    ∙ parts-pid service.pid service.page service.language is.language_fits is.pid_fits

pub whole_pmt : (service : Service) (more : List ℕ) → IsService service
    → whole_section (written_pmt service ++ more) ≡ Some (written_pmt service)
whole_pmt service more is = whole_written 2 service.number (pmt_body service) more (pmt-short service is)
