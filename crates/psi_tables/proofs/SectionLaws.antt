-- A section that no test refuses says what its bytes say; and what a reader answers is the only valid answer.
use Rattle.std.proofs.Common.{◌≡◌, ℕ, ◌+◌, ◌-◌, ◌%◌, ◌≤◌, true, false, ltb, List, take, drop, Option, Some, None, refl, sym, ap, subst, ◌∙◌, arith}
use Rattle.std.specs.Prelude.{◌==◌, ◌||◌, not, if◌then◌else◌, IsOkAnd, Result, Ok, Err, MatchResult}
use Rattle.std.proofs.lemmas.Bool.{le-ltb}
use Rattle.stream_syntax.specs.Tests.{byte_at, word_at}
use Rattle.psi_tables.specs.Crc.{crc_of}
use Rattle.psi_tables.specs.Loops.{twelve_at}
use Rattle.psi_tables.specs.Sections.{SectionValue, Pat, Pmt, body_of, contents, is_body, is_cut, valid_section, section_fault, section_size, section_value, streams_in, value_by}
use Rattle.psi_tables.specs.declared.section.Section.{Section}
use Rattle.psi_tables.specs.declared.fault.SectionFault.{SectionFault}
use Rattle.psi_tables.specs.declared.fault.SectionFault.TheVariants.{BadLoop}

-- no test of the head refuses these bytes, whose length is this
pub record PassesHead (bytes : List ℕ) (size : ℕ) : Type 0 where
  pub size_is : size ≡ twelve_at 1 bytes
  pub whole : is_cut bytes ≡ false
  pub fits : (9 ≤ size) × (size ≤ 1021)
  pub right_crc : crc_of (take (3 + size) bytes) ≡ 0
  pub table : (byte_at 0 bytes == 0 || byte_at 0 bytes == 2) ≡ true
  pub current : (byte_at 5 bytes % 2 == 0) ≡ false

by_body : (bytes : List ℕ) (size : ℕ) → PassesHead bytes size
    → section_fault bytes ≡ (if not (is_body (byte_at 0 bytes) (body_of bytes)) then Some BadLoop else None)
by_body bytes size passes =
    let short : ltb (twelve_at 1 bytes) 9 ≡ false = le-ltb _ _ (subst (λ n. 9 ≤ n) passes.size_is passes.fits.0) in
    let long : ltb 1021 (twelve_at 1 bytes) ≡ false =
    le-ltb _ _ (subst (λ n. n ≤ 1021) passes.size_is passes.fits.1) in
    let check : crc_of (take (section_size bytes) bytes) ≡ 0 =
    ap (λ n. crc_of (take (3 + n) bytes)) (sym passes.size_is) ∙ passes.right_crc in
    rw (passes.whole, short, long, check, passes.table, passes.current) refl

-- the slice that is the body
body_at : (bytes : List ℕ) (size : ℕ) → size ≡ twelve_at 1 bytes
    → take (3 + size - 4 - 8) (drop 8 bytes) ≡ body_of bytes
body_at bytes size is = ap (λ n. take n (drop 8 bytes)) (omega (arith, is))

pub bad_loop : (bytes : List ℕ) (size : ℕ) → PassesHead bytes size
    → is_body (byte_at 0 bytes) (take (3 + size - 4 - 8) (drop 8 bytes)) ≡ false
    → section_fault bytes ≡ Some BadLoop
bad_loop bytes size passes faulty =
    let body : is_body (byte_at 0 bytes) (body_of bytes) ≡ false =
    ap (is_body (byte_at 0 bytes)) (sym (body_at bytes size passes.size_is)) ∙ faulty in
    by_body bytes size passes ∙ ap (λ whole. if not whole then Some BadLoop else None) body

pub right_by : (bytes : List ℕ) → section_fault bytes ≡ None
    → valid_section bytes ≡ Some (section_value bytes)
right_by bytes none = ap (value_by bytes) none

pub valid_value : (bytes : List ℕ) (size : ℕ) (value : SectionValue) → PassesHead bytes size
    → is_body (byte_at 0 bytes) (take (3 + size - 4 - 8) (drop 8 bytes)) ≡ true
    → value ≡ (if byte_at 0 bytes == 0 then Pat (word_at 3 bytes) (take (3 + size - 4 - 8) (drop 8 bytes))
    else Pmt (word_at 3 bytes) (streams_in (take (3 + size - 4 - 8) (drop 8 bytes))))
    → valid_section bytes ≡ Some value
valid_value bytes size value passes whole is =
    let same = body_at bytes size passes.size_is in
    let body : is_body (byte_at 0 bytes) (body_of bytes) ≡ true =
    ap (is_body (byte_at 0 bytes)) (sym same) ∙ whole in
    right_by bytes (by_body bytes size passes ∙ ap (λ whole. if not whole then Some BadLoop else None) body)
    ∙ ap Some
    (sym (is ∙ ap
    (λ body. if byte_at 0 bytes == 0 then Pat (word_at 3 bytes) body else Pmt (word_at 3 bytes) (streams_in body))
    same))

some_is : {X : Type 0} {a b : X} → Some a ≡ Some b → a ≡ b
some_is e = cc

-- a value is that of a section without a fault
pub by_value : (bytes : List ℕ) (value : SectionValue) → valid_section bytes ≡ Some value
    → (section_fault bytes ≡ None) × (section_value bytes ≡ value)
by_value bytes value right = by_fault (section_fault bytes) refl
  where
    by_fault : (fault : Option SectionFault) → section_fault bytes ≡ fault → (section_fault bytes ≡ None)
        × (section_value bytes ≡ value)
    by_fault None e = (e, some_is (sym (ap (value_by bytes) e) ∙ right))
    by_fault (Some fault) e = let none : None ≡ Some value = sym (ap (value_by bytes) e) ∙ right in absurd cc

-- ---- the only valid answer

valid_or_faulty : (bytes : List ℕ) (value : SectionValue) (fault : SectionFault)
    → valid_section bytes ≡ Some value → section_fault bytes ≡ Some fault → ⊥
valid_or_faulty bytes value fault right faulty =
    let e : None ≡ Some value = sym (ap (value_by bytes) faulty) ∙ right in absurd cc

pub every_section : (bytes : List ℕ) (result : Result Section SectionFault)
    → MatchResult result (λ section. valid_section bytes ≡ Some (contents section))
    (λ fault. section_fault bytes ≡ Some fault)
    → (value : SectionValue) → valid_section bytes ≡ Some value
    → IsOkAnd result (λ section. contents section ≡ value)
every_section bytes (Ok section) exact value right = some_is (sym exact ∙ right)
every_section bytes (Err fault) exact value right = absurd (valid_or_faulty bytes value fault right exact)

pub every_fault : (bytes : List ℕ) (result : Result Section SectionFault)
    → MatchResult result (λ section. valid_section bytes ≡ Some (contents section))
    (λ fault. section_fault bytes ≡ Some fault)
    → (fault : SectionFault) → section_fault bytes ≡ Some fault → result ≡ Err fault
every_fault bytes (Ok section) exact fault faulty = absurd (valid_or_faulty bytes (contents section) fault exact faulty)
every_fault bytes (Err other) exact fault faulty = ap Err (some_is (sym exact ∙ faulty))
