-- What a writer appends piece by piece is a section with its CRC.
use Rattle.std.proofs.Common.{◌≡◌, ℕ, ◌*◌, List, [], ◌∷◌, ◌++◌, length, drop, refl, ap, ◌∙◌, append_assoc, arith}
use Rattle.std.specs.List.{flat_map}
use Rattle.std.proofs.lemmas.List.{drop_at}
use Rattle.byteorder.specs.Endian.{big_bytes}
use Rattle.psi_tables.specs.Crc.{crc_of}
use Rattle.psi_tables.specs.Writing.{before_crc, head_bytes, pat_entry, written_section}
use Rattle.psi_tables.specs.declared.service.Service.{Service}

pub pat_size : (services : List Service) → length (flat_map pat_entry services) ≡ 4 * length services
pat_size [] = refl
pat_size (service ∷ services) = omega (arith, pat_size services)

-- what is appended in turn to the bytes that were there: a head, a body, and the CRC of both
pub record Pieces (old body new : List ℕ) (table id : ℕ) : Type 0 where
  pub size : ℕ
  pub start : ℕ
  pub headed : List ℕ
  pub bodied : List ℕ
  pub size_is : size ≡ length body
  pub start_is : start ≡ length old
  pub headed_is : headed ≡ old ++ head_bytes table id size
  pub bodied_is : bodied ≡ headed ++ body
  pub new_is : new ≡ bodied ++ big_bytes 4 (crc_of (drop start bodied))

pub appended : (old body new : List ℕ) (table id : ℕ) → Pieces old body new table id
    → new ≡ old ++ written_section table id body
appended old body new table id pieces =
    let section : List ℕ = before_crc table id body in
    let all : pieces.bodied ≡ old ++ section =
    pieces.bodied_is
    ∙ ap (λ headed. headed ++ body)
    (pieces.headed_is ∙ ap (λ n. old ++ head_bytes table id n) pieces.size_is)
    ∙ append_assoc old (head_bytes table id (length body)) body in
    let behind : drop pieces.start (old ++ section) ≡ section =
    ap (λ n. drop n (old ++ section)) pieces.start_is ∙ drop_at old section (length old) refl in
    pieces.new_is ∙ ap (λ bytes. bytes ++ big_bytes 4 (crc_of (drop pieces.start bytes))) all
    ∙ ap (λ bytes. (old ++ section) ++ big_bytes 4 (crc_of bytes)) behind
    ∙ append_assoc old section (big_bytes 4 (crc_of section))
