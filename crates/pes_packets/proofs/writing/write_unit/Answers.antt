use Rattle.std.proofs.Common.{◌≡◌, ℕ, ◌+◌, List, [], ◌∷◌, ◌++◌, length, length-append, ap, ◌∙◌, arith}
use Rattle.stream_syntax.specs.Pes.{written_header}
use Rattle.pes_packets.proofs.Written.{two_pieces}
use Rattle.pes_packets.proofs.writing.write_unit.Goals as goal

pub returns-clause-bytes : goal.returns-clause-bytes
returns-clause-bytes c =
    let old = c.args.out.now.items in
    let header = c.header-header.result in
    let start = 0x20 ∷ 0 ∷ [] in
    let segments = c.args.segments.now in
    let header_put = rw c.unwrap.ensures at c.extend_from_slice.ensures.items in
    let start_put = rw c.unwrap-2.ensures at c.extend_from_slice-2.ensures.items in
    let segments_put = rw c.unwrap-3.ensures at c.extend_from_slice-3.ensures.items in
    let head : c.extend_from_slice.new.self.items ≡ old ++ header =
    header_put ∙ ap (λ (xs : List ℕ). xs ++ header) c.reserve.ensures.items in
    let front =
    two_pieces old header start c.extend_from_slice.new.self.items c.extend_from_slice-2.new.self.items head
    start_put in
    let back =
    two_pieces c.extend_from_slice-2.new.self.items segments (0xFF ∷ []) c.extend_from_slice-3.new.self.items
    c.push_reserved.new.self.items segments_put c.push_reserved.ensures.items in
    let put =
    two_pieces old (header ++ start) (segments ++ 0xFF ∷ []) c.extend_from_slice-2.new.self.items
    c.push_reserved.new.self.items front back in
    let bytes = λ (xs : List ℕ). old ++ ((xs ++ start) ++ (segments ++ 0xFF ∷ [])) in
    let count : 8 + (2 + length segments + 1) ≡ 8 + length (0x20 ∷ 0 ∷ (segments ++ 0xFF ∷ [])) =
    omega (arith, length-append segments (0xFF ∷ [])) in
    put ∙ ap bytes c.header-header.ensures ∙ ap (λ (n : ℕ). bytes (written_header c.args.pts n)) count
