-- The CLUTs and objects of a set can be written.
use Rattle.std.proofs.Common.{◌≡◌, ℕ, ◌+◌, ◌<◌, ◌≤◌, Bool, true, false, List, [], ◌∷◌, ◌++◌, length, map, get_or, ap, ◌∙◌, suc, arith}
use Rattle.std.specs.Prelude.{All}
use Rattle.std.specs.List.{flat_map, AllByRecursion}
use Rattle.std.proofs.lemmas.List.{length-append}
use Rattle.std.proofs.lemmas.List.Elements.{All-head, All-tail, All-from_recursion}
use Rattle.sub_base.specs.Colour.{shown_of}
use Rattle.stream_syntax.specs.Fields.{Field, FitsFields}
use Rattle.stream_syntax.specs.SegmentTests.{AreBlocks}
use Rattle.stream_syntax.specs.Segments.{of_clut, of_object, coded_entry_fields, in_full, bytes_fields, padding, is_odd, IsWritable}
use Rattle.stream_syntax.specs.declared.clut.ClutEntry.{ClutEntry}
use Rattle.segments.specs.Writing.{padding_bytes}
use Rattle.segments.proofs.Sizes.{clut_entries_size}
use Rattle.set_coder.proofs.WritableLaws.{writable, flag_small}
use Rattle.bench_libraries.specs.Private.Sent.{IsSent}

fits_entries : (entries : List ClutEntry) → All IsSent entries
    → FitsFields (flat_map coded_entry_fields (map in_full entries))
fits_entries [] sent = tt
fits_entries (entry ∷ entries) sent =
    let first = All-head IsSent entry entries sent in (
      omega (arith, first.number),
      (
        flag_small
            entry.two,
        (
          flag_small
              entry.four,
          (
            flag_small
                entry.eight,
            (
              tt,
              (
                omega
                    arith,
                (
                  omega
                      (arith, first.y),
                  (
                    omega
                        (arith, first.cr),
                    (
                      omega
                          (arith, first.cb),
                      (omega (arith, first.t), fits_entries entries (All-tail IsSent entry entries sent)),
                    ),
                  ),
                ),
              ),
            ),
          ),
        ),
      ),
    )

shown_entries : (entries : List ClutEntry) → All IsSent entries
    → AllByRecursion (λ (entry : ClutEntry). shown_of entry.colour ≡ entry.colour) entries
shown_entries [] sent = tt
shown_entries (entry ∷ entries) sent =
    ((All-head IsSent entry entries sent).shown, shown_entries entries (All-tail IsSent entry entries sent))

pub clut_writable : (version : ℕ) (entries : List ClutEntry) → version < 16 → All IsSent entries
    → length entries ≤ 256
    → IsWritable 1 (of_clut (record { clut = 0; version = version; entries = entries }))
clut_writable version entries v sent few =
    let size = clut_entries_size entries in
    writable 1 (of_clut (record { clut = 0; version = version; entries = entries })) (omega arith)
    (omega arith, (omega (arith, v), (tt, fits_entries entries sent))) (omega (arith, few, size)) tt
    (All-from_recursion (λ (entry : ClutEntry). shown_of entry.colour ≡ entry.colour) entries
    (shown_entries entries sent))

fits_bytes : (bytes : List ℕ) (fields : List Field) → ((i : ℕ) → get_or bytes i 0 < 256) → FitsFields fields
    → FitsFields (bytes_fields bytes ++ fields)
fits_bytes [] fields each fits = fits
fits_bytes (b ∷ bytes) fields each fits = (each 0, fits_bytes bytes fields (λ i. each (suc i)) fits)

fits_padding : (padded : Bool) → FitsFields (padding padded)
fits_padding false = tt
fits_padding true = (omega arith, tt)

-- the byte that makes a length even is at most one
padding_size : (padded : Bool) → length (padding_bytes padded) ≤ 1
padding_size false = omega arith
padding_size true = omega arith

pub object_writable : (version : ℕ) (top bottom : List ℕ) → version < 16 → AreBlocks top bottom
    → ((i : ℕ) → get_or top i 0 < 256) → ((i : ℕ) → get_or bottom i 0 < 256)
    → length top + length bottom < 65528
    → IsWritable 1
    (of_object (record { object = 0; version = version; see_through = false; top = top; bottom = bottom }))
object_writable version top bottom v blocks each_top each_bottom few =
    let padded = is_odd (record { object = 0; version = version; see_through = false; top = top; bottom = bottom }) in
    let pad = padding_size padded in
    let rest : length (top ++ (bottom ++ padding_bytes padded))
    ≡ length top
    + (length bottom + length (padding_bytes padded)) = length-append top (bottom ++ padding_bytes padded)
    ∙ ap (λ (n : ℕ). length top + n) (length-append bottom (padding_bytes padded)) in
    writable 1 (of_object (record { object = 0; version = version; see_through = false; top = top; bottom = bottom }))
    (omega arith) (
      omega arith,
      (
        omega
            (arith, v),
        (
          omega
              arith,
          (
            omega
                arith,
            (
              tt,
              (
                omega
                    (arith, few),
                (
                  omega (arith, few),
                  fits_bytes top _ each_top
                      (fits_bytes bottom _ each_bottom (fits_padding padded)),
                ),
              ),
            ),
          ),
        ),
      ),
    ) (omega (arith, few, pad, rest)) blocks tt
