-- The map tables that are in force behind a sub-block.
use Rattle.std.proofs.Common.{◌≡◌, refl, sym, ap, ℕ, List, [], ◌∷◌, ◌++◌, length, take, Bool, subst, arith}
use Rattle.std.specs.Prelude.{slice_index, IfSome}
use Rattle.std.proofs.lemmas.List.{take_all, take_at}
use Rattle.sub_base.specs.declared.depth.Depth.{Depth}
use Rattle.sub_base.specs.declared.depth.Depth.TheVariants.{Two, Four, Eight}
use Rattle.stream_syntax.specs.PixelCodes.{Code}
use Rattle.stream_syntax.specs.PixelBlocks.{Part, string, table, line_end, entries_of, table_size, IsNoDeeper}
use Rattle.stream_syntax.specs.declared.map_table.MapTable.{MapTable}
use Rattle.stream_syntax.specs.declared.map_table.MapTable.TheVariants.{TwoToFour, TwoToEight, FourToEight}
use Rattle.string_painting.specs.Painting.{IsInForce, IsMapTable, IsMapTableBetween}
use Rattle.string_painting.specs.declared.drawing.Brush.{Brush}
use Rattle.pixel_codes.specs.Maps.{Maps, default_maps, with_table, kind_between, table_between}
use Rattle.block_painting.specs.Private.Pens.{AreInForce}

pub default_in_force : AreInForce default_maps []
default_in_force = record { two_to_four = refl; two_to_eight = refl; four_to_eight = refl }

pub behind_string : (maps : Maps) (before : List Part) (depth : Depth) (codes : List Code) → AreInForce maps before
    → AreInForce maps (string depth codes ∷ before)
behind_string maps before depth codes are =
    record { two_to_four = are.two_to_four; two_to_eight = are.two_to_eight; four_to_eight = are.four_to_eight }

pub behind_line : (maps : Maps) (before : List Part) → AreInForce maps before → AreInForce maps (line_end ∷ before)
behind_line maps before are =
    record { two_to_four = are.two_to_four; two_to_eight = are.two_to_eight; four_to_eight = are.four_to_eight }

-- behind a map table of so many bytes
sent : (kind : MapTable) (maps : Maps) (before : List Part) (bytes : List ℕ) → length bytes ≡ table_size kind
    → AreInForce maps before
    → AreInForce (with_table kind bytes maps) (table kind (entries_of kind bytes) ∷ before)
sent TwoToFour maps before bytes long are = record {
  two_to_four = ap (entries_of TwoToFour) (take_all 2 bytes (omega arith));
  two_to_eight = are.two_to_eight;
  four_to_eight = are.four_to_eight;
}
sent TwoToEight maps before bytes long are = record {
  two_to_four = are.two_to_four;
  two_to_eight = take_all 4 bytes (omega arith);
  four_to_eight = are.four_to_eight;
}
sent FourToEight maps before bytes long are = record {
  two_to_four = are.two_to_four;
  two_to_eight = are.two_to_eight;
  four_to_eight = take_all 16 bytes (omega arith);
}

-- behind a map table that begins some bytes
pub behind_table : (kind : MapTable) (maps : Maps) (before : List Part) (front rest : List ℕ)
    → length front ≡ table_size kind → AreInForce maps before
    → AreInForce (with_table kind (take (table_size kind) (front ++ rest)) maps)
    (table kind (entries_of kind front) ∷ before)
behind_table kind maps before front rest long are =
    let whole : front ≡ take (table_size kind) (front ++ rest) = sym (take_at front rest (table_size kind) long) in
    subst (λ (bytes : List ℕ). AreInForce (with_table kind bytes maps) (table kind (entries_of kind front) ∷ before))
    whole (sent kind maps before front long are)

-- the table between the two depths of a brush maps codes as the sub-blocks say
between : (depth region : Depth) (see_through : Bool) (maps : Maps) (before : List Part) → AreInForce maps before
    → IsInForce (record { string = depth; region = region; see_through = see_through })
    (table_between depth region maps) before
between Two Two see_through maps before are = λ code. refl
between Two Four see_through maps before are = λ code. ap (λ (t : List ℕ). slice_index t code) are.two_to_four
between Two Eight see_through maps before are = λ code. ap (λ (t : List ℕ). slice_index t code) are.two_to_eight
between Four Two see_through maps before are = λ code. refl
between Four Four see_through maps before are = λ code. refl
between Four Eight see_through maps before are = λ code. ap (λ (t : List ℕ). slice_index t code) are.four_to_eight
between Eight Two see_through maps before are = λ code. refl
between Eight Four see_through maps before are = λ code. refl
between Eight Eight see_through maps before are = λ code. refl

pub in_force_between : (brush : Brush) (maps : Maps) (before : List Part) → AreInForce maps before
    → IsInForce brush (table_between brush.string brush.region maps) before
in_force_between brush maps before are = between brush.string brush.region brush.see_through maps before are

-- and has the bytes of its kind
sized : (depth region : Depth) (bytes : List ℕ) → IsNoDeeper depth region
    → IfSome (kind_between depth region) (λ kind. length bytes ≡ table_size kind)
    → IsMapTableBetween depth region bytes
sized Two Two bytes fits size = fits
sized Two Four bytes fits size = size
sized Two Eight bytes fits size = size
sized Four Two bytes fits size = fits
sized Four Four bytes fits size = fits
sized Four Eight bytes fits size = size
sized Eight Two bytes fits size = fits
sized Eight Four bytes fits size = fits
sized Eight Eight bytes fits size = fits

pub is_map_table : (brush : Brush) (bytes : List ℕ) → IsNoDeeper brush.string brush.region
    → IfSome (kind_between brush.string brush.region) (λ kind. length bytes ≡ table_size kind)
    → IsMapTable brush bytes
is_map_table brush bytes fits size = sized brush.string brush.region bytes fits size
