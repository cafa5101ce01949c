use Rattle.std.proofs.Common.{◌≡◌, ◌∙◌, ap, subst, refl, ℕ, List, length, drop, arith}
use Rattle.std.proofs.lemmas.List.{drop_at, length-drop}
use Rattle.pixel_store.specs.Regions.{IsStringPainted, region_at}
use Rattle.string_painting.specs.Painting.{laid_over, pixels_of_codes}
use Rattle.block_painting.specs.Private.Pens.{Stand, stand_of}
use Rattle.block_painting.proofs.Tables.{is_map_table}
use Rattle.block_painting.proofs.Walks.{brush_of, LaysString, string_said}
use Rattle.block_painting.proofs.painter.paint_body.Goals as goal

pub paint_string-told-requires-clause-table : goal.paint_string-told-requires-clause-table
paint_string-told-requires-clause-table c =
    is_map_table (brush_of c.args.target c.args.depth) c.between-table.result.now c.requires.fits
    c.between-table.ensures.size

pub returns : goal.returns
returns c =
    let body = c.args.body.now in
    let from = stand_of c.args.pen.now in
    let to = stand_of c.pass_string.new.self in
    let told = c.paint_string-told in
    let target = c.args.target in
    let lays : LaysString target c.args.depth body c.args.store.now from told.new.self to = record {
      others = told.ensures.others;
      painted = λ codes front rest cut spelled.
          subst (λ (table : List ℕ). IsStringPainted from.x from.row
          (laid_over (brush_of target c.args.depth) table)
          (pixels_of_codes c.args.depth codes) (region_at c.args.store.now target.slot)
          (region_at told.new.self target.slot))
          c.between-table.ensures.table (told.ensures.painted codes front rest cut spelled);
      behind = λ codes front rest cut spelled.
          let column = told.ensures.column codes front rest cut spelled in
          let after : drop told.result.size body ≡ rest =
          ap (λ (n : ℕ). drop n body) (told.ensures.size codes front rest cut spelled)
          ∙ ap (drop (length front)) cut ∙ drop_at front rest (length front) refl in
          c.pass_string.ensures
          ∙ (λ i. record { x = column i; row = from.row; rest = after i; maps = from.maps });
    } in
    string_said target c.args.depth body c.args.store.now from told.new.self to c.requires.begins c.requires.fits lays
    (omega (arith, ap (λ (stand : Stand). length stand.rest) c.pass_string.ensures, length-drop told.result.size body))
