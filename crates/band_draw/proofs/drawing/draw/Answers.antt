-- The plane is the picture at each place.
use Rattle.std.proofs.Common.{◌≡◌, ◌<◌, length, get_or, arith, sym, ap, ◌∙◌}
use Rattle.std.proofs.lemmas.Bool.Decides.{nat_tests}
use Rattle.std.proofs.lemmas.List.{ext_get_or}
use Rattle.sub_base.specs.Colour.{clear}
use Rattle.page_core.specs.Rows.{picture_in}
use Rattle.band_draw.proofs.Pictures.{picture_length}
use Rattle.band_draw.proofs.Parts.{chunk_is_band, chunk_is_few, geometry, nothing_to_draw}
use Rattle.band_draw.proofs.drawing.draw.Goals as goal

pub for_each_chunk_mut-requires-clause-size : goal.for_each_chunk_mut-requires-clause-size
for_each_chunk_mut-requires-clause-size g c κs within =
    let some : 0 < length c.args.plane.now = grind (arith, nat_tests) in
    (geometry c.args.scene.now c.args.plane.now c.args.bands c.height.result c.width-width.result c.div_ceil.result
    c.requires.plane some c.requires.some c.height.ensures c.width-width.ensures c.div_ceil.ensures).1

pub for_each_chunk_mut-requires-clause-accepts : goal.for_each_chunk_mut-requires-clause-accepts
for_each_chunk_mut-requires-clause-accepts g c κs within start p chunk =
    let some : 0 < length c.args.plane.now = grind (arith, nat_tests) in
    let shape =
    geometry c.args.scene.now c.args.plane.now c.args.bands c.height.result c.width-width.result c.div_ceil.result
    c.requires.plane some c.requires.some c.height.ensures c.width-width.ensures c.div_ceil.ensures in (
      chunk_is_band c.args.scene.now c.args.plane.now p.now c.div_ceil.result _ start c.requires.plane shape.2 chunk,
      shape.1,
      chunk_is_few c.args.scene.now c.args.plane.now p.now c.div_ceil.result _ start c.requires.plane (omega arith)
          shape.2 shape.1 shape.0 chunk,
    )

pub returns-then-is_empty : goal.returns-then-is_empty
returns-then-is_empty g c =
    let none : length c.args.plane.now ≡ 0 = grind (arith, nat_tests) in
    record {
      picture = nothing_to_draw c.args.scene.now c.args.plane.now c.requires.plane
          (picture_length c.args.scene.now) none;
    }

pub returns : goal.returns
returns g c =
    let kept = c.for_each_chunk_mut.auto.s in
    let same : length c.for_each_chunk_mut.new.s ≡ length (picture_in c.args.scene.now) =
    kept ∙ c.requires.plane ∙ sym (picture_length c.args.scene.now) in
    record {
      picture = ext_get_or clear c.for_each_chunk_mut.new.s (picture_in c.args.scene.now) same (λ i low.
          let e = c.for_each_chunk_mut.ensures.by_index i clear (omega arith) in
          let h = e.1 in
          sym h.new_element ∙ h.call h.offset h.offset_in_chunk
          ∙ ap (λ n. get_or (picture_in c.args.scene.now) n clear) h.start_plus_offset);
    }
