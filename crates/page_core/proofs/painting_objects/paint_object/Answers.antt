use Rattle.std.proofs.Common.{sym, subst, ℕ, List, None}
use Rattle.sub_base.specs.declared.depth.Depth.TheVariants.{Eight}
use Rattle.stream_syntax.specs.PixelBlocks.{AreParts}
use Rattle.segments.specs.Contents.{object_value}
use Rattle.decoder_model.specs.Pixels.{bottom_parts}
use Rattle.page_core.proofs.Objects.BlockDepths.{bottom_are, bottom_fault, both_written}
use Rattle.page_core.proofs.painting_objects.paint_object.Goals as goal

pub returns-in-None-clause-fault : goal.returns-in-None-clause-fault
returns-in-None-clause-fault c content fields =
    let object = object_value c.args.object.now in
    let parts = bottom_parts content.top content.bottom in
    bottom_fault c.args.region.now.head.depth content object None
    (c.in_default.ensures.deep content.top fields.0)
    (c.in-None.ensures.deep parts
    (subst (λ (bytes : List ℕ). AreParts Eight parts bytes) (sym c.bottom_block-block.ensures)
    (bottom_are object content.top content.bottom fields.0 fields.1)))

pub returns-in-None-clause-written : goal.returns-in-None-clause-written
returns-in-None-clause-written c content fields none =
    both_written c.args.region.now.head.depth content (object_value c.args.object.now) c.args.see_through c.args.listing
    c.args.region.now.slot c.args.store.now c.paint_block.new.store c.paint_block-2.new.store
    fields.0 fields.1 none
    c.in_default.ensures.written
    (λ parts are. c.in-None.ensures.written parts
    (subst (λ (bytes : List ℕ). AreParts c.args.region.now.head.depth parts bytes) (sym c.bottom_block-block.ensures)
    are))
