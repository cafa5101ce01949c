use Rattle.std.proofs.Common.{◌≡◌, ◌∙◌, ◌∷◌, [], ap, arith, subst}
use Rattle.set_coder.specs.SetSegments.{object_segment}
use Rattle.page_pair.specs.PairSets.{CueObject, Paged, on}
use Rattle.page_pair.specs.Private.Writing.{WritesMore}
use Rattle.page_pair.proofs.WritingLaws.{one_more}
use Rattle.page_pair.proofs.written.Written.put_object.Goals as goal

pub returns : goal.returns
returns c =
    let page = c.object.inside.page in
    let number = c.object.inside.number in
    let see_through : c.own.inside.see_through ≡ c.object.inside.object.now.see_through =
    ap (λ (object : CueObject). object.see_through) c.own.view_is
    in
    subst (λ (one : Paged). WritesMore (one ∷ []) c.args.self.now c.note.new.self)
    ((λ i. on page
    (object_segment number (see_through i) (c.fields.ensures.top i) (c.fields.ensures.bottom i)))
    ∙ c.object.view_is)
    (one_more page (object_segment number c.own.inside.see_through c.fields.result.0.now c.fields.result.1.now)
    c.args.self.now c.note.new.self c.append_blocks.new.field.items c.len-begin.result c.append_blocks.ensures.fits
    c.in_ok-append_blocks.ensures.bytes (omega (arith, c.len-begin.ensures, c.args.self.now.bytes.ok))
    (ap (λ v. v.items) c.note.ensures.bytes) c.note.ensures.longest)
