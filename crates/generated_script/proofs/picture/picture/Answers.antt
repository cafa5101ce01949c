use Rattle.std.proofs.Common.{◌≡◌, ◌∙◌, ℕ, List, [], sym, ap, subst, arith}
use Rattle.std.specs.List.{flat_map, range_with_len}
use Rattle.sub_base.specs.declared.depth.Depth.TheVariants.{Four}
use Rattle.sub_base.specs.Picture.{IsPicture, picture_of}
use Rattle.generated_script.specs.Generated.{generated_row}
use Rattle.generated_script.proofs.ListLaws.{pieces_more}
use Rattle.generated_script.proofs.PictureLaws.{picture_made}
use Rattle.generated_script.proofs.picture.picture.Goals as goal

pub loop-y-preserved : goal.loop-y-preserved
loop-y-preserved c =
    pieces_more (generated_row c.args.number) c.loop-y.y [] c.loop-y.codes.items c.push_row.new.codes.items
    c.loop-y.invariant c.in_ok-push_row.ensures

pub of_codes-requires : goal.of_codes-requires
of_codes-requires c =
    let last : c.loop-y.y ≡ 32 = omega arith in
    let all : c.loop-y.codes.items ≡ flat_map (generated_row c.args.number) (range_with_len 0 32) =
    c.loop-y.invariant ∙ ap (λ (n : ℕ). flat_map (generated_row c.args.number) (range_with_len 0 n)) last in
    subst (λ (codes : List ℕ). IsPicture (picture_of 64 32 Four codes)) (sym all) (picture_made c.args.number)

pub returns : goal.returns
returns c =
    let last : c.loop-y.y ≡ 32 = omega arith in
    let all : c.loop-y.codes.items ≡ flat_map (generated_row c.args.number) (range_with_len 0 32) =
    c.loop-y.invariant ∙ ap (λ (n : ℕ). flat_map (generated_row c.args.number) (range_with_len 0 n)) last in
    c.of_codes.ensures.made ∙ ap (picture_of 64 32 Four) all
