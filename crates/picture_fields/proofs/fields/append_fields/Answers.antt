use Rattle.std.proofs.Common.{◌≡◌, ap, ◌∙◌, length, ℕ, Vec, Global, arith}
use Rattle.pixel_codes.proofs.Writing.{extends_none, extends_trans}
use Rattle.picture_fields.proofs.FieldLaws.{few_rows, top_of, both_own, both_shared}
use Rattle.pixel_codes.specs.Lists.{Extends}
use Rattle.picture_fields.proofs.fields.append_fields.Goals as goal
use Rattle.picture_fields.proofs.fields.append_fields.Goals.{then-not-fields_equal+in_ok-append_bottom_field, else-not-fields_equal}

pub append_field-requires-clause-few : goal.append_field-requires-clause-few
append_field-requires-clause-few c =
    omega (arith, few_rows c.args.picture.now c.depth.ensures.picture 0, ap length c.top_rows.ensures.value)

pub returns-clause-blocks : goal.returns-clause-blocks
returns-clause-blocks c =
    let old = c.args.out.now in
    let middle = c.append_field.new.out in
    let start : c.len-start.result ≡ length old.items = c.len-start.ensures ∙ old.ok.0 in
    let half : c.len-middle.result ≡ length middle.items = c.len-middle.ensures ∙ middle.ok.0 in
    let whole : c.len.result ≡ length c.if-not-fields_equal.out.items =
    c.len.ensures ∙ c.if-not-fields_equal.out.ok.0 in
    let top = c.in_ok-append_field.ensures.block in
    let picture = c.args.picture.now in
    let block =
    top_of picture c.args.region c.depth.result c.top_rows.result top.0 c.depth.ensures.value
    c.top_rows.ensures.value top.3 in
    elim c.if-not-fields_equal.branch [
      | then-not-fields_equal+in_ok-append_bottom_field w ↦
          let own = w.in_ok-append_bottom_field.ensures.block in
          let test = w.if-not-fields_equal.true in
          both_own picture c.args.region old.items middle.items c.if-not-fields_equal.out.items top.0 own.0
          c.len-start.result c.len-middle.result c.len.result (λ e. let t = c.fields_equal.ensures.1 e in cc) start
          half whole top.1 block (ap (λ (v : Vec ℕ Global). v.items) w.out-is ∙ own.1) own.3
      | else-not-fields_equal w ↦
          both_shared picture c.args.region old.items middle.items c.if-not-fields_equal.out.items top.0
          c.len-start.result c.len-middle.result c.len.result (c.fields_equal.ensures.0 w.if-not-fields_equal.false)
          start half whole top.1 block (ap (λ (v : Vec ℕ Global). v.items) w.out-is)
    ]

pub returns-clause-extends : goal.returns-clause-extends
returns-clause-extends c =
    let step : Extends c.append_field.new.out.items c.if-not-fields_equal.out.items =
    elim c.if-not-fields_equal.branch [
      | then-not-fields_equal+in_ok-append_bottom_field w ↦ let own =
          w.in_ok-append_bottom_field.ensures.block in (own.0, ap (λ (v : Vec ℕ Global). v.items) w.out-is ∙ own.1)
      | else-not-fields_equal w ↦ let same =
          extends_none c.append_field.new.out.items in
          (same.0, ap (λ (v : Vec ℕ Global). v.items) w.out-is ∙ same.1)
    ] in
    extends_trans c.args.out.now.items c.append_field.new.out.items c.if-not-fields_equal.out.items
    c.append_field.ensures.extends step
