use Rattle.std.proofs.Common.{◌≡◌, ◌∷◌, ◌++◌, [], length, arith, rules, Some, ap, ◌∙◌}
use Rattle.std.proofs.lemmas.Option.{slice_get_within}
use Rattle.set_coder.proofs.KeptLaws.{one_more, one_more_small, last_kept}
use Rattle.set_coder.proofs.SlotLaws.{more_led}
use Rattle.set_coder.proofs.coded_picture.KeptBlocks.add.Goals as goal

pub lead-requires : goal.lead-requires
lead-requires c =
    omega (
      arith,
      c.requires.blocks.each,
      slice_get_within c.args.pictures.now c.args.number c.args.picture.now
          c.requires.picture,
    )

pub returns-clause-kept : goal.returns-clause-kept
returns-clause-kept c =
    let coded = c.in_ok-coded in
    last_kept c.args.number c.args.region coded.coded c.args.self.now.coded.items c.lead.new.self.coded.items
    coded.ensures.number coded.ensures.region
    (ap (λ v. v.items) c.lead.ensures.coded ∙ c.in_ok-push.ensures.items)

pub returns-clause-front : goal.returns-clause-front
returns-clause-front c = (
  c.in_ok-coded.coded ∷ [],
  ap (λ v. v.items) c.lead.ensures.coded ∙ c.in_ok-push.ensures.items,
)

pub returns-clause-blocks : goal.returns-clause-blocks
returns-clause-blocks c =
    let coded = c.in_ok-coded in
    let pushed : c.lead.new.self.coded.items ≡ c.args.self.now.coded.items ++ coded.coded ∷ [] =
    ap (λ v. v.items) c.lead.ensures.coded ∙ c.in_ok-push.ensures.items in
    let last : c.len-last.result ≡ length c.args.self.now.coded.items = search rules in
    record {
      coded =
          one_more c.args.pictures.now c.args.picture.now c.args.number c.args.region coded.coded
          c.args.self.now.coded.items c.lead.new.self.coded.items c.requires.picture coded.ensures.number
          coded.ensures.region coded.ensures.coded c.requires.blocks.coded pushed;
      each = c.lead.ensures.each ∙ c.requires.blocks.each;
      led =
          more_led c.args.self.now.slots.items c.lead.new.self.slots.items coded.coded c.args.self.now.coded.items
          c.lead.new.self.coded.items c.args.number c.args.region c.requires.blocks.led pushed coded.ensures.number
          coded.ensures.region (c.lead.ensures.here ∙ ap Some last) c.lead.ensures.others c.requires.fresh;
      small =
          one_more_small c.args.self.now.coded.items coded.coded c.lead.new.self.coded.items pushed
          coded.ensures.small c.requires.blocks.small;
    }
