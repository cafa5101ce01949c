use Rattle.generated_script.specs.Generated.{generated_picture}
use Rattle.generated_script.proofs.ListLaws.{images_more}
use Rattle.generated_script.proofs.picture.pictures.Goals as goal

pub loop-number-preserved : goal.loop-number-preserved
loop-number-preserved c =
    images_more generated_picture c.loop-number.number c.loop-number.pictures.items c.push.new.self.items
    c.in_ok-picture.field-0 c.loop-number.invariant c.in_ok-picture.ensures c.in_ok-push.ensures.items
