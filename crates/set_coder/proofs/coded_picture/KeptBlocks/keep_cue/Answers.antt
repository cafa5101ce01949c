use Rattle.std.proofs.Common.{ap, sym, ◌∙◌}
use Rattle.std.proofs.lemmas.Result.{on_ok_weaker}
use Rattle.cue_list.specs.Past.{region_with}
use Rattle.set_coder.proofs.KeptLaws.{cue_kept}
use Rattle.set_coder.proofs.coded_picture.KeptBlocks.keep_cue.Goals as goal

pub returns-in-Some-clause-kept : goal.returns-in-Some-clause-kept
returns-in-Some-clause-kept c =
    on_ok_weaker c.keep.result
    (cue_kept c.args.pictures.now c.keep.new.self.coded.items c.args.epoch.now c.args.cue.now c.in-Some.region
    (ap (region_with c.args.cue.now.region) (sym c.as_slice.ensures) ∙ sym c.region_with.ensures ∙ c.in-Some.is))
    c.keep.ensures.kept
