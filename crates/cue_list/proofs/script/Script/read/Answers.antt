use Rattle.cue_list.proofs.AnswerLaws.{every_fault}
use Rattle.cue_list.proofs.OneScript.{every_script}
use Rattle.cue_list.proofs.script.Script.read.Goals as goal

pub returns-clause-every_fault : goal.returns-clause-every_fault
returns-clause-every_fault c =
    every_fault c.args.bytes.now c.args.font.now c.script_of.result c.script_of.ensures.script
    c.script_of.ensures.refused

pub returns-clause-every_script : goal.returns-clause-every_script
returns-clause-every_script c =
    every_script c.args.bytes.now c.args.font.now c.script_of.result c.script_of.ensures.script
    c.script_of.ensures.refused
