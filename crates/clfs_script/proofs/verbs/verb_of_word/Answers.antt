use Rattle.std.proofs.Common.{◌∙◌, arith}
use Rattle.clfs_script.proofs.VerbLengths.{only_four, only_seven, only_others}
use Rattle.clfs_script.proofs.verbs.verb_of_word.Goals as goal

pub returns-in-4 : goal.returns-in-4
returns-in-4 c = c.verb_of_four.ensures ∙ only_four c.args.word.now c.in-4.is

pub returns-in-7 : goal.returns-in-7
returns-in-7 c = c.verb_of_seven.ensures ∙ only_seven c.args.word.now c.in-7.is

pub returns-in_default : goal.returns-in_default
returns-in_default c = c.verb_of_others.ensures ∙ only_others c.args.word.now (λ e. omega (arith, e)) (λ e. omega (arith, e))
