use Rattle.clfs_txn_script.proofs.WholeLines.{no_verb, with_verb}
use Rattle.clfs_txn_script.proofs.parsing.parse_txn_line.Goals as goal

pub returns-in_err-verb-clause-read : goal.returns-in_err-verb-clause-read
returns-in_err-verb-clause-read c =
    no_verb c.args.line.now c.of-words.result c.verb.new.words c.from_residual.result c.verb.result c.in_err-verb.field-0.0 c.of-words.ensures
    c.from_residual.ensures.1 c.in_err-verb.was c.verb.ensures

pub returns-clause-read : goal.returns-clause-read
returns-clause-read c =
    with_verb c.args.line.now c.of-words.result c.verb.new.words c.behind_verb.result c.verb.result c.in_ok-verb.verb c.of-words.ensures
    c.in_ok-verb.was c.verb.ensures c.behind_verb.ensures.read
