use Rattle.std.proofs.Common.{None, Some}
use Rattle.clfs_script.specs.Asked.{language_of}
use Rattle.clfs_script.specs.Verbs.{verb_of}
use Rattle.clfs_script.proofs.WholeLines.{no_verb, line_asked}
use Rattle.clfs_script.proofs.parsing.parse_line.Goals as goal

pub returns-in_err-client : goal.returns-in_err-client
returns-in_err-client c =
    no_verb (language_of c.args.language) c.args.line.now c.of-words.result c.client_verb.new.words c.from_residual.result c.client_verb.result
    c.in_err-client.field-0.0 c.of-words.ensures c.from_residual.ensures.1 c.in_err-client.was c.client_verb.ensures

pub returns-in-Some : goal.returns-in-Some
returns-in-Some c =
    line_asked (language_of c.args.language) c.args.line.now c.of-words.result c.client_verb.new.words c.in_ok-client.client
    (Some (verb_of c.in-Some.verb)) c.call_line.result c.of-words.ensures (rw c.in-Some.is at c.in_ok-client.ensures) c.call_line.ensures

pub returns-in-None : goal.returns-in-None
returns-in-None c =
    line_asked (language_of c.args.language) c.args.line.now c.of-words.result c.client_verb.new.words c.in_ok-client.client None
    c.reopen_line.result c.of-words.ensures (rw c.in-None.is at c.in_ok-client.ensures) c.reopen_line.ensures
