use Rattle.std.proofs.Common.{◌≡◌, ◌∙◌, ap}
use Rattle.std.specs.Prelude.{Some, None}
use Rattle.std.specs.Option.{option_map}
use Rattle.clap.specs.Walk.{first_of, rows_of}
use Rattle.clap.specs.Matches.{found_of}
use Rattle.clap.proofs.WalkLemmas.{first_value-rows}
use Rattle.clfs_command.specs.Command.{asked_by, name_of_word}
use Rattle.clfs_command.proofs.words.name_of.Goals as goal

-- the option isn't there
pub returns-in-None : goal.returns-in-None
returns-in-None c =
    let none : None ≡ first_of c.args.name.now (rows_of (found_of c.args.options.now)) =
    c.in-None.ensures ∙ first_value-rows (found_of c.args.options.now) c.args.name.now in
    ap (asked_by name_of_word) none

-- it has another text
pub returns-in_err-of_word-in-Some : goal.returns-in_err-of_word-in-Some
returns-in_err-of_word-in-Some c =
    let some : Some c.in-Some.text.now ≡ first_of c.args.name.now (rows_of (found_of c.args.options.now)) =
    c.in-Some.ensures ∙ first_value-rows (found_of c.args.options.now) c.args.name.now in
    c.from_residual.ensures ∙ ap (option_map Some) (c.in_err-of_word-in-Some.ensures ∙ ap name_of_word c.as_bytes.ensures.value) ∙ ap (asked_by name_of_word) some

-- it has a name
pub returns-in_ok-of_word-in-Some : goal.returns-in_ok-of_word-in-Some
returns-in_ok-of_word-in-Some c =
    let some : Some c.in-Some.text.now ≡ first_of c.args.name.now (rows_of (found_of c.args.options.now)) =
    c.in-Some.ensures ∙ first_value-rows (found_of c.args.options.now) c.args.name.now in
    ap (option_map Some) (c.in_ok-of_word-in-Some.ensures ∙ ap name_of_word c.as_bytes.ensures.value) ∙ ap (asked_by name_of_word) some
