use Rattle.std.proofs.Common.{◌≡◌, ◌∙◌, ap}
use Rattle.std.specs.Prelude.{Some, None}
use Rattle.std.specs.Option.{option_and_then}
use Rattle.clap.specs.Walk.{first_of, rows_of}
use Rattle.clap.specs.Matches.{found_of}
use Rattle.clap.proofs.WalkLemmas.{first_value-rows}
use Rattle.clfs_command.specs.Command.{data_of_word}
use Rattle.clfs_command.proofs.words.data_of.Goals as goal

-- the option has no value
pub returns-in_err-get_str : goal.returns-in_err-get_str
returns-in_err-get_str c =
    let none : None ≡ first_of c.args.name.now (rows_of (found_of c.args.options.now)) =
    c.in_err-get_str.ensures ∙ first_value-rows (found_of c.args.options.now) c.args.name.now in
    c.from_residual.ensures ∙ ap (option_and_then data_of_word) none

-- the option has this value
pub returns : goal.returns
returns c =
    let some : Some c.in_ok-get_str.field-0.now ≡ first_of c.args.name.now (rows_of (found_of c.args.options.now)) =
    c.in_ok-get_str.ensures ∙ first_value-rows (found_of c.args.options.now) c.args.name.now in
    c.data_of_word.ensures ∙ ap data_of_word c.as_bytes.ensures.value ∙ ap (option_and_then data_of_word) some
