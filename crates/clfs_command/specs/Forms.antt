-- What clap reads of the table of the commands.
use Rattle.std.specs.Prelude.{true, List, [], ◌∷◌, codes}
use Rattle.clap.specs.Simple.{App, on_top, with_rule, with_subcommand}
use Rattle.clap.specs.Walk.{Rule, Text}
use Rattle.clfs_command.specs.Line.{option, needed, with_default, flag, word, words, command_named}
use Rattle.clfs_command.specs.declared.commands.WordKind.{WordKind}
use Rattle.clfs_command.specs.declared.commands.WordKind.TheVariants.{Optional, Needed, Default, Flag, Word, Words}
use Rattle.clfs_command.specs.declared.commands.WordForm.{WordForm}
use Rattle.clfs_command.specs.declared.commands.CommandForm.{CommandForm}

-- the word of this name that is of this kind
abbrev pub rule_of_kind : WordKind → Text → Rule
rule_of_kind (Optional value) name = option name
rule_of_kind (Needed value) name = needed name
rule_of_kind (Default value default) name = with_default name default.now
rule_of_kind Flag name = flag name
rule_of_kind Word name = word name
rule_of_kind Words name = words name

-- a word of the table
abbrev pub rule_of_form : WordForm → Rule
rule_of_form form = rule_of_kind form.kind form.name.now

-- a line with words of the table after its own
abbrev pub with_forms : App → List WordForm → App
with_forms line [] = line
with_forms line (form ∷ forms) = with_forms (with_rule line (rule_of_form form)) forms

-- the line of a command of the table
abbrev pub line_of : CommandForm → App
line_of form = with_forms (command_named form.name.now) form.words.now

-- a line with commands of the table as subcommands after its own
abbrev pub with_lines : App → List CommandForm → App
with_lines line [] = line
with_lines line (form ∷ forms) = with_lines (with_subcommand line (line_of form).top) forms

-- the line after FOLDER without its subcommands
abbrev pub bare_line : App
bare_line = on_top (λ s. record s { no_binary_name = true; disable_help_subcommand = true; subcommand_required = true }) (command_named (codes "clfs"))

-- a line whose words are those after the command's name
abbrev pub unnamed : App → App
unnamed line = on_top (λ s. record s { no_binary_name = true }) line
