-- The program's command line after FOLDER, as clap reads it: one command whose subcommands have options, with a value or none, and words of their
-- own. There is no help among the words that it takes.
use Rattle.std.specs.Prelude.{true, [], ◌∷◌, codes, Some}
use Rattle.clap.specs.Simple.{App, on_top, new_app, new_rule, with_rule, with_subcommand}
use Rattle.clap.specs.Walk.{Rule, Text}
use Rattle.clap.specs.declared.builder.action.ArgAction.TheVariants.{Append, SetTrue}

-- the option `--name`, which has one value
abbrev pub option : Text → Rule
option name = record (new_rule name) { long = Some name; value_names = 1 }

-- an option that has to be there
abbrev pub needed : Text → Rule
needed name = record (option name) { required = true }

-- an option that has this value where it isn't there
abbrev pub with_default : Text → Text → Rule
with_default name value = record (option name) { defaults = value ∷ [] }

-- the option `--name`, which has no value
abbrev pub flag : Text → Rule
flag name = record (new_rule name) { long = Some name; action = Some SetTrue }

-- a word that has to be there; words are taken in the order in which a command has them
abbrev pub word : Text → Rule
word name = record (new_rule name) { required = true }

-- words of which one has to be there, after all others; options may stand between them
abbrev pub words : Text → Rule
words name = record (word name) { action = Some Append }

-- a command of this name that no word asks for help
abbrev pub command_named : Text → App
command_named name = on_top (λ s. record s { disable_help_flag = true }) (new_app name)

-- `format --block-sectors B --container-sectors S --containers N [--dedicated]`
abbrev pub format_line : App
format_line = with_rule (with_rule (with_rule (with_rule (command_named (codes "format")) (needed (codes "block-sectors")))
    (needed (codes "container-sectors"))) (needed (codes "containers"))) (flag (codes "dedicated"))

-- `serve [--write-buffers W] [--read-buffers N] [--endless]`
abbrev pub serve_line : App
serve_line = with_rule (with_rule (with_rule (command_named (codes "serve")) (with_default (codes "write-buffers") (codes "4")))
    (with_default (codes "read-buffers") (codes "32"))) (flag (codes "endless"))

-- `race [--write-buffers W]`
abbrev pub race_line : App
race_line = with_rule (command_named (codes "race")) (with_default (codes "write-buffers") (codes "4"))

-- `trial NUMBER COUNT`
abbrev pub trial_line : App
trial_line = with_rule (with_rule (command_named (codes "trial")) (word (codes "NUMBER"))) (word (codes "COUNT"))

-- `crew THREADS COUNT`
abbrev pub crew_line : App
crew_line = with_rule (with_rule (command_named (codes "crew")) (word (codes "THREADS"))) (word (codes "COUNT"))

-- `check`
abbrev pub check_line : App
check_line = command_named (codes "check")

-- `crowd THREADS COUNT`
abbrev pub crowd_line : App
crowd_line = with_rule (with_rule (command_named (codes "crowd")) (word (codes "THREADS"))) (word (codes "COUNT"))

-- `dump [--from LSN] [--to LSN] [--stream NAME] [--data hex|text|none]`
abbrev pub dump_line : App
dump_line = with_rule (with_rule (with_rule (with_rule (command_named (codes "dump")) (option (codes "from"))) (option (codes "to")))
    (option (codes "stream"))) (with_default (codes "data") (codes "hex"))

-- `txn`
abbrev pub txn_line : App
txn_line = command_named (codes "txn")

-- `archive`
abbrev pub archive_line : App
archive_line = command_named (codes "archive")

-- `restore [--up-to LSN]`
abbrev pub restore_line : App
restore_line = with_rule (command_named (codes "restore")) (option (codes "up-to"))

-- the words after FOLDER, of which the first names the subcommand
abbrev pub command_line : App
command_line = with_subcommand (with_subcommand (with_subcommand (with_subcommand (with_subcommand (with_subcommand (with_subcommand (with_subcommand (with_subcommand (with_subcommand (with_subcommand (on_top
    (λ s. record s { no_binary_name = true; disable_help_subcommand = true; subcommand_required = true }) (command_named (codes "clfs")))
    format_line.top) serve_line.top) race_line.top) trial_line.top) crew_line.top) check_line.top) crowd_line.top) dump_line.top) txn_line.top) archive_line.top) restore_line.top

-- `share PATHS.. [--write-buffers W]`, whose words are those after `share`
abbrev pub share_line : App
share_line = with_rule (with_rule (on_top (λ s. record s { no_binary_name = true }) (command_named (codes "share")))
    (with_default (codes "write-buffers") (codes "4"))) (words (codes "PATHS"))
