-- The lines of the table: each has no option for all levels, so it may take its place below another one, and grows word by word, and command by command.
use Rattle.std.proofs.Common.{◌≡◌, ◌∙◌, ◌++◌, ap, true, false, List, [], ◌∷◌, refl, arith}
use Rattle.clap.specs.Words.{App, app_of, shape_of, with_rule, with_subcommand}
use Rattle.clap.specs.declared.builder.command.Command.{Command}
use Rattle.clap.specs.declared.builder.command.Command.TheViews.{out-Command}
use Rattle.clfs_command.specs.Forms.{rule_of_form, with_forms, line_of, with_lines}
use Rattle.clfs_command.specs.declared.commands.WordForm.{WordForm}
use Rattle.clfs_command.specs.declared.commands.CommandForm.{CommandForm}

-- words change none of the settings that change how words are read
stays_plain : (line : App) (forms : List WordForm) → line.top.is_plain ≡ true → (with_forms line forms).top.is_plain ≡ true
stays_plain line [] plain = plain
stays_plain line (form ∷ forms) plain = stays_plain (with_rule line (rule_of_form form)) forms plain

-- a command that uses none of these settings has no option for all levels
has_no_globals : (a : Command) → (shape_of a).is_plain ≡ true → (out-Command a).has_globals ≡ false
has_no_globals a plain = grind arith

-- a command that is made like a line of the table has none
pub is_local : (a : Command) (form : CommandForm) → app_of a ≡ line_of form → (out-Command a).has_globals ≡ false
is_local a form same = has_no_globals a (ap (λ (x : App). x.top.is_plain) same ∙ stays_plain _ form.words.now refl)

-- a word more is the last
pub one_more : (line : App) (forms : List WordForm) (form : WordForm) → with_forms line (forms ++ form ∷ []) ≡ with_rule (with_forms line forms) (rule_of_form form)
one_more line [] form = refl
one_more line (other ∷ forms) form = one_more (with_rule line (rule_of_form other)) forms form

-- a command more is the last
pub one_command_more : (line : App) (forms : List CommandForm) (form : CommandForm) → with_lines line (forms ++ form ∷ []) ≡ with_subcommand (with_lines line forms) (line_of form).top
one_command_more line [] form = refl
one_command_more line (other ∷ forms) form = one_command_more (with_subcommand line (line_of other).top) forms form
