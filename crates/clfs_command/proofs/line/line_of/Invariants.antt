use Rattle.std.proofs.Common.{◌≡◌, take}
use Rattle.clap.specs.Words.{app_of}
use Rattle.clfs_command.specs.Forms.{with_forms}
use Rattle.clfs_command.specs.Line.{command_named}
use Rattle.clfs_command.proofs.line.line_of.Given as goal

abbrev pub invariant-loop-word : goal.invariant-loop-word
invariant-loop-word l = app_of l.line ≡ with_forms (command_named l.form.name.now) (take l.word-index l.form.words.now)
