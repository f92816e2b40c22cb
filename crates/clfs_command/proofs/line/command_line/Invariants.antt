use Rattle.std.proofs.Common.{◌≡◌, take}
use Rattle.clap.specs.Words.{app_of}
use Rattle.clfs_command.specs.Forms.{bare_line, with_lines}
use Rattle.clfs_command.proofs.line.command_line.Given as goal

abbrev pub invariant-loop-form : goal.invariant-loop-form
invariant-loop-form l = app_of l.line ≡ with_lines bare_line (take l.form-index l.form-items)
