-- How long a script of serving may get.
use Rattle.std.specs.Prelude.{ℕ}
use Rattle.clfs_model.specs.Accepted.{Limits, serve_limits}
use Rattle.clfs_command.specs.declared.words.ScriptLength.{ScriptLength}
use Rattle.clfs_command.specs.declared.words.ScriptLength.TheVariants.{Limited, Endless}
use Rattle.clfs_lines.specs.Taken.{script_limits}
use Rattle.clfs_lines.specs.declared.incomplete.IncompleteLine.{IncompleteLine}
use Rattle.clfs_lines.specs.declared.incomplete.IncompleteLine.TheVariants.{Counts, Dropped}

-- the most bytes of a script
abbrev pub longest_script : ScriptLength → ℕ
longest_script Limited = serve_limits.bytes
longest_script Endless = 18446744073709551615

-- the limits of a script by how long it may get
abbrev pub limits_of : ScriptLength → Limits
limits_of length = script_limits (longest_script length)

-- what becomes of bytes after its last line feed: what a program wrote of an endless script before it ended may lack the rest of a line
abbrev pub incomplete_of : ScriptLength → IncompleteLine
incomplete_of Limited = Counts
incomplete_of Endless = Dropped
