use Rattle.std.proofs.Common.{[]}
use Rattle.clfs_tables.proofs.tables.no_heads.Given as goal

abbrev pub ghost-pick : goal.ghost-pick
ghost-pick a = []
