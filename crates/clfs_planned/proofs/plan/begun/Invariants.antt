use Rattle.std.proofs.Common.{[], map}
use Rattle.clfs_planned.specs.Contents.{bytes_of}
use Rattle.clfs_planned.proofs.plan.begun.Given as goal

abbrev pub ghost-pick : goal.ghost-pick
ghost-pick a = record { start = map bytes_of a.with.now.now; calls = [] }
