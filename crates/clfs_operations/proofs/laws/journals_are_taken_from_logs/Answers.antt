use Rattle.clfs_operations.proofs.TakenCalls.{taken_from}
use Rattle.clfs_operations.proofs.laws.journals_are_taken_from_logs.Goals as goal

pub returns : goal.returns
returns g c = λ buffers old mid new s t journal loaded kept later reached.
    taken_from buffers (g.D.Disk.state old) (g.D.Disk.state mid) (g.D.Disk.state new) s t loaded kept (record {
      part = c.unbroken_stays.ensures.part;
      passes = c.whole_files_pass_the_test.ensures.passes;
      tells = c.whole_files_pass_the_test.ensures.tells;
    }) journal later reached
