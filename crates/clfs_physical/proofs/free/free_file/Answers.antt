use Rattle.clfs_physical.proofs.Words.{refl, arith}
use Rattle.clfs_physical.proofs.Counting.{all_to, so_many}
use Rattle.clfs_physical.proofs.free.free_file.Goals as goal

pub overflow_add-file : goal.overflow_add-file
overflow_add-file c =
    omega (arith, so_many c.args.files.now c.loop-file.file c.loop-file.invariant.least (c.loop-file-test.ensures.listed refl), c.requires, c.ranges.made.fits)

pub loop-file-smaller : goal.loop-file-smaller
loop-file-smaller c =
    omega (arith, so_many c.args.files.now c.loop-file.file c.loop-file.invariant.least (c.loop-file-test.ensures.listed refl), c.requires)

pub loop-file-preserved : goal.loop-file-preserved
loop-file-preserved c = record {
  some = omega arith;
  few = omega (arith, so_many c.args.files.now c.loop-file.file c.loop-file.invariant.least (c.loop-file-test.ensures.listed refl), c.requires);
  least = all_to c.args.files.now c.loop-file.file c.loop-file.invariant.least (c.loop-file-test.ensures.listed refl);
}
