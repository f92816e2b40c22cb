use Rattle.clfs_archive_form.proofs.Words.{◌≡◌, ◌-◌, ◌≤◌, length}
use Rattle.clfs_archive_form.proofs.Blocks.{AreRightTo}
use Rattle.clfs_archive_form.proofs.judge.Judge.blocks.Given as goal

abbrev pub invariant-loop-offset : goal.invariant-loop-offset
invariant-loop-offset l = record {
  same : l.self ≡ l.fn.self;
  within : l.offset ≤ length l.bytes;
  right : AreRightTo l.fn.self.shape l.fn.self.streams l.id l.bytes l.offset;
}

abbrev pub decreases-loop-offset : goal.decreases-loop-offset
decreases-loop-offset l = length l.bytes - l.offset
