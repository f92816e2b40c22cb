use Rattle.clfs_archive_form.proofs.Words.{◌≡◌, ◌≤◌, length, LieWithin}
use Rattle.clfs_archive_form.proofs.Grammar.{TakenTo}
use Rattle.clfs_archive_form.proofs.containers.read_containers.Given as goal

abbrev pub invariant-loop-i : goal.invariant-loop-i
invariant-loop-i l = record {
  same : l.judge ≡ l.fn.judge;
  from : l.at ≤ l.end;
  within : l.end ≤ length l.bytes;
  taken : TakenTo l.fn.judge.shape l.fn.judge.streams l.bytes l.count l.first l.at l.fn.containers.items l.containers.items l.i l.end;
  lie : LieWithin (length l.bytes) l.fn.containers.items → LieWithin (length l.bytes) l.containers.items;
}
