use Rattle.clfs_restore.proofs.Words.{archived_pieces}
use Rattle.clfs_archive_form.specs.ReadBack.{archive_alone}
use Rattle.clfs_restore.proofs.Alone.{stands_again}
use Rattle.clfs_restore.proofs.laws.a_log_restored_of_its_archive_is_the_same.Goals as goal

pub returns : goal.returns
returns c = record {
  same = λ files restored bytes s is stands starts there.
      stands_again restored bytes s (archive_alone is.image (archived_pieces is.image is.blocks)) (c.an_archive_is_read_back.ensures.read files bytes s is stands)
      (c.an_archive_restored_alone_is_the_same_log.ensures.same files bytes s is stands starts) there;
}
