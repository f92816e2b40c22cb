use Rattle.std.specs.Prelude.{Some}
use Rattle.clfs_share.proofs.sharing.share_visits.Given as goal

abbrev pub ghosts-share_followed : goal.ghosts-share_followed
ghosts-share_followed g a = record { begun = Some a.manager.1 }
