use Rattle.clfs_engine.proofs.OpenersMade.{all_added}
use Rattle.clfs_engine.proofs.sharing.openers_of.Goals as goal

pub returns : goal.returns
returns g c = all_added _ 1 _ _ _ c.new-openers.ensures.items c.in_ok-push_openers.ensures
