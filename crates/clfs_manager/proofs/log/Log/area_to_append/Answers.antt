use Rattle.clfs_manager.proofs.Words.{rules, None}
use Rattle.clfs_manager.proofs.RestartCall.{two_containers}
use Rattle.clfs_manager.proofs.log.Log.area_to_append.Goals as goal

pub returns-in-None-clause-finds : goal.returns-in-None-clause-finds
returns-in-None-clause-finds c = record {
  refused = tt;
  allowed = search rules;
  within = c.in_ok-place.ensures.within;
  there = c.in_ok-place.ensures.there;
  two = two_containers c.args.self.now.state.value _ (c.in_ok-place.ensures.found (λ _. None));
}
