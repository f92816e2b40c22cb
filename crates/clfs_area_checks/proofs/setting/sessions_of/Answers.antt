use Rattle.std.proofs.Common.{List, subst, lit<}
use Rattle.std.specs.Prelude.{All}
use Rattle.clfs_shared.specs.Sessions.{SessionState, IsOf}
use Rattle.clfs_area_checks.proofs.setting.sessions_of.Goals as goal

pub returns-clause-first : goal.returns-clause-first
returns-clause-first g c = let F : List SessionState → Type 0 = λ xs. All (λ s. IsOf c.args.log.now s) xs in
    (subst F c.pair_of.ensures c.requires.log) 0 c.pair_of.result.0 (lit< tt)

pub returns-clause-second : goal.returns-clause-second
returns-clause-second g c = let F : List SessionState → Type 0 = λ xs. All (λ s. IsOf c.args.log.now s) xs in
    (subst F c.pair_of.ensures c.requires.log) 1 c.pair_of.result.1 (lit< tt)
