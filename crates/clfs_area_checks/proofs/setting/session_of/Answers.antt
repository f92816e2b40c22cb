use Rattle.std.proofs.Common.{List, subst, lit<}
use Rattle.std.specs.Prelude.{All}
use Rattle.clfs_shared.specs.Sessions.{SessionState, IsOf}
use Rattle.clfs_area_checks.proofs.setting.session_of.Goals as goal

pub returns : goal.returns
returns g c = let F : List SessionState → Type 0 = λ xs. All (λ s. IsOf c.args.log.now s) xs in
    (subst F c.only_of.ensures c.requires.log) 0 c.only_of.result (lit< tt)
