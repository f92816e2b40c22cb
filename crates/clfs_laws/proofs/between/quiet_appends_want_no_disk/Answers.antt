use Rattle.clfs_laws.proofs.QuietAppends.{grown_same, is_quiet, quiet_ready, quiet_seal}
use Rattle.clfs_laws.proofs.between.quiet_appends_want_no_disk.Goals as goal

pub returns-clause-grown : goal.returns-clause-grown
returns-clause-grown c = λ s draft is_reserved sizes none. grown_same c.space_laws.ensures s _ (is_quiet s draft is_reserved sizes none).grown

pub returns-clause-ready : goal.returns-clause-ready
returns-clause-ready c = quiet_ready c.space_laws.ensures

pub returns-clause-seal : goal.returns-clause-seal
returns-clause-seal c = quiet_seal c.space_laws.ensures

pub returns-clause-flush : goal.returns-clause-flush
returns-clause-flush c = λ s draft is_reserved sizes none. (is_quiet s draft is_reserved sizes none).flush
