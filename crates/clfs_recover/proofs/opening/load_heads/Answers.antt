use Rattle.clfs_recover.proofs.Words.{◌∙◌, ap, map, subst, sym, List, Ok, LogEntry, Finds, IsOpenedFrom, parts_of}
use Rattle.clfs_lsn.specs.Head.{head_of}
use Rattle.clfs_recover.proofs.opening.load_heads.Goals as goal

pub returns-clause-exact : goal.returns-clause-exact
returns-clause-exact g c tells =
    let found = c.in_ok-walked.ensures.exact tells (c.new-gatherer.ensures.entries, c.new-gatherer.ensures.heads) in (
      found.1.1 ∙ ap (map head_of) (sym found.1.0),
      subst (λ (entries : List LogEntry). Finds (g.D.Disk.state c.args.disk.now).files (Ok (parts_of c.in_ok-walked.walked entries))) (sym found.1.0) found.2,
    )

pub returns-clause-log : goal.returns-clause-log
returns-clause-log g c =
    let found = c.in_ok-walked.ensures.log (c.new-gatherer.ensures.entries, c.new-gatherer.ensures.heads) in (
      found.1.1 ∙ ap (map head_of) (sym found.1.0),
      subst (λ (entries : List LogEntry). IsOpenedFrom (g.D.Disk.state c.args.disk.now) (parts_of c.in_ok-walked.walked entries)) (sym found.1.0) found.2,
    )
