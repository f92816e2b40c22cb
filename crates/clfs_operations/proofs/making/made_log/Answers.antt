use Rattle.std.proofs.Common.{sym, ◌∙◌, subst, false}
use Rattle.std.specs.Prelude.{IsTrue}
use Rattle.clfs_disk.specs.State.{Nature, TellsContents}
use Rattle.clfs_model.specs.State.{fresh}
use Rattle.clfs_operations.proofs.OnlyRead.{whole_same}
use Rattle.clfs_operations.proofs.making.made_log.Goals as goal

pub returns-in-Ok-load-clause-state : goal.returns-in-Ok-load-clause-state
returns-in-Ok-load-clause-state g c =
    let told : TellsContents (g.D.Disk.state c.in-Ok.disk) = subst (λ (n : Nature). IsTrue n.tells_contents) (sym c.in-Ok.ensures.time.nature) c.requires.told in
    c.files_have_one_meaning.ensures.state (g.D.Disk.state c.in-Ok.disk).files c.in-Ok-load.manager.0 (fresh c.args.shape false 8 4) (c.in-Ok-load.ensures.loaded told)
    (c.in-Ok.ensures.formatted c.requires.told 4) c.in-Ok-load.ensures.buffers

pub returns-in-Ok-load-clause-told : goal.returns-in-Ok-load-clause-told
returns-in-Ok-load-clause-told g c =
    subst (λ (n : Nature). IsTrue n.tells_contents) (sym (c.in-Ok-load.ensures.same.1.nature ∙ c.in-Ok.ensures.time.nature)) c.requires.told

pub returns-in-Ok-load-clause-steady : goal.returns-in-Ok-load-clause-steady
returns-in-Ok-load-clause-steady g c =
    subst (λ (n : Nature). IsTrue n.steady) (sym (c.in-Ok-load.ensures.same.1.nature ∙ c.in-Ok.ensures.time.nature)) c.requires.steady

pub returns-in-Ok-load-clause-whole : goal.returns-in-Ok-load-clause-whole
returns-in-Ok-load-clause-whole g c =
    whole_same (g.D.Disk.state c.in-Ok.disk).files (g.D.Disk.state c.in-Ok-load.manager.1).files c.in-Ok-load.ensures.same.0 (c.in-Ok.ensures.whole c.requires.told)
