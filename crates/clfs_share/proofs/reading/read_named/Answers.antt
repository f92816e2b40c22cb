use Rattle.std.proofs.Common.{ap, ◌∙◌}
use Rattle.clfs_script.specs.Asked.{requested}
use Rattle.clfs_script.specs.declared.line.Request.{Request}
use Rattle.clfs_share.proofs.Naming.{named_asks}
use Rattle.clfs_share.proofs.reading.read_named.Goals as goal

pub returns-in-Step-clause-request : goal.returns-in-Step-clause-request
returns-in-Step-clause-request c =
    named_asks c.args.line.now c.args.client c.in-Ok.field-0.client c.in-Step.call c.requires.named
    (c.in-Ok.ensures ∙ ap (λ (r : Request). requested c.in-Ok.field-0.client r) c.in-Step.is)
