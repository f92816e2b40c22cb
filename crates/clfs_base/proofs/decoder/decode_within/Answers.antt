use Rattle.clfs_base.proofs.Words.{◌≡◌, ap, subst, ◌∙◌, Layout, layout_of, layout_in, image_of, Gives, fault_within}
use Rattle.clfs_base.proofs.AskedFields.{if_asked, if_met, if_any}
use Rattle.clfs_base.proofs.decoder.decode_within.Goals as goal

pub returns-clause-exact : goal.returns-clause-exact
returns-clause-exact c =
    let bytes = c.args.bytes.now in
    let layout : c.layout_of-layout.result ≡ layout_in bytes = c.layout_of-layout.ensures ∙ ap layout_of c.number_1.ensures in
    subst (λ (l : Layout). Gives c.decode_as.result (fault_within c.args.demands.now l bytes) (image_of l bytes)) layout c.decode_as.ensures

pub returns-clause-found : goal.returns-clause-found
returns-clause-found c = if_asked c.args.demands.now c.args.bytes.now c.decode_as.result (returns-clause-exact c)

pub returns-clause-only : goal.returns-clause-only
returns-clause-only c image is m = if_met c.args.demands.now c.args.bytes.now c.decode_as.result image (returns-clause-exact c) is m

pub returns-clause-anything : goal.returns-clause-anything
returns-clause-anything c is = if_any c.args.demands.now c.args.bytes.now c.decode_as.result (returns-clause-exact c) is
