use Rattle.clfs_base.proofs.Words.{◌≡◌, ℕ, Option, Ok, ap, sym, ◌∙◌, arith, unless_wrong, Demands, Layout, layout_of, layout_in, image_of, anything}
use Rattle.clfs_base.proofs.Words.{fault_within}
use Rattle.clfs_base.proofs.AskedFields.{any_fault}
use Rattle.clfs_base.proofs.Images.{found}
use Rattle.clfs_base.proofs.checking.check_copy.Goals as goal

pub returns-clause-exact : goal.returns-clause-exact
returns-clause-exact c =
    let bytes = c.args.bytes.now in
    let layout : c.layout_of.result ≡ layout_in bytes = c.layout_of.ensures ∙ ap layout_of c.number_1.ensures in
    c.fault_within.ensures
    ∙ ap (λ (d : Demands). fault_within d c.layout_of.result bytes) c.anything.ensures
    ∙ ap (λ (l : Layout). fault_within anything l bytes) layout
    ∙ any_fault (layout_in bytes) bytes

pub returns-clause-read : goal.returns-clause-read
returns-clause-read c none =
    let bytes = c.args.bytes.now in
    ap (λ (o : Option ℕ). unless_wrong (λ (at : ℕ). at) o (Ok (image_of (layout_in bytes) bytes))) (sym (returns-clause-exact c) ∙ none)

pub returns-clause-found : goal.returns-clause-found
returns-clause-found c none =
    (found c.args.bytes.now (λ i. omega (arith, c.type_inv.bytes i)) (sym (returns-clause-exact c) ∙ none)).0
