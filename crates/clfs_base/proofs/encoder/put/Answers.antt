use Rattle.clfs_base.proofs.Words.{◌+◌, ◌++◌, ℕ, List, length, take, drop, ap, ◌∙◌, little_bytes}
use Rattle.clfs_base.proofs.Filling.{length-low, take-low}
use Rattle.clfs_base.proofs.encoder.put.Goals as goal

pub returns : goal.returns
returns c =
    let at = c.args.at in
    let w = c.args.width in
    let out = c.args.out.now in
    c.put_bytes.ensures
    ∙ ap (λ (l : List ℕ). take at out ++ (l ++ drop (at + length l) out))
    (ap (λ (l : List ℕ). take w l) c.write_u64.ensures ∙ take-low 0 w 8 c.args.number c.requires.width)
    ∙ ap (λ (k : ℕ). take at out ++ (little_bytes w c.args.number ++ drop (at + k) out)) (length-low 0 w c.args.number)
