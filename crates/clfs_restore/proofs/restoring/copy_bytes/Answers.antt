use Rattle.clfs_restore.proofs.Words.{◌≡◌, ◌++◌, ℕ, length, drop, take, ◌∙◌, sym, ap, subst, arith, BaseImage, spelled}
use Rattle.std.proofs.Math.Seq.{take-append_seam}
use Rattle.clfs_base.specs.Spelling.{IsImage, current}
use Rattle.clfs_restore.proofs.restoring.copy_bytes.Goals as goal

pub returns-clause-spelled : goal.returns-clause-spelled
returns-clause-spelled c =
    let out = c.encode.new.out in
    let long : length out ≡ c.resize.new.self.len = omega (arith, c.encode.auto.out, c.deref_mut.ensures.len) in
    ap (λ (n : ℕ). take n (out ++ drop (length out) c.resize.new.self.items)) (sym long) ∙ take-append_seam out _
    ∙ c.encode.ensures ∙ ap (λ (image : BaseImage). spelled (current image)) c.in_ok-copy.ensures.exact

pub returns-clause-image : goal.returns-clause-image
returns-clause-image c = subst IsImage c.in_ok-copy.ensures.exact c.in_ok-copy.ensures.image
