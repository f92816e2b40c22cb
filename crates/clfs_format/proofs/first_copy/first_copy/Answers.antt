use Rattle.std.proofs.Common.{◌≡◌, ◌++◌, ℕ, length, drop, take, ◌∙◌, sym, ap, arith}
use Rattle.std.proofs.Math.Seq.{take-append_seam}
use Rattle.clfs_base.specs.declared.image.BaseImage.{BaseImage}
use Rattle.clfs_base.specs.Spelling.{spelled, current}
use Rattle.clfs_format.proofs.first_copy.first_copy.Goals as goal

pub returns : goal.returns
returns c =
    let out = c.encode.new.out in
    let long : length out ≡ c.resize.new.self.len = omega (arith, c.encode.auto.out, c.deref_mut.ensures.len) in
    ap (λ (n : ℕ). take n (out ++ drop (length out) c.resize.new.self.items)) (sym long) ∙ take-append_seam out _
    ∙ c.encode.ensures ∙ ap (λ (image : BaseImage). spelled (current image)) c.in_ok-image.ensures
