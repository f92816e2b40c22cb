use Rattle.std.proofs.Common.{ℕ, List, Option, Some, None, if◌then◌else◌, sym, ap, ◌∙◌}
use Rattle.std.specs.Prelude.{nat_lt}
use Rattle.clfs_base.specs.Checks.{file_in, image_at}
use Rattle.clfs_base.specs.Layout.{numbers_of}
use Rattle.clfs_read.proofs.bases.clfs_base_file.Goals as goal

-- the number of a listed container's file in a slot
abbrev told : ℕ → List ℕ → Option ℕ
told i bytes = if nat_lt i (numbers_of bytes).listed then Some (file_in bytes i) else None

pub returns-in-Some-clause-exact : goal.returns-in-Some-clause-exact
returns-in-Some-clause-exact c = sym c.in-Some.is ∙ c.file_at.ensures.exact ∙ ap (λ (l : List ℕ). told c.args.i l) c.slot_of.ensures

pub returns-in-None-clause-exact : goal.returns-in-None-clause-exact
returns-in-None-clause-exact c = sym c.in-None.is ∙ c.file_at.ensures.exact ∙ ap (λ (l : List ℕ). told c.args.i l) c.slot_of.ensures

pub returns-in-Some-clause-found : goal.returns-in-Some-clause-found
returns-in-Some-clause-found c image is =
    sym c.in-Some.is ∙ c.file_at.ensures.found image (ap (λ (l : List ℕ). image_at l) c.slot_of.ensures ∙ is)
