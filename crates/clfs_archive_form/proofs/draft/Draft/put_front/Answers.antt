use Rattle.clfs_archive_form.proofs.Words.{◌≡◌, ℕ, List, ◌++◌, ◌∙◌, ap, append_assoc, little_bytes, BaseImage, current, spelled, magic, archived_image}
use Rattle.clfs_archive_form.proofs.draft.Draft.put_front.Goals as goal

pub returns-clause-added : goal.returns-clause-added
returns-clause-added c =
    let image = c.args.image.now in
    let old = c.args.self.now.archive in
    let number = little_bytes 4 c.args.count in
    let same : spelled (current image) ≡ spelled (archived_image image) = ap (λ (i : BaseImage). spelled (current i)) c.requires.archived in
    c.in_ok-put_number.ensures.added
    ∙ ap (λ (l : List ℕ). l ++ number) (c.in_ok-put_copy.ensures.added
    ∙ ap (λ (l : List ℕ). l ++ spelled (current image)) c.in_ok-put.ensures.added)
    ∙ append_assoc (old ++ magic) (spelled (current image)) number
    ∙ append_assoc old magic (spelled (current image) ++ number)
    ∙ ap (λ (l : List ℕ). old ++ (magic ++ (l ++ number))) same
