use Rattle.clfs_block.proofs.Words.{◌≡◌, [], ◌∷◌, ◌++◌, ◌∙◌, ℕ, List, drop, refl, sym, ap, payload_of, used_bytes}
use Rattle.clfs_block.proofs.Buildings.{content_size}
use Rattle.clfs_block.proofs.Sealing.{content_kept}
use Rattle.clfs_block.proofs.builder.seal_buffer.Goals as goal

pub returns-clause-sealed : goal.returns-clause-sealed
returns-clause-sealed c =
    let s = c.seal_block.ensures.sealed in
    (s.0, c.push_zeros.ensures.items ∙ ap (λ (l : List ℕ). l ++ 0 ∷ []) s.1, s.2)

pub returns-clause-payload : goal.returns-clause-payload
returns-clause-payload c =
    let s = c.seal_block.ensures.sealed in
    let old = c.args.buffer.now.items in
    let used = c.args.used in
    let content : List ℕ = drop 16 (payload_of used old) in
    let size : used_bytes content ≡ used = content_size used old content c.requires.used refl in
    ap (λ (l : List ℕ). drop 16 (payload_of used l)) (c.push_zeros.ensures.items ∙ ap (λ (l : List ℕ). l ++ 0 ∷ []) s.1)
    ∙ ap (λ (n : ℕ). drop 16 (payload_of n (s.0 ++ 0 ∷ []))) (sym size)
    ∙ content_kept c.args.start 0 c.args.records content s.0 (0 ∷ []) s.2
