-- What is restored of one archive alone.
use Rattle.clfs_restore.proofs.Words.{◌≡◌, ℕ, List, [], ◌∷◌, Option, Some, None, Result, Ok, sym, ◌∙◌, ap, subst, Files, State, StandsFor, Archive}
use Rattle.clfs_restore.proofs.Words.{InputRefusal, archives_in, joined, chosen, restored, StandForRestored}

read_right : List Archive → Result (List Archive) ℕ
read_right archives = Ok archives

one_reading : (a b : List Archive) → read_right a ≡ read_right b → a ≡ b
unfolding read_right
one_reading a b e = cc e

some_archive : Archive → Option Archive
some_archive archive = Some archive

one_archive : (a b : Archive) → some_archive a ≡ some_archive b → a ≡ b
unfolding some_archive
one_archive a b e = cc e

right : ℕ → Result ℕ InputRefusal
right lsn = Ok lsn

one_lsn : (a b : ℕ) → right a ≡ right b → a ≡ b
unfolding right
one_lsn a b e = cc e

-- If bytes are one archive, and what is restored of it as far as it reaches is a state, files that stand for what is restored of them stand for that.
pub stands_again : (files : Files) (bytes : List ℕ) (s : State) (archive : Archive) → archives_in bytes ≡ Ok (archive ∷ [])
    → (lsn : ℕ) × (chosen archive None ≡ Ok lsn) × (restored bytes archive lsn s.buffers ≡ s) → StandForRestored bytes None files → StandsFor files s
unfolding read_right some_archive right
stands_again files bytes s archive read same there =
    let other : Archive = there.0 in
    let lsn : ℕ = there.1 in
    let choice = there.2 in
    let all = one_reading choice.archives (archive ∷ []) (sym choice.read ∙ read) in
    let one : other ≡ archive = one_archive other archive (sym choice.together ∙ ap joined all) in
    let at : lsn ≡ same.0 = one_lsn lsn same.0 (sym choice.choice ∙ ap (λ (a : Archive). chosen a None) one ∙ same.1) in
    subst (StandsFor files) (ap (λ (a : Archive). restored bytes a lsn s.buffers) one ∙ ap (λ (n : ℕ). restored bytes archive n s.buffers) at ∙ same.2) (there.3 s.buffers)
