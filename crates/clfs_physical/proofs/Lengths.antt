-- How long files are after a write.
use Rattle.clfs_physical.proofs.Words.{◌≡◌, ◌≢◌, ⊎_elim, ℕ, length, sym, ◌∙◌, ap, subst, cases_eq, Files, TornIn, SameLengths}

-- a write leaves the lengths, whatever it wrote
pub torn_lengths : (file at n : ℕ) (old new : Files) → TornIn file at n old new → SameLengths old new
torn_lengths file at n old new torn other = ⊎_elim
    (λ (is : other ≡ file). subst (λ (k : ℕ). length (new k) ≡ length (old k)) (sym is) torn.here.same_length)
    (λ (apart : other ≢ file). ap length (torn.elsewhere other apart))
    (cases_eq other file)

pub lengths_then : (a b c : Files) → SameLengths a b → SameLengths b c → SameLengths a c
lengths_then a b c first second file = second file ∙ first file
