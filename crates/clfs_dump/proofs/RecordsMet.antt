-- The records of a block that are met up to the first wrong one, one after the other, and their text.
use Rattle.clfs_dump.proofs.Words.{◌≡◌, ℕ, suc, ◌+◌, ◌-◌, ◌<◌, ◌≤◌, List, [], ◌∷◌, ◌++◌, drop, Result, Ok, Err, sym, ◌∙◌, ap, arith, append_assoc, append-nil}
use Rattle.clfs_dump.proofs.Words.{flat_map, record_at, LogEntry, met_with, records_met}

module _ (streams : ℕ) (payload : List ℕ) (count start : ℕ) where
  -- those that are met from a position of the block on, and from a byte of its payload
  abbrev pub met_here : ℕ → ℕ → List LogEntry
  met_here sequence p = records_met streams payload (count - sequence) (start + sequence) p

  one_more : (sequence p : ℕ) → sequence < count → met_here sequence p ≡ records_met streams payload (suc (count - (sequence + 1))) (start + sequence) p
  one_more sequence p lt =
      let e : count - sequence ≡ suc (count - (sequence + 1)) = omega (arith, lt) in
      ap (λ (n : ℕ). records_met streams payload n (start + sequence) p) e

  -- a record that is right is met, and those after it
  pub met_taken : (sequence p size : ℕ) (entry : LogEntry) → sequence < count → record_at (start + sequence) streams (drop p payload) ≡ Ok (entry, size)
      → met_here sequence p ≡ entry ∷ met_here (sequence + 1) (p + size)
  met_taken sequence p size entry lt is =
      let n : ℕ = count - (sequence + 1) in
      let next : start + sequence + 1 ≡ start + (sequence + 1) = omega arith in
      one_more sequence p lt
      ∙ ap (λ (r : Result (LogEntry × ℕ) ℕ). met_with (λ size. records_met streams payload n (start + sequence + 1) (p + size)) r) is
      ∙ ap (λ (k : ℕ). entry ∷ records_met streams payload n k (p + size)) next

  -- none is met from a wrong one on
  pub met_wrong : (sequence p at : ℕ) → sequence < count → record_at (start + sequence) streams (drop p payload) ≡ Err at → met_here sequence p ≡ []
  met_wrong sequence p at lt is =
      let n : ℕ = count - (sequence + 1) in
      one_more sequence p lt
      ∙ ap (λ (r : Result (LogEntry × ℕ) ℕ). met_with (λ size. records_met streams payload n (start + sequence + 1) (p + size)) r) is

  -- and after the last
  pub met_end : (sequence p : ℕ) → count ≤ sequence → met_here sequence p ≡ []
  met_end sequence p le =
      let e : count - sequence ≡ 0 = omega (arith, le) in ap (λ (n : ℕ). records_met streams payload n (start + sequence) p) e

  -- all are met from the first on
  pub met_all : (p : ℕ) → met_here 0 p ≡ records_met streams payload count start p
  met_all p =
      let n : count - 0 ≡ count = omega arith in
      let lsn : start + 0 ≡ start = omega arith in
      ap (λ (k : ℕ). records_met streams payload k (start + 0) p) n ∙ ap (λ (k : ℕ). records_met streams payload count k p) lsn

-- ---- their text

module _ (f : LogEntry → List ℕ) where
  -- one more was added
  pub text_more : (out new total : List ℕ) (entry : LogEntry) (rest all : List LogEntry) → out ++ flat_map f all ≡ total → all ≡ entry ∷ rest
      → new ≡ out ++ f entry → new ++ flat_map f rest ≡ total
  text_more out new total entry rest all so_far is more =
      ap (λ (l : List ℕ). l ++ flat_map f rest) more ∙ append_assoc out (f entry) (flat_map f rest)
      ∙ sym (ap (λ (l : List LogEntry). out ++ flat_map f l) is) ∙ so_far

  -- none is left
  pub text_end : (out total : List ℕ) (all : List LogEntry) → out ++ flat_map f all ≡ total → all ≡ [] → out ≡ total
  text_end out total all so_far is = sym (append-nil out) ∙ sym (ap (λ (l : List LogEntry). out ++ flat_map f l) is) ∙ so_far
