-- The records that are read of stored blocks: their LSNs rise, block by block and container by container, and each fits its own.
use Rattle.clfs_recover.proofs.Words.{◌≡◌, ℕ, ◌+◌, ◌*◌, ◌≤◌, List, [], ◌∷◌, ◌++◌, length, Ok, refl, sym, subst, arith, AllByRecursion, lsn_number, IsShape}
use Rattle.clfs_recover.proofs.Words.{FitsAt, LogEntry, Shape, total, AreReadAsWritten, ◌>>=◌, told_as, block_records, damage_at, FitFrom, stored_in}
use Rattle.clfs_recover.proofs.Words.{stored_records}
use Rattle.clfs_recover.proofs.Binding.{read, bound, one_value, told_value}
use Rattle.clfs_recover.proofs.LaidBlocks.{RiseWithin, FitTheirs, rise_both, fit_both}
use Rattle.clfs_recover.proofs.ReadBlocks.{ReadsFit, block_read}

-- records whose LSNs rise from one on to another, and fit
pub record Rise (streams low high : ℕ) (entries : List LogEntry) : Type 0 where
  pub rise : RiseWithin low high entries
  pub fit : FitTheirs streams entries

rise_on : (streams low mid next high : ℕ) (front rest : List LogEntry) → Rise streams low mid front → mid ≤ next → Rise streams next high rest
    → Rise streams low high (front ++ rest)
rise_on streams low mid next high front rest one le other = record {
  rise = rise_both low mid next high front rest one.rise le other.rise;
  fit = fit_both streams front rest one.fit other.fit;
}

-- records with LSNs in a row
rise_in_row : (streams lsn high : ℕ) (entries : List LogEntry) → FitFrom lsn streams entries → lsn + length entries ≤ high → Rise streams lsn high entries
rise_in_row streams lsn high [] fits le = record { rise = omega (arith, le); fit = tt }
rise_in_row streams lsn high (entry ∷ entries) fits le =
    let at : entry.lsn ≡ lsn = fits.0.at in
    let rest = rise_in_row streams (lsn + 1) high entries fits.1 (omega (arith, le)) in
    let next : lsn + 1 ≡ entry.lsn + 1 = omega (arith, at) in record {
      rise = (omega (arith, at), subst (λ (n : ℕ). RiseWithin n high entries) next rest.rise);
      fit = (subst (λ (n : ℕ). FitsAt n streams entry) (sym at) fits.0, rest.fit);
    }

module _ (written : AreReadAsWritten) (reads : ReadsFit) (shape : Shape) (good : IsShape shape) (streams : ℕ) where
  -- of blocks one after the other
  blocks_rise : (id offset : ℕ) (here : List (List ℕ)) (entries : List LogEntry) → stored_in shape streams id offset here ≡ Ok entries
      → Rise streams (lsn_number id offset 0) (lsn_number id (offset + total here) 0) entries
  blocks_rise id offset [] entries is =
      subst (Rise streams (lsn_number id offset 0) (lsn_number id (offset + 0) 0)) (one_value (read []) [] entries refl is)
      (record { rise = omega arith; fit = tt })
  blocks_rise id offset (block ∷ here) entries is =
      let first = bound (told_as (damage_at id offset) (block_records shape streams (lsn_number id offset 0) block)) (λ (es : List LogEntry).
      stored_in shape streams id (offset + length block) here >>= λ (rest : List LogEntry). Ok (es ++ rest)) entries is in
      let next = bound (stored_in shape streams id (offset + length block) here) (λ (rest : List LogEntry). Ok (first.first ++ rest)) entries first.then in
      let found = block_read written reads shape good.largest_block streams (lsn_number id offset 0) first.first block
      (told_value (damage_at id offset) (block_records shape streams (lsn_number id offset 0) block) first.first first.is) in
      let one = rise_in_row streams (lsn_number id offset 0) (lsn_number id (offset + length block) 0) first.first found.fit
      (omega (arith, found.few, found.long)) in
      let rest = blocks_rise id (offset + length block) here next.first next.is in
      let sum : offset + length block + total here ≡ offset + (length block + total here) = omega arith in
      subst (Rise streams (lsn_number id offset 0) (lsn_number id (offset + (length block + total here)) 0))
      (one_value (read (first.first ++ next.first)) (first.first ++ next.first) entries refl next.then)
      (subst (λ (n : ℕ). Rise streams (lsn_number id offset 0) (lsn_number id n 0) (first.first ++ next.first)) sum
      (rise_on streams (lsn_number id offset 0) (lsn_number id (offset + length block) 0) (lsn_number id (offset + length block) 0)
      (lsn_number id (offset + length block + total here) 0) first.first next.first one (omega arith) rest))

  -- of containers: up to the one after the last
  pub containers_rise : (id : ℕ) (containers : List (List (List ℕ))) (entries : List LogEntry)
      → AllByRecursion (λ (here : List (List ℕ)). total here ≤ 512 * shape.container_sectors) containers
      → stored_records shape streams id containers ≡ Ok entries → Rise streams (lsn_number id 0 0) (lsn_number (id + length containers) 0 0) entries
  containers_rise id [] entries within is =
      subst (Rise streams (lsn_number id 0 0) (lsn_number (id + 0) 0 0)) (one_value (read []) [] entries refl is) (record { rise = omega arith; fit = tt })
  containers_rise id (here ∷ others) entries within is =
      let first = bound (stored_in shape streams id 0 here) (λ (es : List LogEntry).
      stored_records shape streams (id + 1) others >>= λ (rest : List LogEntry). Ok (es ++ rest)) entries is in
      let next = bound (stored_records shape streams (id + 1) others) (λ (rest : List LogEntry). Ok (first.first ++ rest)) entries first.then in
      let one = blocks_rise id 0 here first.first first.is in
      let rest = containers_rise (id + 1) others next.first within.1 next.is in
      let count : id + 1 + length others ≡ id + length (here ∷ others) = omega arith in
      let room = within.0 in
      subst (Rise streams (lsn_number id 0 0) (lsn_number (id + length (here ∷ others)) 0 0))
      (one_value (read (first.first ++ next.first)) (first.first ++ next.first) entries refl next.then)
      (subst (λ (n : ℕ). Rise streams (lsn_number id 0 0) (lsn_number n 0 0) (first.first ++ next.first)) count
      (rise_on streams (lsn_number id 0 0) (lsn_number id (0 + total here) 0) (lsn_number (id + 1) 0 0) (lsn_number (id + 1 + length others) 0 0)
      first.first next.first one (omega (arith, room, good.largest_container)) rest))
