-- The records and the bases of parts that opening finds, place by place.
use Rattle.clfs_recover.proofs.Words.{◌≡◌, ◌⊎◌, ℕ, ◌+◌, ◌-◌, ◌<◌, ◌≤◌, length, get_or, sym, subst, arith, All, All-from_recursion, All-weaker, lsn_number}
use Rattle.clfs_recover.proofs.Words.{container_of, frontier, BaseFits, FitsAt, Restart, LogEntry, BaseImage, row_in, Parts}
use Rattle.std.specs.Prelude.{Any}
use Rattle.clfs_recover.proofs.FoundBases.{base_from_row, base_from_records, base_of_some}
use Rattle.clfs_recover.proofs.FoundParts.{AreOpened}
use Rattle.clfs_recover.proofs.KeptRecords.{from_both}
use Rattle.clfs_recover.proofs.ValidStates.{here, frontier_is, below, above, base_is, base_below}

module _ (parts : Parts) (is : AreOpened parts) where
  abbrev image : BaseImage
  image = parts.image

  abbrev Fits : LogEntry → Type 0
  Fits entry = FitsAt entry.lsn (length image.streams) entry

  pub all_fit : All Fits parts.entries
  all_fit = All-from_recursion Fits parts.entries is.laid.fit

  -- records lie below the frontier
  pub all_low : All (λ (entry : LogEntry). entry.lsn < frontier parts.place) parts.entries
  all_low = All-weaker (λ (entry : LogEntry). entry.lsn < here parts 1 is) (λ (entry : LogEntry). entry.lsn < frontier parts.place)
      (λ entry low. let at = frontier_is parts 1 is in omega (arith, at, low)) parts.entries
      (All-from_recursion (λ (entry : LogEntry). entry.lsn < here parts 1 is) parts.entries (below parts 1 is))

  -- in the listed containers
  pub all_listed : All (λ (entry : LogEntry). (image.first ≤ container_of entry.lsn) × (container_of entry.lsn ≤ parts.place.container)) parts.entries
  all_listed = All-from_recursion (λ (entry : LogEntry). (image.first ≤ container_of entry.lsn) × (container_of entry.lsn ≤ parts.place.container)) parts.entries
      (from_both (λ (entry : LogEntry). lsn_number image.first 0 0 ≤ entry.lsn) (λ (entry : LogEntry). entry.lsn < here parts 1 is)
      (λ (entry : LogEntry). (image.first ≤ container_of entry.lsn) × (container_of entry.lsn ≤ parts.place.container)) parts.entries
      (λ entry low high. (omega (arith, low), omega (arith, high, is.laid.within, is.image_is.shape.largest_container)))
      (above parts 1 is) (below parts 1 is))

  pub base_from_rows : (i : ℕ) → i < length image.streams → (row_in image.streams i).base ≤ get_or parts.bases i 0
  base_from_rows i lt =
      let base = base_is parts 1 is i lt in
      let row = base_from_row image.streams parts.entries i in
      omega (arith, base, row)

  pub base_from_all : All (λ (entry : LogEntry). entry.new_base ≤ get_or parts.bases (entry.stream - 1) 0) parts.entries
  base_from_all k d lt =
      let fits = all_fit k d lt in
      let moved = base_from_records image.streams parts.entries k d lt fits.some_stream in
      let base = base_is parts 1 is ((get_or parts.entries k d).stream - 1) (omega (arith, fits.some_stream, fits.stream)) in
      omega (arith, moved, base)

  pub base_to_frontier : (i : ℕ) → i < length image.streams → get_or parts.bases i 0 ≤ frontier parts.place
  base_to_frontier i lt = let low = base_below parts 1 is i lt in let at = frontier_is parts 1 is in omega (arith, low, at)

  pub base_of_row_or_record : (i : ℕ) → i < length image.streams → (get_or parts.bases i 0 ≡ (row_in image.streams i).base)
      ⊎ Any (λ (entry : LogEntry). (entry.stream ≡ i + 1) × (entry.kind ≡ Restart) × (entry.new_base ≡ get_or parts.bases i 0)) parts.entries
  base_of_row_or_record i lt = subst (λ (n : ℕ). (n ≡ (row_in image.streams i).base)
      ⊎ Any (λ (entry : LogEntry). (entry.stream ≡ i + 1) × (entry.kind ≡ Restart) × (entry.new_base ≡ n)) parts.entries) (sym (base_is parts 1 is i lt))
      (base_of_some image.streams parts.entries i
      (All-weaker Fits (λ (entry : LogEntry). BaseFits entry.kind entry.lsn entry.new_base) (λ entry fits. fits.new_base) parts.entries all_fit))
