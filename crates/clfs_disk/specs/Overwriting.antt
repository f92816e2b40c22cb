-- What stands where in bytes that were overwritten, as facts for whoever asks what a write left.
use Rattle.std.specs.Prelude.{◌≡◌, ℕ, ◌+◌, ◌-◌, ◌<◌, ◌≤◌, List, length, take, drop, slice_index}
use Rattle.clfs_disk.specs.Files.{overwritten}

-- Where bytes are put within others, these stay as many as they were; the new ones stand in their place, one by one and in a row,
-- and all below and above it are as they were.
pub record StandsInPlace : Type 0 where
  pub size : (old : List ℕ) (at : ℕ) (bytes : List ℕ) → at + length bytes ≤ length old → length (overwritten old at bytes) ≡ length old
  pub below : (old : List ℕ) (at : ℕ) (bytes : List ℕ) → at + length bytes ≤ length old → (i : ℕ) → i < at
      → slice_index (overwritten old at bytes) i ≡ slice_index old i
  pub inside : (old : List ℕ) (at : ℕ) (bytes : List ℕ) → at + length bytes ≤ length old → (i : ℕ) → at ≤ i → i < at + length bytes
      → slice_index (overwritten old at bytes) i ≡ slice_index bytes (i - at)
  pub above : (old : List ℕ) (at : ℕ) (bytes : List ℕ) → at + length bytes ≤ length old → (i : ℕ) → at + length bytes ≤ i
      → slice_index (overwritten old at bytes) i ≡ slice_index old i
  pub part : (old : List ℕ) (at : ℕ) (bytes : List ℕ) → at + length bytes ≤ length old
      → take (length bytes) (drop at (overwritten old at bytes)) ≡ bytes
