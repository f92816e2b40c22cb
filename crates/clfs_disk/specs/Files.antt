-- The files of a disk, and what a call or a crash does to them.
use Rattle.std.specs.Prelude.{◌≡◌, ◌≢◌, ◌==◌, ◌%◌, ℕ, ◌+◌, ◌-◌, ◌<◌, ◌≤◌, min, max, List, ◌++◌, map, length, take, drop, slice_index, replicate, if◌then◌else◌}
use Rattle.std.specs.List.{range_with_len}

-- The bytes of each file by its number. A file that was never made is empty.
abbrev pub Files : Type 0
Files = ℕ → List ℕ

-- Each file holds what it held.
abbrev pub Unchanged : Files → Files → Type 0
Unchanged old new = (file : ℕ) → new file ≡ old file

-- The change is made in one file, and the others hold what they held.
pub record InFile (file : ℕ) (change : List ℕ → List ℕ → Type 0) (old new : Files) : Type 0 where
  pub here : change (old file) (new file)
  pub elsewhere : (other : ℕ) → other ≢ file → new other ≡ old other

-- The old bytes with these in their place from a place on.
abbrev pub overwritten : List ℕ → ℕ → List ℕ → List ℕ
overwritten old at bytes = take at old ++ bytes ++ drop (at + length bytes) old

-- The old bytes, and zeros after them up to a length.
abbrev pub lengthened : List ℕ → ℕ → List ℕ
lengthened old len = old ++ replicate (len - length old) 0

-- How many bytes a read of so many finds at a place.
abbrev pub found_count : List ℕ → ℕ → ℕ → ℕ
found_count file at room = min room (length file - at)

-- One file holds these bytes from a place on, and all else is as it was.
abbrev pub WrittenIn : ℕ → ℕ → List ℕ → Files → Files → Type 0
WrittenIn file at bytes = InFile file (λ old new. new ≡ overwritten old at bytes)

-- One file is at least so long, its new part zeros, and all else is as it was.
abbrev pub LengthenedIn : ℕ → ℕ → Files → Files → Type 0
LengthenedIn file len = InFile file (λ old new. new ≡ lengthened old len)

-- A write of n bytes that a crash cuts short leaves any bytes in its range and the others as they were.
pub record Torn (at n : ℕ) (old new : List ℕ) : Type 0 where
  pub same_length : length new ≡ length old
  pub below : (i : ℕ) → i < at → slice_index new i ≡ slice_index old i
  pub above : (i : ℕ) → at + n ≤ i → slice_index new i ≡ slice_index old i

-- A growth that a crash cuts short leaves a length between the old one and the new, and any bytes past the old end.
pub record Grown (len : ℕ) (old new : List ℕ) : Type 0 where
  pub no_shorter : length old ≤ length new
  pub no_longer : length new ≤ max (length old) len
  pub below : (i : ℕ) → i < length old → slice_index new i ≡ slice_index old i

-- A torn write in one file, and all else is as it was.
abbrev pub TornIn : ℕ → ℕ → ℕ → Files → Files → Type 0
TornIn file at n = InFile file (Torn at n)

-- A growth that was cut short in one file, and all else is as it was.
abbrev pub GrownIn : ℕ → ℕ → Files → Files → Type 0
GrownIn file len = InFile file (Grown len)

-- The byte that a crash leaves at a place: by pick 0 the synced one, by 1 the one that is read, by 2 the read one at even places.
abbrev pub picked_byte : ℕ → ℕ → ℕ → ℕ → ℕ
picked_byte pick i read synced = if pick == 0 then synced else if pick == 1 then read else if i % 2 == 0 then read else synced

-- The bytes that a crash leaves of a file by a pick, as many as are read.
abbrev pub picked : ℕ → List ℕ → List ℕ → List ℕ
picked pick read synced = map (λ i. picked_byte pick i (slice_index read i) (slice_index synced i)) (range_with_len 0 (length read))
