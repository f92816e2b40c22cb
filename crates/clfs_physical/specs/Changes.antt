-- What the next copy says, by what is to change.
use Rattle.std.specs.Prelude.{◌≡◌, ◌≢◌, true, ℕ, ◌+◌, ◌-◌, ◌%◌, ◌^◌, ◌<◌, ◌≤◌, max, List, [], ◌∷◌, ◌++◌, length, drop, slice_set}
use Rattle.clfs_base.specs.declared.image.BaseImage.{BaseImage}
use Rattle.clfs_base.specs.declared.image.Row.{Row}
use Rattle.clfs_base.specs.Layout.{most_minimum, most_tail}
use Rattle.clfs_base.specs.Spelling.{IsName, row_in, IsPolicy, current, flag}
use Rattle.clfs_lsn.specs.Limits.{most_containers, fewest_containers, greatest_rate, most_streams, longest_name}
use Rattle.clfs_physical.specs.declared.change.Change.{Change}
use Rattle.clfs_physical.specs.declared.change.Change.TheVariants as changes

-- A copy with the turn that follows, in the version in which copies are written.
abbrev pub with_next_turn : BaseImage → BaseImage
with_next_turn image = record (current image) { turn = (image.turn + 1) % 3 }

-- A copy that lists no container below this one.
abbrev pub listed_from : ℕ → BaseImage → BaseImage
listed_from first image = record image { first = first; files = drop (first - image.first) image.files }

-- The same copy with another file after the listed ones.
abbrev pub with_file : ℕ → BaseImage → BaseImage
with_file file image = record image { files = image.files ++ file ∷ [] }

-- The same copy with one stream more.
abbrev pub with_stream : Row → BaseImage → BaseImage
with_stream row image = record image { streams = image.streams ++ row ∷ [] }

-- The same copy of a log with so many containers, for which files were made where there weren't enough.
abbrev pub with_containers : ℕ → BaseImage → BaseImage
with_containers containers image = record image { containers = containers; files_made = max image.files_made containers }

-- The rows with another base of the stream of this number, from 1.
abbrev pub with_base : ℕ → ℕ → List Row → List Row
with_base stream base rows = slice_set rows (stream - 1) (record (row_in rows (stream - 1)) { base = base })

-- The same copy after a change.
abbrev pub changed : Change → BaseImage → BaseImage
changed changes.Listing image = image
changed (changes.Base stream base) image = record image { streams = with_base stream base image.streams }
changed (changes.Archive archiving tail) image = record image { archiving = archiving; tail = tail }
changed (changes.Policies automatic maximum minimum growth) image =
    record image { automatic = automatic; maximum = maximum; minimum = minimum; growth = growth }

-- The copy that follows one, with the containers from this one on and after a change.
abbrev pub next_copy : ℕ → Change → BaseImage → BaseImage
next_copy first change image = changed change (listed_from first (with_next_turn image))

-- A change that a copy can have: it speaks of a stream that is there, and its numbers are in their ranges.
abbrev pub Suits : Change → BaseImage → Type 0
Suits changes.Listing image = Unit {0}
Suits (changes.Base stream base) image = (1 ≤ stream) × (stream ≤ length image.streams) × (base < 2 ^ 64)
Suits (changes.Archive archiving tail) image = tail ≤ most_tail (flag archiving)
Suits (changes.Policies automatic maximum minimum growth) image =
    IsPolicy fewest_containers most_containers maximum × IsPolicy fewest_containers (most_minimum maximum) minimum × (growth ≤ greatest_rate)

-- A number of containers that the log can have while it lists those from this one on.
pub record CanHave (containers first : ℕ) (image : BaseImage) : Type 0 where
  pub some : 1 ≤ containers
  pub few : containers ≤ most_containers
  pub listed : image.first + length image.files ≤ first + containers

-- A stream that the log can have besides: there is room for it, a dedicated log has none yet, and its name is one that no other stream
-- has.
pub record IsNewRow (row : Row) (image : BaseImage) : Type 0 where
  pub few : length image.streams < most_streams
  pub alone : image.dedicated ≡ true → image.streams ≡ []
  pub name : IsName longest_name row.name
  pub other : (i : ℕ) → i < length image.streams → (row_in image.streams i).name ≢ row.name
  pub base : row.base < 2 ^ 64
