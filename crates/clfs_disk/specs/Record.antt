-- The record of a disk in memory: what its calls make of the files that there were at first, and what a crash leaves of them.
use Rattle.std.specs.Prelude.{◌≡◌, ◌==◌, ◌&&◌, ◌||◌, ℕ, ◌+◌, nat_lt, nat_le, Bool, true, false, List, [], ◌∷◌, length, take, drop, slice_index, if◌then◌else◌}
use Rattle.clfs_disk.specs.Files.{Files, overwritten, lengthened}
use Rattle.clfs_disk.specs.State.{DiskState}
use Rattle.clfs_disk.specs.declared.record.Event.{Event}
use Rattle.clfs_disk.specs.declared.record.Event.TheVariants.{Read, Refused, Wrote, Grew, Synced}

-- The files as they read and as they were last synced, and the places that may hold any byte after a crash.
pub record Moment : Type 0 where
  pub files : Files
  pub synced : Files
  pub pending : ℕ → ℕ → Bool

-- Nothing is pending over these files.
abbrev pub at_rest : Files → Moment
at_rest files = record { files = files; synced = files; pending = λ file i. false }

-- The range of a write is pending until a sync.
abbrev pub after_write : ℕ → ℕ → List ℕ → Moment → Moment
after_write file at bytes m = record m {
  files = λ f. if f == file then overwritten (m.files f) at bytes else m.files f;
  pending = λ f i. m.pending f i || ((f == file) && (nat_le at i && nat_lt i (at + length bytes)));
}

-- Past the old end a file counts as synced with zeros, and is pending.
abbrev pub after_growth : ℕ → ℕ → Moment → Moment
after_growth file len m = record {
  files = λ f. if f == file then lengthened (m.files f) len else m.files f;
  synced = λ f. if f == file then lengthened (m.synced f) len else m.synced f;
  pending = λ f i. m.pending f i || ((f == file) && nat_le (length (m.files f)) i);
}

-- What a call makes of a moment, with the bytes that it wrote.
abbrev pub after : Event → List ℕ → Moment → Moment
after Read bytes m = m
after Refused bytes m = m
after (Wrote file at len) bytes m = after_write file at bytes m
after (Grew file len) bytes m = after_growth file len m
after Synced bytes m = at_rest m.files

-- How many bytes a call wrote.
abbrev pub byte_count : Event → ℕ
byte_count Read = 0
byte_count Refused = 0
byte_count (Wrote file at len) = len
byte_count (Grew file len) = 0
byte_count Synced = 0

-- How many bytes calls wrote.
abbrev pub bytes_written : List Event → ℕ
bytes_written [] = 0
bytes_written (event ∷ events) = byte_count event + bytes_written events

-- The moment after calls, the first call first. The bytes of their writes stand one after another.
abbrev pub replay : Moment → List Event → List ℕ → Moment
replay m [] bytes = m
replay m (event ∷ events) bytes = replay (after event (take (byte_count event) bytes) m) events (drop (byte_count event) bytes)

-- A crash leaves each file as long as it is, and each byte that isn't pending as it is.
abbrev pub Image : Moment → Files → Type 0
Image m image = (file : ℕ) → (length (image file) ≡ length (m.files file))
    × ((i : ℕ) → m.pending file i ≡ false → slice_index (image file) i ≡ slice_index (m.files file) i)

-- What a disk shows that began with these files, after the calls of its record, of which only the first so many count at an
-- earlier moment. So many calls were made of it, those beyond the record's room among them.
abbrev pub recorded : Files → List Event → List ℕ → Files → ℕ → ℕ → DiskState
recorded start events written files calls faults = record {
  files = files;
  clock = length events;
  image_at = λ moment image. Image (replay (at_rest start) (take moment events) written) image;
  calls = calls;
  faults = faults;
  nature = record { tells_contents = true; tells_images = true; steady = false };
}
