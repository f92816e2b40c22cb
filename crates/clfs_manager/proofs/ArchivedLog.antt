-- A log whose archiving was changed, in memory and on the disk.
use Rattle.clfs_manager.proofs.Words.{◌≡◌, ℕ, ◌<◌, ◌≤◌, ◌^◌, true, refl, ap, ◌∙◌, List, ◌++◌, map, arith, Option, Some, None, is_some, unwrap_or}
use Rattle.clfs_manager.proofs.Words.{option_to_list, null_lsn, container_of, frontier, IsImage, current, flag, BaseImage, State, cut, flushed, hold}
use Rattle.clfs_manager.proofs.Words.{live_lsns, IsValid, Blocks, IsLogWith, stored_state, stored_place, IsStored, with_archive}
use Rattle.std.proofs.Common.{if◌then◌else◌}
use Rattle.clfs_base.specs.Layout.{most_tail}
use Rattle.clfs_manager.proofs.Among.{here}
use Rattle.clfs_manager.proofs.ClosedPlace.{is_start}
use Rattle.clfs_manager.proofs.Reached.{least_below}

-- a copy with archiving so, and another turn, of the version that is written
abbrev pub archived : Option ℕ → ℕ → BaseImage → BaseImage
archived tail turn image = record image { version = 2; turn = turn; archiving = is_some tail; tail = unwrap_or tail null_lsn }

pub archived_image : (image : BaseImage) (tail : Option ℕ) (turn : ℕ) → IsImage (current image) → turn ≤ 2
    → unwrap_or tail null_lsn ≤ most_tail (flag (is_some tail)) → IsImage (archived tail turn image)
archived_image image tail turn is of_turn of_tail = record {
  version = refl;
  turn = of_turn;
  shape = is.shape;
  some_containers = is.some_containers;
  containers_made = is.containers_made;
  few_made = is.few_made;
  first = is.first;
  some_listed = is.some_listed;
  few_listed = is.few_listed;
  last_id = is.last_id;
  maximum = is.maximum;
  minimum = is.minimum;
  growth = is.growth;
  tail = of_tail;
  dedicated = is.dedicated;
  files = is.files;
  few_streams = is.few_streams;
  rows = is.rows;
}

-- what is on the disk ends at the flushed LSN
pub cut_ends : (s : State) → IsValid s → frontier (cut s).place ≡ flushed s
cut_ends s valid = let start = is_start s valid in omega (arith, start.sequence)

-- the hold lies at or below the archive tail
hold_below_tail : (t : State) (lsn : ℕ) → t.archive ≡ Some lsn → hold t ≤ lsn
hold_below_tail t lsn on = least_below (frontier t.place) lsn (option_to_list t.archive ++ live_lsns t) (rw on (here lsn (live_lsns t)))

-- A new tail fits the copy and what is on the disk.
pub tail_fits : (s : State) (image : BaseImage) (blocks : List (List (List ℕ))) (tail : Option ℕ) → IsValid s → IsValid (with_archive tail s)
    → stored_place image blocks ≡ (cut s).place → image.first ≤ container_of (hold (with_archive tail s)) → is_some tail ≡ true
    → (unwrap_or tail null_lsn ≤ frontier (stored_place image blocks)) × (image.first ≤ container_of (unwrap_or tail null_lsn))
tail_fits s image blocks None valid after place low on = absurd (cc on)
tail_fits s image blocks (Some lsn) valid after place low on =
    let below : lsn ≤ flushed s = after.stable.tail in
    let held : hold (with_archive (Some lsn) s) ≤ lsn = hold_below_tail (with_archive (Some lsn) s) lsn refl in
    (omega (arith, below, cut_ends s valid, ap frontier place), omega (arith, held, low))

-- and has the eight bytes of the copy
pub tail_few : (s : State) (tail : Option ℕ) → flushed s < 2 ^ 64 → IsValid (with_archive tail s) → unwrap_or tail null_lsn ≤ most_tail (flag (is_some tail))
tail_few s None few after = omega arith
tail_few s (Some lsn) few after = let below : lsn ≤ flushed s = after.stable.tail in omega (arith, below, few)

-- archiving is read as it was stored
archive_back : (tail : Option ℕ) → (if is_some tail then Some (unwrap_or tail null_lsn) else None) ≡ tail
archive_back None = refl
archive_back (Some lsn) = refl

pub archived_stored : (s : State) (slot : ℕ) (image : BaseImage) (blocks : Blocks) (tail : Option ℕ)
    → (stored : IsStored s (record { slot = slot; image = image }) blocks) → image.first ≤ container_of (hold (with_archive tail s))
    → IsLogWith (record image { archiving = is_some tail; tail = unwrap_or tail null_lsn }) (map blocks image.files) stored.entries
    → stored_state (record image { archiving = is_some tail; tail = unwrap_or tail null_lsn }) (map blocks image.files) stored.entries s.buffers
    ≡ record (stored_state image (map blocks image.files) stored.entries s.buffers) { archive = if is_some tail then Some (unwrap_or tail null_lsn) else None }
    → IsStored (with_archive tail s) (record { slot = slot; image = record image { archiving = is_some tail; tail = unwrap_or tail null_lsn } }) blocks
archived_stored s slot image blocks tail stored low log state = record {
  entries = stored.entries;
  log = log;
  records = stored.records;
  state = state ∙ ap (λ (u : State). record u { archive = if is_some tail then Some (unwrap_or tail null_lsn) else None }) stored.state
      ∙ ap (λ (value : Option ℕ). let u : State = record (cut s) { records = stored.entries; archive = value } in u) (archive_back tail);
  needed = low;
}
