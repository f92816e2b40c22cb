-- A log that was walked after a base copy, whatever the disk told, and that it is the one that opening finds where the disk tells.
use Rattle.clfs_recover.proofs.Words.{◌≡◌, ℕ, ◌+◌, ◌-◌, ◌≤◌, List, [], length, Some, None, Result, Ok, Err, refl, sym, ◌∙◌, ap, subst, IfOk, frontier}
use Rattle.clfs_recover.proofs.Words.{LogEntry, Place, Files, Unchanged, DiskState, TellsContents, BaseImage, IsImage, newest_of, Container, shape_of}
use Rattle.clfs_recover.proofs.Words.{slot_offset, image_fault, walked, AreListed, Finds, HaveBlocks, HasLog, stored_place, TakesListed, IsOpenedFrom}
use Rattle.clfs_recover.proofs.Words.{parts_of, Walked, Parts, LoadRefusal, Damaged}
use Rattle.clfs_recover.specs.Opening.{IsWalkedLog}
use Rattle.clfs_recover.proofs.Meanings.{OneList, WholeAreOpen, stored_fault, stored_found}

module _ (has : List LogEntry → Type 0) (told : Type 0) (files : Files) (slot : ℕ) (image : BaseImage) where
  -- the records that were taken in of the containers that a base copy lists
  abbrev pub Taken : List ℕ → ℕ → Type 0
  Taken moved end = TakesListed (shape_of image) (length image.streams) image.first told files image.files has image.streams moved [] end

  pub taken_by_image : (moved : List ℕ) (end streams : ℕ) (numbers : List ℕ) → streams ≡ length image.streams → numbers ≡ image.files
      → TakesListed (shape_of image) streams image.first told files numbers has image.streams moved [] end → Taken moved end
  taken_by_image moved end streams numbers p q taken =
      subst (λ (l : List ℕ). TakesListed (shape_of image) (length image.streams) image.first told files l has image.streams moved [] end) q
      (subst (λ (n : ℕ). TakesListed (shape_of image) n image.first told files numbers has image.streams moved [] end) p taken)

  -- where they end
  there : (moved : List ℕ) (place : Place) (end : ℕ) (taken : Taken moved end)
      → place ≡ record { container = image.first + length image.files - 1; offset = end; used = 0; records = 0 }
      → place ≡ stored_place image taken.blocks
  there moved place end taken placed =
      placed ∙ (λ i. record { container = image.first + length image.files - 1; offset = sym taken.ends i; used = 0; records = 0 })

  -- a base copy that doesn't fit them
  pub is_fault : OneList → WholeAreOpen → told → (moved : List ℕ) (place : Place) (end : ℕ) → Taken moved end
      → place ≡ record { container = image.first + length image.files - 1; offset = end; used = 0; records = 0 }
      → (at : ℕ) → image_fault image (frontier place) ≡ Some at → (listed : List Container) → AreListed image.container_sectors files image.files listed
      → walked slot image listed ≡ Err (Damaged 0 (slot_offset slot) at)
  is_fault one open_too is_told moved place end taken placed at fault =
      stored_fault slot image taken.blocks open_too files (taken.stand is_told) one taken.entries at taken.records
      (ap (λ (p : Place). image_fault image (frontier p)) (sym (there moved place end taken placed)) ∙ fault)

  -- and one that does
  pub fits_records : slot ≤ 1 → IsImage image → (bases moved : List ℕ) (place : Place) (end : ℕ) → Taken moved end → bases ≡ moved
      → place ≡ record { container = image.first + length image.files - 1; offset = end; used = 0; records = 0 }
      → image_fault image (frontier place) ≡ None
      → IsWalkedLog has told files slot image (record { slot = slot; image = image; bases = bases; place = place })
  fits_records is_slot is_image bases moved place end taken same placed right =
      let at = there moved place end taken placed in
      let raised = same ∙ taken.taken.moved in record {
        entries = taken.entries;
        taken = taken.taken.records;
        slot_is = refl;
        image_is = refl;
        log = record {
          blocks = taken.blocks;
          listed = taken.listed;
          lie = taken.lie;
          records = taken.records;
          is = λ i. record { slot = slot; image = image; entries = taken.entries; bases = raised i; place = at i };
          fits = ap (λ (p : Place). image_fault image (frontier p)) (sym at) ∙ right;
          image = is_image;
          slot = is_slot;
        };
        stand = taken.stand;
      }

-- What was walked after the newest base copy of a disk was opened from it.
pub walked_is_opened : WholeAreOpen → (has : List LogEntry → Type 0) (disk : DiskState) (told : Type 0) (files : Files) (slot : ℕ) (image : BaseImage)
    (result : Result Walked LoadRefusal) → (TellsContents disk → told) → Unchanged disk.files files
    → (TellsContents disk → newest_of (disk.files 0) ≡ Ok (slot, image)) → IfOk result (IsWalkedLog has told files slot image)
    → IfOk result (λ walked. (entries : List LogEntry) × has entries × IsOpenedFrom disk (parts_of walked entries))
walked_is_opened open_too has disk told files slot image (Err refusal) tells same newest walk = tt
walked_is_opened open_too has disk told files slot image (Ok walked) tells same newest walk =
    let log = walk.log in
    let unchanged : files ≡ disk.files = λ i file. same file i in
    let stored = λ (is_told : TellsContents disk).
    let blocks = subst (λ (f : Files). HaveBlocks image.container_sectors f image.files log.blocks) unchanged (walk.stand (tells is_told)) in
    let is_log : HasLog walked.slot walked.image log.blocks disk.files = record {
      newest = newest is_told ∙ (λ i. Ok (sym walk.slot_is i, sym walk.image_is i));
      containers = subst (λ (copy : BaseImage). HaveBlocks copy.container_sectors disk.files copy.files log.blocks) (sym walk.image_is) blocks;
    } in
    stored_found walked.slot walked.image log.blocks open_too disk.files is_log walk.entries log.records log.fits in (
      walk.entries,
      walk.taken,
      record {
        log = log;
        found = λ is_told. subst (λ (parts : Parts). Finds disk.files (Ok parts)) (sym log.is) (stored is_told);
      },
    )

-- What was opened from a disk that tells its contents is what opening finds there.
pub opened_is_found : (has : List LogEntry → Type 0) (disk : DiskState) (result : Result Walked LoadRefusal) → TellsContents disk
    → IfOk result (λ walked. (entries : List LogEntry) × has entries × IsOpenedFrom disk (parts_of walked entries))
    → IfOk result (λ walked. (entries : List LogEntry) × has entries × Finds disk.files (Ok (parts_of walked entries)))
opened_is_found has disk (Ok walked) tells opened = (opened.0, opened.1, opened.2.found tells)
opened_is_found has disk (Err refusal) tells opened = tt
