-- The records of a block by the answers of its checks.
use Rattle.clfs_recover.proofs.Words.{◌≡◌, ℕ, List, Option, Some, None, Result, Ok, Err, refl, unless_wrong, LogEntry, Shape, Row, payload_of, frame_at}
use Rattle.clfs_recover.proofs.Words.{rest_at, BlockHead, BlockRefusal, told_as, records_from, block_records, block_refused, damage_at, GathersBlock}
use Rattle.clfs_recover.proofs.Words.{RefusesAs, LoadRefusal, NoBase, Damaged, DiskFault, NoMemory}
use Rattle.clfs_block.specs.Checks.{other_byte, payload_place}
use Rattle.clfs_block.specs.declared.head.BlockRefusal.TheVariants as blocks
use Rattle.clfs_block.specs.RecordLaws.{records_refused, rest_refused}
use Rattle.clfs_recover.specs.Gathering.{GivesFrame}

-- the zeros after the records are no gate
pub rest_has_no_gate : (bytes : List ℕ) (head : BlockHead) → rest_at bytes head ≡ Err blocks.Closed → ⊥
rest_has_no_gate bytes head is = by_place (payload_place (other_byte bytes head.used head.sectors)) is
  where
    by_place : (o : Option ℕ) → unless_wrong blocks.BadByte o (Ok head) ≡ Err blocks.Closed → ⊥
    by_place None e = cc e
    by_place (Some at) e = cc e

-- damage that is told of records
pub told_damage : (container offset c o at : ℕ) (read : Result (List LogEntry) ℕ)
    → told_as (λ at. Damaged container offset at) read ≡ Err (Damaged c o at) → (c ≡ container) × (o ≡ offset) × (read ≡ Err at)
told_damage container offset c o at (Ok entries) e = absurd (cc e)
told_damage container offset c o at (Err k) e = (cc e, cc e, cc e)

pub told_records : (container offset : ℕ) (entries : List LogEntry) (read : Result (List LogEntry) ℕ)
    → told_as (λ at. Damaged container offset at) read ≡ Ok entries → read ≡ Ok entries
told_records container offset entries (Ok others) e = cc e
told_records container offset entries (Err k) e = absurd (cc e)

module _ (has : List LogEntry → Type 0) (rows : List Row) (bases : List ℕ) (before : List LogEntry) (container offset : ℕ) (shape : Shape) (streams start : ℕ)
    (bytes : List ℕ) where
  abbrev Gathered : Result (Option ℕ) LoadRefusal → Type 0
  Gathered result = GathersBlock has rows bases before container offset result (block_records shape streams start bytes)

  pub frame_refusal : (refusal : LoadRefusal) → GivesFrame container offset (Err refusal) (frame_at shape start bytes) → Gathered (Err refusal)
  frame_refusal NoBase gives = gives
  frame_refusal (Damaged c o at) gives = (gives.0, gives.1, block_refused shape streams start bytes (blocks.BadByte at) gives.2)
  frame_refusal DiskFault gives = tt
  frame_refusal NoMemory gives = tt

  module _ (head : BlockHead) (is : frame_at shape start bytes ≡ Ok head) where
    pub records_refusal : (refusal : LoadRefusal)
        → RefusesAs refusal (told_as (λ at. Damaged container offset at) (records_from streams (payload_of head.used bytes) head.records start 16))
        → Gathered (Err refusal)
    records_refusal NoBase refuses = refuses
    records_refusal (Damaged c o at) refuses =
        let damage = told_damage container offset c o at (records_from streams (payload_of head.used bytes) head.records start 16) refuses in
        (damage.0, damage.1, records_refused shape streams start bytes head is at damage.2)
    records_refusal DiskFault refuses = tt
    records_refusal NoMemory refuses = tt

    pub rest_refusal : (entries : List LogEntry) (refusal : BlockRefusal)
        → records_from streams (payload_of head.used bytes) head.records start 16 ≡ Ok entries
        → rest_at bytes head ≡ Err refusal → Gathered (Err (damage_at container offset refusal))
    rest_refusal entries blocks.Closed right wrong = absurd (rest_has_no_gate bytes head wrong)
    rest_refusal entries (blocks.BadByte at) right wrong =
        (refl, refl, rest_refused shape streams start bytes head is entries right (blocks.BadByte at) wrong)
    rest_refusal entries blocks.NoMemory right wrong = tt
