-- A state that is valid and that files can hold but for the restart area that was put last: sealing and flushing keep it such.
use Rattle.clfs_laws.proofs.Words.{◌≡◌, refl, sym, subst, inl, inr, arith, List, [], All, nat_lt, cases_Bool, All-weaker, container_of, BaseFits, LogEntry}
use Rattle.clfs_laws.proofs.Words.{State, hold, seal, flush, HasBlocks, IsWithinLimits, HasMovedBase, IsStorable, IsValid, IsWhole, IsLaid, KeepsTables}
use Rattle.clfs_laws.proofs.RecordsOfCalls.{seal_records}
use Rattle.clfs_laws.proofs.StorableBases.{bases_as, same_bases}
use Rattle.clfs_laws.proofs.StorableBlocks.{blocks_seal, blocks_flush}
use Rattle.clfs_laws.proofs.StorableLimits.{limits_seal, limits_flush}
use Rattle.clfs_laws.proofs.ValidBases.{flush_streams}
use Rattle.clfs_laws.proofs.ValidPlaces.{IsSound, sound_of, sound_seal, sound_flush, valid_seal, valid_flush, sealed_hold, sealed_within}

-- new bases are such as their records may have
abbrev pub HaveBases : List LogEntry → Type 0
HaveBases entries = All (λ (entry : LogEntry). BaseFits entry.kind entry.lsn entry.new_base) entries

-- a laid log is sound
pub sound_laid : (s : State) → IsLaid s → IsSound s
sound_laid s laid = record {
  ranges = laid.ranges;
  policies = laid.policies;
  tables = laid.tables;
  records = laid.records;
  stable = record { bases = laid.bases; tail = laid.tail };
  waiting = laid.waiting;
  space = laid.space;
}

pub laid_of : (s : State) → IsSound s → HaveBases s.records → HasBlocks s → IsWithinLimits s → IsLaid s
laid_of s sound new_bases blocks limits = record {
  ranges = sound.ranges;
  policies = sound.policies;
  tables = sound.tables;
  records = sound.records;
  bases = sound.stable.bases;
  tail = sound.stable.tail;
  waiting = sound.waiting;
  space = sound.space;
  new_bases = new_bases;
  blocks = blocks;
  limits = limits;
}

pub have_bases : (s : State) → All (HasMovedBase s) s.records → HaveBases s.records
have_bases s all =
    All-weaker (HasMovedBase s) (λ (entry : LogEntry). BaseFits entry.kind entry.lsn entry.new_base) (λ entry has. has.own) s.records all

-- a whole log is laid
pub laid_whole : (s : State) → IsValid s → IsStorable s → IsLaid s
laid_whole s valid storable = laid_of s (sound_of s valid) (have_bases s storable.bases) storable.blocks storable.limits

-- sealing and flushing
pub laid_seal : (s : State) → IsLaid s → IsLaid (seal s)
laid_seal s laid =
    laid_of (seal s) (sound_seal s (sound_laid s laid)) (subst HaveBases (sym (seal_records s)) laid.new_bases) (blocks_seal s laid.blocks)
    (limits_seal s laid.limits)

pub laid_flush : (s : State) → IsLaid s → IsLaid (flush s)
laid_flush s laid =
    laid_of (flush s) (sound_flush s (sound_laid s laid)) (subst HaveBases (sym (seal_records s)) laid.new_bases) (blocks_flush s laid.blocks)
    (limits_flush s laid.limits)

pub whole_seal : (s : State) → IsValid s → IsStorable s → IsWhole (seal s)
whole_seal s valid storable = record {
  valid = valid_seal s valid;
  storable = record {
    bases = bases_as s (seal s) (seal_records s) (same_bases s (seal s) (flush_streams s)) storable.bases;
    blocks = blocks_seal s storable.blocks;
    limits = limits_seal s storable.limits;
  };
}

pub whole_flush : (s : State) → IsValid s → IsStorable s → IsWhole (flush s)
whole_flush s valid storable = record {
  valid = valid_flush s (sound_of s valid);
  storable = record {
    bases = bases_as s (flush s) (seal_records s) (same_bases s (flush s) (flush_streams s)) storable.bases;
    blocks = blocks_flush s storable.blocks;
    limits = limits_flush s storable.limits;
  };
}

-- the hold stays in its container
pub seal_hold : (s : State) → IsSound s → container_of (hold (seal s)) ≡ container_of (hold s)
seal_hold s sound = elim (cases_Bool (nat_lt 0 s.place.records)) [
  | inl some ↦ rw some (sealed_hold s [] sound (sealed_within s sound))
  | inr none ↦ rw none refl
]

pub flush_hold : (s : State) → IsSound s → container_of (hold (flush s)) ≡ container_of (hold s)
flush_hold s sound = seal_hold s sound

-- the tables stay
pub seal_tables : (s : State) → IsSound s → KeepsTables s (seal s)
seal_tables s sound = let held = seal_hold s sound in elim (cases_Bool (nat_lt 0 s.place.records)) [
  | inl some ↦ rw some (record { shape = refl; containers = refl; buffers = refl; streams = refl; areas = refl; archive = refl; hold = omega (arith, rw some at held) })
  | inr none ↦ rw none (record { shape = refl; containers = refl; buffers = refl; streams = refl; areas = refl; archive = refl; hold = omega arith })
]

pub flush_tables : (s : State) → IsSound s → KeepsTables s (flush s)
flush_tables s sound = let same = seal_tables s sound in record {
  shape = same.shape;
  containers = same.containers;
  buffers = same.buffers;
  streams = same.streams;
  areas = same.areas;
  archive = same.archive;
  hold = same.hold;
}
