-- Of which bytes damage is told.
use Rattle.clfs_buffers.proofs.Words.{◌≡◌, ◌≤◌, ◌*◌, ℕ, List, length, take, arith, Option, Some, None, Result, Ok, Err, ap, sym, ok_or, sector_bytes}
use Rattle.clfs_buffers.proofs.Words.{LogEntry, Shape, told_as, block_records, BlockRefusal, Closed, BadByte, NoMemory, RefusesAs, refused_at, TellsBlock}
use Rattle.std.proofs.Common.{length-take}
use Rattle.clfs_buffers.specs.Reading.{as_read}

-- what is read into bytes isn't longer than they are
pub fronts_are_short : (n room most : ℕ) (bytes : List ℕ) → n ≤ room → room ≤ most → length (take n bytes) ≤ most
fronts_are_short n room most bytes within few = omega (arith, length-take n bytes, within, few)

-- a block's refusal is told of the bytes that were judged
pub told_of : (shape : Shape) (streams lsn : ℕ) (bytes : List ℕ) (refusal : BlockRefusal) → length bytes ≤ sector_bytes * shape.block_sectors
    → RefusesAs refusal (block_records shape streams lsn bytes) → TellsBlock shape streams lsn (as_read refusal)
told_of shape streams lsn bytes Closed few is = record {
  bytes = bytes;
  few = few;
  wrong = ap (λ (r : Result (List LogEntry) BlockRefusal). told_as refused_at r) is;
}
told_of shape streams lsn bytes (BadByte at) few is = record {
  bytes = bytes;
  few = few;
  wrong = ap (λ (r : Result (List LogEntry) BlockRefusal). told_as refused_at r) is;
}
told_of shape streams lsn bytes NoMemory few is = tt

-- that there are too few records is told at the field of their number
pub told_at : (found : Option LogEntry) (at : ℕ) → ok_or {E = ℕ} found 4 ≡ Err at → at ≡ 4
told_at None at is = sym (cc is)
told_at (Some entry) at is = absurd (cc is)
