-- A block that is read of the first bytes that are there is the one that is read of all of them.
use Rattle.clfs_buffers.proofs.Words.{◌≡◌, ℕ, ◌*◌, ◌≤◌, List, take, Result, Ok, Err, sym, ◌∙◌, ap, arith, length-take, refl, sector_bytes, LogEntry, Shape}
use Rattle.clfs_buffers.proofs.Words.{frame_at, told_as, block_records, block_refused, BlockHead, BlockRefusal, refused_at}
use Rattle.std.proofs.lemmas.List.{take-take}
use Rattle.clfs_block.specs.Checks.{head_of}
use Rattle.clfs_block.specs.Judging.{AreReadAsWritten}

-- records that are told are those
pub told_ok : (read : Result (List LogEntry) BlockRefusal) (records : List LogEntry) → told_as refused_at read ≡ Ok records → read ≡ Ok records
told_ok (Ok entries) records e = cc e
told_ok (Err refusal) records e = absurd (cc e)

-- bytes that begin with a block have its records
abbrev pub AgreeOnBlocks : Type 0
AgreeOnBlocks = (shape : Shape) (streams start : ℕ) (bytes other : List ℕ) (count : ℕ) (records : List LogEntry)
    → block_records shape streams start bytes ≡ Ok records → sector_bytes * (head_of bytes).sectors ≤ count → take count other ≡ take count bytes
    → block_records shape streams start other ≡ Ok records

module _ (written : AreReadAsWritten) (agree : AgreeOnBlocks) (shape : Shape) (streams start count : ℕ) (bytes : List ℕ) where
  -- the records of the first bytes are those of all
  pub front_is_whole : (records : List LogEntry) → told_as refused_at (block_records shape streams start (take count bytes)) ≡ Ok records
      → told_as refused_at (block_records shape streams start bytes) ≡ Ok records
  front_is_whole records is = ap (λ (r : Result (List LogEntry) BlockRefusal). told_as refused_at r) (by_answer (frame_at shape start (take count bytes)) refl)
    where
      read : block_records shape streams start (take count bytes) ≡ Ok records
      read = told_ok (block_records shape streams start (take count bytes)) records is

      by_answer : (answer : Result BlockHead BlockRefusal) → frame_at shape start (take count bytes) ≡ answer → block_records shape streams start bytes ≡ Ok records
      by_answer (Err refusal) frame =
          let clash = sym (block_refused shape streams start (take count bytes) refusal frame) ∙ read in absurd (cc clash)
      by_answer (Ok head) frame =
          let holds = written.holds shape start (take count bytes) head frame in
          let said = ap (λ (h : BlockHead). h.sectors) holds.numbers in
          let few = length-take count bytes in
          let own : sector_bytes * (head_of (take count bytes)).sectors ≤ count = omega (arith, holds.whole, said, few) in
          agree shape streams start (take count bytes) bytes count records read own (sym (take-take count count bytes (omega arith)))
