-- Blocks that were written are read.
use Rattle.clfs_recover.proofs.Words.{◌≡◌, ℕ, ◌+◌, ◌^◌, ◌<◌, ◌≤◌, Bool, cond, List, [], ◌∷◌, ◌++◌, length, drop, Result, Ok, Err, refl, sym, ◌∙◌, ap, subst}
use Rattle.clfs_recover.proofs.Words.{arith, length-append, length-drop, flat_map, append-nil, drop_at, drop-drop, eq-eqb, size, FitsAt, record_bytes}
use Rattle.clfs_recover.proofs.Words.{record_at, LogEntry, Shape, payload_of, frame_at, rest_at, AreReadAsWritten, BlockHead, records_from, block_records}
use Rattle.clfs_recover.proofs.Words.{FitFrom, HasRecords, block_read}
use Rattle.clfs_block.specs.Frame.{used_bytes, used_payload}
use Rattle.clfs_block.specs.Checks.{head_for}
use Rattle.clfs_block.specs.RecordLaws.{behind, record_taken}

-- a record that was written is read
abbrev pub ReadsRecords : Type 0
ReadsRecords = (lsn streams : ℕ) (entry : LogEntry) (rest : List ℕ) → lsn < 2 ^ 64 → streams < 2 ^ 16 → FitsAt lsn streams entry
    → record_at lsn streams (record_bytes entry ++ rest) ≡ Ok (entry, size (length entry.bytes))

abbrev pub HaveSizes : Type 0
HaveSizes = (entry : LogEntry) → length (record_bytes entry) ≡ size (length entry.bytes)

abbrev ended : Bool → Result (List LogEntry) ℕ
ended b = cond b (Ok []) (Err 8)

module _ (reads : ReadsRecords) (sized : HaveSizes) (streams : ℕ) (few_streams : streams < 2 ^ 16) (payload : List ℕ) where
  -- records one after the other, from a byte of a payload on
  pub written_records : (entries : List LogEntry) (lsn p : ℕ) → drop p payload ≡ flat_map record_bytes entries → p ≤ length payload
      → FitFrom lsn streams entries → lsn + length entries < 2 ^ 64 → records_from streams payload (length entries) lsn p ≡ Ok entries
  written_records [] lsn p is le fit small =
      let none = ap length is in
      ap ended (eq-eqb p (length payload) (omega (arith, le, none, length-drop p payload)))
  written_records (e ∷ es) lsn p is le fit small =
      let others : List ℕ = flat_map record_bytes es in
      let n : ℕ = size (length e.bytes) in
      let read : record_at lsn streams (drop p payload) ≡ Ok (e, n) =
      ap (record_at lsn streams) is ∙ reads lsn streams e others (omega (arith, small)) few_streams fit.0 in
      let next : drop (p + n) payload ≡ others = sym (drop-drop n p payload) ∙ ap (drop n) is ∙ drop_at (record_bytes e) others n (sized e) in
      let long = ap length is in
      record_taken streams payload (length es) lsn p e n read
      ∙ ap (behind (e ∷ [])) (written_records es (lsn + 1) (p + n) next
      (omega (arith, long, length-append (record_bytes e) others, sized e, length-drop p payload, le)) fit.1 (omega (arith, small)))

pub block_written : AreReadAsWritten → ReadsRecords → HaveSizes → (shape : Shape) (streams start : ℕ) (entries : List LogEntry) (block : List ℕ)
    → streams < 2 ^ 16 → start + 511 < 2 ^ 64 → HasRecords shape streams start entries block → block_records shape streams start block ≡ Ok entries
block_written written reads sized shape streams start entries block few_streams small has =
    let content : List ℕ = flat_map record_bytes entries in
    let head : BlockHead = head_for (length entries) content in
    let alone : block ++ [] ≡ block = append-nil block in
    let frame = subst (λ (l : List ℕ). frame_at shape start l ≡ Ok head) alone
    (written.frame shape start (length entries) content block [] has.spelled has.some has.few has.count) in
    let rest = subst (λ (l : List ℕ). rest_at l head ≡ Ok head) alone
    (written.rest shape start (length entries) content block [] has.spelled has.some has.few has.count) in
    let payload = subst (λ (l : List ℕ). payload_of (used_bytes content) l ≡ used_payload 165 (length entries) content) alone
    (written.payload shape start (length entries) content block [] has.spelled has.some has.few has.count) in
    let records = subst (λ (l : List ℕ). records_from streams l (length entries) start 16 ≡ Ok entries) (sym payload)
    (written_records reads sized streams few_streams (used_payload 165 (length entries) content) entries start 16 refl (omega arith) has.fit
    (omega (arith, small, has.few))) in
    block_read shape streams start block head frame entries records head rest
