use Rattle.std.proofs.Common.{◌≡◌, ℕ, ◌≤◌, List, length, take, drop, Result, Ok, sym, ◌∙◌, ap, subst, arith, length-drop}
use Rattle.std.proofs.lemmas.List.{length-take-le}
use Rattle.clfs_lsn.specs.Format.{record_header}
use Rattle.clfs_lsn.specs.Size.{size}
use Rattle.clfs_lsn.specs.Head.{head_of}
use Rattle.clfs_lsn.specs.Spelling.{header_of, entry_of, record_at}
use Rattle.clfs_lsn.specs.declared.entry.Head.{Head}
use Rattle.clfs_lsn.specs.declared.entry.LogEntry.{LogEntry}
use Rattle.clfs_record.specs.Decoding.{entry_with, IsHeadIn}
use Rattle.clfs_record.proofs.Headers.{IsBytes}
use Rattle.clfs_record.proofs.Laws.{found}
use Rattle.clfs_record.proofs.decoder.head_from.Goals as goal

answered : LogEntry → ℕ → Result (LogEntry × ℕ) ℕ
answered entry n = Ok (entry, n)

-- the head of a record that is read
read_head : (lsn streams : ℕ) (bytes : List ℕ) → IsBytes bytes → size (header_of bytes).len ≤ length bytes
    → record_at lsn streams bytes ≡ Ok (entry_of lsn bytes, size (header_of bytes).len)
    → IsHeadIn lsn streams bytes (head_of (entry_of lsn bytes)) (size (header_of bytes).len)
read_head lsn streams bytes fits whole is =
    let behind : List ℕ = drop record_header bytes in
    let len = (header_of bytes).len in
    let size_is : length (take len behind) ≡ len = length-take-le len behind (omega (arith, whole, length-drop record_header bytes)) in record {
      entry = entry_of lsn bytes;
      is = ap (λ (l : List ℕ). entry_with (head_of (entry_of lsn bytes)) l) (ap (λ (n : ℕ). take n behind) (sym size_is));
      there = is;
      data_end = omega (arith, size_is, whole);
      end = whole;
      fits = (found lsn streams bytes (entry_of lsn bytes, size len) fits is).1;
    }

pub returns-clause-found : goal.returns-clause-found
unfolding answered
returns-clause-found c =
    let lsn = c.args.lsn in
    let bytes = c.args.bytes.now in
    let len_is : c.in_ok-len.len ≡ (header_of bytes).len = c.in_ok-len.ensures.exact.0 in
    let count_is : c.size_of_record.result ≡ size (header_of bytes).len = c.size_of_record.ensures ∙ ap size len_is in
    let read : record_at lsn c.args.streams bytes ≡ Ok (entry_of lsn bytes, size (header_of bytes).len) =
    c.in_ok-len.ensures.exact.1 ∙ ap (λ (n : ℕ). answered (entry_of lsn bytes) (size n)) len_is in
    subst (λ (h : Head). IsHeadIn lsn c.args.streams bytes h c.size_of_record.result) (sym c.head_at.ensures)
    (subst (λ (n : ℕ). IsHeadIn lsn c.args.streams bytes (head_of (entry_of lsn bytes)) n) (sym count_is)
    (read_head lsn c.args.streams bytes (λ i. omega (arith, c.type_inv.bytes i)) (omega (arith, c.in_ok-len.ensures.whole, ap size len_is)) read))
