use Rattle.std.proofs.Common.{◌≡◌, ℕ, ap, sym, ◌∙◌, arith, Ok, Result}
use Rattle.clfs_lsn.specs.Size.{size}
use Rattle.clfs_lsn.specs.declared.entry.LogEntry.{LogEntry}
use Rattle.clfs_lsn.specs.Spelling.{header_of, filling_fault, entry_of}
use Rattle.clfs_record.proofs.Laws.{record_read}
use Rattle.clfs_record.proofs.decoder.checked_len.Goals as goal

answered : LogEntry → ℕ → Result (LogEntry × ℕ) ℕ
answered entry n = Ok (entry, n)

pub returns-clause-exact : goal.returns-clause-exact
unfolding answered
returns-clause-exact c =
    let bytes = c.args.bytes.now in
    let len_is : c.read_u32-len.result ≡ (header_of bytes).len = c.read_u32-len.ensures in (
      len_is,
      record_read c.args.lsn c.args.streams bytes c.if-bytes-lt-HEADER.false (omega (arith, c.if-bytes-size.false, c.size_of_record-size.ensures, ap size len_is))
          (sym c.wrong_header.ensures.exact ∙ c.in_default.is)
          (sym (c.wrong_filling.ensures.exact ∙ ap (λ (n : ℕ). filling_fault n bytes) len_is) ∙ c.in_default-wrong_filling.is)
          ∙ ap (λ (n : ℕ). answered (entry_of c.args.lsn bytes) (size n)) (sym len_is),
    )
