use Rattle.std.proofs.Common.{◌≡◌, ◌<◌, ℕ, List, get_or, take, sym, ◌∙◌, ap, arith}
use Rattle.std.proofs.lemmas.List.{get_or-take}
use Rattle.clfs_lsn.specs.Spelling.{record_bytes}
use Rattle.clfs_lsn.specs.declared.entry.LogEntry.{LogEntry}
use Rattle.clfs_record.proofs.decoder.len_of.Goals as goal

-- the first bytes are those of the record
same_front : (bytes : List ℕ) (entry : LogEntry) → take 4 bytes ≡ take 4 (record_bytes entry) → (k : ℕ) → k < 4 → get_or bytes k 0 ≡ get_or (record_bytes entry) k 0
same_front bytes entry same k lt =
    sym (get_or-take 4 bytes k 0 lt) ∙ ap (λ (l : List ℕ). get_or l k 0) same ∙ get_or-take 4 (record_bytes entry) k 0 lt

pub returns-clause-spelled : goal.returns-clause-spelled
returns-clause-spelled c = λ entry small same.
    let at = same_front c.args.bytes.now entry same in
    omega (arith, small, c.read_u32.ensures, at 0 (omega arith), at 1 (omega arith), at 2 (omega arith), at 3 (omega arith))
