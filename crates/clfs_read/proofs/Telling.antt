-- What is told of a block's next record, against what the log tells of its records from there on.
use Rattle.std.proofs.Common.{◌≡◌, ℕ, zero, suc, ◌^◌, Bool, true, false, ◌&&◌, eqb, ltb, cond, List, [], length, drop, Result, Ok, Err, refl, sym, ◌∙◌, ap, arith}
use Rattle.std.proofs.lemmas.Bool.{ne_eqb}
use Rattle.clfs_lsn.specs.Spelling.{record_at}
use Rattle.clfs_lsn.specs.declared.entry.LogEntry.{LogEntry}
use Rattle.clfs_record.specs.Decoding.{head_read}
use Rattle.clfs_block.specs.Records.{records_from}
use Rattle.clfs_block.specs.RecordLaws.{record_wrong}
use Rattle.clfs_read.specs.Answers.{no_record, record_told, next_told}
use Rattle.clfs_read.specs.declared.records.Record.{Record}

-- an answer at a byte that is wrong
abbrev refused : ℕ → Result (List LogEntry) ℕ
refused at = Err at

-- the records that are read at a payload's end, where none is left
abbrev at_end : Bool → Result (List LogEntry) ℕ
at_end b = cond b (Ok []) (Err 8)

-- the answers at the payload's end or before it, where no record is left, and where nothing is judged
abbrev ends : Bool → ℕ × Record
ends b = cond b (3, no_record 0) (2, no_record 8)

abbrev unjudged : ℕ × Record
unjudged = (4, no_record 0)

module _ (lsn streams : ℕ) (payload : List ℕ) (at : ℕ) where
  -- the answer of the record here
  abbrev here : ℕ × Record
  here = record_told at (head_read (record_at lsn streams (drop at payload)))

  -- what an answer says of so many records from here on
  Says : ℕ → ℕ → Record → Type 0
  Says left code out = (code ≡ 3 → records_from streams payload left lsn at ≡ Ok []) × (code ≡ 2 → records_from streams payload left lsn at ≡ Err out.bad_at)

  -- where neither is told
  neither : (left code : ℕ) (out : Record) → (code ≡ 3 → ⊥) → (code ≡ 2 → ⊥) → Says left code out
  unfolding Says
  neither left code out three two = (λ e. absurd (three e), λ e. absurd (two e))

  by_record : (n code : ℕ) (out : Record) (r : Result (LogEntry × ℕ) ℕ) → record_at lsn streams (drop at payload) ≡ r
      → (code, out) ≡ record_told at (head_read r) → Says (suc n) code out
  unfolding Says
  by_record n code out (Ok (entry, size)) is told =
      let c : code ≡ 0 = ap (λ (x : ℕ × Record). x.0) told in neither (suc n) code out (λ e. absurd (omega (arith, c, e))) (λ e. absurd (omega (arith, c, e)))
  by_record n code out (Err wrong) is told =
      let c : code ≡ 2 = ap (λ (x : ℕ × Record). x.0) told in (
        λ e. absurd (omega (arith, c, e)),
        λ e. record_wrong streams payload n lsn at wrong is ∙ ap (λ (k : ℕ). refused k) (sym (ap (λ (x : ℕ × Record). x.1.bad_at) told)),
      )

  by_end : (code : ℕ) (out : Record) (b : Bool) → eqb at (length payload) ≡ b → (code, out) ≡ ends b → Says zero code out
  unfolding Says
  by_end code out true is told =
      let c : code ≡ 3 = ap (λ (x : ℕ × Record). x.0) told in (λ e. ap (λ (b : Bool). at_end b) is, λ e. absurd (omega (arith, c, e)))
  by_end code out false is told =
      let c : code ≡ 2 = ap (λ (x : ℕ × Record). x.0) told in (
        λ e. absurd (omega (arith, c, e)),
        λ e. ap (λ (b : Bool). at_end b) is ∙ ap (λ (k : ℕ). refused k) (sym (ap (λ (x : ℕ × Record). x.1.bad_at) told)),
      )

  by_left : (left code : ℕ) (out : Record)
      → (code, out) ≡ cond (eqb left 0) (ends (eqb at (length payload))) here
      → Says left code out
  by_left zero code out told = by_end code out (eqb at (length payload)) refl told
  by_left (suc n) code out told = by_record n code out (record_at lsn streams (drop at payload)) refl
      (told ∙ ap (λ (b : Bool). cond b (ends (eqb at (length payload))) here)
      (ne_eqb (suc n) 0 (λ e. absurd (omega (arith, e)))))

  by_fit : (b : Bool) (left code : ℕ) (out : Record)
      → (code, out) ≡ cond b (cond (eqb left 0) (ends (eqb at (length payload))) here) unjudged
      → Says left code out
  by_fit true left code out told = by_left left code out told
  by_fit false left code out told =
      let c : code ≡ 4 = ap (λ (x : ℕ × Record). x.0) told in neither left code out (λ e. absurd (omega (arith, c, e))) (λ e. absurd (omega (arith, c, e)))

  -- the end that is told, and the wrong byte, are those of the log
  pub told_as_the_log : (left code : ℕ) (out : Record) → (code, out) ≡ next_told left lsn streams payload at
      → (code ≡ 3 → records_from streams payload left lsn at ≡ Ok []) × (code ≡ 2 → records_from streams payload left lsn at ≡ Err out.bad_at)
  unfolding Says
  told_as_the_log left code out told = by_fit (ltb (length payload) (2 ^ 31) && ltb at (2 ^ 31)) left code out told
