-- Heads of records against the records: their order, and where their blocks end.
use Rattle.clfs_manager.proofs.Words.{◌≡◌, ℕ, ◌+◌, ◌*◌, ◌<◌, Bool, refl, sym, ap, ◌∙◌, inl, inr, List, [], ◌∷◌, length, map, arith, get_or, All, filter}
use Rattle.clfs_manager.proofs.Words.{IsStrictlyIncreasing, cases_Bool, get_or-map, length-map, All-map, AllPairs-from_increasing, sector_bytes, head_of}
use Rattle.clfs_manager.proofs.Words.{offset_of, Head, LogEntry, is_in_block, end_of_block}
use Rattle.std.specs.Prelude.{AllPairs, sum_by}
use Rattle.std.proofs.lemmas.List.Folds.{fold-map}
use Rattle.clfs_lsn.specs.Format.{block_header}
use Rattle.clfs_lsn.specs.Size.{size, sectors}
use Rattle.clfs_model.specs.Heads.{block_end}

-- heads of records whose LSNs rise
pub heads_rise : (entries : List LogEntry) → IsStrictlyIncreasing (map (λ (entry : LogEntry). entry.lsn) entries)
    → AllPairs (λ (a b : Head). a.lsn < b.lsn) (map head_of entries)
heads_rise entries rising = λ i j d before within.
    let lsn_at : (k : ℕ) → k < length entries → get_or (map (λ (entry : LogEntry). entry.lsn) entries) k 0 ≡ (get_or (map head_of entries) k d).lsn
    = λ k few. get_or-map (λ (entry : LogEntry). entry.lsn) entries k (any d) 0 few ∙ sym (ap (λ (h : Head). h.lsn) (get_or-map head_of entries k (any d) d few)) in
    let long : length (map head_of entries) ≡ length entries = length-map entries head_of in
    let low = AllPairs-from_increasing (map (λ (entry : LogEntry). entry.lsn) entries) rising i j 0 before (omega (arith, within, long, length-map entries (λ (entry : LogEntry). entry.lsn))) in
    omega (arith, low, lsn_at i (omega (arith, before, within, long)), lsn_at j (omega (arith, within, long)))
  where
    any : Head → LogEntry
    any h = record { lsn = 0; stream = 0; kind = h.kind; previous = 0; undo_next = 0; new_base = 0; bytes = [] }

-- the heads that a test keeps, which sees their LSNs alone
filtered : (p : ℕ → Bool) (entries : List LogEntry)
    → map head_of (filter (λ (entry : LogEntry). p entry.lsn) entries) ≡ filter (λ (head : Head). p head.lsn) (map head_of entries)
filtered p [] = refl
filtered p (entry ∷ entries) = elim (cases_Bool (p entry.lsn)) [
  | inl passes ↦ rw passes (ap (λ heads. head_of entry ∷ heads) (filtered p entries))
  | inr fails ↦ rw fails (filtered p entries)
]

-- where a record's block ends
pub ends_as_heads : (entries : List LogEntry) (lsn : ℕ) → end_of_block entries lsn ≡ block_end (map head_of entries) lsn
ends_as_heads entries lsn =
    ap (λ payload. offset_of lsn + sector_bytes * sectors (block_header + payload))
    (sym (fold-map (λ (total : ℕ) (head : Head). total + size head.len) head_of 0 (filter (λ (entry : LogEntry). is_in_block entry.lsn lsn) entries))
    ∙ ap (sum_by (λ (head : Head). size head.len)) (filtered (λ other. is_in_block other lsn) entries))

-- a fact of each record's LSN is one of each head's
pub all_heads : (P : ℕ → Type 0) (entries : List LogEntry) → All (λ (entry : LogEntry). P entry.lsn) entries → All (λ (head : Head). P head.lsn) (map head_of entries)
all_heads P entries all = All-map (λ (head : Head). P head.lsn) head_of entries all
