-- A table that is brought up to date record by record.
use Rattle.clfs_cells.proofs.Words.{◌≡◌, ℕ, suc, ◌+◌, ◌<◌, Bool, refl, sym, ap, ◌∙◌, inl, inr, get_or, List, [], ◌∷◌, ◌++◌, length, take, arith, ◌==◌, ◌&&◌}
use Rattle.clfs_cells.proofs.Words.{cases_Bool, append-nil, TxnRecord, last_number, changed, is_committed}
use Rattle.std.proofs.Math.Seq.{take-suc as take_suc}
use Rattle.std.specs.Prelude.{cond, filter, max, if◌then◌else◌, ◌||◌}
use Rattle.std.proofs.lemmas.List.Elements.{filter_more}
use Rattle.clfs_cells.specs.Table.{after_action, is_commit}

pub changed_more : (cells : List ℕ) (records : List TxnRecord) (r : TxnRecord) → changed cells (records ++ r ∷ []) ≡ after_action (changed cells records) r.action
changed_more cells [] r = refl
changed_more cells (first ∷ records) r = changed_more (after_action cells first.action) records r

pub last_more : (last : ℕ) (records : List TxnRecord) (r : TxnRecord) → last_number last (records ++ r ∷ []) ≡ max (last_number last records) r.txn
last_more last [] r = refl
last_more last (first ∷ records) r = last_more (max last first.txn) records r

pub commits_more : (records : List TxnRecord) (r : TxnRecord) (txn : ℕ)
    → is_committed (records ++ r ∷ []) txn ≡ (is_committed records txn || ((r.txn == txn) && is_commit r.action))
commits_more [] r txn = elim (cases_Bool ((r.txn == txn) && is_commit r.action)) [
  | inl has ↦ rw has refl
  | inr lacks ↦ rw lacks refl
]
commits_more (first ∷ records) r txn = elim (cases_Bool ((first.txn == txn) && is_commit first.action)) [
  | inl has ↦ rw has refl
  | inr lacks ↦ rw lacks (commits_more records r txn)
]

cells_more : (p : TxnRecord → Bool) (cells : List ℕ) (records : List TxnRecord) (r : TxnRecord)
    → changed cells (records ++ cond (p r) (r ∷ []) []) ≡ (if p r then after_action (changed cells records) r.action else changed cells records)
cells_more p cells records r = elim (cases_Bool (p r)) [
  | inl has ↦ rw has (changed_more cells records r)
  | inr lacks ↦ rw lacks (ap (changed cells) (append-nil records))
]

-- one record more brings a table up to date with it
pub brought_up : (p : TxnRecord → Bool) (cells now next : List ℕ) (items : List TxnRecord) (i : ℕ) (d : TxnRecord) → i < length items
    → now ≡ changed cells (filter p (take i items))
    → next ≡ (if p (get_or items i d) then after_action now (get_or items i d).action else now)
    → next ≡ changed cells (filter p (take (i + 1) items))
brought_up p cells now next items i d inside before steps =
    steps
    ∙ ap (λ (x : List ℕ). if p (get_or items i d) then after_action x (get_or items i d).action else x) before
    ∙ sym (cells_more p cells (filter p (take i items)) (get_or items i d))
    ∙ ap (changed cells) (sym (filter_more p items i d inside))

pub number_up : (last now next : ℕ) (items : List TxnRecord) (i : ℕ) (d : TxnRecord) → i < length items → now ≡ last_number last (take i items)
    → next ≡ max now (get_or items i d).txn → next ≡ last_number last (take (i + 1) items)
number_up last now next items i d inside before steps =
    let more : suc i ≡ i + 1 = omega arith in
    steps ∙ ap (λ (n : ℕ). max n (get_or items i d).txn) before
    ∙ sym (last_more last (take i items) (get_or items i d))
    ∙ ap (last_number last) (sym (take_suc items i d inside) ∙ ap (λ (n : ℕ). take n items) more)
