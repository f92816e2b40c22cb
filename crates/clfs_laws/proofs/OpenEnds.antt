-- Where the open block ends, and the record that was put last.
use Rattle.clfs_laws.proofs.Words.{◌≡◌, ℕ, ◌+◌, ◌*◌, ◌≤◌, sym, ap, subst, inl, inr, arith, container_of, offset_of, IsShape, sectors, frontier, block_end}
use Rattle.clfs_laws.proofs.Words.{Place, LogEntry, State, end_of_block, HasBlocks, GoesOnAt, before_all, behind_all}
use Rattle.std.specs.List.{Any}
use Rattle.clfs_laws.proofs.BlockSums.{paid, IsPaid, paid_last}
use Rattle.clfs_laws.proofs.CutPlaces.{any_among}

-- where a block is open, the log's place is right after its records
paid_here : (s : State) → IsShape s.shape → HasBlocks s → 1 ≤ s.place.records → IsPaid s.shape s.place s.records
paid_here s is blocks some = by_place blocks.place
  where
    last : Place
    last = behind_all before_all s.records

    by_place : GoesOnAt last s.place → IsPaid s.shape s.place s.records
    by_place (inl same) = subst (λ (p : Place). IsPaid s.shape p s.records) (sym same) (paid_last s.shape s.records is blocks.laid)
    by_place (inr (inl same)) = absurd (let none : s.place.records ≡ 0 = ap (λ (p : Place). p.records) same in omega (arith, none, some))
    by_place (inr (inr further)) = absurd (let none : s.place.records ≡ 0 = ap (λ (p : Place). p.records) further.1 in omega (arith, none, some))

-- the record that was put last
pub newest_there : (s : State) → IsShape s.shape → HasBlocks s → 1 ≤ s.place.records → Any (λ (entry : LogEntry). entry.lsn + 1 ≡ frontier s.place) s.records
newest_there s is blocks some =
    let newest = (paid_here s is blocks some).newest some in
    any_among (λ (entry : LogEntry). entry.lsn + 1 ≡ frontier s.place) s.records newest.0 newest.1 newest.2

-- the end of the open block, by its records
pub ends_at_place : (s : State) → IsShape s.shape → HasBlocks s → 1 ≤ s.place.records → (lsn : ℕ) → container_of lsn ≡ s.place.container → offset_of lsn ≡ s.place.offset
    → end_of_block s.records lsn ≡ 512 * block_end s.place
ends_at_place s is blocks some lsn of_container of_offset =
    let has = paid_here s is blocks some in
    let used = has.used some in
    let F : ℕ → ℕ → Type 0 = λ c o. o + 512 * sectors (16 + paid c o s.records) ≡ 512 * block_end s.place in
    let G : ℕ → Type 0 = λ c. F c s.place.offset in
    let H : ℕ → Type 0 = λ o. F (container_of lsn) o in
    let U : ℕ → Type 0 = λ n. s.place.offset + 512 * sectors n ≡ 512 * block_end s.place in
    let here : F s.place.container s.place.offset = subst U used (omega (arith, has.offset)) in
    subst H (sym of_offset) (subst G (sym of_container) here)
