-- Blocks that lie one after the other: their front, one record more, and where the next record lies.
use Rattle.clfs_laws.proofs.Words.{◌≡◌, ℕ, ◌+◌, ◌*◌, ◌/◌, ◌%◌, ◌≤◌, Bool, true, false, refl, ap, ◌∙◌, subst, inl, inr, arith, List, [], ◌∷◌, ◌++◌, length}
use Rattle.clfs_laws.proofs.Words.{ne_eqb, eq-eqb, nat_tests, lsn_number, container_of, offset_of, sequence_of, IsShape, size, IsWithin, begun, sealed}
use Rattle.clfs_laws.proofs.Words.{frontier, block_end, joins, begins_here, Place, Shape, LogEntry, behind, behind_all, LiesBehind, LieInBlocks, GoesOnAt}
use Rattle.clfs_laws.proofs.LsnOrder.{small_end}
use Rattle.clfs_laws.proofs.ValidPuts.{after_by}

-- the place after the records of two lists
pub behind_more : (place : Place) (entries more : List LogEntry) → behind_all place (entries ++ more) ≡ behind_all (behind_all place entries) more
behind_more place [] more = refl
behind_more place (entry ∷ entries) more = behind_more (behind place entry) entries more

-- the records of a front lie so too
pub laid_front : (shape : Shape) (place : Place) (entries more : List LogEntry) → LieInBlocks shape place (entries ++ more)
    → LieInBlocks shape place entries
laid_front shape place [] more laid = tt
laid_front shape place (entry ∷ entries) more laid = (laid.0, (laid.1.0, laid_front shape (behind place entry) entries more laid.1.1))

-- and those after it
pub laid_rest : (shape : Shape) (place : Place) (entries more : List LogEntry) → LieInBlocks shape place (entries ++ more)
    → LieInBlocks shape (behind_all place entries) more
laid_rest shape place [] more laid = laid
laid_rest shape place (entry ∷ entries) more laid = laid_rest shape (behind place entry) entries more laid.1.1

-- one record more after them
pub laid_push : (shape : Shape) (place : Place) (entries : List LogEntry) (entry : LogEntry) → LieInBlocks shape place entries
    → LiesBehind (behind_all place entries) entry → IsWithin shape (behind (behind_all place entries) entry)
    → LieInBlocks shape place (entries ++ entry ∷ [])
laid_push shape place [] entry laid lies within = (lies, (within, tt))
laid_push shape place (first ∷ entries) entry laid lies within =
    (laid.0, (laid.1.0, laid_push shape (behind place first) entries entry laid.1.1 lies within))

-- a record that lies after the last one, and the place after it
pub record GoesOnWith (last : Place) (entry : LogEntry) (after : Place) : Type 0 where
  pub lies : LiesBehind last entry
  pub is : behind last entry ≡ after

-- the place after a record that begins a block
pub behind_begun : (last : Place) (entry : LogEntry) (container sector : ℕ) → entry.lsn ≡ lsn_number container (512 * sector) 0
    → 512 * sector ≤ 8388608
    → behind last entry ≡ begun container sector (length entry.bytes)
behind_begun last entry container sector at low =
    let first : sequence_of entry.lsn ≡ 0 = omega (arith, at) in
    let of_container : container_of entry.lsn ≡ container = omega (arith, at, low) in
    let of_sector : offset_of entry.lsn / 512 ≡ sector = omega (arith, at, low) in
    rw (eq-eqb (sequence_of entry.lsn) 0 first)
    (ap (λ (c : ℕ). begun c (offset_of entry.lsn / 512) (length entry.bytes)) of_container ∙ ap (λ (k : ℕ). begun container k (length entry.bytes)) of_sector)

-- after one that joins the open block
pub behind_joined : (last : Place) (entry : LogEntry) → last.offset % 512 ≡ 0 → 1 ≤ last.records → last.records ≤ 511 → entry.lsn ≡ frontier last
    → behind last entry ≡ record last { used = last.used + size (length entry.bytes); records = last.records + 1 }
behind_joined last entry whole some few at =
    rw (ne_eqb (sequence_of entry.lsn) 0 (λ none. omega (arith, at, whole, some, few, none))) refl

-- a record that joins the open block
joined_next : (shape : Shape) (last place : Place) (entry : LogEntry) → place.offset % 512 ≡ 0 → 1 ≤ place.records → place.records ≤ 510
    → GoesOnAt last place → entry.lsn ≡ frontier place
    → GoesOnWith last entry (record place { used = place.used + size (length entry.bytes); records = place.records + 1 })
joined_next shape last place entry whole some few (inl same) at =
    let F : Place → Type 0 = λ p. GoesOnWith p entry (record place { used = place.used + size (length entry.bytes); records = place.records + 1 }) in
    subst F same (record { lies = inl (some, at); is = behind_joined place entry whole some (omega (arith, few)) at })
joined_next shape last place entry whole some few (inr (inl same)) at =
    absurd (let none : place.records ≡ 0 = ap (λ (p : Place). p.records) same in omega (arith, none, some))
joined_next shape last place entry whole some few (inr (inr further)) at =
    absurd (let none : place.records ≡ 0 = ap (λ (p : Place). p.records) further.1 in omega (arith, none, some))

-- a record that begins a block after the open one
begun_lies : (last place : Place) (entry : LogEntry) → 512 * block_end place ≤ 8388608 → GoesOnAt last place
    → entry.lsn ≡ lsn_number place.container (512 * block_end place) 0
    → LiesBehind last entry
begun_lies last place entry low (inl same) at =
    let F : Place → Type 0 = λ p. entry.lsn ≡ lsn_number p.container (512 * block_end p) 0 in
    inr (inl (subst F same at))
begun_lies last place entry low (inr (inl same)) at =
    let of_container : place.container ≡ last.container = ap (λ (p : Place). p.container) same in
    let of_end : block_end place ≡ block_end last = ap block_end same ∙ omega arith in
    inr (inl (omega (arith, at, of_container, of_end)))
begun_lies last place entry low (inr (inr further)) at =
    let none : block_end place ≡ 0 = ap block_end further.1 in
    let of_container : container_of entry.lsn ≡ place.container = omega (arith, at, none) in
    inr (inr (omega (arith, further.0, of_container), omega (arith, at, none, of_container)))

-- the container of the last record's block isn't above the place's
pub last_container : (last place : Place) → GoesOnAt last place → last.container ≤ place.container
last_container last place (inl same) = omega (arith, ap (λ (p : Place). p.container) same)
last_container last place (inr (inl same)) = omega (arith, ap (λ (p : Place). p.container) same)
last_container last place (inr (inr further)) = omega (arith, further.0)

-- the same in each of the three ways in which a record is placed
next_by : (shape : Shape) (last place : Place) (entry : LogEntry) (joining beginning : Bool) → joins shape place (length entry.bytes) ≡ joining
    → IsShape shape → IsWithin shape place → GoesOnAt last place → entry.lsn ≡ (after_by joining beginning place (length entry.bytes)).0
    → GoesOnWith last entry (after_by joining beginning place (length entry.bytes)).1
next_by shape last place entry true beginning fits is within goes at =
    joined_next shape last place entry within.offset (grind (arith, nat_tests, fits)) (grind (arith, nat_tests, fits)) goes at
next_by shape last place entry false true fits is within goes at =
    let low = small_end shape place is within in
    record { lies = begun_lies last place entry low goes at; is = behind_begun last entry place.container (block_end place) at low }
next_by shape last place entry false false fits is within goes at =
    let before = last_container last place goes in
    let of_container : container_of entry.lsn ≡ place.container + 1 = omega (arith, at) in
    record {
      lies = inr (inr (omega (arith, before, of_container), omega (arith, at, of_container)));
      is = behind_begun last entry (place.container + 1) 0 at (omega arith);
    }

-- the next record of a log lies after the last one, and the place after it is the place after it
pub next_goes_on : (shape : Shape) (last place : Place) (entry : LogEntry) → IsShape shape → IsWithin shape place → GoesOnAt last place
    → entry.lsn ≡ (after_by (joins shape place (length entry.bytes)) (begins_here shape place (length entry.bytes)) place (length entry.bytes)).0
    → GoesOnWith last entry (after_by (joins shape place (length entry.bytes)) (begins_here shape place (length entry.bytes)) place (length entry.bytes)).1
next_goes_on shape last place entry is within goes at =
    next_by shape last place entry (joins shape place (length entry.bytes)) (begins_here shape place (length entry.bytes)) refl is within goes at

-- a sealed place goes on where the place did
pub sealed_goes_on : (shape : Shape) (last place : Place) → 1 ≤ place.records → GoesOnAt last place → GoesOnAt last (sealed place)
sealed_goes_on shape last place some (inl same) = inr (inl (ap sealed same))
sealed_goes_on shape last place some (inr (inl same)) = absurd (let none : place.records ≡ 0 = ap (λ (p : Place). p.records) same in omega (arith, none, some))
sealed_goes_on shape last place some (inr (inr further)) =
    absurd (let none : place.records ≡ 0 = ap (λ (p : Place). p.records) further.1 in omega (arith, none, some))
