-- What the records of blocks that lie one after the other come to: each block is as long as its records make it, and ends within its
-- container.
use Rattle.clfs_laws.proofs.Words.{◌≡◌, ℕ, ◌+◌, ◌*◌, ◌%◌, ◌<◌, ◌≤◌, true, false, refl, sym, ap, ◌∙◌, subst, append_assoc, inl, inr, ◌⊎◌, arith, List, [], ◌∷◌}
use Rattle.clfs_laws.proofs.Words.{◌++◌, length, filter, sum_by, ◌==◌, AllByRecursion, cases_Bool, eqb-true, eqb-false, and_parts, append-nil, filter-append}
use Rattle.clfs_laws.proofs.Words.{sum_by-append, lsn_number, container_of, offset_of, IsShape, size, sectors, longest, IsWithin, IsClosed, IsOpen, begun}
use Rattle.clfs_laws.proofs.Words.{frontier, block_end, Place, Shape, LogEntry, end_of_block, before_all, behind, behind_all, LiesBehind, LieInBlocks}
use Rattle.clfs_laws.proofs.Among.{IsAmong}
use Rattle.clfs_laws.proofs.BlockOrder.{behind_begun, behind_joined}
use Rattle.clfs_laws.proofs.LsnOrder.{is_of_block, none_of_block, equal_true}
use Rattle.clfs_laws.proofs.ValidRestarts.{all_behind}

-- the bytes of the records of a block
abbrev pub paid : ℕ → ℕ → List LogEntry → ℕ
paid container offset entries = sum_by (λ (entry : LogEntry). size (length entry.bytes)) (filter (is_of_block container offset) entries)

-- a record ends its block within a container of so many sectors, by the records of the block
abbrev pub EndsWithin : ℕ → List LogEntry → LogEntry → Type 0
EndsWithin most entries entry = end_of_block entries entry.lsn ≤ 512 * most

-- a record of the block at a container and an offset
pub record IsOfBlock (container offset : ℕ) (entries : List LogEntry) : Type 0 where
  pub entry : LogEntry
  pub among : IsAmong entry entries
  pub of_container : container_of entry.lsn ≡ container
  pub of_offset : offset_of entry.lsn ≡ offset

-- what is known of the records before a place
pub record IsPaid (shape : Shape) (place : Place) (before : List LogEntry) : Type 0 where
  pub offset : place.offset % 512 ≡ 0
  pub end : block_end place ≤ shape.container_sectors
  pub few : place.records ≤ 511
  pub start : (before ≡ []) ⊎ (1 ≤ place.records)
  pub used : 1 ≤ place.records → place.used ≡ 16 + paid place.container place.offset before
  pub last : 1 ≤ place.records → IsOfBlock place.container place.offset before
  pub newest : 1 ≤ place.records → (entry : LogEntry) × IsAmong entry before × (entry.lsn + 1 ≡ frontier place)
  pub below : AllByRecursion (λ (entry : LogEntry). entry.lsn < frontier place) before
  pub short : AllByRecursion (λ (entry : LogEntry). length entry.bytes ≤ longest shape) before
  pub ends : AllByRecursion (EndsWithin shape.container_sectors before) before

-- what follows from what is so of all is so of all
weaker : (P Q : LogEntry → Type 0) (entries : List LogEntry) → ((entry : LogEntry) → P entry → Q entry) → AllByRecursion P entries
    → AllByRecursion Q entries
weaker P Q [] more all = tt
weaker P Q (entry ∷ entries) more all = (more entry all.0, weaker P Q entries more all.1)

-- a record more in a block
paid_more : (container offset : ℕ) (before : List LogEntry) (entry : LogEntry) → is_of_block container offset entry ≡ true
    → paid container offset (before ++ entry ∷ []) ≡ paid container offset before + size (length entry.bytes)
paid_more container offset before entry is =
    let f : LogEntry → ℕ = λ e. size (length e.bytes) in
    let one : sum_by f (filter (is_of_block container offset) (entry ∷ [])) ≡ size (length entry.bytes) = rw is (omega arith) in
    let all = ap (sum_by f) (filter-append (is_of_block container offset) before (entry ∷ [])) in
    let parts = sum_by-append f (filter (is_of_block container offset) before) (filter (is_of_block container offset) (entry ∷ [])) in
    omega (arith, all, parts, one)

-- and in another one
paid_other : (container offset : ℕ) (before : List LogEntry) (entry : LogEntry) → is_of_block container offset entry ≡ false
    → paid container offset (before ++ entry ∷ []) ≡ paid container offset before
paid_other container offset before entry is =
    let f : LogEntry → ℕ = λ e. size (length e.bytes) in
    let none : sum_by f (filter (is_of_block container offset) (entry ∷ [])) ≡ 0 = rw is (omega arith) in
    let all = ap (sum_by f) (filter-append (is_of_block container offset) before (entry ∷ [])) in
    let parts = sum_by-append f (filter (is_of_block container offset) before) (filter (is_of_block container offset) (entry ∷ [])) in
    omega (arith, all, parts, none)

-- the end of the open block, and of the others, with the record
end_of_one : (most : ℕ) (place : Place) (before : List LogEntry) (entry other : LogEntry) → place.offset % 512 ≡ 0 → block_end place ≤ most
    → place.used ≡ 16 + paid place.container place.offset (before ++ entry ∷ [])
    → container_of entry.lsn ≡ place.container → offset_of entry.lsn ≡ place.offset → EndsWithin most before other
    → EndsWithin most (before ++ entry ∷ []) other
end_of_one most place before entry other whole end used of_container of_offset was =
    elim (cases_Bool (is_of_block (container_of other.lsn) (offset_of other.lsn) entry)) [
      | inl here ↦
          let both = and_parts (container_of entry.lsn == container_of other.lsn) (offset_of entry.lsn == offset_of other.lsn) here in
          let same_container : container_of entry.lsn ≡ container_of other.lsn = eqb-true (container_of entry.lsn) (container_of other.lsn) both.0 in
          let same_offset : offset_of entry.lsn ≡ offset_of other.lsn = eqb-true (offset_of entry.lsn) (offset_of other.lsn) both.1 in
          at_place (before ++ entry ∷ []) other (sym of_container ∙ same_container) (sym of_offset ∙ same_offset) used
      | inr there ↦
          let same = paid_other (container_of other.lsn) (offset_of other.lsn) before entry there in
          let F : ℕ → Type 0 = λ n. offset_of other.lsn + 512 * sectors (16 + n) ≤ 512 * most in
          subst F (sym same) was
    ]
  where
    at_place : (entries : List LogEntry) (e : LogEntry) → place.container ≡ container_of e.lsn → place.offset ≡ offset_of e.lsn
        → place.used ≡ 16 + paid place.container place.offset entries → EndsWithin most entries e
    at_place entries e same_container same_offset pays =
        let F : ℕ → ℕ → Type 0 = λ c o. o + 512 * sectors (16 + paid c o entries) ≤ 512 * most in
        let G : ℕ → Type 0 = λ c. F c place.offset in
        let H : ℕ → Type 0 = λ o. F (container_of e.lsn) o in
        let U : ℕ → Type 0 = λ n. place.offset + 512 * sectors n ≤ 512 * most in
        let here : F place.container place.offset = subst U pays (omega (arith, whole, end)) in
        subst H same_offset (subst G same_container here)

-- what the place after one record more tells
record IsPushed (shape : Shape) (place : Place) (before : List LogEntry) (entry : LogEntry) : Type 0 where
  pub within : IsWithin shape place
  pub some : 1 ≤ place.records
  pub used : place.used ≡ 16 + paid place.container place.offset (before ++ entry ∷ [])
  pub of_container : container_of entry.lsn ≡ place.container
  pub of_offset : offset_of entry.lsn ≡ place.offset
  pub above : AllByRecursion (λ (other : LogEntry). other.lsn < frontier place) before
  pub next : entry.lsn + 1 ≡ frontier place
  pub size_fits : 16 + size (length entry.bytes) ≤ place.used

-- the last of a list is among it
pub among_last : (before : List LogEntry) (entry : LogEntry) → IsAmong entry (before ++ entry ∷ [])
among_last [] entry = inl refl
among_last (first ∷ before) entry = inr (among_last before entry)

-- a place with a record in its block is open
opened : (shape : Shape) (place : Place) → IsClosed place ⊎ IsOpen shape place → 1 ≤ place.records → IsOpen shape place
opened shape place (inl closed) some = absurd (omega (arith, closed.1, some))
opened shape place (inr is) some = is

-- what is known of the records after one more
pushed : (shape : Shape) (place : Place) (before : List LogEntry) (entry : LogEntry) → IsPushed shape place before entry
    → AllByRecursion (λ (other : LogEntry). length other.bytes ≤ longest shape) before
    → AllByRecursion (EndsWithin shape.container_sectors before) before
    → IsPaid shape place (before ++ entry ∷ [])
pushed shape place before entry is short ends =
    let most : ℕ = shape.container_sectors in
    let open_block = opened shape place is.within.block is.some in
    let last : EndsWithin most (before ++ entry ∷ []) entry =
    let F : ℕ → ℕ → Type 0 = λ c o. o + 512 * sectors (16 + paid c o (before ++ entry ∷ [])) ≤ 512 * most in
    let G : ℕ → Type 0 = λ c. F c place.offset in
    let H : ℕ → Type 0 = λ o. F (container_of entry.lsn) o in
    let U : ℕ → Type 0 = λ n. place.offset + 512 * sectors n ≤ 512 * most in
    let here : F place.container place.offset = subst U is.used (omega (arith, is.within.offset, is.within.end)) in
    subst H (sym is.of_offset) (subst G (sym is.of_container) here) in
    record {
      offset = is.within.offset;
      end = is.within.end;
      few = open_block.few_records;
      start = inr is.some;
      used = λ _. is.used;
      last = λ _. record { entry = entry; among = among_last before entry; of_container = is.of_container; of_offset = is.of_offset };
      newest = λ _. (entry, among_last before entry, is.next);
      below = all_behind (λ (e : LogEntry). e.lsn < frontier place) before (entry ∷ []) is.above (omega (arith, is.next), tt);
      short = all_behind (λ (e : LogEntry). length e.bytes ≤ longest shape) before (entry ∷ []) short (omega (arith, is.size_fits, open_block.few_sectors), tt);
      ends = all_behind (EndsWithin most (before ++ entry ∷ [])) before (entry ∷ [])
          (weaker (EndsWithin most before) (EndsWithin most (before ++ entry ∷ [])) before
          (λ other was. end_of_one most place before entry other is.within.offset is.within.end is.used is.of_container is.of_offset was) ends) (last, tt);
    }

-- a record whose LSN has the container and the offset passes the test
of_block : (container offset : ℕ) (entry : LogEntry) → container_of entry.lsn ≡ container → offset_of entry.lsn ≡ offset
    → is_of_block container offset entry ≡ true
of_block container offset entry of_container of_offset =
    rw (equal_true (container_of entry.lsn) container of_container) (equal_true (offset_of entry.lsn) offset of_offset)

-- a record that joins the open block
push_joined : (shape : Shape) (place : Place) (before : List LogEntry) (entry : LogEntry) → IsShape shape → IsPaid shape place before
    → 1 ≤ place.records
    → entry.lsn ≡ frontier place → IsWithin shape (behind place entry) → IsPaid shape (behind place entry) (before ++ entry ∷ [])
push_joined shape place before entry is has some at within =
    let n = length entry.bytes in
    let after : Place = record place { used = place.used + size n; records = place.records + 1 } in
    let same : behind place entry ≡ after = behind_joined place entry has.offset some has.few at in
    let of_container : container_of entry.lsn ≡ place.container = omega (arith, at, has.few, has.offset, has.end, is.largest_container) in
    let of_offset : offset_of entry.lsn ≡ place.offset = omega (arith, at, has.few, has.offset, has.end, is.largest_container) in
    let more = paid_more place.container place.offset before entry (of_block place.container place.offset entry of_container of_offset) in
    let used = has.used some in
    let F : Place → Type 0 = λ p. IsPaid shape p (before ++ entry ∷ []) in
    subst F (sym same) (pushed shape after before entry (record {
      within = subst (IsWithin shape) same within;
      some = omega arith;
      used = omega (arith, used, more);
      of_container = of_container;
      of_offset = of_offset;
      above = weaker (λ (e : LogEntry). e.lsn < frontier place) (λ (e : LogEntry). e.lsn < frontier after) before (λ e low. omega (arith, low)) has.below;
      next = omega (arith, at);
      size_fits = omega (arith, used);
    }) has.short has.ends)

-- a record that begins a block
push_begun : (shape : Shape) (place : Place) (before : List LogEntry) (entry : LogEntry) (container sector : ℕ) → IsPaid shape place before
    → entry.lsn ≡ lsn_number container (512 * sector) 0 → 512 * sector ≤ 8388608 → frontier place ≤ entry.lsn
    → IsWithin shape (behind place entry) → IsPaid shape (behind place entry) (before ++ entry ∷ [])
push_begun shape place before entry container sector has at low above within =
    let n = length entry.bytes in
    let after : Place = begun container sector n in
    let same : behind place entry ≡ after = behind_begun place entry container sector at low in
    let of_container : container_of entry.lsn ≡ container = omega (arith, at, low) in
    let of_offset : offset_of entry.lsn ≡ 512 * sector = omega (arith, at, low) in
    let under = weaker (λ (e : LogEntry). e.lsn < frontier place) (λ (e : LogEntry). e.lsn < lsn_number container (512 * sector) 0) before
    (λ e less. omega (arith, less, above, at)) has.below in
    let f : LogEntry → ℕ = λ e. size (length e.bytes) in
    let none : paid container (512 * sector) before ≡ 0 =
    ap (sum_by f) (none_of_block container (512 * sector) before (omega arith) (omega (arith, low)) under) in
    let more = paid_more container (512 * sector) before entry (of_block container (512 * sector) entry of_container of_offset) in
    let F : Place → Type 0 = λ p. IsPaid shape p (before ++ entry ∷ []) in
    subst F (sym same) (pushed shape after before entry (record {
      within = subst (IsWithin shape) same within;
      some = omega arith;
      used = omega (arith, none, more);
      of_container = of_container;
      of_offset = of_offset;
      above =
          weaker (λ (e : LogEntry). e.lsn < frontier place) (λ (e : LogEntry). e.lsn < frontier after) before
          (λ e less. omega (arith, less, above, at)) has.below;
      next = omega (arith, at);
      size_fits = omega arith;
    }) has.short has.ends)

-- the next block begins at or above the frontier
sealed_above : (shape : Shape) (place : Place) (before : List LogEntry) → IsPaid shape place before
    → frontier place ≤ lsn_number place.container (512 * block_end place) 0
sealed_above shape place before has = elim (cases_Bool (place.records == 0)) [
  | inl none ↦ let empty = eqb-true place.records 0 none in omega (arith, empty, has.offset)
  | inr some ↦
      let one : 1 ≤ place.records = let other = eqb-false place.records 0 some in omega (arith, other) in
      let used = has.used one in
      omega (arith, used, has.offset, has.few)
]

-- one record more that lies after the others
pub paid_push : (shape : Shape) (place : Place) (before : List LogEntry) (entry : LogEntry) → IsShape shape → IsPaid shape place before
    → LiesBehind place entry
    → IsWithin shape (behind place entry) → IsPaid shape (behind place entry) (before ++ entry ∷ [])
paid_push shape place before entry is has (inl joins) within = push_joined shape place before entry is has joins.0 joins.1 within
paid_push shape place before entry is has (inr (inl at)) within =
    let above = sealed_above shape place before has in
    push_begun shape place before entry place.container (block_end place) has at (omega (arith, has.end, is.largest_container))
    (omega (arith, above, at)) within
paid_push shape place before entry is has (inr (inr further)) within =
    push_begun shape place before entry (container_of entry.lsn) 0 has further.1 (omega arith)
    (omega (arith, further.0, further.1, has.few, has.offset, has.end, is.largest_container)) within

-- all records that lie after the others
pub paid_all : (shape : Shape) (place : Place) (before entries : List LogEntry) → IsShape shape → IsPaid shape place before
    → LieInBlocks shape place entries
    → IsPaid shape (behind_all place entries) (before ++ entries)
paid_all shape place before [] is has laid = subst (IsPaid shape place) (sym (append-nil before)) has
paid_all shape place before (entry ∷ entries) is has laid =
    let first = paid_push shape place before entry is has laid.0 laid.1.0 in
    subst (IsPaid shape (behind_all place (entry ∷ entries))) (append_assoc before (entry ∷ []) entries)
    (paid_all shape (behind place entry) (before ++ entry ∷ []) entries is first laid.1.1)

-- of all records of a log
pub paid_last : (shape : Shape) (entries : List LogEntry) → IsShape shape → LieInBlocks shape before_all entries
    → IsPaid shape (behind_all before_all entries) entries
paid_last shape entries is laid = paid_all shape before_all [] entries is (record {
  offset = refl;
  end = omega arith;
  few = omega arith;
  start = inl refl;
  used = λ some. absurd (omega (arith, some));
  last = λ some. absurd (omega (arith, some));
  newest = λ some. absurd (omega (arith, some));
  below = tt;
  short = tt;
  ends = tt;
}) laid
