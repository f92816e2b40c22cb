-- Where the flushed part of a log lies: at the end of a block or the start of the container after one, unless it is where it was.
use Rattle.clfs_laws.proofs.Words.{◌≡◌, ℕ, suc, ◌+◌, ◌*◌, ◌%◌, ◌<◌, ◌≤◌, ◌^◌, true, refl, sym, ap, ◌∙◌, subst, inl, inr, ◌⊎◌, arith, List, [], ◌∷◌, ◌++◌}
use Rattle.clfs_laws.proofs.Words.{length, Any, filter, sum_by, nat_lt, slice_index_or, ◌==◌, AllByRecursion, cases_Bool, eqb-true, and_parts, ltb-true}
use Rattle.clfs_laws.proofs.Words.{ltb-false, filter-append, sum_by-append, container_of, offset_of, size, sectors, frontier, block_end, sealed, Place}
use Rattle.clfs_laws.proofs.Words.{LogEntry, State, is_in_block, flushed, cut, before_all, behind_all, LieInBlocks, GoesOnAt, HasBlocks, EndsBlockOf, IsValid}
use Rattle.clfs_model.specs.Survivors.{SplitsNoBlock}
use Rattle.clfs_laws.proofs.Among.{IsAmong, among_all}
use Rattle.clfs_laws.proofs.BlockOrder.{laid_front}
use Rattle.clfs_laws.proofs.BlockSums.{paid, IsPaid, paid_last}
use Rattle.clfs_laws.proofs.FallingLists.{rises}
use Rattle.clfs_laws.proofs.LsnOrder.{is_of_block}
use Rattle.clfs_laws.proofs.RecordsOfCalls.{Adds}
use Rattle.clfs_laws.proofs.StorableCuts.{below_front, cut_goes_on}
use Rattle.clfs_laws.proofs.SurvivingRecords.{BeginsBelow}
use Rattle.clfs_laws.proofs.Turns.{IsTurn}
use Rattle.clfs_laws.proofs.ValidCuts.{flushed_block}

-- the flushed part of a log begins at the flushed LSN
pub frontier_cut : (s : State) → IsValid s → frontier (cut s).place ≡ flushed s
frontier_cut s valid = let block = flushed_block s valid in omega (arith, block.sequence)

-- two LSNs of one block lie on one side of the start of a block
in_block_below : (lsn other bound : ℕ) → is_in_block other lsn ≡ true → lsn < bound → bound % 512 ≡ 0 → other < bound
in_block_below lsn other bound same below whole =
    let both = and_parts (container_of other == container_of lsn) (offset_of other == offset_of lsn) same in
    let of_container : container_of other ≡ container_of lsn = eqb-true (container_of other) (container_of lsn) both.0 in
    let of_offset : offset_of other ≡ offset_of lsn = eqb-true (offset_of other) (offset_of lsn) both.1 in
    omega (arith, of_container, of_offset, below, whole)

-- no block has records on both sides of the start of a block
pub splits_none : (records : List LogEntry) (place : Place) → frontier place % 512 ≡ 0 → SplitsNoBlock records place
splits_none records place whole = λ k d within below. λ j e inside same.
    in_block_below (slice_index_or records k d).lsn (slice_index_or records j e).lsn (frontier place) same below whole

-- something among a list is some of it
pub any_among : {X : Type 0} (P : X → Type 0) (xs : List X) (x : X) → IsAmong x xs → P x → Any P xs
any_among P [] x among is = absurd among
any_among P (y ∷ ys) x (inl same) is = (0, y, omega arith, refl, subst P (sym same) is)
any_among P (y ∷ ys) x (inr among) is = let rest = any_among P ys x among is in (suc rest.0, rest.1, omega (arith, rest.2), rest.3, rest.4)

-- no record at or above the end of a block is in it
none_behind : (container offset bound : ℕ) (entries : List LogEntry) → container * 2 ^ 32 + offset + 512 ≤ bound
    → AllByRecursion (λ (entry : LogEntry). bound ≤ entry.lsn) entries → filter (is_of_block container offset) entries ≡ []
none_behind container offset bound [] above all = refl
none_behind container offset bound (entry ∷ entries) above all = elim (cases_Bool (is_of_block container offset entry)) [
  | inl inside ↦ absurd (
      let both = and_parts (container_of entry.lsn == container) (offset_of entry.lsn == offset) inside in
      let of_container : container_of entry.lsn ≡ container = eqb-true (container_of entry.lsn) container both.0 in
      let of_offset : offset_of entry.lsn ≡ offset = eqb-true (offset_of entry.lsn) offset both.1 in
      omega (arith, of_container, of_offset, above, all.0))
  | inr outside ↦ rw outside (none_behind container offset bound entries above all.1)
]

-- the bytes of a block whose records are all below an LSN
pub paid_front : (container offset bound : ℕ) (front more : List LogEntry) → container * 2 ^ 32 + offset + 512 ≤ bound
    → AllByRecursion (λ (entry : LogEntry). bound ≤ entry.lsn) more → paid container offset (front ++ more) ≡ paid container offset front
paid_front container offset bound front more above all =
    let f : LogEntry → ℕ = λ e. size (length e.bytes) in
    let whole = ap (sum_by f) (filter-append (is_of_block container offset) front more) in
    let parts = sum_by-append f (filter (is_of_block container offset) front) (filter (is_of_block container offset) more) in
    let none : sum_by f (filter (is_of_block container offset) more) ≡ 0 = ap (sum_by f) (none_behind container offset bound more above all) in
    omega (arith, whole, parts, none)

-- the last block of records that end at a place
ends_there : (place last : Place) (entries : List LogEntry) (entry : LogEntry) → place.container ≡ last.container
    → place.offset ≡ last.offset + 512 * sectors last.used
    → last.used ≡ 16 + paid last.container last.offset entries → container_of entry.lsn ≡ last.container → offset_of entry.lsn ≡ last.offset
    → EndsBlockOf entries place entry
ends_there place last entries entry container offset used of_container of_offset =
    let F : ℕ → ℕ → Type 0 = λ c o. (place.container ≡ c) × (place.offset ≡ o + 512 * sectors (16 + paid c o entries)) in
    let G : ℕ → Type 0 = λ c. F c last.offset in
    let H : ℕ → Type 0 = λ o. F (container_of entry.lsn) o in
    let U : ℕ → Type 0 = λ n. place.offset ≡ last.offset + 512 * sectors n in
    let here : F last.container last.offset = (container, subst U used offset) in
    inl (subst H (sym of_offset) (subst G (sym of_container) here))

-- the parts of a log at its flushed LSN
front_of : (s : State) → IsValid s → BeginsBelow (flushed s) (cut s).records s.records
front_of s valid = below_front (flushed s) s.records (rises s.records valid.records.rising)

-- what is known of the flushed records
front_paid : (s : State) → IsValid s → HasBlocks s → IsPaid s.shape (behind_all before_all (cut s).records) (cut s).records
front_paid s valid blocks =
    let front = front_of s valid in
    let L : List LogEntry → Type 0 = LieInBlocks s.shape before_all in
    paid_last s.shape (cut s).records valid.ranges.shape (laid_front s.shape before_all (cut s).records front.more (subst L front.is blocks.laid))

-- a place whose container no log has
no_container : (s : State) (place : Place) (entries : List LogEntry) → IsValid s → entries ≡ []
    → place.container ≡ (behind_all before_all entries).container
    → place.container ≡ s.place.container → ⊥
no_container s place entries valid none of_last of_place =
    let zero_container : (behind_all before_all entries).container ≡ 0 = ap (λ (es : List LogEntry). (behind_all before_all es).container) none in
    omega (arith, zero_container, of_last, of_place, valid.ranges.place.container)

-- where it lies after a block, it ends that block
sealed_ends : (s : State) (last : Place) → IsValid s → IsPaid s.shape last (cut s).records → (1 ≤ last.records) → (cut s).place ≡ sealed last
    → Any (EndsBlockOf s.records (cut s).place) s.records
sealed_ends s last valid has some same =
    let front = front_of s valid in
    let member = has.last some in
    let used = has.used some in
    let at : frontier (cut s).place ≡ frontier (sealed last) = ap frontier same in
    let bound : last.container * 2 ^ 32 + last.offset + 512 ≤ flushed s = omega (arith, at, frontier_cut s valid, used, has.offset) in
    let all : paid last.container last.offset s.records ≡ paid last.container last.offset (cut s).records =
    ap (paid last.container last.offset) front.is ∙ paid_front last.container last.offset (flushed s) (cut s).records front.more bound front.above in
    let of_container : (cut s).place.container ≡ last.container = ap (λ (p : Place). p.container) same in
    let of_offset : (cut s).place.offset ≡ 512 * block_end last = ap (λ (p : Place). p.offset) same in
    any_among (EndsBlockOf s.records (cut s).place) s.records member.entry
    (among_all (λ (entry : LogEntry). nat_lt entry.lsn (flushed s)) s.records member.entry member.among)
    (ends_there (cut s).place last s.records member.entry of_container (omega (arith, of_offset, has.offset))
    (omega (arith, used, all)) member.of_container member.of_offset)

-- a container in which a log's place isn't at the start has a record
has_record : (s : State) → IsValid s → HasBlocks s → 1 ≤ block_end s.place
    → (entry : LogEntry) × IsAmong entry s.records × (container_of entry.lsn ≡ s.place.container)
has_record s valid blocks some = by_place blocks.place
  where
    last : Place
    last = behind_all before_all s.records

    has : IsPaid s.shape last s.records
    has = paid_last s.shape s.records valid.ranges.shape blocks.laid

    by_start : s.place.container ≡ last.container → (s.records ≡ []) ⊎ (1 ≤ last.records)
        → (entry : LogEntry) × IsAmong entry s.records × (container_of entry.lsn ≡ s.place.container)
    by_start same (inl none) = absurd (no_container s s.place s.records valid none same refl)
    by_start same (inr opened) = let member = has.last opened in (member.entry, member.among, member.of_container ∙ sym same)

    by_place : GoesOnAt last s.place → (entry : LogEntry) × IsAmong entry s.records × (container_of entry.lsn ≡ s.place.container)
    by_place (inl same) = by_start (ap (λ (p : Place). p.container) same) has.start
    by_place (inr (inl same)) = by_start (ap (λ (p : Place). p.container) same) has.start
    by_place (inr (inr further)) = absurd (let none : block_end s.place ≡ 0 = ap block_end further.1 in omega (arith, none, some))

-- what is among a front is among all
pub among_front : (xs ys : List LogEntry) (entry : LogEntry) → IsAmong entry xs → IsAmong entry (xs ++ ys)
among_front [] ys entry among = absurd among
among_front (x ∷ xs) ys entry (inl same) = inl same
among_front (x ∷ xs) ys entry (inr among) = inr (among_front xs ys entry among)

-- where it lies at the start of a further container than before, the container before that has a block
further_ends : (s t : State) → IsValid s → IsValid t → HasBlocks s → Adds s t → IsTurn s t → flushed s < flushed t → (cut t).place.offset ≡ 0
    → Any (EndsBlockOf t.records (cut t).place) t.records
further_ends s t valid_s valid_t blocks adds turn more start = by_turn turn.container
  where
    by_turn : (t.place.container ≡ s.place.container) ⊎ ((t.place.container ≡ s.place.container + 1) × (1 ≤ block_end s.place))
        → Any (EndsBlockOf t.records (cut t).place) t.records
    by_turn (inl same) = absurd (
        let of_s = flushed_block s valid_s in
        let of_t = flushed_block t valid_t in
        omega (arith, of_s.container, of_t.container, of_t.sequence, same, more, start))
    by_turn (inr next) =
        let found = has_record s valid_s blocks next.1 in
        let of_t = flushed_block t valid_t in
        let container : (cut t).place.container ≡ container_of found.0.lsn + 1 = omega (arith, of_t.container, next.0, found.2) in
        let F : List LogEntry → Type 0 = λ entries. IsAmong found.0 entries in
        any_among (EndsBlockOf t.records (cut t).place) t.records found.0
        (subst F (sym adds.joined) (among_front s.records adds.more found.0 found.1)) (inr (container, start))

-- where more is flushed than before
moved_ends : (s t : State) → IsValid s → IsValid t → HasBlocks s → HasBlocks t → Adds s t → IsTurn s t → flushed s < flushed t
    → Any (EndsBlockOf t.records (cut t).place) t.records
moved_ends s t valid_s valid_t blocks_s blocks_t adds turn more = by_place (cut_goes_on t valid_t blocks_t)
  where
    last : Place
    last = behind_all before_all (cut t).records

    has : IsPaid t.shape last (cut t).records
    has = front_paid t valid_t blocks_t

    of_place : (cut t).place.container ≡ t.place.container
    of_place = (flushed_block t valid_t).container

    by_start : (same : (cut t).place ≡ sealed last) → ((cut t).records ≡ []) ⊎ (1 ≤ last.records)
        → Any (EndsBlockOf t.records (cut t).place) t.records
    by_start same (inl none) = absurd (no_container t (cut t).place (cut t).records valid_t none (ap (λ (p : Place). p.container) same) of_place)
    by_start same (inr some) = sealed_ends t last valid_t has some same

    by_same : (cut t).place ≡ last → ((cut t).records ≡ []) ⊎ (1 ≤ last.records) → Any (EndsBlockOf t.records (cut t).place) t.records
    by_same same (inl none) = absurd (no_container t (cut t).place (cut t).records valid_t none (ap (λ (p : Place). p.container) same) of_place)
    by_same same (inr some) = absurd (let none : 0 ≡ last.records = ap (λ (p : Place). p.records) same in omega (arith, none, some))

    by_place : GoesOnAt last (cut t).place → Any (EndsBlockOf t.records (cut t).place) t.records
    by_place (inl same) = by_same same has.start
    by_place (inr (inl same)) = by_start same has.start
    by_place (inr (inr further)) = further_ends s t valid_s valid_t blocks_s adds turn more (ap (λ (p : Place). p.offset) further.1)

-- the place at an LSN, without an open block
abbrev pub at_lsn : ℕ → Place
at_lsn lsn = record { container = container_of lsn; offset = offset_of lsn; used = 0; records = 0 }

-- the place of what is flushed after a step
pub cut_ends : (s t : State) → IsValid s → IsValid t → HasBlocks s → HasBlocks t → Adds s t → IsTurn s t → flushed s ≤ flushed t
    → ((cut t).place ≡ (cut s).place) ⊎ Any (EndsBlockOf t.records (cut t).place) t.records
cut_ends s t valid_s valid_t blocks_s blocks_t adds turn rises_so = elim (cases_Bool (nat_lt (flushed s) (flushed t))) [
  | inl more ↦ inr (moved_ends s t valid_s valid_t blocks_s blocks_t adds turn (ltb-true (flushed s) (flushed t) more))
  | inr no_more ↦
      let same : flushed t ≡ flushed s = let below = ltb-false (flushed s) (flushed t) no_more in omega (arith, below, rises_so) in
      inl (ap at_lsn same)
]
