-- What a table's log says after a checkpoint: the cells, and nothing above them.
use Rattle.clfs_cells_laws.proofs.Words.{◌≡◌, ℕ, zero, suc, ◌+◌, ◌-◌, ◌<◌, ◌≤◌, Bool, true, false, refl, sym, subst, ap, ◌∙◌, inl, inr, arith, List, [], ◌∷◌}
use Rattle.clfs_cells_laws.proofs.Words.{◌++◌, length, Option, Some, None, ◌&&◌, ◌||◌, ◌==◌, filter, is_none, is_some, nat_le, nat_lt, slice_get}
use Rattle.clfs_cells_laws.proofs.Words.{AllByRecursion, last_or, option_and_then, option_map_or, cases_Bool, eq-eqb, eqb-true, le-leb, leb-false, le-ltb}
use Rattle.clfs_cells_laws.proofs.Words.{ltb-true, ne_eqb, filter-append, recursion_from_All, is_restart, null_lsn, frontier, set_base, LogEntry, Stream}
use Rattle.clfs_cells_laws.proofs.Words.{State, is_live, last_live, live, live_at, lsn_or_null, is_base, stream_number, base_of, stream_at, IsRecord, IsValid}
use Rattle.clfs_cells_laws.proofs.Words.{Checkpoint, blank_cells, cell_count, checkpoint_bytes, checkpoint_of, Memory, first_cells, records_after, table_name}
use Rattle.clfs_cells_laws.proofs.Words.{IsInTable, IsTabled}
use Rattle.std.proofs.lemmas.Bool.{leb-true, lt-leb}
use Rattle.clfs_cells_laws.proofs.Above.{Rises, above, filter_rises, kept, rises}
use Rattle.clfs_cells_laws.proofs.Ground.{newest_in, spelled}
use Rattle.clfs_cells_laws.proofs.Opening.{stream_is_there}
use Rattle.clfs_cells_laws.proofs.OwnCalls.{Laws, below_all}
use Rattle.clfs_cells_laws.proofs.Stacks.{first_has, first_passes}
use Rattle.clfs_cells_laws.proofs.TabledRows.{keeps_as}

-- ---- the base that moved

based : (streams : List Stream) (number at lsn : ℕ) (x : Stream) → number ≡ suc at → slice_get streams at ≡ Some x
    → slice_get (set_base number lsn streams) at ≡ Some (record x { base = lsn })
based [] number at lsn x is there = absurd (cc there)
based (y ∷ streams) number zero lsn x is there =
    let same : y ≡ x = cc there in rw (eq-eqb number 1 (omega (arith, is))) (ap (λ (z : Stream). let w : Stream = record z { base = lsn } in Some w) same)
based (y ∷ streams) number (suc at) lsn x is there = rw (ne_eqb number 1 (λ e. omega (arith, is, e))) (based streams (number - 1) at lsn x (omega (arith, is)) there)

-- a stream of this number is there
pub record IsThere (s : State) (number : ℕ) : Type 0 where
  pub at : ℕ
  pub is : number ≡ suc at
  pub x : Stream
  pub there : slice_get s.streams at ≡ Some x

pub stream_there : (s : State) (number : ℕ) → stream_number s table_name ≡ Some number → IsThere s number
stream_there s number is = go (stream_is_there s number is)
  where
    of_stream : (o : Option Stream) → slice_get s.streams (number - 1) ≡ o → is_none o ≡ false → (number == 0) ≡ false → IsThere s number
    of_stream None at none other = absurd (cc none)
    of_stream (Some x) at none other = record {
      at = number - 1;
      is = omega (arith, not_null);
      x = x;
      there = at;
    }
      where
        not_null : number ≡ 0 → ⊥
        not_null e = let yes : (number == 0) ≡ true = eq-eqb number 0 e in let no : true ≡ false = sym yes ∙ other in cc no

    go : is_none (stream_at s number) ≡ false → IsThere s number
    go some = elim (cases_Bool (number == 0)) [
      | inl null ↦ let none : true ≡ false = rw null at some in absurd (cc none)
      | inr other ↦ let found : is_none (slice_get s.streams (number - 1)) ≡ false = rw other at some in of_stream (slice_get s.streams (number - 1)) refl found other
    ]

base_moved : (s u : State) (number lsn : ℕ) → IsThere s number → u.streams ≡ set_base number lsn s.streams → base_of u number ≡ lsn
base_moved s u number lsn there is =
    let at : slice_get u.streams (number - 1) ≡ Some (record there.x { base = lsn })
    = ap (λ (l : List Stream). slice_get l (number - 1)) is
    ∙ ap (slice_get (set_base number lsn s.streams)) (let same : number - 1 ≡ there.at = (let e = there.is in omega (arith, e)) in same)
    ∙ based s.streams number there.at lsn there.x there.is there.there in
    let other : (number == 0) ≡ false = ne_eqb number 0 (λ e. let is_suc = there.is in omega (arith, is_suc, e)) in
    rw other (ap (λ (o : Option Stream). option_map_or (λ (x : Stream). x.base) o null_lsn) at)

-- ---- the last live record is above all others

last_all : (x : LogEntry) (xs : List LogEntry) → Rises (x ∷ xs)
    → AllByRecursion (λ (e : LogEntry). e.lsn ≤ lsn_or_null (last_or (Some x) xs)) (x ∷ xs)
last_all x [] rising = (omega arith, tt)
last_all x (y ∷ ys) rising = let rest = last_all y ys rising.1 in (let high = rest.0 in let low = rising.0.0 in omega (arith, high, low), rest)

all_last : (xs : List LogEntry) → Rises xs → AllByRecursion (λ (e : LogEntry). e.lsn ≤ lsn_or_null (last_or None xs)) xs
all_last [] rising = tt
all_last (x ∷ xs) rising = last_all x xs rising

last_of : (P : LogEntry → Type 0) (xs : List LogEntry) (o : Option LogEntry) (x : LogEntry) → last_or o xs ≡ Some x → ((y : LogEntry) → o ≡ Some y → P y) → AllByRecursion P xs → P x
last_of P [] o x is of all = of x is
last_of P (a ∷ xs) o x is of all = last_of P xs (Some a) x is (λ y same. let one : a ≡ y = cc same in subst P one all.0) all.1

last_below : (xs : List LogEntry) (bound : ℕ) → 0 < lsn_or_null (last_or None xs) → AllByRecursion (λ (e : LogEntry). e.lsn < bound) xs → lsn_or_null (last_or None xs) < bound
last_below xs bound some all = go (last_or None xs) refl some
  where
    go : (o : Option LogEntry) → last_or None xs ≡ o → 0 < lsn_or_null o → lsn_or_null o < bound
    go None is some_o = absurd (omega (arith, some_o))
    go (Some x) is some_o = last_of (λ (e : LogEntry). e.lsn < bound) xs None x is (λ y none. absurd (cc none)) all

-- a live record's base lies at or below it
last_live_high : (s : State) (stream : ℕ) → 0 < last_live s stream → base_of s stream ≤ last_live s stream
last_live_high s stream some = go (last_or None (live s stream)) refl some
  where
    all_high : (xs : List LogEntry) → AllByRecursion (λ (e : LogEntry). base_of s stream ≤ e.lsn) (filter (λ (e : LogEntry). (e.stream == stream) && is_live s e) xs)
    all_high [] = tt
    all_high (e ∷ xs) = elim (cases_Bool (e.stream == stream)) [
      | inl own ↦ elim (cases_Bool (is_live s e)) [
        | inl lives ↦
            let low : base_of s e.stream ≤ e.lsn = leb-true (base_of s e.stream) e.lsn lives in
            rw (own, lives) (subst (λ (n : ℕ). base_of s n ≤ e.lsn) (eqb-true e.stream stream own) low, all_high xs)
        | inr dead ↦ rw (own, dead) (all_high xs)
      ]
      | inr other ↦ rw other (all_high xs)
    ]

    go : (o : Option LogEntry) → last_or None (live s stream) ≡ o → 0 < lsn_or_null o → base_of s stream ≤ lsn_or_null o
    go None is some_o = absurd (omega (arith, some_o))
    go (Some x) is some_o = last_of (λ (e : LogEntry). base_of s stream ≤ e.lsn) (live s stream) None x is (λ y none. absurd (cc none)) (all_high s.records)

-- a base one above the last record is one only if there is a last one
has_last : (s : State) (stream : ℕ) → AllByRecursion (λ (e : LogEntry). e.lsn ≤ last_live s stream) (live s stream) → is_base s stream (last_live s stream + 1) ≡ true
    → 0 < last_live s stream
has_last s stream all is = elim (cases_Bool (nat_lt null_lsn (last_live s stream))) [
  | inl some ↦ ltb-true 0 (last_live s stream) some
  | inr none ↦
      let found : is_some (live_at s stream (last_live s stream + 1)) ≡ true = or_false (is_some (live_at s stream (last_live s stream + 1))) (rw none at is) in
      absurd (over (live_at s stream (last_live s stream + 1)) refl found)
]
  where
    or_false : (a : Bool) → (a || false) ≡ true → a ≡ true
    or_false true is_so = refl
    or_false false is_so = is_so

    over : (o : Option LogEntry) → live_at s stream (last_live s stream + 1) ≡ o → is_some o ≡ true → ⊥
    over None at none = cc none
    over (Some e) at some =
        let low : e.lsn ≤ last_live s stream
        = first_has (λ (x : LogEntry). x.lsn ≤ last_live s stream) (λ (x : LogEntry). x.lsn == last_live s stream + 1) (live s stream) e at all in
        let same : e.lsn ≡ last_live s stream + 1
        = eqb-true e.lsn (last_live s stream + 1) (first_passes (λ (x : LogEntry). x.lsn == last_live s stream + 1) (live s stream) e at) in
        omega (arith, low, same)

-- ---- none of the old records is live

-- each record of the stream is live and so not above the last one, or below the old base
none_live : (s u : State) (stream last : ℕ) (xs : List LogEntry) → base_of u stream ≡ last + 1 → base_of s stream ≤ last
    → AllByRecursion (λ (e : LogEntry). e.lsn ≤ last) (filter (λ (e : LogEntry). (e.stream == stream) && is_live s e) xs)
    → filter (λ (e : LogEntry). (e.stream == stream) && is_live u e) xs ≡ []
none_live s u stream last [] base old all = refl
none_live s u stream last (e ∷ xs) base old all = elim (cases_Bool (e.stream == stream)) [
  | inl own ↦
      let same : e.stream ≡ stream = eqb-true e.stream stream own in
      elim (cases_Bool (is_live s e)) [
        | inl lives ↦
            let these : AllByRecursion (λ (x : LogEntry). x.lsn ≤ last) (e ∷ filter (λ (x : LogEntry). (x.stream == stream) && is_live s x) xs) = rw (own, lives) at all in
            rw (own, dead e same these.0) (none_live s u stream last xs base old these.1)
        | inr not ↦
            let rest : AllByRecursion (λ (x : LogEntry). x.lsn ≤ last) (filter (λ (x : LogEntry). (x.stream == stream) && is_live s x) xs) = rw (own, not) at all in
            let low : e.lsn < base_of s e.stream = leb_false (base_of s e.stream) e.lsn not in
            let low_stream : e.lsn < base_of s stream = subst (λ (n : ℕ). e.lsn < base_of s n) same low in
            rw (own, dead e same (omega (arith, low_stream, old))) (none_live s u stream last xs base old rest)
      ]
  | inr other ↦
      let rest : AllByRecursion (λ (x : LogEntry). x.lsn ≤ last) (filter (λ (x : LogEntry). (x.stream == stream) && is_live s x) xs) = rw other at all in
      rw other (none_live s u stream last xs base old rest)
]
  where
    leb_false : (a b : ℕ) → nat_le a b ≡ false → b < a
    leb_false a b is = leb-false a b is

    dead : (x : LogEntry) → x.stream ≡ stream → x.lsn ≤ last → is_live u x ≡ false
    dead x same low = lt-leb (base_of u x.stream) x.lsn (subst (λ (n : ℕ). x.lsn < n) (sym (ap (base_of u) same ∙ base)) (omega (arith, low)))

-- ---- the table

-- the restart area alone is live
pub checkpoint_lives : (s u : State) (stream : ℕ) (entry : LogEntry) (base : ℕ) → base ≡ last_live s stream + 1 → is_base s stream base ≡ true → IsValid s
    → frontier s.place ≤ entry.lsn → u.streams ≡ set_base stream base s.streams → u.records ≡ s.records ++ entry ∷ [] → entry.stream ≡ stream → IsThere s stream
    → live u stream ≡ entry ∷ []
checkpoint_lives s u k entry base base_is is_one valid high streams records own there =
    let last : ℕ = last_live s k in
    let p : LogEntry → Bool = λ e. (e.stream == k) && is_live s e in
    let q : LogEntry → Bool = λ e. (e.stream == k) && is_live u e in
    let all = all_last (live s k) (filter_rises p s.records (rises s.records valid.records.rising)) in
    let some = has_last s k all (subst (λ (n : ℕ). is_base s k n ≡ true) base_is is_one) in
    let old = last_live_high s k some in
    let moved : base_of u k ≡ last + 1 = base_moved s u k base there streams ∙ base_is in
    let low : last < entry.lsn
    = last_below (live s k) entry.lsn some
    (kept (λ (e : LogEntry). e.lsn < entry.lsn) p s.records (below_all s entry.lsn s.records high (recursion_from_All (IsRecord s) s.records valid.records.records))) in
    let passes : q entry ≡ true
    = rw (eq-eqb entry.stream k own) (le-leb (base_of u entry.stream) entry.lsn (let same : base_of u entry.stream ≡ last + 1 = ap (base_of u) own ∙ moved in omega (arith, same, low))) in
    let one : filter q (entry ∷ []) ≡ entry ∷ [] = rw passes refl in
    ap (filter q) records ∙ filter-append q s.records (entry ∷ []) ∙ ap (λ (l : List LogEntry). l ++ filter q (entry ∷ [])) (none_live s u k last s.records moved old all) ∙ one

pub checkpoint_tabled : Laws → (s u : State) (memory : Memory) (entry : LogEntry) (base : ℕ) → length memory.cells ≡ cell_count → memory.transactions ≡ []
    → base ≡ last_live s memory.stream + 1 → is_base s memory.stream base ≡ true → IsValid s → IsValid u → IsTabled s memory → frontier s.place ≤ entry.lsn
    → u.streams ≡ set_base memory.stream base s.streams → u.records ≡ s.records ++ entry ∷ [] → entry.stream ≡ memory.stream → is_restart entry.kind ≡ true
    → entry.bytes ≡ checkpoint_bytes (record { cells = memory.cells; last = memory.last }) → IsThere s memory.stream → IsTabled u memory
checkpoint_tabled laws s u memory entry base long none base_is is_one valid valid_u keeps high streams records own restart bytes there =
    let k : ℕ = memory.stream in
    let lives = checkpoint_lives s u k entry base base_is is_one valid high streams records own there in
    let newest : newest_in (live u k) ≡ Some entry = ap newest_in lives ∙ (let only : newest_in (entry ∷ []) ≡ Some entry = rw restart refl in only) in
    let c : Checkpoint = record { cells = memory.cells; last = memory.last } in
    let says : checkpoint_of entry.bytes ≡ Some c
    = ap checkpoint_of bytes ∙ laws.spelled_restart c (record { cells = long; values = keeps.values; last = keeps.last }) in
    let first : first_cells u k ≡ memory.cells
    = ap (λ (o : Option LogEntry). option_map_or (λ (x : Checkpoint). x.cells) (option_and_then (λ (e : LogEntry). checkpoint_of e.bytes) o) blank_cells) newest
    ∙ ap (λ (o : Option Checkpoint). option_map_or (λ (x : Checkpoint). x.cells) o blank_cells) says in
    let above_none : above entry.lsn (entry ∷ []) ≡ [] = rw (le-ltb entry.lsn entry.lsn (omega arith)) refl in
    let rows : records_after u k ≡ []
    = ap (λ (o : Option LogEntry). spelled (above (lsn_or_null o) (live u k))) newest ∙ ap (λ (l : List LogEntry). spelled (above entry.lsn l)) lives ∙ ap spelled above_none in
    keeps_as s u memory memory memory.cells [] first rows (record {
      cells = refl;
      open_ones = subst (AllByRecursion (IsInTable memory.cells [])) (sym none) tt;
      exclusive = tt;
      below = tt;
      last = keeps.last;
      values = keeps.values;
    })
