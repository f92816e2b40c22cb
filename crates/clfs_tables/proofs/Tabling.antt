-- Tables that are made of what was read of a log's files, step by step.
use Rattle.std.proofs.Common.{◌≡◌, ◌≢◌, ℕ, ◌+◌, ◌-◌, ◌<◌, ◌≤◌, Bool, true, false, refl, sym, ap, ◌∙◌, inl, inr, arith, List, [], ◌∷◌, ◌++◌, length, zero, suc, None, get_or, take, slice_get}
use Rattle.std.specs.Prelude.{All, AllPairs, ◌==◌}
use Rattle.std.specs.Str.{bytes_eq}
use Rattle.std.proofs.lemmas.Bool.{cases_Bool, ne_eqb}
use Rattle.std.proofs.lemmas.Slice.Eq.{bytes_eq-Decides}
use Rattle.std.proofs.lemmas.List.{get_or-take, length-take, get_or_default, length-map, map-append, take_more}
use Rattle.std.proofs.lemmas.List.Elements.{All-tail}
use Rattle.clfs_lsn.specs.Lsn.{null_lsn}
use Rattle.clfs_lsn.specs.declared.entry.Head.{Head}
use Rattle.clfs_base.specs.declared.image.Row.{Row}
use Rattle.clfs_lsn.specs.declared.stream.Stream.{Stream}
use Rattle.clfs_lsn.specs.Streams.{set_base, stream_number_from}
use Rattle.clfs_base.specs.Streams.{streams_with}
use Rattle.clfs_tables.specs.Opening.{streams_of}
use Rattle.clfs_tables.specs.Tables.{base_in}
use Rattle.clfs_tables.proofs.TableSteps.{base_or_null}

not_true : (b : Bool) → (b ≡ true → ⊥) → b ≡ false
not_true b isnt = elim (cases_Bool b) [
  | inl is ↦ absurd (isnt is)
  | inr is ↦ is
]

-- A name that none of some rows has is none of their streams'.
pub new_name : (n : ℕ) (name : List ℕ) (rows : List Row) → All (λ (row : Row). row.name ≢ name) rows → stream_number_from n name (streams_of rows) ≡ None
new_name n name [] other = refl
new_name n name (row ∷ rows) other =
    let first : bytes_eq row.name name ≡ false = not_true (bytes_eq row.name name) (λ same. other 0 row (omega arith) ((bytes_eq-Decides row.name name).0 same)) in
    rw first (new_name (n + 1) name rows (All-tail (λ (r : Row). r.name ≢ name) row rows other))

-- the names before a row's are others
pub names_before : (rows : List Row) (i : ℕ) (row : Row) → ((k j : ℕ) → k < j → j < length rows → (get_or rows k (record { name = []; base = 0 })).name ≢ (get_or rows j (record { name = []; base = 0 })).name)
    → i < length rows → row ≡ get_or rows i row → All (λ (other : Row). other.name ≢ row.name) (take i rows)
names_before rows i row different inside read = λ k d within.
    let before : k < i = (let long = length-take i rows in omega (arith, within, long, inside)) in
    let other : get_or (take i rows) k d ≡ get_or rows k (record { name = []; base = 0 }) = get_or-take i rows k d before ∙ get_or_default rows k d (record { name = []; base = 0 }) (omega (arith, before, inside)) in
    let own : row ≡ get_or rows i (record { name = []; base = 0 }) = read ∙ get_or_default rows i row (record { name = []; base = 0 }) inside in
    λ same. different k i before inside (ap (λ (r : Row). r.name) (sym other) ∙ same ∙ ap (λ (r : Row). r.name) own)

-- one row more
pub streams_more : (rows : List Row) (i : ℕ) (row : Row) → i < length rows → row ≡ get_or rows i row
    → streams_of (take i rows) ++ record { name = row.name; base = null_lsn } ∷ [] ≡ streams_of (take (i + 1) rows)
streams_more rows i row inside read =
    let more : take (i + 1) rows ≡ take i rows ++ row ∷ [] = take_more rows i row inside ∙ ap (λ r. take i rows ++ r ∷ []) (sym read) in
    sym (ap streams_of more ∙ map-append (λ (r : Row). record { name = r.name; base = null_lsn }) (take i rows) (row ∷ []))

got_null : (rows : List Row) (i : ℕ) → base_or_null (slice_get (streams_of rows) i) ≡ null_lsn
got_null [] i = refl
got_null (row ∷ rows) zero = refl
got_null (row ∷ rows) (suc i) = got_null rows i

-- no stream has a base yet
pub no_bases : (rows : List Row) (number : ℕ) → base_in (streams_of rows) number ≡ null_lsn
no_bases rows number = elim (cases_Bool (number == 0)) [
  | inl none ↦ rw none refl
  | inr some ↦ rw some (got_null rows (number - 1))
]

-- the streams of which the first so many have their bases
abbrev pub streams_so_far : List Row → List ℕ → ℕ → List Stream
streams_so_far rows bases zero = streams_of rows
streams_so_far [] bases (suc i) = []
streams_so_far (row ∷ rows) [] (suc i) = streams_of (row ∷ rows)
streams_so_far (row ∷ rows) (base ∷ bases) (suc i) = record { name = row.name; base = base } ∷ streams_so_far rows bases i

so_far_more : (rows : List Row) (bases : List ℕ) (i : ℕ) (base : ℕ) → length bases ≡ length rows → i < length bases → base ≡ get_or bases i base
    → set_base (i + 1) base (streams_so_far rows bases i) ≡ streams_so_far rows bases (suc i)
so_far_more rows [] i base long inside read = absurd (omega (arith, inside))
so_far_more [] (first ∷ bases) i base long inside read = absurd (omega (arith, long))
so_far_more (row ∷ rows) (first ∷ bases) zero base long inside read = ap (λ b. record { name = row.name; base = b } ∷ streams_of rows) read
so_far_more (row ∷ rows) (first ∷ bases) (suc i) base long inside read =
    let number : (suc i + 1 == 1) ≡ false = ne_eqb (suc i + 1) 1 (λ same. omega (arith, same)) in
    let less : suc i + 1 - 1 ≡ i + 1 = omega arith in
    rw (number, less) (ap (λ (streams : List Stream). record { name = row.name; base = first } ∷ streams) (so_far_more rows bases i base (omega (arith, long)) (omega (arith, inside)) read))

pub bases_more : (rows : List Row) (bases : List ℕ) (i base : ℕ) → length bases ≡ length rows → i < length bases → base ≡ get_or bases i base
    → set_base (i + 1) base (streams_so_far rows bases i) ≡ streams_so_far rows bases (i + 1)
bases_more rows bases i base long inside read = let e : i + 1 ≡ suc i = omega arith in so_far_more rows bases i base long inside read ∙ ap (streams_so_far rows bases) (sym e)

pub bases_all : (rows : List Row) (bases : List ℕ) (i : ℕ) → length bases ≡ length rows → length bases ≤ i → streams_so_far rows bases i ≡ streams_with rows bases
bases_all [] [] zero long done = refl
bases_all [] [] (suc i) long done = refl
bases_all [] (base ∷ bases) i long done = absurd (omega (arith, long))
bases_all (row ∷ rows) [] i long done = absurd (omega (arith, long))
bases_all (row ∷ rows) (base ∷ bases) zero long done = absurd (omega (arith, done))
bases_all (row ∷ rows) (base ∷ bases) (suc i) long done =
    ap (λ (streams : List Stream). record { name = row.name; base = base } ∷ streams) (bases_all rows bases i (omega (arith, long)) (omega (arith, done)))

pub so_far_long : (rows : List Row) (bases : List ℕ) (i : ℕ) → length (streams_so_far rows bases i) ≡ length rows
so_far_long rows bases zero = length-map rows (λ (r : Row). record { name = r.name; base = null_lsn })
so_far_long [] bases (suc i) = refl
so_far_long (row ∷ rows) [] (suc i) = length-map (row ∷ rows) (λ (r : Row). record { name = r.name; base = null_lsn })
so_far_long (row ∷ rows) (base ∷ bases) (suc i) = ap suc (so_far_long rows bases i)

got_so_far : (rows : List Row) (bases : List ℕ) (i : ℕ) → base_or_null (slice_get (streams_so_far rows bases i) i) ≡ null_lsn
got_so_far rows bases zero = got_null rows 0
got_so_far [] bases (suc i) = refl
got_so_far (row ∷ rows) [] (suc i) = got_null (row ∷ rows) (suc i)
got_so_far (row ∷ rows) (base ∷ bases) (suc i) = got_so_far rows bases i

-- the next stream has no base yet
pub next_has_none : (rows : List Row) (bases : List ℕ) (i : ℕ) → base_in (streams_so_far rows bases i) (i + 1) ≡ null_lsn
next_has_none rows bases i =
    let some : (i + 1 == 0) ≡ false = ne_eqb (i + 1) 0 (λ same. omega (arith, same)) in
    let back : i + 1 - 1 ≡ i = omega arith in
    rw (some, back) (got_so_far rows bases i)

-- the heads before one lie below it
pub heads_before : (heads : List Head) (i : ℕ) (head : Head) → AllPairs (λ (a b : Head). a.lsn < b.lsn) heads → i < length heads → head ≡ get_or heads i head
    → All (λ (other : Head). other.lsn < head.lsn) (take i heads)
heads_before heads i head rising inside read = λ k d within.
    let before : k < i = (let long = length-take i heads in omega (arith, within, long, inside)) in
    let less = rising k i d before inside in
    let own : head ≡ get_or heads i d = read ∙ get_or_default heads i head d inside in
    rw (get_or-take i heads k d before, own) less
