-- The rows of the map against the list of streams.
use Rattle.std.proofs.Common.{◌≡◌, ◌≢◌, get_or, ℕ, ◌+◌, ◌-◌, ◌<◌, ◌≤◌, Bool, false, cond, eqb, ltb, refl, sym, ap, ◌∙◌, inl, inr, arith, List, [], ◌∷◌, ◌++◌, length, zero, suc, Option, Some, None, nat_eq}
use Rattle.std.specs.Prelude.{position}
use Rattle.std.specs.List.{position_or_len, AllByRecursion, IsDistinct}
use Rattle.std.specs.Option.{option_map}
use Rattle.std.specs.Global.{Vec}
use Rattle.std.specs.Cmp.Lexicographic.{pointwise, nat_list_eq_equiv, bytes_decides}
use Rattle.std.specs.Str.{bytes_eq}
use Rattle.std.proofs.lemmas.Bool.{cases_Bool}
use Rattle.std.proofs.lemmas.Bool.Decides.{nat_tests}
use Rattle.std.specs.Map.{keys_of}
use Rattle.indexmap.specs.IndexMap.{set_value_at, insert_entry}
use Rattle.clfs_lsn.specs.declared.stream.Stream.{Stream}
use Rattle.clfs_lsn.specs.Streams.{set_base, stream_number_from}
use Rattle.clfs_streams.specs.Table.{Table}
use Rattle.clfs_streams.specs.Rows.{streams_of}

-- the test by which a name is looked up
abbrev pub has_name : List ℕ → Vec ℕ → Bool
has_name name key = pointwise nat_eq name key.items

-- it asks the same as that of the definition
same_test : (name : List ℕ) (key : Vec ℕ) → bytes_eq key.items name ≡ has_name name key
same_test name key = nat_list_eq_equiv.symm key.items name

here : (len n : ℕ) → Some n ≡ cond (ltb 0 (suc len)) (Some (0 + n)) None
here len n = grind (arith, nat_tests)

behind : (place len n : ℕ) → cond (ltb place len) (Some (place + (n + 1))) None ≡ cond (ltb (1 + place) (suc len)) (Some ((1 + place) + n)) None
behind place len n = grind (arith, nat_tests)

number_is : (name : List ℕ) (n : ℕ) (rows : List (Vec ℕ × ℕ)) → stream_number_from n name (streams_of rows)
    ≡ cond (ltb (position_or_len (has_name name) (keys_of rows)) (length (keys_of rows))) (Some (position_or_len (has_name name) (keys_of rows) + n)) None
number_is name n [] = refl
number_is name n (row ∷ rows) = elim (cases_Bool (has_name name row.0)) [
  | inl passes ↦ rw (same_test name row.0 ∙ passes, passes) (here (length (keys_of rows)) n)
  | inr fails ↦ rw (same_test name row.0 ∙ fails, fails)
      (number_is name (n + 1) rows ∙ behind (position_or_len (has_name name) (keys_of rows)) (length (keys_of rows)) n)
]

-- what the place of a name among the rows says of its number
number_of_place : (place len n : ℕ) → option_map (λ i. i + n) (cond (ltb place len) (Some place) None) ≡ cond (ltb place len) (Some (place + n)) None
number_of_place place len n = elim (cases_Bool (ltb place len)) [
  | inl passes ↦ rw passes refl
  | inr fails ↦ rw fails refl
]

pub numbered : (name : List ℕ) (n : ℕ) (rows : List (Vec ℕ × ℕ))
    → stream_number_from n name (streams_of rows) ≡ option_map (λ i. i + n) (position (has_name name) (keys_of rows))
numbered name n rows = number_is name n rows ∙ sym (number_of_place (position_or_len (has_name name) (keys_of rows)) (length (keys_of rows)) n)

-- a name that no stream has goes last
pub added : (n : ℕ) (key : Vec ℕ) (base : ℕ) (rows : List (Vec ℕ × ℕ)) → stream_number_from n key.items (streams_of rows) ≡ None
    → streams_of (insert_entry (λ (x y : Vec ℕ). pointwise nat_eq x.items y.items) rows key base)
    ≡ streams_of rows ++ record { name = key.items; base = base } ∷ []
added n key base [] none = refl
added n key base (row ∷ rows) none = elim (cases_Bool (has_name key.items row.0)) [
  | inl passes ↦ absurd (let there = rw (same_test key.items row.0 ∙ passes) at none in cc)
  | inr fails ↦ rw fails (ap (λ (streams : List Stream). record { name = row.0.items; base = row.1 } ∷ streams)
      (added (n + 1) key base rows (rw (same_test key.items row.0 ∙ fails) at none)))
]

-- a write to the value of a row moves the base of its stream
pub moved : (rows : List (Vec ℕ × ℕ)) (place lsn : ℕ) → streams_of (set_value_at rows place lsn) ≡ set_base (place + 1) lsn (streams_of rows)
moved [] place lsn = refl
moved (row ∷ rows) zero lsn = refl
moved (row ∷ rows) (suc place) lsn =
    let other : eqb (suc place + 1) 1 ≡ false = grind (arith, nat_tests) in
    let before : suc place + 1 - 1 ≡ place + 1 = omega arith in
    rw (other, before) (ap (λ (streams : List Stream). record { name = row.0.items; base = row.1 } ∷ streams) (moved rows place lsn))

pub moved_at : (rows : List (Vec ℕ × ℕ)) (number lsn : ℕ) → 1 ≤ number
    → streams_of (set_value_at rows (number - 1) lsn) ≡ set_base number lsn (streams_of rows)
moved_at rows number lsn some =
    let back : number - 1 + 1 ≡ number = omega arith in
    moved rows (number - 1) lsn ∙ ap (λ n. set_base n lsn (streams_of rows)) back

-- the same of the streams that a table stands for
pub number_found : (table : Table) (name : List ℕ) (rows : List (Vec ℕ × ℕ)) (room : ℕ) (placed : Option ℕ)
    → record { streams = streams_of rows; room = room } ≡ table → placed ≡ position (has_name name) (keys_of rows)
    → option_map (λ place. place + 1) placed ≡ stream_number_from 1 name table.streams
number_found table name rows room placed view is =
    let streams : table.streams ≡ streams_of rows = ap (λ (t : Table). t.streams) (sym view) in
    rw (streams, is) (sym (numbered name 1 rows))

pub added_behind : (table : Table) (key : Vec ℕ) (name : List ℕ) (base end room : ℕ) (rows new : List (Vec ℕ × ℕ))
    → record { streams = streams_of rows; room = room } ≡ table → key.items ≡ name → base ≡ end
    → stream_number_from 1 name table.streams ≡ None
    → new ≡ insert_entry (λ (x y : Vec ℕ). pointwise nat_eq x.items y.items) rows key base
    → streams_of new ≡ table.streams ++ record { name = name; base = end } ∷ []
added_behind table key name base end room rows new view named based none is =
    let streams : streams_of rows ≡ table.streams = ap (λ (t : Table). t.streams) view in
    let absent : stream_number_from 1 key.items (streams_of rows) ≡ None = rw (streams, named) none in
    rw (is, ← streams, ← named, ← based) (added 1 key base rows absent)

-- A key that differs from all others has another name than their streams.
named_apart : (key : Vec ℕ) (rows : List (Vec ℕ × ℕ)) → AllByRecursion (λ (other : Vec ℕ). pointwise nat_eq key.items other.items ≡ false) (keys_of rows)
    → (j : ℕ) (d : Stream) → j < length (streams_of rows) → key.items ≢ (get_or (streams_of rows) j d).name
named_apart key [] apart j d inside same = absurd (omega (arith, inside))
named_apart key (row ∷ rows) apart zero d inside same =
    let equal = (bytes_decides key.items row.0.items).1 same in
    let differ = apart.0 in
    absurd (cc)
named_apart key (row ∷ rows) apart (suc j) d inside same = named_apart key rows apart.1 j d (omega (arith, inside)) same

pub named_differently : (rows : List (Vec ℕ × ℕ)) → IsDistinct (λ (x y : Vec ℕ). pointwise nat_eq x.items y.items) (keys_of rows)
    → (i j : ℕ) (d : Stream) → i < j → j < length (streams_of rows)
    → (get_or (streams_of rows) i d).name ≢ (get_or (streams_of rows) j d).name
unfolding IsDistinct
named_differently [] distinct i j d before inside same = absurd (omega (arith, inside))
named_differently (row ∷ rows) distinct zero zero d before inside same = absurd (omega (arith, before))
named_differently (row ∷ rows) distinct zero (suc j) d before inside same = named_apart row.0 rows distinct.0 j d (omega (arith, inside)) same
named_differently (row ∷ rows) distinct (suc i) zero d before inside same = absurd (omega (arith, before))
named_differently (row ∷ rows) distinct (suc i) (suc j) d before inside same =
    named_differently rows distinct.1 i j d (omega (arith, before)) (omega (arith, inside)) same
