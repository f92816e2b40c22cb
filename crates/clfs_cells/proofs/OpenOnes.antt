-- Open transactions by their places: the one that is found, one replaced, one taken out.
use Rattle.clfs_cells.proofs.Words.{◌≡◌, ℕ, zero, suc, ◌+◌, ◌<◌, ◌≤◌, Bool, false, List, [], ◌∷◌, ◌++◌, length, take, Option, Some, None, find, position}
use Rattle.clfs_cells.proofs.Words.{slice_set, slice_index_or, refl, ap, sym, ◌∙◌, arith, inl, inr, map, position_or_len, take-set-lt, cases_Bool}
use Rattle.clfs_cells.proofs.Words.{length-take, length-map, change_first, transaction_of, Made, Change, Memory, Transaction, is_numbered, with_one_undone}
use Rattle.std.proofs.Common.{◌-◌, remove}
use Rattle.std.proofs.lemmas.List.{get_or-map, map-set}
use Rattle.clfs_cells.specs.declared.begun.Transaction.{Transaction as Code}
use Rattle.clfs_cells.specs.Stored.{newest_standing, transaction, with_set, with_transaction, with_undone, without_first}
use Rattle.clfs_cells.proofs.Places.{StandsAt, stands_at, rest, found, absent, unchanged, changed_there, far, position-map}

-- a transaction that stands for any
abbrev pub any_transaction : Code
any_transaction = record { number = 0; changes = 0; sets = []; count = 0; last = 0; few = omega arith; most = omega arith }

abbrev pub shown : List Code → List Transaction
shown xs = map transaction_of xs

there : (p : Transaction → Bool) (xs : List Code) (placed : Option ℕ) (i : ℕ)
    → placed ≡ position (λ (x : Code). p (transaction_of x)) xs → placed ≡ Some i → StandsAt p (shown xs) i
there p xs placed i is some = stands_at p (shown xs) i (position-map p transaction_of xs ∙ sym is ∙ some)

nowhere : (p : Transaction → Bool) (xs : List Code) (placed : Option ℕ)
    → placed ≡ position (λ (x : Code). p (transaction_of x)) xs → placed ≡ None → length (shown xs) ≤ position_or_len p (shown xs)
nowhere p xs placed is none = far p (shown xs) (position-map p transaction_of xs ∙ sym is ∙ none)

pub inside_of : (p : Transaction → Bool) (xs : List Code) (placed : Option ℕ) (i : ℕ)
    → placed ≡ position (λ (x : Code). p (transaction_of x)) xs → placed ≡ Some i → i < length xs
inside_of p xs placed i is some = omega (arith, (there p xs placed i is some).inside, length-map xs transaction_of)

-- the one that is found
pub found_at : (p : Transaction → Bool) (xs : List Code) (placed : Option ℕ) (i : ℕ) (d : Code)
    → placed ≡ position (λ (x : Code). p (transaction_of x)) xs → placed ≡ Some i → find p (shown xs) ≡ Some (transaction_of (slice_index_or xs i d))
found_at p xs placed i d is some =
    found p (shown xs) i (transaction_of d) (there p xs placed i is some)
    ∙ ap (λ (t : Transaction). Some t) (get_or-map transaction_of xs i d (transaction_of d) (inside_of p xs placed i is some))

pub none_at : (p : Transaction → Bool) (xs : List Code) (placed : Option ℕ)
    → placed ≡ position (λ (x : Code). p (transaction_of x)) xs → placed ≡ None → find p (shown xs) ≡ None
none_at p xs placed is none = absent p (shown xs) (nowhere p xs placed is none)

-- one replaced, of those that are open
pub replaced_at : (p : Transaction → Bool) (items : List Code) (count i : ℕ) (placed : Option ℕ) (next : Code)
    → placed ≡ position (λ (x : Code). p (transaction_of x)) (take count items) → placed ≡ Some i
    → shown (take count (slice_set items i next)) ≡ change_first p (λ _. transaction_of next) (shown (take count items))
replaced_at p items count i placed next is some =
    let inside = inside_of p (take count items) placed i is some in
    ap shown (take-set-lt count items i next (omega (arith, inside, length-take count items)))
    ∙ map-set transaction_of (take count items) i next
    ∙ changed_there p (λ _. transaction_of next) (shown (take count items)) i (transaction_of next) (there p (take count items) placed i is some)

pub replaced_nowhere : (p : Transaction → Bool) (f : Transaction → Transaction) (xs : List Code) (placed : Option ℕ)
    → placed ≡ position (λ (x : Code). p (transaction_of x)) xs → placed ≡ None → shown xs ≡ change_first p f (shown xs)
replaced_nowhere p f xs placed is none = sym (unchanged p f (shown xs) (nowhere p xs placed is none))

-- ---- one taken out

without_there : {X : Type 0} (p : X → Bool) (xs : List X) (i : ℕ) → StandsAt p xs i → remove xs i ≡ without_first p xs
without_there p [] i h = absurd (omega (arith, h.inside))
without_there p (x ∷ xs) zero h = rw (h.there x) refl
without_there p (x ∷ xs) (suc i) h = rw (h.first x 0 (omega arith)) (ap (λ l. x ∷ l) (without_there p xs i (rest p x xs i h)))

without_none : {X : Type 0} (p : X → Bool) (xs : List X) → length xs ≤ position_or_len p xs → without_first p xs ≡ xs
without_none p [] far = refl
without_none p (x ∷ xs) far = elim (cases_Bool (p x)) [
  | inl passes ↦ let none : length (x ∷ xs) ≤ 0 = rw passes at far in absurd (omega (arith, none))
  | inr fails ↦ let more : length (x ∷ xs) ≤ 1 + position_or_len p xs = rw fails at far in rw fails (ap (λ l. x ∷ l) (without_none p xs (omega (arith, more))))
]

map-remove : {X Y : Type 0} (f : X → Y) (xs : List X) (i : ℕ) → i < length xs → map f (remove xs i) ≡ remove (map f xs) i
map-remove f [] i lt = absurd (omega (arith, lt))
map-remove f (x ∷ xs) zero lt = refl
map-remove f (x ∷ xs) (suc i) lt = ap (λ l. f x ∷ l) (map-remove f xs i (omega (arith, lt)))

take_front : {X : Type 0} (xs more : List X) (n : ℕ) → n ≤ length xs → take n (xs ++ more) ≡ take n xs
take_front xs more zero le = refl
take_front [] more (suc n) le = absurd (omega (arith, le))
take_front (x ∷ xs) more (suc n) le = ap (λ l. x ∷ l) (take_front xs more n (omega (arith, le)))

take_removed : {X : Type 0} (xs more : List X) (i n : ℕ) → i ≤ n → n < length xs → take n (remove xs i ++ more) ≡ remove (take (suc n) xs) i
take_removed [] more i n le lt = absurd (omega (arith, lt))
take_removed (x ∷ xs) more zero n le lt = take_front xs more n (omega (arith, lt))
take_removed (x ∷ xs) more (suc i) zero le lt = absurd (omega (arith, le))
take_removed (x ∷ xs) more (suc i) (suc n) le lt = ap (λ l. x ∷ l) (take_removed xs more i n (omega (arith, le)) (omega (arith, lt)))

-- one taken out of those that are open, the others moved down over it
pub removed_at : (p : Transaction → Bool) (items moved more : List Code) (count i : ℕ) (placed : Option ℕ)
    → placed ≡ position (λ (x : Code). p (transaction_of x)) (take count items) → placed ≡ Some i → count ≤ length items
    → moved ≡ remove items i ++ more
    → shown (take (count - 1) moved) ≡ without_first p (shown (take count items))
removed_at p items moved more count i placed is some few moved_is =
    let inside = inside_of p (take count items) placed i is some in
    let below : i < count = omega (arith, inside, length-take count items) in
    let size : suc (count - 1) ≡ count = omega (arith, below) in
    ap (λ (l : List Code). shown (take (count - 1) l)) moved_is
    ∙ ap shown (take_removed items more i (count - 1) (omega (arith, below)) (omega (arith, below, few)))
    ∙ ap (λ (n : ℕ). shown (remove (take n items) i)) size
    ∙ map-remove transaction_of (take count items) i inside
    ∙ without_there p (shown (take count items)) i (there p (take count items) placed i is some)

pub removed_nowhere : (p : Transaction → Bool) (xs : List Code) (placed : Option ℕ)
    → placed ≡ position (λ (x : Code). p (transaction_of x)) xs → placed ≡ None → shown xs ≡ without_first p (shown xs)
removed_nowhere p xs placed is none = sym (without_none p (shown xs) (nowhere p xs placed is none))

-- ---- a change of the one that is found

pub same_change : {X : Type 0} (p : X → Bool) (f : X → X) (xs : List X) (x y : X) → find p xs ≡ Some x → y ≡ f x → change_first p (λ _. y) xs ≡ change_first p f xs
same_change p f [] x y is e = refl
same_change {X = X} p f (a ∷ xs) x y is e = elim (cases_Bool (p a)) [
  | inl passes ↦ let here : Some a ≡ Some x = rw passes at is in let same : a ≡ x = cc here in rw passes (ap (λ (b : X). b ∷ xs) (e ∙ ap f (sym same)))
  | inr fails ↦ let later : find p xs ≡ Some x = rw fails at is in rw fails (ap (λ l. a ∷ l) (same_change p f xs x y later e))
]

-- ---- what is kept, by the transactions that are open

pub same_place : (p : Transaction → Bool) (xs ys : List Code) (placed : Option ℕ) → placed ≡ position (λ (x : Code). p (transaction_of x)) xs → xs ≡ ys
    → placed ≡ position (λ (x : Code). p (transaction_of x)) ys
same_place p xs ys placed is same = is ∙ ap (λ (l : List Code). position (λ (x : Code). p (transaction_of x)) l) same

-- an open transaction replaced by what it becomes
pub becomes : (memory : Memory) (t next : Transaction) (f : Transaction → Transaction) → transaction memory t.number ≡ Some t → next ≡ f t
    → next.number ≡ t.number → with_transaction next.number (λ _. next) memory ≡ with_transaction t.number f memory
becomes memory t next f there is same =
    ap (λ (n : ℕ). with_transaction n (λ _. next) memory) same
    ∙ ap (λ (l : List Transaction). let m : Memory = record memory { transactions = l } in m) (same_change (is_numbered t.number) f memory.transactions t next there is)

-- a set by such a change and a write of its cell
pub set_is : (old after new : Memory) (t next : Transaction) (change : Change) (lsn : ℕ) → transaction old t.number ≡ Some t
    → next ≡ record t { made = t.made ++ record { lsn = lsn; undo_next = newest_standing t; change = change; undone = false } ∷ []; last = lsn }
    → after ≡ with_transaction next.number (λ _. next) old → new ≡ record after { cells = slice_set after.cells change.cell change.new }
    → new ≡ with_set t change lsn old
set_is old after new t next change lsn there is replaced wrote =
    let made : Made = record { lsn = lsn; undo_next = newest_standing t; change = change; undone = false } in
    let f : Transaction → Transaction = λ (x : Transaction). record x { made = x.made ++ made ∷ []; last = lsn } in
    let same : next.number ≡ t.number = ap (λ (x : Transaction). x.number) is in
    wrote ∙ ap (λ (m : Memory). let n : Memory = record m { cells = slice_set m.cells change.cell change.new } in n) (replaced ∙ becomes old t next f there is same)

-- the same of a set that is taken back
pub undo_is : (old after new : Memory) (t next : Transaction) (made : Made) (lsn : ℕ) → transaction old t.number ≡ Some t
    → next ≡ with_one_undone made.lsn lsn t
    → after ≡ with_transaction next.number (λ _. next) old → new ≡ record after { cells = slice_set after.cells made.change.cell made.change.old }
    → new ≡ with_undone t made lsn old
undo_is old after new t next made lsn there is replaced wrote =
    let same : next.number ≡ t.number = ap (λ (x : Transaction). x.number) is in
    wrote ∙ ap (λ (m : Memory). let n : Memory = record m { cells = slice_set m.cells made.change.cell made.change.old } in n)
    (replaced ∙ becomes old t next (with_one_undone made.lsn lsn) there is same)
