-- The sets of a transaction, one on the other: the newest that stands is found by its LSN, and taking it back leaves those below it.
use Rattle.clfs_cells_laws.proofs.Words.{◌≡◌, ℕ, suc, ◌+◌, ◌<◌, Bool, true, false, refl, sym, subst, ap, ◌∙◌, inl, inr, arith, List, [], ◌∷◌, ◌++◌, length}
use Rattle.clfs_cells_laws.proofs.Words.{Some, not, find, filter, reverse, AllByRecursion, list_any, cases_Bool, eq-eqb, ne_eqb, filter-append, change_first}
use Rattle.clfs_cells_laws.proofs.Words.{Made, Transaction, is_at, standing, AreStacked, is_of_cell, value_before, value_by}
use Rattle.std.proofs.lemmas.Grind.{reverse_onto}
use Rattle.std.proofs.lemmas.List.{reverse-reverse, reverse-append, length-reverse}
use Rattle.clfs_cells_laws.specs.Stores.{Rise}

abbrev pub stands : Made → Bool
stands made = not made.undone

abbrev pub undone : Made → Made
undone made = record made { undone = true }

abbrev pub taken_back : ℕ → List Made → List Made
taken_back lsn made = change_first (is_at lsn) undone made

-- ---- lists

no_end : {X : Type 0} (xs : List X) (x : X) → [] ≡ xs ++ x ∷ [] → ⊥
no_end [] x is = cc is
no_end (y ∷ xs) x is = cc is

pub first_passes : {X : Type 0} (p : X → Bool) (xs : List X) (x : X) → find p xs ≡ Some x → p x ≡ true
first_passes p [] x e = absurd (cc e)
first_passes {X = X} p (a ∷ xs) x e = elim (cases_Bool (p a)) [
  | inl passes ↦ let here : Some a ≡ Some x = rw passes at e in let same : a ≡ x = cc here in ap p (sym same) ∙ passes
  | inr fails ↦ let later : find p xs ≡ Some x = rw fails at e in first_passes p xs x later
]

pub first_has : {X : Type 0} (P : X → Type 0) (p : X → Bool) (xs : List X) (x : X) → find p xs ≡ Some x → AllByRecursion P xs → P x
first_has P p [] x e all = absurd (cc e)
first_has {X = X} P p (a ∷ xs) x e all = elim (cases_Bool (p a)) [
  | inl passes ↦ let here : Some a ≡ Some x = rw passes at e in let same : a ≡ x = cc here in subst P same all.0
  | inr fails ↦ let later : find p xs ≡ Some x = rw fails at e in first_has P p xs x later all.1
]

pub each : {X : Type 0} (P Q : X → Type 0) (xs : List X) → ((x : X) → P x → Q x) → AllByRecursion P xs → AllByRecursion Q xs
each P Q [] to all = tt
each P Q (x ∷ xs) to all = (to x all.0, each P Q xs to all.1)

pub with_last : {X : Type 0} (P : X → Type 0) (xs : List X) (x : X) → AllByRecursion P xs → P x → AllByRecursion P (xs ++ x ∷ [])
with_last P [] x all is = (is, tt)
with_last P (y ∷ xs) x all is = (all.0, with_last P xs x all.1 is)

-- the first that passes changed
pub first_changed : {X : Type 0} (P : X → Type 0) (p : X → Bool) (change : X → X) (xs : List X) → ((x : X) → P x → P (change x))
    → AllByRecursion P xs → AllByRecursion P (change_first p change xs)
first_changed P p change [] to all = tt
first_changed P p change (x ∷ xs) to all = elim (cases_Bool (p x)) [
  | inl passes ↦ rw passes (to x all.0, all.1)
  | inr fails ↦ rw fails (all.0, first_changed P p change xs to all.1)
]

-- ---- the newest set that stands

top_rest : (x m : Made) (xs made : List Made) → stands x ≡ false → (find (is_at m.lsn) made ≡ Some m) × (filter stands (taken_back m.lsn made) ≡ xs)
    → AllByRecursion (λ (other : Made). x.lsn < other.lsn) made
    → (find (is_at m.lsn) (x ∷ made) ≡ Some m) × (filter stands (taken_back m.lsn (x ∷ made)) ≡ xs)
top_rest x m xs made falls more below =
    let less : x.lsn < m.lsn = first_has (λ (o : Made). x.lsn < o.lsn) (is_at m.lsn) made m more.0 below in
    let other : is_at m.lsn x ≡ false = ne_eqb x.lsn m.lsn (λ e. omega (arith, e, less)) in
    (rw other more.0, rw other (rw falls more.1))

-- it is found by its LSN, and those below it are left where it is taken back
pub top : (made xs : List Made) (m : Made) → Rise made → filter stands made ≡ xs ++ m ∷ []
    → (find (is_at m.lsn) made ≡ Some m) × (filter stands (taken_back m.lsn made) ≡ xs)
top [] xs m rise is = absurd (no_end xs m is)
top (x ∷ made) [] m rise is = elim (cases_Bool (stands x)) [
  | inl stays ↦
      let these : x ∷ filter stands made ≡ m ∷ [] = rw stays at is in
      let same : x ≡ m = cc these in
      let none : filter stands made ≡ [] = cc these in
      let here : is_at m.lsn x ≡ true = eq-eqb x.lsn m.lsn (ap (λ (o : Made). o.lsn) same) in
      (rw here (ap (λ (o : Made). Some o) same), rw here none)
  | inr falls ↦ let rest : filter stands made ≡ m ∷ [] = rw falls at is in top_rest x m [] made falls (top made [] m rise.1 rest) rise.0
]
top (x ∷ made) (y ∷ ys) m rise is = elim (cases_Bool (stands x)) [
  | inl stays ↦
      let these : x ∷ filter stands made ≡ y ∷ (ys ++ m ∷ []) = rw stays at is in
      let same : x ≡ y = cc these in
      let rest : filter stands made ≡ ys ++ m ∷ [] = cc these in
      let more = top made ys m rise.1 rest in
      let less : x.lsn < m.lsn = first_has (λ (o : Made). x.lsn < o.lsn) (is_at m.lsn) made m more.0 rise.0 in
      let other : is_at m.lsn x ≡ false = ne_eqb x.lsn m.lsn (λ e. omega (arith, e, less)) in
      (rw other more.0, rw other (rw stays (ap (λ (o : Made). o ∷ filter stands (taken_back m.lsn made)) same ∙ ap (λ (l : List Made). y ∷ l) more.1)))
  | inr falls ↦ let rest : filter stands made ≡ y ∷ (ys ++ m ∷ []) = rw falls at is in top_rest x m (y ∷ ys) made falls (top made (y ∷ ys) m rise.1 rest) rise.0
]

-- by the sets that stand, the newest first
stand_of : (t : Transaction) (m : Made) (older : List Made) → standing t ≡ m ∷ older → filter stands t.made ≡ reverse older ++ m ∷ []
stand_of t m older is = sym (reverse-reverse (filter stands t.made)) ∙ ap reverse is ∙ reverse_onto older m []

pub found_newest : (t : Transaction) (m : Made) (older : List Made) → Rise t.made → standing t ≡ m ∷ older → find (is_at m.lsn) t.made ≡ Some m
found_newest t m older rise is = (top t.made (reverse older) m rise (stand_of t m older is)).0

pub left_standing : (t : Transaction) (m : Made) (older : List Made) → Rise t.made → standing t ≡ m ∷ older
    → reverse (filter stands (taken_back m.lsn t.made)) ≡ older
left_standing t m older rise is = ap reverse (top t.made (reverse older) m rise (stand_of t m older is)).1 ∙ reverse-reverse older

-- ---- what stays where a set is taken back

pub taken_length : (lsn : ℕ) (made : List Made) → length (taken_back lsn made) ≡ length made
taken_length lsn [] = refl
taken_length lsn (x ∷ made) = elim (cases_Bool (is_at lsn x)) [
  | inl here ↦ rw here refl
  | inr there ↦ rw there (ap suc (taken_length lsn made))
]

still_below : (low lsn : ℕ) (made : List Made) → AllByRecursion (λ (o : Made). low < o.lsn) made → AllByRecursion (λ (o : Made). low < o.lsn) (taken_back lsn made)
still_below low lsn made all = first_changed (λ (o : Made). low < o.lsn) (is_at lsn) undone made (λ x is. is) all

pub taken_rise : (lsn : ℕ) (made : List Made) → Rise made → Rise (taken_back lsn made)
taken_rise lsn [] rise = tt
taken_rise lsn (x ∷ made) rise = elim (cases_Bool (is_at lsn x)) [
  | inl here ↦ rw here (rise.0, rise.1)
  | inr there ↦ rw there (still_below x.lsn lsn made rise.0, taken_rise lsn made rise.1)
]

pub taken_before : (lsn cell : ℕ) (made : List Made) → value_before (taken_back lsn made) cell ≡ value_before made cell
taken_before lsn cell [] = refl
taken_before lsn cell (x ∷ made) = elim (cases_Bool (is_at lsn x)) [
  | inl here ↦ rw here (elim (cases_Bool (is_of_cell cell x)) [ inl own ↦ rw own refl | inr other ↦ rw other refl ])
  | inr there ↦ rw there (elim (cases_Bool (is_of_cell cell x)) [ inl own ↦ rw own refl | inr other ↦ rw other (taken_before lsn cell made) ])
]

pub taken_holds : (lsn cell : ℕ) (made : List Made) → list_any (is_of_cell cell) (taken_back lsn made) ≡ list_any (is_of_cell cell) made
taken_holds lsn cell [] = refl
taken_holds lsn cell (x ∷ made) = elim (cases_Bool (is_at lsn x)) [
  | inl here ↦ rw here (elim (cases_Bool (is_of_cell cell x)) [ inl own ↦ rw own refl | inr other ↦ rw other refl ])
  | inr there ↦ rw there (elim (cases_Bool (is_of_cell cell x)) [ inl own ↦ rw own refl | inr other ↦ rw other (taken_holds lsn cell made) ])
]

-- the sets that stand and those that were taken back are all of them
pub all_of_them : (made : List Made) → length (filter stands made) + length (filter (λ (o : Made). o.undone) made) ≡ length made
all_of_them [] = refl
all_of_them (x ∷ made) = elim (cases_Bool x.undone) [
  | inl gone ↦ let more = all_of_them made in rw gone (omega (arith, more))
  | inr stays ↦ let more = all_of_them made in rw stays (omega (arith, more))
]

pub standing_length : (t : Transaction) → length (standing t) + length (filter (λ (o : Made). o.undone) t.made) ≡ length t.made
standing_length t = let all = all_of_them t.made in let turned = length-reverse (filter stands t.made) in omega (arith, all, turned)

-- ---- a further set

pub more_rise : (made : List Made) (new : Made) → Rise made → AllByRecursion (λ (o : Made). o.lsn < new.lsn) made → Rise (made ++ new ∷ [])
more_rise [] new rise below = (tt, tt)
more_rise (x ∷ made) new rise below = (with_last (λ (o : Made). x.lsn < o.lsn) made new rise.0 below.0, more_rise made new rise.1 below.1)

pub more_standing : (t : Transaction) (new : Made) (made : List Made) → new.undone ≡ false → made ≡ t.made ++ new ∷ [] → reverse (filter stands made) ≡ new ∷ standing t
more_standing t new made stays is =
    let one : filter stands (new ∷ []) ≡ new ∷ [] = rw (ap not stays) refl in
    ap (λ (l : List Made). reverse (filter stands l)) is
    ∙ ap reverse (filter-append stands t.made (new ∷ []))
    ∙ ap (λ (l : List Made). reverse (filter stands t.made ++ l)) one
    ∙ reverse-append (filter stands t.made) (new ∷ [])

-- the value from before the first set of a cell that a set was made of
pub more_before : (made : List Made) (new : Made) (cell : ℕ) → list_any (is_of_cell cell) made ≡ true → value_before (made ++ new ∷ []) cell ≡ value_before made cell
more_before [] new cell some = absurd (cc some)
more_before (x ∷ made) new cell some = elim (cases_Bool (is_of_cell cell x)) [
  | inl own ↦ rw own refl
  | inr other ↦ let later : list_any (is_of_cell cell) made ≡ true = rw other at some in rw other (more_before made new cell later)
]

pub first_before : (made : List Made) (new : Made) → list_any (is_of_cell new.change.cell) made ≡ false → value_before (made ++ new ∷ []) new.change.cell ≡ new.change.old
first_before [] new none = rw (eq-eqb new.change.cell new.change.cell refl) refl
first_before (x ∷ made) new none = elim (cases_Bool (is_of_cell new.change.cell x)) [
  | inl own ↦ let some : true ≡ false = rw own at none in absurd (cc some)
  | inr other ↦ let later : list_any (is_of_cell new.change.cell) made ≡ false = rw other at none in rw other (first_before made new later)
]

-- the value by sets none of which is of the cell
pub none_by : (before cell : ℕ) (xs : List Made) → AllByRecursion (λ (o : Made). is_of_cell cell o ≡ false) xs → value_by before cell xs ≡ before
none_by before cell [] none = refl
none_by before cell (x ∷ xs) none = rw none.0 (none_by before cell xs none.1)

-- sets that stand are among those that were made
passing_has : {X : Type 0} (P : X → Type 0) (p : X → Bool) (xs : List X) → AllByRecursion P xs → AllByRecursion P (filter p xs)
passing_has P p [] all = tt
passing_has P p (x ∷ xs) all = elim (cases_Bool (p x)) [
  | inl passes ↦ rw passes (all.0, passing_has P p xs all.1)
  | inr fails ↦ rw fails (passing_has P p xs all.1)
]

turned_has : {X : Type 0} (P : X → Type 0) (xs : List X) → AllByRecursion P xs → AllByRecursion P (reverse xs)
turned_has P [] all = tt
turned_has P (x ∷ xs) all = subst (AllByRecursion P) (sym (reverse_onto xs x [])) (with_last P (reverse xs) x (turned_has P xs all.1) all.0)

pub standing_has : (P : Made → Type 0) (t : Transaction) → AllByRecursion P t.made → AllByRecursion P (standing t)
standing_has P t all = turned_has P (filter stands t.made) (passing_has P stands t.made all)

-- each set is of a cell of which a set was made
held_more : (x : Made) (made others : List Made) → AllByRecursion (λ (o : Made). list_any (is_of_cell o.change.cell) made ≡ true) others
    → AllByRecursion (λ (o : Made). list_any (is_of_cell o.change.cell) (x ∷ made) ≡ true) others
held_more x made others all =
    each (λ (o : Made). list_any (is_of_cell o.change.cell) made ≡ true) (λ (o : Made). list_any (is_of_cell o.change.cell) (x ∷ made) ≡ true) others
    (λ o is. elim (cases_Bool (is_of_cell o.change.cell x)) [ inl own ↦ rw own refl | inr other ↦ rw other is ]) all

pub each_held : (made : List Made) → AllByRecursion (λ (o : Made). list_any (is_of_cell o.change.cell) made ≡ true) made
each_held [] = tt
each_held (x ∷ made) = (rw (eq-eqb x.change.cell x.change.cell refl) refl, held_more x made made (each_held made))

-- none is of a cell of which no set was made
pub none_held : (cell : ℕ) (made : List Made) → list_any (is_of_cell cell) made ≡ false → AllByRecursion (λ (o : Made). is_of_cell cell o ≡ false) made
none_held cell [] none = tt
none_held cell (x ∷ made) none = elim (cases_Bool (is_of_cell cell x)) [
  | inl own ↦ let some : true ≡ false = rw own at none in absurd (cc some)
  | inr other ↦ let later : list_any (is_of_cell cell) made ≡ false = rw other at none in (other, none_held cell made later)
]

-- ---- stacks

-- they depend on what was before alone where a set is
pub stacked_as : (before other : ℕ → ℕ) (xs : List Made) → AllByRecursion (λ (o : Made). before o.change.cell ≡ other o.change.cell) xs → AreStacked before xs
    → AreStacked other xs
stacked_as before other [] same is = tt
stacked_as before other (x ∷ xs) same is =
    (is.0, is.1 ∙ ap (λ (v : ℕ). value_by v x.change.cell xs) same.0, stacked_as before other xs same.1 is.2)
