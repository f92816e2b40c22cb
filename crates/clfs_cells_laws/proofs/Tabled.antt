-- A store's table while its transactions begin, go on, and end.
use Rattle.clfs_cells_laws.proofs.Words.{◌≡◌, ℕ, ◌+◌, ◌<◌, ◌≤◌, Bool, true, false, refl, sym, subst, ap, ◌∙◌, inl, inr, arith, List, [], ◌∷◌, ◌++◌, not, ◌||◌}
use Rattle.clfs_cells_laws.proofs.Words.{◌==◌, filter, slice_index, AllByRecursion, cases_Bool, eq-eqb, eqb-true, ne_eqb, append-nil, filter-append, null_lsn}
use Rattle.clfs_cells_laws.proofs.Words.{Action, Set, Compensation, Commit, RolledBack, TxnRecord, Memory, Transaction, holds, with_begun, after_action}
use Rattle.clfs_cells_laws.proofs.Words.{changed, committed, is_commit, is_committed, AreApart, AreExclusive, AreOwn, IsInTable, IsOwn, Keeps, changes}
use Rattle.clfs_cells_laws.proofs.Words.{done_by, is_among, numbers_of}
use Rattle.std.proofs.Common.{◌^◌}
use Rattle.clfs_cells_laws.proofs.OneOf.{all_join, all_parts}
use Rattle.clfs_cells_laws.proofs.Rows.{AreSeparate, ComeAfter, changed_then, same_committed, same_test, untouched}
use Rattle.clfs_cells_laws.proofs.Stacks.{each, with_last}
use Rattle.clfs_cells_laws.proofs.Adding.{now_of}

-- ---- numbers

among_of : (Q : Transaction → Type 0) (ts : List Transaction) (n : ℕ) → is_among (numbers_of ts) n ≡ true → AllByRecursion Q ts
    → (u : Transaction) × (u.number ≡ n) × Q u
among_of Q [] n some all = absurd (cc some)
among_of Q (t ∷ ts) n some all = elim (cases_Bool (t.number == n)) [
  | inl here ↦ (t, eqb-true t.number n here, all.0)
  | inr further ↦ let rest : is_among (numbers_of ts) n ≡ true = rw further at some in among_of Q ts n rest all.1
]

pub among_split : (before after : List Transaction) (t : Transaction) (n : ℕ)
    → is_among (numbers_of (before ++ t ∷ after)) n ≡ ((t.number == n) || is_among (numbers_of (before ++ after)) n)
among_split [] after t n = refl
among_split (u ∷ before) after t n = ap (λ (b : Bool). (u.number == n) || b) (among_split before after t n) ∙ turned (u.number == n) (t.number == n) _
  where
    turned : (a b c : Bool) → (a || (b || c)) ≡ (b || (a || c))
    turned true true c = refl
    turned true false c = refl
    turned false true c = refl
    turned false false c = refl

numbers_same : (before after : List Transaction) (t x : Transaction) → x.number ≡ t.number → numbers_of (before ++ x ∷ after) ≡ numbers_of (before ++ t ∷ after)
numbers_same [] after t x same = ap (λ (n : ℕ). n ∷ numbers_of after) same
numbers_same (u ∷ before) after t x same = ap (λ (l : List ℕ). u.number ∷ l) (numbers_same before after t x same)

among_here : (before after : List Transaction) (t : Transaction) → is_among (numbers_of (before ++ t ∷ after)) t.number ≡ true
among_here before after t = among_split before after t t.number ∙ rw (eq-eqb t.number t.number refl) refl

pub not_among : (n : ℕ) (ts : List Transaction) → AllByRecursion (λ (u : Transaction). n ≡ u.number → ⊥) ts → is_among (numbers_of ts) n ≡ false
not_among n [] none = refl
not_among n (u ∷ ts) none = rw (ne_eqb u.number n (λ e. none.0 (sym e))) (not_among n ts none.1)

-- ---- what a transaction's records change

pub own_holds : (t : Transaction) (action : Action) (cell : ℕ) → IsOwn t action → changes cell action ≡ true → holds cell t ≡ true
own_holds t (Set change) cell own is = subst (λ (c : ℕ). holds c t ≡ true) (eqb-true change.cell cell is) own
own_holds t (Compensation change) cell own is = subst (λ (c : ℕ). holds c t ≡ true) (eqb-true change.cell cell is) own
own_holds t Commit cell own is = absurd own
own_holds t RolledBack cell own is = absurd own

pub own_as : (t x : Transaction) (action : Action) → ((cell : ℕ) → holds cell t ≡ true → holds cell x ≡ true) → IsOwn t action → IsOwn x action
own_as t x (Set change) more own = more change.cell own
own_as t x (Compensation change) more own = more change.cell own
own_as t x Commit more own = absurd own
own_as t x RolledBack more own = absurd own

own_no_commit : (t : Transaction) (action : Action) → IsOwn t action → is_commit action ≡ false
own_no_commit t (Set change) own = refl
own_no_commit t (Compensation change) own = refl
own_no_commit t Commit own = absurd own
own_no_commit t RolledBack own = refl

-- an open transaction has no commit
pub never_committed : (t : Transaction) (records : List TxnRecord) → AreOwn t records → is_committed records t.number ≡ false
never_committed t [] own = refl
never_committed t (r ∷ records) own = elim (cases_Bool (r.txn == t.number)) [
  | inl its ↦ rw (its, own_no_commit t r.action (own.0 (eqb-true r.txn t.number its))) (never_committed t records own.1)
  | inr other ↦ rw other (never_committed t records own.1)
]

-- each record of an open transaction, with that transaction
pub owners : (Q : Transaction → Type 0) (ts : List Transaction) (records : List TxnRecord) → AllByRecursion (λ (u : Transaction). AreOwn u records × Q u) ts
    → AllByRecursion (λ (r : TxnRecord). is_among (numbers_of ts) r.txn ≡ true → (u : Transaction) × (u.number ≡ r.txn) × IsOwn u r.action × Q u) records
owners Q ts [] all = tt
owners Q ts (r ∷ records) all = (
  λ among. let found = among_of (λ (u : Transaction). AreOwn u (r ∷ records) × Q u) ts r.txn among all in (found.0, found.1, found.2.0.0 (sym found.1), found.2.1),
  owners Q ts records (each (λ (u : Transaction). AreOwn u (r ∷ records) × Q u) (λ (u : Transaction). AreOwn u records × Q u) ts (λ u is. (is.0.1, is.1)) all),
)

pub both : {X : Type 0} (P Q : X → Type 0) (xs : List X) → AllByRecursion P xs → AllByRecursion Q xs → AllByRecursion (λ (x : X). P x × Q x) xs
both P Q [] p q = tt
both P Q (x ∷ xs) p q = ((p.0, q.0), both P Q xs p.1 q.1)

pub filtered : (P : TxnRecord → Type 0) (p : TxnRecord → Bool) (xs : List TxnRecord) → AllByRecursion (λ (x : TxnRecord). p x ≡ true → P x) xs → AllByRecursion P (filter p xs)
filtered P p [] all = tt
filtered P p (x ∷ xs) all = elim (cases_Bool (p x)) [
  | inl passes ↦ rw passes (all.0 passes, filtered P p xs all.1)
  | inr fails ↦ rw fails (filtered P p xs all.1)
]

pub is_false : (b : Bool) → (b ≡ true → ⊥) → b ≡ false
is_false true none = absurd (none refl)
is_false false none = refl

-- none of those that do something holds the cell, so none of what they did changes it
pub free_of : (ts : List Transaction) (records : List TxnRecord) (cell : ℕ) → AllByRecursion (λ (u : Transaction). AreOwn u records × (holds cell u ≡ true → ⊥)) ts
    → AllByRecursion (λ (r : TxnRecord). changes cell r.action ≡ false) (done_by (numbers_of ts) records)
free_of ts records cell all =
    filtered (λ (r : TxnRecord). changes cell r.action ≡ false) (λ (r : TxnRecord). is_among (numbers_of ts) r.txn) records
    (each (λ (r : TxnRecord). is_among (numbers_of ts) r.txn ≡ true → (u : Transaction) × (u.number ≡ r.txn) × IsOwn u r.action × (holds cell u ≡ true → ⊥))
    (λ (r : TxnRecord). is_among (numbers_of ts) r.txn ≡ true → changes cell r.action ≡ false) records
    (λ r found among. let u = found among in is_false (changes cell r.action) (λ is. u.3 (own_holds u.0 r.action cell u.2 is)))
    (owners (λ (u : Transaction). holds cell u ≡ true → ⊥) ts records all))

-- ---- exclusive cells

pub exclusive_for : (numbers others : List ℕ) (records : List TxnRecord) → AllByRecursion (λ (r : TxnRecord). is_among others r.txn ≡ true → is_among numbers r.txn ≡ true) records
    → AreExclusive numbers records → AreExclusive others records
exclusive_for numbers others [] among is = tt
exclusive_for numbers others (r ∷ records) among is = (λ some. is.0 (among.0 some), exclusive_for numbers others records among.1 is.1)

pub exclusive_more : (numbers : List ℕ) (records : List TxnRecord) (r : TxnRecord)
    → AllByRecursion (λ (x : TxnRecord). is_among numbers x.txn ≡ true → (cell : ℕ) → changes cell x.action ≡ true → changes cell r.action ≡ true → r.txn ≡ x.txn) records
    → AreExclusive numbers records → AreExclusive numbers (records ++ r ∷ [])
exclusive_more numbers [] r own is = ((λ some cell changed. tt), tt)
exclusive_more numbers (x ∷ records) r own is = (
  λ some cell changed. with_last (λ (other : TxnRecord). changes cell other.action ≡ true → other.txn ≡ x.txn) records r (is.0 some cell changed) (own.0 some cell changed),
  exclusive_more numbers records r own.1 is.1,
)

each_cell : (a : Action) (P : ℕ → TxnRecord → Type 0) (xs : List TxnRecord) → ((cell : ℕ) → changes cell a ≡ true → AllByRecursion (P cell) xs)
    → AllByRecursion (λ (x : TxnRecord). (cell : ℕ) → changes cell a ≡ true → P cell x) xs
each_cell a P [] all = tt
each_cell a P (x ∷ xs) all = ((λ cell is. (all cell is).0), each_cell a P xs (λ cell is. (all cell is).1))

pub come_after : (numbers : List ℕ) (p q : TxnRecord → Bool) → ((r : TxnRecord) → q r ≡ true → is_among numbers r.txn ≡ true)
    → ((r x : TxnRecord) → q r ≡ true → p x ≡ true → x.txn ≡ r.txn → ⊥) → (records : List TxnRecord) → AreExclusive numbers records → ComeAfter p q records
come_after numbers p q among apart [] is = tt
come_after numbers p q among apart (r ∷ records) is = (
  λ passes.
      each (λ (x : TxnRecord). (cell : ℕ) → changes cell r.action ≡ true → changes cell x.action ≡ true → x.txn ≡ r.txn)
      (λ (x : TxnRecord). p x ≡ true → AreSeparate r.action x.action) records
      (λ x own first. record { none = λ cell a b. apart r x passes first (own cell a b) })
      (each_cell r.action (λ cell x. changes cell x.action ≡ true → x.txn ≡ r.txn) records (is.0 (among r passes))),
  come_after numbers p q among apart records is.1,
)

-- ---- a record of an open transaction

done_more : (numbers : List ℕ) (records : List TxnRecord) (r : TxnRecord) → is_among numbers r.txn ≡ true → done_by numbers (records ++ r ∷ []) ≡ done_by numbers records ++ r ∷ []
done_more numbers records r among =
    let last : done_by numbers (r ∷ []) ≡ r ∷ [] = rw among refl in
    filter-append (λ (x : TxnRecord). is_among numbers x.txn) records (r ∷ []) ∙ ap (λ (l : List TxnRecord). done_by numbers records ++ l) last

pub done_same : (numbers : List ℕ) (records : List TxnRecord) (r : TxnRecord) → is_among numbers r.txn ≡ false → done_by numbers (records ++ r ∷ []) ≡ done_by numbers records
done_same numbers records r not =
    let last : done_by numbers (r ∷ []) ≡ [] = rw not refl in
    filter-append (λ (x : TxnRecord). is_among numbers x.txn) records (r ∷ []) ∙ ap (λ (l : List TxnRecord). done_by numbers records ++ l) last
    ∙ append-nil (done_by numbers records)

module _ (first : List ℕ) (records : List TxnRecord) (memory : Memory) (keeps : Keeps first records memory) (before after : List Transaction) (t : Transaction)
    (is : memory.transactions ≡ before ++ t ∷ after) where
  abbrev cells_are : List ℕ
  cells_are = changed first (committed records)

  pub all_in : AllByRecursion (IsInTable (changed first (committed records)) records) (before ++ after) × IsInTable (changed first (committed records)) records t
  all_in = all_parts (IsInTable (changed first (committed records)) records) before after t
      (subst (AllByRecursion (IsInTable (changed first (committed records)) records)) is keeps.open_ones)

  numbers_are : numbers_of memory.transactions ≡ numbers_of (before ++ t ∷ after)
  numbers_are = ap numbers_of is

  -- a record of the transaction joins the others
  pub row_added : (x : Transaction) (r : TxnRecord) (transactions : List Transaction) (cells : List ℕ) → transactions ≡ before ++ x ∷ after → x.number ≡ t.number
      → r.txn ≡ t.number → IsOwn x r.action → cells ≡ after_action memory.cells r.action → t.number ≤ memory.last
      → ((cell : ℕ) → slice_index cells cell < 2 ^ 64) → AllByRecursion (AreApart x) (before ++ after)
      → IsInTable (changed first (committed records)) (records ++ r ∷ []) x → Keeps first (records ++ r ∷ []) (now_of memory transactions cells)
  unfolding all_in numbers_are
  row_added x r transactions cells are named its own cells_is low values apart in_x =
      let T : List ℕ = changed first (committed records) in
      let N : List ℕ = numbers_of memory.transactions in
      let same_numbers : numbers_of transactions ≡ N = ap numbers_of are ∙ numbers_same before after t x named ∙ sym numbers_are in
      let among : is_among N r.txn ≡ true = ap (λ (l : List ℕ). is_among l r.txn) numbers_are ∙ ap (is_among (numbers_of (before ++ t ∷ after))) its ∙ among_here before after t in
      let never : is_committed records r.txn ≡ false = ap (is_committed records) its ∙ never_committed t records all_in.1.own in
      let same : committed (records ++ r ∷ []) ≡ committed records = same_committed records r (own_no_commit x r.action own) never in
      let table : changed first (committed (records ++ r ∷ [])) ≡ T = ap (changed first) same in
      record {
        cells = cells_is ∙ ap (λ (l : List ℕ). after_action l r.action) keeps.cells ∙ sym (changed_then T (done_by N records) (r ∷ []))
            ∙ ap (changed T) (sym (done_more N records r among)) ∙ ap (λ (l : List ℕ). changed T (done_by l (records ++ r ∷ []))) (sym same_numbers)
            ∙ ap (λ (l : List ℕ). changed l (done_by (numbers_of transactions) (records ++ r ∷ []))) (sym table);
        open_ones = subst (λ (l : List ℕ). AllByRecursion (IsInTable l (records ++ r ∷ [])) transactions) (sym table)
            (subst (AllByRecursion (IsInTable T (records ++ r ∷ []))) (sym are) (all_join (IsInTable T (records ++ r ∷ [])) before after x
            (others (before ++ after) apart all_in.0) in_x));
        exclusive = subst (λ (l : List ℕ). AreExclusive l (records ++ r ∷ [])) (sym same_numbers) (exclusive_more N records r rivals keeps.exclusive);
        below = with_last (λ (y : TxnRecord). y.txn ≤ memory.last) records r keeps.below (omega (arith, its, low));
        last = keeps.last;
        values = values;
      }
    where
      others : (us : List Transaction) → AllByRecursion (AreApart x) us → AllByRecursion (IsInTable (changed first (committed records)) records) us
          → AllByRecursion (IsInTable (changed first (committed records)) (records ++ r ∷ [])) us
      others [] apart_us in_us = tt
      others (u ∷ us) apart_us in_us = (
        record {
          some = in_us.0.some;
          before = in_us.0.before;
          own = with_last (λ (y : TxnRecord). y.txn ≡ u.number → IsOwn u y.action) records r in_us.0.own (λ e. absurd (apart_us.0.numbers (named ∙ sym its ∙ e)));
          fits = in_us.0.fits;
        },
        others us apart_us.1 in_us.1,
      )

      Rival : Transaction → Type 0
      Rival u = (cell : ℕ) → holds cell u ≡ true → holds cell x ≡ true → u.number ≡ t.number

      all_rivals : AllByRecursion (λ (u : Transaction). AreOwn u records × ((cell : ℕ) → holds cell u ≡ true → holds cell x ≡ true → u.number ≡ t.number)) memory.transactions
      all_rivals =
          subst (AllByRecursion (λ (u : Transaction). AreOwn u records × ((cell : ℕ) → holds cell u ≡ true → holds cell x ≡ true → u.number ≡ t.number))) (sym is)
          (all_join (λ (u : Transaction). AreOwn u records × ((cell : ℕ) → holds cell u ≡ true → holds cell x ≡ true → u.number ≡ t.number)) before after t
          (both (λ (u : Transaction). AreOwn u records) (λ (u : Transaction). (cell : ℕ) → holds cell u ≡ true → holds cell x ≡ true → u.number ≡ t.number) (before ++ after)
          (each (IsInTable (changed first (committed records)) records) (λ (u : Transaction). AreOwn u records) (before ++ after) (λ u in_u. in_u.own) all_in.0)
          (each (AreApart x) (λ (u : Transaction). (cell : ℕ) → holds cell u ≡ true → holds cell x ≡ true → u.number ≡ t.number) (before ++ after)
          (λ u apart_u cell a b. absurd (apart_u.cells cell b a)) apart))
          (all_in.1.own, λ cell a b. refl))

      rivals : AllByRecursion (λ (y : TxnRecord). is_among (numbers_of memory.transactions) y.txn ≡ true → (cell : ℕ) → changes cell y.action ≡ true
          → changes cell r.action ≡ true → r.txn ≡ y.txn) records
      rivals =
          each (λ (y : TxnRecord). is_among (numbers_of memory.transactions) y.txn ≡ true
          → (u : Transaction) × (u.number ≡ y.txn) × IsOwn u y.action × ((cell : ℕ) → holds cell u ≡ true → holds cell x ≡ true → u.number ≡ t.number))
          (λ (y : TxnRecord). is_among (numbers_of memory.transactions) y.txn ≡ true → (cell : ℕ) → changes cell y.action ≡ true
          → changes cell r.action ≡ true → r.txn ≡ y.txn) records
          (λ y found among cell a b.
          let u = found among in
          its ∙ sym (u.3 cell (own_holds u.0 y.action cell u.2 a) (own_holds x r.action cell own b)) ∙ u.1)
          (owners (λ (u : Transaction). (cell : ℕ) → holds cell u ≡ true → holds cell x ≡ true → u.number ≡ t.number) memory.transactions records all_rivals)

-- a cell of which no open transaction made a set has the table's value
pub free_cell : (first : List ℕ) (records : List TxnRecord) (memory : Memory) → Keeps first records memory → (cell : ℕ)
    → AllByRecursion (λ (u : Transaction). holds cell u ≡ true → ⊥) memory.transactions
    → slice_index memory.cells cell ≡ slice_index (changed first (committed records)) cell
free_cell first records memory keeps cell free =
    ap (λ (l : List ℕ). slice_index l cell) keeps.cells
    ∙ untouched (done_by (numbers_of memory.transactions) records) (changed first (committed records)) cell
    (free_of memory.transactions records cell (both (λ (u : Transaction). AreOwn u records) (λ (u : Transaction). holds cell u ≡ true → ⊥) memory.transactions
    (each (IsInTable (changed first (committed records)) records) (λ (u : Transaction). AreOwn u records) memory.transactions (λ u in_u. in_u.own) keeps.open_ones) free))

-- ---- a transaction begins

pub begun_keeps : (first : List ℕ) (records : List TxnRecord) (memory : Memory) (changes_most : ℕ) → Keeps first records memory → memory.last + 1 < 2 ^ 32
    → Keeps first records (with_begun changes_most memory)
begun_keeps first records memory changes_most keeps room =
    let T : List ℕ = changed first (committed records) in
    let ts : List Transaction = memory.transactions in
    let new : Transaction = record { number = memory.last + 1; changes = changes_most; made = []; last = null_lsn } in
    let among_same : (n : ℕ) → n ≤ memory.last → is_among (numbers_of (ts ++ new ∷ [])) n ≡ is_among (numbers_of ts) n
    = λ n low.
    among_split ts [] new n
    ∙ ap (λ (b : Bool). b || is_among (numbers_of (ts ++ [])) n) (ne_eqb (memory.last + 1) n (λ e. omega (arith, e, low)))
    ∙ ap (λ (l : List Transaction). is_among (numbers_of l) n) (append-nil ts) in
    let same_done : done_by (numbers_of ts) records ≡ done_by (numbers_of (ts ++ new ∷ [])) records
    = sym (same_test (λ (r : TxnRecord). is_among (numbers_of (ts ++ new ∷ [])) r.txn) (λ (r : TxnRecord). is_among (numbers_of ts) r.txn) records
    (each (λ (r : TxnRecord). r.txn ≤ memory.last) (λ (r : TxnRecord). is_among (numbers_of (ts ++ new ∷ [])) r.txn ≡ is_among (numbers_of ts) r.txn) records
    (λ r low. among_same r.txn low) keeps.below)) in
    record {
      cells = keeps.cells ∙ ap (changed T) same_done;
      open_ones = with_last (IsInTable T records) ts new keeps.open_ones (record {
        some = omega arith;
        before = λ cell held. absurd (cc held);
        own = each (λ (r : TxnRecord). r.txn ≤ memory.last) (λ (r : TxnRecord). r.txn ≡ memory.last + 1 → IsOwn new r.action) records (λ r low e. absurd (omega (arith, low, e)))
            keeps.below;
        fits = tt;
      });
      exclusive = exclusive_for (numbers_of ts) (numbers_of (ts ++ new ∷ [])) records
          (each (λ (r : TxnRecord). r.txn ≤ memory.last)
          (λ (r : TxnRecord). is_among (numbers_of (ts ++ new ∷ [])) r.txn ≡ true → is_among (numbers_of ts) r.txn ≡ true) records
          (λ r low some. sym (among_same r.txn low) ∙ some) keeps.below)
          keeps.exclusive;
      below = each (λ (r : TxnRecord). r.txn ≤ memory.last) (λ (r : TxnRecord). r.txn ≤ memory.last + 1) records (λ r low. omega (arith, low)) keeps.below;
      last = room;
      values = keeps.values;
    }
