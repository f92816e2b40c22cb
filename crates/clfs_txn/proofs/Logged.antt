-- That the log has the sets of the open transactions: kept by all that a store does, so that undoing comes to sets of the transaction alone.
use Rattle.clfs_txn.proofs.Words.{◌≡◌, ◌⊎◌, inl, inr, ℕ, ◌+◌, ◌-◌, ◌<◌, Bool, true, false, refl, sym, ap, ◌∙◌, subst, List, [], ◌∷◌, ◌++◌, length, arith}
use Rattle.clfs_txn.proofs.Words.{IfOk, IsSome, All, find, not, ◌==◌, ◌&&◌, AllByRecursion, option_map_or, cases_Bool, eqb-true, eq-eqb, recursion_from_All}
use Rattle.clfs_txn.proofs.Words.{null_lsn, UndoNext, LogEntry, State, live, live_at, next, change_first, IsValid, IsRecord, Made, Change, Memory}
use Rattle.clfs_txn.proofs.Words.{Transaction, is_at, is_numbered, newest_standing, standing, transaction, with_begun, with_set, with_undone}
use Rattle.clfs_txn.proofs.Words.{without_transaction, AreLogged, Refusal, happened_of, Steps, HasLink, IsAt, IsSet}
use Rattle.std.specs.Prelude.{Option, Some, None, Result, Ok, Err, filter, reverse, slice_get}
use Rattle.std.specs.Option.{option_and_then}
use Rattle.std.proofs.lemmas.List.{get_or-reverse, length-reverse}
use Rattle.std.proofs.lemmas.List.Elements.{All-from_recursion}
use Rattle.clfs_model.specs.Live.{is_live}
use Rattle.clfs_model.specs.Reading.{entry_at}
use Rattle.clfs_cells.specs.Stored.{with_one_undone, without_first}
use Rattle.clfs_txn.specs.Kept.{IsLogged}
use Rattle.clfs_model.specs.declared.call.Call.TheVariants as calls
use Rattle.clfs_model.specs.declared.reply.Reply.TheVariants as replies
use Rattle.clfs_txn.proofs.Appended.{still_links}
use Rattle.clfs_txn.proofs.Cursors.{found_has, found_passes, next_there}

-- ---- what is so of all elements of a list

weaker : {X : Type 0} (P Q : X → Type 0) (xs : List X) → ((x : X) → P x → Q x) → AllByRecursion P xs → AllByRecursion Q xs
weaker P Q [] to all = tt
weaker P Q (x ∷ xs) to all = (to x all.0, weaker P Q xs to all.1)

with_last : {X : Type 0} (P : X → Type 0) (xs : List X) (x : X) → AllByRecursion P xs → P x → AllByRecursion P (xs ++ x ∷ [])
with_last P [] x all is = (is, tt)
with_last P (y ∷ xs) x all is = (all.0, with_last P xs x all.1 is)

of_passing : {X : Type 0} (P : X → Type 0) (p : X → Bool) (xs : List X) → AllByRecursion P xs → AllByRecursion P (filter p xs)
of_passing P p [] all = tt
of_passing P p (x ∷ xs) all = elim (cases_Bool (p x)) [
  | inl passes ↦ rw passes (all.0, of_passing P p xs all.1)
  | inr fails ↦ rw fails (of_passing P p xs all.1)
]

-- the first that passes changed
first_changed : {X : Type 0} (P : X → Type 0) (p : X → Bool) (change : X → X) (xs : List X) → ((x : X) → find p xs ≡ Some x → P x → P (change x))
    → AllByRecursion P xs → AllByRecursion P (change_first p change xs)
first_changed P p change [] to all = tt
first_changed P p change (x ∷ xs) to all = elim (cases_Bool (p x)) [
  | inl passes ↦ let here : find p (x ∷ xs) ≡ Some x = rw passes refl in rw passes (to x here all.0, all.1)
  | inr fails ↦
      rw fails (all.0, first_changed P p change xs (λ y is. let later : find p (x ∷ xs) ≡ Some y = rw fails is in to y later) all.1)
]

first_gone : {X : Type 0} (P : X → Type 0) (p : X → Bool) (xs : List X) → AllByRecursion P xs → AllByRecursion P (without_first p xs)
first_gone P p [] all = tt
first_gone P p (x ∷ xs) all = elim (cases_Bool (p x)) [ inl passes ↦ rw passes all.1 | inr fails ↦ rw fails (all.0, first_gone P p xs all.1) ]

reversed : {X : Type 0} (P : X → Type 0) (xs : List X) → All P xs → All P (reverse xs)
reversed P xs all k d lt =
    let long = length-reverse xs in
    subst P (sym (get_or-reverse xs k d (omega (arith, lt, long)))) (all (length xs - 1 - k) d (omega (arith, lt, long)))

-- ---- sets of a transaction

-- a further set hides none
found_still : (p : Made → Bool) (xs ys : List Made) → IsSome (find p xs) → IsSome (find p (xs ++ ys))
found_still p [] ys is = absurd (cc is)
found_still p (x ∷ xs) ys is = elim (cases_Bool (p x)) [
  | inl passes ↦ rw passes refl
  | inr fails ↦ let later : IsSome (find p xs) = rw fails at is in rw fails (found_still p xs ys later)
]

abbrev undone : Made → Made
undone made = record made { undone = true }

-- one that is taken back is there as before
found_undone : (lsn other : ℕ) (xs : List Made) → IsSome (find (is_at lsn) xs) → IsSome (find (is_at lsn) (change_first (is_at other) undone xs))
found_undone lsn other [] is = absurd (cc is)
found_undone lsn other (x ∷ xs) is = elim (cases_Bool (is_at other x)) [
  | inl passes ↦ rw passes (elim (cases_Bool (is_at lsn x)) [
    | inl here ↦ rw here refl
    | inr there ↦ let later : IsSome (find (is_at lsn) xs) = rw there at is in rw there later
  ])
  | inr fails ↦ rw fails (elim (cases_Bool (is_at lsn x)) [
    | inl here ↦ rw here refl
    | inr there ↦ let later : IsSome (find (is_at lsn) xs) = rw there at is in rw there (found_undone lsn other xs later)
  ])
]

-- each is found by its LSN
each_found : (xs : List Made) → AllByRecursion (λ (made : Made). IsSome (find (is_at made.lsn) xs)) xs
each_found [] = tt
each_found (x ∷ xs) = (
  rw (eq-eqb x.lsn x.lsn refl) refl,
  weaker (λ (made : Made). IsSome (find (is_at made.lsn) xs)) (λ (made : Made). IsSome (find (is_at made.lsn) (x ∷ xs))) xs
      (λ made is. elim (cases_Bool (is_at made.lsn x)) [ inl here ↦ rw here refl | inr there ↦ rw there is ]) (each_found xs),
)

standing_found : (t : Transaction) → All (λ (made : Made). IsSome (find (is_at made.lsn) t.made)) (standing t)
standing_found t =
    let P : Made → Type 0 = λ made. IsSome (find (is_at made.lsn) t.made) in
    let stand : List Made = filter (λ (made : Made). not made.undone) t.made in
    reversed P stand (All-from_recursion P stand (of_passing P (λ (made : Made). not made.undone) t.made (each_found t.made)))

abbrev first_lsn : List Made → ℕ
first_lsn xs = option_map_or (λ (made : Made). made.lsn) (slice_get xs 0) null_lsn

first_found : (made xs : List Made) → All (λ (m : Made). IsSome (find (is_at m.lsn) made)) xs → (first_lsn xs ≡ null_lsn) ⊎ IsSome (find (is_at (first_lsn xs)) made)
first_found made [] all = inl refl
first_found made (x ∷ xs) all = inr (all 0 x (omega arith))

-- the newest set that stands is one of them, where there is one
newest_found : (t : Transaction) → (newest_standing t ≡ null_lsn) ⊎ IsSome (find (is_at (newest_standing t)) t.made)
newest_found t = first_found t.made (standing t) (standing_found t)

some_found : (made xs : List Made) → All (λ (m : Made). IsSome (find (is_at m.lsn) made)) xs → 0 < length xs → IsSome (find (is_at (first_lsn xs)) made)
some_found made [] all some = absurd (omega (arith, some))
some_found made (x ∷ xs) all some = all 0 x (omega arith)

value_of : {X : Type 0} (found : Option X) → IsSome found → (x : X) × (found ≡ Some x)
value_of None is = absurd (cc is)
value_of (Some x) is = (x, refl)

pub newest_is_set : (memory : Memory) (number : ℕ) (t : Transaction) → transaction memory number ≡ Some t → 0 < length (standing t) → IsSet memory number (newest_standing t)
newest_is_set memory number t there some =
    let found = value_of (find (is_at (newest_standing t)) t.made) (some_found t.made (standing t) (standing_found t) some) in
    record { txn = t; set = found.0; open_one = there; there = found.1 }

-- ---- a store's transactions

-- the log has got more records
logged_on : (s t : State) (more : List LogEntry) (txn : Transaction) → t.records ≡ s.records ++ more → AreLogged s txn → AreLogged t txn
logged_on s t more txn records all =
    weaker (IsLogged s txn) (IsLogged t txn) txn.made (λ made is. record { linked = still_links s t more made.lsn made.undo_next records is.linked; next = is.next }) all

pub all_logged_on : (s t : State) (more : List LogEntry) (transactions : List Transaction) → t.records ≡ s.records ++ more
    → AllByRecursion (AreLogged s) transactions → AllByRecursion (AreLogged t) transactions
all_logged_on s t more transactions records all = weaker (AreLogged s) (AreLogged t) transactions (λ txn is. logged_on s t more txn records is) all

-- a transaction begins, and one ends
pub begun_logged : (log : State) (changes : ℕ) (memory : Memory) → AllByRecursion (AreLogged log) memory.transactions
    → AllByRecursion (AreLogged log) (with_begun changes memory).transactions
begun_logged log changes memory all =
    let new : Transaction = record { number = memory.last + 1; changes = changes; made = []; last = null_lsn } in
    with_last (AreLogged log) memory.transactions new all tt

pub ended_logged : (log : State) (number : ℕ) (memory : Memory) → AllByRecursion (AreLogged log) memory.transactions
    → AllByRecursion (AreLogged log) (without_transaction number memory).transactions
ended_logged log number memory all = first_gone (AreLogged log) (is_numbered number) memory.transactions all

-- one makes a set, whose record is in the log
set_made : (log : State) (t : Transaction) (change : Change) (lsn : ℕ) → HasLink log lsn (newest_standing t) → AreLogged log t
    → AreLogged log (record t { made = t.made ++ record { lsn = lsn; undo_next = newest_standing t; change = change; undone = false } ∷ []; last = lsn })
set_made log t change lsn linked all =
    let made : Made = record { lsn = lsn; undo_next = newest_standing t; change = change; undone = false } in
    let after : Transaction = record t { made = t.made ++ made ∷ []; last = lsn } in
    let still : (link : ℕ) → (link ≡ null_lsn) ⊎ IsSome (find (is_at link) t.made) → (link ≡ null_lsn) ⊎ IsSome (find (is_at link) after.made)
    = λ link is. elim is [ inl null ↦ inl null | inr some ↦ inr (found_still (is_at link) t.made (made ∷ []) some) ] in
    with_last (IsLogged log after) t.made made
    (weaker (IsLogged log t) (IsLogged log after) t.made (λ m is. record { linked = is.linked; next = still m.undo_next is.next }) all)
    (record { linked = linked; next = still (newest_standing t) (newest_found t) })

pub set_logged : (log : State) (memory : Memory) (t : Transaction) (change : Change) (lsn : ℕ) → transaction memory t.number ≡ Some t
    → HasLink log lsn (newest_standing t) → AllByRecursion (AreLogged log) memory.transactions
    → AllByRecursion (AreLogged log) (with_set t change lsn memory).transactions
set_logged log memory t change lsn there linked all =
    let made : Made = record { lsn = lsn; undo_next = newest_standing t; change = change; undone = false } in
    let f : Transaction → Transaction = λ x. record x { made = x.made ++ made ∷ []; last = lsn } in
    first_changed (AreLogged log) (is_numbered t.number) f memory.transactions
    (λ x is whole. let same : t ≡ x = let both : Some t ≡ Some x = sym there ∙ is in cc both in
    subst (λ (y : Transaction). AreLogged log (f y)) same (set_made log t change lsn linked (subst (AreLogged log) (sym same) whole))) all

-- one of its sets is taken back
undone_logged_one : (log : State) (lsn at : ℕ) (t : Transaction) → AreLogged log t → AreLogged log (with_one_undone lsn at t)
undone_logged_one log lsn at t all =
    let after : Transaction = with_one_undone lsn at t in
    first_changed (IsLogged log after) (is_at lsn) undone t.made (λ made is whole. record { linked = whole.linked; next = whole.next })
    (weaker (IsLogged log t) (IsLogged log after) t.made (λ made is. record {
      linked = is.linked;
      next = elim is.next [
        | inl null ↦ inl null
        | inr some ↦ inr (found_undone made.undo_next lsn t.made some)
      ];
    }) all)

pub undone_logged : (log : State) (memory : Memory) (t : Transaction) (made : Made) (at : ℕ) → AllByRecursion (AreLogged log) memory.transactions
    → AllByRecursion (AreLogged log) (with_undone t made at memory).transactions
undone_logged log memory t made at all =
    first_changed (AreLogged log) (is_numbered t.number) (with_one_undone made.lsn at) memory.transactions (λ x is whole. undone_logged_one log made.lsn at x whole) all

-- ---- where undoing goes

found_changed : {X : Type 0} (p : X → Bool) (change : X → X) (xs : List X) (x : X) → p (change x) ≡ p x → find p xs ≡ Some x
    → find p (change_first p change xs) ≡ Some (change x)
found_changed p change [] x keeps is = absurd (cc is)
found_changed {X = X} p change (y ∷ xs) x keeps is = elim (cases_Bool (p y)) [
  | inl passes ↦
      let here : Some y ≡ Some x = rw passes at is in
      let same : y ≡ x = cc here in
      let there : p (change y) ≡ true = ap (λ (z : X). p (change z)) same ∙ keeps ∙ ap p (sym same) ∙ passes in
      rw passes (rw there (ap (λ (z : X). Some (change z)) same))
  | inr fails ↦ let later : find p xs ≡ Some x = rw fails at is in rw fails (rw fails (found_changed p change xs x keeps later))
]

-- the set that is taken back is still one
pub undone_is_set : (memory : Memory) (number lsn at : ℕ) (t : Transaction) (made : Made) → transaction memory number ≡ Some t → t.number ≡ number
    → find (is_at lsn) t.made ≡ Some made → made.lsn ≡ lsn → IsSet (with_undone t made at memory) number lsn
undone_is_set memory number lsn at t made there named found same = record {
  txn = with_one_undone made.lsn at t;
  set = undone made;
  open_one = ap (λ (n : ℕ). find (is_numbered number) (change_first (is_numbered n) (with_one_undone made.lsn at) memory.transactions)) named
      ∙ found_changed (is_numbered number) (with_one_undone made.lsn at) memory.transactions t refl there;
  there = ap (λ (l : ℕ). find (is_at lsn) (change_first (is_at l) undone t.made)) same ∙ found_changed (is_at lsn) undone t.made made refl found;
}

-- no live record has the null LSN
live_named : (s : State) (stream : ℕ) → IsValid s → AllByRecursion (λ (entry : LogEntry). 0 < entry.lsn) (live s stream)
live_named s stream valid =
    of_passing (λ (entry : LogEntry). 0 < entry.lsn) (λ (entry : LogEntry). (entry.stream == stream) && is_live s entry) s.records
    (weaker (IsRecord s) (λ (entry : LogEntry). 0 < entry.lsn) s.records (λ entry is. is.named) (recursion_from_All (IsRecord s) s.records valid.records.records))

linked_entry : (s : State) (stream : ℕ) (found : Option LogEntry) (entry : LogEntry) → option_and_then (λ (e : LogEntry). live_at s stream e.undo_next) found ≡ Some entry
    → (from : LogEntry) × (found ≡ Some from) × (live_at s stream from.undo_next ≡ Some entry)
linked_entry s stream None entry is = absurd (cc is)
linked_entry s stream (Some from) entry is = (from, refl, is)

-- the record that comes next is a set of the transaction
pub next_is_set : (s : State) (memory : Memory) (number last stream : ℕ) (entry : LogEntry) → IsValid s → AllByRecursion (AreLogged s) memory.transactions
    → IsSet memory number last → next s stream UndoNext last ≡ Some entry → IsSet memory number entry.lsn
next_is_set s memory number last stream entry valid all is comes =
    let logged : IsLogged s is.txn is.set =
    found_has (IsLogged s is.txn) (is_at last) is.txn.made is.set is.there (found_has (AreLogged s) (is_numbered number) memory.transactions is.txn is.open_one all) in
    let at : is.set.lsn ≡ last = eqb-true is.set.lsn last (found_passes (is_at last) is.txn.made is.set is.there) in
    let from = linked_entry s stream (entry_at s last) entry comes in
    let both : Some from.0 ≡ Some logged.linked.entry = sym from.1 ∙ ap (λ (l : ℕ). entry_at s l) (sym at) ∙ logged.linked.there in
    let same : from.0 ≡ logged.linked.entry = cc both in
    let named : entry.lsn ≡ from.0.undo_next = eqb-true entry.lsn from.0.undo_next (found_passes (λ (e : LogEntry). e.lsn == from.0.undo_next) (live s stream) entry from.2) in
    let link : entry.lsn ≡ is.set.undo_next = named ∙ ap (λ (e : LogEntry). e.undo_next) same ∙ logged.linked.linked in
    let above : 0 < entry.lsn = found_has (λ (e : LogEntry). 0 < e.lsn) (λ (e : LogEntry). e.lsn == from.0.undo_next) (live s stream) entry from.2 (live_named s stream valid) in
    elim logged.next [
      | inl null ↦ absurd (omega (arith, above, link, null))
      | inr some ↦
          let found = value_of (find (is_at is.set.undo_next) is.txn.made) some in
          record { txn = is.txn; set = found.0; open_one = is.open_one; there = ap (λ (l : ℕ). find (is_at l) is.txn.made) link ∙ found.1 }
    ]

-- by what reading on is answered
pub next_set_reply : (told : Bool) (s : State) (memory : Memory) (client area cursor : ℕ) (result : Result LogEntry Refusal) (t : State) → s.broken ≡ false → IsValid s
    → AllByRecursion (AreLogged s) memory.transactions → Steps told s client (calls.ReadNext area cursor) replies.Next result t
    → IfOk result (λ entry. (number last : ℕ) → IsAt s client area cursor UndoNext last → IsSet memory number last → IsSet memory number entry.lsn)
next_set_reply told s memory client area cursor (Ok entry) t whole valid all steps = λ number last at is.
    let comes = next_there told s client area cursor last UndoNext (happened_of (replies.Next entry)) entry t whole at steps in
    subst (λ (l : ℕ). IsSet memory number l) (sym comes.3) (next_is_set s memory number last comes.0 comes.1 valid all is comes.2)
next_set_reply told s memory client area cursor (Err refusal) t whole valid all steps = tt
