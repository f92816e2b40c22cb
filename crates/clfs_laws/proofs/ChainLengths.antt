-- A chain ends by itself: in a valid state each record that reading comes to lies after the one before, so more of the bound
-- on its length gives no more records.
use Rattle.clfs_laws.proofs.Words.{◌≡◌, ℕ, zero, suc, ◌≤◌, ◌<◌, Bool, true, false, refl, sym, ap, subst, inl, inr, ◌⊎◌, arith, List, [], ◌∷◌, length, Option}
use Rattle.clfs_laws.proofs.Words.{Some, None, find, nat_lt, ◌==◌, ◌&&◌, if◌then◌else◌, option_and_then, cases_Bool, eqb-true, ltb-true, lt-ltb, le-ltb}
use Rattle.clfs_laws.proofs.Words.{LogEntry, Mode, Previous, UndoNext, Forward, State, is_live, live, live_at, entry_at, next, chain_from, IsValid, IsRecord}
use Rattle.clfs_laws.proofs.Among.{IsAmong, IsFound, found, among_all, at_each}

-- whether a record lies after another one in the direction of a mode: links go down, and forward goes up
abbrev pub lies_behind : Mode → ℕ → ℕ → Bool
lies_behind Previous last lsn = nat_lt lsn last
lies_behind UndoNext last lsn = nat_lt lsn last
lies_behind Forward last lsn = nat_lt last lsn

-- how many records lie after an LSN
abbrev pub count_behind : Mode → ℕ → List LogEntry → ℕ
count_behind mode last [] = 0
count_behind mode last (entry ∷ entries) =
    if lies_behind mode last entry.lsn then suc (count_behind mode last entries) else count_behind mode last entries

not_behind_itself : (mode : Mode) (lsn : ℕ) → lies_behind mode lsn lsn ≡ false
not_behind_itself Previous lsn = le-ltb lsn lsn (omega arith)
not_behind_itself UndoNext lsn = le-ltb lsn lsn (omega arith)
not_behind_itself Forward lsn = le-ltb lsn lsn (omega arith)

behind_both : (mode : Mode) (a b c : ℕ) → lies_behind mode a b ≡ true → lies_behind mode b c ≡ true → lies_behind mode a c ≡ true
behind_both Previous a b c first second = lt-ltb c a (omega (arith, ltb-true b a first, ltb-true c b second))
behind_both UndoNext a b c first second = lt-ltb c a (omega (arith, ltb-true b a first, ltb-true c b second))
behind_both Forward a b c first second = lt-ltb a c (omega (arith, ltb-true a b first, ltb-true b c second))

-- no more lie after one that lies after another, and fewer where it is there itself
no_more : (mode : Mode) (a b : ℕ) (entries : List LogEntry) → lies_behind mode a b ≡ true → count_behind mode b entries ≤ count_behind mode a entries
no_more mode a b [] is = omega arith
no_more mode a b (entry ∷ entries) is = let rest = no_more mode a b entries is in elim (cases_Bool (lies_behind mode b entry.lsn)) [
  | inl far ↦ rw (far, behind_both mode a b entry.lsn is far) (omega (arith, rest))
  | inr near ↦ rw near (elim (cases_Bool (lies_behind mode a entry.lsn)) [
    | inl between ↦ rw between (omega (arith, rest))
    | inr before ↦ rw before rest
  ])
]

fewer : (mode : Mode) (a : ℕ) (entry : LogEntry) (entries : List LogEntry) → IsAmong entry entries → lies_behind mode a entry.lsn ≡ true
    → count_behind mode entry.lsn entries < count_behind mode a entries
fewer mode a entry [] among is = absurd among
fewer mode a entry (first ∷ entries) (inl same) is =
    let F : LogEntry → Type 0 = λ e. count_behind mode entry.lsn (e ∷ entries) < count_behind mode a (e ∷ entries) in
    subst F (sym same) (rw (not_behind_itself mode entry.lsn, is) (let rest = no_more mode a entry.lsn entries is in omega (arith, rest)))
fewer mode a entry (first ∷ entries) (inr among) is =
    let rest = fewer mode a entry entries among is in elim (cases_Bool (lies_behind mode entry.lsn first.lsn)) [
      | inl far ↦ rw (far, behind_both mode a entry.lsn first.lsn is far) (omega (arith, rest))
      | inr near ↦ rw near (elim (cases_Bool (lies_behind mode a first.lsn)) [
        | inl between ↦ rw between (omega (arith, rest))
        | inr before ↦ rw before rest
      ])
    ]

-- fewer lie after a record than there are
at_most_all : (mode : Mode) (a : ℕ) (entries : List LogEntry) → count_behind mode a entries ≤ length entries
at_most_all mode a [] = omega arith
at_most_all mode a (entry ∷ entries) = let rest = at_most_all mode a entries in elim (cases_Bool (lies_behind mode a entry.lsn)) [
  | inl behind ↦ rw behind (omega (arith, rest))
  | inr before ↦ rw before (omega (arith, rest))
]

fewer_than_all : (mode : Mode) (entry : LogEntry) (entries : List LogEntry) → IsAmong entry entries → count_behind mode entry.lsn entries < length entries
fewer_than_all mode entry [] among = absurd among
fewer_than_all mode entry (first ∷ entries) (inl same) =
    let F : LogEntry → Type 0 = λ e. count_behind mode entry.lsn (e ∷ entries) < suc (length entries) in
    subst F (sym same) (rw (not_behind_itself mode entry.lsn) (let rest = at_most_all mode entry.lsn entries in omega (arith, rest)))
fewer_than_all mode entry (first ∷ entries) (inr among) =
    let rest = fewer_than_all mode entry entries among in elim (cases_Bool (lies_behind mode entry.lsn first.lsn)) [
      | inl behind ↦ rw behind (omega (arith, rest))
      | inr before ↦ rw before (omega (arith, rest))
    ]

-- a record that reading comes to from an LSN
pub record ComesTo (s : State) (mode : Mode) (last : ℕ) (entry : LogEntry) : Type 0 where
  pub among : IsAmong entry s.records
  pub behind : lies_behind mode last entry.lsn ≡ true

-- a live record is a record
pub live_is : (s : State) (stream : ℕ) (p : LogEntry → Bool) (entry : LogEntry) → find p (live s stream) ≡ Some entry → IsFound p s.records entry
live_is s stream p entry is =
    let f = found p (live s stream) entry is in
    record { passes = f.passes; among = among_all (λ (e : LogEntry). (e.stream == stream) && is_live s e) s.records entry f.among }

-- A link that is null leads to no record, and another one leads down.
link_down : (s : State) (stream last link : ℕ) (holder entry : LogEntry) → IsValid s → holder.lsn ≡ last → (link ≡ 0) ⊎ (link < holder.lsn)
    → live_at s stream link ≡ Some entry → IsAmong entry s.records × (nat_lt entry.lsn last ≡ true)
link_down s stream last link holder entry valid is (inl null) leads =
    let f = live_is s stream (λ (e : LogEntry). e.lsn == link) entry leads in
    let at : entry.lsn ≡ link = eqb-true entry.lsn link f.passes in
    let record_is : IsRecord s entry = at_each (IsRecord s) s.records entry valid.records.records f.among in
    absurd (omega (arith, at, null, record_is.named))
link_down s stream last link holder entry valid is (inr below) leads =
    let f = live_is s stream (λ (e : LogEntry). e.lsn == link) entry leads in
    let at : entry.lsn ≡ link = eqb-true entry.lsn link f.passes in
    (f.among, lt-ltb entry.lsn last (omega (arith, at, below, is)))

previous_down : (s : State) (stream last : ℕ) (holder : Option LogEntry) (entry : LogEntry) → IsValid s → entry_at s last ≡ holder
    → option_and_then (λ (e : LogEntry). live_at s stream e.previous) holder ≡ Some entry → IsAmong entry s.records × (nat_lt entry.lsn last ≡ true)
previous_down s stream last None entry valid at leads = absurd (cc)
previous_down s stream last (Some holder) entry valid at leads =
    let f = found (λ (e : LogEntry). e.lsn == last) s.records holder at in
    let record_is : IsRecord s holder = at_each (IsRecord s) s.records holder valid.records.records f.among in
    link_down s stream last holder.previous holder entry valid (eqb-true holder.lsn last f.passes) record_is.previous leads

undo_down : (s : State) (stream last : ℕ) (holder : Option LogEntry) (entry : LogEntry) → IsValid s → entry_at s last ≡ holder
    → option_and_then (λ (e : LogEntry). live_at s stream e.undo_next) holder ≡ Some entry → IsAmong entry s.records × (nat_lt entry.lsn last ≡ true)
undo_down s stream last None entry valid at leads = absurd (cc)
undo_down s stream last (Some holder) entry valid at leads =
    let f = found (λ (e : LogEntry). e.lsn == last) s.records holder at in
    let record_is : IsRecord s holder = at_each (IsRecord s) s.records holder valid.records.records f.among in
    link_down s stream last holder.undo_next holder entry valid (eqb-true holder.lsn last f.passes) record_is.undo_next leads

-- where reading comes to a record, it lies after
pub comes_behind : (s : State) (stream : ℕ) (mode : Mode) (last : ℕ) (entry : LogEntry) → IsValid s → next s stream mode last ≡ Some entry
    → ComesTo s mode last entry
comes_behind s stream Previous last entry valid is =
    let down = previous_down s stream last (entry_at s last) entry valid refl is in record { among = down.0; behind = down.1 }
comes_behind s stream UndoNext last entry valid is =
    let down = undo_down s stream last (entry_at s last) entry valid refl is in record { among = down.0; behind = down.1 }
comes_behind s stream Forward last entry valid is =
    let f = live_is s stream (λ (e : LogEntry). nat_lt last e.lsn) entry is in record { among = f.among; behind = f.passes }

-- how many records a chain can still have
abbrev pub left_at_most : State → Mode → Option LogEntry → ℕ
left_at_most s mode None = 0
left_at_most s mode (Some entry) = suc (count_behind mode entry.lsn s.records)

left_falls : (s : State) (stream : ℕ) (mode : Mode) (last : ℕ) (found : Option LogEntry) → IsValid s → next s stream mode last ≡ found
    → left_at_most s mode found ≤ count_behind mode last s.records
left_falls s stream mode last None valid is = omega arith
left_falls s stream mode last (Some entry) valid is =
    let comes = comes_behind s stream mode last entry valid is in
    let less = fewer mode last entry s.records comes.among comes.behind in omega (arith, less)

-- two bounds that both suffice give one chain
same_chain : (s : State) (stream : ℕ) (mode : Mode) (a b : ℕ) (found : Option LogEntry) → IsValid s → left_at_most s mode found ≤ a
    → left_at_most s mode found ≤ b
    → chain_from s stream mode a found ≡ chain_from s stream mode b found
same_chain s stream mode zero zero found valid enough also = refl
same_chain s stream mode zero (suc b) None valid enough also = refl
same_chain s stream mode zero (suc b) (Some entry) valid enough also = absurd (omega (arith, enough))
same_chain s stream mode (suc a) zero None valid enough also = refl
same_chain s stream mode (suc a) zero (Some entry) valid enough also = absurd (omega (arith, also))
same_chain s stream mode (suc a) (suc b) None valid enough also = refl
same_chain s stream mode (suc a) (suc b) (Some entry) valid enough also =
    let falls = left_falls s stream mode entry.lsn (next s stream mode entry.lsn) valid refl in
    ap (λ (rest : List LogEntry). entry ∷ rest)
    (same_chain s stream mode a b (next s stream mode entry.lsn) valid (omega (arith, falls, enough)) (omega (arith, falls, also)))

chain_by : (s : State) (stream : ℕ) (mode : Mode) (bound : ℕ) (entry : LogEntry) → IsValid s → IsAmong entry s.records → length s.records ≡ bound
    → chain_from s stream mode bound (Some entry) ≡ entry ∷ chain_from s stream mode bound (next s stream mode entry.lsn)
chain_by s stream mode zero entry valid among long =
    absurd (let fits = fewer_than_all mode entry s.records among in omega (arith, fits, long))
chain_by s stream mode (suc bound) entry valid among long =
    let fits = fewer_than_all mode entry s.records among in
    let falls = left_falls s stream mode entry.lsn (next s stream mode entry.lsn) valid refl in
    ap (λ (rest : List LogEntry). entry ∷ rest)
    (same_chain s stream mode bound (suc bound) (next s stream mode entry.lsn) valid (omega (arith, falls, fits, long)) (omega (arith, falls, fits, long)))

-- the chain from a record is the record and the chain from the one that reading comes to next, in full
pub chain_is : (s : State) (stream : ℕ) (mode : Mode) (entry : LogEntry) → IsValid s → IsAmong entry s.records
    → chain_from s stream mode (length s.records) (Some entry) ≡ entry ∷ chain_from s stream mode (length s.records) (next s stream mode entry.lsn)
chain_is s stream mode entry valid among = chain_by s stream mode (length s.records) entry valid among refl
