-- Reading records one after the other, as the plan of loading does.
use Rattle.clfs_txn.proofs.Words.{◌≡◌, ℕ, ◌-◌, ◌<◌, Bool, true, false, ap, subst, arith, List, length, Result, Ok, Err, State, TxnRecord, TxnLoadRefusal}
use Rattle.clfs_txn.proofs.Words.{Loaded, read_records, Memory, LeadsTo, GoesForward, or_all_read, or_ended_read, to_come}
use Rattle.clfs_txn.proofs.Leads.{leads_on}

-- a store's reading came so far
abbrev pub CameTo : Bool → Memory → State → State → ℕ → List TxnRecord → List TxnRecord → Type 0
CameTo told m log one cursor start now = (more : ℕ) (all : List TxnRecord → Memory) → length (to_come log m.client m.area cursor) < more
    → (less : ℕ) × (length (to_come one m.client m.area cursor) < less)
    × LeadsTo Loaded told m.client log (read_records more m.area cursor start all) one (read_records less m.area cursor now all)

-- and then read on
abbrev pub ReadOn : Bool → Memory → State → State → ℕ → List TxnRecord → List TxnRecord → Result Bool TxnLoadRefusal → Type 0
ReadOn told m one two cursor now next result = (more : ℕ) (all : List TxnRecord → Memory) → length (to_come one m.client m.area cursor) < more
    → LeadsTo Loaded told m.client one (read_records more m.area cursor now all) two (or_ended_read (more - 1) m.area cursor next all result)

pub same_read : (told same : Bool) (m n : Memory) (one two : State) (cursor : ℕ) (now next : List TxnRecord) (result : Result Bool TxnLoadRefusal) → same ≡ told → n ≡ m
    → ReadOn same n one two cursor now next result → ReadOn told m one two cursor now next result
same_read told same m n one two cursor now next result p q read =
    subst (λ (x : Memory). ReadOn told x one two cursor now next result) q (subst (λ (b : Bool). ReadOn b n one two cursor now next result) p read)

pub came_on : (told : Bool) (m : Memory) (log one two : State) (cursor : ℕ) (start now next : List TxnRecord) → CameTo told m log one cursor start now
    → ReadOn told m one two cursor now next (Ok true) → length (to_come two m.client m.area cursor) < length (to_come one m.client m.area cursor)
    → CameTo told m log two cursor start next
came_on told m log one two cursor start now next before read fewer = λ more all few.
    let was = before more all few in
    (was.0 - 1, omega (arith, was.1, fewer), leads_on told m.client log one two _ _ _ was.2 (read was.0 all was.1))

pub came_to_end : (told : Bool) (m : Memory) (log one two : State) (cursor : ℕ) (start now next : List TxnRecord) → CameTo told m log one cursor start now
    → ReadOn told m one two cursor now next (Ok false) → (more : ℕ) (all : List TxnRecord → Memory) → length (to_come log m.client m.area cursor) < more
    → LeadsTo Loaded told m.client log (read_records more m.area cursor start all) two (or_all_read m.area cursor next all (Ok tt))
came_to_end told m log one two cursor start now next before read = λ more all few.
    let was = before more all few in leads_on told m.client log one two _ _ _ was.2 (read was.0 all was.1)

pub came_to_refusal : (told : Bool) (m : Memory) (log one two : State) (cursor : ℕ) (start now next : List TxnRecord) (cause : TxnLoadRefusal)
    → CameTo told m log one cursor start now → ReadOn told m one two cursor now next (Err cause) → (more : ℕ) (all : List TxnRecord → Memory)
    → length (to_come log m.client m.area cursor) < more
    → LeadsTo Loaded told m.client log (read_records more m.area cursor start all) two (or_all_read m.area cursor next all (Err cause))
came_to_refusal told m log one two cursor start now next cause before read = λ more all few.
    let was = before more all few in leads_on told m.client log one two _ _ _ was.2 (read was.0 all was.1)

-- ---- the same by other names

pub by_true : (told : Bool) (m : Memory) (one two : State) (cursor : ℕ) (now next : List TxnRecord) (result other : Result Bool TxnLoadRefusal) → result ≡ other
    → ReadOn told m one two cursor now next result → ReadOn told m one two cursor now next other
by_true told m one two cursor now next result other same read = subst (λ (r : Result Bool TxnLoadRefusal). ReadOn told m one two cursor now next r) same read

pub fewer_by : (m n : Memory) (one two : State) (cursor : ℕ) → n ≡ m → length (to_come two n.client n.area cursor) < length (to_come one n.client n.area cursor)
    → length (to_come two m.client m.area cursor) < length (to_come one m.client m.area cursor)
fewer_by m n one two cursor same fewer =
    subst (λ (x : Memory). length (to_come two x.client x.area cursor) < length (to_come one x.client x.area cursor)) same fewer

pub forward_by : (m n : Memory) (log : State) (cursor : ℕ) → n ≡ m → GoesForward log n.client n.area cursor → GoesForward log m.client m.area cursor
forward_by m n log cursor same forward = subst (λ (x : Memory). GoesForward log x.client x.area cursor) same forward

-- whether there was a further record
abbrev pub so_far : Bool → Result Bool TxnLoadRefusal
so_far more = Ok more

pub ok_is : (a b : Bool) → a ≡ b → so_far a ≡ so_far b
ok_is a b same = ap so_far same
