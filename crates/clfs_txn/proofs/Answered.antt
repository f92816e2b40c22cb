-- What is so where a call of the log is answered and not refused.
use Rattle.clfs_txn.proofs.Words.{◌≡◌, ℕ, Bool, true, false, refl, ap, ◌∙◌, inl, inr, MatchBool, is_none, nat_lt, option_map_or, LogEntry, Call, Refusal}
use Rattle.clfs_txn.proofs.Words.{Happened, Fine, Fault, Damage, Reply, State, Area, flushed, refusal, refused_if, answer, Step, Goes, Comes, IsDamaged}
use Rattle.clfs_txn.proofs.Words.{IsReply}
use Rattle.std.specs.Prelude.{Option, Some, None}
use Rattle.clfs_model.specs.declared.refusal.Refusal.TheVariants as refusals
use Rattle.clfs_model.specs.declared.reply.Reply.TheVariants as replies
use Rattle.clfs_txn.proofs.Written.{where_not, either}

-- a reply tells of a refusal
abbrev pub is_refused : Reply → Bool
is_refused (replies.Refused refusal) = true
is_refused _ = false

no_refusal : (reply : Reply) (given : Refusal) → is_refused reply ≡ false → reply ≡ replies.Refused given → ⊥
no_refusal reply given fine is = let refused : is_refused reply ≡ true = ap is_refused is in absurd (cc (refused, fine))

damaged : (reply : Reply) → is_refused reply ≡ false → IsDamaged reply → ⊥
damaged (replies.Refused given) fine is = absurd (cc fine)
damaged _ fine is = is

goes_on : (told : Bool) (s : State) (client : ℕ) (call : Call) (happened : Happened) (reply : Reply) (t : State) → is_refused reply ≡ false
    → Goes told s client call happened reply t → (refusal s client call ≡ None) × Comes told (flushed s) (answer s client call) reply t
goes_on told s client call Fine reply t fine goes = elim (either (refusal s client call) _ _ goes) [
  | inl none ↦ (none.0, none.1)
  | inr refused ↦ absurd (no_refusal reply refused.0 fine refused.1.1.0)
]
goes_on told s client call Fault reply t fine goes = absurd (no_refusal reply refusals.DiskFault fine goes.1.1.0)
goes_on told s client call Damage reply t fine goes = absurd (damaged reply fine goes.1.1.0)

-- the call isn't refused, and the log is as the answer says
pub answered : (told : Bool) (s : State) (client : ℕ) (call : Call) (happened : Happened) (reply : Reply) (t : State) → s.broken ≡ false
    → is_refused reply ≡ false → Step told s client call happened reply t
    → (refusal s client call ≡ None) × Comes told (flushed s) (answer s client call) reply t
unfolding Step
answered told s client call happened reply t whole fine step = elim (where_not s.broken _ _ whole step) [
  | inl lacks ↦ absurd (no_refusal reply refusals.NoMemory fine lacks.1.0)
  | inr goes ↦ goes_on told s client call happened reply t fine goes
]

-- ---- what is there where no refusal comes

pub area_there : (found : Option Area) (more : Area → Option Refusal) → option_map_or more found (Some refusals.NoSuchArea) ≡ None
    → (area : Area) × (found ≡ Some area) × (more area ≡ None)
area_there None more none = absurd (cc none)
area_there (Some area) more none = (area, refl, none)

pub record_there : (found : Option LogEntry) (given : Refusal) (others : Option Refusal) → refused_if (is_none found) given others ≡ None
    → (entry : LogEntry) × (found ≡ Some entry)
record_there None given others none = absurd (cc none)
record_there (Some entry) given others none = (entry, refl)

-- ---- records that replies hand out

read_lsn : (below : Bool) (entry read : LogEntry) → MatchBool below (read.lsn ≡ entry.lsn) (read ≡ entry) → read.lsn ≡ entry.lsn
read_lsn true entry read is = is
read_lsn false entry read is = ap (λ (e : LogEntry). e.lsn) is

-- the record that is found, by its LSN
pub found_is : (told : Bool) (stable number cursor : ℕ) (entry read : LogEntry) → IsReply told stable (replies.Found number entry) (replies.Found cursor read)
    → (cursor ≡ number) × (read.lsn ≡ entry.lsn)
found_is true stable number cursor entry read is =
    let same : read ≡ entry = cc is in let numbers : cursor ≡ number = cc is in (numbers, ap (λ (e : LogEntry). e.lsn) same)
found_is false stable number cursor entry read is =
    let told : replies.Found cursor read ≡ replies.Found number is.0 = is.1.1 in
    let same : read ≡ is.0 = cc told in
    let numbers : cursor ≡ number = cc told in
    (numbers, ap (λ (e : LogEntry). e.lsn) same ∙ read_lsn (nat_lt entry.lsn stable) entry is.0 is.1.0)

pub next_is : (told : Bool) (stable : ℕ) (entry read : LogEntry) → IsReply told stable (replies.Next entry) (replies.Next read) → read.lsn ≡ entry.lsn
next_is true stable entry read is = let same : read ≡ entry = cc is in ap (λ (e : LogEntry). e.lsn) same
next_is false stable entry read is =
    let told : replies.Next read ≡ replies.Next is.0 = is.1.1 in
    let same : read ≡ is.0 = cc told in
    ap (λ (e : LogEntry). e.lsn) same ∙ read_lsn (nat_lt entry.lsn stable) entry is.0 is.1.0

pub placed_is : (told : Bool) (stable lsn other : ℕ) → IsReply told stable (replies.Placed lsn) (replies.Placed other) → other ≡ lsn
placed_is true stable lsn other is = cc is
placed_is false stable lsn other is = cc is
