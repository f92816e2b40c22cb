-- What the log tells of a stream's last record: it can be followed by a further LSN.
use Rattle.clfs_txn.proofs.Words.{◌≡◌, ◌⊎◌, inl, inr, ℕ, suc, ◌+◌, ◌-◌, ◌<◌, ◌≤◌, ◌^◌, Bool, true, false, List, [], ◌∷◌, Option, Some, None, Ok, subst, sym}
use Rattle.clfs_txn.proofs.Words.{arith, All, IfOk, MatchBool, MatchOption, frontier, LogEntry, LogInfo, Refusal, State, live, refusal, Step, IsValid}
use Rattle.clfs_txn.proofs.Words.{IsRecord, Steps}
use Rattle.std.specs.Prelude.{Result, Err}
use Rattle.std.specs.List.{last_or}
use Rattle.std.proofs.lemmas.List.Elements.{All-filter}
use Rattle.clfs_model.specs.declared.call.Call.TheVariants as calls
use Rattle.clfs_model.specs.declared.reply.Reply.TheVariants as replies
use Rattle.clfs_model.specs.Answers.{info_of}
use Rattle.clfs_model.specs.Live.{last_live, lsn_or_null}

where_not : (b : Bool) (A B : Type 0) → b ≡ false → MatchBool b A B → B
where_not true A B e x = absurd (cc e)
where_not false A B e x = x

either : {X : Type 0} (o : Option X) (N : Type 0) (S : X → Type 0) → MatchOption o N S → N ⊎ ((x : X) × S x)
either None N S h = inl h
either (Some x) N S h = inr (x, h)

-- what is told of a stream is what it is like
told : (s t : State) (client stream : ℕ) (info : LogInfo) → s.broken ≡ false → Steps true s client (calls.Info stream) replies.Info (Ok info) t
    → info ≡ info_of s stream
unfolding Step
told s t client stream info whole step = elim (where_not s.broken _ _ whole step) [
  | inl lacks ↦ absurd (cc (lacks.0))
  | inr goes ↦ elim (either (refusal s client (calls.Info stream)) _ _ goes) [
    | inl comes ↦ let same = comes.0 in cc same
    | inr refused ↦ let other = refused.1.0 in absurd (cc other)
  ]
]

below : (bound : ℕ) (last : Option LogEntry) (records : List LogEntry) → lsn_or_null last < bound → All (λ (entry : LogEntry). entry.lsn < bound) records
    → lsn_or_null (last_or last records) < bound
below bound last [] small all = small
below bound last (entry ∷ records) small all = below bound (Some entry) records (all 0 entry (omega arith)) (λ k d lt. all (suc k) d (omega (arith, lt)))

small_records : (s : State) (bound : ℕ) (records : List LogEntry) → frontier s.place ≤ bound → All (IsRecord s) records
    → All (λ (entry : LogEntry). entry.lsn < bound) records
small_records s bound records le all = λ k d lt. omega (arith, le, (all k d lt).below)

last_is_small : (s : State) (stream : ℕ) → IsValid s → frontier s.place < 2 ^ 64 → last_live s stream + 1 < 2 ^ 64
last_is_small s stream valid small =
    let records : All (λ (entry : LogEntry). entry.lsn < 2 ^ 64 - 1) s.records = small_records s (2 ^ 64 - 1) s.records (omega (arith, small)) valid.records.records in
    let last : last_live s stream < 2 ^ 64 - 1 =
    below (2 ^ 64 - 1) None (live s stream) (omega arith) (All-filter _ (λ (entry : LogEntry). entry.lsn < 2 ^ 64 - 1) s.records records) in
    omega (arith, last)

-- so the base of a checkpoint is an LSN
pub next_fits : (s : State) (client stream : ℕ) (result : Result LogInfo Refusal) → s.broken ≡ false → IsValid s → frontier s.place < 2 ^ 64
    → Steps true s client (calls.Info stream) replies.Info result s → IfOk result (λ info. info.last + 1 < 2 ^ 64)
next_fits s client stream (Err refusal) whole valid small step = tt
next_fits s client stream (Ok info) whole valid small step =
    subst (λ (i : LogInfo). i.last + 1 < 2 ^ 64) (sym (told s s client stream info whole step)) (last_is_small s stream valid small)
