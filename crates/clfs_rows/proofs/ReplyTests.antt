-- Tests that decide whether a call that nothing happens to may be answered so.
use Rattle.clfs_rows.proofs.Words.{◌≡◌, ◌⊎◌, ℕ, Bool, true, false, refl, ap, subst, List, Decides, ◌==◌, nat_lt, Option, Some, None, IsTrue, MatchBool}
use Rattle.clfs_rows.proofs.Words.{LogEntry, Call, Fine, Reply, State, flushed, refusal, line_request, Step, Goes, IsBroken, IsOutOfMemory, takes_memory}
use Rattle.std.specs.Prelude.{MatchOption}
use Rattle.clfs_model.specs.declared.refusal.Refusal.TheVariants as refusals
use Rattle.clfs_model.specs.declared.reply.Reply.TheVariants as replies
use Rattle.clfs_model.specs.Answers.{answer}
use Rattle.clfs_rows.specs.OwnEntries.{call_asked}
use Rattle.clfs_rows.specs.ReadAnew.{MayReply}
use Rattle.clfs_model.specs.Step.{IsReply, IsReplyRead, IsRecordRead}
use Rattle.clfs_rows.proofs.Decisions.{Decision, like, both, either, equal, alike, wrong}
use Rattle.clfs_rows.proofs.SameStates.{same_entry, same_state}
use Rattle.clfs_rows.proofs.SameTests.{matches}

-- a reply, with tests whether it is another one and whether another one may be read so
pub record Tested (reply : Reply) : Type 0 where
  pub is : (answered : Reply) → Decision (reply ≡ answered)
  pub reads : (stable : ℕ) (answered : Reply) → Decision (IsReplyRead stable answered reply)

abbrev record_read : (stable : ℕ) (entry read : LogEntry) → Decision (IsRecordRead stable entry read)
record_read stable entry read = matches (nat_lt entry.lsn stable) (equal read.lsn entry.lsn) (same_entry read entry)

abbrev matches_option : {X : Type 0} {P : Type 0} {Q : X → Type 0} → (found : Option X) → Decision P → ((x : X) → Decision (Q x)) → Decision
    (MatchOption found P Q)
matches_option None p q = p
matches_option (Some x) p q = q x

abbrev comes : (told : Bool) (stable : ℕ) (answered reply : Reply) → Tested reply → Decision (IsReply told stable answered reply)
comes told stable answered reply tested = matches told (tested.is answered) (tested.reads stable answered)

abbrev Cases : Bool → State → ℕ → Call → Reply → State → Type 0
Cases told s client call reply t = MatchBool s.broken (IsBroken s reply t)
    ((IsTrue (takes_memory call) × IsOutOfMemory s reply t) ⊎ Goes told s client call Fine reply t)

pub step_of_cases : (told : Bool) (s : State) (client : ℕ) (call : Call) (reply : Reply) (t : State) → Cases told s client call reply t
    → Step told s client call Fine reply t
unfolding Step
step_of_cases told s client call reply t cases = cases

pub cases_of_step : (told : Bool) (s : State) (client : ℕ) (call : Call) (reply : Reply) (t : State) → Step told s client call Fine reply t
    → Cases told s client call reply t
unfolding Step
cases_of_step told s client call reply t step = step

-- a call that may be answered with this reply, and may leave this state, where nothing happens
abbrev pub steps : (told : Bool) (s : State) (client : ℕ) (call : Call) (reply : Reply) (t : State) → Tested reply → Decision
    (Step told s client call Fine reply t)
steps told s client call reply t tested = like (step_of_cases told s client call reply t) (cases_of_step told s client call reply t)
    (matches s.broken (both (tested.is (replies.Refused refusals.Broken)) (same_state t s))
    (either (both (alike (takes_memory call) true) (both (tested.is (replies.Refused refusals.NoMemory)) (same_state t s)))
    (matches_option (refusal s client call)
    (both (comes told (flushed s) (answer s client call).reply reply tested) (same_state t (answer s client call).state))
    (λ first. both (tested.is (replies.Refused first)) (same_state t s)))))

pub same_found : (a b : ℕ) (x y : LogEntry) → (a ≡ b) × (x ≡ y) → replies.Found a x ≡ replies.Found b y
same_found a b x y same = cc

pub of_same_found : (a b : ℕ) (x y : LogEntry) → replies.Found a x ≡ replies.Found b y → (a ≡ b) × (x ≡ y)
of_same_found a b x y e = (cc, cc)

-- whether a reply gives this cursor and this record
abbrev is_that_found : ℕ → LogEntry → Reply → Bool
is_that_found cursor entry (replies.Found other given) = (both (equal cursor other) (same_entry entry given)).0
is_that_found cursor entry _ = false

pub found_decides : (cursor : ℕ) (entry : LogEntry) (answered : Reply) → Decides (is_that_found cursor entry answered)
    (replies.Found cursor entry ≡ answered)
found_decides cursor entry (replies.Found other given) =
    (like (same_found cursor other entry given) (of_same_found cursor other entry given) (both (equal cursor other) (same_entry entry given))).1
found_decides cursor entry _ = (λ e. wrong e, λ e. absurd (cc))

pub same_next : (x y : LogEntry) → replies.Next x ≡ replies.Next y → x ≡ y
same_next x y e = cc

pub same_placed : (a b : ℕ) → replies.Placed a ≡ replies.Placed b → a ≡ b
same_placed a b e = cc

-- whether a reply gives this record, to which a cursor came
abbrev is_that_next : LogEntry → Reply → Bool
is_that_next entry (replies.Next given) = (same_entry entry given).0
is_that_next entry _ = false

pub next_decides : (entry : LogEntry) (answered : Reply) → Decides (is_that_next entry answered) (replies.Next entry ≡ answered)
next_decides entry (replies.Next given) = (like (λ e. ap replies.Next e) (same_next entry given) (same_entry entry given)).1
next_decides entry _ = (λ e. wrong e, λ e. absurd (cc))

-- whether a reply gives this LSN of a new record
abbrev is_that_placed : ℕ → Reply → Bool
is_that_placed lsn (replies.Placed given) = lsn == given
is_that_placed lsn _ = false

pub placed_decides : (lsn : ℕ) (answered : Reply) → Decides (is_that_placed lsn answered) (replies.Placed lsn ≡ answered)
placed_decides lsn (replies.Placed given) = (like (λ e. ap replies.Placed e) (same_placed lsn given) (equal lsn given)).1
placed_decides lsn _ = (λ e. wrong e, λ e. absurd (cc))

pub read_found : (stable cursor other : ℕ) (entry given : LogEntry) → IsRecordRead stable given entry × (cursor ≡ other)
    → IsReplyRead stable (replies.Found other given) (replies.Found cursor entry)
read_found stable cursor other entry given pair = (entry, (pair.0, ap (λ number. replies.Found number entry) pair.1))

pub of_read_found : (stable cursor other : ℕ) (entry given : LogEntry) → IsReplyRead stable (replies.Found other given) (replies.Found cursor entry)
    → IsRecordRead stable given entry × (cursor ≡ other)
of_read_found stable cursor other entry given read =
    let same : read.0 ≡ entry = cc in
    let numbers : cursor ≡ other = cc in
    (subst (IsRecordRead stable given) same read.1.0, numbers)

pub read_next : (stable : ℕ) (entry given : LogEntry) → IsRecordRead stable given entry → IsReplyRead stable (replies.Next given) (replies.Next entry)
read_next stable entry given read = (entry, (read, refl))

pub of_read_next : (stable : ℕ) (entry given : LogEntry) → IsReplyRead stable (replies.Next given) (replies.Next entry) → IsRecordRead stable given entry
of_read_next stable entry given read = let same : read.0 ≡ entry = cc in subst (IsRecordRead stable given) same read.1.0

-- whether a reply may be read as this cursor and this record
abbrev may_be_found : ℕ → LogEntry → ℕ → Reply → Bool
may_be_found cursor entry stable (replies.Found other given) = (both (record_read stable given entry) (equal cursor other)).0
may_be_found cursor entry stable _ = false

pub reading_found_decides : (cursor : ℕ) (entry : LogEntry) (stable : ℕ) (answered : Reply)
    → Decides (may_be_found cursor entry stable answered) (IsReplyRead stable answered (replies.Found cursor entry))
reading_found_decides cursor entry stable (replies.Found other given) =
    (like (read_found stable cursor other entry given) (of_read_found stable cursor other entry given)
    (both (record_read stable given entry) (equal cursor other))).1
reading_found_decides cursor entry stable (replies.Next given) = (λ e. wrong e, λ read. absurd (cc))
reading_found_decides cursor entry stable _ = (λ e. wrong e, λ e. absurd (cc))

-- whether a reply may be read as this record, to which a cursor came
abbrev may_be_next : LogEntry → ℕ → Reply → Bool
may_be_next entry stable (replies.Next given) = (record_read stable given entry).0
may_be_next entry stable _ = false

pub reading_next_decides : (entry : LogEntry) (stable : ℕ) (answered : Reply)
    → Decides (may_be_next entry stable answered) (IsReplyRead stable answered (replies.Next entry))
reading_next_decides entry stable (replies.Next given) = (like (read_next stable entry given) (of_read_next stable entry given)
    (record_read stable given entry)).1
reading_next_decides entry stable (replies.Found other given) = (λ e. wrong e, λ read. absurd (cc))
reading_next_decides entry stable _ = (λ e. wrong e, λ e. absurd (cc))

-- whether a reply may be read as this LSN of a new record
pub reading_placed_decides : (lsn stable : ℕ) (answered : Reply) → Decides (is_that_placed lsn answered)
    (IsReplyRead stable answered (replies.Placed lsn))
reading_placed_decides lsn stable (replies.Placed given) = placed_decides lsn (replies.Placed given)
reading_placed_decides lsn stable (replies.Found other given) = (λ e. wrong e, λ read. absurd (cc))
reading_placed_decides lsn stable (replies.Next given) = (λ e. wrong e, λ read. absurd (cc))
reading_placed_decides lsn stable _ = (λ e. wrong e, λ e. absurd (cc))

-- the tests of three kinds of replies
abbrev pub found : (cursor : ℕ) (entry : LogEntry) → Tested (replies.Found cursor entry)
found cursor entry = record {
  is = λ answered. (is_that_found cursor entry answered, found_decides cursor entry answered);
  reads = λ stable answered. (may_be_found cursor entry stable answered, reading_found_decides cursor entry stable answered);
}

abbrev pub next : (entry : LogEntry) → Tested (replies.Next entry)
next entry = record {
  is = λ answered. (is_that_next entry answered, next_decides entry answered);
  reads = λ stable answered. (may_be_next entry stable answered, reading_next_decides entry stable answered);
}

abbrev pub placed : (lsn : ℕ) → Tested (replies.Placed lsn)
placed lsn = record {
  is = λ answered. (is_that_placed lsn answered, placed_decides lsn answered);
  reads = λ stable answered. (is_that_placed lsn answered, reading_placed_decides lsn stable answered);
}

-- a line of client 1
abbrev pub may_reply : (told : Bool) (s : State) (line : List ℕ) (reply : Reply) (t : State) → Tested reply → Decision (MayReply told s line reply t)
may_reply told s line reply t tested = steps told s 1 (call_asked (line_request line)) reply t tested
