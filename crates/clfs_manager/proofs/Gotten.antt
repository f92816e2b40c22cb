-- Getting a record: a call that hands on the answer of another one leaves the log and the disk as that one does.
use Rattle.clfs_manager.proofs.Words.{◌≡◌, ◌<◌, ◌≤◌, ℕ, Bool, true, false, refl, sym, ap, ◌∙◌, subst, arith, Result, nat_lt, MatchBool, IsTrue, IsErrOf, IfOk}
use Rattle.clfs_manager.proofs.Words.{IfErr, lt-ltb, head_of, Head, LogEntry, DiskState, TellsContents, Refusal, State, flushed, is_of_call, Buffered}
use Rattle.clfs_manager.proofs.Words.{kept_at, with_used, Gives, TellsByte, block_place, BlockPlace, ReadRefusal, IsNeeded, IsNeededHead, IsReadAs}
use Rattle.clfs_manager.proofs.Words.{LeavesState, IsLeft, OnlyReads, TellsOf, refused_as, IsSound, AreKept, IsOpen, GetsRecord, Log}
use Rattle.std.proofs.Common.{Ok, Err}
use Rattle.std.specs.Prelude.{length}
use Rattle.clfs_lsn.specs.Size.{most_data}
use Rattle.clfs_model.specs.declared.refusal.Refusal.TheVariants as refusals
use Rattle.clfs_buffers.specs.declared.refusal.ReadRefusal.TheVariants as reads
use Rattle.clfs_manager.specs.Reading.{ReadsBlock}
use Rattle.clfs_manager.proofs.Fetched.{kept_used}
use Rattle.clfs_manager.proofs.Placed.{told_block}
use Rattle.clfs_manager.proofs.ReadKeeps.{left_buffers, left_refused, none_called, quiet, refused_reads, state_stays, still}

-- ---- the disk is as the answer of another kind tells it

answered_reads : {A B : Type 0} (a : A) (b : B) (old new : DiskState) → OnlyReads (Ok a) old new → OnlyReads (Ok b) old new
answered_reads a b old new reads = record {
  same = reads.same;
  time = reads.time;
  damage = λ tells container offset at is. cc is;
  cause = λ fault. absurd (cc fault);
  steady = λ calm. (λ fault. cc fault, (reads.steady calm).1);
}

refusal_reads : {A B : Type 0} (given : Refusal) (old new : DiskState) → OnlyReads {A = A} (Err given) old new → OnlyReads {A = B} (Err given) old new
refusal_reads {A} {B} given old new reads = record {
  same = reads.same;
  time = reads.time;
  damage = λ tells container offset at is. let e : given ≡ refusals.Damaged container offset at = cc is in
      reads.damage tells container offset at (ap (λ (r : Refusal). Err r) e);
  cause = λ fault. let e : given ≡ refusals.DiskFault = cc fault in reads.cause (ap (λ (r : Refusal). Err r) e);
  steady = λ calm. (λ fault. let e : given ≡ refusals.DiskFault = cc fault in (reads.steady calm).0 (ap (λ (r : Refusal). Err r) e), (reads.steady calm).1);
}

-- nothing is asked of it
unasked_reads : {A : Type 0} (a : A) (disk : DiskState) → OnlyReads (Ok a) disk disk
unasked_reads a disk = record {
  same = λ file. refl;
  time = still disk;
  damage = λ tells container offset at is. cc is;
  cause = λ fault. absurd (cc fault);
  steady = λ calm. (λ fault. cc fault, refl);
}

-- ---- a record as it is read

read_exactly : (told : Bool) (stable : ℕ) (entry read : LogEntry) → read ≡ entry → IsReadAs told stable entry read
read_exactly true stable entry read is = is
read_exactly false stable entry read is = by_test (nat_lt entry.lsn stable)
  where
    by_test : (b : Bool) → MatchBool b (read.lsn ≡ entry.lsn) (read ≡ entry)
    by_test true = ap (λ (e : LogEntry). e.lsn) is
    by_test false = is

read_stable : (told : Bool) (stable : ℕ) (entry read : LogEntry) → entry.lsn < stable → read.lsn ≡ entry.lsn → (IsTrue told → read ≡ entry) → IsReadAs told stable entry read
read_stable true stable entry read low at is = is refl
read_stable false stable entry read low at is =
    subst (λ (b : Bool). MatchBool b (read.lsn ≡ entry.lsn) (read ≡ entry)) (sym (lt-ltb entry.lsn stable low)) at

given_exactly : (read entry : LogEntry) → Gives {A = LogEntry} (Ok read) (Ok entry) → read ≡ entry
given_exactly read entry is = let same : entry ≡ read = cc is in sym same

not_of_call : (lsn : ℕ) (refusal : ReadRefusal) → is_of_call (refused_as lsn refusal) ≡ true → ⊥
not_of_call lsn reads.DiskFault is = cc is
not_of_call lsn (reads.Damaged at) is = cc is
not_of_call lsn reads.NoMemory is = cc is

-- an open log is left as it is
pub left_open : (disk : DiskState) (log : Log) → IsSound log → IsOpen disk log.state.value log → IsLeft disk log
left_open disk log sound opened = record { broken = sound.whole ∙ sym sound.unbroken; whole = λ unbroken. opened }

-- ---- getting one

module _ {D : Type 0} (state : D → DiskState) (s : State) (head : Head) where
  -- memory is wanting
  pub gets_no_memory : {A : Type 0} (entry_in : A → LogEntry) (log : Log) (disk : D) → log.state.value ≡ s → IsLeft (state disk) log
      → GetsRecord state entry_in s head (Err refusals.NoMemory) log disk disk
  gets_no_memory entry_in log disk same left = record {
    read = tt;
    small = tt;
    state = same;
    place = tt;
    left = left;
    reads = quiet refusals.NoMemory (state disk) refl;
    refused = λ own. refl;
    waits = tt;
    calls_at_most = none_called (state disk).calls;
  }

  -- one that waits
  pub gets_waiting : (read : LogEntry) (log : Log) (disk : D) → ((entry : LogEntry) → IsNeeded s entry → head_of entry ≡ head → read ≡ entry) → length read.bytes ≤ most_data
      → IsLeft (state disk) log → GetsRecord state (λ (r : LogEntry). r) s head (Ok read) log disk disk
  gets_waiting read log disk exact small left = record {
    read = λ entry needed is. read_exactly (state disk).nature.tells_contents (flushed s) entry read (exact entry needed is);
    small = small;
    state = tt;
    place = tt;
    left = left;
    reads = unasked_reads read (state disk);
    refused = tt;
    waits = λ waits. refl;
    calls_at_most = none_called (state disk).calls;
  }

  -- another answer has the record that was got
  pub gets_made : {A : Type 0} (entry_in : A → LogEntry) (made : A) (log after : Log) (old new : D)
      → GetsRecord state (λ (r : LogEntry). r) s head (Ok (entry_in made)) log old new → IsLeft (state new) after → GetsRecord state entry_in s head (Ok made) after old new
  gets_made entry_in made log after old new gets left = record {
    read = gets.read;
    small = gets.small;
    state = tt;
    place = tt;
    left = left;
    reads = answered_reads (entry_in made) made (state old) (state new) gets.reads;
    refused = tt;
    waits = gets.waits;
    calls_at_most = gets.calls_at_most;
  }

  -- or none was
  pub gets_refused : {A B : Type 0} (entry_in : A → LogEntry) (other_in : B → LogEntry) (given : Refusal) (log : Log) (old new : D)
      → GetsRecord state entry_in s head (Err given) log old new → GetsRecord state other_in s head (Err given) log old new
  gets_refused entry_in other_in given log old new gets = record {
    read = tt;
    small = tt;
    state = gets.state;
    place = gets.place;
    left = gets.left;
    reads = refusal_reads given (state old) (state new) gets.reads;
    refused = gets.refused;
    waits = tt;
    calls_at_most = gets.calls_at_most;
  }

-- ---- out of its block

-- a block that is kept is read without the disk
pub block_kept : {D : Type 0} (state : D → DiskState) (lsn : ℕ) (result : Result LogEntry ReadRefusal) (log : Log) (used : Buffered) (disk : D)
    → used ≡ with_used (block_place lsn) log.buffers → ((place : BlockPlace) → kept_at place (with_used (block_place lsn) log.buffers) ≡ kept_at place log.buffers)
    → (TellsContents (state disk) → AreKept log.state.value log.buffers) → (IsErrOf result reads.DiskFault → ⊥)
    → IfErr result (λ refusal. TellsByte log.state.value.shape (length log.state.value.streams) lsn refusal)
    → IfOk result (λ read. read.lsn ≡ lsn) → IfOk result (λ read. length read.bytes ≤ most_data)
    → ReadsBlock state lsn result log (record log { buffers = used }) disk disk
block_kept state lsn result log used disk is alike are faultless told at small = record {
  told = told;
  lsn = at;
  small = small;
  log = refl;
  kept = λ tells. kept_used log.state.value log.buffers used lsn is alike (are tells);
  same = λ file. refl;
  time = still (state disk);
  cause = λ fault. absurd (faultless fault);
  steady = λ calm. (faultless, refl);
  quiet = λ there. refl;
  calls_at_most = none_called (state disk).calls;
}

module _ {D : Type 0} (state : D → DiskState) (head : Head) (log after : Log) (old new : D) (there : IsNeededHead log.state.value head) (sound : IsSound log)
    (opened : IsOpen (state old) log.state.value log) where
  left : {result : Result LogEntry ReadRefusal} → ReadsBlock state head.lsn result log after old new → IsLeft (state new) after
  left block = left_buffers (state old) (state new) log after block.log block.same block.time block.kept sound opened

  pub gets_stored : (read : LogEntry) → head.lsn < flushed log.state.value → ReadsBlock state head.lsn (Ok read) log after old new
      → (TellsContents (state old) → (entry : LogEntry) → IsNeeded log.state.value entry → head_of entry ≡ head → Gives {A = LogEntry} (Ok read) (Ok entry))
      → GetsRecord state (λ (r : LogEntry). r) log.state.value head (Ok read) after old new
  gets_stored read stable block exact = record {
    read = λ entry needed is.
        let at : entry.lsn ≡ head.lsn = ap (λ (h : Head). h.lsn) is in
        read_stable (state old).nature.tells_contents (flushed log.state.value) entry read (omega (arith, stable, at)) (block.lsn ∙ sym at)
        (λ tells. given_exactly read entry (exact tells entry needed is));
    small = block.small;
    state = tt;
    place = tt;
    left = left block;
    reads = record {
      same = block.same;
      time = block.time;
      damage = λ tells container offset at is. cc is;
      cause = λ fault. absurd (cc fault);
      steady = λ calm. (λ fault. cc fault, (block.steady calm).1);
    };
    refused = tt;
    waits = λ waits. let at : read.lsn ≡ head.lsn = block.lsn in absurd (omega (arith, waits, at, stable));
    calls_at_most = block.calls_at_most;
  }

  pub gets_unread : (refusal : ReadRefusal) (told : Refusal) (last : Log) → ReadsBlock state head.lsn (Err refusal) log after old new
      → (TellsContents (state old) → (entry : LogEntry) → IsNeeded log.state.value entry → head_of entry ≡ head → Gives {A = LogEntry} (Err refusal) (Ok entry))
      → told ≡ refused_as head.lsn refusal → LeavesState told after.state.value last.state.value → (told ≡ refusals.NoMemory → last ≡ after)
      → ((told ≡ refusals.NoMemory → ⊥) → last.broken ≡ true) → GetsRecord state (λ (r : LogEntry). r) log.state.value head (Err told) last old new
  gets_unread refusal told last block exact is leaves memory broken = record {
    read = tt;
    small = tt;
    state = subst (λ (t : State). LeavesState told t last.state.value) (state_stays log after after.buffers block.log) leaves;
    place = subst (λ (r : Refusal). TellsOf log.state.value head.lsn r) (sym is) (told_block log.state.value head.lsn refusal block.told);
    left = left_refused told (state new) after last (left block) leaves memory broken;
    reads = refused_reads head.lsn told refusal there.entry (state old) (state new) is block.same block.time (λ tells. exact tells there.entry there.needed there.head_is)
        block.cause block.steady;
    refused = λ own. absurd (not_of_call head.lsn refusal (subst (λ (r : Refusal). is_of_call r ≡ true) is own));
    waits = tt;
    calls_at_most = block.calls_at_most;
  }
