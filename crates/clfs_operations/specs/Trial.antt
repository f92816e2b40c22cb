-- What a trial prints, and how it ends.
use Rattle.std.specs.Prelude.{◌≡◌, ◌⊎◌, ℕ, ◌+◌, ◌≤◌, Bool, true, false, not, if◌then◌else◌, List, [], ◌++◌, map, length, count_by, codes, Option, Some, None}
use Rattle.std.specs.Io.KnownBytes.{Appends}
use Rattle.std.specs.Fmt.{decimal}
use Rattle.clfs_lsn.specs.Words.{lsn_text}
use Rattle.clfs_ports.specs.Cause.{Rises}
use Rattle.clfs_disk.specs.State.{DiskState}
use Rattle.clfs_model.specs.declared.reply.Reply.{Reply}
use Rattle.clfs_model.specs.declared.reply.Reply.TheVariants as replies
use Rattle.clfs_model.specs.declared.state.State.{State}
use Rattle.clfs_model.specs.Flush.{flushed}
use Rattle.clfs_model.specs.Run.{Run, all_fine}
use Rattle.clfs_model.specs.State.{log_of}
use Rattle.clfs_trial.specs.Generated.{generated, opening_lines}
use Rattle.clfs_operations.specs.Answered.{requests_of, AnswersAll}
use Rattle.clfs_lines.specs.Answering.{Writes, WritesFront}
use Rattle.clfs_operations.specs.Told.{has_fault, has_damage, has_broken}
use Rattle.clfs_operations.specs.declared.tally.Tally.{Tally}

-- ---- replies

-- the LSN that a reply tells: that of a record or a restart area that was just written
abbrev pub told_lsn : Reply → Option ℕ
told_lsn (replies.Placed lsn) = Some lsn
told_lsn _ = None

-- a reply that refuses its call
abbrev pub is_refusal : Reply → Bool
is_refusal (replies.Refused refusal) = true
is_refusal _ = false

-- how many replies are no refusals, and how many are
abbrev pub tally_of : List Reply → Tally
tally_of answers = record { answered = count_by (λ reply. not (is_refusal reply)) answers; refused = count_by is_refusal answers }

-- one reply more
abbrev pub counted : Tally → Reply → Tally
counted tally reply =
    if is_refusal reply then record { answered = tally.answered; refused = tally.refused + 1 }
    else record { answered = tally.answered + 1; refused = tally.refused }

-- ---- lines

-- the lines of the trial of a number to which these are the replies, so many of them
abbrev pub lines_of_trial : ℕ → ℕ → List Reply → List (List ℕ)
lines_of_trial number lines answers = generated number lines (map told_lsn answers)

-- So many lines of the trial of a number were answered, one after the other, and these are their sums.
pub record HasTried (s : State) (old : DiskState) (number lines : ℕ) (tally : Tally) (t : State) (new : DiskState) : Type 0 where
  pub answers : List Reply
  pub many : length answers ≡ lines
  pub answered : AnswersAll s old (requests_of (lines_of_trial number lines answers)) answers t new
  pub sums : tally ≡ tally_of answers

-- the log of a trial when it has just been made: blocks of 8 sectors, containers of 1,024, of which it has 8, and 4 write buffers
abbrev pub trial_log : State
trial_log = log_of 8 1024 8 4

-- ---- the line that is printed

-- the number and the count as they were given, the sums, and the LSN up to which the log is flushed
abbrev pub trial_text : ℕ → ℕ → Tally → ℕ → List ℕ
trial_text number count tally lsn =
    codes "trial " ++ (decimal number ++ (codes " " ++ (decimal count ++ (codes " ok " ++ (decimal tally.answered
    ++ (codes " refused " ++ (decimal tally.refused ++ (codes " flushed " ++ (lsn_text lsn ++ codes "\n")))))))))

-- The lines of a trial were answered by a log in memory, and this text is their sums.
pub record IsTrialText (number count : ℕ) (text : List ℕ) : Type 0 where
  pub answers : List Reply
  pub last : State
  -- the replies are those of a run of the log machine over the lines, from a log that was just made, and nothing happened in it
  pub run : let requests = requests_of (lines_of_trial number (opening_lines + count) answers) in Run true trial_log requests (all_fine requests) answers last
  -- so no reply tells a fault of the disk, damage, or a broken log
  pub no_fault : has_fault answers ≡ false
  pub no_damage : has_damage answers ≡ false
  pub no_broken : has_broken answers ≡ false
  -- each line has one reply, which is a refusal or none
  pub all : (tally_of answers).answered + (tally_of answers).refused ≡ count + opening_lines
  pub is : text ≡ trial_text number count (tally_of answers) (flushed last)

-- ---- the end

-- How a trial ends: what each status says of what the sink has taken.
pub record EndsTrial (status number count : ℕ) (written written_after : Option (List ℕ)) (sink sink_after : ℕ) : Type 0 where
  -- done, a sink fault, no memory; there is no other status
  pub statuses : (status ≡ 0) ⊎ ((status ≡ 3) ⊎ (status ≡ 5))
  -- the line was written
  pub done : status ≡ 0 → Writes (IsTrialText number count) written written_after
  -- the sink failed in this call, and what was written is a front of the line
  pub sink_fault : status ≡ 3 → Rises sink sink_after
  pub sink_fault_front : status ≡ 3 → WritesFront (IsTrialText number count) written written_after
  -- memory ran out, and nothing was written
  pub no_memory_silence : status ≡ 5 → Appends written written_after []
  -- the sink's count of faults never falls
  pub sink_count : sink ≤ sink_after
