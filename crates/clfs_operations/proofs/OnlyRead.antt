-- A call that only reads a disk, as one that may write it.
use Rattle.std.proofs.Common.{◌≡◌, ℕ, true, length, refl, ap, subst, ◌∙◌, sym, Ok, Err, arith}
use Rattle.std.specs.Prelude.{Result, IsErrOf, IfErr}
use Rattle.clfs_disk.specs.Files.{Files, Unchanged}
use Rattle.clfs_disk.specs.State.{DiskState, TellsContents, Passes, Later}
use Rattle.clfs_base.specs.Slots.{newest_of}
use Rattle.clfs_model.specs.declared.refusal.Refusal.{Refusal}
use Rattle.clfs_model.specs.declared.refusal.Refusal.TheVariants as refusals
use Rattle.clfs_model.specs.declared.reply.Reply.{Reply}
use Rattle.clfs_model.specs.declared.reply.Reply.TheVariants as replies
use Rattle.clfs_model.specs.declared.state.State.{State}
use Rattle.clfs_model.specs.Happened.{happened_of}
use Rattle.clfs_model.specs.Run.{reopens, bad_line}
use Rattle.clfs_model.specs.Step.{ReopenStep, IsDamaged}
use Rattle.clfs_recover.specs.Files.{AreWholeFiles}
use Rattle.clfs_manager.specs.Calls.{replied}
use Rattle.clfs_manager.specs.Crashes.{CrashSurvives}
use Rattle.clfs_manager.specs.Fetching.{OnlyReads}
use Rattle.clfs_manager.specs.Reopening.{TellsPlace}
use Rattle.clfs_operations.specs.Answered.{AnswersOne}
use Rattle.clfs_operations.specs.Crashed.{StandsStill}
use Rattle.clfs_operations.proofs.Crashing.{OpeningBreaks, OpeningStaysBroken, faultless_opening}
use Rattle.clfs_operations.proofs.SoFar.{stands_still}

-- time in which no file changed
pub unchanged_later : (old new : DiskState) → Passes Unchanged old new → Later old new
unchanged_later old new time = record {
  later = time.later;
  past = time.past;
  kept = time.kept;
  images = λ moment image after until at. let found = time.images moment image after until at in (found.0, found.1, tt);
  faults = time.faults;
  nature = time.nature;
}

-- files that hold what they held are as long as they were
pub whole_same : (old new : Files) → Unchanged old new → AreWholeFiles old → AreWholeFiles new
whole_same old new same whole = record {
  slot = whole.slot;
  image = whole.image;
  newest = ap newest_of (same 0) ∙ whole.newest;
  base_file = let long = ap length (same 0) in omega (arith, long, whole.base_file);
  containers = λ file from to. let long = ap length (same file) in let is = whole.containers file from to in omega (arith, long, is);
}

-- damage that a refusal tells
damaged_is : (refusal : Refusal) → IsDamaged (replies.Refused refusal) → (container : ℕ) × ((offset : ℕ) × ((at : ℕ) × (refusal ≡ refusals.Damaged container offset at)))
damaged_is (refusals.Damaged container offset at) is = (container, (offset, (at, refl)))
damaged_is _ is = absurd is

answer_damaged : (result : Result ℕ Refusal) (old new : DiskState) → OnlyReads result old new → TellsContents old → IsDamaged (replied replies.Flushed result) → ⊥
answer_damaged (Ok lsn) old new reads told is = is
answer_damaged (Err refusal) old new reads told is =
    let found = damaged_is refusal is in
    reads.damage told found.0 found.1.0 found.1.1.0 (ap (λ (r : Refusal). Err r) found.1.1.1)

answer_faulted : (result : Result ℕ Refusal) → replied replies.Flushed result ≡ replies.Refused refusals.DiskFault → IsErrOf result refusals.DiskFault
answer_faulted (Ok lsn) e = absurd (cc e)
answer_faulted (Err refusal) e = cc e

answer_placed : (result : Result ℕ Refusal) → IfErr result TellsPlace → (refusal : Refusal) → replied replies.Flushed result ≡ replies.Refused refusal → TellsPlace refusal
answer_placed (Ok lsn) place refusal e = absurd (cc e)
answer_placed (Err given) place refusal e = let same : given ≡ refusal = cc e in subst TellsPlace same place

-- a log that was opened again
pub reopened_one : (s : State) (old : DiskState) (client : ℕ) (result : Result ℕ Refusal) (reply : Reply) (t : State) (new : DiskState) → reply ≡ replied replies.Flushed result
    → ReopenStep old.nature.tells_contents s (happened_of (replied replies.Flushed result)) (replied replies.Flushed result) t → OnlyReads result old new → IfErr result TellsPlace
    → CrashSurvives (reopens client) s old new → (s.broken ≡ true → StandsStill old new) → OpeningBreaks → OpeningStaysBroken
    → AnswersOne s old (reopens client) reply t new
reopened_one s old client result reply t new is step reads place crash stopped breaks stays = record {
  crash = crash;
  stopped = stopped;
  faultless = rw is (faultless_opening breaks stays old.nature.tells_contents s (replied replies.Flushed result) t step);
  step = rw is step;
  damage = λ told damaged. answer_damaged result old new reads told (rw is at damaged);
  place = λ refusal told. answer_placed result place refusal (sym is ∙ told);
  writes = record {
    time = unchanged_later old new reads.time;
    cause = λ fault. reads.cause (answer_faulted result (sym is ∙ fault));
    whole = λ never told are. whole_same old.files new.files reads.same are;
    steady = λ steady told are. (λ fault. (reads.steady steady).0 (answer_faulted result (sym is ∙ fault)), (reads.steady steady).1);
  };
}

-- a bad line
pub bad_one : (s : State) (disk : DiskState) (at : ℕ) → CrashSurvives (bad_line at) s disk disk
    → AnswersOne s disk (bad_line at) (replies.Refused (refusals.BadLine at)) s disk
bad_one s disk at crash = record {
  crash = crash;
  stopped = λ broken. record { clock = refl; images = λ moment image is. is };
  faultless = λ whole. (whole, λ fault. cc fault);
  step = (refl, refl);
  damage = λ told damaged. damaged;
  place = λ refusal told. tt;
  writes = record {
    time = stands_still disk;
    cause = λ fault. absurd (cc fault);
    whole = λ never told are. are;
    steady = λ steady told are. (λ fault. cc fault, refl);
  };
}
