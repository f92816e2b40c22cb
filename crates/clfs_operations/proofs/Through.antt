-- Where nothing outside fails serving comes through.
use Rattle.std.proofs.Common.{◌≡◌, ℕ, ◌++◌, true, false, List, refl, sym, ◌∙◌, inl, inr}
use Rattle.std.specs.Prelude.{Option, Some, None}
use Rattle.std.specs.Io.KnownBytes.{Consumes}
use Rattle.std.proofs.lemmas.Bool.{cases_Bool}
use Rattle.clfs_disk.specs.State.{DiskState}
use Rattle.clfs_disk.specs.Files.{Files}
use Rattle.clfs_model.specs.declared.state.State.{State}
use Rattle.clfs_model.specs.Accepted.{Limits, is_within}
use Rattle.clfs_recover.specs.Files.{StandsFor, IsDamaged, HasNoBase}
use Rattle.clfs_recover.specs.declared.refusal.LoadRefusal.{LoadRefusal}
use Rattle.clfs_recover.specs.declared.refusal.LoadRefusal.TheVariants.{NoBase, Damaged, DiskFault, NoMemory}
use Rattle.clfs_operations.specs.Answered.{IsAnswered, IsAnsweredInPart}
use Rattle.clfs_operations.specs.Complete.{DidNotFail, IsDone, TellsLog, NothingFailsAnswering, AreCalm, IsAnsweredCalmly, IsAnsweredCalmlyInPart, ComesThrough}
use Rattle.clfs_operations.specs.Opened.{IsNoLog, RefusesLog}
use Rattle.clfs_lines.specs.Answering.{IsWholeAnswer, StopsShort}
use Rattle.clfs_operations.specs.Serve.{EndsServing, IsServeStatus}
use Rattle.clfs_lines.specs.Taken.{IsPastLimit}
use Rattle.clfs_lines.specs.declared.incomplete.IncompleteLine.{IncompleteLine}
use Rattle.clfs_operations.specs.Told.{has_fault}
use Rattle.clfs_operations.proofs.Fronts.{front_is_within}

-- files stand for a state and aren't refused
pub record AreOne : Type 0 where
  pub no_damage : (files : Files) (s : State) (container offset at : ℕ) → StandsFor files s → IsDamaged files container offset at → ⊥
  pub no_base : (files : Files) (s : State) → HasNoBase files → StandsFor files s → ⊥

-- what was taken of a script is a front of it
taken_within : (limits : Limits) (left left' : Option (List ℕ)) (script bytes : List ℕ) → left ≡ Some script → Consumes left left' bytes
    → is_within limits script ≡ true → is_within limits bytes ≡ true
taken_within limits None left' script bytes e taken within = absurd (cc e)
taken_within limits (Some all) None script bytes e taken within = absurd taken
taken_within limits (Some all) (Some rest) script bytes e taken within =
    let same : script ≡ bytes ++ rest = sym (cc e) ∙ taken in
    front_is_within limits bytes rest (rw same at within)

-- what was taken of a script within its limits passes none
pub passes_none : (limits : Limits) (left left' : Option (List ℕ)) (script bytes : List ℕ) → left ≡ Some script → is_within limits script ≡ true
    → IsPastLimit limits left left' bytes → ⊥
passes_none limits left left' script bytes given within past =
    let e = sym (taken_within limits left left' script bytes given past.given within) ∙ past.past in cc e

-- a disk that didn't fail didn't fail before the log was opened
pub no_disk_fault : (old new : DiskState) → RefusesLog DiskFault old new → DidNotFail old new → ⊥
no_disk_fault old new refuses (inl still) = still (refuses.cause refl)
no_disk_fault old new refuses (inr steady) = refuses.steady steady.0 refl

-- files that stand for a log aren't refused
pub is_a_log : AreOne → (refusal : LoadRefusal) (old new : DiskState) → TellsLog old → IsNoLog refusal → RefusesLog refusal old new → ⊥
is_a_log one NoBase old new log none refuses = one.no_base old.files log.state (refuses.is log.told) log.stands
is_a_log one (Damaged container offset at) old new log none refuses = one.no_damage old.files log.state container offset at log.stands (refuses.is log.told)
is_a_log one DiskFault old new log none refuses = none
is_a_log one NoMemory old new log none refuses = none

module _ (limits : Limits) (incomplete : IncompleteLine) (one : AreOne) (status buffers : ℕ) (old new : DiskState) (left left' written written' : Option (List ℕ)) (source source' sink sink' : ℕ)
    (ends : EndsServing limits incomplete status buffers old new left left' written written' source source' sink sink')
    (calm : NothingFailsAnswering limits old new left source source' sink sink') where
  -- no line tells a fault
  answers_are_calm : (lines : List (List ℕ)) (text : List ℕ) (is : IsAnswered buffers old new lines text) → AreCalm is.answers
  answers_are_calm lines text is = by_disk calm.disk
    where
      with_none : has_fault is.answers ≡ false → AreCalm is.answers
      with_none none = record {
        no_fault = none;
        no_damage = is.answered.damage calm.log.told;
        no_broken = (is.answered.unbroken calm.log.told is.begins none).1;
      }

      by_disk : DidNotFail old new → AreCalm is.answers
      by_disk (inr steady) = with_none (is.answered.steady steady.0 calm.log.told steady.1)
      by_disk (inl still) = elim (cases_Bool (has_fault is.answers)) [
        | inl some ↦ absurd (still (is.answered.cause some))
        | inr none ↦ with_none none
      ]

  done_calmly : (text : List ℕ) → IsWholeAnswer limits incomplete (IsAnswered buffers old new) left left' text → IsWholeAnswer limits incomplete (IsAnsweredCalmly buffers old new) left left' text
  done_calmly text is = record {
    script = is.script;
    read = is.read;
    answered = record { answered = is.answered; calm = answers_are_calm _ text is.answered };
  }

  in_part_calmly : StopsShort limits incomplete (IsAnsweredInPart buffers old new false) left left' written written'
      → StopsShort limits incomplete (IsAnsweredCalmlyInPart buffers old new false) left left' written written'
  in_part_calmly is = (is.0, (is.1.0, (is.1.1.0, record { answered = is.1.1.1; calm = answers_are_calm is.0 is.1.1.1.output is.1.1.1.answered }, is.1.1.2)))

  by_status : IsServeStatus status → IsDone status
  by_status (inl (inl e)) = inl e
  by_status (inl (inr (inl e))) = absurd (calm.source_calm (ends.source_fault e))
  by_status (inl (inr (inr (inl e)))) = absurd (calm.sink_calm (ends.sink_fault e))
  by_status (inl (inr (inr (inr (inl e))))) = inr e
  by_status (inl (inr (inr (inr (inr e))))) = (let long = ends.too_long e in absurd (passes_none limits left left' calm.script long.1.bytes calm.given calm.within long.1.given))
  by_status (inr (inl e)) = absurd (no_disk_fault old new (ends.disk_fault e) calm.disk)
  by_status (inr (inr e)) = absurd (let found = ends.no_log e in is_a_log one found.1.no_log.refusal old new calm.log found.1.no_log.no_log found.1.no_log.refuses)

  pub comes_through : ComesThrough limits incomplete status buffers old new left left' written written'
  comes_through = record {
    statuses = by_status ends.statuses;
    done = λ e. let found = ends.done e in (found.0, done_calmly found.0 found.1, found.2);
    no_memory = λ e. elim (ends.no_memory e) [
      | inl unopened ↦ inl unopened
      | inr short ↦ inr (in_part_calmly short)
    ];
  }
