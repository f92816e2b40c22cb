-- Where nothing outside fails serving a table comes through.
use Rattle.std.proofs.Common.{◌≡◌, ◌⊎◌, ℕ, false, List, refl, inl, inr, arith}
use Rattle.std.specs.Prelude.{Option}
use Rattle.std.proofs.lemmas.Bool.{cases_Bool}
use Rattle.std.proofs.KnownBytes.{Appends-nil}
use Rattle.clfs_disk.specs.State.{DiskState}
use Rattle.clfs_model.specs.Accepted.{serve_limits}
use Rattle.clfs_model.specs.declared.refusal.Refusal.TheVariants as log_refusals
use Rattle.clfs_cells.specs.declared.told.TxnLoadRefusal.TheVariants.{Log}
use Rattle.clfs_lines.specs.Answering.{IsWholeAnswer, StopsShort}
use Rattle.clfs_lines.specs.declared.incomplete.IncompleteLine.TheVariants.{Counts}
use Rattle.clfs_operations.specs.Complete.{DidNotFail, IsDone, TellsLog, NothingFailsAnswering}
use Rattle.clfs_operations.specs.Txn.{AreTableCalm, EndsTxn, IsTableAnswered, IsTableAnsweredInPart, IsTableAnsweredCalmly, IsTableAnsweredCalmlyInPart, IsTxnStatus, RefusesTable, TableComesThrough, has_table_fault}
use Rattle.clfs_operations.proofs.Through.{AreOne, is_a_log, no_disk_fault, passes_none}

-- a disk that didn't fail didn't fail while the table was loaded
no_table_fault : (old new : DiskState) → TellsLog old → RefusesTable (Log log_refusals.DiskFault) old new → DidNotFail old new → ⊥
no_table_fault old new log refuses (inl still) = still (refuses.fault refl)
no_table_fault old new log refuses (inr steady) = refuses.steady steady.0 log.told steady.1 refl

module _ (one : AreOne) (status : ℕ) (old new : DiskState) (left left' written written' : Option (List ℕ)) (source source' sink sink' : ℕ)
    (ends : EndsTxn status old new left left' written written' source source' sink sink')
    (calm : NothingFailsAnswering serve_limits old new left source source' sink sink') where
  -- no line tells a fault
  answers_are_calm : (lines : List (List ℕ)) (text : List ℕ) (is : IsTableAnswered old new lines text) → AreTableCalm is.answered.answers
  answers_are_calm lines text is = by_disk calm.disk
    where
      with_none : has_table_fault is.answered.answers ≡ false → AreTableCalm is.answered.answers
      with_none none = record {
        no_fault = none;
        no_damage = is.answered.damage calm.log.told;
        no_broken = (is.answered.unbroken calm.log.told is.loaded.whole none).1;
      }

      by_disk : DidNotFail old new → AreTableCalm is.answered.answers
      by_disk (inr steady) = with_none (is.answered.steady steady.0 calm.log.told steady.1)
      by_disk (inl still) = elim (cases_Bool (has_table_fault is.answered.answers)) [
        | inl some ↦ absurd (still (is.answered.cause some))
        | inr none ↦ with_none none
      ]

  done_calmly : (text : List ℕ) → IsWholeAnswer serve_limits Counts (IsTableAnswered old new) left left' text
      → IsWholeAnswer serve_limits Counts (IsTableAnsweredCalmly old new) left left' text
  done_calmly text is = record {
    script = is.script;
    read = is.read;
    answered = record { answered = is.answered; calm = answers_are_calm _ text is.answered };
  }

  in_part_calmly : StopsShort serve_limits Counts (IsTableAnsweredInPart old new false) left left' written written'
      → StopsShort serve_limits Counts (IsTableAnsweredCalmlyInPart old new false) left left' written written'
  in_part_calmly is = (is.0, (is.1.0, (is.1.1.0, record { answered = is.1.1.1; calm = answers_are_calm is.0 is.1.1.1.output is.1.1.1.answered }, is.1.1.2)))

  by_status : IsTxnStatus status → IsDone status ⊎ ((status ≡ 9) ⊎ (status ≡ 10))
  by_status (inl (inl e)) = inl (inl e)
  by_status (inl (inr (inl e))) = absurd (calm.source_calm (ends.source_fault e))
  by_status (inl (inr (inr (inl e)))) = absurd (calm.sink_calm (ends.sink_fault e))
  by_status (inl (inr (inr (inr (inl e))))) = inl (inr e)
  by_status (inl (inr (inr (inr (inr e))))) = (let long = ends.too_long e in absurd (passes_none serve_limits left left' calm.script long.1.bytes calm.given calm.within long.1.given))
  by_status (inr (inl e)) = elim (ends.disk_fault e) [
    | inl log ↦ absurd (no_disk_fault old new log calm.disk)
    | inr table ↦ absurd (no_table_fault old new calm.log table calm.disk)
  ]
  by_status (inr (inr (inl e))) = absurd (let found = ends.no_log e in is_a_log one found.1.no_log.refusal old new calm.log found.1.no_log.no_log found.1.no_log.refuses)
  by_status (inr (inr (inr (inl e)))) = inr (inl e)
  by_status (inr (inr (inr (inr e)))) = inr (inr e)

  pub table_comes_through : TableComesThrough status old new left left' written written'
  table_comes_through = record {
    statuses = by_status ends.statuses;
    done = λ e. let found = ends.done e in (found.0, done_calmly found.0 found.1, found.2);
    no_memory = λ e. elim (ends.no_memory e) [
      | inl unopened ↦ inl unopened
      | inr (inl unloaded) ↦ inr (inl unloaded)
      | inr (inr short) ↦ inr (inr (in_part_calmly short))
    ];
  }

-- memory ran out before anything was done
pub table_ran_out : (disk : DiskState) (left written : Option (List ℕ)) → TableComesThrough 5 disk disk left left written written
table_ran_out disk left written = record {
  statuses = inl (inr refl);
  done = λ e. absurd (omega (arith, e));
  no_memory = λ e. inl (record {
    same = λ file. refl;
    time = record {
      later = omega arith;
      past = λ moment image le at. at;
      kept = λ moment image le at. at;
      images = λ moment image after until at. absurd (omega (arith, after, until));
      faults = omega arith;
      nature = refl;
    };
    unread = refl;
    silence = Appends-nil written;
  });
}
