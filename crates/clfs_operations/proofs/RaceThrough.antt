-- Where nothing outside fails a race comes through.
use Rattle.std.proofs.Common.{◌≡◌, ℕ, false, List, [], ◌∷◌, ◌++◌, Bool, refl, ap, subst, ◌∙◌, inl, inr, arith}
use Rattle.std.specs.Prelude.{◌||◌, Option}
use Rattle.std.proofs.lemmas.Bool.{cases_Bool}
use Rattle.clfs_disk.specs.State.{DiskState}
use Rattle.clfs_model.specs.declared.call.Call.{Call}
use Rattle.clfs_model.specs.declared.journal.Entry.{Entry}
use Rattle.clfs_model.specs.declared.refusal.Refusal.TheVariants as refusals
use Rattle.clfs_model.specs.declared.reply.Happened.{Happened}
use Rattle.clfs_model.specs.declared.reply.Happened.TheVariants.{Fine}
use Rattle.clfs_model.specs.declared.reply.Reply.{Reply}
use Rattle.clfs_model.specs.declared.reply.Reply.TheVariants as replies
use Rattle.clfs_model.specs.declared.state.State.{State}
use Rattle.clfs_model.specs.Accepted.{race_limits}
use Rattle.clfs_model.specs.Happened.{happened_of}
use Rattle.clfs_model.specs.Journals.{GoesOn}
use Rattle.clfs_model.specs.Step.{Step}
use Rattle.clfs_shared.specs.Journal as journals
use Rattle.clfs_shared.specs.Journal.{is_fault, is_damage}
use Rattle.clfs_operations.specs.Complete.{DidNotFail, IsDone, NothingFailsRacing, AreCalm, replies_of, IsRacedCalmly, IsRacedCalmlyInPart, RaceComesThrough}
use Rattle.clfs_operations.specs.Race.{EndsRacing}
use Rattle.clfs_operations.specs.Raced.{HasTaken, IsRaced, IsRacedInPart, is_any_broken}
use Rattle.clfs_lines.specs.Answering.{IsWholeAnswer}
use Rattle.clfs_operations.specs.Serve.{IsServeStatus}
use Rattle.clfs_lines.specs.Taken.{AreReached}
use Rattle.clfs_lines.specs.declared.incomplete.IncompleteLine.TheVariants.{Counts}
use Rattle.clfs_operations.specs.Told.{tells_fault, tells_damage, tells_broken, has_fault, has_damage, has_broken}
use Rattle.clfs_operations.proofs.RaceEnds.{left_alone}
use Rattle.clfs_operations.proofs.TakenCalls.{or_parts, fine_by}
use Rattle.clfs_operations.proofs.Through.{AreOne, is_a_log, no_disk_fault, passes_none}

-- a step in which nothing happened isn't answered that something did
pub record AreFine : Type 0 where
  pub fine : (told : Bool) (s : State) (client : ℕ) (call : Call) (reply : Reply) (t : State) → Step told s client call Fine reply t → happened_of reply ≡ Fine

no_fault_in : (reply : Reply) → happened_of reply ≡ Fine → tells_fault reply ≡ false
no_fault_in (replies.Refused refusals.DiskFault) e = absurd (cc e)
no_fault_in (replies.Refused refusal) e = refl
no_fault_in reply e = refl

no_damage_in : (reply : Reply) → happened_of reply ≡ Fine → tells_damage reply ≡ false
no_damage_in (replies.Refused (refusals.Damaged container offset at)) e = absurd (cc e)
no_damage_in (replies.Refused refusal) e = refl
no_damage_in reply e = refl

-- a legal journal in which nothing happened is answered so
replies_are_fine : AreFine → (told : Bool) (before : List Entry) (s t : State) (entries : List Entry) → GoesOn told before s entries t
    → journals.has_fault entries ≡ false → journals.has_damage entries ≡ false
    → (has_fault (replies_of entries) ≡ false) × (has_damage (replies_of entries) ≡ false)
replies_are_fine law told before s t [] goes no_fault no_damage = (refl, refl)
replies_are_fine law told before s t (entry ∷ entries) goes no_fault no_damage =
    let faults = or_parts (is_fault entry.happened) (journals.has_fault entries) no_fault in
    let damages = or_parts (is_damage entry.happened) (journals.has_damage entries) no_damage in
    let step = subst (λ (h : Happened). Step told s entry.client entry.call h entry.reply goes.0) (fine_by entry.happened faults.0 damages.0) goes.1.0.step in
    let fine = law.fine told s entry.client entry.call entry.reply goes.0 step in
    let first = no_fault_in entry.reply fine in
    let whole = no_damage_in entry.reply fine in
    let rest = replies_are_fine law told (before ++ entry ∷ []) goes.0 t entries goes.1.1 faults.1 damages.1 in
    (rw (first, rest.0) refl, rw (whole, rest.1) refl)

broken_in_replies : (entries : List Entry) → has_broken (replies_of entries) ≡ is_any_broken entries
broken_in_replies [] = refl
broken_in_replies (entry ∷ entries) = ap (λ (rest : Bool). tells_broken entry.reply || rest) (broken_in_replies entries)

-- memory ran out before it was to be
pub race_ran_out : (buffers : ℕ) (disk : DiskState) (left left' written written' : Option (List ℕ)) → RaceComesThrough 5 buffers disk disk left left' written written'
race_ran_out buffers disk left left' written written' = record {
  statuses = inr refl;
  done = λ e. absurd (omega (arith, e));
  no_memory = λ e. inl (left_alone disk);
}

module _ (one : AreOne) (law : AreFine) (status buffers : ℕ) (old new : DiskState) (left left' written written' : Option (List ℕ)) (source source' sink sink' : ℕ)
    (ends : EndsRacing status buffers old new left left' written written' source source' sink sink')
    (calm : NothingFailsRacing old new left source source' sink sink') where
  -- no call tells a fault
  journal_is_calm : (journal : List Entry) → HasTaken buffers old new journal → AreCalm (replies_of journal)
  journal_is_calm journal taken = by_disk calm.disk
    where
      with_none : journals.has_fault journal ≡ false → AreCalm (replies_of journal)
      with_none none =
          let fine = replies_are_fine law old.nature.tells_contents [] taken.first taken.last journal taken.legal none (taken.damage calm.log.told) in
          record { no_fault = fine.0; no_damage = fine.1; no_broken = broken_in_replies journal ∙ taken.unbroken calm.log.told none }

      by_disk : DidNotFail old new → AreCalm (replies_of journal)
      by_disk (inr steady) = with_none (taken.steady steady.0 calm.log.told steady.1)
      by_disk (inl still) = elim (cases_Bool (journals.has_fault journal)) [
        | inl some ↦ absurd (still (taken.cause some))
        | inr none ↦ with_none none
      ]

  done_calmly : (text : List ℕ) → IsWholeAnswer race_limits Counts (IsRaced buffers old new) left left' text → IsWholeAnswer race_limits Counts (IsRacedCalmly buffers old new) left left' text
  done_calmly text is = record {
    script = is.script;
    read = is.read;
    answered = record { raced = is.answered; calm = journal_is_calm is.answered.journal is.answered.taken };
  }

  in_part_calmly : ((lines : List (List ℕ)) × (AreReached race_limits Counts left left' lines × IsRacedInPart buffers old new lines))
      → (lines : List (List ℕ)) × (AreReached race_limits Counts left left' lines × IsRacedCalmlyInPart buffers old new lines)
  in_part_calmly is = (is.0, (is.1.0, record { raced = is.1.1; calm = journal_is_calm is.1.1.journal is.1.1.taken }))

  by_status : IsServeStatus status → IsDone status
  by_status (inl (inl e)) = inl e
  by_status (inl (inr (inl e))) = absurd (calm.source_calm (ends.source_fault e).cause)
  by_status (inl (inr (inr (inl e)))) = absurd (calm.sink_calm (ends.sink_fault e))
  by_status (inl (inr (inr (inr (inl e))))) = inr e
  by_status (inl (inr (inr (inr (inr e))))) =
      (let long = ends.too_long e in absurd (passes_none race_limits left left' calm.script long.1.bytes calm.given calm.within long.1.given))
  by_status (inr (inl e)) = absurd (no_disk_fault old new (ends.disk_fault e) calm.disk)
  by_status (inr (inr e)) = absurd (let found = ends.no_log e in is_a_log one found.1.no_log.refusal old new calm.log found.1.no_log.no_log found.1.no_log.refuses)

  pub race_comes_through : RaceComesThrough status buffers old new left left' written written'
  race_comes_through = record {
    statuses = by_status ends.statuses;
    done = λ e. let found = ends.done e in (found.0, done_calmly found.0 found.1, found.2);
    no_memory = λ e. elim (ends.no_memory e) [
      | inl unopened ↦ inl unopened
      | inr short ↦ inr (in_part_calmly short)
    ];
  }
