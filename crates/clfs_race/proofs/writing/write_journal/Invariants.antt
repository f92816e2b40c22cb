use Rattle.clfs_race.proofs.Words.{◌≡◌, ◌++◌, take}
use Rattle.clfs_race.specs.Scripts.{journal_text}
use Rattle.clfs_race.proofs.writing.write_journal.Given as goal

abbrev pub invariant-loop-entry : goal.invariant-loop-entry
invariant-loop-entry l = l.out ≡ l.fn.out ++ journal_text (take l.entry-index l.journal)
