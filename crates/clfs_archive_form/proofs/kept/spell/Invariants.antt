use Rattle.clfs_archive_form.proofs.Words.{◌≡◌, take, flat_map, record_bytes}
use Rattle.clfs_archive_form.proofs.kept.spell.Given as goal

abbrev pub invariant-loop-entry : goal.invariant-loop-entry
invariant-loop-entry l = l.content ≡ flat_map record_bytes (take l.entry-index l.entries)
