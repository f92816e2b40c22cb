use Rattle.clfs_archive_form.proofs.Words.{◌≡◌, ℕ, List, [], Option, Result, Ok, sym, ◌∙◌, ap, subst, lsn_number, LogEntry, block_records, BlockRefusal}
use Rattle.clfs_archive_form.proofs.Words.{LoadRefusal}
use Rattle.clfs_archive_form.proofs.Bare.{bare, bare_bases}
use Rattle.clfs_archive_form.proofs.Blocks.{gathered}
use Rattle.clfs_archive_form.proofs.kept.block_entries.Goals as goal

abbrev right : List LogEntry → Result (List LogEntry) BlockRefusal
right entries = Ok entries

abbrev found : Option ℕ → Result (Option ℕ) LoadRefusal
found sectors = Ok sectors

pub returns-in-Ok-Some : goal.returns-in-Ok-Some
returns-in-Ok-Some c =
    let bases = c.resize.new.self.items in
    let start = lsn_number c.args.place.now.container c.args.place.now.offset 0 in
    let new = c.gather_block.new.gatherer in
    let taken = gathered (λ (entries : List LogEntry). new ≡ entries) (bare bases) c.gather_block.new.bases.items [] c.args.place.now.container c.args.place.now.offset
    c.in-Ok-Some.field-0-0 c.gather_block.result _ (c.in-Ok-Some.is ∙ ap found c.in-Ok-Some.field-0-is)
    (c.gather_block.ensures.exact (bare bases) [] (record { records = c.new-entries.ensures; moved = bare_bases bases })) in
    subst (λ (n : ℕ). block_records c.args.shape.now n start c.args.bytes.now ≡ Ok new) c.in_ok-resize.ensures.len (taken.1 ∙ ap right (sym taken.2))
