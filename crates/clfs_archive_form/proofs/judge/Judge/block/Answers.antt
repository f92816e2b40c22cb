use Rattle.clfs_archive_form.proofs.Words.{[], subst, lsn_number, block_records, Judging, JudgesBlock}
use Rattle.clfs_archive_form.proofs.Bare.{bare, bare_bases}
use Rattle.clfs_archive_form.proofs.Blocks.{judges}
use Rattle.clfs_archive_form.proofs.judge.Judge.block.Goals as goal

pub returns-clause-exact : goal.returns-clause-exact
returns-clause-exact c =
    let bases = c.self.inside.bases.items in
    let start = lsn_number c.args.place.now.container c.args.place.now.offset 0 in
    subst (λ (s : Judging). JudgesBlock c.args.place.now.container c.args.place.now.offset c.gather_block.result
    (block_records s.shape s.streams start c.args.bytes.now)) c.self.view_is
    (judges (λ entries. Unit {0}) (bare bases) c.gather_block.new.bases.items [] c.args.place.now.container c.args.place.now.offset c.gather_block.result _
    (c.gather_block.ensures.exact (bare bases) [] (record { records = tt; moved = bare_bases bases })))
