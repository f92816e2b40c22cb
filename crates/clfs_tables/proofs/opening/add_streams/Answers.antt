use Rattle.std.proofs.Common.{◌∙◌, ◌++◌, [], ◌∷◌, ap, List}
use Rattle.clfs_lsn.specs.Lsn.{null_lsn}
use Rattle.clfs_lsn.specs.declared.stream.Stream.{Stream}
use Rattle.clfs_tables.proofs.Tabling.{names_before, new_name, streams_more}
use Rattle.clfs_tables.proofs.opening.add_streams.Goals as goal

pub add_stream-requires-clause-new : goal.add_stream-requires-clause-new
add_stream-requires-clause-new c =
    rw (c.in_ok-name.ensures, c.reserve_stream.ensures.same.streams ∙ c.loop-row.invariant.0)
    (new_name 1 c.row-item.result.name _ (names_before c.args.rows.now c.loop-row.row-index c.row-item.result c.requires.opened.2.different c.loop-row-test.true c.row-item.is))

pub loop-row-preserved : goal.loop-row-preserved
loop-row-preserved c = (
  c.add_stream.ensures.streams
      ∙ ap (λ (streams : List Stream). streams ++ record { name = c.in_ok-name.name; base = null_lsn } ∷ []) (c.reserve_stream.ensures.same.streams ∙ c.loop-row.invariant.0)
      ∙ rw c.in_ok-name.ensures (streams_more c.args.rows.now c.loop-row.row-index c.row-item.result c.loop-row-test.true c.row-item.is),
  c.add_stream.ensures.heads ∙ c.reserve_stream.ensures.same.heads ∙ c.loop-row.invariant.1,
  c.add_stream.ensures.low ∙ c.reserve_stream.ensures.same.low ∙ c.loop-row.invariant.2,
)
