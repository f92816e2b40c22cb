use Rattle.clfs_race.proofs.Words.{◌++◌, take}
use Rattle.std.proofs.KnownBytes.{Consumes-trans}
use Rattle.clfs_race.proofs.Outcomes.{on_err}
use Rattle.clfs_race.proofs.input.take_bytes.Goals as goal

pub returns-in_err-extend_from_slice-clause-out_of_memory : goal.returns-in_err-extend_from_slice-clause-out_of_memory
returns-in_err-extend_from_slice-clause-out_of_memory g c =
    let bytes = c.loop-source.bytes.items in
    let more = take c.in-Ok.count c.read.new.out in
    on_err c.from_residual-in_err-extend_from_slice.result _ (
      bytes ++ more,
      Consumes-trans (g.S.Source.left c.args.source.now) (g.S.Source.left c.loop-source.source) (g.S.Source.left c.read.new.self) bytes more
          c.loop-source.invariant.taken c.in-Ok.ensures.bytes.0,
    )
