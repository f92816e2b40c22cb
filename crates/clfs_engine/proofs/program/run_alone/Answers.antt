use Rattle.std.proofs.Common.{rules, ◌≡◌, map, Option, Some, None}
use Rattle.std.specs.String.{string_bytes}
use Rattle.clfs_command.specs.Command.{command_of}
use Rattle.clfs_command.specs.declared.words.Command.{Command}
use Rattle.clfs_command.specs.declared.words.Command.TheVariants.{Format, Serve, Race, Trial, Crew, Check, Crowd, Dump, Txn, Archive, Restore}
use Rattle.clfs_engine.specs.Run.{EndsRun, Outside}
use Rattle.clfs_engine.proofs.RanOut.{table_ends}
use Rattle.clfs_engine.proofs.program.run_alone.Goals as goal

-- memory ran out before the words were read, so the command may be any
pub returns-in-Err-NoMemory-clause-ends : goal.returns-in-Err-NoMemory-clause-ends
returns-in-Err-NoMemory-clause-ends g c = by_case (command_of (map string_bytes c.args.words.now))
  where
    by_case : (command : Option Command) → EndsRun command 5 (record {
      disk = g.D.Disk.state c.args.disk;
      disk_after = g.D.Disk.state c.args.disk;
      left = g.S.Source.left c.args.source.now;
      left_after = g.S.Source.left c.args.source.now;
      written = g.K.Sink.written c.args.sink.now;
      written_after = g.K.Sink.written c.args.sink.now;
      source = g.S.Source.faults c.args.source.now;
      source_after = g.S.Source.faults c.args.source.now;
      sink = g.K.Sink.faults c.args.sink.now;
      sink_after = g.K.Sink.faults c.args.sink.now;
    })
    by_case (Some (Serve buffers reads length)) = record { ends = search rules; comes = search rules }
    by_case (Some (Race buffers)) =
        record { ends = c.memory_runs_out_at_once.ensures.races buffers c.args.disk (g.S.Source.left c.args.source.now) (g.K.Sink.written c.args.sink.now) (g.S.Source.faults c.args.source.now) (g.K.Sink.faults c.args.sink.now); comes = λ calm. c.memory_runs_out_at_once.ensures.race_comes_through buffers c.args.disk (g.S.Source.left c.args.source.now) (g.K.Sink.written c.args.sink.now) }
    by_case (Some (Format shape containers dedicated)) = record { ends = search rules; comes = search rules }
    by_case (Some (Trial number count)) = record { ends = search rules; comes = search rules }
    by_case (Some (Crew threads count)) = record { ends = search rules; comes = search rules }
    by_case (Some (Crowd threads count)) = record { ends = search rules; comes = search rules }
    by_case (Some Check) = record { ends = search rules; comes = search rules }
    by_case (Some (Dump options)) = record { ends = search rules; comes = search rules }
    by_case (Some Txn) = record { ends = table_ends (g.D.Disk.state c.args.disk) (g.S.Source.left c.args.source.now) (g.K.Sink.written c.args.sink.now) (g.S.Source.faults c.args.source.now) (g.K.Sink.faults c.args.sink.now) (c.memory_runs_out_at_once.ensures.alone c.args.disk); comes = λ calm. c.memory_runs_out_at_once.ensures.table_comes_through c.args.disk (g.S.Source.left c.args.source.now) (g.K.Sink.written c.args.sink.now) }
    by_case (Some Archive) = record { ends = c.memory_runs_out_at_once.ensures.archives c.args.disk (g.K.Sink.written c.args.sink.now) (g.K.Sink.faults c.args.sink.now); comes = search rules }
    by_case (Some (Restore up_to)) = record { ends = c.memory_runs_out_at_once.ensures.restores up_to c.args.disk (g.S.Source.left c.args.source.now) (g.K.Sink.written c.args.sink.now) (g.S.Source.faults c.args.source.now) (g.K.Sink.faults c.args.sink.now); comes = search rules }
    by_case None = record { ends = search rules; comes = search rules }
