use Rattle.clfs_dump.proofs.Words.{ℕ, List, Result, ap, err_from_is_err_and, LoadRefusal, files_told, last_line, NoBase, DiskFault, NoMemory, SinkFault}
use Rattle.clfs_dump.specs.Lines.{end_line, damage_line}
use Rattle.clfs_dump.proofs.LastLines.{line_behind, line_short, no_line}
use Rattle.clfs_dump.proofs.dumping.dump.Goals as goal

abbrev line_of : Result ℕ LoadRefusal → List ℕ
line_of found = last_line found

pub returns-in_err-print_text-in-Ok-clause-told : goal.returns-in_err-print_text-in-Ok-clause-told
returns-in_err-print_text-in-Ok-clause-told g c tells =
    let p = err_from_is_err_and c.from_residual.result c.from_residual.ensures.1 in
    let told = files_told c.args.selection.now (g.D.Disk.state c.args.disk.now).files in
    let a = g.K.Sink.written c.args.sink.now in
    let b = g.K.Sink.written c.print_files.new.sink in
    let printed = rw c.in-Ok.is at (c.print_files.ensures.told tells) in
    let line = end_line c.in-Ok.lsn in
    rw (p.1, p.2) (line_short a b told.text told.found (g.K.Sink.written c.print_text.new.sink) line c.in_err-print_text-in-Ok.field-0.0 printed.0
    (ap line_of printed.1) (c.in_err-print_text-in-Ok.ensures.told line c.end_text.ensures))

pub returns-in_ok-print_text-in-Ok-clause-told : goal.returns-in_ok-print_text-in-Ok-clause-told
returns-in_ok-print_text-in-Ok-clause-told g c tells =
    let told = files_told c.args.selection.now (g.D.Disk.state c.args.disk.now).files in
    let a = g.K.Sink.written c.args.sink.now in
    let b = g.K.Sink.written c.print_files.new.sink in
    let printed = rw c.in-Ok.is at (c.print_files.ensures.told tells) in
    let line = end_line c.in-Ok.lsn in (
      line_behind a b told.text told.found (g.K.Sink.written c.print_text.new.sink) line printed.0 (ap line_of printed.1)
          (c.in_ok-print_text-in-Ok.ensures.told line c.end_text.ensures),
      printed.1,
    )

pub returns-in_err-print_text-in-Err-Damaged-clause-told : goal.returns-in_err-print_text-in-Err-Damaged-clause-told
returns-in_err-print_text-in-Err-Damaged-clause-told g c tells =
    let p = err_from_is_err_and c.from_residual-in_err-print_text-in-Err-Damaged.result c.from_residual-in_err-print_text-in-Err-Damaged.ensures.1 in
    let told = files_told c.args.selection.now (g.D.Disk.state c.args.disk.now).files in
    let a = g.K.Sink.written c.args.sink.now in
    let b = g.K.Sink.written c.print_files.new.sink in
    let printed = rw (c.in-Err-Damaged.is, c.in-Err-Damaged.field-0-is) at (c.print_files.ensures.told tells) in
    let line = damage_line c.in-Err-Damaged.container c.in-Err-Damaged.offset c.in-Err-Damaged.at in
    rw (p.1, p.2) (line_short a b told.text told.found (g.K.Sink.written c.print_text-in-Err-Damaged.new.sink) line
    c.in_err-print_text-in-Err-Damaged.field-0.0 printed.0 (ap line_of printed.1)
    (c.in_err-print_text-in-Err-Damaged.ensures.told line c.damage_text.ensures))

pub returns-in_ok-print_text-in-Err-Damaged-clause-told : goal.returns-in_ok-print_text-in-Err-Damaged-clause-told
returns-in_ok-print_text-in-Err-Damaged-clause-told g c tells =
    let told = files_told c.args.selection.now (g.D.Disk.state c.args.disk.now).files in
    let a = g.K.Sink.written c.args.sink.now in
    let b = g.K.Sink.written c.print_files.new.sink in
    let printed = rw (c.in-Err-Damaged.is, c.in-Err-Damaged.field-0-is) at (c.print_files.ensures.told tells) in
    let line = damage_line c.in-Err-Damaged.container c.in-Err-Damaged.offset c.in-Err-Damaged.at in (
      line_behind a b told.text told.found (g.K.Sink.written c.print_text-in-Err-Damaged.new.sink) line printed.0 (ap line_of printed.1)
          (c.in_ok-print_text-in-Err-Damaged.ensures.told line c.damage_text.ensures),
      printed.1,
    )

pub returns-in-Err-NoBase-clause-told : goal.returns-in-Err-NoBase-clause-told
returns-in-Err-NoBase-clause-told g c tells =
    let told = files_told c.args.selection.now (g.D.Disk.state c.args.disk.now).files in
    no_line (g.K.Sink.written c.args.sink.now) (g.K.Sink.written c.print_files.new.sink) told.text told.found NoBase tt
    (rw (c.in-Err-NoBase.is, c.in-Err-NoBase.field-0-is) at (c.print_files.ensures.told tells))

pub returns-in-Err-DiskFault-clause-told : goal.returns-in-Err-DiskFault-clause-told
returns-in-Err-DiskFault-clause-told g c tells =
    let told = files_told c.args.selection.now (g.D.Disk.state c.args.disk.now).files in
    no_line (g.K.Sink.written c.args.sink.now) (g.K.Sink.written c.print_files.new.sink) told.text told.found DiskFault tt
    (rw (c.in-Err-DiskFault.is, c.in-Err-DiskFault.field-0-is) at (c.print_files.ensures.told tells))

pub returns-in-Err-NoMemory-clause-told : goal.returns-in-Err-NoMemory-clause-told
returns-in-Err-NoMemory-clause-told g c tells =
    let told = files_told c.args.selection.now (g.D.Disk.state c.args.disk.now).files in
    no_line (g.K.Sink.written c.args.sink.now) (g.K.Sink.written c.print_files.new.sink) told.text told.found NoMemory tt
    (rw (c.in-Err-NoMemory.is, c.in-Err-NoMemory.field-0-is) at (c.print_files.ensures.told tells))

pub returns-in-Err-SinkFault-clause-told : goal.returns-in-Err-SinkFault-clause-told
returns-in-Err-SinkFault-clause-told g c tells =
    let told = files_told c.args.selection.now (g.D.Disk.state c.args.disk.now).files in
    no_line (g.K.Sink.written c.args.sink.now) (g.K.Sink.written c.print_files.new.sink) told.text told.found SinkFault tt
    (rw (c.in-Err-SinkFault.is, c.in-Err-SinkFault.field-0-is) at (c.print_files.ensures.told tells))
