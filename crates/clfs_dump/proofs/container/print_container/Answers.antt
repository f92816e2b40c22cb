use Rattle.clfs_dump.proofs.Words.{err_from_is_err_and, container_line, blocks_told}
use Rattle.clfs_dump.proofs.PrintedParts.{prints_behind, prints_no_more}
use Rattle.clfs_dump.proofs.container.print_container.Goals as goal

pub returns-in_err-print_text-clause-told : goal.returns-in_err-print_text-clause-told
returns-in_err-print_text-clause-told g c tells =
    let p = err_from_is_err_and c.from_residual.result c.from_residual.ensures.1 in
    let line = container_line c.args.listed.now.id c.args.listed.now.file in
    let told = blocks_told c.args.selection.now c.args.rows.now c.args.shape.now c.args.listed.now.id
    ((g.D.Disk.state c.args.disk.now).files c.args.listed.now.file) c.args.shape.now.container_sectors 0 in
    rw (p.1, p.2) (prints_no_more (g.K.Sink.written c.args.sink.now) (g.K.Sink.written c.print_text.new.sink) line told.text tt told.found
    c.in_err-print_text.field-0.0 (c.in_err-print_text.ensures.told line c.container_text.ensures))

pub returns-clause-told : goal.returns-clause-told
returns-clause-told g c tells =
    let line = container_line c.args.listed.now.id c.args.listed.now.file in
    let told = blocks_told c.args.selection.now c.args.rows.now c.args.shape.now c.args.listed.now.id
    ((g.D.Disk.state c.args.disk.now).files c.args.listed.now.file) c.args.shape.now.container_sectors 0 in
    prints_behind (g.K.Sink.written c.args.sink.now) (g.K.Sink.written c.print_text.new.sink) (g.K.Sink.written c.print_blocks.new.sink) line told.text
    told.found c.print_blocks.result (c.in_ok-print_text.ensures.told line c.container_text.ensures).0 (c.print_blocks.ensures.told tells)
