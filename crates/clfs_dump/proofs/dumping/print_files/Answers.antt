use Rattle.clfs_dump.proofs.Words.{◌≡◌, ℕ, Result, sym, ap, subst, Files, BaseImage, NewestRefusal, Told, copy_told, image_told}
use Rattle.clfs_dump.proofs.CopiesTold.{none_printed}
use Rattle.clfs_dump.proofs.DiskReads.{tells_still, unread, read_on, reads_then}
use Rattle.clfs_dump.proofs.Walks.{PrintsTold}
use Rattle.clfs_dump.proofs.dumping.print_files.Goals as goal

pub returns-in-Ok-clause-told : goal.returns-in-Ok-clause-told
returns-in-Ok-clause-told g c tells =
    let first = g.D.Disk.state c.args.disk.now in
    let now = g.D.Disk.state c.read_newest.new.disk in
    let a = g.K.Sink.written c.args.sink.now in
    let b = g.K.Sink.written c.print_log.new.sink in
    let sel = c.args.selection.now in
    let newest = rw c.in-Ok.is at (c.read_newest.ensures.newest tells) in
    let same : now.files ≡ first.files = λ i file. c.read_newest.ensures.same file i in
    subst (λ (t : Told ℕ). PrintsTold a b t c.print_log.result) (sym (ap (λ (r : Result (ℕ × BaseImage) NewestRefusal). copy_told sel first.files r) newest))
    (subst (λ (files : Files). PrintsTold a b (image_told sel files c.in-Ok.slot c.in-Ok.image) c.print_log.result) same
    (c.print_log.ensures.told (tells_still first now c.read_newest.ensures.time tells)))

pub returns-in-Ok-clause-reads : goal.returns-in-Ok-clause-reads
returns-in-Ok-clause-reads g c =
    let first = g.D.Disk.state c.args.disk.now in
    reads_then g.D.Disk.state c.calls_join.ensures c.args.disk.now c.read_newest.new.disk c.print_log.new.disk
    (read_on g.D.Disk.state c.calls_join.ensures c.args.disk.now c.args.disk.now c.read_newest.new.disk (unread first) c.read_newest.ensures.same
    c.read_newest.ensures.time (λ s. (c.read_newest.ensures.steady s).1)) c.print_log.result c.print_log.result (λ is. is) c.print_log.ensures.reads

pub returns-in-Err-clause-told : goal.returns-in-Err-clause-told
returns-in-Err-clause-told g c tells =
    let first = g.D.Disk.state c.args.disk.now in
    let a = g.K.Sink.written c.args.sink.now in
    none_printed c.args.selection.now first.files a c.in-Err.refusal c.from-in-Err.result c.from.result
    (rw c.in-Err.is at (c.read_newest.ensures.newest tells)) c.from.ensures c.from-in-Err.ensures
