use Rattle.clfs_recover.proofs.Words.{sym, ◌∙◌, ap, err_from_is_err_and, Unchanged, TellsContents, newest_of, TellsBehind, TellsOpening}
use Rattle.std.proofs.lemmas.Result.{IfErr-weaker}
use Rattle.clfs_recover.proofs.Disks.{tells_still, steady_still, settled_still, always, of_refusals}
use Rattle.clfs_recover.proofs.Finding.{by_copy, listed_same}
use Rattle.clfs_recover.proofs.OpenedLogs.{walked_is_opened, opened_is_found}
use Rattle.clfs_recover.proofs.Told.{fault_told, reason_told, behind_told}
use Rattle.clfs_recover.proofs.opening.walk.Goals as goal

pub returns-clause-log : goal.returns-clause-log
returns-clause-log g c has =
    let first = g.D.Disk.state c.args.disk.now in
    let synced = g.D.Disk.state c.sync.new.self in
    let read = g.D.Disk.state c.read_newest.new.disk in
    walked_is_opened c.open_blocks_are_one_list.ensures.whole (g.G.Gatherer.has c.walk_image.new.gatherer) first (TellsContents read) read.files
    c.in_ok-slot.slot c.in_ok-slot.image c.walk_image.result
    (λ tells. tells_still Unchanged synced read c.in_ok-slot.ensures.time (tells_still Unchanged first synced c.sync.ensures.time tells))
    (λ file. c.in_ok-slot.ensures.same file ∙ c.sync.ensures.same file)
    (λ tells. ap newest_of (sym (c.sync.ensures.same 0)) ∙ c.in_ok-slot.ensures.newest (tells_still Unchanged first synced c.sync.ensures.time tells))
    (c.walk_image.ensures.log has)

pub returns-clause-exact : goal.returns-clause-exact
returns-clause-exact g c tells has =
    let first = g.D.Disk.state c.args.disk.now in
    let synced = g.D.Disk.state c.sync.new.self in
    let read = g.D.Disk.state c.read_newest.new.disk in
    let image = c.in_ok-slot.image in
    let told = tells_still Unchanged first synced c.sync.ensures.time tells in
    let still = tells_still Unchanged synced read c.in_ok-slot.ensures.time told in
    by_copy (g.G.Gatherer.has c.walk_image.new.gatherer) first.files c.in_ok-slot.slot image c.walk_image.result
    (ap newest_of (sym (c.sync.ensures.same 0)) ∙ c.in_ok-slot.ensures.newest told)
    (opened_is_found (g.G.Gatherer.has c.walk_image.new.gatherer) first c.walk_image.result tells (returns-clause-log g c has))
    (λ listed are. c.walk_image.ensures.refused still has listed
    (listed_same image.container_sectors first.files read.files image.files listed (λ file. c.in_ok-slot.ensures.same file ∙ c.sync.ensures.same file) are))

pub returns-clause-settled : goal.returns-clause-settled
returns-clause-settled g c = always c.walk_image.result (λ honest.
    settled_still g.D.Disk.state c.calls_join.ensures c.sync.new.self c.walk_image.new.disk (c.in_ok-sync.ensures.settled honest)
    (c.calls_join.ensures.reads c.sync.new.self c.read_newest.new.disk c.walk_image.new.disk c.in_ok-slot.ensures.time c.walk_image.ensures.time)
    (λ file. c.walk_image.ensures.same file ∙ c.in_ok-slot.ensures.same file))

pub returns-clause-settled_refused : goal.returns-clause-settled_refused
returns-clause-settled_refused g c = of_refusals _ c.walk_image.result (λ honest.
    settled_still g.D.Disk.state c.calls_join.ensures c.sync.new.self c.walk_image.new.disk (c.in_ok-sync.ensures.settled honest)
    (c.calls_join.ensures.reads c.sync.new.self c.read_newest.new.disk c.walk_image.new.disk c.in_ok-slot.ensures.time c.walk_image.ensures.time)
    (λ file. c.walk_image.ensures.same file ∙ c.in_ok-slot.ensures.same file))

pub returns-in_err-slot-clause-settled_refused : goal.returns-in_err-slot-clause-settled_refused
returns-in_err-slot-clause-settled_refused g c = of_refusals _ c.from_residual-in_err-slot.result (λ honest.
    settled_still g.D.Disk.state c.calls_join.ensures c.sync.new.self c.read_newest.new.disk (c.in_ok-sync.ensures.settled honest)
    c.in_err-slot.ensures.time c.in_err-slot.ensures.same)

pub returns-clause-told : goal.returns-clause-told
returns-clause-told g c has =
    let slot = c.in_ok-slot.slot in
    let image = c.in_ok-slot.image in
    IfErr-weaker c.walk_image.result (TellsBehind slot image) TellsOpening (λ refusal. behind_told slot image refusal c.in_ok-slot.ensures.told)
    (c.walk_image.ensures.told has)

pub returns-in_err-sync-clause-told : goal.returns-in_err-sync-clause-told
returns-in_err-sync-clause-told g c has =
    let p = err_from_is_err_and c.from_residual.result c.from_residual.ensures.1 in
    rw (p.1, p.2) fault_told

pub returns-in_err-slot-clause-time : goal.returns-in_err-slot-clause-time
returns-in_err-slot-clause-time g c = c.calls_join.ensures.reads c.args.disk.now c.sync.new.self c.read_newest.new.disk c.sync.ensures.time c.in_err-slot.ensures.time

pub returns-in_err-slot-clause-told : goal.returns-in_err-slot-clause-told
returns-in_err-slot-clause-told g c has =
    let p = err_from_is_err_and c.from_residual-in_err-slot.result c.from_residual-in_err-slot.ensures.1 in
    rw (p.1, p.2) (reason_told c.in_err-slot.field-0.0 c.in_err-slot.ensures.told)

pub returns-clause-steady : goal.returns-clause-steady
returns-clause-steady g c steady =
    let first = g.D.Disk.state c.args.disk.now in
    let synced = g.D.Disk.state c.sync.new.self in
    let read = g.D.Disk.state c.read_newest.new.disk in
    let then = steady_still Unchanged first synced c.sync.ensures.time steady in
    let walk = c.walk_image.ensures.steady (steady_still Unchanged synced read c.in_ok-slot.ensures.time then) in
    (walk.0, walk.1 ∙ (c.in_ok-slot.ensures.steady then).1 ∙ (c.sync.ensures.steady steady).1)
