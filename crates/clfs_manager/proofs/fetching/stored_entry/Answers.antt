use Rattle.clfs_manager.proofs.Words.{rules, ℕ, sym, ap, subst, ◌∙◌, Head, LogEntry, IsSome, Buffered, kept_at, block_place}
use Rattle.std.proofs.Common.{Result, Ok, Err}
use Rattle.clfs_buffers.specs.declared.refusal.ReadRefusal.TheVariants as reads
use Rattle.clfs_manager.proofs.Fetched.{kept_bytes, kept_used}
use Rattle.clfs_manager.proofs.Gotten.{block_kept}
use Rattle.clfs_manager.proofs.OwnRefusals.{error_of}
use Rattle.clfs_manager.proofs.ReadKeeps.{open_kept}
use Rattle.clfs_manager.proofs.fetching.stored_entry.Goals as goal

abbrev answer : LogEntry → Result LogEntry ℕ
answer entry = Ok entry

pub entry_on_disk-requires-clause-open : goal.entry_on_disk-requires-clause-open
entry_on_disk-requires-clause-open g c = open_kept (g.D.Disk.state c.args.disk.now) c.args.log.now.state.value c.args.log.now c.kept_data.new.self
    (λ tells. kept_used c.args.log.now.state.value c.args.log.now.buffers c.kept_data.new.self c.args.head.lsn c.kept_data.ensures.used
    (c.changes_keep_blocks.ensures.used c.args.log.now.buffers (block_place c.args.head.lsn)) (c.requires.open.kept tells)) c.requires.open

pub returns-in_err-bytes-clause-reads : goal.returns-in_err-bytes-clause-reads
returns-in_err-bytes-clause-reads g c = rw (error_of c.from_residual.result reads.NoMemory c.from_residual.ensures.1)
    (block_kept g.D.Disk.state c.args.head.lsn (Err reads.NoMemory) c.args.log.now c.kept_data.new.self c.args.disk.now c.kept_data.ensures.used
    (c.changes_keep_blocks.ensures.used c.args.log.now.buffers (block_place c.args.head.lsn)) c.requires.open.kept (λ e. cc e) tt tt tt)

pub returns-in-Some-clause-reads : goal.returns-in-Some-clause-reads
returns-in-Some-clause-reads g c =
    block_kept g.D.Disk.state c.args.head.lsn (Ok c.entry_of.result) c.args.log.now c.kept_data.new.self c.args.disk.now c.kept_data.ensures.used
    (c.changes_keep_blocks.ensures.used c.args.log.now.buffers (block_place c.args.head.lsn)) c.requires.open.kept (λ e. cc e) tt c.entry_of.ensures.lsn (search rules)

pub returns-in-None-clause-reads : goal.returns-in-None-clause-reads
returns-in-None-clause-reads g c =
    let read = c.entry_on_disk.ensures.reads in
    record {
      told = read.told;
      lsn = read.lsn;
      small = read.small;
      log = read.log;
      kept = read.kept;
      same = read.same;
      time = read.time;
      cause = read.cause;
      steady = read.steady;
      quiet = λ some.
          let place = block_place c.args.head.lsn in
          read.quiet (subst (λ (kept : Buffered). IsSome (kept_at place kept)) (sym c.kept_data.ensures.used)
          (subst IsSome (sym (c.changes_keep_blocks.ensures.used c.args.log.now.buffers place place)) some));
      calls_at_most = read.calls_at_most;
    }

pub returns-in-Some-clause-exact : goal.returns-in-Some-clause-exact
returns-in-Some-clause-exact g c tells entry needed is =
    let same = kept_bytes c.args.log.now.state.value c.args.log.now.buffers (c.requires.open.kept tells) c.args.head.lsn c.in-Some.bytes
    (sym c.in_ok-bytes.ensures.exact ∙ c.in-Some.is) entry needed.there (ap (λ (h : Head). h.lsn) is) in
    sym (ap answer (c.entry_of.ensures.entry entry is same))

pub returns-in-None-clause-exact : goal.returns-in-None-clause-exact
returns-in-None-clause-exact g c tells entry needed is = c.entry_on_disk.ensures.exact tells entry needed (ap (λ (h : Head). h.lsn) is)
