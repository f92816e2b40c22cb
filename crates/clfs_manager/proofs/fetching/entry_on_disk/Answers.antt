use Rattle.clfs_manager.proofs.Words.{◌≡◌, ℕ, ◌<◌, ◌≤◌, List, length, refl, sym, ap, ◌∙◌, subst, Option, Some, None, Contains, slice_index, container_of}
use Rattle.clfs_manager.proofs.Words.{LogEntry, TellsContents, BaseImage, kept_at, block_place, record_in, Gives, flushed, hold, file_of, IsReadAt, shape_of}
use Rattle.std.proofs.Common.{Ok}
use Rattle.clfs_manager.proofs.Fetched.{is_stored, kept_gives, gives_as, file_gives, kept_after}
use Rattle.clfs_manager.proofs.Placed.{told_byte}
use Rattle.clfs_manager.proofs.fetching.entry_on_disk.Goals as goal
use Rattle.clfs_manager.proofs.fetching.entry_on_disk.Given.{Over}

module _ (g : Over) (c : goal.After-read g) where
  abbrev image : BaseImage
  image = c.args.log.now.physical.image

  abbrev entries : List LogEntry
  entries = c.requires.open.stored.entries

  reads : TellsContents (g.D.Disk.state c.args.disk.now) → (entry : LogEntry) → Contains entries entry
      → IsReadAt (shape_of image) (length image.streams) ((g.D.Disk.state c.args.disk.now).files (file_of image entry.lsn)) entry
  reads tells entry has = c.stored_records_are_read.ensures.read image c.requires.open.blocks entries entry c.image-image.ensures.image c.requires.open.stored.log has
      (g.D.Disk.state c.args.disk.now).files
      (λ i lt. (c.requires.open.files tells).holds.opens (slice_index image.files i) (record { place = i; within = lt; is = refl }))

  of_shape : c.shape_of-shape.result ≡ shape_of image
  of_shape = c.shape_of-shape.ensures ∙ ap shape_of c.image-image.ensures.exact

  of_streams : length c.as_slice.result.now ≡ length image.streams
  of_streams = ap length c.as_slice.ensures ∙ ap (λ (i : BaseImage). length i.streams) c.image-image.ensures.exact

  of_file : c.file_of-file.result ≡ file_of image c.args.lsn
  of_file = c.file_of-file.ensures.file ∙ ap (λ (i : BaseImage). file_of i c.args.lsn) c.image-image.ensures.exact

pub returns-clause-exact : goal.returns-clause-exact
returns-clause-exact g c tells entry needed at = by_kept (kept_at (block_place c.args.lsn) c.args.log.now.buffers) refl
  where
    stable : entry.lsn < flushed c.args.log.now.state.value
    stable = subst (λ (n : ℕ). n < flushed c.args.log.now.state.value) (sym at) c.requires.stable

    by_kept : (o : Option (List LogEntry)) → kept_at (block_place c.args.lsn) c.args.log.now.buffers ≡ o → Gives {A = LogEntry} c.read.result (Ok entry)
    by_kept (Some records) is = gives_as c.read.result (record_in c.args.lsn records) entry
        (kept_gives c.args.log.now.state.value c.args.log.now.buffers (c.requires.open.kept tells) c.args.lsn records is entry needed.there at)
        (c.read.ensures.kept records is)
    by_kept None is = file_gives (image g c) (g.D.Disk.state c.args.disk.now).files c.shape_of-shape.result (length c.as_slice.result.now) c.file_of-file.result c.args.lsn
        (of_shape g c) (of_streams g c) (of_file g c) c.read.result entry at
        (reads g c tells entry (is_stored c.args.log.now.state.value c.args.log.now.physical c.requires.open.blocks c.requires.open.stored entry needed stable))
        (c.read.ensures.read is tells)

pub returns-clause-reads : goal.returns-clause-reads
returns-clause-reads g c = record {
  told = told_byte c.args.log.now.state.value c.shape_of-shape.result (length c.as_slice.result.now) c.args.lsn c.read.result
      (of_shape g c ∙ c.requires.sound.holds.image_shape) (of_streams g c ∙ c.requires.sound.holds.rows) c.read.ensures.told;
  lsn = c.read.ensures.lsn;
  small = c.read.ensures.small;
  log = refl;
  kept = λ tells.
      let there = c.requires.there in
      kept_after (image g c) (g.D.Disk.state c.args.disk.now).files c.shape_of-shape.result (length c.as_slice.result.now) c.file_of-file.result c.args.lsn
      (of_shape g c) (of_streams g c) (of_file g c) c.args.log.now.state.value (entries g c) c.args.log.now.buffers c.read.new.self
      (TellsContents (g.D.Disk.state c.args.disk.now)) c.read.result tells c.requires.sound.valid c.requires.stable
      (subst (λ (n : ℕ). container_of (hold c.args.log.now.state.value) ≤ container_of n) there.2 there.1.from_hold)
      (is_stored c.args.log.now.state.value c.args.log.now.physical c.requires.open.blocks c.requires.open.stored)
      (reads g c tells)
      (c.changes_keep_blocks.ensures.used c.args.log.now.buffers (block_place c.args.lsn))
      (λ records place found. c.changes_keep_blocks.ensures.joined c.args.log.now.buffers (block_place c.args.lsn) place records found)
      c.read.ensures.used c.read.ensures.joins c.read.ensures.refused (c.requires.open.kept tells);
  same = c.read.ensures.same;
  time = c.read.ensures.time;
  cause = c.read.ensures.cause;
  steady = c.read.ensures.steady;
  quiet = λ some. (c.read.ensures.quiet some).0;
  calls_at_most = c.read.ensures.calls_at_most;
}
