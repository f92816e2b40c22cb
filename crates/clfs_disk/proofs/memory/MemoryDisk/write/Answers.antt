use Rattle.std.proofs.Common.{rules, ◌≡◌, ◌∙◌, ◌+◌, ◌≤◌, ℕ, List, Vec, length, set, ap, arith, refl}
use Rattle.std.specs.declared.alloc.Global.{Global}
use Rattle.std.proofs.lemmas.List.{length-set}
use Rattle.clfs_disk.specs.Files.{Unchanged, TornIn, WrittenIn, overwritten}
use Rattle.clfs_disk.specs.Copies.{read_files, first_files, now_of}
use Rattle.clfs_disk.specs.declared.copies.FileCopies.{FileCopies}
use Rattle.clfs_disk.specs.declared.record.Event.TheVariants.{Wrote}
use Rattle.clfs_disk.proofs.Moments.{passes_weaker, torn_unchanged}
use Rattle.clfs_disk.proofs.Places.{torn_in_written}
use Rattle.clfs_disk.proofs.Tables.{change_in_file, change_in_no_file}
use Rattle.clfs_disk.proofs.Holdings.{holds_after, counted_after, sound_after_write}
use Rattle.clfs_disk.proofs.Replays.{passes_noted, read_after_write, image_written}
use Rattle.clfs_disk.proofs.memory.MemoryDisk.write.Goals as goal

pub returns-then-not-admits_write-clause-call : goal.returns-then-not-admits_write-clause-call
returns-then-not-admits_write-clause-call c = record {
  written = search rules;
  torn = torn_unchanged c.args.file c.args.at (length c.args.bytes.now) _ _ c.refuse.ensures.same;
  time = passes_weaker Unchanged (TornIn c.args.file c.args.at (length c.args.bytes.now)) _ _
      (λ d e same. torn_unchanged c.args.file c.args.at (length c.args.bytes.now) d e same) c.refuse.ensures.time;
  calls = search rules;
  cause = search rules;
  steady = search rules;
}

pub invariant_of-self : goal.invariant_of-self
invariant_of-self c =
    let files = c.args.self.now.files.items in
    let holds = c.args.self.now.holds in
    let m = now_of files c.args.self.now.history.calls.items c.args.self.now.history.written.items in
    let written : WrittenIn c.args.file c.args.at c.args.bytes.now (read_files files) (read_files (set files c.args.file c.write_at.new.self)) =
    change_in_file (λ (copies : FileCopies). copies.read.items) files c.args.file c.write_at.new.self (omega (arith, holds.count))
    (λ old new. new ≡ overwritten old c.args.at c.args.bytes.now) c.index_mut.result.now c.index_mut.ensures.value c.write_at.ensures.read in
    let room : c.args.at + length c.args.bytes.now ≤ length (m.files c.args.file) =
    omega (arith, c.if-not-admits_write.ensures.range refl, ap (λ (l : List ℕ). length l) (holds.read c.args.file)) in
    let bytes = λ (v : Vec ℕ Global). v.items in
    record {
      counted = counted_after _ _ (Wrote c.args.file c.args.at (length c.args.bytes.now)) _ _ _ _ c.args.self.now.counted (omega arith) (omega arith)
          c.note_write.ensures.calls c.saturating_add-self.ensures c.note_write.ensures.call_room;
      holds = holds_after files c.args.self.now.history.calls.items c.args.self.now.history.written.items holds _ _ _ c.args.bytes.now
          (Wrote c.args.file c.args.at (length c.args.bytes.now))
          (length-set files c.args.file c.write_at.new.self)
          (change_in_no_file (λ (copies : FileCopies). copies.first.items) files c.args.file c.write_at.new.self
          (omega (arith, holds.count)) c.index_mut.result.now c.index_mut.ensures.value (ap bytes c.write_at.ensures.first))
          c.note_write.ensures.calls c.note_write.ensures.written refl
          (read_after_write m c.args.file c.args.at c.args.bytes.now (read_files files) _ holds.read written)
          (λ file. change_in_no_file (λ (copies : FileCopies). copies.synced.items) files c.args.file c.write_at.new.self
          (omega (arith, holds.count)) c.index_mut.result.now c.index_mut.ensures.value
          (ap bytes c.write_at.ensures.synced) file ∙ holds.synced file)
          (sound_after_write m holds.sound c.args.file c.args.at c.args.bytes.now room);
    }

pub returns-clause-call : goal.returns-clause-call
returns-clause-call c =
    let files = c.args.self.now.files.items in
    let holds = c.args.self.now.holds in
    let m = now_of files c.args.self.now.history.calls.items c.args.self.now.history.written.items in
    let fits = c.if-not-admits_write.ensures.range refl in
    let room : c.args.at + length c.args.bytes.now ≤ length (m.files c.args.file) =
    omega (arith, fits, ap (λ (l : List ℕ). length l) (holds.read c.args.file)) in
    let written : WrittenIn c.args.file c.args.at c.args.bytes.now (read_files files) (read_files (set files c.args.file c.write_at.new.self)) =
    change_in_file (λ (copies : FileCopies). copies.read.items) files c.args.file c.write_at.new.self (omega (arith, holds.count))
    (λ old new. new ≡ overwritten old c.args.at c.args.bytes.now) c.index_mut.result.now c.index_mut.ensures.value c.write_at.ensures.read in
    record {
      written = λ told. (fits, written);
      torn = torn_in_written c.args.file c.args.at c.args.bytes.now _ _ fits written;
      time = passes_noted (TornIn c.args.file c.args.at (length c.args.bytes.now))
          (first_files files) _ c.args.self.now.history.calls.items _ c.args.self.now.history.written.items _ c.args.bytes.now
          (Wrote c.args.file c.args.at (length c.args.bytes.now)) _ _ _ _ _
          (change_in_no_file (λ (copies : FileCopies). copies.first.items) files c.args.file c.write_at.new.self
          (omega (arith, holds.count)) c.index_mut.result.now c.index_mut.ensures.value
          (ap (λ (v : Vec ℕ Global). v.items) c.write_at.ensures.first))
          c.note_write.ensures.calls c.note_write.ensures.written holds.bytes refl
          (λ image at. image_written m c.args.file c.args.at c.args.bytes.now image room at);
      calls = search rules;
      cause = search rules;
      steady = search rules;
    }

pub returns-clause-synced : goal.returns-clause-synced
returns-clause-synced c =
    change_in_no_file (λ (copies : FileCopies). copies.synced.items) c.args.self.now.files.items c.args.file c.write_at.new.self
    (omega (arith, c.args.self.now.holds.count)) c.index_mut.result.now c.index_mut.ensures.value
    (ap (λ (v : Vec ℕ Global). v.items) c.write_at.ensures.synced)
