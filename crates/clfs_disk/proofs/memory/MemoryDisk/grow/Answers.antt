use Rattle.std.proofs.Common.{rules, ◌≡◌, ◌∙◌, ◌<◌, ℕ, [], List, Vec, length, set, ap, arith, sym, refl}
use Rattle.std.specs.declared.alloc.Global.{Global}
use Rattle.std.proofs.lemmas.List.{length-set, append-nil}
use Rattle.clfs_disk.specs.Files.{Unchanged, GrownIn, LengthenedIn, lengthened}
use Rattle.clfs_disk.specs.Copies.{read_files, first_files, synced_files, now_of}
use Rattle.clfs_disk.specs.declared.copies.FileCopies.{FileCopies}
use Rattle.clfs_disk.specs.declared.record.Event.TheVariants.{Grew}
use Rattle.clfs_disk.proofs.Moments.{grown_unchanged}
use Rattle.clfs_disk.proofs.Places.{grown_in_lengthened}
use Rattle.clfs_disk.proofs.Tables.{change_in_file, change_in_no_file}
use Rattle.clfs_disk.proofs.Holdings.{holds_after, counted_after, holds_same, sound_after_growth}
use Rattle.clfs_disk.proofs.Replays.{passes_noted, passes_unnoted, read_after_growth, image_grown}
use Rattle.clfs_disk.proofs.memory.MemoryDisk.grow.Goals as goal

pub invariant_of-self : goal.invariant_of-self
invariant_of-self c =
    let files = c.args.self.now.files.items in
    let holds = c.args.self.now.holds in
    let lt : c.args.file < length files = omega (arith, holds.count) in
    let m = now_of files c.args.self.now.history.calls.items c.args.self.now.history.written.items in
    let read : LengthenedIn c.args.file c.args.len (read_files files) (read_files (set files c.args.file c.grow_to.new.self)) =
    change_in_file (λ (copies : FileCopies). copies.read.items) files c.args.file c.grow_to.new.self lt
    (λ old new. new ≡ lengthened old c.args.len) c.index_mut.result.now c.index_mut.ensures.value c.in-Ok.ensures.read in
    let synced : LengthenedIn c.args.file c.args.len (synced_files files) (synced_files (set files c.args.file c.grow_to.new.self)) =
    change_in_file (λ (copies : FileCopies). copies.synced.items) files c.args.file c.grow_to.new.self lt
    (λ old new. new ≡ lengthened old c.args.len) c.index_mut.result.now c.index_mut.ensures.value c.in-Ok.ensures.synced in
    record {
      counted = counted_after _ _ (Grew c.args.file c.args.len) _ _ _ _ c.args.self.now.counted (omega arith) (omega arith) c.note.ensures.calls
          c.saturating_add-self.ensures c.note.ensures.call_room;
      holds = holds_after files c.args.self.now.history.calls.items c.args.self.now.history.written.items holds _ _ _ [] (Grew c.args.file c.args.len)
          (length-set files c.args.file c.grow_to.new.self)
          (change_in_no_file (λ (copies : FileCopies). copies.first.items) files c.args.file c.grow_to.new.self lt c.index_mut.result.now c.index_mut.ensures.value c.in-Ok.ensures.first)
          c.note.ensures.calls (ap (λ (v : Vec ℕ Global). v.items) c.note.ensures.written ∙ sym (append-nil _)) refl
          (read_after_growth m.files c.args.file c.args.len (read_files files) _ holds.read read)
          (read_after_growth m.synced c.args.file c.args.len (synced_files files) _ holds.synced synced)
          (sound_after_growth m holds.sound c.args.file c.args.len);
    }

pub returns-in-Ok-clause-call : goal.returns-in-Ok-clause-call
returns-in-Ok-clause-call c =
    let files = c.args.self.now.files.items in
    let holds = c.args.self.now.holds in
    let m = now_of files c.args.self.now.history.calls.items c.args.self.now.history.written.items in
    let grown : LengthenedIn c.args.file c.args.len (read_files files) (read_files (set files c.args.file c.grow_to.new.self)) =
    change_in_file (λ (copies : FileCopies). copies.read.items) files c.args.file c.grow_to.new.self (omega (arith, holds.count))
    (λ old new. new ≡ lengthened old c.args.len) c.index_mut.result.now c.index_mut.ensures.value c.in-Ok.ensures.read in
    record {
      grown = λ told. grown;
      longer = grown_in_lengthened c.args.file c.args.len _ _ grown;
      time = passes_noted (GrownIn c.args.file c.args.len) (first_files files) _ c.args.self.now.history.calls.items _ c.args.self.now.history.written.items _ []
          (Grew c.args.file c.args.len) _ _ _ _ _
          (change_in_no_file (λ (copies : FileCopies). copies.first.items) files c.args.file c.grow_to.new.self
          (omega (arith, holds.count)) c.index_mut.result.now c.index_mut.ensures.value c.in-Ok.ensures.first)
          c.note.ensures.calls (ap (λ (v : Vec ℕ Global). v.items) c.note.ensures.written ∙ sym (append-nil _)) holds.bytes refl
          (λ image at. image_grown m c.args.file c.args.len image at);
      no_memory = search rules;
      calls = search rules;
      calls_at_most = search rules;
      cause = search rules;
      steady = search rules;
      long = search rules;
    }

pub invariant_of-self-in-Err : goal.invariant_of-self-in-Err
invariant_of-self-in-Err c =
    let files = c.args.self.now.files.items in
    let lt : c.args.file < length files = omega (arith, c.args.self.now.holds.count) in
    let same = λ (part : FileCopies → List ℕ) (is : part c.grow_to.new.self ≡ part c.index_mut.result.now).
    change_in_no_file part files c.args.file c.grow_to.new.self lt c.index_mut.result.now c.index_mut.ensures.value is in
    record {
      counted = c.args.self.now.counted;
      holds = holds_same files c.args.self.now.history.calls.items c.args.self.now.history.written.items c.args.self.now.holds _ _ _
          (length-set files c.args.file c.grow_to.new.self)
          (same (λ (copies : FileCopies). copies.first.items) c.in-Err.ensures.first)
          (same (λ (copies : FileCopies). copies.read.items) c.in-Err.ensures.same_read)
          (same (λ (copies : FileCopies). copies.synced.items) c.in-Err.ensures.same_synced)
          refl refl;
    }

pub returns-in-Err-clause-call : goal.returns-in-Err-clause-call
returns-in-Err-clause-call c =
    let files = c.args.self.now.files.items in
    let lt : c.args.file < length files = omega (arith, c.args.self.now.holds.count) in
    let first : Unchanged (first_files files) (first_files (set files c.args.file c.grow_to.new.self)) =
    change_in_no_file (λ (copies : FileCopies). copies.first.items) files c.args.file c.grow_to.new.self lt
    c.index_mut.result.now c.index_mut.ensures.value c.in-Err.ensures.first in
    let read : Unchanged (read_files files) (read_files (set files c.args.file c.grow_to.new.self)) =
    change_in_no_file (λ (copies : FileCopies). copies.read.items) files c.args.file c.grow_to.new.self lt
    c.index_mut.result.now c.index_mut.ensures.value c.in-Err.ensures.same_read in
    record {
      grown = search rules;
      longer = grown_unchanged c.args.file c.args.len _ _ read;
      time = passes_unnoted (GrownIn c.args.file c.args.len) (first_files files) _ _ _ _ _ _ _ _ _ _ _ first refl refl (omega arith);
      no_memory = λ is. (read, passes_unnoted Unchanged (first_files files) _ _ _ _ _ _ _ _ _ _ _ first refl refl (omega arith), refl);
      calls = search rules;
      calls_at_most = search rules;
      cause = search rules;
      steady = search rules;
      long = search rules;
    }

pub returns-in-Ok-clause-synced : goal.returns-in-Ok-clause-synced
returns-in-Ok-clause-synced c =
    change_in_file (λ (copies : FileCopies). copies.synced.items) c.args.self.now.files.items c.args.file c.grow_to.new.self
    (omega (arith, c.args.self.now.holds.count))
    (λ old new. new ≡ lengthened old c.args.len) c.index_mut.result.now c.index_mut.ensures.value c.in-Ok.ensures.synced

pub returns-in-Err-clause-refused : goal.returns-in-Err-clause-refused
returns-in-Err-clause-refused c =
    change_in_no_file (λ (copies : FileCopies). copies.read.items) c.args.self.now.files.items c.args.file c.grow_to.new.self
    (omega (arith, c.args.self.now.holds.count)) c.index_mut.result.now c.index_mut.ensures.value c.in-Err.ensures.same_read

pub returns-in-Err-clause-not_synced : goal.returns-in-Err-clause-not_synced
returns-in-Err-clause-not_synced c =
    change_in_no_file (λ (copies : FileCopies). copies.synced.items) c.args.self.now.files.items c.args.file c.grow_to.new.self
    (omega (arith, c.args.self.now.holds.count)) c.index_mut.result.now c.index_mut.ensures.value c.in-Err.ensures.same_synced
