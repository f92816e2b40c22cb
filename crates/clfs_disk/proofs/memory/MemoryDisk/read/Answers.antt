use Rattle.std.proofs.Common.{rules, ◌≡◌, ◌∙◌, ◌<◌, ℕ, [], List, Vec, length, take, drop, subst, ap, sym, arith, refl}
use Rattle.std.specs.declared.alloc.Global.{Global}
use Rattle.std.proofs.lemmas.List.{append-nil}
use Rattle.clfs_disk.specs.Files.{Unchanged, found_count}
use Rattle.clfs_disk.specs.Copies.{now_of}
use Rattle.clfs_disk.specs.declared.copies.FileCopies.{FileCopies}
use Rattle.clfs_disk.specs.declared.record.Event.TheVariants.{Read}
use Rattle.clfs_disk.proofs.Tables.{file_at}
use Rattle.clfs_disk.proofs.Holdings.{holds_after, counted_after}
use Rattle.clfs_disk.proofs.Replays.{passes_noted, image_same}
use Rattle.clfs_disk.proofs.memory.MemoryDisk.read.Goals as goal

pub invariant_of-self : goal.invariant_of-self
invariant_of-self c =
    let holds = c.args.self.now.holds in
    record {
      counted = counted_after _ _ Read _ _ _ _ c.args.self.now.counted (omega arith) (omega arith) c.note.ensures.calls
          c.saturating_add-self.ensures c.note.ensures.call_room;
      holds = holds_after c.args.self.now.files.items c.args.self.now.history.calls.items c.args.self.now.history.written.items holds _ _ _ [] Read
          refl (λ file. refl) c.note.ensures.calls (ap (λ (v : Vec ℕ Global). v.items) c.note.ensures.written
          ∙ sym (append-nil _)) refl holds.read holds.synced holds.sound;
    }

pub returns-clause-call : goal.returns-clause-call
returns-clause-call c =
    let lt : c.args.file < length c.args.self.now.files.items = omega (arith, c.args.self.now.holds.count) in
    let here = sym (file_at (λ (copies : FileCopies). copies.read.items) c.args.self.now.files.items c.args.file c.index.result.now lt c.index.ensures) in
    let n = c.read_at-count.result in
    record {
      count = search rules;
      found = λ told. subst
          (λ (l : List ℕ). (n ≡ found_count l c.args.at (length c.args.out.now)) × (take n c.read_at-count.new.out ≡ take n (drop c.args.at l)))
          here (c.read_at-count.ensures.count, c.read_at-count.ensures.bytes);
      same = search rules;
      time = passes_noted Unchanged _ _ c.args.self.now.history.calls.items _ c.args.self.now.history.written.items _ [] Read _ _ _ _ _
          (λ file. refl) c.note.ensures.calls (ap (λ (v : Vec ℕ Global). v.items) c.note.ensures.written ∙ sym (append-nil _)) c.args.self.now.holds.bytes refl
          (λ image at. image_same (now_of c.args.self.now.files.items c.args.self.now.history.calls.items c.args.self.now.history.written.items) image at);
      calls = search rules;
      cause = search rules;
      steady = search rules;
    }
