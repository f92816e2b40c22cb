use Rattle.std.proofs.Common.{rules, ◌∙◌, ℕ, [], Vec, ap, sym, arith, refl}
use Rattle.std.specs.declared.alloc.Global.{Global}
use Rattle.std.proofs.lemmas.List.{append-nil}
use Rattle.clfs_disk.specs.Files.{Unchanged}
use Rattle.clfs_disk.specs.Copies.{first_files, now_of}
use Rattle.clfs_disk.specs.declared.record.Event.TheVariants.{Synced}
use Rattle.clfs_disk.proofs.Holdings.{holds_after, counted_after, sound_at_rest, settled_after_sync}
use Rattle.clfs_disk.proofs.Replays.{passes_noted, image_synced}
use Rattle.clfs_disk.proofs.memory.MemoryDisk.sync.Goals as goal

pub invariant_of-self : goal.invariant_of-self
invariant_of-self c =
    let files = c.args.self.now.files.items in
    let holds = c.args.self.now.holds in
    let m = now_of files c.args.self.now.history.calls.items c.args.self.now.history.written.items in
    record {
      counted = counted_after _ _ Synced _ _ _ _ c.args.self.now.counted (omega arith) (omega arith) c.note.ensures.calls
          c.saturating_add-self.ensures c.note.ensures.call_room;
      holds = holds_after files c.args.self.now.history.calls.items c.args.self.now.history.written.items holds _ _ _ [] Synced
          c.sync_files.ensures.count c.sync_files.ensures.first
          c.note.ensures.calls (ap (λ (v : Vec ℕ Global). v.items) c.note.ensures.written ∙ sym (append-nil _)) refl
          (λ file. c.sync_files.ensures.read file ∙ holds.read file) (λ file. c.sync_files.ensures.synced file ∙ holds.read file)
          (sound_at_rest m.files);
    }

pub returns-clause-call : goal.returns-clause-call
returns-clause-call c =
    let files = c.args.self.now.files.items in
    let holds = c.args.self.now.holds in
    let m = now_of files c.args.self.now.history.calls.items c.args.self.now.history.written.items in
    let written = ap (λ (v : Vec ℕ Global). v.items) c.note.ensures.written ∙ sym (append-nil _) in
    record {
      settled = λ told. settled_after_sync files c.args.self.now.history.calls.items c.args.self.now.history.written.items holds _ _ _ _ _
          c.sync_files.ensures.first c.note.ensures.calls written c.sync_files.ensures.read;
      same = search rules;
      time = passes_noted Unchanged (first_files files) _ c.args.self.now.history.calls.items _ c.args.self.now.history.written.items _ [] Synced _ _ _ _ _
          c.sync_files.ensures.first c.note.ensures.calls written holds.bytes refl (λ image at. image_synced m image at);
      calls = search rules;
      cause = search rules;
      steady = search rules;
    }
