use Rattle.std.proofs.Common.{◌∙◌, sym, ap, subst, arith, List, length}
use Rattle.std.proofs.lemmas.List.{take_all}
use Rattle.clfs_disk.specs.Record.{at_rest, replay, Image}
use Rattle.clfs_disk.specs.Copies.{read_files, first_files}
use Rattle.clfs_disk.specs.declared.record.Event.{Event}
use Rattle.clfs_disk.proofs.Holdings.{holds_fresh, counted_none, settled_at_rest, pick_is_image}
use Rattle.clfs_disk.proofs.memory.Memory.crash.Goals as goal

pub invariant_of-result : goal.invariant_of-result
invariant_of-result c = record {
  counted = counted_none _ _ c.clear.ensures.calls;
  holds = holds_fresh _ _ _ (c.crash_files.ensures.count ∙ c.args.self.holds.count) c.clear.ensures.calls c.clear.ensures.written
      (λ file. sym (c.crash_files.ensures.first file)) (λ file. c.crash_files.ensures.synced file ∙ sym (c.crash_files.ensures.first file));
}

pub returns-clause-settled : goal.returns-clause-settled
returns-clause-settled c =
    let start = first_files c.crash_files.new.files.items in
    settled_at_rest start start _ c.clear.new.self.written.items _ _ _ (ap
    (λ (l : List Event). replay (at_rest start) l c.clear.new.self.written.items) c.clear.ensures.calls) (λ file. sym (c.crash_files.ensures.first file))

pub returns-clause-image : goal.returns-clause-image
returns-clause-image c =
    let holds = c.args.self.holds in
    let calls = c.args.self.history.calls.items in
    subst (λ (l : List Event). Image (replay (at_rest (first_files c.args.self.files.items)) l c.args.self.history.written.items)
    (read_files c.crash_files.new.files.items))
    (sym (take_all (length calls) calls (omega arith)))
    (pick_is_image _ holds.sound c.args.pick _ (λ file. c.crash_files.ensures.read file ∙ cc (holds.read file, holds.synced file)))
