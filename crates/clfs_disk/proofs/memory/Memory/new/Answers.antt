use Rattle.std.proofs.Common.{◌∙◌, sym, ap, List}
use Rattle.clfs_disk.specs.Record.{at_rest, replay}
use Rattle.clfs_disk.specs.Copies.{first_files}
use Rattle.clfs_disk.specs.declared.record.Event.{Event}
use Rattle.clfs_disk.proofs.Holdings.{holds_fresh, counted_none, settled_at_rest}
use Rattle.clfs_disk.proofs.memory.Memory.new.Goals as goal

pub invariant_of-result : goal.invariant_of-result
invariant_of-result c =
    let files = c.in_ok-empty_copies.ensures in
    let history = c.in_ok-new.ensures in
    record {
      counted = counted_none _ _ history.calls;
      holds = holds_fresh _ _ _ files.count history.calls history.written
          (λ file. files.read file ∙ sym (files.first file)) (λ file. files.synced file ∙ sym (files.first file));
    }

pub returns-clause-settled : goal.returns-clause-settled
returns-clause-settled c =
    let files = c.in_ok-empty_copies.ensures in
    let start = first_files c.in_ok-empty_copies.field-0.items in
    settled_at_rest start start _ c.in_ok-new.field-0.written.items _ _ _ (ap
    (λ (l : List Event). replay (at_rest start) l c.in_ok-new.field-0.written.items) c.in_ok-new.ensures.calls)
    (λ file. files.read file ∙ sym (files.first file))
