use Rattle.std.proofs.Common.{arith, ◌<◌, ◌+◌, length, List, sym, subst}
use Rattle.std.specs.Prelude.{slice_index, slice_set}
use Rattle.clfs_model.specs.declared.journal.Entry.{Entry}
use Rattle.clfs_model.specs.Journals.{mine}
use Rattle.clfs_shared.specs.Counts.{IsCounted, most_calls}
use Rattle.clfs_shared.specs.Journal.{entry_of}
use Rattle.clfs_shared.proofs.Counting.{all_fit, one_more}
use Rattle.clfs_shared.proofs.told.ToldJournalRecorder.record.Goals as goal

pub overflow_add-self : goal.overflow_add-self
overflow_add-self c = record { fits = all_fit c.self.inside.count c.self.inside.counts c.self.inside.entries.value c.self.invariant (omega arith) }

pub invariant_of-self : goal.invariant_of-self
invariant_of-self c =
    let inside = c.self.inside in
    let client = c.args.client in
    let entry = entry_of client (length (mine inside.entries.value client) + 1) c.args.call.now c.args.reply.now in
    let room : length (mine inside.entries.value client) < most_calls =
    subst (λ (es : List Entry). length (mine es client) < most_calls) (sym c.self.view_is) c.requires.ready in
    subst (λ (es : List Entry). IsCounted (inside.count + 1) (slice_set inside.counts client (slice_index inside.counts client + 1)) es) (sym c.next-self-inside.ensures)
    (one_more inside.count inside.counts inside.entries.value entry c.self.invariant c.requires.client (omega arith) room)
