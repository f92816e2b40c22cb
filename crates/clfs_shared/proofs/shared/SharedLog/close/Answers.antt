use Rattle.std.proofs.Common.{◌≡◌, false, [], sym, subst, ◌∙◌, List, slice_index_or}
use Rattle.clfs_model.specs.declared.journal.Entry.{Entry}
use Rattle.clfs_model.specs.Journals.{mine}
use Rattle.clfs_turn.specs.Lists.{is_in}
use Rattle.clfs_turn.specs.Seats.{LockState, HasSeen}
use Rattle.clfs_shared.specs.Journal.{client_of}
use Rattle.clfs_shared.specs.declared.opening.Opening.{Opening}
use Rattle.clfs_shared.proofs.shared.SharedLog.close.Goals as goal

pub returns-clause-sessions : goal.returns-clause-sessions
returns-clause-sessions g c = λ k d below.
    subst (λ (journal : List Entry). HasSeen {E = Entry} {O = Opening} client_of journal (slice_index_or c.args.sessions.items k d))
    (sym (c.into_journal.ensures ∙ c.into_parts-manager.ensures.entries)) (c.close.ensures.seats k d below)

pub returns-clause-others : goal.returns-clause-others
returns-clause-others g c = λ client outside.
    subst (λ (journal : List Entry). mine journal client ≡ []) (sym (c.into_journal.ensures ∙ c.into_parts-manager.ensures.entries))
    (c.close.ensures.others client (subst (λ (l : LockState Opening). is_in client l.clients ≡ false) (sym c.self.view_is) outside))
