use Rattle.clfs_laws.proofs.Words.{sym, ap, List, filter, reverse, LogEntry, State, is_restart, base_of}
use Rattle.clfs_laws.proofs.Equivalence.{same_itself, same_turned, same_through, same_cut}
use Rattle.clfs_laws.proofs.SameRecords.{live_of_same}
use Rattle.clfs_laws.proofs.same.sameness.Goals as goal

pub returns-clause-itself : goal.returns-clause-itself
returns-clause-itself c = same_itself

pub returns-clause-turned : goal.returns-clause-turned
returns-clause-turned c = same_turned

pub returns-clause-through : goal.returns-clause-through
returns-clause-through c = same_through

pub returns-clause-cut : goal.returns-clause-cut
returns-clause-cut c = same_cut

pub returns-clause-live : goal.returns-clause-live
returns-clause-live c = λ s u stream same. sym (live_of_same s u stream same)

pub returns-clause-bases : goal.returns-clause-bases
returns-clause-bases c = λ s u stream same. sym (ap (λ (x : State). base_of x stream) same.others)

pub returns-clause-restarts : goal.returns-clause-restarts
returns-clause-restarts c = λ s u stream same.
    ap (λ (entries : List LogEntry). reverse (filter (λ (entry : LogEntry). is_restart entry.kind) entries)) (sym (live_of_same s u stream same))
