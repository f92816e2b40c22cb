use Rattle.clfs_laws.proofs.Words.{ℕ, ◌≡◌, ◌≤◌, arith, List, [], ◌∷◌, AllByRecursion, All-from_recursion, frontier, LogEntry, State, next_lsn, IsValid}
use Rattle.clfs_laws.proofs.Links.{next_within}
use Rattle.clfs_laws.proofs.RecordsOfCalls.{step_adds}
use Rattle.clfs_laws.proofs.steps.steps_only_add_records.Goals as goal

-- new records lie at or above the frontier
all_above : (s : State) (more : List LogEntry) → IsValid s → AllByRecursion (λ (entry : LogEntry). (n : ℕ) × (entry.lsn ≡ next_lsn s n)) more
    → AllByRecursion (λ (entry : LogEntry). frontier s.place ≤ entry.lsn) more
all_above s [] valid placed = tt
all_above s (entry ∷ more) valid placed =
    let high = next_within s placed.0.0 valid.ranges.shape valid.ranges.place in (omega (arith, high, placed.0.1), all_above s more valid placed.1)

pub returns : goal.returns
returns c = λ told s client call happened reply t valid step.
    let adds = step_adds told s client call happened reply t step in
    (adds.more, adds.joined, All-from_recursion (λ (entry : LogEntry). frontier s.place ≤ entry.lsn) adds.more (all_above s adds.more valid adds.placed))
