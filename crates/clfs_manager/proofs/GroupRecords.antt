-- The blocks of a group have the records of the queue, as opening reads them.
use Rattle.clfs_manager.proofs.Words.{◌≡◌, ℕ, ◌+◌, ◌≤◌, sym, ap, subst, ◌∙◌, List, [], ◌∷◌, ◌++◌, length, All, All-head, All-tail, LogEntry, Shape, AreBlocks}
use Rattle.clfs_manager.proofs.Words.{all_records, HasRecords}
use Rattle.std.proofs.lemmas.List.Concat.{flat_map-cons}
use Rattle.clfs_queue.specs.Rows.{AreInRow, IsBlock}
use Rattle.clfs_recover.specs.Logs.{HaveRecords}
use Rattle.clfs_recover.specs.Stored.{FitFrom}
use Rattle.clfs_manager.proofs.SplitRecords.{all_left, all_right}

-- the streams of records are among the first so many
abbrev pub AreOfStreams : ℕ → List LogEntry → Type 0
AreOfStreams streams entries = All (λ (entry : LogEntry). entry.stream ≤ streams) entries

fit : (streams lsn : ℕ) (entries : List LogEntry) → AreOfStreams streams entries → AreInRow lsn entries → FitFrom lsn streams entries
fit streams lsn [] few row = tt
fit streams lsn (entry ∷ entries) few row =
    let is = row.0 in (
      record {
        at = is.at;
        some_stream = is.some_stream;
        stream = All-head (λ (e : LogEntry). e.stream ≤ streams) entry entries few;
        bytes = is.bytes;
        previous = is.previous;
        undo_next = is.undo_next;
        new_base = is.new_base;
      },
      fit streams (lsn + 1) entries (All-tail (λ (e : LogEntry). e.stream ≤ streams) entry entries few) row.1,
    )

pub groups_of : (shape : Shape) (streams id offset : ℕ) (starts : List ℕ) (entries : List LogEntry) (blocks : List (List ℕ)) → AreOfStreams streams entries
    → AreBlocks shape id offset starts entries blocks
    → (groups : List (List LogEntry)) × ((all_records groups ≡ entries) × HaveRecords shape streams id offset groups blocks)
groups_of shape streams id offset [] entries [] few are = ([], (sym are, tt))
groups_of shape streams id offset [] entries (block ∷ blocks) few are = absurd are
groups_of shape streams id offset (start ∷ starts) entries [] few are = absurd are
groups_of shape streams id offset (start ∷ starts) entries (block ∷ blocks) few are =
    let own = are.1.0 in
    let others = are.1.1 in
    let split = subst (AreOfStreams streams) are.1.2 few in
    let rest = groups_of shape streams id (offset + length block) starts others blocks (all_right (λ (e : LogEntry). e.stream ≤ streams) own others split) are.1.4 in
    let is : IsBlock shape start own block = are.1.3 in
    let has : HasRecords shape streams start own block = record {
      some = is.some;
      few = is.few;
      fit = fit streams start own (all_left (λ (e : LogEntry). e.stream ≤ streams) own others split) is.row;
      count = is.count;
      spelled = is.spelled;
    } in (
      own ∷ rest.0,
      (
        flat_map-cons (λ (es : List LogEntry). es) own rest.0 ∙ ap (λ (es : List LogEntry). own ++ es) rest.1.0 ∙ sym are.1.2,
        (subst (λ (at : ℕ). HasRecords shape streams at own block) are.0 has, rest.1.1),
      ),
    )
