-- The rows of streams, one by one.
use Rattle.std.proofs.Common.{◌≡◌, ℕ, ◌<◌, sym, ap, ◌∙◌, inl, inr, arith, List, [], ◌∷◌}
use Rattle.std.specs.Prelude.{◌==◌, All}
use Rattle.std.proofs.lemmas.Bool.{cases_Bool, eqb-true}
use Rattle.std.proofs.lemmas.List.Elements.{All-tail, All-cons, All-filter}
use Rattle.clfs_lsn.specs.declared.entry.Head.{Head}
use Rattle.clfs_lsn.specs.declared.stream.Stream.{Stream}
use Rattle.clfs_lsn.specs.Heads.{heads_from, live_heads, restarts_among, restart_heads, stream_heads, is_restart}
use Rattle.clfs_tables.specs.declared.tables.StreamRow.{StreamRow}
use Rattle.clfs_tables.specs.Tables.{IsDeadBelow, IsHead, IsRow, base_in, restarts_of}
use Rattle.clfs_tables.proofs.Kept.{live_kept, live_restarts}

-- what holds of all heads, by their own streams, holds of a stream's heads
pub dead_in : (low : ℕ) (streams : List Stream) (stream : ℕ) (heads : List Head) → All (IsHead low streams) heads
    → All (IsDeadBelow low (base_in streams stream)) (stream_heads stream heads)
dead_in low streams stream [] all = λ k d inside. absurd (omega (arith, inside))
dead_in low streams stream (head ∷ heads) all =
    let rest = dead_in low streams stream heads (All-tail (IsHead low streams) head heads all) in
    let here = all 0 head (omega arith) in
    elim (cases_Bool (head.stream == stream)) [
      | inr other ↦ rw other rest
      | inl same ↦
          let own : head.stream ≡ stream = eqb-true head.stream stream same in
          let first : IsDeadBelow low (base_in streams stream) head = rw own at here.dead in
          rw same (All-cons (IsDeadBelow low (base_in streams stream)) head (stream_heads stream heads) first rest)
    ]

-- the live heads in the row of a stream are those of the stream
pub live_in_row : (low : ℕ) (streams : List Stream) (stream : ℕ) (heads : List Head) (row : StreamRow) → All (IsHead low streams) heads
    → IsRow (base_in streams stream) low stream heads row → heads_from row.index.base row.index.heads ≡ live_heads (base_in streams stream) stream heads
live_in_row low streams stream heads row all is =
    rw is.index_base (live_kept low (base_in streams stream) (stream_heads stream heads) row.index.heads is.index (dead_in low streams stream heads all))

-- so are the live restart areas
pub restarts_in_row : (low : ℕ) (streams : List Stream) (stream : ℕ) (heads : List Head) (row : StreamRow) → All (IsHead low streams) heads
    → IsRow (base_in streams stream) low stream heads row
    → restarts_among (heads_from row.restarts.base row.restarts.heads) ≡ restart_heads (base_in streams stream) stream heads
restarts_in_row low streams stream heads row all is =
    let base = base_in streams stream in
    let dead = All-filter (λ (head : Head). is_restart head.kind) (IsDeadBelow low base) (stream_heads stream heads) (dead_in low streams stream heads all) in
    rw is.restarts_base (ap restarts_among (live_kept low base (restarts_of (stream_heads stream heads)) row.restarts.heads is.restarts dead)
    ∙ sym (live_restarts base stream heads))

-- the links of all heads lie below them
pub links_in : (low : ℕ) (streams : List Stream) (heads : List Head) → All (IsHead low streams) heads → All (λ (head : Head). (head.previous < head.lsn) × (head.undo_next < head.lsn)) heads
links_in low streams heads all = λ k d inside. (let is = all k d inside in (is.previous, is.undo_next))
