-- What an append or a restart area does where it isn't refused.
use Rattle.std.specs.Prelude.{ℕ, ◌+◌, ◌-◌, Bool, true, false, if◌then◌else◌, List, [], ◌∷◌, ◌++◌, length}
use Rattle.clfs_lsn.specs.Lsn.{null_lsn}
use Rattle.clfs_lsn.specs.Size.{own}
use Rattle.clfs_lsn.specs.Place.{joins, begins_here, place_after}
use Rattle.clfs_lsn.specs.declared.entry.LogEntry.{LogEntry}
use Rattle.clfs_lsn.specs.declared.entry.Kind.TheVariants.{Plain}
use Rattle.clfs_model.specs.declared.call.Draft.{Draft}
use Rattle.clfs_model.specs.declared.state.State.{State}
use Rattle.clfs_model.specs.declared.state.Area.{Area}
use Rattle.clfs_model.specs.State.{change_area}
use Rattle.clfs_model.specs.Space.{own_sum, grown}
use Rattle.clfs_model.specs.Flush.{seal, flush}

-- A record that begins a block seals the one before it; one that begins a container has the whole log flushed first.
abbrev pub made_ready : State → ℕ → State
made_ready s n =
    if joins s.shape s.place n then s
    else if begins_here s.shape s.place n then seal s
    else flush s

-- the LSN of the next record, of n bytes
abbrev pub next_lsn : State → ℕ → ℕ
next_lsn s n = (place_after s.shape s.place n).0

-- the record joins the list, at the next LSN
abbrev pub put : State → LogEntry → State
put s entry = record (made_ready s (length entry.bytes)) {
  records = s.records ++ record entry { lsn = next_lsn s (length entry.bytes) } ∷ [];
  place = (place_after s.shape s.place (length entry.bytes)).1;
}

-- the sectors of a record, unless the area holds them for it
abbrev pub own_unless : Bool → ℕ → ℕ
own_unless reserved n = if reserved then 0 else own n

-- A plain record needs its own sectors and a reserved one none; records to come need each their own.
abbrev pub need_of : Bool → ℕ → List ℕ → ℕ
need_of reserved n sizes = own_unless reserved n + own_sum sizes

-- the sectors that a reserved record takes of those that its area holds
abbrev pub spent_of : Bool → ℕ → ℕ
spent_of reserved n = if reserved then own n else 0

-- an area that holds so many sectors fewer
abbrev pub with_less_held : ℕ → Area → Area
with_less_held sectors area = record area { held = area.held - sectors }

-- an area that holds so many sectors more
abbrev pub with_more_held : ℕ → Area → Area
with_more_held sectors area = record area { held = area.held + sectors }

-- a reserved record takes its own sectors from its area
abbrev pub spend_if : Bool → Area → ℕ → State → State
spend_if false area n s = s
spend_if true area n s = change_area (with_less_held (own n)) area.client area.number s

-- the area holds the sectors for records to come, where there are such
abbrev pub hold_sizes : Area → List ℕ → State → State
hold_sizes area [] s = s
hold_sizes area (n ∷ sizes) s = change_area (with_more_held (own_sum (n ∷ sizes))) area.client area.number s

-- the state sealed, where that is asked for
abbrev pub seal_if : Bool → State → State
seal_if asked s = if asked then seal s else s

-- the state flushed, where that is asked for
abbrev pub flush_if : Bool → State → State
flush_if asked s = if asked then flush s else s

-- a client's draft as a record that has no LSN yet
abbrev pub plain_record : Area → Draft → LogEntry
plain_record area draft = record {
  lsn = null_lsn;
  stream = area.stream;
  kind = Plain;
  previous = draft.previous;
  undo_next = draft.undo_next;
  new_base = null_lsn;
  bytes = draft.bytes;
}

-- The log grows, the record joins, what the area holds changes, and then the block is sealed and the log flushed as asked.
abbrev pub appended : State → Area → Draft → Bool → List ℕ → State
appended s area draft reserved sizes =
    let n = length draft.bytes in
    let joined = put (grown s (need_of reserved n sizes)) (plain_record area draft) in
    flush_if draft.flush (seal_if draft.seal (hold_sizes area sizes (spend_if reserved area n joined)))
