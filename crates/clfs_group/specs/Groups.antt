-- What contracts see of a group, and what is always true of it.
use Rattle.std.specs.Prelude.{◌≡◌, ℕ, ◌+◌, ◌≤◌, ◌==◌, Bool, true, false, List, ◌∷◌, ◌++◌, length, All}
use mathlib.Core.List.{IsPrefix}
use Rattle.clfs_turn.specs.Seats.{IsSameSeat}
use Rattle.clfs_model.specs.declared.call.Call.{Call}
use Rattle.clfs_model.specs.declared.call.Call.TheVariants as calls
use Rattle.clfs_model.specs.declared.journal.Entry.{Entry}
use Rattle.clfs_model.specs.declared.reply.Reply.TheVariants as replies
use Rattle.clfs_model.specs.declared.state.State.{State}
use Rattle.clfs_model.specs.Flush.{flushed}
use Rattle.clfs_model.specs.Journals.{IsLegal}
use Rattle.clfs_shared.specs.Journal.{entry_of}
use Rattle.clfs_shared.specs.Sessions.{SessionState, IsLegalFrom, own_entries}

-- ---- what a session has seen says of the disk

-- in each state to which the entries lead that the session has seen, all records below this LSN are on the disk
abbrev pub HasFlushed : SessionState → ℕ → Type 0
HasFlushed s lsn = (t : State) → IsLegal s.opening.tells_contents s.seen s.opening.state t → lsn ≤ flushed t

-- and there is such a state
pub record IsStable (s : SessionState) (lsn : ℕ) : Type 0 where
  pub legal : IsLegalFrom s.opening s.seen
  pub flushed : HasFlushed s lsn

-- ---- a group

-- a group: the session that makes its flushes, the number of its area, and its mark
pub record GroupParts : Type 0 where
  pub session : SessionState
  pub area : ℕ
  pub mark : ℕ

-- a group of these parts
abbrev pub parts_of : SessionState → ℕ → ℕ → GroupParts
parts_of session area mark = record { session = session; area = area; mark = mark }

-- a group's area is for records without bytes and for one cursor: nothing is appended or read through it
abbrev pub making : ℕ → Call
making stream = calls.CreateArea stream 0 1

-- the call flushes the log through this area, up to some LSN
abbrev pub is_flush_by : ℕ → Call → Bool
is_flush_by area (calls.FlushTo number lsn) = number == area
is_flush_by area _ = false

-- The own entries of a group's session: those that the session had when the group was made of it, then the making of the area, then flushes alone.
pub record HasGroupEntries (first : SessionState) (stream area : ℕ) (s : SessionState) : Type 0 where
  pub flushes : List Entry
  pub are : All (λ (entry : Entry). is_flush_by area entry.call ≡ true) flushes
  pub entries : own_entries s
      ≡ own_entries first ++ entry_of first.client (length (own_entries first) + 1) (making stream) (replies.Area area) ∷ flushes

-- What is true of a group that was made of a session and a stream.
pub record IsGroup (first : SessionState) (stream : ℕ) (group : GroupParts) : Type 0 where
  -- it still has that session, which it never gives to another log or client
  pub same : IsSameSeat first group.session
  pub begins : IsPrefix first.seen group.session.seen
  -- and has made no call by it but these, so its area is there
  pub entries : HasGroupEntries first stream group.area group.session
  -- all below the mark is on the disk
  pub mark : HasFlushed group.session group.mark

-- the same group, whose session may have seen more, and whose mark may have changed
pub record IsSameGroup (old new : GroupParts) : Type 0 where
  pub session : IsSameSeat old.session new.session
  pub begins : IsPrefix old.session.seen new.session.seen
  pub area : new.area ≡ old.area
