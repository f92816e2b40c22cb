-- What contracts see of a shared area and of a permit, and what is always true of the area.
use Rattle.std.specs.Prelude.{◌≡◌, ℕ, ◌+◌, ◌<◌, ◌==◌, if◌then◌else◌, List, [], ◌∷◌, Option, Some}
use Rattle.clfs_turn.specs.Seats.{IsSameSeat}
use Rattle.clfs_model.specs.declared.call.Call.{Call}
use Rattle.clfs_model.specs.declared.call.Call.TheVariants as calls
use Rattle.clfs_model.specs.declared.journal.Entry.{Entry}
use Rattle.clfs_model.specs.declared.reply.Reply.{Reply}
use Rattle.clfs_model.specs.declared.reply.Reply.TheVariants as replies
use Rattle.clfs_model.specs.Journals.{held_by}
use Rattle.clfs_laws.specs.Rows.{AreaRow, row_in, row_through}
use Rattle.clfs_shared.specs.Sessions.{SessionState, own_entries}

-- ---- what a session's own entries say of an area

-- The appends of an area that were answered with an LSN, after one of the client's own entries, by its call and its reply alone. An area that is
-- made has none.
abbrev pub placed_after : ℕ → ℕ → Call → Reply → ℕ
placed_after number placed (calls.CreateArea stream largest reads) (replies.Area given) = if given == number then 0 else placed
placed_after number placed (calls.Append given draft reserved sizes) (replies.Placed lsn) = if given == number then placed + 1 else placed
placed_after number placed call reply = placed

-- the same after several of them
abbrev pub placed_through : ℕ → ℕ → List Entry → ℕ
placed_through number placed [] = placed
placed_through number placed (entry ∷ entries) = placed_through number (placed_after number placed entry.call entry.reply) entries

-- the appends of the session's area of this number that were answered with an LSN, since the area was made
abbrev pub placed_by_own : SessionState → ℕ → ℕ
placed_by_own s number = placed_through number 0 (own_entries s)

-- the sectors that the session's area of this number holds
abbrev pub held_by_own : SessionState → ℕ → ℕ
held_by_own s number = held_by s.opening.state s.client (own_entries s) number

-- what the session's area of this number was made for and holds; none, if it isn't there
abbrev pub row_by_own : SessionState → ℕ → Option AreaRow
row_by_own s number = row_through number (row_in s.opening.state s.client number) (own_entries s)

-- ---- an area and its books

-- A shared area: the session that makes its calls, its number among the areas of the session's client, what it was made for, and its two books,
-- which say how many sectors it holds and how many of its appends were answered with an LSN.
pub record AreaBooks : Type 0 where
  pub session : SessionState
  pub number : ℕ
  pub stream : ℕ
  pub largest : ℕ
  pub reads : ℕ
  pub sectors : ℕ
  pub records : ℕ

-- an area of these parts
abbrev pub books_of : SessionState → ℕ → ℕ → ℕ → ℕ → ℕ → ℕ → AreaBooks
books_of session number stream largest reads sectors records = record {
  session = session;
  number = number;
  stream = stream;
  largest = largest;
  reads = reads;
  sectors = sectors;
  records = records;
}

-- an area of the log that is as this one was made, and holds what its book says
abbrev pub row_of_books : AreaBooks → AreaRow
row_of_books area = record { stream = area.stream; largest = area.largest; reads = area.reads; held = area.sectors }

-- By the session's own entries the area is there as it was made, holds the sectors that its book says, and had as many appends answered with an LSN
-- as its book of records says.
pub record IsKept (area : AreaBooks) : Type 0 where
  pub row : row_by_own area.session area.number ≡ Some (row_of_books area)
  pub held : held_by_own area.session area.number ≡ area.sectors
  pub placed : placed_by_own area.session area.number ≡ area.records

-- What is true of an area and of the totals of its two ledgers: it is kept, and its books are these totals. The ledgers' totals are the sums over
-- all permits, dropped ones included.
pub record IsBooked (area : AreaBooks) (sectors records : ℕ) : Type 0 where
  pub kept : IsKept area
  pub held : area.sectors ≡ sectors
  pub placed : area.records ≡ records

-- the same area, whose session may have seen more, and whose books may have changed
pub record IsSameArea (old new : AreaBooks) : Type 0 where
  pub session : IsSameSeat old.session new.session
  pub number : new.number ≡ old.number
  pub stream : new.stream ≡ old.stream
  pub largest : new.largest ≡ old.largest
  pub reads : new.reads ≡ old.reads

-- the books say what they said before
pub record HasSameBooks (old new : AreaBooks) : Type 0 where
  pub sectors : new.sectors ≡ old.sectors
  pub records : new.records ≡ old.records

-- ---- permits

-- a permit: the sectors that nobody else can take, the appends that were answered with an LSN by it, and its parts of the area
pub record PermitState : Type 0 where
  pub sectors : ℕ
  pub records : ℕ
  pub parts : ℕ

-- a permit of these parts
abbrev pub permit_of : ℕ → ℕ → ℕ → PermitState
permit_of sectors records parts = record { sectors = sectors; records = records; parts = parts }

-- A permit's shares in the two ledgers are what it says. It has a part of each.
pub record IsBacked (permit : PermitState) (sectors parts_of_sectors records parts_of_records : ℕ) : Type 0 where
  pub sectors_are : sectors ≡ permit.sectors
  pub records_are : records ≡ permit.records
  pub sectors_parts : parts_of_sectors ≡ permit.parts
  pub records_parts : parts_of_records ≡ permit.parts
  pub some : 0 < permit.parts
