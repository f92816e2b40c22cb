-- What the members of a crowd do by their sessions.
use Rattle.std.specs.Prelude.{◌≡◌, ℕ, ◌-◌, ◌<◌, ◌≤◌, Bool, true, false, List, [], ◌∷◌, ◌++◌, length, map, sum_by, All}
use Rattle.clfs_model.specs.declared.call.Call.{Call}
use Rattle.clfs_model.specs.declared.call.Call.TheVariants as calls
use Rattle.clfs_model.specs.declared.call.Draft.{Draft}
use Rattle.clfs_model.specs.declared.journal.Entry.{Entry}
use Rattle.clfs_model.specs.declared.reply.Reply.TheVariants as replies
use Rattle.clfs_shared.specs.Counts.{most_calls}
use Rattle.clfs_shared.specs.Sessions.{SessionState, SharedState, IsOf, own_entries}
use Rattle.clfs_group.specs.Groups.{HasFlushed}
use Rattle.clfs_engine.specs.Crew.{placed_in}
use Rattle.clfs_engine.specs.Crowd.{placed_below}
use Rattle.clfs_engine.specs.Work.{IsCrewRecord, NeverFails, record_bytes}

-- a member of a crowd: its session, its area, how many records it appended, and of how many of them the group answered that they are on the disk
pub record MemberState : Type 0 where
  pub session : SessionState
  pub area : ℕ
  pub records : ℕ
  pub stable : ℕ

-- a member of these parts
abbrev pub member_of : SessionState → ℕ → ℕ → ℕ → MemberState
member_of session area records stable = record { session = session; area = area; records = records; stable = stable }

-- the call appends a record of a crowd by this area: eight bytes and no links, in no held sectors
pub record IsCrowdAppend (area : ℕ) (call : Call) : Type 0 where
  pub draft : Draft
  pub is_record : IsCrewRecord draft
  pub is : call ≡ calls.Append area draft false []

-- the entry made this area, for records of a crowd
pub record MadeArea (area : ℕ) (entry : Entry) : Type 0 where
  pub stream : ℕ
  pub call : entry.call ≡ calls.CreateArea stream record_bytes 1
  pub reply : entry.reply ≡ replies.Area area

-- the client of a member
abbrev pub client_of_member : MemberState → ℕ
client_of_member member = member.session.client

-- how many calls a member's session has made, the making of its area apart
abbrev pub has_made : MemberState → ℕ
has_made member = length (own_entries member.session) - 1

-- A member of a crowd over this log. Its own entries are the making of its area and then appends by it. Of those that were answered with an LSN at least
-- so many lie below an LSN below which all is on the disk, in each state to which its entries lead. Over a log that never fails these are all of them, where
-- its session has seen fewer calls than a client may make.
pub record IsMember (log : SharedState) (member : MemberState) : Type 0 where
  pub of : IsOf log member.session
  pub made : Entry
  pub appends : List Entry
  pub own : own_entries member.session ≡ made ∷ appends
  pub area : MadeArea member.area made
  pub are : All (λ (entry : Entry). IsCrowdAppend member.area entry.call) appends
  pub placed : placed_in (own_entries member.session) ≡ member.records
  pub mark : ℕ
  pub flushed : HasFlushed member.session mark
  pub on_disk : member.stable ≤ placed_below mark (own_entries member.session)
  pub answered : NeverFails log → length member.session.seen < most_calls → member.stable ≡ member.records

-- ---- the end

-- the calls of a crowd's group: nothing is appended by it, and none of them asks for sectors
abbrev pub is_quiet_work : Call → Bool
is_quiet_work (calls.OpenStream name) = true
is_quiet_work (calls.CreateArea stream largest reads) = true
is_quiet_work (calls.FlushTo area lsn) = true
is_quiet_work _ = false

-- the session of a crowd's group, when the group has ended
pub record IsQuiet (log : SharedState) (session : SessionState) : Type 0 where
  pub of : IsOf log session
  pub are : All (λ (entry : Entry). is_quiet_work entry.call ≡ true) (own_entries session)

-- These are the sessions of members that are done, and then that of the group, and these the sums of what the members counted.
pub record IsGathered (log : SharedState) (count : ℕ) (sessions : List SessionState) (records stable : ℕ) : Type 0 where
  pub members : List MemberState
  pub ended : SessionState
  pub are : All (λ (member : MemberState). IsMember log member × (has_made member ≤ count)) members
  pub quiet : IsQuiet log ended
  pub sessions_are : sessions ≡ map (λ (member : MemberState). member.session) members ++ ended ∷ []
  pub records_are : records ≡ sum_by (λ (member : MemberState). member.records) members
  pub stable_are : stable ≡ sum_by (λ (member : MemberState). member.stable) members
