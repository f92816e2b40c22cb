-- How a client leaves a shared log: its areas are deleted, so that what they held is free for the others.
use Rattle.std.specs.Prelude.{◌≡◌, ◌⊎◌, ℕ, zero, suc, ◌≤◌, Bool, true, false, List, [], ◌∷◌, ◌++◌, length, All, None, Option}
use Rattle.std.specs.List.{list_all}
use Rattle.clfs_lsn.specs.Limits.{most_areas}
use Rattle.clfs_model.specs.declared.call.Call.TheVariants as calls
use Rattle.clfs_model.specs.declared.refusal.Refusal.TheVariants as refusals
use Rattle.clfs_model.specs.declared.reply.Reply.{Reply}
use Rattle.clfs_model.specs.declared.reply.Reply.TheVariants as replies
use Rattle.clfs_model.specs.Run.{Request, asks}
use Rattle.clfs_laws.specs.Rows.{AreaRow, row_in, row_through}
use Rattle.clfs_turn.specs.Seats.{IsSameSeat}
use Rattle.clfs_shared.specs.Counts.{most_calls}
use Rattle.clfs_shared.specs.Sessions.{SessionState, own_entries}
use Rattle.clfs_share.specs.Answered.{AnswersCall}
use Rattle.clfs_share.specs.Made.{all_made, calls_made, AreReplies}

-- the deletion of the areas of so many numbers, from 1
abbrev pub deletions : ℕ → ℕ → List Request
deletions client zero = []
deletions client (suc count) = deletions client count ++ asks client (calls.DeleteArea (suc count)) ∷ []

-- a reply to the deletion of an area that tells that there is no such area now
abbrev pub is_gone : Reply → Bool
is_gone replies.Done = true
is_gone (replies.Refused refusals.NoSuchArea) = true
is_gone _ = false

-- what a session's area of a number was made for and holds, by the session's own entries; none where there is no such area
abbrev pub own_row : ℕ → SessionState → Option AreaRow
own_row number s = row_through number (row_in s.opening.state s.client number) (own_entries s)

-- A reply to a deletion: the area is gone, or the log is broken. It tells of no memory only where the client has made as many calls as it may.
abbrev pub EndsArea : ℕ → Reply → Type 0
EndsArea own reply =
    (is_gone reply ≡ true) ⊎ ((reply ≡ replies.Refused refusals.Broken) ⊎ ((reply ≡ replies.Refused refusals.NoMemory) × (most_calls ≤ own)))

-- The deletion of one area was asked for.
pub record DeletesArea (s : SessionState) (number : ℕ) (t : SessionState) : Type 0 where
  pub reply : Reply
  pub answered : AnswersCall s (calls.DeleteArea number) reply t
  pub ends : EndsArea (length (own_entries t)) reply
  pub gone : is_gone reply ≡ true → own_row number t ≡ None

-- The deletion of the areas of the first so many numbers was asked for, one after the other.
pub record HasDeleted (count : ℕ) (s t : SessionState) : Type 0 where
  pub same : IsSameSeat s t
  pub answers : List Reply
  pub answered : AreReplies (deletions s.client count) answers
  -- the session's own entries became more by just these calls
  pub entries : all_made (own_entries t) ≡ all_made (own_entries s) ++ calls_made (deletions s.client count) answers
  -- each area is gone but where the log is broken, or where the client has made as many calls as it may
  pub ends : All (EndsArea (length (own_entries t))) answers
  pub gone : list_all is_gone answers ≡ true → (number : ℕ) → 1 ≤ number → number ≤ count → own_row number t ≡ None

-- the deletion of all areas that a client can have was asked for
abbrev pub HasLeft : SessionState → SessionState → Type 0
HasLeft s t = HasDeleted most_areas s t
