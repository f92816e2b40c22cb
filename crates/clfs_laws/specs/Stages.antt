-- The states between the small changes of which a call that writes is made, in their order, with the state before the call and the one
-- that it leaves.
use Rattle.std.specs.Prelude.{ℕ, Bool, if◌then◌else◌, List, [], ◌∷◌, ◌++◌, length}
use Rattle.clfs_lsn.specs.Place.{joins, begins_here}
use Rattle.clfs_model.specs.declared.call.Draft.{Draft}
use Rattle.clfs_model.specs.declared.state.State.{State}
use Rattle.clfs_model.specs.declared.state.Area.{Area}
use Rattle.clfs_model.specs.Answers.{restart_record, rebased, advanced}
use Rattle.clfs_model.specs.Flush.{seal, flush}
use Rattle.clfs_model.specs.Put.{put, need_of, spend_if, hold_sizes, seal_if, flush_if, plain_record}
use Rattle.clfs_model.specs.Space.{own_sum, grown}
use Rattle.clfs_laws.specs.Between.{turned}

-- A log becomes ready for a record of n bytes: the record joins the open block, or that is sealed, or all is flushed and the log goes on
-- in the next container. The last of these states is the log that is ready.
abbrev pub ready_stages : State → ℕ → List State
ready_stages s n =
    if joins s.shape s.place n then s ∷ []
    else if begins_here s.shape s.place n then s ∷ seal s ∷ []
    else s ∷ flush s ∷ turned (flush s) ∷ []

-- an append: the log grows, its area spends, the log becomes ready, the record joins, the area holds the sectors for records to come, and
-- the block is sealed and the log flushed as asked
abbrev pub append_stages : State → Area → Draft → Bool → List ℕ → List State
append_stages s area draft reserved sizes =
    let n = length draft.bytes in
    let larger = grown s (need_of reserved n sizes) in
    let spent = spend_if reserved area n larger in
    let joined = put spent (plain_record area draft) in
    let held = hold_sizes area sizes joined in
    let closed = seal_if draft.seal held in
    s ∷ larger ∷ (ready_stages spent n ++ joined ∷ held ∷ closed ∷ flush_if draft.flush closed ∷ [])

-- A restart area: the log grows, its area spends, the log becomes ready, and the record joins. Then it is on the disk and its base has
-- moved, in one: the record carries the base.
abbrev pub restart_stages : State → Area → List ℕ → ℕ → Bool → List State
restart_stages s area bytes base reserved =
    let n = length bytes in
    let larger = grown s (need_of reserved n []) in
    let spent = spend_if reserved area n larger in
    let joined = put spent (restart_record s area bytes base) in
    s ∷ larger ∷ (ready_stages spent n ++ joined ∷ rebased area.stream base (flush joined) ∷ [])

-- A reservation: the log grows. What the area holds then is in no file.
abbrev pub reserve_stages : State → List ℕ → List State
reserve_stages s sizes = s ∷ grown s (own_sum sizes) ∷ []

-- an advance of a base: the log is flushed, and then the stream's base moves
abbrev pub advance_stages : State → ℕ → ℕ → List State
advance_stages s stream base = s ∷ flush s ∷ advanced s stream base ∷ []
