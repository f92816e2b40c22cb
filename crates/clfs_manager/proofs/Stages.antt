-- The states between the small changes of an append and of a restart area: the first, the one that has grown, and those after it.
use Rattle.clfs_manager.proofs.Words.{ℕ, Bool, List, [], ◌∷◌, ◌++◌, length, All, All-head, All-tail, ready_stages, LogEntry, Draft, Area, State, rebased}
use Rattle.clfs_manager.proofs.Words.{restart_record, flush, flush_if, hold_sizes, need_of, plain_record, put, seal_if, spend_if, grown}
use Rattle.clfs_laws.specs.Stages.{append_stages, restart_stages}
use Rattle.clfs_manager.proofs.Through.{all_without}

-- What is true of the first state, of the one that has grown, and of all that come after it.
pub record WhileGrown (P : State → Type 0) (s larger : State) (more : List State) : Type 0 where
  pub before : P s
  pub grown_is : P larger
  pub behind : All P more

-- the states of an append after its log has grown, but for that whose area is yet to hold more: of that no crash leaves anything of its own
abbrev pub appended_stages : State → Area → Draft → List ℕ → List State
appended_stages u area draft sizes =
    let held = hold_sizes area sizes (put u (plain_record area draft)) in
    ready_stages u (length draft.bytes) ++ held ∷ seal_if draft.seal held ∷ flush_if draft.flush (seal_if draft.seal held) ∷ []

pub while_appended : (P : State → Type 0) (s : State) (area : Area) (draft : Draft) (reserved : Bool) (sizes : List ℕ) → All P (append_stages s area draft reserved sizes)
    → WhileGrown P s (grown s (need_of reserved (length draft.bytes) sizes))
    (appended_stages (spend_if reserved area (length draft.bytes) (grown s (need_of reserved (length draft.bytes) sizes))) area draft sizes)
while_appended P s area draft reserved sizes all =
    let n = length draft.bytes in
    let g : State = grown s (need_of reserved n sizes) in
    let u : State = spend_if reserved area n g in
    let p : State = put u (plain_record area draft) in
    let h : State = hold_sizes area sizes p in
    let l : State = seal_if draft.seal h in
    let end : List State = h ∷ l ∷ flush_if draft.flush l ∷ [] in
    let first = All-tail P s (g ∷ (ready_stages u n ++ p ∷ end)) all in
    record {
      before = All-head P s (g ∷ (ready_stages u n ++ p ∷ end)) all;
      grown_is = All-head P g (ready_stages u n ++ p ∷ end) first;
      behind = all_without P (ready_stages u n) p end (All-tail P g (ready_stages u n ++ p ∷ end) first);
    }

-- the same of a restart area
abbrev pub restarted_stages : State → ℕ → LogEntry → ℕ → ℕ → List State
restarted_stages u n entry stream base = ready_stages u n ++ put u entry ∷ rebased stream base (flush (put u entry)) ∷ []

pub while_restarted : (P : State → Type 0) (s : State) (area : Area) (bytes : List ℕ) (base : ℕ) (reserved : Bool) → All P (restart_stages s area bytes base reserved)
    → WhileGrown P s (grown s (need_of reserved (length bytes) []))
    (restarted_stages (spend_if reserved area (length bytes) (grown s (need_of reserved (length bytes) []))) (length bytes) (restart_record s area bytes base) area.stream base)
while_restarted P s area bytes base reserved all =
    let n = length bytes in
    let g : State = grown s (need_of reserved n []) in
    let more : List State = restarted_stages (spend_if reserved area n g) n (restart_record s area bytes base) area.stream base in
    let first = All-tail P s (g ∷ more) all in
    record { before = All-head P s (g ∷ more) all; grown_is = All-head P g more first; behind = All-tail P g more first }
