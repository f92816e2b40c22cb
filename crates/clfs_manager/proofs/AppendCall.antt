-- An append: the area that holds sectors for records to come is named by its client and number, whatever it holds.
use Rattle.clfs_manager.proofs.Words.{◌≡◌, ◌≤◌, ℕ, Bool, true, false, refl, sym, ap, subst, ◌∙◌, List, [], ◌∷◌, length, arith, Option, Some, None, nat_lt}
use Rattle.clfs_manager.proofs.Words.{not, option_map_or, ltb-false, le-ltb, Call, Draft, Refusal, Fine, Area, State, Outcome, answer, outcome}
use Rattle.clfs_manager.proofs.Words.{happened_of_refusal, hold_sizes, need_of, next_lsn, spent_of, with_more_held, full, refusal, short, grown, own_sum}
use Rattle.clfs_manager.proofs.Words.{area_of, change_area, Step, calls_disk, grows, takes_memory, GoesTheseWays, LeavesOf}
use Rattle.clfs_model.specs.declared.call.Call.TheVariants as calls
use Rattle.clfs_model.specs.declared.refusal.Refusal.TheVariants as refusals
use Rattle.clfs_model.specs.declared.reply.Reply.TheVariants as replies
use Rattle.clfs_model.specs.Put.{appended}
use Rattle.clfs_model.specs.Refusals.{append_refusal, invalid_link, is_link}
use Rattle.clfs_manager.proofs.PreparedCall.{not_long, others_none}

pub hold_named : (a b : Area) (sizes : List ℕ) (s : State) → a.client ≡ b.client → a.number ≡ b.number → hold_sizes a sizes s ≡ hold_sizes b sizes s
hold_named a b [] s clients numbers = refl
hold_named a b (size ∷ sizes) s clients numbers =
    let change : Area → Area = with_more_held (own_sum (size ∷ sizes)) in
    ap (λ (c : ℕ). change_area change c a.number s) clients ∙ ap (λ (k : ℕ). change_area change b.client k s) numbers

-- ---- refusals

-- What a reserved record takes of its area, this holds.
pub append_enough : (s : State) (area : Area) (draft : Draft) (reserved : Bool) (sizes : List ℕ) → append_refusal s area draft reserved sizes ≡ None
    → spent_of reserved (length draft.bytes) ≤ area.held
append_enough s area draft reserved sizes none =
    let n = length draft.bytes in
    let room = full s (need_of reserved n sizes) in
    let holds = short area (spent_of reserved n) room in
    let undo_next = invalid_link s area.stream draft.undo_next holds in
    let previous = invalid_link s area.stream draft.previous undo_next in
    let first : previous ≡ None = not_long area.largest (n ∷ sizes) previous none in
    let second : undo_next ≡ None = (others_none (not (is_link s area.stream draft.previous)) (refusals.LinkInvalid draft.previous) undo_next first).1 in
    let third : holds ≡ None = (others_none (not (is_link s area.stream draft.undo_next)) (refusals.LinkInvalid draft.undo_next) holds second).1 in
    ltb-false area.held (spent_of reserved n)
    (others_none (nat_lt area.held (spent_of reserved n)) (refusals.ReservationShort area.held (spent_of reserved n)) room third).0

-- ---- steps

append_answer : (s : State) (client number : ℕ) (area : Area) (draft : Draft) (reserved : Bool) (sizes : List ℕ) → area_of s client number ≡ Some area
    → answer s client (calls.Append number draft reserved sizes)
    ≡ outcome (replies.Placed (next_lsn s (length draft.bytes))) (appended s area draft reserved sizes)
append_answer s client number area draft reserved sizes there =
    ap (λ (found : Option Area). option_map_or
    (λ (a : Area). outcome (replies.Placed (next_lsn s (length draft.bytes))) (appended s a draft reserved sizes)) found
    (outcome (replies.Refused refusals.NoSuchArea) s)) there

pub append_step : GoesTheseWays → (told : Bool) (s t : State) (client number : ℕ) (area : Area) (draft : Draft) (reserved : Bool) (sizes : List ℕ) (lsn : ℕ)
    → s.broken ≡ false → refusal s client (calls.Append number draft reserved sizes) ≡ None → area_of s client number ≡ Some area
    → lsn ≡ next_lsn s (length draft.bytes) → t ≡ appended s area draft reserved sizes
    → Step told s client (calls.Append number draft reserved sizes) Fine (replies.Placed lsn) t
append_step ways told s t client number area draft reserved sizes lsn whole none there at state =
    let is = append_answer s client number area draft reserved sizes there in
    ways.answered told s client (calls.Append number draft reserved sizes) (replies.Placed lsn) t whole none
    (ap (λ (n : ℕ). replies.Placed n) at ∙ sym (ap (λ (o : Outcome). o.reply) is)) (state ∙ sym (ap (λ (o : Outcome). o.state) is))

-- a call that stops before its record is put is a step
pub stopped_step : GoesTheseWays → (told : Bool) (s t : State) (client : ℕ) (call : Call) (given : Refusal) → s.broken ≡ false → refusal s client call ≡ None
    → (given ≡ refusals.DiskFault → calls_disk s call ≡ true) → takes_memory call ≡ true → LeavesOf given s t
    → Step told s client call (happened_of_refusal given) (replies.Refused given) t
stopped_step ways told s t client call refusals.NoMemory whole none asks takes leaves =
    subst (λ (v : State). Step told s client call Fine (replies.Refused refusals.NoMemory) v) (sym leaves) (ways.no_memory told s client call Fine whole takes)
stopped_step ways told s t client call refusals.DiskFault whole none asks takes leaves =
    subst (λ (v : State). Step told s client call (happened_of_refusal refusals.DiskFault) (replies.Refused refusals.DiskFault) v) (sym leaves)
    (ways.faulted told s client call whole none (asks refl))
stopped_step ways told s t client call _ whole none asks takes leaves = absurd leaves

-- a call that would be quiet otherwise asked something of the disk
pub asked : (writes : Bool) → (writes ≡ false → ⊥) → writes ≡ true
asked true isnt = refl
asked false isnt = absurd (isnt refl)

-- a log that stays as it is doesn't grow
pub grows_not : (s : State) (need : ℕ) → grown s need ≡ s → grows s need ≡ false
grows_not s need same = ap (λ (t : State). nat_lt s.containers t.containers) same ∙ le-ltb s.containers s.containers (omega arith)
