-- A call that puts a record into a log: what it finds once the log has grown and its area has spent, and how it is a step.
use Rattle.clfs_manager.proofs.Words.{◌≡◌, ℕ, ◌≤◌, Bool, true, false, refl, sym, ap, subst, ◌∙◌, List, [], ◌∷◌, length, Option, Some, None, Err, IsErrOf}
use Rattle.clfs_manager.proofs.Words.{◌==◌, find, if◌then◌else◌, nat_lt, option_map_or, ltb-false, null_lsn, Call, Refusal, Fine, Area, State, Outcome}
use Rattle.clfs_manager.proofs.Words.{answer, outcome, restarted, happened_of_refusal, need_of, next_lsn, spend_if, spent_of, full, invalid_base, refused_if}
use Rattle.clfs_manager.proofs.Words.{refusal, short, too_long, area_of, Step, calls_disk, takes_memory, GoesTheseWays, LeavesOf}
use Rattle.clfs_model.specs.declared.call.Call.TheVariants as calls
use Rattle.clfs_model.specs.declared.refusal.Refusal.TheVariants as refusals
use Rattle.clfs_model.specs.declared.reply.Reply.TheVariants as replies
use Rattle.clfs_model.specs.Refusals.{restart_refusal}

-- ---- shapes and places

-- A log that has grown, and of which an area has spent, has the shape of before.
pub shape_spent : (reserved : Bool) (area : Area) (n : ℕ) (s : State) → (spend_if reserved area n s).shape ≡ s.shape
shape_spent true area n s = refl
shape_spent false area n s = refl

pub place_spent : (reserved : Bool) (area : Area) (n : ℕ) (s : State) → (spend_if reserved area n s).place ≡ s.place
place_spent true area n s = refl
place_spent false area n s = refl

-- ---- refusals

pub others_none : (test : Bool) (given : Refusal) (others : Option Refusal) → refused_if test given others ≡ None → (test ≡ false) × (others ≡ None)
others_none true given others none = absurd (cc none)
others_none false given others none = (refl, none)

pub not_long : (greatest : ℕ) (lengths : List ℕ) (others : Option Refusal) → too_long greatest lengths others ≡ None → others ≡ None
not_long greatest lengths others none = by_found (find (λ len. nat_lt greatest len) lengths) none
  where
    by_found : (found : Option ℕ) → option_map_or (λ len. Some (refusals.RecordTooLong len greatest)) found others ≡ None → others ≡ None
    by_found None is = is
    by_found (Some len) is = absurd (cc is)

-- What a restart area takes of its area, this holds.
pub restart_enough : (s : State) (area : Area) (bytes : List ℕ) (base : ℕ) (reserved : Bool) → restart_refusal s area bytes base reserved ≡ None
    → spent_of reserved (length bytes) ≤ area.held
restart_enough s area bytes base reserved none = ltb-false area.held (spent_of reserved (length bytes)) (by_base (base == null_lsn) (not_long area.largest (length bytes ∷ []) _ none))
  where
    by_base : (null : Bool) → (if null then short area (spent_of reserved (length bytes)) (full s (need_of reserved (length bytes) []))
        else invalid_base s area.stream base (short area (spent_of reserved (length bytes)) (full s (need_of reserved (length bytes) [])))) ≡ None
        → nat_lt area.held (spent_of reserved (length bytes)) ≡ false
    by_base true is = (others_none _ _ _ is).0
    by_base false is = (others_none _ _ _ (others_none _ _ _ is).1).0

-- ---- steps

-- A fault is one whatever the call answers else.
pub as_fault : {A B : Type 0} (given other : Refusal) → IsErrOf {T = A} (Err given) other → IsErrOf {T = B} (Err given) other
as_fault given other is = let same : given ≡ other = cc in ap (λ (r : Refusal). Err r) same

-- A call that stops while it takes memory or grows the log is a step.
pub leaves_step : GoesTheseWays → (told : Bool) (s t : State) (client : ℕ) (call : Call) (given : Refusal) → s.broken ≡ false → refusal s client call ≡ None
    → calls_disk s call ≡ true → takes_memory call ≡ true → LeavesOf given s t → Step told s client call (happened_of_refusal given) (replies.Refused given) t
leaves_step ways told s t client call refusals.NoMemory whole none asks takes leaves =
    subst (λ (v : State). Step told s client call Fine (replies.Refused refusals.NoMemory) v) (sym leaves) (ways.no_memory told s client call Fine whole takes)
leaves_step ways told s t client call refusals.DiskFault whole none asks takes leaves =
    subst (λ (v : State). Step told s client call (happened_of_refusal refusals.DiskFault) (replies.Refused refusals.DiskFault) v) (sym leaves)
    (ways.faulted told s client call whole none asks)
leaves_step ways told s t client call _ whole none asks takes leaves = absurd leaves

restart_answer : (s : State) (client number : ℕ) (area : Area) (bytes : List ℕ) (base : ℕ) (reserved : Bool) → area_of s client number ≡ Some area
    → answer s client (calls.WriteRestart number bytes base reserved)
    ≡ outcome (replies.Placed (next_lsn s (length bytes))) (restarted s area bytes base reserved)
restart_answer s client number area bytes base reserved there =
    ap (λ (found : Option Area). option_map_or
    (λ (a : Area). outcome (replies.Placed (next_lsn s (length bytes))) (restarted s a bytes base reserved)) found
    (outcome (replies.Refused refusals.NoSuchArea) s)) there

pub restart_step : GoesTheseWays → (told : Bool) (s t : State) (client number : ℕ) (area : Area) (bytes : List ℕ) (base : ℕ) (reserved : Bool) (lsn : ℕ)
    → s.broken ≡ false → refusal s client (calls.WriteRestart number bytes base reserved) ≡ None → area_of s client number ≡ Some area
    → lsn ≡ next_lsn s (length bytes) → t ≡ restarted s area bytes base reserved
    → Step told s client (calls.WriteRestart number bytes base reserved) Fine (replies.Placed lsn) t
restart_step ways told s t client number area bytes base reserved lsn whole none there at state =
    let is = restart_answer s client number area bytes base reserved there in
    ways.answered told s client (calls.WriteRestart number bytes base reserved) (replies.Placed lsn) t whole none
    (ap (λ (n : ℕ). replies.Placed n) at ∙ sym (ap (λ (o : Outcome). o.reply) is)) (state ∙ sym (ap (λ (o : Outcome). o.state) is))
