-- The steps of the machine that asking for the sectors of records makes.
use Rattle.clfs_manager.proofs.Words.{◌≡◌, ℕ, Bool, false, refl, sym, ap, List, Some, None, Ok, Err, find, nat_lt, State, Area, own_sum, area_of}
use Rattle.clfs_manager.proofs.Words.{GoesTheseWays, Steps}
use Rattle.clfs_model.specs.declared.call.Call.TheVariants as calls
use Rattle.clfs_model.specs.declared.refusal.Refusal.TheVariants as refusals
use Rattle.clfs_model.specs.declared.reply.Reply.TheVariants as replies

-- a length above the area's largest
pub align_too_long : GoesTheseWays → (told : Bool) (s : State) (client number most len : ℕ) (sizes lengths : List ℕ) (area : Area) → s.broken ≡ false
    → area_of s client number ≡ Some area → most ≡ area.largest → lengths ≡ sizes → Some len ≡ find (λ n. nat_lt most n) lengths
    → Steps told s client (calls.Align number sizes) replies.Sectors (Err (refusals.RecordTooLong len most)) s
align_too_long ways told s client number most len sizes lengths area whole there is same long =
    let found : find (λ n. nat_lt area.largest n) sizes ≡ Some len = rw (← is, ← same) (sym long) in
    ways.refused told s client (calls.Align number sizes) (refusals.RecordTooLong len most) whole (rw (there, found, is) refl)

-- the sectors of records that fit
pub align_done : GoesTheseWays → (told : Bool) (s : State) (client number most sum : ℕ) (sizes lengths : List ℕ) (area : Area) → s.broken ≡ false
    → area_of s client number ≡ Some area → most ≡ area.largest → lengths ≡ sizes → None ≡ find (λ n. nat_lt most n) lengths → sum ≡ own_sum sizes
    → Steps told s client (calls.Align number sizes) replies.Sectors (Ok sum) s
align_done ways told s client number most sum sizes lengths area whole there is same none total =
    let found : find (λ n. nat_lt area.largest n) sizes ≡ None = rw (← is, ← same) (sym none) in
    ways.answered told s client (calls.Align number sizes) (replies.Sectors sum) s whole (rw (there, found) refl) (ap replies.Sectors total) refl
