-- Refusals that are a call's own: none of them is a fault of the disk, and they change nothing.
use Rattle.clfs_manager.proofs.Words.{◌≡◌, ℕ, Bool, true, false, refl, sym, ap, subst, Ok, Err, IsErrOf, Result, Some, DiskState, is_of_call, Call, Refusal}
use Rattle.clfs_manager.proofs.Words.{Happened, Fine, State, happened_of_refusal, refusal, Step, GoesTheseWays, WritesDisk}
use Rattle.std.specs.Prelude.{IsErrAnd}
use Rattle.clfs_model.specs.declared.refusal.Refusal.TheVariants as refusals
use Rattle.clfs_model.specs.declared.reply.Reply.TheVariants as replies
use Rattle.clfs_manager.proofs.Intact.{writes_nothing}

no_fault : {A : Type 0} (given : Refusal) → is_of_call given ≡ true → IsErrOf {T = A} (Err given) refusals.DiskFault → ⊥
no_fault given own is =
    let same : given ≡ refusals.DiskFault = cc in
    let wrong : is_of_call refusals.DiskFault ≡ true = subst (λ (r : Refusal). is_of_call r ≡ true) same own in
    cc

-- nothing was asked of the disk
pub writes_refused : {A : Type 0} (given : Refusal) (disk : DiskState) → is_of_call given ≡ true → WritesDisk (IsErrOf {T = A} (Err given) refusals.DiskFault) disk disk
writes_refused {A} given disk own = writes_nothing (IsErrOf {T = A} (Err given) refusals.DiskFault) disk (no_fault {A = A} given own)

is_fine : (given : Refusal) → is_of_call given ≡ true → happened_of_refusal given ≡ Fine
is_fine refusals.DiskFault own = absurd (cc own)
is_fine (refusals.Damaged container offset at) own = absurd (cc own)
is_fine _ own = refl

-- the first refusal comes
pub refused_step : GoesTheseWays → (told : Bool) (s : State) (client : ℕ) (call : Call) (given : Refusal) → s.broken ≡ false → is_of_call given ≡ true
    → refusal s client call ≡ Some given → Step told s client call (happened_of_refusal given) (replies.Refused given) s
refused_step ways told s client call given whole own first =
    subst (λ (h : Happened). Step told s client call h (replies.Refused given) s) (sym (is_fine given own)) (ways.refused told s client call given whole first)

-- an answer that hands a refusal on
pub error_of : {A E : Type 0} (result : Result A E) (given : E) → IsErrAnd result (λ (error : E). error ≡ given) → result ≡ Err given
error_of (Ok value) given is = absurd is
error_of (Err error) given is = ap Err is
