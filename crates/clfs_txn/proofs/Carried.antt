-- Carrying out plans, piece by piece.
use Rattle.clfs_txn.proofs.Words.{◌≡◌, ℕ, Bool, true, false, refl, sym, subst, ap, ◌∙◌, Call, Reply, State, happened_of, Step, TxnCall, TxnRefusal, TxnReply}
use Rattle.clfs_txn.proofs.Words.{Plan, calls, CarriesOut, Answered, TxnStep, txn_plan, refuses, Memory, Store, store_of}
use Rattle.clfs_cells.specs.declared.told.TxnReply.TheVariants as replies
use Rattle.clfs_cells.specs.Calls.{unless}

pub passed : (test : Bool) (refusal : TxnRefusal) (memory : Memory) (others : Plan Answered) → test ≡ false → unless test refusal memory others ≡ others
passed test refusal memory others e = rw e refl

pub met : (test : Bool) (refusal : TxnRefusal) (memory : Memory) (others : Plan Answered) → test ≡ true → unless test refusal memory others ≡ refuses memory refusal
met test refusal memory others e = rw e refl

-- a plan that is another one is carried out as that is
pub as_plan : (told : Bool) (client : ℕ) (log : State) (plan other : Plan Answered) (result : Answered) (t : State) → plan ≡ other
    → CarriesOut told client log other result t → CarriesOut told client log plan result t
as_plan told client log plan other result t same carries = subst (λ (p : Plan Answered). CarriesOut told client log p result t) (sym same) carries

-- one call of the log, and what comes after it
pub one_call : (told : Bool) (client : ℕ) (log : State) (call : Call) (rest : Reply → Plan Answered) (reply : Reply) (mid : State) (result : Answered) (t : State)
    → Step told log client call (happened_of reply) reply mid → CarriesOut told client mid (rest reply) result t
    → CarriesOut told client log (calls call rest) result t
one_call told client log call rest reply mid result t step behind = (happened_of reply, reply, mid, (step, behind))

pub same_store : (t u : State) (m n : Memory) → t ≡ u → m ≡ n → store_of t m ≡ store_of u n
same_store t u m n p q = ap (λ (x : State). store_of x m) p ∙ ap (λ (x : Memory). store_of u x) q

pub answered : TxnReply → Memory → Answered
answered reply memory = record { reply = reply; memory = memory }

-- ---- steps of a store

-- a step of a call with this plan
pub step_is : (told : Bool) (s : Store) (call : TxnCall) (reply : TxnReply) (t : Store) (other : Plan Answered) → txn_plan s.log s.memory call ≡ other
    → CarriesOut told s.memory.client s.log other (record { reply = reply; memory = t.memory }) t.log → TxnStep told s call reply t
unfolding TxnStep
step_is told s call reply t other same carries =
    as_plan told s.memory.client s.log (txn_plan s.log s.memory call) other (record { reply = reply; memory = t.memory }) t.log same carries

-- a call that is refused without a call of the log
pub refused_at_once : (told : Bool) (s : Store) (call : TxnCall) (refusal : TxnRefusal) → txn_plan s.log s.memory call ≡ refuses s.memory refusal
    → TxnStep told s call (replies.Refused refusal) s
refused_at_once told s call refusal same = step_is told s call (replies.Refused refusal) s (refuses s.memory refusal) same (refl, refl)
