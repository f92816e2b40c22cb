-- The same call of the same log, by other names.
use Rattle.clfs_txn.proofs.Words.{◌≡◌, ℕ, Bool, true, false, List, [], ◌∷◌, Result, Some, sym, subst, ap, ◌∙◌, inl, inr, cases_Bool, eqb-true, Mode, Call}
use Rattle.clfs_txn.proofs.Words.{Draft, Refusal, Happened, Reply, State, Step, Steps, Action, append_call, Memory, Transaction, transaction, is_numbered}
use Rattle.std.proofs.Common.{find}
use Rattle.clfs_model.specs.declared.call.Call.TheVariants as log_calls

pub same_steps : {A : Type 0} (told : Bool) (log other : State) (client same : ℕ) (call asked : Call) (answer : A → Reply) (result : Result A Refusal) (t : State)
    → log ≡ other → client ≡ same → call ≡ asked → Steps told log client call answer result t → Steps told other same asked answer result t
same_steps told log other client same call asked answer result t p q r steps =
    subst (λ (s : State). Steps told s same asked answer result t) p
    (subst (λ (c : ℕ). Steps told log c asked answer result t) q (subst (λ (c : Call). Steps told log client c answer result t) r steps))

pub same_call : (told : Bool) (log : State) (client : ℕ) (call asked : Call) (happened : Happened) (reply : Reply) (t : State) → call ≡ asked
    → Step told log client call happened reply t → Step told log client asked happened reply t
same_call told log client call asked happened reply t r step = subst (λ (c : Call). Step told log client c happened reply t) r step

pub same_end : (told : Bool) (log : State) (client : ℕ) (call : Call) (happened : Happened) (reply : Reply) (t u : State) → t ≡ u
    → Step told log client call happened reply t → Step told log client call happened reply u
same_end told log client call happened reply t u r step = subst (λ (x : State). Step told log client call happened reply x) r step

pub append_is : (area place : ℕ) (draft other : Draft) (sizes : List ℕ) → area ≡ place → draft ≡ other → sizes ≡ []
    → log_calls.Append area draft true sizes ≡ log_calls.Append place other true []
append_is area place draft other sizes p q r =
    ap (λ (a : ℕ). log_calls.Append a draft true sizes) p ∙ ap (λ (d : Draft). log_calls.Append place d true sizes) q
    ∙ ap (λ (l : List ℕ). log_calls.Append place other true l) r

pub append_call_is : (memory : Memory) (t : Transaction) (action other : Action) (undo_next next : ℕ) (flush : Bool) → action ≡ other → undo_next ≡ next
    → append_call memory t action undo_next flush ≡ append_call memory t other next flush
append_call_is memory t action other undo_next next flush p q =
    ap (λ (a : Action). append_call memory t a undo_next flush) p ∙ ap (λ (n : ℕ). append_call memory t other n flush) q

find_passes : {X : Type 0} (p : X → Bool) (xs : List X) (x : X) → find p xs ≡ Some x → p x ≡ true
find_passes p [] x e = absurd (cc e)
find_passes {X = X} p (a ∷ xs) x e = elim (cases_Bool (p a)) [
  | inl passes ↦ let here : Some a ≡ Some x = rw passes at e in let same : a ≡ x = cc here in ap p (sym same) ∙ passes
  | inr fails ↦ let later : find p xs ≡ Some x = rw fails at e in find_passes p xs x later
]

-- the open transaction that is found has the number
pub numbered : (memory : Memory) (number : ℕ) (t : Transaction) → transaction memory number ≡ Some t → t.number ≡ number
numbered memory number t is = eqb-true t.number number (find_passes (is_numbered number) memory.transactions t is)

pub same_step : (told : Bool) (log other : State) (client same : ℕ) (call asked : Call) (happened : Happened) (reply : Reply) (t : State)
    → log ≡ other → client ≡ same → call ≡ asked → Step told log client call happened reply t → Step told other same asked happened reply t
same_step told log other client same call asked happened reply t p q r step =
    subst (λ (s : State). Step told s same asked happened reply t) p
    (subst (λ (c : ℕ). Step told log c asked happened reply t) q (subst (λ (c : Call). Step told log client c happened reply t) r step))

pub release_is : (area place sectors count : ℕ) → area ≡ place → sectors ≡ count → log_calls.Release area sectors ≡ log_calls.Release place count
release_is area place sectors count p q = ap (λ (a : ℕ). log_calls.Release a sectors) p ∙ ap (λ (n : ℕ). log_calls.Release place n) q

pub restart_is : (area place : ℕ) (bytes others : List ℕ) (base : ℕ) → area ≡ place → bytes ≡ others
    → log_calls.WriteRestart area bytes base false ≡ log_calls.WriteRestart place others base false
restart_is area place bytes others base p q =
    ap (λ (a : ℕ). log_calls.WriteRestart a bytes base false) p ∙ ap (λ (l : List ℕ). log_calls.WriteRestart place l base false) q

pub base_is : (area : ℕ) (bytes : List ℕ) (base other : ℕ) → base ≡ other → log_calls.WriteRestart area bytes base false ≡ log_calls.WriteRestart area bytes other false
base_is area bytes base other p = ap (λ (b : ℕ). log_calls.WriteRestart area bytes b false) p

pub read_is : (area place lsn : ℕ) (mode : Mode) → area ≡ place → log_calls.Read area lsn mode ≡ log_calls.Read place lsn mode
read_is area place lsn mode p = ap (λ (a : ℕ). log_calls.Read a lsn mode) p

pub read_next_is : (area place cursor : ℕ) → area ≡ place → log_calls.ReadNext area cursor ≡ log_calls.ReadNext place cursor
read_next_is area place cursor p = ap (λ (a : ℕ). log_calls.ReadNext a cursor) p

pub end_read_is : (area place cursor : ℕ) → area ≡ place → log_calls.EndRead area cursor ≡ log_calls.EndRead place cursor
end_read_is area place cursor p = ap (λ (a : ℕ). log_calls.EndRead a cursor) p

pub reserve_is : (area place : ℕ) (sizes others : List ℕ) → area ≡ place → sizes ≡ others → log_calls.Reserve area sizes ≡ log_calls.Reserve place others
reserve_is area place sizes others p q = ap (λ (a : ℕ). log_calls.Reserve a sizes) p ∙ ap (λ (l : List ℕ). log_calls.Reserve place l) q
