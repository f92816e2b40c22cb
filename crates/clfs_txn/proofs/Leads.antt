-- Plans that were carried out in part.
use Rattle.clfs_txn.proofs.Words.{◌≡◌, ℕ, Bool, sym, subst, Call, Reply, State, happened_of, Step, Plan, calls, LeadsTo}

pub leads_on : {A : Type 0} (told : Bool) (client : ℕ) (a b c : State) (p q r : Plan A) → LeadsTo A told client a p b q → LeadsTo A told client b q c r
    → LeadsTo A told client a p c r
leads_on told client a b c p q r first second = record {
  carried = λ result t carries. first.carried result t (second.carried result t carries);
  goes = λ under along. second.goes under (first.goes under along);
}

pub leads_nowhere : {A : Type 0} (told : Bool) (client : ℕ) (log : State) (plan : Plan A) → LeadsTo A told client log plan log plan
leads_nowhere told client log plan = record { carried = λ result t carries. carries; goes = λ under along. along }

-- one call of the log
pub leads_call : {A : Type 0} (told : Bool) (client : ℕ) (log : State) (call : Call) (rest : Reply → Plan A) (reply : Reply) (mid : State)
    → Step told log client call (happened_of reply) reply mid → LeadsTo A told client log (calls call rest) mid (rest reply)
leads_call told client log call rest reply mid step = record {
  carried = λ result t carries. (happened_of reply, reply, mid, (step, carries));
  goes = λ under along. along.1 (happened_of reply) reply mid step;
}

-- the same plan, by other names
pub leads_from : {A : Type 0} (told : Bool) (client : ℕ) (a b : State) (p other q : Plan A) → other ≡ p → LeadsTo A told client a p b q → LeadsTo A told client a other b q
leads_from {A} told client a b p other q same leads = subst (λ (x : Plan A). LeadsTo A told client a x b q) (sym same) leads

pub leads_to : {A : Type 0} (told : Bool) (client : ℕ) (a b : State) (p q other : Plan A) → q ≡ other → LeadsTo A told client a p b q → LeadsTo A told client a p b other
leads_to {A} told client a b p q other same leads = subst (λ (x : Plan A). LeadsTo A told client a p b x) same leads

pub by_client : {A : Type 0} (told : Bool) (client same : ℕ) (a b : State) (p q : Plan A) → client ≡ same → LeadsTo A told client a p b q → LeadsTo A told same a p b q
by_client {A} told client same a b p q is leads = subst (λ (c : ℕ). LeadsTo A told c a p b q) is leads

pub by_told : {A : Type 0} (told same : Bool) (client : ℕ) (a b : State) (p q : Plan A) → told ≡ same → LeadsTo A told client a p b q → LeadsTo A same client a p b q
by_told {A} told same client a b p q is leads = subst (λ (x : Bool). LeadsTo A x client a p b q) is leads
