-- A log of which no client was served has taken no call.
use Rattle.std.proofs.Common.{◌≡◌, ℕ, ◌+◌, ◌<◌, ◌≤◌, Bool, true, false, refl, sym, ap, subst, ◌∙◌, inl, inr, List, [], ◌∷◌, length, arith}
use Rattle.std.specs.Prelude.{◌==◌, if◌then◌else◌, Option}
use Rattle.std.proofs.lemmas.Bool.{cases_Bool, cases_lt, or_parts, true≢false}
use Rattle.std.proofs.lemmas.Bool.Decides.{nat_tests}
use Rattle.clfs_model.specs.declared.journal.Entry.{Entry}
use Rattle.clfs_model.specs.declared.state.State.{State}
use Rattle.clfs_model.specs.Journals.{IsLegal, mine}
use Rattle.clfs_share.specs.declared.pairs.ClientEnd.{ClientEnd}
use Rattle.clfs_share.specs.declared.pairs.ClientEnd.TheVariants.{Served, NotOpened, NoThread}
use Rattle.clfs_share.specs.declared.pairs.EndedClient.{EndedClient}
use Rattle.clfs_share.specs.declared.openers.Openers as Openers
use Rattle.clfs_share.specs.Ended.{ends_of, is_served, is_any_served}
use Rattle.clfs_share.specs.Taken.{AreTaken, IsOfClients, IsTakenAs}

pub equal_by : (a b : ℕ) → (a == b) ≡ true → a ≡ b
equal_by a b is = grind (arith, nat_tests)

own_number : (n : ℕ) → (n == n) ≡ true
own_number n = grind (arith, nat_tests)

pub unequal_by : (a b : ℕ) → (a == b) ≡ false → a ≤ b → a + 1 ≤ b
unequal_by a b is below = grind (arith, nat_tests)

-- a journal of which no client has an entry has none
pub no_entry : (journal : List Entry) → ((client : ℕ) → mine journal client ≡ []) → journal ≡ []
no_entry [] none = refl
no_entry (entry ∷ entries) none =
    let own = ap (λ (b : Bool). if b then entry ∷ mine entries entry.client else mine entries entry.client) (own_number entry.client) in
    absurd (cc (sym own ∙ none entry.client))

-- a log that took no call is as it was
pub same_state : (told : Bool) (journal : List Entry) (s t : State) → journal ≡ [] → IsLegal told journal s t → t ≡ s
same_state told journal s t none legal = let F : List Entry → Type 0 = λ z. IsLegal told z s t in subst F none legal

module _ {P S K : Type 0} (opening : Openers.Ghosts P S K) (left : S → Option (List ℕ)) (source_faults : S → ℕ) (written : K → Option (List ℕ)) (sink_faults : K → ℕ)
    (journal : List Entry) (last : State) where
  one_silent : (end : ClientEnd) (client : ℕ) (openers after : P) (ports : Option (S × K)) → is_served end ≡ false
      → IsTakenAs opening left source_faults written sink_faults journal last end client openers after ports → mine journal client ≡ []
  one_silent (Served status) client openers after ports none is = absurd (true≢false none)
  one_silent NotOpened client openers after ports none is = is.0
  one_silent NoThread client openers after ports none is = is.0

  all_silent : (from : ℕ) (openers : List P) (clients : List (EndedClient P S K)) → is_any_served (ends_of clients) ≡ false
      → AreTaken opening left source_faults written sink_faults journal last from openers clients → (client : ℕ) → from ≤ client → client < from + length openers
      → mine journal client ≡ []
  all_silent from [] [] none are client least most = absurd (omega (arith, least, most))
  all_silent from [] (ended ∷ others) none are client least most = absurd are
  all_silent from (openers ∷ more) [] none are client least most = absurd are
  all_silent from (openers ∷ more) (ended ∷ others) none are client least most = elim (cases_Bool (from == client)) [
    | inl same ↦
        let F : ℕ → Type 0 = λ c. mine journal c ≡ [] in
        subst F (equal_by from client same)
        (one_silent ended.end from openers ended.openers ended.ports (or_parts (is_served ended.end) (is_any_served (ends_of others)) none).0 are.0)
    | inr other ↦
        all_silent (from + 1) more others (or_parts (is_served ended.end) (is_any_served (ends_of others)) none).1 are.1 client
        (unequal_by from client other least) (omega (arith, most))
  ]

  -- no call was taken if no client was served
  pub none_taken : (openers : List P) (clients : List (EndedClient P S K)) → AreTaken opening left source_faults written sink_faults journal last 1 openers clients
      → IsOfClients (length openers) journal → is_any_served (ends_of clients) ≡ false → journal ≡ []
  none_taken openers clients are others none = no_entry journal (λ client. elim (cases_lt client 1) [
    | inl zero ↦ others client (inl (omega (arith, zero)))
    | inr least ↦ elim (cases_lt (length openers) client) [
      | inl past ↦ others client (inr past)
      | inr most ↦ all_silent 1 openers clients none are client least (omega (arith, most))
    ]
  ])
