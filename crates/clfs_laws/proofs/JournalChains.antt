-- Journals cut in two and joined, and their numbers.
use Rattle.clfs_laws.proofs.Words.{◌≡◌, ℕ, ◌+◌, Bool, true, false, refl, sym, ap, ◌∙◌, subst, append_assoc, length-append, inl, inr, List, [], ◌∷◌, ◌++◌}
use Rattle.clfs_laws.proofs.Words.{length, map, ◌==◌, range_with_len, cases_Bool, eqb-true, append-nil, filter-append, Entry, State, GoesOn, IsLegal, mine}
use Rattle.clfs_laws.specs.Chains.{AreSteps}

-- entries that go on after others, cut in two
pub cut_in_two : (told : Bool) (before : List Entry) (s t : State) (front rest : List Entry) → GoesOn told before s (front ++ rest) t
    → (mid : State) × (GoesOn told before s front mid × GoesOn told (before ++ front) mid rest t)
cut_in_two told before s t [] rest goes = (s, (refl, let F : List Entry → Type 0 = λ b. GoesOn told b s rest t in subst F (sym (append-nil before)) goes))
cut_in_two told before s t (entry ∷ front) rest goes =
    let cut = cut_in_two told (before ++ entry ∷ []) goes.0 t front rest goes.1.1 in
    let behind : (before ++ entry ∷ []) ++ front ≡ before ++ (entry ∷ front) = append_assoc before (entry ∷ []) front in
    (cut.0, ((goes.0, (goes.1.0, cut.1.0)), let F : List Entry → Type 0 = λ b. GoesOn told b cut.0 rest t in subst F behind cut.1.1))

-- entries that go on after others, joined
pub joined : (told : Bool) (before : List Entry) (s mid t : State) (front rest : List Entry) → GoesOn told before s front mid
    → GoesOn told (before ++ front) mid rest t → GoesOn told before s (front ++ rest) t
joined told before s mid t [] rest goes on =
    let F : List Entry → Type 0 = λ b. GoesOn told b mid rest t in
    let G : State → Type 0 = λ m. GoesOn told before m rest t in
    subst G goes (subst F (append-nil before) on)
joined told before s mid t (entry ∷ front) rest goes on =
    let behind : before ++ (entry ∷ front) ≡ (before ++ entry ∷ []) ++ front = sym (append_assoc before (entry ∷ []) front) in
    let F : List Entry → Type 0 = λ b. GoesOn told b mid rest t in
    (goes.0, (goes.1.0, joined told (before ++ entry ∷ []) goes.0 mid t front rest goes.1.1 (subst F behind on)))

-- chains of steps, joined
pub steps_join : (told : Bool) (s mid t : State) (front rest : List Entry) → AreSteps told s front mid → AreSteps told mid rest t → AreSteps told s (front ++ rest) t
steps_join told s mid t [] rest steps more = let G : State → Type 0 = λ m. AreSteps told m rest t in subst G steps more
steps_join told s mid t (entry ∷ front) rest steps more =
    (steps.0, (steps.1.0, (steps.1.1.0, steps_join told steps.0 mid t front rest steps.1.1.1 more)))

-- entries that go on are steps
pub are_steps : (told : Bool) (before : List Entry) (s t : State) (entries : List Entry) → GoesOn told before s entries t → AreSteps told s entries t
are_steps told before s t [] goes = goes
are_steps told before s t (entry ∷ entries) goes =
    (goes.0, (goes.1.0.step, (goes.1.0.no_want, are_steps told (before ++ entry ∷ []) goes.0 t entries goes.1.1)))

length_more : (entries : List Entry) (entry : Entry) → length (entries ++ entry ∷ []) ≡ length entries + 1
length_more entries entry = length-append entries (entry ∷ [])

-- a client's own entries with one entry more, which is its own or isn't
pub own_more : (before : List Entry) (entry : Entry) (client : ℕ) → (entry.client == client) ≡ true → mine (before ++ entry ∷ []) client ≡ mine before client ++ entry ∷ []
own_more before entry client same = filter-append (λ (e : Entry). e.client == client) before (entry ∷ []) ∙ rw same refl

pub own_same : (before : List Entry) (entry : Entry) (client : ℕ) → (entry.client == client) ≡ false → mine (before ++ entry ∷ []) client ≡ mine before client
own_same before entry client other =
    filter-append (λ (e : Entry). e.client == client) before (entry ∷ []) ∙ rw other (append-nil (mine before client))

-- the numbers of the entries of a client that go on after others
numbers_from : (told : Bool) (before : List Entry) (s t : State) (client : ℕ) (entries : List Entry) → GoesOn told before s entries t
    → map (λ (entry : Entry). entry.number) (mine entries client) ≡ range_with_len (length (mine before client) + 1) (length (mine entries client))
numbers_from told before s t client [] goes = refl
numbers_from told before s t client (entry ∷ entries) goes =
    let rest = numbers_from told (before ++ entry ∷ []) goes.0 t client entries goes.1.1 in
    elim (cases_Bool (entry.client == client)) [
      | inl same ↦
          let is : entry.client ≡ client = eqb-true entry.client client same in
          let number : entry.number ≡ length (mine before client) + 1 = goes.1.0.number ∙ ap (λ c. length (mine before c) + 1) is in
          let count : length (mine (before ++ entry ∷ []) client) ≡ length (mine before client) + 1 =
          ap length (own_more before entry client same) ∙ length_more (mine before client) entry in
          rw (same, number, rest, count) refl
      | inr other ↦ rw (other, rest, own_same before entry client other) refl
    ]

-- in a legal journal they are 1, 2, 3 and so on
pub numbers_rise : (told : Bool) (s t : State) (journal : List Entry) (client : ℕ) → IsLegal told journal s t
    → map (λ (entry : Entry). entry.number) (mine journal client) ≡ range_with_len 1 (length (mine journal client))
numbers_rise told s t journal client legal = numbers_from told [] s t client journal legal
