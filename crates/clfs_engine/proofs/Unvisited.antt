-- A log to which nobody came has taken no call.
use Rattle.std.proofs.Common.{◌≡◌, ℕ, ◌+◌, ◌<◌, ◌≤◌, Bool, false, refl, subst, inl, inr, List, [], ◌∷◌, length, arith}
use Rattle.std.specs.Prelude.{◌==◌, nat_le, Option}
use Rattle.std.proofs.lemmas.Bool.{cases_Bool, cases_lt, or_parts, true≢false}
use Rattle.std.proofs.lemmas.Bool.Decides.{nat_tests}
use Rattle.clfs_model.specs.declared.journal.Entry.{Entry}
use Rattle.clfs_model.specs.declared.state.State.{State}
use Rattle.clfs_model.specs.Journals.{mine}
use Rattle.clfs_share.specs.Made.{all_made}
use Rattle.clfs_share.specs.Taken.{IsOfClients}
use Rattle.clfs_share.specs.Visited.{AreVisited, AreVisits, EndsVisits, comings_of, could_come, could_any_come}
use Rattle.clfs_share.specs.declared.visitors.Visitors as Visitors
use Rattle.clfs_share.specs.declared.visitors.ComingEnd.{ComingEnd}
use Rattle.clfs_share.specs.declared.visitors.ComingEnd.TheVariants.{Over, Failed, NoThread}
use Rattle.clfs_share.specs.declared.visits.VisitedClient.{VisitedClient}
use Rattle.clfs_engine.proofs.Unserved.{equal_by, unequal_by, no_entry}

no_made : (entries : List Entry) → all_made entries ≡ [] → entries ≡ []
no_made [] none = refl
no_made (entry ∷ entries) none = absurd (cc none)

none_below : (visits : ℕ) → nat_le 1 visits ≡ false → visits ≡ 0
none_below visits none = grind (arith, nat_tests)

module _ {P S K : Type 0} (visiting : Visitors.Ghosts P S K) (left : S → Option (List ℕ)) (source_faults : S → ℕ) (written : K → Option (List ℕ)) (sink_faults : K → ℕ)
    (told : Bool) (first : State) (journal : List Entry) where
  one_unvisited : (end : ComingEnd) (client : ℕ) (visitors after : P) → could_come end ≡ false
      → EndsVisits visiting left source_faults written sink_faults told first client end visitors after (all_made (mine journal client)) → mine journal client ≡ []
  one_unvisited (Over visits) client visitors after none is = absurd (true≢false none)
  one_unvisited (Failed visits) client visitors after none is =
      let F : ℕ → Type 0 = λ count. AreVisits visiting left source_faults written sink_faults told first client count visitors is.0 (all_made (mine journal client)) in
      no_made (mine journal client) (subst F (none_below visits none) is.1.0).1
  one_unvisited NoThread client visitors after none is = no_made (mine journal client) is.0

  all_unvisited : (from : ℕ) (visitors : List P) (clients : List (VisitedClient P S K)) → could_any_come (comings_of clients) ≡ false
      → AreVisited visiting left source_faults written sink_faults told first journal from visitors clients → (client : ℕ) → from ≤ client
      → client < from + length visitors → mine journal client ≡ []
  all_unvisited from [] [] none are client least most = absurd (omega (arith, least, most))
  all_unvisited from [] (ended ∷ others) none are client least most = absurd are
  all_unvisited from (visitors ∷ more) [] none are client least most = absurd are
  all_unvisited from (visitors ∷ more) (ended ∷ others) none are client least most =
      let parts = or_parts (could_come ended.end) (could_any_come (comings_of others)) none in
      elim (cases_Bool (from == client)) [
        | inl same ↦
            let F : ℕ → Type 0 = λ c. mine journal c ≡ [] in
            subst F (equal_by from client same) (one_unvisited ended.end from visitors ended.visitors parts.0 are.0)
        | inr other ↦
            all_unvisited (from + 1) more others parts.1 are.1 client (unequal_by from client other least) (omega (arith, most))
      ]

  -- no call was taken if nobody came
  pub none_visited : (visitors : List P) (clients : List (VisitedClient P S K)) → AreVisited visiting left source_faults written sink_faults told first journal 1 visitors clients
      → IsOfClients (length visitors) journal → could_any_come (comings_of clients) ≡ false → journal ≡ []
  none_visited visitors clients are others none = no_entry journal (λ client. elim (cases_lt client 1) [
    | inl below ↦ others client (inl (omega (arith, below)))
    | inr least ↦ elim (cases_lt (length visitors) client) [
      | inl past ↦ others client (inr past)
      | inr most ↦ all_unvisited 1 visitors clients none are client least (omega (arith, most))
    ]
  ])
