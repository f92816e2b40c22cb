-- Shuffles, by their clients' calls and by the clients of their entries.
use Rattle.clfs_rows.proofs.Words.{◌≡◌, ℕ, refl, List, map, All-nil, All-cons, Entry}
use Rattle.std.proofs.Common.{[], ◌∷◌}
use Rattle.std.specs.Prelude.{Contains}
use Rattle.std.specs.List.{AllByRecursion}
use Rattle.std.proofs.lemmas.List.Elements.{All-from_recursion, All-contains}
use Rattle.clfs_model.specs.Journals.{mine, ClientScript, IsShuffle}

-- the entries of a script's client have its calls
abbrev pub HasCalls : List Entry → ClientScript → Type 0
HasCalls journal script = map (λ (entry : Entry). entry.call) (mine journal script.client) ≡ script.calls

-- an entry's client has a script
abbrev pub HasScript : List ClientScript → Entry → Type 0
HasScript scripts entry = Contains (map (λ (script : ClientScript). script.client) scripts) entry.client

pub shuffles : (journal : List Entry) (scripts : List ClientScript) → AllByRecursion (HasCalls journal) scripts → AllByRecursion
    (HasScript scripts) journal
    → IsShuffle journal scripts
shuffles journal scripts each none_else = record {
  each = All-from_recursion (HasCalls journal) scripts each;
  none_else = All-from_recursion (HasScript scripts) journal none_else;
}

-- the only client that has a script
pub is_the_only : (only client : ℕ) → Contains (only ∷ []) client → client ≡ only
is_the_only only client has = All-contains (λ other. other ≡ only) (only ∷ []) client
    (All-cons (λ other. other ≡ only) only [] refl (All-nil (λ other. other ≡ only))) has
