-- What joined seats had seen.
use Rattle.std.proofs.Common.{◌≡◌, ℕ, ◌≤◌, true, List, [], ◌∷◌, ◌++◌, length, sym, ◌∙◌}
use mathlib.Core.List.{IsPrefix}
use Rattle.clfs_turn.specs.declared.view.Past.{Past}
use Rattle.clfs_turn.specs.Lists.{is_in, entries_of}
use Rattle.clfs_turn.specs.Rule.{AllPast}
use Rattle.clfs_turn.proofs.Prefixes.{prefix_trans, prefix_shorter}

-- each of these is no longer than n
abbrev pub AllShort : {E : Type 0} → ℕ → List (Past E) → Type 0
AllShort n [] = Unit {0}
AllShort n (p ∷ ps) = (length p.seen ≤ n) × AllShort n ps

module _ {E : Type 0} (client_of : E → ℕ) where
  -- the history grew by no entry of these clients
  pub past_still : (hist hist' : List E) (cs : List ℕ) (ps : List (Past E)) → IsPrefix hist hist'
      → ((c : ℕ) → is_in c cs ≡ true → entries_of client_of c hist ≡ entries_of client_of c hist')
      → AllPast client_of hist cs ps → AllPast client_of hist' cs ps
  past_still hist hist' cs [] grew same h = tt
  past_still hist hist' cs (p ∷ ps) grew same h = (
    record {
      begins = prefix_trans p.seen hist hist' h.0.begins grew;
      own = λ c o. let a = h.0.own c o in (a.0, a.1 ∙ same c a.0);
    },
    past_still hist hist' cs ps grew same h.1,
  )

  -- the clients became more
  pub past_wider : (hist : List E) (cs cs' : List ℕ) (ps : List (Past E)) → ((c : ℕ) → is_in c cs ≡ true → is_in c cs' ≡ true)
      → AllPast client_of hist cs ps → AllPast client_of hist cs' ps
  past_wider hist cs cs' [] wider h = tt
  past_wider hist cs cs' (p ∷ ps) wider h = (
    record { begins = h.0.begins; own = λ c o. let a = h.0.own c o in (wider c a.0, a.1) },
    past_wider hist cs cs' ps wider h.1,
  )

  pub past_both : (hist : List E) (cs : List ℕ) (ps qs : List (Past E)) → AllPast client_of hist cs ps → AllPast client_of hist cs qs
      → AllPast client_of hist cs (ps ++ qs)
  past_both hist cs [] qs h k = k
  past_both hist cs (p ∷ ps) qs h k = (h.0, past_both hist cs ps qs h.1 k)

  -- a beginning of the history that has all entries of these clients, and is no shorter than these
  pub past_seen : (seen hist : List E) (cs : List ℕ) (ps : List (Past E)) → IsPrefix seen hist
      → ((c : ℕ) → is_in c cs ≡ true → entries_of client_of c seen ≡ entries_of client_of c hist)
      → AllShort (length seen) ps → AllPast client_of hist cs ps → AllPast client_of seen cs ps
  past_seen seen hist cs [] begins same short h = tt
  past_seen seen hist cs (p ∷ ps) begins same short h = (
    record {
      begins = prefix_shorter p.seen seen hist h.0.begins begins short.0;
      own = λ c o. let a = h.0.own c o in (a.0, a.1 ∙ sym (same c a.0));
    },
    past_seen seen hist cs ps begins same short.1 h.1,
  )
