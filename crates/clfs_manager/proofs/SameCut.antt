-- What the disk has of a log is the same log to every reply: records of containers below the hold's alone are left out.
use Rattle.clfs_manager.proofs.Words.{◌≡◌, ℕ, ◌≤◌, Bool, true, false, refl, sym, ap, ◌∙◌, List, [], ◌∷◌, ◌++◌, map, arith, Contains, filter, nat_le}
use Rattle.clfs_manager.proofs.Words.{option_to_list, nat_tests, lsn_number, container_of, frontier, LogEntry, State, IsSame, hold, is_live, least_or}
use Rattle.clfs_manager.proofs.Words.{records_from_container}
use Rattle.clfs_model.specs.Flush.{needed_records}
use Rattle.clfs_manager.proofs.Among.{here, there}

-- what a test passes is kept by one that all these pass
kept_twice : (keep p : LogEntry → Bool) (entries : List LogEntry) → ((entry : LogEntry) → Contains entries entry → p entry ≡ true → keep entry ≡ true)
    → filter p (filter keep entries) ≡ filter p entries
kept_twice keep p [] all = refl
kept_twice keep p (entry ∷ entries) all =
    let rest = kept_twice keep p entries (λ other among passes. all other (there entry other entries among) passes) in
    by_test (keep entry) (p entry) refl refl rest
  where
    by_test : (kept passed : Bool) → keep entry ≡ kept → p entry ≡ passed → filter p (filter keep entries) ≡ filter p entries
        → filter p (filter keep (entry ∷ entries)) ≡ filter p (entry ∷ entries)
    by_test true true k t rest = rw (k, t) (ap (λ (es : List LogEntry). entry ∷ es) rest)
    by_test true false k t rest = rw (k, t) rest
    by_test false false k t rest = rw (k, t) rest
    by_test false true k t rest = let clash = sym k ∙ all entry (here entry entries) t in absurd (cc clash)

module _ (below : (s : State) (entry : LogEntry) → Contains s.records entry → is_live s entry ≡ true → hold s ≤ entry.lsn) where
  -- the state with the records from a container on, which isn't above the hold's, is the same
  pub same_from : (s : State) (first : ℕ) → first ≤ container_of (hold s) → IsSame s (record s { records = records_from_container first s.records })
  same_from s first low = record {
    hold = ap container_of (sym hold_is);
    records = sym needed;
    others = refl;
  }
    where
      t : State
      t = record s { records = records_from_container first s.records }

      hold_is : hold (record s { records = records_from_container first s.records }) ≡ hold s
      hold_is = ap (λ (entries : List LogEntry). least_or (frontier s.place) (option_to_list s.archive ++ map (λ (entry : LogEntry). entry.lsn) entries))
          (kept_twice (λ (entry : LogEntry). nat_le (lsn_number first 0 0) entry.lsn) (is_live s) s.records
          (λ entry among alive. let from = below s entry among alive in grind (arith, nat_tests, from, low)))

      needed : needed_records (record s { records = records_from_container first s.records }) ≡ needed_records s
      needed = ap (λ (h : ℕ). filter (λ (entry : LogEntry). nat_le (container_of h) (container_of entry.lsn)) (records_from_container first s.records)) hold_is
          ∙ kept_twice (λ (entry : LogEntry). nat_le (lsn_number first 0 0) entry.lsn) (λ (entry : LogEntry). nat_le (container_of (hold s)) (container_of entry.lsn)) s.records
          (λ entry among from. grind (arith, nat_tests, from, low))
