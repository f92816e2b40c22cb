-- The table of the flushed part of a log, and of logs that are the same.
use Rattle.clfs_cells_laws.proofs.Words.{◌≡◌, ℕ, ◌<◌, Bool, true, refl, sym, ap, ◌∙◌, inl, inr, List, [], ◌∷◌, Option, Some, None, ◌&&◌, ◌==◌, filter, nat_lt}
use Rattle.clfs_cells_laws.proofs.Words.{AllByRecursion, option_map_or, cases_Bool, lt-ltb, LogEntry, State, cut, flushed, is_live, live, stream_number}
use Rattle.clfs_cells_laws.proofs.Words.{blank_cells, table, table_in, table_name}
use Rattle.clfs_model.specs.Flush.{IsSame}
use Rattle.clfs_cells_laws.proofs.Ground.{cells_in}

-- those that pass one test, of those that pass another one, where all of them do
both_pass : (p q : LogEntry → Bool) (records : List LogEntry) → AllByRecursion (λ (e : LogEntry). q e ≡ true) (filter p records)
    → filter p (filter q records) ≡ filter p records
both_pass p q [] all = refl
both_pass p q (entry ∷ records) all = elim (cases_Bool (p entry)) [
  | inl passes ↦
      let these : AllByRecursion (λ (e : LogEntry). q e ≡ true) (entry ∷ filter p records) = rw passes at all in
      rw these.0 (rw passes (ap (λ (rest : List LogEntry). entry ∷ rest) (both_pass p q records these.1)))
  | inr fails ↦
      let these : AllByRecursion (λ (e : LogEntry). q e ≡ true) (filter p records) = rw fails at all in
      elim (cases_Bool (q entry)) [
        | inl stays ↦ rw stays (rw fails (both_pass p q records these))
        | inr goes ↦ rw (goes, fails) (both_pass p q records these)
      ]
]

all_lower : (bound : ℕ) (entries : List LogEntry) → AllByRecursion (λ (e : LogEntry). e.lsn < bound) entries
    → AllByRecursion (λ (e : LogEntry). nat_lt e.lsn bound ≡ true) entries
all_lower bound [] all = tt
all_lower bound (entry ∷ entries) all = (lt-ltb entry.lsn bound all.0, all_lower bound entries all.1)

lives_same : (s : State) (stream : ℕ) → AllByRecursion (λ (e : LogEntry). e.lsn < flushed s) (live s stream) → live (cut s) stream ≡ live s stream
lives_same s stream all =
    both_pass (λ (e : LogEntry). (e.stream == stream) && is_live s e) (λ (e : LogEntry). nat_lt e.lsn (flushed s)) s.records
    (all_lower (flushed s) (live s stream) all)

pub cut_table : (s : State) → ((stream : ℕ) → stream_number s table_name ≡ Some stream → AllByRecursion (λ (e : LogEntry). e.lsn < flushed s) (live s stream))
    → table (cut s) ≡ table s
cut_table s stable = go (stream_number s table_name) refl
  where
    go : (o : Option ℕ) → stream_number s table_name ≡ o → table (cut s) ≡ table s
    go None is = ap (λ (o : Option ℕ). option_map_or (table_in (cut s)) o blank_cells) is ∙ sym (ap (λ (o : Option ℕ). option_map_or (table_in s) o blank_cells) is)
    go (Some stream) is =
        ap (λ (o : Option ℕ). option_map_or (table_in (cut s)) o blank_cells) is
        ∙ ap cells_in (lives_same s stream (stable stream is))
        ∙ sym (ap (λ (o : Option ℕ). option_map_or (table_in s) o blank_cells) is)

pub same_table : (s t : State) → IsSame s t → ((stream : ℕ) → live s stream ≡ live t stream) → table s ≡ table t
same_table s t same lives = go (stream_number s table_name) refl
  where
    named : stream_number t table_name ≡ stream_number s table_name
    named = ap (λ (x : State). stream_number x table_name) same.others

    go : (o : Option ℕ) → stream_number s table_name ≡ o → table s ≡ table t
    go None is =
        ap (λ (o : Option ℕ). option_map_or (table_in s) o blank_cells) is
        ∙ sym (ap (λ (o : Option ℕ). option_map_or (table_in t) o blank_cells) (named ∙ is))
    go (Some stream) is =
        ap (λ (o : Option ℕ). option_map_or (table_in s) o blank_cells) is
        ∙ ap cells_in (lives stream)
        ∙ sym (ap (λ (o : Option ℕ). option_map_or (table_in t) o blank_cells) (named ∙ is))
