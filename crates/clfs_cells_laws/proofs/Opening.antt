-- The table's stream, open: what is read of the log and of the log with the stream is the same.
use Rattle.clfs_cells_laws.proofs.Words.{◌≡◌, ℕ, suc, ◌+◌, ◌-◌, ◌<◌, true, false, refl, sym, subst, ap, ◌∙◌, inl, inr, arith, List, [], ◌∷◌, ◌++◌, length}
use Rattle.clfs_cells_laws.proofs.Words.{Option, Some, None, IsSome, ◌&&◌, ◌==◌, filter, is_none, slice_get, AllByRecursion, option_map_or, bytes_eq}
use Rattle.clfs_cells_laws.proofs.Words.{cases_Bool, eqb-true, recursion_from_All, null_lsn, stream_in, stream_number_from, LogEntry, Stream, State, Outcome}
use Rattle.clfs_cells_laws.proofs.Words.{outcome, is_live, live, stream_number, stream_at, IsRecord, IsValid, blank_cells, table_stream, with_stream, table}
use Rattle.clfs_cells_laws.proofs.Words.{table_in, table_name}
use Rattle.std.proofs.lemmas.Option.{slice_get_past}
use Rattle.clfs_model.specs.declared.reply.Reply.TheVariants as replies
use Rattle.clfs_model.specs.Answers.{opened}
use Rattle.clfs_cells_laws.proofs.Ground.{cells_in}

-- the log with the stream
pub record Opens (log : State) : Type 0 where
  pub answered : opened log table_name ≡ outcome (replies.Stream (table_stream log)) (with_stream log)
  pub records : (with_stream log).records ≡ log.records
  pub areas : (with_stream log).areas ≡ log.areas
  pub broken : (with_stream log).broken ≡ log.broken
  pub shape : (with_stream log).shape ≡ log.shape
  pub numbered : stream_number (with_stream log) table_name ≡ Some (table_stream log)
  pub same_live : live (with_stream log) (table_stream log) ≡ live log (table_stream log)
  pub table_is : table log ≡ cells_in (live log (table_stream log))

opens_known : (log : State) (n : ℕ) → stream_number log table_name ≡ Some n → Opens log
opens_known log n is =
    let there : opened log table_name ≡ outcome (replies.Stream n) log
    = ap (λ (o : Option ℕ). option_map_or (λ number. outcome (replies.Stream number) log) o (outcome (replies.Stream (length log.streams + 1))
    (record log { streams = log.streams ++ record { name = table_name; base = null_lsn } ∷ [] }))) is in
    let same : with_stream log ≡ log = ap (λ (o : Outcome). o.state) there in
    let number : table_stream log ≡ n = ap (λ (o : Option ℕ). option_map_or (λ (k : ℕ). k) o (length log.streams + 1)) is in
    record {
      answered = there ∙ ap (λ (k : ℕ). outcome (replies.Stream k) log) (sym number) ∙ ap (outcome (replies.Stream (table_stream log))) (sym same);
      records = ap (λ (s : State). s.records) same;
      areas = ap (λ (s : State). s.areas) same;
      broken = ap (λ (s : State). s.broken) same;
      shape = ap (λ (s : State). s.shape) same;
      numbered = ap (λ (s : State). stream_number s table_name) same ∙ is ∙ ap (λ (k : ℕ). Some k) (sym number);
      same_live = ap (λ (s : State). live s (table_stream log)) same;
      table_is = ap (λ (o : Option ℕ). option_map_or (table_in log) o blank_cells) is ∙ ap (table_in log) (sym number);
    }

-- ---- a stream that is new

last_number_from : (first : ℕ) (name : List ℕ) (streams : List Stream) (stream : Stream) → bytes_eq stream.name name ≡ true
    → stream_number_from first name streams ≡ None → stream_number_from first name (streams ++ stream ∷ []) ≡ Some (length streams + first)
last_number_from first name [] stream named none = let zero_more : first ≡ 0 + first = omega arith in rw named (ap (λ (k : ℕ). Some k) zero_more)
last_number_from first name (other ∷ streams) stream named none = elim (cases_Bool (bytes_eq other.name name)) [
  | inl here ↦ let found : Some first ≡ None = rw here at none in absurd (cc found)
  | inr further ↦
      let rest : stream_number_from (first + 1) name streams ≡ None = rw further at none in
      let more : length streams + (first + 1) ≡ suc (length streams) + first = omega arith in
      rw further (last_number_from (first + 1) name streams stream named rest ∙ ap (λ (k : ℕ). Some k) more)
]

-- no record is of a stream after the last
no_stream : (streams : List Stream) (number : ℕ) → length streams < number → IsSome (stream_in streams number) → ⊥
no_stream streams number behind some =
    elim (cases_Bool (number == 0)) [
      | inl zero_is ↦ let none : stream_in streams number ≡ None = rw zero_is refl in let is : IsSome {T = Stream} None = subst IsSome none some in absurd (cc is)
      | inr other ↦
          let none : stream_in streams number ≡ None = rw other (slice_get_past streams (number - 1) (omega (arith, behind))) in
          let is : IsSome {T = Stream} None = subst IsSome none some in absurd (cc is)
    ]

pub none_of_it : (s log : State) (number : ℕ) (records : List LogEntry) → length log.streams < number → AllByRecursion (IsRecord log) records
    → filter (λ (e : LogEntry). (e.stream == number) && is_live s e) records ≡ []
none_of_it s log number [] behind all = refl
none_of_it s log number (entry ∷ records) behind all = elim (cases_Bool (entry.stream == number)) [
  | inl of_it ↦
      let same : entry.stream ≡ number = eqb-true entry.stream number of_it in
      absurd (no_stream log.streams number behind (subst (λ (n : ℕ). IsSome (stream_in log.streams n)) same all.0.stream))
  | inr other ↦ rw other (none_of_it s log number records behind all.1)
]

opens_new : (log : State) → IsValid log → stream_number log table_name ≡ None → Opens log
opens_new log valid is =
    let new : Stream = record { name = table_name; base = null_lsn } in
    let wide : State = record log { streams = log.streams ++ new ∷ [] } in
    let there : opened log table_name ≡ outcome (replies.Stream (length log.streams + 1)) wide
    = ap (λ (o : Option ℕ). option_map_or (λ number. outcome (replies.Stream number) log) o (outcome (replies.Stream (length log.streams + 1)) wide)) is in
    let same : with_stream log ≡ wide = ap (λ (o : Outcome). o.state) there in
    let number : table_stream log ≡ length log.streams + 1 = ap (λ (o : Option ℕ). option_map_or (λ (k : ℕ). k) o (length log.streams + 1)) is in
    let behind : length log.streams < table_stream log = omega (arith, number) in
    let all = recursion_from_All (IsRecord log) log.records valid.records.records in
    let none : live log (table_stream log) ≡ [] = none_of_it log log (table_stream log) log.records behind all in
    let none_wide : live wide (table_stream log) ≡ [] = none_of_it wide log (table_stream log) log.records behind all in
    record {
      answered = there ∙ ap (λ (k : ℕ). outcome (replies.Stream k) wide) (sym number) ∙ ap (outcome (replies.Stream (table_stream log))) (sym same);
      records = ap (λ (s : State). s.records) same;
      areas = ap (λ (s : State). s.areas) same;
      broken = ap (λ (s : State). s.broken) same;
      shape = ap (λ (s : State). s.shape) same;
      numbered = ap (λ (s : State). stream_number s table_name) same ∙ last_number_from 1 table_name log.streams new refl is ∙ ap (λ (k : ℕ). Some k) (sym number);
      same_live = ap (λ (s : State). live s (table_stream log)) same ∙ none_wide ∙ sym none;
      table_is = ap (λ (o : Option ℕ). option_map_or (table_in log) o blank_cells) is ∙ sym (ap cells_in none);
    }

pub opens : (log : State) → IsValid log → Opens log
opens log valid = go (stream_number log table_name) refl
  where
    go : (o : Option ℕ) → stream_number log table_name ≡ o → Opens log
    go None is = opens_new log valid is
    go (Some n) is = opens_known log n is

-- ---- the stream of a number that a name has

number_there : (first : ℕ) (name : List ℕ) (streams : List Stream) (k : ℕ) → stream_number_from first name streams ≡ Some k
    → (j : ℕ) × (k ≡ j + first) × ((stream : Stream) × (slice_get streams j ≡ Some stream))
number_there first name [] k is = absurd (cc is)
number_there first name (other ∷ streams) k is = elim (cases_Bool (bytes_eq other.name name)) [
  | inl here ↦
      let found : Some first ≡ Some k = rw here at is in
      let same : first ≡ k = cc found in
      (0, omega (arith, same), (other, refl))
  | inr further ↦
      let rest : stream_number_from (first + 1) name streams ≡ Some k = rw further at is in
      let later = number_there (first + 1) name streams k rest in
      (suc later.0, omega (arith, later.1), later.2)
]

pub stream_is_there : (s : State) (k : ℕ) → stream_number s table_name ≡ Some k → is_none (stream_at s k) ≡ false
stream_is_there s k is =
    let found = number_there 1 table_name s.streams k is in
    elim (cases_Bool (k == 0)) [
      | inl null ↦ let none : k ≡ 0 = eqb-true k 0 null in absurd (omega (arith, none, found.1))
      | inr other ↦
          let at : k - 1 ≡ found.0 = omega (arith, found.1) in
          rw other (ap (λ (j : ℕ). is_none (slice_get s.streams j)) at ∙ ap is_none found.2.1)
    ]
