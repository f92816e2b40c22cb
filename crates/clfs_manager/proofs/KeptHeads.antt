-- How much of a log is kept in memory, by what memory holds and has forgotten.
use Rattle.clfs_manager.proofs.Words.{◌≡◌, ℕ, ◌*◌, ◌≤◌, refl, sym, ap, subst, ◌∙◌, arith, true, false, List, length, Option, Some, None, IsSome, is_some}
use Rattle.clfs_manager.proofs.Words.{option_map, heads_from, Head, Stream, State, heads_of, stream_at, IsNumber, KeepsFew, HasForgotten, Holds, hold_start}
use Rattle.clfs_manager.proofs.Words.{Log}
use Rattle.clfs_manager.proofs.Reached.{number_there}

some_there : (found : Option Stream) (base : ℕ) → option_map (λ (stream : Stream). stream.base) found ≡ Some base → IsSome found
some_there None base is = absurd (cc is)
some_there (Some stream) base is = refl

-- a stream that has a base is one of the tables
pub is_number : (s : State) (log : Log) (stream base : ℕ) (result : Option ℕ) → Holds s log
    → result ≡ option_map (λ (row : Stream). row.base) (stream_at s stream) → result ≡ Some base → IsNumber log.tables.streams stream
is_number s log stream base result holds is some =
    let number = number_there s.streams stream (some_there (stream_at s stream) base (sym is ∙ some)) in
    (number.0, omega (arith, number.1, ap length holds.streams))

-- What was few by the tables is few by the state: memory keeps from the hold's container on.
pub few_by_state : (s : State) (log : Log) (count : ℕ) (of : List Head → List Head) → Holds s log → HasForgotten s log
    → count ≤ 2 * length (heads_from log.tables.low (of log.tables.heads)) → count ≤ 2 * length (heads_from (hold_start s) (of (heads_of s)))
few_by_state s log count of holds forgotten few =
    let low : log.tables.low ≡ hold_start s = omega (arith, holds.low, forgotten.low) in
    subst (λ (heads : List Head). count ≤ 2 * length (heads_from (hold_start s) (of heads))) holds.heads
    (subst (λ (n : ℕ). count ≤ 2 * length (heads_from n (of log.tables.heads))) low few)

-- and so all is kept from there on
pub all_by_state : (s : State) (log : Log) (count : ℕ) (of : List Head → List Head) → Holds s log → HasForgotten s log
    → length (heads_from log.tables.low (of log.tables.heads)) ≤ count → length (heads_from (hold_start s) (of (heads_of s))) ≤ count
all_by_state s log count of holds forgotten all =
    let low : log.tables.low ≡ hold_start s = omega (arith, holds.low, forgotten.low) in
    subst (λ (heads : List Head). length (heads_from (hold_start s) (of heads)) ≤ count) holds.heads
    (subst (λ (n : ℕ). length (heads_from n (of log.tables.heads)) ≤ count) low all)

-- and so it is seen
pub seen : {D : Type 0} (P : State → Type 0) (inside shown : State × D) → inside ≡ shown → P inside.0 → P shown.0
seen {D} P inside shown same is = subst (λ (v : State × D). P v.0) same is

-- So a stream's heads are counted, where the tables have the stream.
pub counted : {D : Type 0} (log : Log) (shown : State × D) (disk : D) (of : List Head → List Head) (count stream base : ℕ) (found : Option ℕ)
    → (log.state.value, disk) ≡ shown → Holds log.state.value log → HasForgotten log.state.value log → log.state.value.broken ≡ false
    → found ≡ option_map (λ (row : Stream). row.base) (stream_at log.state.value stream) → found ≡ Some base
    → length (heads_from log.tables.low (of log.tables.heads)) ≤ count → count ≤ 2 * length (heads_from log.tables.low (of log.tables.heads))
    → KeepsFew shown.0 (is_some (stream_at shown.0 stream)) (length (heads_from (hold_start shown.0) (of (heads_of shown.0)))) (Some count)
counted log shown disk of count stream base found same holds forgotten whole is some all few =
    let s = log.state.value in
    seen (λ (t : State). KeepsFew t (is_some (stream_at t stream)) (length (heads_from (hold_start t) (of (heads_of t)))) (Some count)) (s, disk) shown same (record {
      there = λ _. sym (some_there (stream_at s stream) base (sym is ∙ some));
      all = all_by_state s log count of holds forgotten all;
      few = few_by_state s log count of holds forgotten few;
      broken = λ broken. let wrong : false ≡ true = sym whole ∙ broken in absurd (cc wrong);
    })
