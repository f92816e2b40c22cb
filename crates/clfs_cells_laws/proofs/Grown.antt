-- What a log has that has got more records: its old ones, live as before.
use Rattle.clfs_cells_laws.proofs.Words.{◌≡◌, ℕ, ◌<◌, ◌≤◌, Bool, true, refl, sym, subst, ap, ◌∙◌, inl, inr, List, [], ◌∷◌, ◌++◌, Option, Some, ◌≢◌, ◌&&◌}
use Rattle.clfs_cells_laws.proofs.Words.{◌==◌, find, filter, option_map_or, option_or, cases_Bool, eqb-true, eq-eqb, le-leb, filter-append}
use Rattle.clfs_cells_laws.proofs.Words.{recursion_from_All, find-append, null_lsn, frontier, stream_in, LogEntry, Stream, State, is_live, live, live_at}
use Rattle.clfs_cells_laws.proofs.Words.{base_of, log_of, IsRecord, IsValid, Made, IsInLog, IsLiveRecord}
use Rattle.clfs_cells_laws.proofs.Stacks.{first_has, first_passes}

-- the streams are as they were, and there are more records
pub record Grows (s t : State) : Type 0 where
  pub streams : t.streams ≡ s.streams
  pub more : List LogEntry
  pub records : t.records ≡ s.records ++ more

pub base_same : (s t : State) (stream : ℕ) → t.streams ≡ s.streams → base_of t stream ≡ base_of s stream
base_same s t stream same = ap (λ (streams : List Stream). option_map_or (λ (x : Stream). x.base) (stream_in streams stream) null_lsn) same

pub live_on : (s t : State) (stream lsn : ℕ) → Grows s t → IsLiveRecord s stream lsn → IsLiveRecord t stream lsn
live_on s t stream lsn grows is = record {
  entry = is.entry;
  there = ap (λ (l : List LogEntry). find (λ (e : LogEntry). e.lsn == lsn) l) grows.records
      ∙ find-append (λ (e : LogEntry). e.lsn == lsn) s.records grows.more
      ∙ ap (λ (o : Option LogEntry). option_or o (find (λ (e : LogEntry). e.lsn == lsn) grows.more)) is.there;
  own = is.own;
  live = subst (λ (b : ℕ). b ≤ lsn) (sym (base_same s t stream grows.streams)) is.live;
}

pub in_log_on : (s t : State) (stream : ℕ) (made : Made) → Grows s t → IsInLog s stream made → IsInLog t stream made
unfolding live_on
in_log_on s t stream made grows is = record { at = live_on s t stream made.lsn grows is.at; linked = is.linked; cell = is.cell }

-- ---- a live record

found_passing : (p q : LogEntry → Bool) (xs : List LogEntry) (x : LogEntry) → find p xs ≡ Some x → q x ≡ true → find p (filter q xs) ≡ Some x
found_passing p q [] x is passes = absurd (cc is)
found_passing p q (a ∷ xs) x is passes = elim (cases_Bool (p a)) [
  | inl here ↦
      let found : Some a ≡ Some x = rw here at is in
      let same : a ≡ x = cc found in
      let there : q a ≡ true = ap q same ∙ passes in
      rw there (rw here found)
  | inr further ↦
      let rest : find p xs ≡ Some x = rw further at is in
      elim (cases_Bool (q a)) [
        | inl also ↦ rw also (rw further (found_passing p q xs x rest passes))
        | inr not ↦ rw not (found_passing p q xs x rest passes)
      ]
]

pub live_there : (s : State) (stream lsn : ℕ) (is : IsLiveRecord s stream lsn) → live_at s stream lsn ≡ Some is.entry
live_there s stream lsn is =
    let at : is.entry.lsn ≡ lsn = eqb-true is.entry.lsn lsn (first_passes (λ (e : LogEntry). e.lsn == lsn) s.records is.entry is.there) in
    let base : base_of s is.entry.stream ≤ is.entry.lsn
    = subst (λ (n : ℕ). n ≤ is.entry.lsn) (ap (base_of s) (sym is.own)) (subst (λ (n : ℕ). base_of s stream ≤ n) (sym at) is.live) in
    let passes : ((is.entry.stream == stream) && is_live s is.entry) ≡ true
    = rw (eq-eqb is.entry.stream stream is.own) (le-leb (base_of s is.entry.stream) is.entry.lsn base) in
    found_passing (λ (e : LogEntry). e.lsn == lsn) (λ (e : LogEntry). (e.stream == stream) && is_live s e) s.records is.entry is.there passes

-- it lies below the frontier
pub live_below : (s : State) (stream lsn : ℕ) → IsValid s → IsLiveRecord s stream lsn → lsn < frontier s.place
live_below s stream lsn valid is =
    let at : is.entry.lsn ≡ lsn = eqb-true is.entry.lsn lsn (first_passes (λ (e : LogEntry). e.lsn == lsn) s.records is.entry is.there) in
    let one : IsRecord s is.entry
    = first_has (IsRecord s) (λ (e : LogEntry). e.lsn == lsn) s.records is.entry is.there (recursion_from_All (IsRecord s) s.records valid.records.records) in
    subst (λ (n : ℕ). n < frontier s.place) at one.below

pub live_named : (s : State) (stream lsn : ℕ) → IsValid s → IsLiveRecord s stream lsn → 0 < lsn
live_named s stream lsn valid is =
    let at : is.entry.lsn ≡ lsn = eqb-true is.entry.lsn lsn (first_passes (λ (e : LogEntry). e.lsn == lsn) s.records is.entry is.there) in
    let one : IsRecord s is.entry
    = first_has (IsRecord s) (λ (e : LogEntry). e.lsn == lsn) s.records is.entry is.there (recursion_from_All (IsRecord s) s.records valid.records.records) in
    subst (λ (n : ℕ). 0 < n) at one.named

-- ---- some record is live

over : List Stream → List LogEntry → State
over streams records = record (log_of 1 16 4 4) { streams = streams; records = records }

none_before : (xs ys : List LogEntry) → xs ++ ys ≡ [] → xs ≡ []
none_before [] ys none = refl
none_before (x ∷ xs) ys none = absurd (cc none)

pub still_some : (s t : State) (stream : ℕ) → Grows s t → live s stream ≢ [] → live t stream ≢ []
unfolding over
still_some s t stream grows some none =
    let p : LogEntry → Bool = λ e. (e.stream == stream) && is_live s e in
    let lives : live t stream ≡ live s stream ++ filter p grows.more
    = ap (λ (l : List Stream). live (over l t.records) stream) grows.streams ∙ ap (λ (l : List LogEntry). live (over s.streams l) stream) grows.records
    ∙ filter-append p s.records grows.more in
    some (none_before (live s stream) (filter p grows.more) (sym lives ∙ none))
