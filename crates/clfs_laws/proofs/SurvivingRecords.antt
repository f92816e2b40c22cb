-- A survivor begins with the records that were on the disk, and what it has after them lies at or above the flushed LSN.
use Rattle.clfs_laws.proofs.Words.{◌≡◌, ℕ, ◌<◌, ◌≤◌, Bool, refl, sym, ap, ◌∙◌, subst, append_assoc, inl, inr, arith, List, [], ◌∷◌, ◌++◌, filter, nat_lt, All}
use Rattle.clfs_laws.proofs.Words.{Contains, slice_index_or, AllByRecursion, cases_Bool, lt-ltb, le-ltb, ltb-true, ltb-false, filter-append}
use Rattle.clfs_laws.proofs.Words.{Contains-append_left, frontier, Restart, LogEntry, Call, Fine, Reply, State, flushed, cut, next_lsn, asks, Step}
use Rattle.clfs_laws.proofs.Words.{IsSurvivor, IsValid}
use Rattle.std.proofs.lemmas.List.Elements.{All-contains_itself}
use Rattle.clfs_laws.proofs.Among.{contains_passing}
use Rattle.clfs_laws.proofs.FallingLists.{Rises, rises, below_lsn}
use Rattle.clfs_laws.proofs.Links.{next_within}
use Rattle.clfs_laws.proofs.RecordsOfCalls.{step_adds}
use Rattle.clfs_laws.proofs.ValidPlaces.{flushed_below}

-- the flushed LSN isn't above the frontier
flushed_within : (s : State) → IsValid s → flushed s ≤ frontier s.place
flushed_within s valid = let low = flushed_below s valid.waiting in omega (arith, low)

-- the next LSN isn't below the frontier, so new records lie at or above the flushed LSN
pub new_above : (s : State) (more : List LogEntry) → IsValid s → AllByRecursion (λ (entry : LogEntry). (n : ℕ) × (entry.lsn ≡ next_lsn s n)) more
    → AllByRecursion (λ (entry : LogEntry). flushed s ≤ entry.lsn) more
new_above s [] valid placed = tt
new_above s (entry ∷ more) valid placed =
    let low = flushed_within s valid in
    let high = next_within s placed.0.0 valid.ranges.shape valid.ranges.place in
    (omega (arith, low, high, placed.0.1), new_above s more valid placed.1)

-- records at or above an LSN
abbrev pub AreAbove : ℕ → List LogEntry → Type 0
AreAbove lsn entries = AllByRecursion (λ (entry : LogEntry). lsn ≤ entry.lsn) entries

above_kept : (lsn : ℕ) (p : LogEntry → Bool) (entries : List LogEntry) → AreAbove lsn entries → AreAbove lsn (filter p entries)
above_kept lsn p [] above = tt
above_kept lsn p (entry ∷ entries) above = elim (cases_Bool (p entry)) [
  | inl passes ↦ rw passes (above.0, above_kept lsn p entries above.1)
  | inr fails ↦ rw fails (above_kept lsn p entries above.1)
]

above_all : (lsn : ℕ) (xs ys : List LogEntry) → AreAbove lsn xs → AreAbove lsn ys → AreAbove lsn (xs ++ ys)
above_all lsn [] ys first second = second
above_all lsn (x ∷ xs) ys first second = (first.0, above_all lsn xs ys first.1 second)

-- none of them lies below it
pub none_below : (lsn : ℕ) (entries : List LogEntry) → AreAbove lsn entries → below_lsn lsn entries ≡ []
none_below lsn [] above = refl
none_below lsn (entry ∷ entries) above = rw (le-ltb entry.lsn lsn above.0) (none_below lsn entries above.1)

above_first : (lsn : ℕ) (entry : LogEntry) (entries : List LogEntry) → lsn ≤ entry.lsn
    → AllByRecursion (λ (other : LogEntry). entry.lsn < other.lsn) entries → AreAbove lsn entries
above_first lsn entry [] above rising = tt
above_first lsn entry (other ∷ entries) above rising = (omega (arith, above, rising.0), above_first lsn entry entries above rising.1)

-- records that begin with those below an LSN, the others at or above it
pub record BeginsBelow (lsn : ℕ) (front all : List LogEntry) : Type 0 where
  pub more : List LogEntry
  pub is : all ≡ front ++ more
  pub above : AreAbove lsn more

-- of rising records those below a higher LSN begin with those below a lower one
begins : (low high : ℕ) (entries : List LogEntry) → low ≤ high → Rises entries → BeginsBelow low (below_lsn low entries) (below_lsn high entries)
begins low high [] fits rising = record { more = []; is = refl; above = tt }
begins low high (entry ∷ entries) fits rising = elim (cases_Bool (nat_lt entry.lsn low)) [
  | inl below ↦
      let rest = begins low high entries fits rising.1 in
      rw (below, lt-ltb entry.lsn high (let under = ltb-true entry.lsn low below in omega (arith, under, fits)))
      (record { more = rest.more; is = ap (λ (others : List LogEntry). entry ∷ others) rest.is; above = rest.above })
  | inr above ↦
      let at_least : low ≤ entry.lsn = ltb-false entry.lsn low above in
      let others : AreAbove low (entry ∷ entries) = (at_least, above_first low entry entries at_least rising.0) in
      rw (above, none_below low entries others.1) (record {
        more = below_lsn high (entry ∷ entries);
        is = refl;
        above = above_kept low (λ (e : LogEntry). nat_lt e.lsn high) (entry ∷ entries) others;
      })
]

begins_with_more : (low high : ℕ) (entries new : List LogEntry) → low ≤ high → Rises entries → AreAbove low new
    → BeginsBelow low (below_lsn low entries) (below_lsn high (entries ++ new))
begins_with_more low high entries new fits rising above =
    let first = begins low high entries fits rising in
    record {
      more = first.more ++ below_lsn high new;
      is = filter-append (λ (e : LogEntry). nat_lt e.lsn high) entries new
          ∙ ap (λ (front : List LogEntry). front ++ below_lsn high new) first.is
          ∙ append_assoc (below_lsn low entries) first.more (below_lsn high new);
      above = above_all low first.more (below_lsn high new) first.above (above_kept low (λ (e : LogEntry). nat_lt e.lsn high) new above);
    }

-- the records of a survivor
pub survivor_begins : (told : Bool) (s t x : State) (client : ℕ) (call : Call) (reply : Reply) → IsValid s → Step told s client call Fine reply t
    → IsSurvivor (asks client call) s t x → BeginsBelow (flushed s) (cut s).records x.records
survivor_begins told s t x client call reply valid step survives =
    let adds = step_adds told s client call Fine reply t step in
    let is : x.records ≡ below_lsn (frontier x.place) (s.records ++ adds.more) = survives.records ∙ ap (below_lsn (frontier x.place)) adds.joined in
    subst (BeginsBelow (flushed s) (cut s).records) (sym is)
    (begins_with_more (flushed s) (frontier x.place) s.records adds.more survives.place.from (rises s.records valid.records.rising)
    (new_above s adds.more valid adds.placed))

-- a restart area is among them
pub survivor_has_restarts : (told : Bool) (s t x : State) (client : ℕ) (call : Call) (reply : Reply) → IsValid s → Step told s client call Fine reply t
    → IsSurvivor (asks client call) s t x → All (λ (entry : LogEntry). entry.kind ≡ Restart → Contains x.records entry) s.records
survivor_has_restarts told s t x client call reply valid step survives place default within restart =
    let entry = slice_index_or s.records place default in
    let stable : entry.lsn < flushed s = valid.stable.restarts place default within restart in
    let kept : Contains (cut s).records entry =
    contains_passing (λ (e : LogEntry). nat_lt e.lsn (flushed s)) s.records entry (lt-ltb entry.lsn (flushed s) stable)
    (All-contains_itself s.records place default within) in
    let begins_so = survivor_begins told s t x client call reply valid step survives in
    let F : List LogEntry → Type 0 = λ entries. Contains entries entry in
    subst F (sym begins_so.is) (Contains-append_left (cut s).records begins_so.more entry kept)
