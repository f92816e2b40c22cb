-- A new stream, archiving and a new base keep a state valid.
use Rattle.clfs_laws.proofs.Words.{◌≡◌, ◌≢◌, ℕ, zero, suc, ◌+◌, ◌-◌, ◌<◌, ◌≤◌, Bool, true, false, refl, sym, ap, subst, inl, inr, arith, List, [], ◌∷◌, ◌++◌}
use Rattle.clfs_laws.proofs.Words.{length, length-append, Option, Some, None, IfSome, IsSome, is_none, find, slice_get, nat_lt, nat_le, not, ◌&&◌, ◌||◌, ◌==◌}
use Rattle.clfs_laws.proofs.Words.{AllByRecursion, option_map_or, option_to_list, cases_Bool, eqb-true, ltb-true, ltb-false, leb-false, le-leb, All-push}
use Rattle.clfs_laws.proofs.Words.{All-from_recursion, recursion_from_All, all_pairs_push, most_streams, null_lsn, frontier, LogEntry, State, Stream}
use Rattle.clfs_laws.proofs.Words.{stream_at, base_of, set_base, is_live, hold, last_live, block_start, first_or, flushed, flush, refused_if, name_fault}
use Rattle.clfs_laws.proofs.Words.{stream_number, open_refusal, is_base, invalid_base, outcome, opened, archiving, advanced, IsValid, IsWaiting}
use Rattle.std.specs.Str.{bytes_eq}
use Rattle.std.proofs.lemmas.Slice.Eq.{bytes_eq-Decides}
use Rattle.clfs_model.specs.declared.refusal.Refusal.TheVariants as refusals
use Rattle.clfs_lsn.specs.Streams.{stream_number_from}
use Rattle.clfs_model.specs.Refusals.{tail_refusal}
use Rattle.clfs_model.specs.declared.reply.Reply.TheVariants as replies
use Rattle.clfs_laws.proofs.NotRefused.{passed, passed_option, second_false}
use Rattle.clfs_laws.proofs.ValidPlaces.{IsSound, sound_of, opened_first, valid_flush}
use Rattle.clfs_laws.proofs.HoldOrder.{hold_below_archive, hold_below_live, hold_below_frontier}
use Rattle.clfs_laws.proofs.Links.{base_stable}
use Rattle.clfs_laws.proofs.ValidAppends.{true_of_not}
use Rattle.clfs_laws.proofs.ValidBases.{needing, valid_needing, valid_set_base, valid_archive, frontier_flushed, flush_streams, base_between}

-- no stream has a name that isn't found
not_found : (number : ℕ) (name : List ℕ) (streams : List Stream) → stream_number_from number name streams ≡ None
    → AllByRecursion (λ (stream : Stream). stream.name ≢ name) streams
not_found number name [] none = tt
not_found number name (stream ∷ streams) none = elim (cases_Bool (bytes_eq stream.name name)) [
  | inl same ↦ absurd (let found = rw same at none in cc)
  | inr other ↦ (
    λ same. let equal = (bytes_eq-Decides stream.name name).1 same in absurd (cc (other, equal)),
    not_found (number + 1) name streams (rw other at none),
  )
]

get_more : (streams more : List Stream) (k : ℕ) → IsSome (slice_get streams k) → slice_get (streams ++ more) k ≡ slice_get streams k
get_more [] more k some = absurd (cc)
get_more (stream ∷ streams) more zero some = refl
get_more (stream ∷ streams) more (suc k) some = get_more streams more k some

-- a stream that is there stays as it is when one is added
pub stream_more : (s : State) (new : Stream) (number : ℕ) → IsSome (stream_at s number) → stream_at (record s { streams = s.streams ++ new ∷ [] }) number ≡ stream_at s number
stream_more s new number some = elim (cases_Bool (number == 0)) [
  | inl none ↦ absurd (let gone = rw none at some in cc)
  | inr has ↦ rw has (get_more s.streams (new ∷ []) (number - 1) (rw has at some))
]

-- a dedicated log in which a stream is to be made has none
alone : (s : State) (name : List ℕ) → open_refusal s name ≡ None → stream_number s name ≡ None → s.dedicated ≡ true → length s.streams ≡ 0
alone s name none unused is =
    let limit = refused_if (is_none (stream_number s name) && nat_le most_streams (length s.streams)) (refusals.StreamLimit (length s.streams)) None in
    let single = is_none (stream_number s name) && (s.dedicated && nat_le 1 (length s.streams)) in
    let rest = passed_option (name_fault name) (λ at. refusals.NameInvalid at) (refused_if single refusals.Dedicated limit) none in
    let test = (passed single refusals.Dedicated limit rest).0 in
    let few : length s.streams < 1 = leb-false 1 (length s.streams) (second_false _ _ is (second_false _ _ (ap is_none unused) test)) in
    omega (arith, few)

-- a stream of a new name, without a base
pub valid_new_stream : (s : State) (name : List ℕ) → open_refusal s name ≡ None → stream_number s name ≡ None → IsValid s
    → IsValid (record s { streams = s.streams ++ record { name = name; base = null_lsn } ∷ [] })
valid_new_stream s name none unused valid =
    let new : Stream = record { name = name; base = null_lsn } in
    let t : State = needing s (s.streams ++ new ∷ []) s.archive in
    valid_needing s (s.streams ++ new ∷ []) s.archive valid (record {
      names = all_pairs_push (λ (a b : Stream). a.name ≢ b.name) s.streams new valid.tables.names
          (All-from_recursion (λ (stream : Stream). stream.name ≢ name) s.streams (not_found 1 name s.streams unused));
      alone = λ is. omega (arith, alone s name none unused is, length-append s.streams (new ∷ []));
      there = λ number some.
          let F : Option Stream → Type 0 = λ found. IsSome found in
          subst F (sym (stream_more s new number some)) some;
      bases = All-push (λ (stream : Stream). stream.base ≤ flushed s) s.streams new valid.stable.bases (omega arith);
      higher = λ number some.
          let same : base_of t number ≡ base_of s number =
          ap (λ (found : Option Stream). option_map_or (λ (stream : Stream). stream.base) found null_lsn) (stream_more s new number some) in
          omega (arith, same);
      tail = valid.stable.tail;
      later = hold_below_archive s;
    })

-- opening a stream
opened_by : (s : State) (name : List ℕ) (found : Option ℕ) → open_refusal s name ≡ None → stream_number s name ≡ found → IsValid s
    → IsValid (option_map_or (λ number. outcome (replies.Stream number) s) found
    (outcome (replies.Stream (length s.streams + 1)) (record s { streams = s.streams ++ record { name = name; base = null_lsn } ∷ [] }))).state
opened_by s name None none is valid = valid_new_stream s name none is valid
opened_by s name (Some number) none is valid = valid

pub valid_opened : (s : State) (name : List ℕ) → open_refusal s name ≡ None → IsValid s → IsValid (opened s name).state
valid_opened s name none valid = opened_by s name (stream_number s name) none refl valid

-- a record at or above what is on the disk is live, so the hold isn't above it
hold_at : (s : State) (lsn : ℕ) (entries : List LogEntry) → IsSound s → flushed s ≤ lsn
    → AllByRecursion (λ (entry : LogEntry). is_live s entry ≡ true → hold s ≤ entry.lsn) entries
    → IsSome (find (λ (entry : LogEntry). entry.lsn == lsn) entries) → hold s ≤ lsn
hold_at s lsn [] sound above all some = absurd (cc)
hold_at s lsn (entry ∷ entries) sound above all some = elim (cases_Bool (entry.lsn == lsn)) [
  | inl here ↦
      let same : entry.lsn ≡ lsn = eqb-true entry.lsn lsn here in
      let based = base_stable s entry.stream sound in
      let below = all.0 (le-leb (base_of s entry.stream) entry.lsn (omega (arith, based, above, same))) in
      omega (arith, below, same)
  | inr there ↦ hold_at s lsn entries sound above all.1 (rw there at some)
]

hold_waiting : (s : State) (waiting : List ℕ) → s.waiting ≡ waiting → IsValid s → hold s ≤ flushed s
hold_waiting s [] none valid =
    let is : flushed s ≡ block_start s.place = ap (first_or (block_start s.place)) none in
    let sound = sound_of s valid in
    elim (cases_Bool (nat_lt 0 s.place.records)) [
      | inl some ↦
          let first = opened_first s sound (ltb-true 0 s.place.records some) in
          let below = hold_at s (block_start s.place) s.records sound (omega (arith, is)) (hold_below_live s) first in
          omega (arith, below, is)
      | inr empty ↦
          let below = hold_below_frontier s sound in
          omega (arith, below, is, ltb-false 0 s.place.records empty)
    ]
hold_waiting s (start ∷ rest) some valid =
    let is : flushed s ≡ start = ap (first_or (block_start s.place)) some in
    let F : List ℕ → Type 0 = AllByRecursion (IsWaiting s) in
    let first = (subst F some (recursion_from_All (IsWaiting s) s.waiting valid.waiting.blocks)).0 in
    let below = hold_at s start s.records (sound_of s valid) (omega (arith, is)) (hold_below_live s) first.first in
    omega (arith, below, is)

-- the hold is on the disk
pub hold_flushed : (s : State) → IsValid s → hold s ≤ flushed s
hold_flushed s valid = hold_waiting s s.waiting refl valid

archiving_by : (s : State) (archive : Option ℕ) → s.archive ≡ archive → IsValid s → IsValid (record s { archive = Some (option_map_or (λ tail. tail) archive (hold s)) })
archiving_by s None off valid = valid_archive s (Some (hold s)) valid (hold_flushed s valid) (omega arith, tt)
archiving_by s (Some tail) on valid =
    let F : Option ℕ → Type 0 = λ found. IfSome found (λ lsn. lsn ≤ flushed s) in
    let G : Option ℕ → Type 0 = λ found. AllByRecursion (λ lsn. hold s ≤ lsn) (option_to_list found) in
    valid_archive s (Some tail) valid (subst F on valid.stable.tail) (subst G on (hold_below_archive s))

-- archiving that is turned on or off
pub valid_archiving : (s : State) (on : Bool) → IsValid s → IsValid (archiving s on)
valid_archiving s true valid = archiving_by s s.archive refl valid
valid_archiving s false valid = valid_archive s None valid tt tt

tail_by : (s : State) (lsn : ℕ) (archive : Option ℕ) → s.archive ≡ archive
    → option_map_or (λ tail. refused_if (nat_lt lsn tail || nat_lt (flushed s) lsn) (refusals.ArchiveTailInvalid lsn tail (flushed s)) None) archive (Some refusals.Ephemeral) ≡ None
    → IsValid s → IsValid (record s { archive = Some lsn })
tail_by s lsn None off none valid = absurd (cc)
tail_by s lsn (Some tail) on none valid =
    let fits = neither _ _ (passed (nat_lt lsn tail || nat_lt (flushed s) lsn) (refusals.ArchiveTailInvalid lsn tail (flushed s)) None none).0 in
    let from : tail ≤ lsn = ltb-false lsn tail fits.0 in
    let to : lsn ≤ flushed s = ltb-false (flushed s) lsn fits.1 in
    let G : Option ℕ → Type 0 = λ found. AllByRecursion (λ n. hold s ≤ n) (option_to_list found) in
    let below = (subst G on (hold_below_archive s)).0 in
    valid_archive s (Some lsn) valid to (omega (arith, below, from), tt)
  where
    neither : (a b : Bool) → (a || b) ≡ false → (a ≡ false) × (b ≡ false)
    neither true b fails = absurd (cc)
    neither false b fails = (refl, fails)

-- an archive tail that moves
pub valid_tail : (s : State) (lsn : ℕ) → tail_refusal s lsn ≡ None → IsValid s → IsValid (record s { archive = Some lsn })
valid_tail s lsn none valid = tail_by s lsn s.archive refl none valid

-- a base that a call moves, after a flush
pub valid_rebased : (s t : State) (stream lsn : ℕ) → IsSound s → is_base s stream lsn ≡ true → IsSome (stream_at s stream)
    → IsValid t → t.streams ≡ s.streams → frontier s.place ≤ flushed t → IsValid (record t { streams = set_base stream lsn t.streams })
valid_rebased s t stream lsn sound allowed there valid same above =
    let between = base_between s stream lsn sound allowed in
    let On : List Stream → Type 0 = λ streams. IsSome (stream_at (record s { streams = streams }) stream) in
    let Base : List Stream → Type 0 = λ streams. base_of (record s { streams = streams }) stream ≤ lsn in
    valid_set_base t stream lsn valid (subst On (sym same) there) (subst Base (sym same) between.above) (omega (arith, between.below, above))

-- advancing
pub valid_advanced : (s : State) (stream lsn : ℕ) → invalid_base s stream lsn None ≡ None → IsSome (stream_at s stream) → IsValid s → IsValid (advanced s stream lsn)
valid_advanced s stream lsn none there valid =
    let sound = sound_of s valid in
    let allowed = true_of_not _ (passed (not (is_base s stream lsn)) (refusals.TailInvalid lsn (base_of s stream) (last_live s stream)) None none).0 in
    valid_rebased s (flush s) stream lsn sound allowed there (valid_flush s sound) (flush_streams s) (frontier_flushed s sound)
