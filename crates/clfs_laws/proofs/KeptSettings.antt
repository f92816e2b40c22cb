-- Making a log ready, putting a record, sealing, flushing and moving a base leave the settings.
use Rattle.clfs_laws.proofs.Words.{◌≡◌, ℕ, ◌-◌, Bool, true, false, refl, sym, ap, ◌∙◌, inl, inr, List, [], ◌∷◌, length, map, nat_lt, ◌==◌, cases_Bool}
use Rattle.clfs_laws.proofs.Words.{null_lsn, joins, begins_here, LogEntry, State, Area, Stream, set_base, rebased, seal, flush, cut, put, hold_sizes, seal_if}
use Rattle.clfs_laws.proofs.Words.{flush_if, HasSettings}
use Rattle.clfs_laws.proofs.ValidPuts.{put_by}

-- of a state itself, backwards, and one after the other
pub kept : (s : State) → HasSettings s s
kept s = record { names = refl; containers = refl; archive = refl; maximum = refl; minimum = refl; growth = refl; automatic = refl }

pub kept_back : (s t : State) → HasSettings s t → HasSettings t s
kept_back s t has = record {
  names = sym has.names;
  containers = sym has.containers;
  archive = sym has.archive;
  maximum = sym has.maximum;
  minimum = sym has.minimum;
  growth = sym has.growth;
  automatic = sym has.automatic;
}

pub kept_on : (s t u : State) → HasSettings s t → HasSettings t u → HasSettings s u
kept_on s t u first second = record {
  names = second.names ∙ first.names;
  containers = second.containers ∙ first.containers;
  archive = second.archive ∙ first.archive;
  maximum = second.maximum ∙ first.maximum;
  minimum = second.minimum ∙ first.minimum;
  growth = second.growth ∙ first.growth;
  automatic = second.automatic ∙ first.automatic;
}

-- the flushed part of a state with the settings has them
pub kept_cut : (s t : State) → HasSettings s t → HasSettings s (cut t)
kept_cut s t has = record {
  names = has.names;
  containers = has.containers;
  archive = has.archive;
  maximum = has.maximum;
  minimum = has.minimum;
  growth = has.growth;
  automatic = has.automatic;
}

-- sealing and flushing
pub kept_seal : (s : State) → HasSettings s (seal s)
kept_seal s = elim (cases_Bool (nat_lt 0 s.place.records)) [
  | inl some ↦ rw some (record { names = refl; containers = refl; archive = refl; maximum = refl; minimum = refl; growth = refl; automatic = refl })
  | inr none ↦ rw none (kept s)
]

pub kept_flush : (s : State) → HasSettings s (flush s)
kept_flush s = let sealed_so = kept_seal s in record {
  names = sealed_so.names;
  containers = sealed_so.containers;
  archive = sealed_so.archive;
  maximum = sealed_so.maximum;
  minimum = sealed_so.minimum;
  growth = sealed_so.growth;
  automatic = sealed_so.automatic;
}

pub kept_seal_if : (asked : Bool) (s : State) → HasSettings s (seal_if asked s)
kept_seal_if true s = kept_seal s
kept_seal_if false s = kept s

pub kept_flush_if : (asked : Bool) (s : State) → HasSettings s (flush_if asked s)
kept_flush_if true s = kept_flush s
kept_flush_if false s = kept s

-- changes of areas
pub kept_hold : (area : Area) (sizes : List ℕ) (s : State) → HasSettings s (hold_sizes area sizes s)
kept_hold area [] s = kept s
kept_hold area (size ∷ sizes) s =
    record { names = refl; containers = refl; archive = refl; maximum = refl; minimum = refl; growth = refl; automatic = refl }

-- a record that is put
kept_put_by : (joining beginning : Bool) (s : State) (entry : LogEntry) → HasSettings s (put_by joining beginning s entry)
kept_put_by true beginning s entry =
    record { names = refl; containers = refl; archive = refl; maximum = refl; minimum = refl; growth = refl; automatic = refl }
kept_put_by false true s entry = let sealed_so = kept_seal s in record {
  names = sealed_so.names;
  containers = sealed_so.containers;
  archive = sealed_so.archive;
  maximum = sealed_so.maximum;
  minimum = sealed_so.minimum;
  growth = sealed_so.growth;
  automatic = sealed_so.automatic;
}
kept_put_by false false s entry = let flushed_so = kept_flush s in record {
  names = flushed_so.names;
  containers = flushed_so.containers;
  archive = flushed_so.archive;
  maximum = flushed_so.maximum;
  minimum = flushed_so.minimum;
  growth = flushed_so.growth;
  automatic = flushed_so.automatic;
}

pub kept_put : (s : State) (entry : LogEntry) → HasSettings s (put s entry)
kept_put s entry = kept_put_by (joins s.shape s.place (length entry.bytes)) (begins_here s.shape s.place (length entry.bytes)) s entry

-- a base that moves
names_set : (number lsn : ℕ) (streams : List Stream)
    → map (λ (stream : Stream). stream.name) (set_base number lsn streams) ≡ map (λ (stream : Stream). stream.name) streams
names_set number lsn [] = refl
names_set number lsn (stream ∷ streams) = elim (cases_Bool (number == 1)) [
  | inl here ↦ rw here refl
  | inr further ↦ rw further (ap (λ (names : List (List ℕ)). stream.name ∷ names) (names_set (number - 1) lsn streams))
]

pub kept_base : (stream base : ℕ) (s : State) → HasSettings s (record s { streams = set_base stream base s.streams })
kept_base stream base s = record {
  names = names_set stream base s.streams;
  containers = refl;
  archive = refl;
  maximum = refl;
  minimum = refl;
  growth = refl;
  automatic = refl;
}

pub kept_rebased : (stream base : ℕ) (s : State) → HasSettings s (rebased stream base s)
kept_rebased stream base s = elim (cases_Bool (base == null_lsn)) [
  | inl none ↦ rw none (kept s)
  | inr some ↦ rw some (kept_base stream base s)
]
