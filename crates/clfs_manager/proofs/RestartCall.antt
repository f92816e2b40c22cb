-- What a restart area finds that isn't refused, and the log that ends in it.
use Rattle.clfs_manager.proofs.Words.{inl, inr, ◌≡◌, ℕ, ◌≤◌, Bool, true, false, refl, sym, ap, subst, ◌∙◌, List, length, arith, All, Option, None, filter}
use Rattle.clfs_manager.proofs.Words.{nat_le, nat_lt, cases_Bool, ltb-false, All-filter, DiskState, begins_here, frontier, joins, LogEntry, IsWhole}
use Rattle.clfs_manager.proofs.Words.{KeepsTables, MayMove, MayPut, Refusal, State, Stream, rebased, IsNumber, base_in, flush, flushed, seal, next_lsn, put}
use Rattle.clfs_manager.proofs.Words.{Newest, Queued, shape_of, IsLeft, Holds, EndsInRestart, MayFinish, IsIntact, Log}
use Rattle.clfs_laws.specs.Between.{IsReadiedFor}
use Rattle.clfs_model.specs.Refusals.{unless_two_containers}
use Rattle.clfs_manager.specs.Putting.{HasSameLog}
use Rattle.clfs_manager.proofs.MovedBase.{base_is_up}
use Rattle.clfs_manager.proofs.Reached.{number_there}
use Rattle.clfs_manager.proofs.PutRecord.{flushed_put, goes_on, put_is, waits_put, with_put}
use Rattle.clfs_manager.proofs.Numbers.{flushed_below}
use Rattle.clfs_manager.proofs.SplitRecords.{kept_from}

-- a log that isn't refused has two containers
pub two_containers : (s : State) (others : Option Refusal) → unless_two_containers s others ≡ None → 2 ≤ s.containers
two_containers s others none = by_test (nat_lt s.containers 2) refl
  where
    by_test : (few : Bool) → nat_lt s.containers 2 ≡ few → 2 ≤ s.containers
    by_test true is = let wrong = rw is at none in absurd (cc wrong)
    by_test false is = ltb-false s.containers 2 is

-- A log for which memory was taken is intact as before.
pub intact_same : (disk : DiskState) (old new : Log) → HasSameLog old new → IsIntact disk old → IsIntact disk new
intact_same disk old new same intact =
    let sound = intact.sound in
    let holds = sound.holds in
    let opened = intact.opened in
    let s : State = old.state.value in
    let state : new.state.value ≡ s = ap (λ t. t.value) same.state in
    let memory : Holds s new = record {
      shape = ap (λ (q : Queued). q.shape) same.queue ∙ holds.shape;
      buffers = ap (λ (q : Queued). q.buffers) same.queue ∙ holds.buffers;
      place = ap (λ (q : Queued). q.place) same.queue ∙ holds.place;
      waiting = ap (λ (q : Queued). q.waiting) same.queue ∙ holds.waiting;
      records = ap (λ (q : Queued). q.records) same.queue ∙ holds.records;
      streams = same.tables.streams ∙ holds.streams;
      heads = same.tables.heads ∙ holds.heads;
      low = omega (arith, same.tables.low, holds.low);
      areas = ap (λ a. a.areas) same.areas ∙ holds.areas;
      archive = same.tail ∙ holds.archive;
      sealed = rw (same.tables.low, same.ends) holds.sealed;
      room = λ some. omega (arith, holds.room some, same.room);
      policies = same.policies ∙ holds.policies;
      containers = ap (λ (n : Newest). n.image.containers) same.physical ∙ holds.containers;
      image_shape = ap (λ (n : Newest). shape_of n.image) same.physical ∙ holds.image_shape;
      dedicated = ap (λ (n : Newest). n.image.dedicated) same.physical ∙ holds.dedicated;
      rows = ap (λ (n : Newest). length n.image.streams) same.physical ∙ holds.rows;
      listed = rw same.physical holds.listed;
      needed = rw same.physical holds.needed;
    } in
    record {
      sound = record {
        valid = rw state sound.valid;
        storable = rw state sound.storable;
        unbroken = same.broken ∙ sound.unbroken;
        whole = rw state sound.whole;
        holds = subst (λ (u : State). Holds u new) (sym state) memory;
      };
      opened = record {
        memory = subst (λ (u : State). Holds u new) (sym state) memory;
        blocks = opened.blocks;
        stored = rw (state, same.physical) opened.stored;
        files = λ tells. rw same.physical (opened.files tells);
        kept = λ tells. rw (state, same.buffers) (opened.kept tells);
        settled = opened.settled;
        forgotten = rw state (record { low = omega (arith, same.tables.low, opened.forgotten.low); ends = rw (same.tables.low, same.ends) opened.forgotten.ends });
      };
    }

-- A log that is intact is left as it must be.
pub left_intact : (disk : DiskState) (log : Log) → IsIntact disk log → IsLeft disk log
left_intact disk log intact = record {
  broken = intact.sound.whole ∙ sym intact.sound.unbroken;
  whole = λ _. intact.opened;
}

-- So is one that a fault has broken.
pub left_broken : (disk : DiskState) (log : Log) → log.state.value.broken ≡ true → log.broken ≡ true → IsLeft disk log
left_broken disk log state broken = record { broken = state ∙ sym broken; whole = λ whole. absurd (let wrong = sym broken ∙ whole in cc wrong) }

-- A record that was put is the last one that waits.
pub ends_in : (u r : State) (entry : LogEntry) → IsReadiedFor u r entry → frontier r.place ≤ next_lsn r (length entry.bytes)
    → All (λ (other : LogEntry). flushed (put u entry) ≤ other.lsn → other.new_base ≡ 0) u.records
    → EndsInRestart (put u entry) entry.stream entry.new_base
ends_in u r entry readied above older =
    let placed : LogEntry = record entry { lsn = next_lsn r (length entry.bytes) } in
    let same : put u entry ≡ with_put r entry = sym readied.put ∙ put_is r entry readied.ready in
    let stable : flushed (with_put r entry) ≡ flushed r = flushed_put r entry (goes_on r (length entry.bytes) readied.valid readied.ready) in
    let from : flushed (with_put r entry) ≤ placed.lsn = omega (arith, stable, flushed_below r readied.valid, above) in
    let front : ℕ = flushed (with_put r entry) in
    let waits : LogEntry → Bool = λ (e : LogEntry). nat_le front e.lsn in
    let ends : ℕ → LogEntry → Type 0 = λ n e. n ≤ e.lsn → e.new_base ≡ 0 in
    let still : All (ends front) r.records =
    subst (λ (es : List LogEntry). All (ends front) es) (sym readied.records) (subst (λ (v : State). All (ends (flushed v)) u.records) same older) in
    subst (λ (v : State). EndsInRestart v entry.stream entry.new_base) (sym same) (record {
      others = filter waits r.records;
      entry = placed;
      records = waits_put front r.records placed from;
      still = λ k d few. All-filter waits (ends front) r.records still k d few (kept_from front r.records k d few);
      own = refl;
      moves = refl;
    })

-- ---- the state that ends in a restart area

seal_broken : (s : State) → (seal s).broken ≡ s.broken
seal_broken s = elim (cases_Bool (nat_lt 0 s.place.records)) [ inl some ↦ rw some refl | inr none ↦ rw none refl ]

pub put_broken : (s : State) (entry : LogEntry) → (put s entry).broken ≡ s.broken
put_broken s entry = elim (cases_Bool (joins s.shape s.place (length entry.bytes))) [
  | inl join ↦ rw join refl
  | inr apart ↦ elim (cases_Bool (begins_here s.shape s.place (length entry.bytes))) [
    | inl begin ↦ rw (apart, begin) (seal_broken s)
    | inr none ↦ rw (apart, none) (seal_broken s)
  ]
]

-- a record of a restart area that was put last
pub may_finish : (v r : State) (entry : LogEntry) → MayPut v entry → MayMove v entry.stream entry.new_base → IsReadiedFor v r entry
    → frontier r.place ≤ next_lsn r (length entry.bytes)
    → IsWhole (rebased entry.stream entry.new_base (flush (put v entry))) → KeepsTables v (put v entry)
    → All (λ (other : LogEntry). flushed (put v entry) ≤ other.lsn → other.new_base ≡ 0) v.records
    → MayFinish (put v entry) entry.stream entry.new_base
may_finish v r entry may move readied above whole keeps older = record {
  last = ends_in v r entry readied above older;
  there = subst (λ (streams : List Stream). IsNumber streams entry.stream) (sym keeps.streams) (number_there v.streams entry.stream may.stream);
  up = λ some. subst (λ (streams : List Stream). base_in streams entry.stream ≤ entry.new_base) (sym keeps.streams)
      (base_is_up v entry.stream entry.new_base (move some));
  valid = whole.valid;
  storable = whole.storable;
}
