-- The states that a log goes through while it is made ready for a record, and what is flushed of it once the record is put.
use Rattle.clfs_laws.proofs.Words.{◌≡◌, ℕ, ◌+◌, ◌≤◌, Bool, true, false, refl, sym, ap, ◌∙◌, subst, inl, inr, ◌⊎◌, arith, List, [], ◌∷◌, ◌++◌, length, nat_lt}
use Rattle.clfs_laws.proofs.Words.{if◌then◌else◌, AllByRecursion, cases_Bool, append-nil, filter-append, container_of, offset_of, IsWithin, IsClosed, begun}
use Rattle.clfs_laws.proofs.Words.{block_end, joins, begins_here, place_after, Place, Shape, LogEntry, State, block_start, first_or, flushed, seal, flush}
use Rattle.clfs_laws.proofs.Words.{cut, next_lsn, put, made_ready, HasBlocks, IsStorable, HasSettings, IsValid, HasSpaceLaws, MayPut, turned, readied}
use Rattle.clfs_laws.proofs.Words.{ready_stages}
use Rattle.clfs_laws.specs.Between.{IsReadyFor}
use Rattle.clfs_laws.proofs.FallingLists.{below_lsn}
use Rattle.clfs_laws.proofs.KeptSettings.{kept, kept_seal, kept_flush}
use Rattle.clfs_laws.proofs.Links as of_links
use Rattle.clfs_laws.proofs.LsnOrder.{small_offset}
use Rattle.clfs_laws.proofs.ReadiedLogs.{is_readied, turned_log}
use Rattle.clfs_laws.proofs.LaidPuts.{takes_of}
use Rattle.clfs_laws.proofs.RecordsOfCalls.{Adds, adds_none, seal_records}
use Rattle.clfs_laws.proofs.StorableBlocks.{blocks_seal, blocks_flush, seal_shape, seal_dedicated}
use Rattle.clfs_laws.proofs.SurvivingRecords.{none_below}
use Rattle.clfs_laws.proofs.Turns.{IsTurn, stays, seal_container, turn_by}
use Rattle.clfs_laws.proofs.ValidBases.{flush_streams}
use Rattle.clfs_laws.proofs.ValidPlaces.{sound_of, valid_seal, valid_flush, flushed_below, flushed_seal, flushed_flush}
use Rattle.clfs_laws.proofs.ValidPuts.{after_by}

-- a state that a log comes to within a call: the records that it had, and maybe more after them
pub record IsStage (u v : State) : Type 0 where
  pub valid : IsValid v
  pub blocks : HasBlocks v
  pub streams : v.streams ≡ u.streams
  pub settings : HasSettings u v
  pub adds : Adds u v
  pub turn : IsTurn u v
  pub rises : flushed u ≤ flushed v

-- such a state with no record more and no more flushed than in another one
pub record IsReadying (u r v : State) : Type 0 where
  pub stage : IsStage u v
  pub records : v.records ≡ u.records
  pub below : flushed v ≤ flushed r

-- all of these states, with the first and the last of them
pub record AreReadying (u r : State) (all : List State) : Type 0 where
  pub each : AllByRecursion (IsReadying u r) all
  pub first : IsReadying u r u
  pub last : IsReadying u r r

-- what is flushed lies below the next LSN
flushed_next : (s : State) (n : ℕ) → IsValid s → flushed s ≤ next_lsn s n
flushed_next s n valid = omega (arith, flushed_below s valid.waiting, of_links.next_above s n (sound_of s valid))

-- a flushed log that goes on in the next container has no less on the disk
turned_rises : (u : State) → IsValid (flush u) → flushed (flush u) ≤ flushed (turned (flush u))
turned_rises u valid =
    let low = small_offset (flush u).shape (flush u).place valid.ranges.shape valid.ranges.place in
    omega (arith, low)

-- a state itself
itself : (u : State) → IsValid u → HasBlocks u → IsStage u u
itself u valid blocks = record {
  valid = valid;
  blocks = blocks;
  streams = refl;
  settings = kept u;
  adds = adds_none u u refl;
  turn = stays u u refl refl refl;
  rises = omega arith;
}

-- the log with its open block sealed
seal_stage : (u : State) → IsValid u → HasBlocks u → IsStage u (seal u)
seal_stage u valid blocks = record {
  valid = valid_seal u valid;
  blocks = blocks_seal u blocks;
  streams = flush_streams u;
  settings = kept_seal u;
  adds = adds_none u (seal u) (seal_records u);
  turn = stays u (seal u) (seal_shape u) (seal_dedicated u) (seal_container u);
  rises = flushed_seal u (sound_of u valid);
}

-- the log flushed
pub flush_stage : (u : State) → IsValid u → HasBlocks u → IsStage u (flush u)
flush_stage u valid blocks = record {
  valid = valid_flush u (sound_of u valid);
  blocks = blocks_flush u blocks;
  streams = flush_streams u;
  settings = kept_flush u;
  adds = adds_none u (flush u) (seal_records u);
  turn = stays u (flush u) (seal_shape u) (seal_dedicated u) (seal_container u);
  rises = flushed_flush u (sound_of u valid);
}

-- the log that goes on in the next container
turned_stage : HasSpaceLaws → (u : State) (entry : LogEntry) → IsValid u → IsStorable u → MayPut u entry → joins u.shape u.place (length entry.bytes) ≡ false
    → begins_here u.shape u.place (length entry.bytes) ≡ false → IsStage u (turned (flush u))
turned_stage space u entry valid storable may apart beyond =
    let n = length entry.bytes in
    let has = turned_log space u n valid storable (takes_of u entry may) apart beyond in
    let flush_rises = flushed_flush u (sound_of u valid) in
    let turn_rises = turned_rises u (valid_flush u (sound_of u valid)) in
    let C : ℕ → Type 0 = λ c. ((c + 1) ≡ u.place.container) ⊎ (((c + 1) ≡ u.place.container + 1) × (1 ≤ block_end u.place)) in
    let same = kept_flush u in
    record {
      valid = has.valid;
      blocks = has.storable.blocks;
      streams = has.tables.streams;
      settings = record {
        names = same.names;
        containers = same.containers;
        archive = same.archive;
        maximum = same.maximum;
        minimum = same.minimum;
        growth = same.growth;
        automatic = same.automatic;
      };
      adds = adds_none u (turned (flush u)) has.records;
      turn = record {
        shape = has.tables.shape;
        dedicated = seal_dedicated u;
        container = subst C (sym (seal_container u)) (turn_by u n false false beyond valid.ranges.shape may.short);
      };
      rises = omega (arith, flush_rises, turn_rises);
    }

-- the log made ready, and the states on the way there, by whether the record joins the open block and whether it begins one after it
abbrev readied_by : Bool → Bool → State → State
readied_by joining beginning s = if joining then s else if beginning then seal s else turned (flush s)

abbrev stages_by : Bool → Bool → State → List State
stages_by joining beginning s = if joining then s ∷ [] else if beginning then s ∷ seal s ∷ [] else s ∷ flush s ∷ turned (flush s) ∷ []

readying_by : HasSpaceLaws → (u : State) (entry : LogEntry) (joining beginning : Bool) → joins u.shape u.place (length entry.bytes) ≡ joining
    → begins_here u.shape u.place (length entry.bytes) ≡ beginning → IsValid u → IsStorable u → MayPut u entry
    → AreReadying u (readied_by joining beginning u) (stages_by joining beginning u)
readying_by space u entry true beginning fits here valid storable may =
    let one : IsReadying u u u = record { stage = itself u valid storable.blocks; records = refl; below = omega arith } in
    record { each = (one, tt); first = one; last = one }
readying_by space u entry false true apart here valid storable may =
    let r : State = seal u in
    let stage = seal_stage u valid storable.blocks in
    let one : IsReadying u r u = record { stage = itself u valid storable.blocks; records = refl; below = stage.rises } in
    let two : IsReadying u r r = record { stage = stage; records = seal_records u; below = omega arith } in
    record { each = (one, (two, tt)); first = one; last = two }
readying_by space u entry false false apart beyond valid storable may =
    let m : State = flush u in
    let r : State = turned m in
    let stage = flush_stage u valid storable.blocks in
    let further = turned_stage space u entry valid storable may apart beyond in
    let one : IsReadying u r u = record { stage = itself u valid storable.blocks; records = refl; below = further.rises } in
    let two : IsReadying u r m = record { stage = stage; records = seal_records u; below = turned_rises u stage.valid } in
    let three : IsReadying u r r = record { stage = further; records = seal_records u; below = omega arith } in
    record { each = (one, (two, (three, tt))); first = one; last = three }

-- in each case
pub readying : HasSpaceLaws → (u : State) (entry : LogEntry) → IsValid u → IsStorable u → MayPut u entry
    → AreReadying u (readied u (length entry.bytes)) (ready_stages u (length entry.bytes))
readying space u entry valid storable may =
    readying_by space u entry (joins u.shape u.place (length entry.bytes)) (begins_here u.shape u.place (length entry.bytes)) refl refl valid storable may

-- a log that is ready for a record begins its next block where it began it before
start_joined : (shape : Shape) (place : Place) (n : ℕ) → joins shape place n ≡ true → block_start (place_after shape place n).1 ≡ block_start place
start_joined shape place n fits = ap (λ (b : Bool). block_start (after_by b (begins_here shape place n) place n).1) fits

start_begun : (shape : Shape) (place : Place) (n : ℕ) → IsWithin shape place → IsClosed place → joins shape place n ≡ false → begins_here shape place n ≡ true
    → block_start (place_after shape place n).1 ≡ block_start place
start_begun shape place n within closed apart here =
    let at : block_start (begun place.container (block_end place) n) ≡ block_start place = omega (arith, closed.0, within.offset) in
    ap (λ (b : Bool). block_start (after_by b (begins_here shape place n) place n).1) apart
    ∙ ap (λ (b : Bool). block_start (after_by false b place n).1) here ∙ at

start_of : (shape : Shape) (place : Place) (n : ℕ) → IsWithin shape place → (joins shape place n ≡ true) ⊎ ((begins_here shape place n ≡ true) × IsClosed place)
    → block_start (place_after shape place n).1 ≡ block_start place
start_of shape place n within (inl fits) = start_joined shape place n fits
start_of shape place n within (inr here) = elim (cases_Bool (joins shape place n)) [
  | inl fits ↦ start_joined shape place n fits
  | inr apart ↦ start_begun shape place n within here.1 apart here.0
]

-- the flushed part of a log, by its records below some LSN
abbrev cut_at : State → List LogEntry → ℕ → State
cut_at s records lsn = record s {
  records = records;
  place = record { container = container_of lsn; offset = offset_of lsn; used = 0; records = 0 };
  waiting = [];
  areas = [];
  broken = false;
}

-- what is flushed of a log that is ready for a record is what is flushed once the record is put
record IsPutReady (r : State) (entry : LogEntry) : Type 0 where
  pub of_flushed : flushed (put r entry) ≡ flushed r
  pub of_cut : cut (put r entry) ≡ cut r

put_ready : (r : State) (entry : LogEntry) → IsValid r → made_ready r (length entry.bytes) ≡ r → IsReadyFor r (length entry.bytes) → IsPutReady r entry
put_ready r entry valid stays_so ready =
    let n = length entry.bytes in
    let new : LogEntry = record entry { lsn = next_lsn r n } in
    let F : State → State = λ m. record m { records = r.records ++ new ∷ []; place = (place_after r.shape r.place n).1 } in
    let is : put r entry ≡ F r = ap F stays_so in
    let start = start_of r.shape r.place n valid.ranges.place ready in
    let same : flushed (F r) ≡ flushed r = ap (λ (b : ℕ). first_or b r.waiting) start in
    let below = flushed_next r n valid in
    let kept_records : below_lsn (flushed r) (r.records ++ new ∷ []) ≡ below_lsn (flushed r) r.records =
    filter-append (λ (e : LogEntry). nat_lt e.lsn (flushed r)) r.records (new ∷ [])
    ∙ ap (λ (more : List LogEntry). below_lsn (flushed r) r.records ++ more) (none_below (flushed r) (new ∷ []) (below, tt))
    ∙ append-nil (below_lsn (flushed r) r.records) in
    let cut_same : cut (F r) ≡ cut r =
    ap (λ (lsn : ℕ). cut_at r (below_lsn lsn (r.records ++ new ∷ [])) lsn) same ∙ ap (λ (records : List LogEntry). cut_at r records (flushed r)) kept_records in
    record { of_flushed = ap flushed is ∙ same; of_cut = ap cut is ∙ cut_same }

-- a record that is put, against the log made ready for it
pub record IsPutBehind (u r : State) (entry : LogEntry) : Type 0 where
  pub of_flushed : flushed (put u entry) ≡ flushed r
  pub of_cut : cut (put u entry) ≡ cut r
  pub next : flushed r ≤ next_lsn u (length entry.bytes)

pub put_behind : HasSpaceLaws → (u : State) (entry : LogEntry) → IsValid u → IsStorable u → MayPut u entry
    → IsPutBehind u (readied u (length entry.bytes)) entry
put_behind space u entry valid storable may =
    let n = length entry.bytes in
    let r : State = readied u n in
    let is = is_readied space u entry valid storable may in
    let same = put_ready r entry is.valid is.stays is.ready in
    record {
      of_flushed = ap flushed (sym is.put) ∙ same.of_flushed;
      of_cut = ap cut (sym is.put) ∙ same.of_cut;
      next = omega (arith, flushed_next r n is.valid, is.lsn);
    }
