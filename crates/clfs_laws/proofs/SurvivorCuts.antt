-- Where a call leaves the flushed part of the log, a survivor is that part.
use Rattle.clfs_laws.proofs.Words.{◌≡◌, ℕ, suc, ◌+◌, ◌-◌, ◌<◌, ◌%◌, ◌^◌, Bool, false, refl, sym, ap, ◌∙◌, subst, inl, inr, ◌⊎◌, arith, List, [], ◌∷◌, ◌++◌}
use Rattle.clfs_laws.proofs.Words.{Option, map, nat_lt, ◌==◌, slice_get, Any, option_map_or, ne_eqb, append-nil, filter-append, container_of, offset_of}
use Rattle.clfs_laws.proofs.Words.{IsClosed, frontier, LogEntry, Place, Shape, Call, Fine, Reply, State, Area, Stream, base_of, flushed, cut, IsSame, Request}
use Rattle.clfs_laws.proofs.Words.{asks, Step, IsStorable, HasSettings, HasBases, EndsBlockOf, IsSurvivor, IsValid, HasSpaceLaws, LeavesStable}
use Rattle.clfs_model.specs.Survivors.{names_of}
use Rattle.clfs_laws.proofs.FallingLists.{below_lsn}
use Rattle.clfs_laws.proofs.Numbers.{survivor_low}
use Rattle.clfs_laws.proofs.RecordsOfCalls.{step_adds}
use Rattle.clfs_laws.proofs.StepBlocks.{blocks_step}
use Rattle.clfs_laws.proofs.SurvivingRecords.{new_above, none_below}
use Rattle.clfs_laws.proofs.ValidSteps.{valid_step}

-- a place without an open block, at the start of a sector, is told by its frontier
abbrev place_of : ℕ → ℕ → ℕ → ℕ → Place
place_of container offset used records = record { container = container; offset = offset; used = used; records = records }

pub same_places : (a b : Place) → a.container ≡ b.container → a.offset ≡ b.offset → a.used ≡ b.used → a.records ≡ b.records → a ≡ b
same_places a b container offset used records =
    let same : place_of a.container a.offset a.used a.records ≡ place_of b.container b.offset b.used b.records = cc in same

place_at : (place : Place) (lsn : ℕ) → place.offset < 2 ^ 32 → place.offset % 512 ≡ 0 → IsClosed place → frontier place ≡ lsn
    → place ≡ place_of (container_of lsn) (offset_of lsn) 0 0
place_at place lsn low whole closed at =
    same_places place (place_of (container_of lsn) (offset_of lsn) 0 0)
    (omega (arith, at, closed.1, low)) (omega (arith, at, closed.1, low, whole)) closed.0 closed.1

-- a survivor's place begins a sector
whole_sector : (s t x : State) → (x.place ≡ (cut s).place) ⊎ Any (EndsBlockOf t.records x.place) t.records → x.place.offset % 512 ≡ 0
whole_sector s t x (inl same) = let at : x.place.offset ≡ offset_of (flushed s) = ap (λ (place : Place). place.offset) same in omega (arith, at)
whole_sector s t x (inr ends) = by_block ends.1 ends.4
  where
    by_block : (entry : LogEntry) → EndsBlockOf t.records x.place entry → x.place.offset % 512 ≡ 0
    by_block entry (inl behind) = omega (arith, behind.1)
    by_block entry (inr next) = omega (arith, next.1)

-- streams of the same names and the same bases are the same
abbrev base_at : List Stream → ℕ → ℕ
base_at streams place = option_map_or (λ (stream : Stream). stream.base) (slice_get streams place) 0

abbrev stream_of : List ℕ → ℕ → Stream
stream_of name base = record { name = name; base = base }

same_stream : (a b : Stream) → a.name ≡ b.name → a.base ≡ b.base → a ≡ b
same_stream a b name base = let same : stream_of a.name a.base ≡ stream_of b.name b.base = cc in same

same_streams : (xs ys : List Stream) → map (λ (stream : Stream). stream.name) xs ≡ map (λ (stream : Stream). stream.name) ys
    → ((place : ℕ) → base_at xs place ≡ base_at ys place) → xs ≡ ys
same_streams [] [] names bases = refl
same_streams [] (y ∷ ys) names bases = absurd (cc)
same_streams (x ∷ xs) [] names bases = absurd (cc)
same_streams (x ∷ xs) (y ∷ ys) names bases =
    let name : x.name ≡ y.name = cc in
    let others : map (λ (stream : Stream). stream.name) xs ≡ map (λ (stream : Stream). stream.name) ys = cc in
    let first : x ≡ y = same_stream x y name (bases 0) in
    let rest : xs ≡ ys = same_streams xs ys others (λ place. bases (suc place)) in
    cc

-- the base of the stream at a place in the list
base_is : (s : State) (place : ℕ) → base_of s (place + 1) ≡ base_at s.streams place
base_is s place =
    let some : (place + 1 == 0) ≡ false = ne_eqb (place + 1) 0 (λ e. omega (arith, e)) in
    let back : place + 1 - 1 ≡ place = omega arith in
    rw some (ap (base_at s.streams) back)

streams_are : (s x : State) → names_of x ≡ names_of s → HasBases s x → x.streams ≡ s.streams
streams_are s x names bases =
    same_streams x.streams s.streams names (λ place. sym (base_is x place) ∙ bases (place + 1) ∙ base_is s place)

-- a survivor has the settings and the bases of a call that leaves them
settings_are : (asked : Request) (s t x : State) → LeavesStable s t → IsSurvivor asked s t x → HasSettings s x
settings_are asked s t x leaves survives = elim survives.settings [
  | inl old ↦ old
  | inr new ↦ record {
    names = new.names ∙ leaves.settings.names;
    containers = new.containers ∙ leaves.settings.containers;
    archive = new.archive ∙ leaves.settings.archive;
    maximum = new.maximum ∙ leaves.settings.maximum;
    minimum = new.minimum ∙ leaves.settings.minimum;
    growth = new.growth ∙ leaves.settings.growth;
    automatic = new.automatic ∙ leaves.settings.automatic;
  }
]

bases_are : (asked : Request) (s t x : State) → LeavesStable s t → IsSurvivor asked s t x → HasBases s x
bases_are asked s t x leaves survives stream = elim (survives.bases stream) [
  | inl old ↦ old
  | inr new ↦ new ∙ leaves.bases stream
]

-- its place begins where the log was flushed
pub frontier_is : (asked : Request) (s t x : State) → LeavesStable s t → IsSurvivor asked s t x → frontier x.place ≡ flushed s
frontier_is asked s t x leaves survives = omega (arith, survives.place.from, survives.place.to, leaves.flushed)

-- its records are those that were flushed
records_are : (told : Bool) (s t x : State) (client : ℕ) (call : Call) (reply : Reply) → IsValid s → Step told s client call Fine reply t
    → LeavesStable s t → IsSurvivor (asks client call) s t x → x.records ≡ (cut s).records
records_are told s t x client call reply valid step leaves survives =
    let adds = step_adds told s client call Fine reply t step in
    survives.records
    ∙ ap (λ lsn. below_lsn lsn t.records) (frontier_is (asks client call) s t x leaves survives)
    ∙ ap (below_lsn (flushed s)) adds.joined
    ∙ filter-append (λ (entry : LogEntry). nat_lt entry.lsn (flushed s)) s.records adds.more
    ∙ ap (λ (more : List LogEntry). below_lsn (flushed s) s.records ++ more) (none_below (flushed s) adds.more (new_above s adds.more valid adds.placed))
    ∙ append-nil (below_lsn (flushed s) s.records)

-- states that have all in common are the same
abbrev state_of : Shape → Bool → ℕ → ℕ → List Stream → List LogEntry → Place → List ℕ → List Area → Option ℕ → Option ℕ → Option ℕ → Option ℕ → Bool → Bool → State
state_of shape dedicated containers buffers streams records place waiting areas archive maximum minimum growth automatic broken = record {
  shape = shape;
  dedicated = dedicated;
  containers = containers;
  buffers = buffers;
  streams = streams;
  records = records;
  place = place;
  waiting = waiting;
  areas = areas;
  archive = archive;
  maximum = maximum;
  minimum = minimum;
  growth = growth;
  automatic = automatic;
  broken = broken;
}

pub same_states : (a b : State) → a.shape ≡ b.shape → a.dedicated ≡ b.dedicated → a.containers ≡ b.containers → a.buffers ≡ b.buffers → a.streams ≡ b.streams → a.records ≡ b.records
    → a.place ≡ b.place → a.waiting ≡ b.waiting → a.areas ≡ b.areas → a.archive ≡ b.archive → a.maximum ≡ b.maximum → a.minimum ≡ b.minimum
    → a.growth ≡ b.growth → a.automatic ≡ b.automatic → a.broken ≡ b.broken → a ≡ b
same_states a b shape dedicated containers buffers streams records place waiting areas archive maximum minimum growth automatic broken =
    let same : state_of a.shape a.dedicated a.containers a.buffers a.streams a.records a.place a.waiting a.areas a.archive a.maximum a.minimum a.growth a.automatic a.broken
    ≡ state_of b.shape b.dedicated b.containers b.buffers b.streams b.records b.place b.waiting b.areas b.archive b.maximum b.minimum b.growth b.automatic b.broken = cc in
    same

-- a survivor with the flushed records is the flushed part, but for the number of write buffers
pub is_cut_by : (asked : Request) (s t x : State) → LeavesStable s t → IsSurvivor asked s t x → x.records ≡ (cut s).records → x.place.offset < 2 ^ 32
    → record x { buffers = s.buffers } ≡ cut s
is_cut_by asked s t x leaves survives records low =
    let settings = settings_are asked s t x leaves survives in
    same_states (record x { buffers = s.buffers }) (cut s) survives.shape survives.dedicated settings.containers refl
    (streams_are s x settings.names (bases_are asked s t x leaves survives)) records
    (place_at x.place (flushed s) low (whole_sector s t x survives.place.end) survives.place.closed (frontier_is asked s t x leaves survives))
    survives.nothing_waits survives.no_areas settings.archive settings.maximum settings.minimum settings.growth settings.automatic survives.whole

-- so is one of a call
pub is_cut : HasSpaceLaws → (told : Bool) (s t x : State) (client : ℕ) (call : Call) (reply : Reply) → IsValid s → IsStorable s → Step told s client call Fine reply t
    → LeavesStable s t → IsSurvivor (asks client call) s t x → record x { buffers = s.buffers } ≡ cut s
is_cut space told s t x client call reply valid storable step leaves survives =
    is_cut_by (asks client call) s t x leaves survives (records_are told s t x client call reply valid step leaves survives)
    (survivor_low s t x (valid_step space told s client call Fine reply t valid step) (blocks_step space told s client call Fine reply t valid storable.blocks step) survives.place.end)

-- so no reply can show a difference
itself : (s t : State) → t ≡ s → IsSame s t
itself s t same = let F : State → Type 0 = λ x. IsSame s x in subst F (sym same) (record { hold = refl; records = refl; others = refl })

pub is_same : HasSpaceLaws → (told : Bool) (s t x : State) (client : ℕ) (call : Call) (reply : Reply) → IsValid s → IsStorable s → Step told s client call Fine reply t
    → LeavesStable s t → IsSurvivor (asks client call) s t x → IsSame (cut s) (record x { buffers = s.buffers })
is_same space told s t x client call reply valid storable step leaves survives =
    itself (cut s) (record x { buffers = s.buffers }) (is_cut space told s t x client call reply valid storable step leaves survives)
