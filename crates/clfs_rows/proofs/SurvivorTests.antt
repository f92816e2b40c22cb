-- Tests that decide what a crash may leave.
use Rattle.clfs_rows.proofs.Words.{◌≡◌, ◌⊎◌, ℕ, ◌+◌, ◌<◌, ◌≤◌, true, false, refl, sym, inl, List, length, arith, ◌==◌, Any, None, null_lsn, container_of}
use Rattle.clfs_rows.proofs.Words.{IsClosed, frontier, Place, LogEntry, State, base_of, flushed, cut, line_request, state_behind}
use Rattle.std.proofs.Common.{◌-◌, ◌∙◌, []}
use Rattle.std.specs.Prelude.{slice_get}
use Rattle.std.proofs.lemmas.Bool.{ne_eqb}
use Rattle.std.proofs.lemmas.Option.{slice_get_past}
use Rattle.clfs_model.specs.declared.call.Call.TheVariants as calls
use Rattle.clfs_model.specs.Archive.{is_in_block, end_of_block}
use Rattle.clfs_model.specs.Run.{Request, asks}
use Rattle.clfs_model.specs.Survivors.{names_of, HasSettings, HasBases, EndsBlockOf, records_below, SplitsNoBlock, HasMore, IsSurvivingPlace}
use Rattle.clfs_model.specs.Survivors.{HasBasesOfRestart, HasBasesOfRequest, IsSurvivor}
use Rattle.clfs_rows.specs.Crashes.{SurvivesLine}
use Rattle.clfs_rows.proofs.Decisions.{Decision, like, always, both, either, implies, refuted, equal, less, at_most, alike, each, some, each_number, same_lists}
use Rattle.clfs_rows.proofs.SameStates.{same_numbers, same_number_options, same_entry, same_place, same_shape, same_area}

-- a stream that isn't there has the null base
pub no_base : (s : State) (stream : ℕ) → length s.streams < stream → base_of s stream ≡ null_lsn
no_base s stream over =
    let some : (stream == 0) ≡ false = ne_eqb stream 0 (λ e. omega (arith, e)) in
    let none : slice_get s.streams (stream - 1) ≡ None = slice_get_past s.streams (stream - 1) (omega arith) in
    rw some (rw none refl)

-- no stream of either state has a number from here on
abbrev pub bound_of : State → State → ℕ
bound_of s x = length s.streams + length x.streams + 1

pub past_bases : (s x : State) (stream : ℕ) → bound_of s x ≤ stream → base_of x stream ≡ base_of s stream
past_bases s x stream over = no_base x stream (omega arith) ∙ sym (no_base s stream (omega arith))

abbrev pub has_bases : (s x : State) → Decision (HasBases s x)
has_bases s x = each_number (λ stream. equal (base_of x stream) (base_of s stream)) (bound_of s x) (past_bases s x)

pub past_both : (s s2 x : State) (stream : ℕ) → bound_of s x ≤ stream → (base_of x stream ≡ base_of s stream) ⊎ (base_of x stream ≡ base_of s2 stream)
past_both s s2 x stream over = inl (past_bases s x stream over)

abbrev pub has_old_or_new_bases : (s s2 x : State) → Decision ((stream : ℕ) → (base_of x stream ≡ base_of s stream) ⊎
    (base_of x stream ≡ base_of s2 stream))
has_old_or_new_bases s s2 x = each_number
    (λ stream. either (equal (base_of x stream) (base_of s stream)) (equal (base_of x stream) (base_of s2 stream))) (bound_of s x) (past_both s s2 x)

abbrev pub has_settings : (s x : State) → Decision (HasSettings s x)
has_settings s x = like to from
    (both (same_lists same_numbers (names_of x) (names_of s)) (both (equal x.containers s.containers) (both (same_number_options x.archive s.archive)
    (both (same_number_options x.maximum s.maximum) (both (same_number_options x.minimum s.minimum) (both (same_number_options x.growth s.growth)
    (alike x.automatic s.automatic)))))))
  where
    to : (names_of x ≡ names_of s) × ((x.containers ≡ s.containers) × ((x.archive ≡ s.archive) × ((x.maximum ≡ s.maximum) × ((x.minimum ≡ s.minimum)
        × ((x.growth ≡ s.growth) × (x.automatic ≡ s.automatic)))))) → HasSettings s x
    to p = record {
      names = p.0;
      containers = p.1.0;
      archive = p.1.1.0;
      maximum = p.1.1.1.0;
      minimum = p.1.1.1.1.0;
      growth = p.1.1.1.1.1.0;
      automatic = p.1.1.1.1.1.1;
    }

    from : HasSettings s x → (names_of x ≡ names_of s) × ((x.containers ≡ s.containers) × ((x.archive ≡ s.archive) × ((x.maximum ≡ s.maximum)
        × ((x.minimum ≡ s.minimum) × ((x.growth ≡ s.growth) × (x.automatic ≡ s.automatic))))))
    from h = (h.names, (h.containers, (h.archive, (h.maximum, (h.minimum, (h.growth, h.automatic))))))

abbrev pub ends_block : (records : List LogEntry) (place : Place) (entry : LogEntry) → Decision (EndsBlockOf records place entry)
ends_block records place entry = either
    (both (equal place.container (container_of entry.lsn)) (equal place.offset (end_of_block records entry.lsn)))
    (both (equal place.container (container_of entry.lsn + 1)) (equal place.offset 0))

abbrev pub splits_no_block : (records : List LogEntry) (place : Place) → Decision (SplitsNoBlock records place)
splits_no_block records place = each (λ (entry : LogEntry). implies (less entry.lsn (frontier place))
    (each (λ (other : LogEntry). implies (alike (is_in_block other.lsn entry.lsn) true) (less other.lsn (frontier place))) records)) records

abbrev pub has_more : (records : List LogEntry) (s : State) → Decision (HasMore records s)
has_more records s = some (λ (entry : LogEntry). each (λ (other : LogEntry). refuted (equal other.lsn entry.lsn)) s.records) records

abbrev PlaceParts : State → State → State → Type 0
PlaceParts s s2 x = IsClosed x.place × ((flushed s ≤ frontier x.place) × ((frontier x.place ≤ flushed s2)
    × (((x.place ≡ (cut s).place) ⊎ Any (EndsBlockOf s2.records x.place) s2.records) × SplitsNoBlock s2.records x.place)))

pub place_of_parts : (s s2 x : State) → PlaceParts s s2 x → IsSurvivingPlace s s2 x
place_of_parts s s2 x p = record { closed = p.0; from = p.1.0; to = p.1.1.0; end = p.1.1.1.0; whole_blocks = p.1.1.1.1 }

pub parts_of_place : (s s2 x : State) → IsSurvivingPlace s s2 x → PlaceParts s s2 x
parts_of_place s s2 x h = (h.closed, (h.from, (h.to, (h.end, h.whole_blocks))))

abbrev pub surviving_place : (s s2 x : State) → Decision (IsSurvivingPlace s s2 x)
surviving_place s s2 x = like (place_of_parts s s2 x) (parts_of_place s s2 x)
    (both (both (equal x.place.used 0) (equal x.place.records 0))
    (both (at_most (flushed s) (frontier x.place))
    (both (at_most (frontier x.place) (flushed s2))
    (both (either (same_place x.place (cut s).place) (some (ends_block s2.records x.place) s2.records))
    (splits_no_block s2.records x.place)))))

pub bases_of_restart : (s s2 x : State) → (¬ HasMore s2.records x → HasBases s2 x) × (HasMore s2.records x → HasBases s x) → HasBasesOfRestart s s2 x
bases_of_restart s s2 x p = record { there = p.0; lost = p.1 }

pub from_bases_of_restart : (s s2 x : State) → HasBasesOfRestart s s2 x → (¬ HasMore s2.records x → HasBases s2 x) × (HasMore s2.records x → HasBases s x)
from_bases_of_restart s s2 x h = (h.there, h.lost)

abbrev pub has_bases_of_request : (asked : Request) (s s2 x : State) → Decision (HasBasesOfRequest asked s s2 x)
has_bases_of_request (asks client (calls.WriteRestart area bytes base reserved)) s s2 x = like (bases_of_restart s s2 x) (from_bases_of_restart s s2 x)
    (both (implies (refuted (has_more s2.records x)) (has_bases s2 x)) (implies (has_more s2.records x) (has_bases s x)))
has_bases_of_request (asks client (calls.Advance area lsn)) s s2 x = implies (has_more (cut s2).records x) (has_bases s x)
has_bases_of_request _ s s2 x = always

abbrev SurvivorParts : Request → State → State → State → Type 0
SurvivorParts asked s s2 x = (x.shape ≡ s.shape) × ((x.dedicated ≡ s.dedicated) × (IsSurvivingPlace s s2 x × ((x.records ≡ records_below x.place s2.records)
    × ((HasSettings s x ⊎ HasSettings s2 x) × ((HasMore x.records s → HasSettings s2 x)
    × (((stream : ℕ) → (base_of x stream ≡ base_of s stream) ⊎ (base_of x stream ≡ base_of s2 stream))
    × (HasBasesOfRequest asked s s2 x × ((x.areas ≡ []) × ((x.waiting ≡ []) × (x.broken ≡ false))))))))))

pub survivor_of_parts : (asked : Request) (s s2 x : State) → SurvivorParts asked s s2 x → IsSurvivor asked s s2 x
survivor_of_parts asked s s2 x p = record {
  shape = p.0;
  dedicated = p.1.0;
  place = p.1.1.0;
  records = p.1.1.1.0;
  settings = p.1.1.1.1.0;
  new_settings = p.1.1.1.1.1.0;
  bases = p.1.1.1.1.1.1.0;
  bases_of_request = p.1.1.1.1.1.1.1.0;
  no_areas = p.1.1.1.1.1.1.1.1.0;
  nothing_waits = p.1.1.1.1.1.1.1.1.1.0;
  whole = p.1.1.1.1.1.1.1.1.1.1;
}

pub parts_of_survivor : (asked : Request) (s s2 x : State) → IsSurvivor asked s s2 x → SurvivorParts asked s s2 x
parts_of_survivor asked s s2 x h =
    (h.shape, (h.dedicated, (h.place, (h.records, (h.settings, (h.new_settings, (h.bases, (h.bases_of_request, (h.no_areas, (h.nothing_waits, h.whole))))))))))

abbrev pub is_survivor : (asked : Request) (s s2 x : State) → Decision (IsSurvivor asked s s2 x)
is_survivor asked s s2 x = like (survivor_of_parts asked s s2 x) (parts_of_survivor asked s s2 x)
    (both (same_shape x.shape s.shape)
    (both (alike x.dedicated s.dedicated)
    (both (surviving_place s s2 x)
    (both (same_lists same_entry x.records (records_below x.place s2.records))
    (both (either (has_settings s x) (has_settings s2 x))
    (both (implies (has_more x.records s) (has_settings s2 x))
    (both (has_old_or_new_bases s s2 x)
    (both (has_bases_of_request asked s s2 x)
    (both (same_lists same_area x.areas [])
    (both (same_numbers x.waiting [])
    (alike x.broken false)))))))))))

-- of a line, where nothing else happens
abbrev pub is_survivor_of_line : (s : State) (line : List ℕ) (x : State) → Decision (SurvivesLine s line x)
is_survivor_of_line s line x = is_survivor (line_request line) s (state_behind s line) x
