-- The flushed part of a log survives each request, and so does that of what a call leaves.
use Rattle.clfs_laws.proofs.Words.{◌≡◌, ℕ, ◌<◌, ◌≤◌, Bool, refl, sym, ap, ◌∙◌, subst, inl, inr, arith, List, [], ◌∷◌, ◌++◌, length, Some, None, All, nat_lt}
use Rattle.clfs_laws.proofs.Words.{◌==◌, AllByRecursion, cases_Bool, ltb-false, append-nil, All-weaker, All-filter, All-from_recursion, filter-append}
use Rattle.clfs_laws.proofs.Words.{null_lsn, frontier, LogEntry, Call, Fine, Reply, State, Area, area_of, set_base, grown, block_start, first_or, flushed}
use Rattle.clfs_laws.proofs.Words.{flush, cut, next_lsn, put, need_of, spend_if, in_area, restart_refusal, outcome, restart_record, restarted, rebased}
use Rattle.clfs_laws.proofs.Words.{Request, asks, reopens, bad_line, Step, IsStorable, HasSettings, HasBasesOfRequest, IsSurvivor, IsValid, HasSpaceLaws}
use Rattle.clfs_laws.proofs.Words.{LeavesStable}
use Rattle.clfs_model.specs.declared.call.Call.TheVariants as calls
use Rattle.clfs_model.specs.declared.reply.Reply.TheVariants as replies
use Rattle.clfs_model.specs.Survivors.{HasMore, HasBasesOfRestart}
use Rattle.clfs_laws.proofs.Among.{IsAmong, each_among, at_each}
use Rattle.clfs_laws.proofs.BlockSums.{among_last}
use Rattle.clfs_laws.proofs.CutPlaces.{frontier_cut, splits_none, any_among, cut_ends}
use Rattle.clfs_laws.proofs.FallingLists.{below_lsn, all_below}
use Rattle.clfs_laws.proofs.FlushedRises.{flushed_rises}
use Rattle.clfs_laws.proofs.Links as of_links
use Rattle.clfs_laws.proofs.Numbers.{survivor_low}
use Rattle.clfs_laws.proofs.RecordsOfCalls.{Adds, placed_record, step_adds, restarted_records}
use Rattle.clfs_laws.proofs.StepBlocks.{blocks_step}
use Rattle.clfs_laws.proofs.StepLeads.{step_leads}
use Rattle.clfs_laws.proofs.StorableCuts.{storable_cut}
use Rattle.clfs_laws.proofs.StorableSteps.{in_each}
use Rattle.clfs_laws.proofs.SurvivingRecords.{new_above, none_below}
use Rattle.clfs_laws.proofs.SurvivorCuts.{frontier_is, is_cut_by}
use Rattle.clfs_laws.proofs.Turns.{turn_step}
use Rattle.clfs_laws.proofs.ValidCuts.{flushed_block, kept_below, valid_cut}
use Rattle.clfs_laws.proofs.ValidPlaces.{sound_of, flushed_below}
use Rattle.clfs_laws.proofs.ValidRestarts.{valid_restarted}
use Rattle.clfs_laws.proofs.ValidSteps.{two_of, valid_step}

-- the flushed part has the settings of the log
settings_of : (s : State) → HasSettings s (cut s)
settings_of s = record { names = refl; containers = refl; archive = refl; maximum = refl; minimum = refl; growth = refl; automatic = refl }

-- a state that has some records lacks none of them
none_more : (entries : List LogEntry) (s : State) → All (λ (entry : LogEntry). IsAmong entry s.records) entries → HasMore entries s → ⊥
none_more entries s all more =
    let F : LogEntry → Type 0 = λ entry. IsAmong entry s.records in
    let among : IsAmong more.1 s.records = subst F more.3 (all more.0 more.1 more.2) in
    at_each (λ (other : LogEntry). other.lsn ≡ more.1.lsn → ⊥) s.records more.1 more.4 among refl

-- all elements of a list are among it
pub its_own : (entries : List LogEntry) → All (λ (entry : LogEntry). IsAmong entry entries) entries
its_own entries = All-from_recursion (λ (entry : LogEntry). IsAmong entry entries) entries (each_among entries)

-- the flushed records are records of the log
no_more_than : (s : State) → HasMore (cut s).records s → ⊥
no_more_than s more =
    none_more (cut s).records s
    (All-filter (λ (entry : LogEntry). nat_lt entry.lsn (flushed s)) (λ (entry : LogEntry). IsAmong entry s.records) s.records (its_own s.records)) more

-- the flushed part of a log as a survivor
survives_as : (asked : Request) (s t : State) → IsValid s → flushed s ≤ flushed t → below_lsn (flushed s) t.records ≡ (cut s).records
    → HasBasesOfRequest asked s t (cut s) → IsSurvivor asked s t (cut s)
survives_as asked s t valid rises records bases =
    let at = frontier_cut s valid in
    let block = flushed_block s valid in
    record {
      shape = refl;
      dedicated = refl;
      place = record {
        closed = (refl, refl);
        from = omega (arith, at);
        to = omega (arith, at, rises);
        end = inl refl;
        whole_blocks = splits_none t.records (cut s).place (omega (arith, at, block.sequence));
      };
      records = sym (ap (λ (lsn : ℕ). below_lsn lsn t.records) at ∙ records);
      settings = inl (settings_of s);
      new_settings = λ more. absurd (no_more_than s more);
      bases = λ stream. inl refl;
      bases_of_request = bases;
      no_areas = refl;
      nothing_waits = refl;
      whole = refl;
    }

-- records below an LSN, twice
below_twice : (lsn : ℕ) (entries : List LogEntry) → below_lsn lsn (below_lsn lsn entries) ≡ below_lsn lsn entries
below_twice lsn entries = all_below lsn (below_lsn lsn entries) (kept_below lsn entries)

-- of opening again
pub reopening_survives : (s : State) (client : ℕ) → IsValid s → IsSurvivor (reopens client) s (cut s) (cut s)
reopening_survives s client valid = survives_as (reopens client) s (cut s) valid (omega (arith, frontier_cut s valid)) (below_twice (flushed s) s.records) tt

-- and of a bad line
pub bad_line_survives : (s : State) (at : ℕ) → IsValid s → IsSurvivor (bad_line at) s s (cut s)
bad_line_survives s at valid = survives_as (bad_line at) s s valid (omega arith) refl tt

-- the flushed part leaves what is stable as it is
cut_leaves : (s : State) → IsValid s → LeavesStable s (cut s)
cut_leaves s valid = record { flushed = frontier_cut s valid; settings = settings_of s; bases = λ stream. refl }

-- nothing else survives opening again
pub reopening_only : (s x : State) (client : ℕ) → IsValid s → IsStorable s → IsSurvivor (reopens client) s (cut s) x
    → record x { buffers = s.buffers } ≡ cut s
reopening_only s x client valid storable survives =
    let leaves = cut_leaves s valid in
    let at = frontier_is (reopens client) s (cut s) x leaves survives in
    is_cut_by (reopens client) s (cut s) x leaves survives
    (survives.records ∙ ap (λ (lsn : ℕ). below_lsn lsn (cut s).records) at ∙ below_twice (flushed s) s.records)
    (survivor_low s (cut s) x (valid_cut s valid) (storable_cut s valid storable).blocks survives.place.end)

-- a call adds no record to what was flushed before it
flushed_still : (s t : State) → IsValid s → Adds s t → below_lsn (flushed s) t.records ≡ (cut s).records
flushed_still s t valid adds =
    ap (below_lsn (flushed s)) adds.joined
    ∙ filter-append (λ (entry : LogEntry). nat_lt entry.lsn (flushed s)) s.records adds.more
    ∙ ap (λ (more : List LogEntry). below_lsn (flushed s) s.records ++ more) (none_below (flushed s) adds.more (new_above s adds.more valid adds.placed))
    ∙ append-nil (below_lsn (flushed s) s.records)

-- a restart area is more than was flushed before it
pub restart_more : (s t : State) (entry : LogEntry) → flushed s ≤ entry.lsn → t.records ≡ s.records ++ entry ∷ [] → HasMore t.records (cut s)
restart_more s t entry above is =
    let F : List LogEntry → Type 0 = λ entries. IsAmong entry entries in
    any_among (λ (e : LogEntry). All (λ (other : LogEntry). other.lsn ≡ e.lsn → ⊥) (cut s).records) t.records entry
    (subst F (sym is) (among_last s.records entry))
    (All-weaker (λ (other : LogEntry). other.lsn < flushed s) (λ (other : LogEntry). other.lsn ≡ entry.lsn → ⊥)
    (λ other below same. omega (arith, below, same, above))
    (cut s).records (All-from_recursion (λ (other : LogEntry). other.lsn < flushed s) (cut s).records (kept_below (flushed s) s.records)))

-- so it is lost where the flushed part of before is left
restart_before : (s : State) (area : Area) (bytes : List ℕ) (base : ℕ) (is_reserved : Bool) → IsValid s
    → HasBasesOfRestart s (restarted s area bytes base is_reserved) (cut s)
restart_before s area bytes base is_reserved valid =
    let t : State = restarted s area bytes base is_reserved in
    let above : flushed s ≤ next_lsn s (length bytes) = omega (arith, flushed_below s valid.waiting, of_links.next_above s (length bytes) (sound_of s valid)) in
    record {
      there =
          λ none. absurd (none (restart_more s t (placed_record s (restart_record s area bytes base)) above (restarted_records s area bytes base is_reserved)));
      lost = λ more stream. refl;
    }

-- the bases of the flushed part are those that it had
bases_before : (told : Bool) (s : State) (client : ℕ) (call : Call) (reply : Reply) (t : State) → IsValid s → Step told s client call Fine reply t
    → HasBasesOfRequest (asks client call) s t (cut s)
bases_before told s client (calls.WriteRestart number bytes base is_reserved) reply t valid step =
    let P : State → Type 0 = λ x. HasBasesOfRestart s x (cut s) in
    step_leads P told s client (calls.WriteRestart number bytes base is_reserved) Fine reply t step (record {
      same = record { there = λ none stream. refl; lost = λ more stream. refl };
      broken = record { there = λ none stream. refl; lost = λ more stream. refl };
      answered = λ none.
          let two = two_of s (in_area s client number (λ (area : Area). restart_refusal s area bytes base is_reserved)) none in
          in_each P s client number (λ area. restart_refusal s area bytes base is_reserved)
          (λ area. outcome (replies.Placed (next_lsn s (length bytes))) (restarted s area bytes base is_reserved)) (area_of s client number) refl two.1
          (λ area there passes. restart_before s area bytes base is_reserved valid);
    })
bases_before told s client (calls.Advance number lsn) reply t valid step = λ more stream. refl
bases_before told s client call reply t valid step = tt

-- the flushed part of a log survives a call
pub survives_before : HasSpaceLaws → (told : Bool) (s t : State) (client : ℕ) (call : Call) (reply : Reply) → IsValid s → Step told s client call Fine reply t
    → IsSurvivor (asks client call) s t (cut s)
survives_before space told s t client call reply valid step =
    survives_as (asks client call) s t valid (flushed_rises space told s client call Fine reply t valid step)
    (flushed_still s t valid (step_adds told s client call Fine reply t step)) (bases_before told s client call reply t valid step)

-- a log that was flushed, whatever base it moved then
flush_closed : (s : State) → (flush s).place.records ≡ 0
flush_closed s = elim (cases_Bool (nat_lt 0 s.place.records)) [
  | inl some ↦ rw some refl
  | inr none ↦ rw none (omega (arith, ltb-false 0 s.place.records none))
]

-- a log with no open block and nothing waiting has flushed everything
flushed_at : (s : State) → s.waiting ≡ [] → s.place.records ≡ 0 → flushed s ≡ frontier s.place
flushed_at s none closed = ap (first_or (block_start s.place)) none ∙ omega (arith, closed)

-- so has one that was flushed, with a new base or without
flushed_rebased : (stream base : ℕ) (s : State) → flushed (rebased stream base (flush s)) ≡ frontier (rebased stream base (flush s)).place
flushed_rebased stream base s = elim (cases_Bool (base == null_lsn)) [
  | inl none ↦ rw none (flushed_at (flush s) refl (flush_closed s))
  | inr some ↦ rw some (flushed_at (record (flush s) { streams = set_base stream base (flush s).streams }) refl (flush_closed s))
]

-- nothing of it is lost
all_flushed : (s : State) → IsValid s → flushed s ≡ frontier s.place → (cut s).records ≡ s.records
all_flushed s valid at =
    let B : ℕ → Type 0 = λ n. AllByRecursion (λ (entry : LogEntry). entry.lsn < n) s.records in
    all_below (flushed s) s.records (subst B (sym at) (of_links.all_below s (sound_of s valid)))

-- so a restart area is there where the flushed part of after is left
restart_after : HasSpaceLaws → (s : State) (client number : ℕ) (area : Area) (bytes : List ℕ) (base : ℕ) (is_reserved : Bool) → IsValid s
    → area_of s client number ≡ Some area
    → restart_refusal s area bytes base is_reserved ≡ None
    → HasBasesOfRestart s (restarted s area bytes base is_reserved) (cut (restarted s area bytes base is_reserved))
restart_after space s client number area bytes base is_reserved valid there none =
    let t : State = restarted s area bytes base is_reserved in
    let n = length bytes in
    let joined = put (grown s (need_of is_reserved n [])) (restart_record s area bytes base) in
    let all = all_flushed t (valid_restarted space s client number area bytes base is_reserved valid there none)
    (flushed_rebased area.stream base (spend_if is_reserved area n joined)) in
    let F : List LogEntry → Type 0 = λ entries. All (λ (entry : LogEntry). IsAmong entry entries) t.records in
    record {
      there = λ none_lost stream. refl;
      lost = λ more. absurd (none_more t.records (cut t) (subst F (sym all) (its_own t.records)) more);
    }

-- the bases of what a call flushed are the new ones
bases_after : HasSpaceLaws → (told : Bool) (s : State) (client : ℕ) (call : Call) (reply : Reply) (t : State) → IsValid s → Step told s client call Fine reply t
    → HasBasesOfRequest (asks client call) s t (cut t)
bases_after space told s client (calls.WriteRestart number bytes base is_reserved) reply t valid step =
    let P : State → Type 0 = λ x. HasBasesOfRestart s x (cut x) in
    step_leads P told s client (calls.WriteRestart number bytes base is_reserved) Fine reply t step (record {
      same = record { there = λ none stream. refl; lost = λ more stream. refl };
      broken = record { there = λ none stream. refl; lost = λ more stream. refl };
      answered = λ none.
          let two = two_of s (in_area s client number (λ (area : Area). restart_refusal s area bytes base is_reserved)) none in
          in_each P s client number (λ area. restart_refusal s area bytes base is_reserved)
          (λ area. outcome (replies.Placed (next_lsn s (length bytes))) (restarted s area bytes base is_reserved)) (area_of s client number) refl two.1
          (λ area there passes. restart_after space s client number area bytes base is_reserved valid there passes);
    })
bases_after space told s client (calls.Advance number lsn) reply t valid step = λ more. absurd (none_more (cut t).records (cut t) (its_own (cut t).records) more)
bases_after space told s client call reply t valid step = tt

-- the flushed part of what a call leaves survives the call
pub survives_after : HasSpaceLaws → (told : Bool) (s t : State) (client : ℕ) (call : Call) (reply : Reply) → IsValid s → IsStorable s
    → Step told s client call Fine reply t
    → IsSurvivor (asks client call) s t (cut t)
survives_after space told s t client call reply valid storable step =
    let valid_t = valid_step space told s client call Fine reply t valid step in
    let blocks_t = blocks_step space told s client call Fine reply t valid storable.blocks step in
    let adds = step_adds told s client call Fine reply t step in
    let turn = turn_step told s client call Fine reply t valid step in
    let rises = flushed_rises space told s client call Fine reply t valid step in
    let at = frontier_cut t valid_t in
    let block = flushed_block t valid_t in
    record {
      shape = turn.shape;
      dedicated = turn.dedicated;
      place = record {
        closed = (refl, refl);
        from = omega (arith, at, rises);
        to = omega (arith, at);
        end = cut_ends s t valid valid_t storable.blocks blocks_t adds turn rises;
        whole_blocks = splits_none t.records (cut t).place (omega (arith, at, block.sequence));
      };
      records = sym (ap (λ (lsn : ℕ). below_lsn lsn t.records) at);
      settings = inr (settings_of t);
      new_settings = λ more. settings_of t;
      bases = λ stream. inr refl;
      bases_of_request = bases_after space told s client call reply t valid step;
      no_areas = refl;
      nothing_waits = refl;
      whole = refl;
    }
