-- The flushed part of each state between the small changes of a call survives the call: an append, a restart area, a reservation, an
-- advance; and of other requests that before it, and that of what it leaves.
use Rattle.clfs_laws.proofs.Words.{◌≡◌, ℕ, ◌≤◌, Bool, true, false, refl, sym, ap, ◌∙◌, subst, inr, arith, List, [], ◌∷◌, ◌++◌, length, Option, Some, None}
use Rattle.clfs_laws.proofs.Words.{All, MatchBool, MatchOption, IsTrue, if◌then◌else◌, option_map_or, append-nil, All-from_recursion, LogEntry, Plain, Call}
use Rattle.clfs_laws.proofs.Words.{Draft, Refusal, Fine, State, Area, area_of, own_sum, grown, flushed, flush, cut, next_lsn, put, need_of, spend_if}
use Rattle.clfs_laws.proofs.Words.{hold_sizes, seal_if, flush_if, plain_record, appended, refusal, in_area, append_refusal, restart_refusal, Outcome, outcome}
use Rattle.clfs_laws.proofs.Words.{answer, restart_record, restarted, rebased, advanced, reserved_for, Request, asks, reopens, bad_line, fine_outcome, Step}
use Rattle.clfs_laws.proofs.Words.{Comes, Goes, IsBroken, IsOutOfMemory, takes_memory, HasBlocks, IsStorable, HasBasesOfRequest, IsSurvivor, IsValid}
use Rattle.clfs_laws.proofs.Words.{HasSpaceLaws, IsWhole, TakesThrough, ready_stages}
use Rattle.std.specs.Prelude.{◌⊎◌}
use Rattle.clfs_model.specs.declared.call.Call.TheVariants as calls
use Rattle.clfs_model.specs.declared.refusal.Refusal.TheVariants as refusals
use Rattle.clfs_model.specs.declared.reply.Reply.TheVariants as replies
use Rattle.clfs_model.specs.Survivors.{Survives}
use Rattle.clfs_laws.specs.Stages.{append_stages, restart_stages, reserve_stages, advance_stages}
use Rattle.clfs_laws.proofs.CutSurvives.{survives_before, survives_after, reopening_survives, bad_line_survives as cut_survives, restart_more}
use Rattle.clfs_laws.proofs.FlushedRises.{flushed_grown, flushed_spend, flushed_hold, rises_seal_if, rises_flush_if, flushed_rebased}
use Rattle.clfs_laws.proofs.KeptSettings.{kept_on, kept_put, kept_hold, kept_seal_if, kept_flush_if, kept_flush, kept_base, kept_rebased}
use Rattle.clfs_laws.proofs.LaidPuts.{laid_put, flushed_put}
use Rattle.clfs_laws.proofs.LaidStates.{laid_whole, sound_laid}
use Rattle.clfs_laws.proofs.ReadyStages.{IsStage, flush_stage}
use Rattle.clfs_laws.proofs.RecordsOfCalls.{adds_one, seal_records, seal_if_records, flush_if_records, rebased_records}
use Rattle.clfs_laws.proofs.RoomFound.{append_takes, restart_takes, whole_behind}
use Rattle.clfs_laws.proofs.StagesSurvive.{IsBegun, LeadsTo, stage_bases, stage_survives, IsFollowed, BasesBefore, AllSurvive, both_survive, put_survives}
use Rattle.clfs_laws.proofs.StorableBlocks.{blocks_seal_if}
use Rattle.clfs_laws.proofs.Turns.{turn_seal_if, turn_hold, turn_put}
use Rattle.clfs_laws.proofs.ValidAppends.{spend_first, valid_seal_if}
use Rattle.clfs_laws.proofs.ValidBases.{flush_streams}
use Rattle.clfs_laws.proofs.ValidPlaces.{sound_of, flushed_flush}
use Rattle.clfs_laws.proofs.ValidPuts.{placed}
use Rattle.clfs_laws.proofs.ValidRestarts.{put_streams}
use Rattle.clfs_laws.proofs.ValidSettings.{grown_is}
use Rattle.clfs_laws.proofs.ValidSteps.{two_of}

-- the outcome of a call by the refusal that it meets, and by whether the log is broken
abbrev whole_outcome : State → ℕ → Call → Option Refusal → Outcome
whole_outcome s client call found = option_map_or (λ first. outcome (replies.Refused first) s) found (answer s client call)

abbrev outcome_by : Bool → State → ℕ → Call → Outcome
outcome_by broken s client call =
    if broken then outcome (replies.Refused refusals.Broken) s else whole_outcome s client call (refusal s client call)

-- what a request comes to where nothing happens is a step
step_fine : (s : State) (client : ℕ) (call : Call)
    → Step true s client call Fine (fine_outcome s (asks client call)).reply (fine_outcome s (asks client call)).state
unfolding fine_outcome Step
step_fine s client call = by_broken s.broken
  where
    by_found : (found : Option Refusal)
        → MatchOption found (Comes true (flushed s) (answer s client call) (whole_outcome s client call found).reply (whole_outcome s client call found).state)
        (λ first. ((whole_outcome s client call found).reply ≡ replies.Refused first) × ((whole_outcome s client call found).state ≡ s))
    by_found None = (refl, refl)
    by_found (Some first) = (refl, refl)

    by_broken : (broken : Bool)
        → MatchBool broken (IsBroken s (outcome_by broken s client call).reply (outcome_by broken s client call).state)
        ((IsTrue (takes_memory call) × IsOutOfMemory s (outcome_by broken s client call).reply (outcome_by broken s client call).state)
        ⊎ Goes true s client call Fine (outcome_by broken s client call).reply (outcome_by broken s client call).state)
    by_broken true = (refl, refl)
    by_broken false = inr (by_found (refusal s client call))

pub before_survives : HasSpaceLaws → (s : State) (client : ℕ) (call : Call) → IsValid s → Survives (asks client call) s (cut s)
before_survives space s client call valid =
    survives_before space true s (fine_outcome s (asks client call)).state client call (fine_outcome s (asks client call)).reply valid (step_fine s client call)

pub after_survives : HasSpaceLaws → (s : State) (client : ℕ) (call : Call) → IsValid s → IsStorable s
    → Survives (asks client call) s (cut (fine_outcome s (asks client call)).state)
after_survives space s client call valid storable =
    survives_after space true s (fine_outcome s (asks client call)).state client call (fine_outcome s (asks client call)).reply valid storable
    (step_fine s client call)

-- opening again, and a bad line
pub reopens_survives : (s : State) (client : ℕ) → IsValid s → s.broken ≡ false → Survives (reopens client) s (cut s)
unfolding fine_outcome
reopens_survives s client valid whole =
    let is : (if s.broken then outcome (replies.Refused refusals.Broken) s else outcome (replies.Flushed (flushed s)) (cut s)).state ≡ cut s =
    ap (λ (b : Bool). (if b then outcome (replies.Refused refusals.Broken) s else outcome (replies.Flushed (flushed s)) (cut s)).state) whole in
    let F : State → Type 0 = λ t. IsSurvivor (reopens client) s t (cut s) in
    subst F (sym is) (reopening_survives s client valid)

pub bad_line_survives : (s : State) (at : ℕ) → IsValid s → Survives (bad_line at) s (cut s)
unfolding fine_outcome
bad_line_survives s at valid = cut_survives s at valid

-- the state that a call leaves that isn't refused
fine_answer : (s : State) (client : ℕ) (call : Call) → s.broken ≡ false → refusal s client call ≡ None
    → (fine_outcome s (asks client call)).state ≡ (answer s client call).state
unfolding fine_outcome
fine_answer s client call whole none =
    ap (λ (b : Bool). (outcome_by b s client call).state) whole
    ∙ ap (λ (found : Option Refusal). (whole_outcome s client call found).state) none

-- that of a call in an area that is there
fine_in_area : (s : State) (client number : ℕ) (area : Area) (call : Call) (f : Area → Outcome) → s.broken ≡ false → refusal s client call ≡ None
    → area_of s client number ≡ Some area
    → (answer s client call).state ≡ (option_map_or f (area_of s client number) (outcome (replies.Refused refusals.NoSuchArea) s)).state
    → (fine_outcome s (asks client call)).state ≡ (f area).state
fine_in_area s client number area call f whole none there is =
    fine_answer s client call whole none ∙ is
    ∙ ap (λ (found : Option Area). (option_map_or f found (outcome (replies.Refused refusals.NoSuchArea) s)).state) there

-- what the area's tests give
refused_in_area : (s : State) (client number : ℕ) (area : Area) (rest : Area → Option Refusal) → area_of s client number ≡ Some area
    → in_area s client number rest ≡ None → rest area ≡ None
refused_in_area s client number area rest there none =
    sym (ap (λ (found : Option Area). option_map_or rest found (Some refusals.NoSuchArea)) there) ∙ none

-- all states of a list, where the call leaves this one
all_of : (s t : State) (client : ℕ) (call : Call) (states : List State) → (fine_outcome s (asks client call)).state ≡ t
    → AllSurvive (asks client call) s t states → All (λ (v : State). Survives (asks client call) s (cut v)) states
all_of s t client call states is all =
    let F : State → Type 0 = λ x. AllSurvive (asks client call) s x states in
    All-from_recursion (λ (v : State). Survives (asks client call) s (cut v)) states (subst F (sym is) all)

-- the first and the last of them
first_of : HasSpaceLaws → (s t : State) (client : ℕ) (call : Call) → IsValid s → (fine_outcome s (asks client call)).state ≡ t
    → IsSurvivor (asks client call) s t (cut s)
first_of space s t client call valid is =
    let F : State → Type 0 = λ x. IsSurvivor (asks client call) s x (cut s) in subst F is (before_survives space s client call valid)

last_of : HasSpaceLaws → (s t : State) (client : ℕ) (call : Call) → IsValid s → IsStorable s → (fine_outcome s (asks client call)).state ≡ t
    → IsSurvivor (asks client call) s t (cut t)
last_of space s t client call valid storable is =
    let F : State → Type 0 = λ x. IsSurvivor (asks client call) s x (cut x) in subst F is (after_survives space s client call valid storable)

-- what areas hold is in no file
cut_spend : (is_reserved : Bool) (area : Area) (n : ℕ) (s : State) → cut (spend_if is_reserved area n s) ≡ cut s
cut_spend false area n s = refl
cut_spend true area n s = refl

cut_hold : (area : Area) (sizes : List ℕ) (s : State) → cut (hold_sizes area sizes s) ≡ cut s
cut_hold area [] s = refl
cut_hold area (size ∷ sizes) s = refl

-- a log that has grown and whose area has spent differs in its containers and its areas alone
record IsSpent (s u : State) : Type 0 where
  pub shape : u.shape ≡ s.shape
  pub dedicated : u.dedicated ≡ s.dedicated
  pub streams : u.streams ≡ s.streams

spent_by : (is_reserved : Bool) (area : Area) (n : ℕ) (s : State) → IsSpent s (spend_if is_reserved area n s)
spent_by false area n s = record { shape = refl; dedicated = refl; streams = refl }
spent_by true area n s = record { shape = refl; dedicated = refl; streams = refl }

begun_by : (s : State) (need : ℕ) (is_reserved : Bool) (area : Area) (n : ℕ) → IsValid (spend_if is_reserved area n (grown s need))
    → HasBlocks (spend_if is_reserved area n (grown s need))
    → IsBegun s (spend_if is_reserved area n (grown s need))
begun_by s need is_reserved area n valid blocks =
    let same = spent_by is_reserved area n (grown s need) in
    record {
      valid = valid;
      blocks = blocks;
      shape = same.shape ∙ ap (λ (x : State). x.shape) (grown_is s need);
      dedicated = same.dedicated ∙ ap (λ (x : State). x.dedicated) (grown_is s need);
      streams = same.streams ∙ ap (λ (x : State). x.streams) (grown_is s need);
      flushed = flushed_spend is_reserved area n (grown s need) ∙ flushed_grown s need;
    }

-- the flushed part of the log before its area has spent is that after
grown_survives : (asked : Request) (s t : State) (need : ℕ) (is_reserved : Bool) (area : Area) (n : ℕ)
    → IsSurvivor asked s t (cut (spend_if is_reserved area n (grown s need))) → IsSurvivor asked s t (cut (grown s need))
grown_survives asked s t need is_reserved area n survives =
    let F : State → Type 0 = λ x. IsSurvivor asked s t x in subst F (cut_spend is_reserved area n (grown s need)) survives

-- an append
hold_records : (area : Area) (sizes : List ℕ) (s : State) → (hold_sizes area sizes s).records ≡ s.records
hold_records area [] s = refl
hold_records area (size ∷ sizes) s = refl

hold_streams : (area : Area) (sizes : List ℕ) (s : State) → (hold_sizes area sizes s).streams ≡ s.streams
hold_streams area [] s = refl
hold_streams area (size ∷ sizes) s = refl

seal_if_streams : (asked : Bool) (s : State) → (seal_if asked s).streams ≡ s.streams
seal_if_streams true s = flush_streams s
seal_if_streams false s = refl

-- the state in which the block is sealed, where that is asked for
sealed_stage : HasSpaceLaws → (u : State) (area : Area) (entry : LogEntry) (sizes : List ℕ) (asked : Bool) → TakesThrough u area entry (own_sum sizes)
    → IsWhole (hold_sizes area sizes (put u entry)) → flushed u ≤ flushed (put u entry)
    → IsStage u (seal_if asked (hold_sizes area sizes (put u entry)))
sealed_stage space u area entry sizes asked takes held put_rises =
    let p : State = put u entry in
    let h : State = hold_sizes area sizes p in
    let same_flushed = flushed_hold area sizes p in
    let seal_rises = rises_seal_if asked h held.valid in
    record {
      valid = valid_seal_if asked h held.valid;
      blocks = blocks_seal_if asked h held.storable.blocks;
      streams = seal_if_streams asked h ∙ hold_streams area sizes p ∙ put_streams u entry;
      settings = kept_on u p (seal_if asked h) (kept_put u entry) (kept_on p h (seal_if asked h) (kept_hold area sizes p) (kept_seal_if asked h));
      adds = adds_one u (seal_if asked h) (placed entry (next_lsn u (length entry.bytes))) (length entry.bytes)
          (seal_if_records asked h ∙ hold_records area sizes p) refl;
      turn = turn_seal_if u h asked (turn_hold u p area sizes (turn_put u entry takes.valid.ranges.shape takes.may.short));
      rises = omega (arith, put_rises, same_flushed, seal_rises);
    }

-- the state that is left then
sealed_leads : (l : State) (asked : Bool) → IsValid l → LeadsTo l (flush_if asked l)
sealed_leads l asked valid = record {
  more = [];
  joined = flush_if_records asked l ∙ sym (append-nil l.records);
  above = tt;
  settings = kept_flush_if asked l;
  rises = rises_flush_if asked l valid;
}

-- the log in which a record has joined, its area holds the sectors for records to come and the block is sealed, where that is asked for
abbrev closed_log : State → Area → LogEntry → List ℕ → Bool → State
closed_log u area entry sizes asked = seal_if asked (hold_sizes area sizes (put u entry))

-- what it comes to follows the log that the record joins
sealed_follows : HasSpaceLaws → (u : State) (area : Area) (entry : LogEntry) (sizes : List ℕ) (seals flushes : Bool) → TakesThrough u area entry (own_sum sizes)
    → IsWhole (hold_sizes area sizes (put u entry)) → IsStage u (closed_log u area entry sizes seals)
    → IsFollowed u (flush_if flushes (closed_log u area entry sizes seals)) entry
sealed_follows space u area entry sizes seals flushes takes held stage =
    let p : State = put u entry in
    let h : State = hold_sizes area sizes p in
    let l : State = seal_if seals h in
    let same_flushed = flushed_hold area sizes p in
    let seal_rises = rises_seal_if seals h held.valid in
    let flush_rises = rises_flush_if flushes l stage.valid in
    record {
      joined = flush_if_records flushes l ∙ seal_if_records seals h ∙ hold_records area sizes p;
      settings = kept_on u l (flush_if flushes l) stage.settings (kept_flush_if flushes l);
      rises = omega (arith, same_flushed, seal_rises, flush_rises);
    }

-- all states from the one in which the area has spent
append_behind : HasSpaceLaws → (asked : Request) (s u : State) (area : Area) (entry : LogEntry) (sizes : List ℕ) (seals flushes : Bool) → IsBegun s u
    → TakesThrough u area entry (own_sum sizes) → entry.kind ≡ Plain
    → ((v : State) → HasBasesOfRequest asked s (flush_if flushes (closed_log u area entry sizes seals)) (cut v))
    → IsSurvivor asked s (flush_if flushes (closed_log u area entry sizes seals)) (cut (flush_if flushes (closed_log u area entry sizes seals)))
    → IsSurvivor asked s (flush_if flushes (closed_log u area entry sizes seals)) (cut u)
    × AllSurvive asked s (flush_if flushes (closed_log u area entry sizes seals)) (ready_stages u (length entry.bytes)
    ++ put u entry ∷ hold_sizes area sizes (put u entry) ∷ closed_log u area entry sizes seals ∷ flush_if flushes (closed_log u area entry sizes seals) ∷ [])
append_behind space asked s u area entry sizes seals flushes begun takes plain bases last =
    let p : State = put u entry in
    let h : State = hold_sizes area sizes p in
    let l : State = seal_if seals h in
    let t : State = flush_if flushes l in
    let held = whole_behind space u area entry sizes takes plain in
    let put_rises = flushed_put space u entry (sound_of u takes.valid) takes.may in
    let stage = sealed_stage space u area entry sizes seals takes held put_rises in
    let follows = sealed_follows space u area entry sizes seals flushes takes held stage in
    let before = put_survives space asked s u t entry begun takes.storable takes.may follows (λ v r new is behind after. bases v) in
    let Left : State → Type 0 = λ x. IsSurvivor asked s t x in
    let of_held : IsSurvivor asked s t (cut h) = subst Left (sym (cut_hold area sizes p)) before.joined in
    let of_closed = stage_survives asked s u l t begun stage (sealed_leads l flushes stage.valid) (bases l) in (
      before.first,
      both_survive asked s t (ready_stages u (length entry.bytes)) (p ∷ h ∷ l ∷ t ∷ []) before.ready
          (before.joined, (of_held, (of_closed, (last, tt)))),
    )

-- an append that isn't refused
append_all : HasSpaceLaws → (s : State) (client number : ℕ) (area : Area) (draft : Draft) (is_reserved : Bool) (sizes : List ℕ)
    → IsValid s → IsStorable s → 2 ≤ s.containers → area_of s client number ≡ Some area → append_refusal s area draft is_reserved sizes ≡ None
    → (fine_outcome s (asks client (calls.Append number draft is_reserved sizes))).state ≡ appended s area draft is_reserved sizes
    → All (λ (v : State). Survives (asks client (calls.Append number draft is_reserved sizes)) s (cut v)) (append_stages s area draft is_reserved sizes)
append_all space s client number area draft is_reserved sizes valid storable two there none is =
    let call : Call = calls.Append number draft is_reserved sizes in
    let asked : Request = asks client call in
    let n = length draft.bytes in
    let need = need_of is_reserved n sizes in
    let entry = plain_record area draft in
    let g : State = grown s need in
    let u : State = spend_if is_reserved area n g in
    let t : State = flush_if draft.flush (closed_log u area entry sizes draft.seal) in
    let takes = append_takes space s client number area draft is_reserved sizes valid storable two there none in
    let begun = begun_by s need is_reserved area n takes.valid takes.storable.blocks in
    let makes : t ≡ appended s area draft is_reserved sizes =
    ap (λ (x : State). flush_if draft.flush (seal_if draft.seal (hold_sizes area sizes x))) (spend_first is_reserved area n g entry) in
    let comes : (fine_outcome s asked).state ≡ t = is ∙ sym makes in
    let rest = append_behind space asked s u area entry sizes draft.seal draft.flush begun takes refl (λ v. tt) (last_of space s t client call valid storable comes) in
    all_of s t client call (append_stages s area draft is_reserved sizes) comes
    (first_of space s t client call valid comes, (grown_survives asked s t need is_reserved area n rest.0, rest.1))

pub append_survives : HasSpaceLaws → (s : State) (client number : ℕ) (area : Area) (draft : Draft) (is_reserved : Bool) (sizes : List ℕ)
    → IsValid s → IsStorable s → s.broken ≡ false → refusal s client (calls.Append number draft is_reserved sizes) ≡ None
    → area_of s client number ≡ Some area
    → All (λ (v : State). Survives (asks client (calls.Append number draft is_reserved sizes)) s (cut v)) (append_stages s area draft is_reserved sizes)
append_survives space s client number area draft is_reserved sizes valid storable whole none there =
    let two = two_of s (in_area s client number (λ (area : Area). append_refusal s area draft is_reserved sizes)) none in
    let passes = refused_in_area s client number area (λ area. append_refusal s area draft is_reserved sizes) there two.1 in
    append_all space s client number area draft is_reserved sizes valid storable two.0 there passes
    (fine_in_area s client number area (calls.Append number draft is_reserved sizes)
    (λ area. outcome (replies.Placed (next_lsn s (length draft.bytes))) (appended s area draft is_reserved sizes)) whole none there refl)

-- the state in which a restart area is on the disk and its base has moved
restart_follows : HasSpaceLaws → (u : State) (area : Area) (entry : LogEntry) (base : ℕ) → TakesThrough u area entry 0
    → IsFollowed u (rebased area.stream base (flush (put u entry))) entry
restart_follows space u area entry base takes =
    let p : State = put u entry in
    let laid = laid_put space u entry (laid_whole u takes.valid takes.storable) takes.may in
    let flush_rises = flushed_flush p (sound_laid p laid) in
    let same_flushed = flushed_rebased area.stream base (flush p) in
    record {
      joined = rebased_records area.stream base (flush p) ∙ seal_records p;
      settings = kept_on u p (rebased area.stream base (flush p)) (kept_put u entry)
          (kept_on p (flush p) (rebased area.stream base (flush p)) (kept_flush p) (kept_rebased area.stream base (flush p)));
      rises = omega (arith, flush_rises, same_flushed);
    }

-- until it is on the disk all bases are those before
restart_bases : (client number : ℕ) (bytes : List ℕ) (base : ℕ) (is_reserved : Bool) (s u t : State) → IsBegun s u
    → BasesBefore (asks client (calls.WriteRestart number bytes base is_reserved)) s u t
restart_bases client number bytes base is_reserved s u t begun v r entry is behind follows =
    let new : LogEntry = placed entry (next_lsn u (length entry.bytes)) in
    let joined : t.records ≡ v.records ++ new ∷ [] = follows.joined ∙ ap (λ (records : List LogEntry). records ++ new ∷ []) (sym is.records) in
    record {
      there = λ none. absurd (none (restart_more v t new (omega (arith, is.below, behind.next)) joined));
      lost = λ more. stage_bases s u v begun is.stage;
    }

-- a restart area that isn't refused
restart_all : HasSpaceLaws → (s : State) (client number : ℕ) (area : Area) (bytes : List ℕ) (base : ℕ) (is_reserved : Bool)
    → IsValid s → IsStorable s → 2 ≤ s.containers → area_of s client number ≡ Some area → restart_refusal s area bytes base is_reserved ≡ None
    → (fine_outcome s (asks client (calls.WriteRestart number bytes base is_reserved))).state ≡ restarted s area bytes base is_reserved
    → All (λ (v : State). Survives (asks client (calls.WriteRestart number bytes base is_reserved)) s (cut v)) (restart_stages s area bytes base is_reserved)
restart_all space s client number area bytes base is_reserved valid storable two there none is =
    let call : Call = calls.WriteRestart number bytes base is_reserved in
    let asked : Request = asks client call in
    let n = length bytes in
    let need = need_of is_reserved n [] in
    let entry = restart_record s area bytes base in
    let g : State = grown s need in
    let u : State = spend_if is_reserved area n g in
    let p : State = put u entry in
    let t : State = rebased area.stream base (flush p) in
    let takes = restart_takes space s client number area bytes base is_reserved valid storable two there none in
    let begun = begun_by s need is_reserved area n takes.valid takes.storable.blocks in
    let makes : t ≡ restarted s area bytes base is_reserved =
    ap (λ (x : State). rebased area.stream base (flush x)) (spend_first is_reserved area n g entry) in
    let comes : (fine_outcome s asked).state ≡ t = is ∙ sym makes in
    let before = put_survives space asked s u t entry begun takes.storable takes.may (restart_follows space u area entry base takes)
    (restart_bases client number bytes base is_reserved s u t begun) in
    let last = last_of space s t client call valid storable comes in
    all_of s t client call (restart_stages s area bytes base is_reserved) comes (
      first_of space s t client call valid comes,
      (
        grown_survives asked s t need is_reserved area n before.first,
        both_survive asked s t (ready_stages u n) (p ∷ t ∷ []) before.ready (before.joined, (last, tt)),
      ),
    )

pub restart_survives : HasSpaceLaws → (s : State) (client number : ℕ) (area : Area) (bytes : List ℕ) (base : ℕ) (is_reserved : Bool)
    → IsValid s → IsStorable s → s.broken ≡ false → refusal s client (calls.WriteRestart number bytes base is_reserved) ≡ None
    → area_of s client number ≡ Some area
    → All (λ (v : State). Survives (asks client (calls.WriteRestart number bytes base is_reserved)) s (cut v)) (restart_stages s area bytes base is_reserved)
restart_survives space s client number area bytes base is_reserved valid storable whole none there =
    let two = two_of s (in_area s client number (λ (area : Area). restart_refusal s area bytes base is_reserved)) none in
    let passes = refused_in_area s client number area (λ area. restart_refusal s area bytes base is_reserved) there two.1 in
    restart_all space s client number area bytes base is_reserved valid storable two.0 there passes
    (fine_in_area s client number area (calls.WriteRestart number bytes base is_reserved)
    (λ area. outcome (replies.Placed (next_lsn s (length bytes))) (restarted s area bytes base is_reserved)) whole none there refl)

-- a reservation
pub reserve_survives : HasSpaceLaws → (s : State) (client number : ℕ) (area : Area) (sizes : List ℕ)
    → IsValid s → IsStorable s → s.broken ≡ false → refusal s client (calls.Reserve number sizes) ≡ None → area_of s client number ≡ Some area
    → All (λ (v : State). Survives (asks client (calls.Reserve number sizes)) s (cut v)) (reserve_stages s sizes)
reserve_survives space s client number area sizes valid storable whole none there =
    let call : Call = calls.Reserve number sizes in
    let g : State = grown s (own_sum sizes) in
    let t : State = hold_sizes area sizes g in
    let comes : (fine_outcome s (asks client call)).state ≡ t =
    fine_in_area s client number area call (λ area. reserved_for s area sizes) whole none there refl in
    let Left : State → Type 0 = λ x. IsSurvivor (asks client call) s t x in
    all_of s t client call (reserve_stages s sizes) comes
    (first_of space s t client call valid comes, (subst Left (cut_hold area sizes g) (last_of space s t client call valid storable comes), tt))

-- an advance of a base
advance_flushed : (client number lsn : ℕ) (s : State) (stream : ℕ) → IsValid s → IsStorable s
    → IsSurvivor (asks client (calls.Advance number lsn)) s (advanced s stream lsn) (cut (flush s))
advance_flushed client number lsn s stream valid storable =
    let v : State = flush s in
    let t : State = advanced s stream lsn in
    let begun : IsBegun s s = record { valid = valid; blocks = storable.blocks; shape = refl; dedicated = refl; streams = refl; flushed = refl } in
    let stage = flush_stage s valid storable.blocks in
    let leads : LeadsTo v t = record {
      more = [];
      joined = sym (append-nil v.records);
      above = tt;
      settings = kept_base stream lsn v;
      rises = omega arith;
    } in
    stage_survives (asks client (calls.Advance number lsn)) s s v t begun stage leads (λ more. stage_bases s s v begun stage)

pub advance_survives : HasSpaceLaws → (s : State) (client number : ℕ) (area : Area) (lsn : ℕ)
    → IsValid s → IsStorable s → s.broken ≡ false → refusal s client (calls.Advance number lsn) ≡ None → area_of s client number ≡ Some area
    → All (λ (v : State). Survives (asks client (calls.Advance number lsn)) s (cut v)) (advance_stages s area.stream lsn)
advance_survives space s client number area lsn valid storable whole none there =
    let call : Call = calls.Advance number lsn in
    let t : State = advanced s area.stream lsn in
    let comes : (fine_outcome s (asks client call)).state ≡ t =
    fine_in_area s client number area call (λ area. outcome (replies.Base lsn) (advanced s area.stream lsn)) whole none there refl in
    all_of s t client call (advance_stages s area.stream lsn) comes (
      first_of space s t client call valid comes,
      (advance_flushed client number lsn s area.stream valid storable, (last_of space s t client call valid storable comes, tt)),
    )
