-- Calls of a manager that write base copies, by what a crash leaves while they are under way.
use Rattle.clfs_manager.proofs.Words.{◌≡◌, ℕ, false, refl, sym, ap, subst, ◌∙◌, List, [], ◌∷◌, option_map_or, All, Option, Some, None, All-head, All-tail}
use Rattle.clfs_manager.proofs.Words.{DiskState, Call, Fine, Area, State, answer, cut, flush, invalid_base, refusal, Request, asks, bad_line, grown, own_sum}
use Rattle.clfs_manager.proofs.Words.{area_of, IsStorable, Survives, IsValid, GoesTheseWays, CallLaws, CrashLeavesSurvivor, CrashSurvives, StoredMeanwhile}
use Rattle.clfs_manager.proofs.Words.{IsManaged, Log}
use Rattle.clfs_laws.specs.Stages.{advance_stages, reserve_stages}
use Rattle.clfs_model.specs.declared.call.Call.TheVariants as calls
use Rattle.clfs_model.specs.declared.refusal.Refusal.TheVariants as refusals
use Rattle.clfs_model.specs.Answers.{advanced}
use Rattle.clfs_manager.proofs.AreasChange.{KeepsValid}
use Rattle.clfs_manager.proofs.CopiedLog.{valid_holds}
use Rattle.clfs_manager.proofs.Crashes.{after_survives, crash_managed, crash_seen, crash_stored, survives_as}

-- ---- the laws

-- the states between those of a reservation
abbrev pub ReserveSurvives : Type 0
ReserveSurvives = (s : State) (client number : ℕ) (area : Area) (sizes : List ℕ)
    → IsValid s → IsStorable s → s.broken ≡ false → refusal s client (calls.Reserve number sizes) ≡ None → area_of s client number ≡ Some area
    → All (λ (u : State). Survives (asks client (calls.Reserve number sizes)) s (cut u)) (reserve_stages s sizes)

-- and of an advance
abbrev pub AdvanceSurvives : Type 0
AdvanceSurvives = (s : State) (client number : ℕ) (area : Area) (lsn : ℕ)
    → IsValid s → IsStorable s → s.broken ≡ false → refusal s client (calls.Advance number lsn) ≡ None → area_of s client number ≡ Some area
    → All (λ (u : State). Survives (asks client (calls.Advance number lsn)) s (cut u)) (advance_stages s area.stream lsn)

-- ---- the states between

-- the log that has grown for a reservation
pub growth_survives : ReserveSurvives → (s : State) (client number : ℕ) (area : Area) (sizes : List ℕ) → IsValid s → IsStorable s → s.broken ≡ false
    → refusal s client (calls.Reserve number sizes) ≡ None → area_of s client number ≡ Some area
    → Survives (asks client (calls.Reserve number sizes)) s (cut (grown s (own_sum sizes)))
growth_survives law s client number area sizes valid storable whole none there =
    let P : State → Type 0 = λ u. Survives (asks client (calls.Reserve number sizes)) s (cut u) in
    let larger : State = grown s (own_sum sizes) in
    All-head P larger [] (All-tail P s (larger ∷ []) (law s client number area sizes valid storable whole none there))

-- the log that was flushed for a base that moves
pub flush_survives : AdvanceSurvives → (s : State) (client number lsn : ℕ) → IsValid s → IsStorable s → s.broken ≡ false
    → refusal s client (calls.Advance number lsn) ≡ None → Survives (asks client (calls.Advance number lsn)) s (cut (flush s))
flush_survives law s client number lsn valid storable whole none = by_area (area_of s client number) refl
  where
    P : State → Type 0
    P u = Survives (asks client (calls.Advance number lsn)) s (cut u)

    by_area : (o : Option Area) → area_of s client number ≡ o → Survives (asks client (calls.Advance number lsn)) s (cut (flush s))
    by_area None is = absurd (let clash : Some refusals.NoSuchArea ≡ None =
        subst (λ (o : Option Area). option_map_or (λ (area : Area). invalid_base s area.stream lsn None) o (Some refusals.NoSuchArea) ≡ None) is none in cc clash)
    by_area (Some area) is =
        let moved : State = advanced s area.stream lsn in
        All-head (λ (u : State). Survives (asks client (calls.Advance number lsn)) s (cut u)) (flush s) (moved ∷ [])
        (All-tail (λ (u : State). Survives (asks client (calls.Advance number lsn)) s (cut u)) s (flush s ∷ moved ∷ [])
        (law s client number area lsn valid storable whole none is))

-- ---- the calls

-- one that makes no call on the disk
pub crash_untouched : {D : Type 0} → CallLaws → (state : D → DiskState) (log : Log) (disk : D) (seen : State × D) → (log.state.value, disk) ≡ seen
    → IsManaged (state disk) log → (client : ℕ) (call : Call) → CrashSurvives (asks client call) seen.0 (state seen.1) (state seen.1)
crash_untouched {D} laws state log disk seen view managed client call =
    subst (λ (v : State × D). CrashSurvives (asks client call) v.0 (state v.1) (state v.1)) view
    (crash_managed laws.stands laws.by_file (state disk) log managed (asks client call) (laws.before log.state.value client call managed.valid))

-- one for which memory ran out before it made any
pub crash_not_called : {D : Type 0} → CallLaws → (state : D → DiskState) (log : Log) (disk new : D) (seen : State × D) → (log.state.value, disk) ≡ seen
    → IsManaged (state disk) log → new ≡ disk → CrashSurvives (bad_line 0) seen.0 (state seen.1) (state new)
crash_not_called {D} laws state log disk new seen view managed same =
    subst (λ (d : D). CrashSurvives (bad_line 0) seen.0 (state seen.1) (state d)) (sym same)
    (crash_seen state (log.state.value, disk) seen view (bad_line 0) (state disk)
    (crash_managed laws.stands laws.by_file (state disk) log managed (bad_line 0) (laws.nothing log.state.value 0 managed.valid)))

-- one for which memory ran out while the log was to grow, by what that leaves
pub crash_not_grown : {D : Type 0} → CallLaws → (state : D → DiskState) (log : Log) (disk : D) (seen : State × D) → (log.state.value, disk) ≡ seen
    → IsManaged (state disk) log → (new : DiskState)
    → ((asked : Request) (s : State) → Survives asked s (cut log.state.value) → CrashLeavesSurvivor asked s (state disk) new)
    → CrashSurvives (bad_line 0) seen.0 (state seen.1) new
crash_not_grown {D} laws state log disk seen view managed new leaves =
    let s : State = log.state.value in
    crash_seen state (s, disk) seen view (bad_line 0) new (λ _. leaves (bad_line 0) s (laws.nothing s 0 managed.valid))

-- one that isn't refused, by what is known of the state that it leaves
pub crash_answered : {D : Type 0} → CallLaws → (state : D → DiskState) (log : Log) (disk : D) (seen : State × D) → (log.state.value, disk) ≡ seen
    → IsManaged (state disk) log → (client : ℕ) (call : Call) (t : State) (new : DiskState) → refusal log.state.value client call ≡ None
    → (answer log.state.value client call).state ≡ t
    → (Survives (asks client call) log.state.value (cut log.state.value) → Survives (asks client call) log.state.value (cut t)
    → CrashLeavesSurvivor (asks client call) log.state.value (state disk) new)
    → CrashSurvives (asks client call) seen.0 (state seen.1) new
crash_answered {D} laws state log disk seen view managed client call t new none is moments =
    let s : State = log.state.value in
    crash_seen state (s, disk) seen view (asks client call) new (λ whole. moments (laws.before s client call managed.valid)
    (after_survives laws.after s t client call managed.valid managed.storable whole none is))

-- and one that writes one copy
pub crash_written : {D : Type 0} → CallLaws → GoesTheseWays → KeepsValid → (state : D → DiskState) (log : Log) (disk : D) (seen : State × D)
    → (log.state.value, disk) ≡ seen → IsManaged (state disk) log → log.broken ≡ false → (client : ℕ) (call : Call) (t : State) (new : DiskState)
    → refusal log.state.value client call ≡ None → (answer log.state.value client call).state ≡ t
    → StoredMeanwhile (state disk) new log.state.value t log.physical → CrashSurvives (asks client call) seen.0 (state seen.1) new
crash_written {D} laws ways keeps state log disk seen view managed unbroken client call t new none is meanwhile =
    let s : State = log.state.value in
    let step = ways.answered false s client call (answer s client call).reply (answer s client call).state (managed.broken ∙ unbroken) none refl refl in
    let valid : IsValid t = subst IsValid is (keeps false s client call Fine (answer s client call).reply (answer s client call).state managed.valid step) in
    crash_answered laws state log disk seen view managed client call t new none is
    (crash_stored laws.stands laws.by_file (state disk) new s t log (managed.whole unbroken) meanwhile (valid_holds s managed.valid) (valid_holds t valid)
    (asks client call) s)

-- one that lets the log grow for sectors that an area is to hold
pub crash_reserved : {D : Type 0} → CallLaws → ReserveSurvives → (state : D → DiskState) (log : Log) (disk : D) (seen : State × D) → (log.state.value, disk) ≡ seen
    → IsManaged (state disk) log → log.broken ≡ false → (client number : ℕ) (area : Area) (sizes : List ℕ) (need : ℕ) (new : DiskState) → need ≡ own_sum sizes
    → refusal log.state.value client (calls.Reserve number sizes) ≡ None → area_of log.state.value client number ≡ Some area
    → ((asked : Request) (s : State) → Survives asked s (cut log.state.value) → Survives asked s (cut (grown log.state.value need)) → CrashLeavesSurvivor asked s (state disk) new)
    → CrashSurvives (asks client (calls.Reserve number sizes)) seen.0 (state seen.1) new
crash_reserved {D} laws law state log disk seen view managed unbroken client number area sizes need new is none there moments =
    let s : State = log.state.value in
    let asked : Request = asks client (calls.Reserve number sizes) in
    crash_seen state (s, disk) seen view asked new (λ whole. moments asked s (laws.before s client (calls.Reserve number sizes) managed.valid)
    (survives_as asked s (grown s need) (grown s (own_sum sizes)) (ap (λ (n : ℕ). grown s n) is)
    (growth_survives law s client number area sizes managed.valid managed.storable (managed.broken ∙ unbroken) none there)))
