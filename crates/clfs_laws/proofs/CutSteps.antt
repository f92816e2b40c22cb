-- Opening a log again may come to its flushed part, so what is computed where nothing happens is a run.
use Rattle.clfs_laws.proofs.Words.{◌≡◌, ℕ, Bool, true, false, refl, sym, ap, subst, inr, List, [], ◌∷◌, All, MatchBool, if◌then◌else◌, AllByRecursion}
use Rattle.clfs_laws.proofs.Words.{recursion_from_All, Fine, State, flushed, cut, IsSame, Outcome, outcome, ReopenStep, Reopens, IsOpenedAnew, IsStorable}
use Rattle.clfs_laws.proofs.Words.{Request, asks, reopens, bad_line, RequestStep, Run, fine_outcome, IsValid, HasSpaceLaws, RequestMeets}
use Rattle.std.specs.List.{list_all}
use Rattle.clfs_model.specs.declared.refusal.Refusal.TheVariants as refusals
use Rattle.clfs_model.specs.declared.reply.Reply.TheVariants as replies
use Rattle.clfs_model.specs.Run.{all_fine, replies_of, state_after, is_no_reopening}
use Rattle.clfs_laws.proofs.StorableCuts.{storable_cut}
use Rattle.clfs_laws.proofs.StorableRuns.{IsKept, request_keeps}
use Rattle.clfs_laws.proofs.ValidCuts.{valid_cut, flushed_cut}

-- what reading the files again comes to may be the flushed part
cut_read : (told : Bool) (s : State) → IsValid s → MatchBool told ((flushed (cut s) ≡ flushed s) × IsSame (cut s) (cut s)) (IsOpenedAnew s (cut s))
cut_read true s valid = (flushed_cut s valid, record { hold = refl; records = refl; others = refl })
cut_read false s valid = (refl, (refl, (refl, refl)))

cut_reopens : (told : Bool) (s : State) → IsValid s → IsStorable s → Reopens told s Fine (replies.Flushed (flushed s)) (cut s)
cut_reopens told s valid storable = record {
  flushed_part = ap (λ lsn. replies.Flushed lsn) (sym (flushed_cut s valid));
  valid = valid_cut s valid;
  storable = storable_cut s valid storable;
  read = cut_read told s valid;
}

by_whole : (P Q : Type 0) (broken : Bool) → broken ≡ false → Q → MatchBool broken P Q
by_whole P Q true whole q = absurd (cc)
by_whole P Q false whole q = q

by_broken : (P Q : Type 0) (broken : Bool) → broken ≡ true → P → MatchBool broken P Q
by_broken P Q true is p = p
by_broken P Q false is p = absurd (cc)

-- so opening again comes to it
pub cut_step : (told : Bool) (s : State) → IsValid s → IsStorable s → s.broken ≡ false → ReopenStep told s Fine (replies.Flushed (flushed s)) (cut s)
unfolding ReopenStep
cut_step told s valid storable whole = by_whole _ _ s.broken whole (inr (cut_reopens told s valid storable))

broken_reopens : (told : Bool) (s : State) → s.broken ≡ true → ReopenStep told s Fine (replies.Refused refusals.Broken) s
unfolding ReopenStep
broken_reopens told s broken = by_broken _ _ s.broken broken (refl, refl)

-- what comes of opening again where nothing happens and memory suffices
reopened_by : Bool → State → Outcome
reopened_by broken s = if broken then outcome (replies.Refused refusals.Broken) s else outcome (replies.Flushed (flushed s)) (cut s)

fine_reopening : (s : State) (client : ℕ) (broken : Bool) → s.broken ≡ broken → IsValid s → IsStorable s
    → ReopenStep true s Fine (reopened_by broken s).reply (reopened_by broken s).state
unfolding reopened_by
fine_reopening s client true is valid storable = broken_reopens true s is
fine_reopening s client false is valid storable = cut_step true s valid storable is

opened_anew : (s : State) (client : ℕ) → IsValid s → IsStorable s
    → RequestStep true s (reopens client) Fine (fine_outcome s (reopens client)).reply (fine_outcome s (reopens client)).state
unfolding fine_outcome reopened_by
opened_anew s client valid storable = fine_reopening s client s.broken refl valid storable

-- the replies to lines that don't open the log again are those of a run
abbrev pub AreCalm : Type 0
AreCalm = (s : State) (requests : List Request) → list_all is_no_reopening requests ≡ true
    → Run true s requests (all_fine requests) (replies_of s requests) (state_after s requests)

-- one request
one_of : (s : State) (request : Request) → Run true s (request ∷ []) (Fine ∷ []) ((fine_outcome s request).reply ∷ []) (fine_outcome s request).state
    → RequestStep true s request Fine (fine_outcome s request).reply (fine_outcome s request).state
one_of s request run =
    let F : State → Type 0 = λ t. RequestStep true s request Fine (fine_outcome s request).reply t in subst F (sym run.1.1) run.1.0

fine_request : AreCalm → (s : State) (request : Request) → IsValid s → IsStorable s
    → RequestStep true s request Fine (fine_outcome s request).reply (fine_outcome s request).state
fine_request calm s (asks client call) valid storable = one_of s (asks client call) (calm s (asks client call ∷ []) refl)
fine_request calm s (reopens client) valid storable = opened_anew s client valid storable
fine_request calm s (bad_line at) valid storable = one_of s (bad_line at) (calm s (bad_line at ∷ []) refl)

fine_through : HasSpaceLaws → AreCalm → (s : State) (requests : List Request) → IsKept s → AllByRecursion RequestMeets requests
    → Run true s requests (all_fine requests) (replies_of s requests) (state_after s requests)
fine_through space calm s [] kept meets = refl
fine_through space calm s (request ∷ requests) kept meets =
    let first = fine_request calm s request kept.valid kept.storable in
    let t : State = (fine_outcome s request).state in
    (t, (first, fine_through space calm t requests (request_keeps space true s request Fine (fine_outcome s request).reply t first meets.0 kept) meets.1))

-- a list of requests
pub fine_run : HasSpaceLaws → AreCalm → (s : State) (requests : List Request) → IsValid s → IsStorable s → All RequestMeets requests
    → Run true s requests (all_fine requests) (replies_of s requests) (state_after s requests)
fine_run space calm s requests valid storable meets =
    fine_through space calm s requests (record { valid = valid; storable = storable }) (recursion_from_All RequestMeets requests meets)
