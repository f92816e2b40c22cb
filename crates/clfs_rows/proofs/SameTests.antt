-- Tests that decide whether two states are the same but for what no reply can show, and what opening again comes to.
use Rattle.clfs_rows.proofs.Words.{◌≡◌, ◌⊎◌, ℕ, Bool, true, false, ap, MatchBool, container_of, Fine, State, flushed, cut, IsOutOfMemory, IsBroken}
use Rattle.clfs_rows.proofs.Words.{ReopenStep, IsStorable, IsValid}
use Rattle.std.proofs.Common.{[]}
use Rattle.clfs_model.specs.declared.reply.Reply.TheVariants as replies
use Rattle.clfs_model.specs.Live.{hold}
use Rattle.clfs_model.specs.Flush.{needed_records, IsSame}
use Rattle.clfs_model.specs.Step.{is_pending, IsOpenedAnew, IsReopened}
use Rattle.clfs_rows.proofs.Decisions.{Decision, like, never, both, either, equal, alike, same_lists}
use Rattle.clfs_rows.proofs.SameStates.{same_entry, same_area, same_state}
use Rattle.clfs_rows.proofs.StorableTests.{is_storable}
use Rattle.clfs_rows.proofs.ValidTests.{is_valid}

abbrev IsSameParts : State → State → Type 0
IsSameParts s t = (container_of (hold s) ≡ container_of (hold t)) × ((needed_records s ≡ needed_records t) × (t ≡ record s { records = t.records }))

pub is_same_of_parts : (s : State) (t : State) → IsSameParts s t → IsSame s t
is_same_of_parts s t p = record {
  hold = p.0;
  records = p.1.0;
  others = p.1.1;
}

pub parts_of_is_same : (s : State) (t : State) → IsSame s t → IsSameParts s t
parts_of_is_same s t h = (h.hold, (h.records, h.others))

abbrev pub is_same : (s : State) (t : State) → Decision (IsSame s t)
is_same s t = like (is_same_of_parts s t) (parts_of_is_same s t)
    (both (equal (container_of (hold s)) (container_of (hold t)))
    (both (same_lists same_entry (needed_records s) (needed_records t))
    (same_state t (record s { records = t.records }))))

pub same_flushed : (a b : ℕ) → replies.Flushed a ≡ replies.Flushed b → a ≡ b
same_flushed a b e = cc

abbrev is_flushed : (a b : ℕ) → Decision (replies.Flushed a ≡ replies.Flushed b)
is_flushed a b = like (λ e. ap replies.Flushed e) (same_flushed a b) (equal a b)

abbrev pub matches : {P Q : Type 0} → (b : Bool) → Decision P → Decision Q → Decision (MatchBool b P Q)
matches true p q = p
matches false p q = q

abbrev is_opened_anew : (s t : State) → Decision (IsOpenedAnew s t)
is_opened_anew s t = both (same_lists same_area t.areas []) (both (alike (is_pending t) false) (both (equal t.buffers s.buffers) (alike t.broken false)))

abbrev ReopenedParts : Bool → State → ℕ → State → Type 0
ReopenedParts told s lsn t = (replies.Flushed lsn ≡ replies.Flushed (flushed t)) × (IsValid t × (IsStorable t
    × MatchBool told ((flushed t ≡ flushed s) × IsSame (cut s) t) (IsOpenedAnew s t)))

pub reopened_of_parts : (told : Bool) (s : State) (lsn : ℕ) (t : State) → ReopenedParts told s lsn t → IsReopened told s (replies.Flushed lsn) t
reopened_of_parts told s lsn t p = record { flushed_part = p.0; valid = p.1.0; storable = p.1.1.0; read = p.1.1.1 }

pub parts_of_reopened : (told : Bool) (s : State) (lsn : ℕ) (t : State) → IsReopened told s (replies.Flushed lsn) t → ReopenedParts told s lsn t
parts_of_reopened told s lsn t h = (h.flushed_part, (h.valid, (h.storable, h.read)))

abbrev pub is_reopened : (told : Bool) (s : State) (lsn : ℕ) (t : State) → Decision (IsReopened told s (replies.Flushed lsn) t)
is_reopened told s lsn t = like (reopened_of_parts told s lsn t) (parts_of_reopened told s lsn t)
    (both (is_flushed lsn (flushed t)) (both (is_valid t) (both (is_storable t)
    (matches told (both (equal (flushed t) (flushed s)) (is_same (cut s) t)) (is_opened_anew s t)))))

pub flushed_is_no_refusal : (lsn : ℕ) (s t : State) → IsBroken s (replies.Flushed lsn) t → ⊥
flushed_is_no_refusal lsn s t refused = let e = refused.0 in absurd (cc)

pub flushed_is_no_want : (lsn : ℕ) (s t : State) → IsOutOfMemory s (replies.Flushed lsn) t → ⊥
flushed_is_no_want lsn s t refused = let e = refused.0 in absurd (cc)

abbrev no_refusal : (lsn : ℕ) (s t : State) → Decision (IsBroken s (replies.Flushed lsn) t)
no_refusal lsn s t = like (λ bad. absurd bad) (flushed_is_no_refusal lsn s t) never

abbrev no_want : (lsn : ℕ) (s t : State) → Decision (IsOutOfMemory s (replies.Flushed lsn) t)
no_want lsn s t = like (λ bad. absurd bad) (flushed_is_no_want lsn s t) never

abbrev Cases : Bool → State → ℕ → State → Type 0
Cases told s lsn t = MatchBool s.broken (IsBroken s (replies.Flushed lsn) t)
    (IsOutOfMemory s (replies.Flushed lsn) t ⊎ IsReopened told s (replies.Flushed lsn) t)

pub step_of_cases : (told : Bool) (s : State) (lsn : ℕ) (t : State) → Cases told s lsn t → ReopenStep told s Fine (replies.Flushed lsn) t
unfolding ReopenStep
step_of_cases told s lsn t cases = cases

pub cases_of_step : (told : Bool) (s : State) (lsn : ℕ) (t : State) → ReopenStep told s Fine (replies.Flushed lsn) t → Cases told s lsn t
unfolding ReopenStep
cases_of_step told s lsn t step = step

-- opening again that is answered with an LSN, where nothing else happens
abbrev pub reopens_up_to : (told : Bool) (s : State) (lsn : ℕ) (t : State) → Decision (ReopenStep told s Fine (replies.Flushed lsn) t)
reopens_up_to told s lsn t = like (step_of_cases told s lsn t) (cases_of_step told s lsn t)
    (matches s.broken (no_refusal lsn s t) (either (no_want lsn s t) (is_reopened told s lsn t)))
