-- What the files of a manager's log stand for: the flushed part of its state.
use Rattle.clfs_manager.proofs.Words.{◌≡◌, ◌≤◌, Bool, true, false, refl, sym, ap, subst, ◌∙◌, inl, inr, List, [], map, arith, ◌⊎◌, slice_index, MatchBool}
use Rattle.clfs_manager.proofs.Words.{container_of, LogEntry, Files, BaseImage, Happened, Fine, Reply, State, flushed, cut, IsSame, hold, ReopenStep}
use Rattle.clfs_manager.proofs.Words.{IsOutOfMemory, IsBroken, IsStorable, IsValid, Newest, Blocks, Stores, StandsFor, StandByBlocks, HaveByFile, IsStored}
use Rattle.clfs_manager.proofs.Words.{HoldsFlushed}
use Rattle.clfs_model.specs.declared.refusal.Refusal.TheVariants as refusals
use Rattle.clfs_model.specs.declared.reply.Reply.TheVariants as replies
use Rattle.clfs_model.specs.Step.{Reopens, IsOpenedAnew}
use Rattle.clfs_manager.proofs.Reached.{hold_below_live}
use Rattle.clfs_manager.proofs.SameCut.{same_from}

-- ---- the laws

-- opening again may come to the flushed part
abbrev pub ComesToCut : Type 0
ComesToCut = (told : Bool) (s : State) → IsValid s → IsStorable s → s.broken ≡ false → ReopenStep told s Fine (replies.Flushed (flushed s)) (cut s)

-- where the log is opened again the hold's container doesn't fall
abbrev pub HoldStays : Type 0
HoldStays = (s : State) (happened : Happened) (reply : Reply) (t : State) → IsValid s → ReopenStep true s happened reply t → container_of (hold s) ≤ container_of (hold t)

-- files stand for one state
abbrev pub StandForOne : Type 0
StandForOne = (files : Files) (s t : State) → StandsFor files s → StandsFor files t → s.buffers ≡ t.buffers → s ≡ t

-- ---- the files

-- whose copy lists no container above the hold's of the flushed part
pub files_have : StandByBlocks → HaveByFile → (s : State) (newest : Newest) (blocks : Blocks) (files : Files)
    → container_of (hold s) ≤ container_of (hold (cut s)) → IsStored s newest blocks → Stores false newest blocks files → HoldsFlushed files s
files_have stands by_file s newest blocks files held stored stores =
    let image : BaseImage = newest.image in
    record {
      opened = record (cut s) { records = stored.entries };
      stands = subst (StandsFor files) stored.state (stands newest.slot image (map blocks image.files) stored.entries files s.buffers
          (by_file newest.slot image blocks files stores.newest (λ i within. stores.holds.opens (slice_index image.files i) (record { place = i; within = within; is = refl })))
          stored.log);
      same = subst (λ (entries : List LogEntry). IsSame (cut s) (record (cut s) { records = entries })) (sym stored.records)
          (same_from hold_below_live (cut s) image.first (omega (arith, stored.needed, held)));
    }

pub files_hold : StandByBlocks → HaveByFile → ComesToCut → HoldStays → (s : State) (newest : Newest) (blocks : Blocks) (files : Files) → IsValid s → IsStorable s
    → s.broken ≡ false → IsStored s newest blocks → Stores false newest blocks files → HoldsFlushed files s
files_hold stands by_file comes stays s newest blocks files valid storable whole stored stores =
    files_have stands by_file s newest blocks files (stays s Fine (replies.Flushed (flushed s)) (cut s) valid (comes true s valid storable whole)) stored stores

-- ---- opening again

-- the case of a log that isn't broken
unbroken_case : (broken : Bool) (P Q : Type 0) → broken ≡ false → MatchBool broken P Q → Q
unbroken_case true P Q e is = absurd (cc e)
unbroken_case false P Q e is = is

pub to_unbroken : (broken : Bool) (P Q : Type 0) → broken ≡ false → Q → MatchBool broken P Q
to_unbroken true P Q e is = absurd (cc e)
to_unbroken false P Q e is = is

-- opening again where the log isn't broken
pub reopens : (told : Bool) (s : State) (happened : Happened) (reply : Reply) (t : State) → s.broken ≡ false
    → (IsOutOfMemory s reply t ⊎ Reopens told s happened reply t) → ReopenStep told s happened reply t
unfolding ReopenStep
reopens told s happened reply t whole is = to_unbroken s.broken _ _ whole is

pub reopens_broken : (told : Bool) (s : State) (happened : Happened) → s.broken ≡ true → ReopenStep told s happened (replies.Refused refusals.Broken) s
unfolding ReopenStep
reopens_broken told s happened broken = by_broken s.broken broken
  where
    by_broken : (b : Bool) → b ≡ true → MatchBool b (IsBroken s (replies.Refused refusals.Broken) s) (IsOutOfMemory s (replies.Refused refusals.Broken) s ⊎ Reopens told s happened (replies.Refused refusals.Broken) s)
    by_broken true e = (refl, refl)
    by_broken false e = absurd (cc e)

-- the flushed part is flushed up to where the log was
flushed_cut : ComesToCut → (s : State) → IsValid s → IsStorable s → s.broken ≡ false → flushed (cut s) ≡ flushed s
unfolding ReopenStep
flushed_cut comes s valid storable whole = by_ways (unbroken_case s.broken _ _ whole (comes true s valid storable whole))
  where
    by_ways : (IsOutOfMemory s (replies.Flushed (flushed s)) (cut s) ⊎ Reopens true s Fine (replies.Flushed (flushed s)) (cut s)) → flushed (cut s) ≡ flushed s
    by_ways (inl memory) = absurd (cc memory.0)
    by_ways (inr is) = is.read.0

-- a log that is its own flushed part has just been opened
opened_anew : (s t : State) → cut t ≡ t → t.buffers ≡ s.buffers → IsOpenedAnew s t
opened_anew s t stable buffers =
    let waiting : [] ≡ t.waiting = ap (λ (u : State). u.waiting) stable in
    let records : 0 ≡ t.place.records = ap (λ (u : State). u.place.records) stable in
    (sym (ap (λ (u : State). u.areas) stable), (rw (← waiting) (rw (← records) refl), (buffers, sym (ap (λ (u : State). u.broken) stable))))

-- what reading the files came to
opened_read : (told : Bool) (s t : State) → (told ≡ true → (flushed t ≡ flushed s) × IsSame (cut s) t) → IsOpenedAnew s t
    → MatchBool told ((flushed t ≡ flushed s) × IsSame (cut s) t) (IsOpenedAnew s t)
opened_read true s t exact anew = exact refl
opened_read false s t exact anew = anew

pub reopened : ComesToCut → StandForOne → (told : Bool) (s t : State) (files : Files) → IsValid s → IsStorable s → s.broken ≡ false → IsValid t → IsStorable t → cut t ≡ t
    → t.buffers ≡ s.buffers → (told ≡ true → HoldsFlushed files s) → (told ≡ true → StandsFor files t) → ReopenStep told s Fine (replies.Flushed (flushed t)) t
reopened comes one told s t files valid storable whole valid_t storable_t stable buffers holds stands =
    reopens told s Fine (replies.Flushed (flushed t)) t whole (inr (record {
      flushed_part = refl;
      valid = valid_t;
      storable = storable_t;
      read = opened_read told s t exact (opened_anew s t stable buffers);
    }))
  where
    exact : told ≡ true → (flushed t ≡ flushed s) × IsSame (cut s) t
    exact tells =
        let held = holds tells in
        let same : held.opened ≡ t = one files held.opened t held.stands (stands tells) (ap (λ (u : State). u.buffers) held.same.others ∙ sym buffers) in
        let is : IsSame (cut s) t = subst (IsSame (cut s)) same held.same in
        (ap flushed is.others ∙ flushed_cut comes s valid storable whole, is)
