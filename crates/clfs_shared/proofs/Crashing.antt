-- One call more of those while which a crash leaves what survives them.
use Rattle.std.proofs.Common.{◌≡◌, ℕ, ◌≤◌, Bool, true, false, refl, subst, ◌∙◌, inl, inr, List, [], ◌∷◌, ◌++◌, arith}
use Rattle.std.proofs.lemmas.Bool.{cases_lt}
use Rattle.clfs_disk.specs.Files.{Files}
use Rattle.clfs_disk.specs.State.{DiskState, IsHonest}
use Rattle.clfs_model.specs.declared.journal.Entry.{Entry}
use Rattle.clfs_model.specs.declared.state.State.{State}
use Rattle.clfs_model.specs.Run.{Request, asks, bad_line}
use Rattle.clfs_model.specs.Step.{Step}
use Rattle.clfs_recover.specs.Files.{AreWholeFiles}
use Rattle.clfs_manager.specs.Crashes.{CrashSurvives, HoldSurvivor}
use Rattle.clfs_shared.specs.Crashes.{Images, since, HoldsMeanwhile, StaysFlushed, MakesCall, IsLeftByEntries}

-- ---- from one moment to another

module _ (holds : Files → Type 0) (images : Images) where
  -- from one moment to another, and then to a third
  holds_longer : (from to end : ℕ) (s : State) → HoldsMeanwhile holds images from to s → HoldsMeanwhile holds images to end s
      → HoldsMeanwhile holds images from end s
  holds_longer from to end s first second = record {
    later = let a = first.later in let b = second.later in omega (arith, a, b);
    still = λ broken. second.still broken ∙ first.still broken;
    leaves = λ intact moment image after before left. elim (cases_lt to moment) [
      | inl above ↦ second.leaves intact moment image (omega (arith, above)) before left
      | inr not ↦ first.leaves intact moment image after (omega (arith, not)) left
    ];
  }

  -- what a crash left at a past moment is what it left then
  holds_past : (others : Images) (from to end : ℕ) (s : State) → to ≤ end
      → ((moment : ℕ) (image : Files) → moment ≤ end → others moment image → images moment image)
      → HoldsMeanwhile holds images from to s → HoldsMeanwhile holds others from to s
  holds_past others from to end s up past is = record {
    later = is.later;
    still = is.still;
    leaves = λ intact moment image after before left. is.leaves intact moment image after before (past moment image (omega (arith, before, up)) left);
  }

-- ---- while the calls of entries were made

-- moments rise
rises : (told whole : Bool) (images : Images) (from to : ℕ) (s t : State) (entries : List Entry) → IsLeftByEntries told whole images from to s entries t → from ≤ to
rises told whole images from to s t [] is = is.1.later
rises told whole images from to s t (entry ∷ entries) is =
    let done = is.1.1 in
    let waits = is.1.0.later in
    let makes = done.1.0.later in
    let rest = rises told whole images done.0 to done.1.1.0 t entries done.1.1.1.1 in
    omega (arith, waits, makes, rest)

left_past : (told whole : Bool) (images others : Images) (from to end : ℕ) (s t : State) (entries : List Entry) → to ≤ end
    → ((moment : ℕ) (image : Files) → moment ≤ end → others moment image → images moment image)
    → IsLeftByEntries told whole images from to s entries t → IsLeftByEntries told whole others from to s entries t
left_past told whole images others from to end s t [] up past is =
    (is.0, holds_past (HoldSurvivor whole (bad_line 0) s) images others from to end s up past is.1)
left_past told whole images others from to end s t (entry ∷ entries) up past is =
    let done = is.1.1 in
    let rest = done.1.1.1.1 in
    let up_rest = rises told whole images done.0 to done.1.1.0 t entries rest in
    let makes = done.1.0.later in (
      is.0,
      (
        holds_past (HoldSurvivor whole (bad_line 0) s) images others from is.0 end s (omega (arith, up, up_rest, makes)) past is.1.0,
        (
          done.0,
          (
            holds_past (HoldSurvivor whole (asks entry.client entry.call) s) images others is.0 done.0 end s (omega (arith, up, up_rest)) past done.1.0,
            (done.1.1.0, (done.1.1.1.0, left_past told whole images others done.0 to end done.1.1.0 t entries up past rest)),
          ),
        ),
      ),
    )

pub left_longer : (told whole : Bool) (images : Images) (from to end : ℕ) (s t : State) (entries : List Entry)
    → IsLeftByEntries told whole images from to s entries t → StaysFlushed whole images to end t → IsLeftByEntries told whole images from end s entries t
left_longer told whole images from to end s t [] is more =
    let F : State → Type 0 = λ x. StaysFlushed whole images to end x in
    (is.0, holds_longer (HoldSurvivor whole (bad_line 0) s) images from to end s is.1 (subst F is.0 more))
left_longer told whole images from to end s t (entry ∷ entries) is more =
    let done = is.1.1 in (
      is.0,
      (
        is.1.0,
        (
          done.0,
          (
            done.1.0,
            (
              done.1.1.0,
              (
                done.1.1.1.0,
                left_longer told whole images done.0 to end done.1.1.0 t entries done.1.1.1.1 more,
              ),
            ),
          ),
        ),
      ),
    )

-- an entry stands after the others, while whose call a crash left what survives it
pub left_more : (told whole : Bool) (images : Images) (from to end : ℕ) (s t u : State) (entries : List Entry) (entry : Entry)
    → IsLeftByEntries told whole images from to s entries t → MakesCall whole images to end t entry.client entry.call
    → Step told t entry.client entry.call entry.happened entry.reply u → StaysFlushed whole images end end u → IsLeftByEntries told whole images from end s (entries ++ entry ∷ []) u
left_more told whole images from to end s t u [] entry is makes step rests =
    let F : State → Type 0 = λ x. Step told x entry.client entry.call entry.happened entry.reply u in
    let G : State → Type 0 = λ x. MakesCall whole images to end x entry.client entry.call in
    (to, (is.1, (end, (subst G is.0 makes, (u, (subst F is.0 step, (refl, rests)))))))
left_more told whole images from to end s t u (first ∷ entries) entry is makes step rests =
    let done = is.1.1 in (
      is.0,
      (
        is.1.0,
        (
          done.0,
          (
            done.1.0,
            (
              done.1.1.0,
              (
                done.1.1.1.0,
                left_more told whole images done.0 to end done.1.1.0 t u entries entry done.1.1.1.1 makes step rests,
              ),
            ),
          ),
        ),
      ),
    )

-- ---- a call

-- what a call does to a disk while this is under way, as far as crashes see it
pub record Spends (asked : Request) (s : State) (old new : DiskState) : Type 0 where
  pub later : old.clock ≤ new.clock
  pub past : (moment : ℕ) (image : Files) → moment ≤ old.clock → new.image_at moment image → old.image_at moment image
  pub stopped : s.broken ≡ true → new.clock ≡ old.clock
  pub survives : CrashSurvives asked s old new

-- what a crash left before the call is what it left then
pub left_before : (told whole : Bool) (from : ℕ) (asked : Request) (first s : State) (old new : DiskState) (entries : List Entry)
    → Spends asked s old new → IsLeftByEntries told whole (since from old.image_at) from old.clock first entries s
    → IsLeftByEntries told whole (since from new.image_at) from old.clock first entries s
left_before told whole from asked first s old new entries spends is =
    left_past told whole (since from old.image_at) (since from new.image_at) from old.clock old.clock first s entries (omega arith)
    (λ moment image before left. (left.0, spends.past moment image before left.1)) is

-- while the call was made a crash left what survives
pub while_made : (whole : Bool) (from : ℕ) (asked : Request) (s : State) (old new : DiskState) → Spends asked s old new → IsHonest old
    → (s.broken ≡ false → whole ≡ true → AreWholeFiles old.files) → HoldsMeanwhile (HoldSurvivor whole asked s) (since from new.image_at) old.clock new.clock s
while_made whole from asked s old new spends honest full = record {
  later = spends.later;
  still = spends.stopped;
  leaves = λ intact moment image after before left. (spends.survives intact honest whole (full intact)).each moment image after before left.1;
}

-- at a moment at which no call is made it left the flushed part of the state
pub at_rest : (whole : Bool) (from : ℕ) (s : State) (disk : DiskState) → CrashSurvives (bad_line 0) s disk disk → IsHonest disk
    → (s.broken ≡ false → whole ≡ true → AreWholeFiles disk.files) → StaysFlushed whole (since from disk.image_at) disk.clock disk.clock s
at_rest whole from s disk survives honest full =
    while_made whole from (bad_line 0) s disk disk (record { later = omega arith; past = λ moment image before left. left; stopped = λ _. refl; survives = survives })
    honest full
