-- The lines that a log answered which was loaded from a disk, as what serving says of that disk.
use Rattle.std.proofs.Common.{◌≡◌, ⊎_elim, ℕ, ◌<◌, ◌≤◌, Bool, true, false, refl, sym, ap, subst, ◌∙◌, List, arith}
use Rattle.std.specs.Prelude.{IsTrue, map}
use Rattle.std.proofs.lemmas.Bool.{cases_lt}
use Rattle.clfs_disk.specs.Files.{Files, Unchanged}
use Rattle.clfs_disk.specs.State.{DiskState, Nature, TellsContents, IsHonest, Leaves, MayLeave, Passes}
use Rattle.clfs_model.specs.declared.reply.Reply.{Reply}
use Rattle.clfs_model.specs.declared.state.State.{State}
use Rattle.clfs_model.specs.Happened.{happened_of}
use Rattle.clfs_model.specs.Run.{Request, Run, bad_line}
use Rattle.clfs_recover.specs.Files.{AreWholeFiles}
use Rattle.clfs_manager.specs.Crashes.{HoldSurvivor}
use Rattle.clfs_operations.specs.Answered.{requests_of, AnswersAll, AnswersLines, AnswersInPart, IsAnswered, IsAnsweredInPart, RepliesTellPlaces}
use Rattle.clfs_operations.specs.Crashed.{IsLeftByRun, nothing_asked}
use Rattle.clfs_operations.specs.Loaded.{IsLoaded, IsKeptOn}
use Rattle.clfs_operations.specs.Told.{has_fault}
use Rattle.clfs_operations.proofs.SoFar.{later_then}
use Rattle.clfs_operations.proofs.OnlyRead.{unchanged_later, whole_same}

-- until the log is open a crash leaves what it would have left at first
pub left_before : (old mid : DiskState) → Passes Unchanged old mid → (moment : ℕ) (image : Files) → old.clock ≤ moment → moment < mid.clock → mid.image_at moment image
    → (left : Files) × (MayLeave old left × Unchanged left image)
left_before old mid time moment image after until is = ⊎_elim
    (λ (later : old.clock < moment). let found = time.images moment image later (omega (arith, until)) is in (found.0, (found.1, found.2)))
    (λ (first : moment ≤ old.clock).
    let now : moment ≡ old.clock = omega (arith, first, after) in
    (image, (subst (λ (m : ℕ). old.image_at m image) now (time.past moment image first is), λ file. refl)))
    (cases_lt old.clock moment)

module _ (buffers : ℕ) (old mid new : DiskState) (s t : State) (loaded : IsLoaded buffers old mid s) (kept : IsKeptOn t new) where
  whole_at_first : s.broken ≡ false
  whole_at_first = sym (ap (λ (u : State). u.broken) loaded.stable)

  tells_mid : TellsContents old → TellsContents mid
  tells_mid told = subst (λ (n : Nature). IsTrue n.tells_contents) (sym loaded.time.nature) told

  all_from : (requests : List Request) (answers : List Reply) → AnswersAll s mid requests answers t new → AnswersAll s old requests answers t new
  all_from requests answers all = record {
    run = subst (λ (n : Nature). Run n.tells_contents s requests (map happened_of answers) answers t) loaded.time.nature all.run;
    time = later_then old mid new (unchanged_later old mid loaded.time) all.time;
    cause = λ some. let rose = all.cause some in omega (arith, rose, loaded.time.faults);
    damage = λ told. all.damage (tells_mid told);
    places = subst (λ (n : Nature). RepliesTellPlaces n.tells_contents s requests answers t) loaded.time.nature all.places;
    unbroken = λ told. all.unbroken (tells_mid told);
    whole = λ told none are. all.whole (tells_mid told) none (whole_same old.files mid.files loaded.same are);
    faultless = all.faultless;
    steady = λ steady told are. all.steady (subst (λ (n : Nature). IsTrue n.steady) (sym loaded.time.nature) steady) (tells_mid told)
        (whole_same old.files mid.files loaded.same are);
  }

  -- what the disk is it was
  nature_is : (answers : List Reply) (requests : List Request) → AnswersAll s mid requests answers t new → new.nature ≡ old.nature
  nature_is answers requests all = all.time.nature ∙ loaded.time.nature

  pub is_answered : (lines : List (List ℕ)) (text : List ℕ) → AnswersLines s mid t new lines text → IsAnswered buffers old new lines text
  is_answered lines text given = record {
    first = s;
    last = t;
    answers = given.answers;
    stands = loaded.stands;
    buffers_are = loaded.buffers_are;
    valid = loaded.valid;
    storable = loaded.storable;
    stable = loaded.stable;
    begins = whole_at_first;
    answered = all_from (requests_of lines) given.answers given.answered;
    is = given.is;
    files = λ told none. kept.files (unbroken told none) (subst (λ (n : Nature). IsTrue n.tells_contents) (sym nature) told);
    settled = λ honest none. kept.settled (unbroken honest.0 none) (subst (λ (n : Nature). IsTrue n.tells_contents × IsTrue n.tells_images) (sym nature) honest);
    crash = λ honest. record {
      from = mid.clock;
      later = loaded.time.later;
      before = λ moment image after until is. left_before old mid loaded.time moment image after until (given.answered.time.past moment image (omega (arith, until)) is);
      opened = λ whole full moment image after until is.
          (at_first honest whole full).each moment image after until (given.answered.time.past moment image until is);
      answered = λ whole full. subst (λ (n : Nature). IsLeftByRun n.tells_contents whole new.image_at mid.clock new.clock (nothing_asked s) s (requests_of lines) given.answers t)
          loaded.time.nature (given.crash whole_at_first (honest_mid honest) whole (whole_mid whole full) (at_first honest whole full).each);
    };
  }
    where
      honest_mid : IsHonest old → IsHonest mid
      honest_mid honest = subst (λ (n : Nature). IsTrue n.tells_contents × IsTrue n.tells_images) (sym loaded.time.nature) honest

      whole_mid : (whole : Bool) → (whole ≡ true → AreWholeFiles old.files) → whole ≡ true → AreWholeFiles mid.files
      whole_mid whole full is = whole_same old.files mid.files loaded.same (full is)

      at_first : IsHonest old → (whole : Bool) → (whole ≡ true → AreWholeFiles old.files) → Leaves (HoldSurvivor whole (bad_line 0) s) mid mid
      at_first honest whole full = loaded.left whole_at_first (honest_mid honest) whole (whole_mid whole full)

      nature : new.nature ≡ old.nature
      nature = nature_is given.answers (requests_of lines) given.answered

      unbroken : TellsContents old → has_fault given.answers ≡ false → t.broken ≡ false
      unbroken told none = (given.answered.unbroken (tells_mid told) whole_at_first none).0

  -- the same of replies that were written in part
  pub is_answered_in_part : (torn : Bool) (lines : List (List ℕ)) (text : List ℕ) → AnswersInPart s mid t new torn lines text
      → IsAnsweredInPart buffers old new torn lines text
  unfolding is_answered
  is_answered_in_part torn lines text given = record { output = given.output; answered = is_answered lines given.output given.answered; front = given.front }
