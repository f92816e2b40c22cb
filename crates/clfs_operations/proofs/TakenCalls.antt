-- The calls that a log took which was loaded from a disk, as what a race says of that disk.
use Rattle.std.proofs.Common.{◌≡◌, ℕ, Bool, true, false, refl, sym, ap, subst, ◌∙◌, List, [], ◌∷◌, arith}
use Rattle.std.specs.Prelude.{◌≢◌, ◌||◌, ◌&&◌, IsTrue, All}
use Rattle.std.specs.List.{AllByRecursion}
use Rattle.std.proofs.lemmas.List.Elements.{All-head, All-tail, All-from_recursion}
use Rattle.clfs_disk.specs.Files.{Files}
use Rattle.clfs_disk.specs.State.{DiskState, Nature, TellsContents, IsHonest, Later, Leaves, Rises}
use Rattle.clfs_model.specs.declared.journal.Entry.{Entry}
use Rattle.clfs_model.specs.declared.refusal.Refusal.TheVariants as refusals
use Rattle.clfs_model.specs.declared.reply.Happened.{Happened}
use Rattle.clfs_model.specs.declared.reply.Happened.TheVariants.{Fine, Fault, Damage}
use Rattle.clfs_model.specs.declared.reply.Reply.{Reply}
use Rattle.clfs_model.specs.declared.reply.Reply.TheVariants as replies
use Rattle.clfs_model.specs.declared.state.State.{State}
use Rattle.clfs_model.specs.Journals.{GoesOn, IsLegal}
use Rattle.clfs_model.specs.Run.{bad_line}
use Rattle.clfs_recover.specs.Files.{AreWholeFiles}
use Rattle.clfs_recover.specs.Whole.{are_whole}
use Rattle.clfs_manager.specs.Crashes.{HoldSurvivor}
use Rattle.clfs_shared.specs.Crashes.{IsLeftByEntries, since}
use Rattle.clfs_shared.specs.Journal.{is_fault, is_damage, has_fault, has_damage, EntriesTellPlaces}
use Rattle.clfs_shared.specs.Reached.{opening_of, IsReached}
use Rattle.clfs_operations.specs.Raced.{HasTaken, is_any_broken}
use Rattle.clfs_operations.specs.Told.{tells_broken}
use Rattle.clfs_operations.specs.Crashed.{IsLeftByJournal}
use Rattle.clfs_operations.specs.Loaded.{IsLoaded, IsKeptOn, IsTakenFrom}
use Rattle.clfs_operations.proofs.Loaded.{left_before}
use Rattle.clfs_operations.proofs.OnlyRead.{whole_same}

-- what laws say of journals without a fault, and of files at full length
pub record JournalLaws : Type 0 where
  pub part : (told : Bool) (before : List Entry) (s t : State) (entries : List Entry) → s.broken ≡ false → GoesOn told before s entries t
      → All (λ (entry : Entry). entry.happened ≡ Fine) entries
      → (t.broken ≡ false) × All (λ (entry : Entry). entry.reply ≢ replies.Refused refusals.Broken) entries
  pub passes : (files : Files) → AreWholeFiles files → are_whole files ≡ true
  pub tells : (files : Files) → are_whole files ≡ true → AreWholeFiles files

pub or_parts : (a b : Bool) → (a || b) ≡ false → (a ≡ false) × (b ≡ false)
or_parts true b e = absurd (cc e)
or_parts false b e = (refl, e)

pub all_three : (a b c : Bool) → a ≡ true → b ≡ true → c ≡ true → (a && b && c) ≡ true
all_three a b c p q r = rw (p, q, r) refl

pub fine_by : (happened : Happened) → is_fault happened ≡ false → is_damage happened ≡ false → happened ≡ Fine
fine_by Fine no_fault no_damage = refl
fine_by Fault no_fault no_damage = absurd (cc no_fault)
fine_by Damage no_fault no_damage = absurd (cc no_damage)

all_fine : (entries : List Entry) → has_fault entries ≡ false → has_damage entries ≡ false → AllByRecursion (λ (entry : Entry). entry.happened ≡ Fine) entries
all_fine [] no_fault no_damage = tt
all_fine (entry ∷ entries) no_fault no_damage =
    let faults = or_parts (is_fault entry.happened) (has_fault entries) no_fault in
    let damages = or_parts (is_damage entry.happened) (has_damage entries) no_damage in
    (fine_by entry.happened faults.0 damages.0, all_fine entries faults.1 damages.1)

not_broken : (reply : Reply) → reply ≢ replies.Refused refusals.Broken → tells_broken reply ≡ false
not_broken (replies.Refused refusals.Broken) other = absurd (other refl)
not_broken (replies.Refused refusal) other = refl
not_broken reply other = refl

pub none_broken : (entries : List Entry) → All (λ (entry : Entry). entry.reply ≢ replies.Refused refusals.Broken) entries → is_any_broken entries ≡ false
none_broken [] all = refl
none_broken (entry ∷ entries) all =
    let first : tells_broken entry.reply ≡ false = not_broken entry.reply (All-head (λ (e : Entry). e.reply ≢ replies.Refused refusals.Broken) entry entries all) in
    let rest = none_broken entries (All-tail (λ (e : Entry). e.reply ≢ replies.Refused refusals.Broken) entry entries all) in
    rw (first, rest) refl

module _ (buffers : ℕ) (old mid new : DiskState) (s t : State) (loaded : IsLoaded buffers old mid s) (kept : IsKeptOn t new) (laws : JournalLaws)
    (journal : List Entry) (later : Later mid new) (reached : IsReached (opening_of s mid) new t journal) where
  pub whole_at_first : s.broken ≡ false
  whole_at_first = sym (ap (λ (u : State). u.broken) loaded.stable)

  pub tells_mid : TellsContents old → TellsContents mid
  tells_mid told = subst (λ (n : Nature). IsTrue n.tells_contents) (sym loaded.time.nature) told

  pub tells_new : TellsContents old → TellsContents new
  tells_new told = reached.contents ∙ tells_mid told

  pub honest_new : IsHonest old → IsHonest new
  honest_new honest = (tells_new honest.0, reached.images ∙ subst (λ (n : Nature). IsTrue n.tells_images) (sym loaded.time.nature) honest.1)

  pub unbroken : TellsContents old → has_fault journal ≡ false
      → (t.broken ≡ false) × All (λ (entry : Entry). entry.reply ≢ replies.Refused refusals.Broken) journal
  unbroken told none =
      laws.part mid.nature.tells_contents [] s t journal whole_at_first reached.legal
      (All-from_recursion (λ (e : Entry). e.happened ≡ Fine) journal (all_fine journal none (reached.damage (tells_mid told))))

  honest_mid : IsHonest old → IsHonest mid
  honest_mid honest = subst (λ (n : Nature). IsTrue n.tells_contents × IsTrue n.tells_images) (sym loaded.time.nature) honest

  at_first : IsHonest old → (whole : Bool) → (whole ≡ true → AreWholeFiles old.files) → Leaves (HoldSurvivor whole (bad_line 0) s) mid mid
  at_first honest whole full = loaded.left whole_at_first (honest_mid honest) whole (λ is. whole_same old.files mid.files loaded.same (full is))

  pub left_by_journal : IsHonest old → IsLeftByJournal old new s journal t
  left_by_journal honest = record {
    from = mid.clock;
    later = loaded.time.later;
    before = λ moment image after until is. left_before old mid loaded.time moment image after until (later.past moment image (omega (arith, until)) is);
    opened = λ whole full moment image after until is. (at_first honest whole full).each moment image after until (later.past moment image until is);
    taken = λ whole full. subst (λ (n : Nature). IsLeftByEntries n.tells_contents whole (since mid.clock new.image_at) mid.clock new.clock s journal t) loaded.time.nature
        (reached.crash (tells_mid honest.0)
        (subst (λ (n : Nature). IsTrue n.tells_images) (sym loaded.time.nature) honest.1) whole
        (λ is. laws.passes mid.files (whole_same old.files mid.files loaded.same (full is))));
  }

  unfoldable pub has_taken : HasTaken buffers old new journal
  has_taken = record {
    first = s;
    last = t;
    stands = loaded.stands;
    buffers_are = loaded.buffers_are;
    valid = loaded.valid;
    storable = loaded.storable;
    stable = loaded.stable;
    begins = whole_at_first;
    legal = subst (λ (n : Nature). IsLegal n.tells_contents journal s t) loaded.time.nature reached.legal;
    cause = λ some. let rose = reached.fault some in omega (arith, rose, loaded.time.faults);
    damage = λ told. reached.damage (tells_mid told);
    places = subst (λ (n : Nature). EntriesTellPlaces n.tells_contents s journal t) loaded.time.nature reached.places;
    unbroken = λ told none. none_broken journal (unbroken told none).1;
    whole = λ told none are. laws.tells new.files
        (reached.whole (tells_mid told) (laws.passes mid.files (whole_same old.files mid.files loaded.same are)) (unbroken told none).0);
    steady = λ steady told are. reached.calm
        (all_three mid.nature.steady mid.nature.tells_contents (are_whole mid.files)
        (subst (λ (n : Nature). IsTrue n.steady) (sym loaded.time.nature) steady) (tells_mid told)
        (laws.passes mid.files (whole_same old.files mid.files loaded.same are)));
    files = λ told none. kept.files (unbroken told none).0 (tells_new told);
    settled = λ honest none. kept.settled (unbroken honest.0 none).0 (honest_new honest);
    crash = left_by_journal;
  }

  -- a log that tells what its files hold was broken by a fault
  faulted : t.broken ≡ true → TellsContents old → Rises old.faults new.faults
  faulted broken told = by_fault (has_fault journal) refl
    where
      by_fault : (some : Bool) → has_fault journal ≡ some → Rises old.faults new.faults
      by_fault true is = let rose = reached.fault is in omega (arith, rose, loaded.time.faults)
      by_fault false is = let fine = (unbroken told is).0 in let never : true ≡ false = sym broken ∙ fine in cc never

  pub taken_from : IsTakenFrom buffers old new s t journal
  unfolding has_taken
  taken_from = record {
    taken = has_taken;
    first = refl;
    last = refl;
    contents = tells_new;
    honest = honest_new;
    cause = faulted;
  }
