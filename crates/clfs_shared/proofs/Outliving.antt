-- Records that were on the disk outlive crashes: each survivor has them, and so has a log that is the same to every reply, where they are live.
use Rattle.std.proofs.Common.{◌≡◌, ℕ, zero, suc, ◌<◌, ◌≤◌, Bool, true, false, refl, sym, ap, subst, ◌∙◌, inl, inr, List, [], ◌∷◌, ◌++◌, arith}
use Rattle.std.specs.Option.{option_map_or}
use Rattle.std.specs.Prelude.{◌&&◌, ◌==◌, nat_le, nat_lt, if◌then◌else◌, filter, Option, Some, None, All, Contains}
use Rattle.std.proofs.lemmas.Bool.{cases_Bool, cases_lt}
use Rattle.std.proofs.lemmas.Bool.Decides.{nat_tests}
use Rattle.std.proofs.lemmas.List.Elements.{Contains-append_left}
use Rattle.clfs_disk.specs.Files.{Files}
use Rattle.clfs_lsn.specs.Place.{frontier}
use Rattle.clfs_lsn.specs.declared.entry.LogEntry.{LogEntry}
use Rattle.clfs_model.specs.declared.call.Call.{Call}
use Rattle.clfs_model.specs.declared.journal.Entry.{Entry}
use Rattle.clfs_model.specs.declared.refusal.Refusal.{Refusal}
use Rattle.clfs_model.specs.declared.reply.Happened.{Happened}
use Rattle.clfs_model.specs.declared.reply.Happened.TheVariants.{Fine}
use Rattle.clfs_model.specs.declared.reply.Reply.{Reply}
use Rattle.clfs_model.specs.declared.reply.Reply.TheVariants as replies
use Rattle.clfs_model.specs.declared.refusal.Refusal.TheVariants as refusals
use Rattle.clfs_model.specs.declared.state.State.{State}
use Rattle.clfs_model.specs.Answers.{answer, outcome}
use Rattle.clfs_model.specs.Flush.{IsSame, flushed}
use Rattle.clfs_model.specs.Live.{is_live, live}
use Rattle.clfs_model.specs.Refusals.{refusal}
use Rattle.clfs_model.specs.Run.{Request, asks, bad_line, fine_outcome}
use Rattle.clfs_model.specs.State.{base_of}
use Rattle.clfs_model.specs.Step.{Step, IsBroken}
use Rattle.clfs_model.specs.Survivors.{IsSurvivor, Survives}
use Rattle.clfs_model.specs.Valid.{IsValid}
use Rattle.clfs_model.specs.Ways.{GoesTheseWays}
use Rattle.clfs_manager.specs.Crashes.{HoldSurvivor}
use Rattle.clfs_shared.specs.Crashes.{HoldsMeanwhile, Images, IsLeftByEntries, KeepFlushed, PartsAt}

-- the laws of the log machine that are cited
pub record KeepLaws : Type 0 where
  pub ways : GoesTheseWays
  pub valid : (told : Bool) (s : State) (client : ℕ) (call : Call) (happened : Happened) (reply : Reply) (t : State)
      → IsValid s → Step told s client call happened reply t → IsValid t
  pub adds : (told : Bool) (s : State) (client : ℕ) (call : Call) (happened : Happened) (reply : Reply) (t : State)
      → IsValid s → Step told s client call happened reply t
      → (more : List LogEntry) × (t.records ≡ s.records ++ more) × All (λ (entry : LogEntry). frontier s.place ≤ entry.lsn) more
  pub rises : (told : Bool) (s : State) (client : ℕ) (call : Call) (happened : Happened) (reply : Reply) (t : State)
      → IsValid s → Step told s client call happened reply t → flushed s ≤ flushed t
  pub stays : (told : Bool) (s : State) (client : ℕ) (call : Call) (happened : Happened) (reply : Reply) (t : State)
      → s.broken ≡ true → Step told s client call happened reply t → IsBroken s reply t
  pub bases : (s u : State) (stream : ℕ) → IsSame s u → base_of s stream ≡ base_of u stream
  pub live : (s u : State) (stream : ℕ) → IsSame s u → live s stream ≡ live u stream

-- ---- lists

there : {X : Type 0} (x y : X) (xs : List X) → Contains xs y → Contains (x ∷ xs) y
there x y xs is = (suc is.0, omega (arith, is.1), is.2)

contains_passing : {X : Type 0} (p : X → Bool) (xs : List X) (x : X) → p x ≡ true → Contains xs x → Contains (filter p xs) x
contains_passing p [] x passes is = absurd (omega (arith, is.1))
contains_passing p (y ∷ xs) x passes (zero, within, same) =
    let first : p y ≡ true = ap p same ∙ passes in rw first (zero, omega arith, same)
contains_passing p (y ∷ xs) x passes (suc k, within, same) =
    let rest = contains_passing p xs x passes (k, omega (arith, within), same) in
    elim (cases_Bool (p y)) [
      | inl kept ↦ rw kept (there y x (filter p xs) rest)
      | inr left ↦ rw left rest
    ]

-- ---- one survivor

-- a survivor has what the state had that the request would give, below what was on the disk
survivor_has : (asked : Request) (s s2 x : State) → IsSurvivor asked s s2 x → (entry : LogEntry) → Contains s2.records entry → entry.lsn < flushed s
    → Contains x.records entry
survivor_has asked s s2 x is entry among below =
    let from = is.place.from in
    let passes : nat_lt entry.lsn (frontier x.place) ≡ true = grind (arith, nat_tests, below, from) in
    subst (λ (records : List LogEntry). Contains records entry) (sym is.records)
    (contains_passing (λ (e : LogEntry). nat_lt e.lsn (frontier x.place)) s2.records entry passes among)

-- what comes of a call where nothing happens, by its first refusal
outcome_is : (s : State) (client : ℕ) (call : Call) (first : Option Refusal) → s.broken ≡ false → refusal s client call ≡ first
    → (fine_outcome s (asks client call)).state ≡ (option_map_or (λ given. outcome (replies.Refused given) s) first (answer s client call)).state
unfolding fine_outcome
outcome_is s client call first whole is =
    let by_broken : Bool → State = λ b. (if b then outcome (replies.Refused refusals.Broken) s
    else option_map_or (λ given. outcome (replies.Refused given) s) (refusal s client call) (answer s client call)).state in
    let by_refusal : Option Refusal → State = λ o. (option_map_or (λ given. outcome (replies.Refused given) s) o (answer s client call)).state in
    ap by_broken whole ∙ ap by_refusal is

-- it has all records of before
outcome_has : KeepLaws → (s : State) (client : ℕ) (call : Call) → IsValid s → s.broken ≡ false → (entry : LogEntry) → Contains s.records entry
    → Contains (fine_outcome s (asks client call)).state.records entry
outcome_has laws s client call valid whole entry among = by_refusal (refusal s client call) refl
  where
    by_refusal : (first : Option Refusal) → refusal s client call ≡ first → Contains (fine_outcome s (asks client call)).state.records entry
    by_refusal (Some given) is = subst (λ (u : State). Contains u.records entry) (sym (outcome_is s client call (Some given) whole is)) among
    by_refusal None is =
        let t : State = (answer s client call).state in
        let step = laws.ways.answered false s client call (answer s client call).reply t whole is refl refl in
        let added = laws.adds false s client call Fine (answer s client call).reply t valid step in
        subst (λ (u : State). Contains u.records entry) (sym (outcome_is s client call None whole is))
        (subst (λ (records : List LogEntry). Contains records entry) (sym added.1) (Contains-append_left s.records added.0 entry among))

nothing_is : (s : State) → (fine_outcome s (bad_line 0)).state ≡ s
unfolding fine_outcome
nothing_is s = refl

-- ---- files

same_number : (n : ℕ) → (n == n) ≡ true
same_number n = grind (arith, nat_tests)

-- files that hold a survivor which has the records open to a log that has them
keeps_by : KeepLaws → (whole : Bool) (asked : Request) (s : State) (files : Files)
    → ((entry : LogEntry) → Contains s.records entry → Contains (fine_outcome s asked).state.records entry)
    → HoldSurvivor whole asked s files → KeepFlushed s files
keeps_by laws whole asked s files has holds = record {
  opened = holds.opened;
  stands = holds.stands;
  each = λ entry among below lives.
      let x = holds.survivor in
      let y = holds.opened in
      let there_too = survivor_has asked s (fine_outcome s asked).state x holds.survives entry (has entry among) below in
      let lives_too : is_live x entry ≡ true = subst (λ (base : ℕ). nat_le base entry.lsn ≡ true) (sym (laws.bases x y entry.stream holds.same)) lives in
      subst (λ (records : List LogEntry). Contains records entry) (laws.live x y entry.stream holds.same)
      (contains_passing (λ (e : LogEntry). (e.stream == entry.stream) && is_live x e) x.records entry (rw (same_number entry.stream) lives_too) there_too);
}

-- what a later state keeps, an earlier one keeps
keeps_earlier : (s t : State) (files : Files) → flushed s ≤ flushed t → ((entry : LogEntry) → Contains s.records entry → Contains t.records entry)
    → KeepFlushed t files → KeepFlushed s files
keeps_earlier s t files rises has keeps = record {
  opened = keeps.opened;
  stands = keeps.stands;
  each = λ entry among below lives. keeps.each entry (has entry among) (omega (arith, below, rises)) lives;
}

-- ---- journals

-- no time passes for a log that is broken
pub stands_still : KeepLaws → (told whole : Bool) (images : Images) (from to : ℕ) (s t : State) (entries : List Entry) → s.broken ≡ true
    → IsLeftByEntries told whole images from to s entries t → to ≡ from
stands_still laws told whole images from to s t [] broken is = is.1.still broken
stands_still laws told whole images from to s t (entry ∷ entries) broken is =
    let done = is.1.1 in
    let mid : State = done.1.1.0 in
    let same = (laws.stays told s entry.client entry.call entry.happened entry.reply mid broken done.1.1.1.0).1 in
    let still : mid.broken ≡ true = ap (λ (u : State). u.broken) same ∙ broken in
    stands_still laws told whole images done.0 to mid t entries still done.1.1.1.1 ∙ done.1.0.still broken ∙ is.1.0.still broken

-- a moment after each front of a journal
pub parts : (told whole : Bool) (images : Images) (from to : ℕ) (s t : State) (front rest : List Entry)
    → IsLeftByEntries told whole images from to s (front ++ rest) t → PartsAt told whole images from to s front rest t
parts told whole images from to s t [] rest is = record { moment = from; mid = s; before = (refl, at_once rest is); behind = is }
  where
    at_once : (entries : List Entry) → IsLeftByEntries told whole images from to s entries t → HoldsMeanwhile (HoldSurvivor whole (bad_line 0) s) images from from s
    at_once [] all = record {
      later = omega arith;
      still = λ _. refl;
      leaves = λ intact moment image after before left. let up = all.1.later in all.1.leaves intact moment image after (omega (arith, before, up)) left;
    }
    at_once (entry ∷ entries) all = record {
      later = omega arith;
      still = λ _. refl;
      leaves = λ intact moment image after before left. let up = all.1.0.later in all.1.0.leaves intact moment image after (omega (arith, before, up)) left;
    }
parts told whole images from to s t (entry ∷ front) rest is =
    let done = is.1.1 in
    let more = parts told whole images done.0 to done.1.1.0 t front rest done.1.1.1.1 in
    record {
      moment = more.moment;
      mid = more.mid;
      before = (is.0, (is.1.0, (done.0, (done.1.0, (done.1.1.0, (done.1.1.1.0, more.before))))));
      behind = more.behind;
    }

-- all that was on the disk in the first state is kept
pub keeps : KeepLaws → (told whole : Bool) (images : Images) (from to : ℕ) (s t : State) (entries : List Entry) → IsValid s → s.broken ≡ false
    → IsLeftByEntries told whole images from to s entries t
    → (moment : ℕ) (image : Files) → from ≤ moment → moment ≤ to → images moment image → KeepFlushed s image
keeps laws told whole images from to s t [] valid intact is moment image after before left =
    keeps_by laws whole (bad_line 0) s image (λ e among. subst (λ (u : State). Contains u.records e) (sym (nothing_is s)) among)
    (is.1.leaves intact moment image after before left)
keeps laws told whole images from to s t (entry ∷ entries) valid intact is moment image after before left = elim (cases_lt begun moment) [
  | inr early ↦ keeps_by laws whole (bad_line 0) s image (λ e among. subst (λ (u : State). Contains u.records e) (sym (nothing_is s)) among)
      (is.1.0.leaves intact moment image after (omega (arith, early)) left)
  | inl made ↦ elim (cases_lt done moment) [
    | inr during ↦ keeps_by laws whole (asks entry.client entry.call) s image (outcome_has laws s entry.client entry.call valid intact)
        (is.1.1.1.0.leaves intact moment image (omega (arith, made)) (omega (arith, during)) left)
    | inl behind ↦ elim (cases_Bool mid.broken) [
      | inl broken ↦ absurd (let still = stands_still laws told whole images done to mid t entries broken rest in omega (arith, still, behind, before))
      | inr whole_log ↦ keeps_earlier s mid image (laws.rises told s entry.client entry.call entry.happened entry.reply mid valid step) has
          (keeps laws told whole images done to mid t entries (laws.valid told s entry.client entry.call entry.happened entry.reply mid valid step) whole_log rest
          moment image (omega (arith, behind)) before left)
    ]
  ]
]
  where
    begun : ℕ
    begun = is.0

    done : ℕ
    done = is.1.1.0

    mid : State
    mid = is.1.1.1.1.0

    step : Step told s entry.client entry.call entry.happened entry.reply mid
    step = is.1.1.1.1.1.0

    rest : IsLeftByEntries told whole images done to mid entries t
    rest = is.1.1.1.1.1.1

    has : (e : LogEntry) → Contains s.records e → Contains mid.records e
    has e among =
        let added = laws.adds told s entry.client entry.call entry.happened entry.reply mid valid step in
        subst (λ (records : List LogEntry). Contains records e) (sym added.1) (Contains-append_left s.records added.0 e among)
