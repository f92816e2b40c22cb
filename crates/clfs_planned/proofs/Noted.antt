-- One planned call more.
use Rattle.std.proofs.Common.{◌≡◌, ℕ, ◌+◌, ◌<◌, ◌≤◌, List, [], ◌∷◌, ◌++◌, length, refl, sym, ◌∙◌, ap, subst, arith}
use Rattle.std.proofs.lemmas.List.{take-append-le, take_all, length_push}
use Rattle.clfs_disk.specs.Files.{Files, Unchanged, WrittenIn, LengthenedIn, lengthened}
use Rattle.clfs_disk.specs.State.{Passes, IsSettled}
use Rattle.clfs_planned.specs.declared.call.Call.{Call}
use Rattle.clfs_planned.specs.declared.call.Call.TheVariants.{Write, Grow, Sync}
use Rattle.clfs_planned.specs.declared.call.History.{History}
use Rattle.clfs_planned.specs.Moments.{Moment, at_rest, after, moment_after, moment_of, start_of, noted, planned, put, HoldsFiles}
use Rattle.clfs_planned.specs.Images.{read_after_calls}
use Rattle.clfs_planned.proofs.Carried.{moment_push, read_after}
use Rattle.clfs_planned.specs.Putting.{put_is}

-- the moment after all calls
abbrev pub last : History → Moment
last past = moment_after (at_rest (start_of past)) past.calls

pub moment_now : (past : History) → moment_of past (length past.calls) ≡ last past
moment_now past = ap (moment_after (at_rest (start_of past))) (take_all (length past.calls) past.calls (omega arith))

module _ (past : History) (call : Call) where
  pub earlier : (m : ℕ) → m ≤ length past.calls → moment_of (noted call past) m ≡ moment_of past m
  earlier m le = ap (moment_after (at_rest (start_of past))) (take-append-le m past.calls (call ∷ []) le)

  pub latest : (m : ℕ) → length past.calls < m → moment_of (noted call past) m ≡ after call (last past)
  latest m lt = ap (moment_after (at_rest (start_of past))) (take_all m (past.calls ++ call ∷ []) (omega (arith, lt, length_push past.calls call)))
      ∙ moment_push (at_rest (start_of past)) past.calls call

  pub passes_noted : (change : Files → Files → Type 0) (files new_files : Files) (calls faults new_calls : ℕ)
      → ((image : Files) → (after call (last past)).left image → (before : Files) × (last past).left before × change before image)
      → Passes change (planned past files calls faults) (planned (noted call past) new_files new_calls faults)
  passes_noted change files new_files calls faults new_calls from = record {
    later = omega (arith, length_push past.calls call);
    past = λ m image le at. subst (λ (x : Moment). x.left image) (earlier m le) at;
    kept = λ m image le at. subst (λ (x : Moment). x.left image) (sym (earlier m le)) at;
    images = λ m image lt le at.
        let found = from image (subst (λ (x : Moment). x.left image) (latest m lt) at) in
        (found.0, subst (λ (x : Moment). x.left found.0) (sym (moment_now past)) found.1, found.2);
    faults = omega arith;
    nature = refl;
  }

  pub holds_noted : (files : Files) → Unchanged (after call (last past)).files files → HoldsFiles (noted call past) files
  holds_noted files is = subst (λ (x : Moment). Unchanged x.files files) (sym (moment_push (at_rest (start_of past)) past.calls call)) is

  pub holds_after : (past' : History) (files : Files) → past' ≡ noted call past → Unchanged (after call (last past)).files files → HoldsFiles past' files
  holds_after past' files is here = subst (λ (p : History). HoldsFiles p files) (sym is) (holds_noted files here)

  pub passes_to : (past' : History) (change : Files → Files → Type 0) (files files' : Files) (calls calls' faults faults' : ℕ) → past' ≡ noted call past
      → faults ≡ faults'
      → ((image : Files) → (after call (last past)).left image → (before : Files) × (last past).left before × change before image)
      → Passes change (planned past files calls faults) (planned past' files' calls' faults')
  passes_to past' change files files' calls calls' faults faults' is fine from =
      subst (λ (p : History). Passes change (planned past files calls faults) (planned p files' calls' faults')) (sym is)
      (subst (λ (n : ℕ). Passes change (planned past files calls faults) (planned (noted call past) files' calls' n)) fine
      (passes_noted change files files' calls faults calls' from))

-- what a sync leaves was left before
pub synced_before : (past : History) (image : Files) → (after Sync (last past)).left image → (before : Files) × (last past).left before × Unchanged before image
synced_before past image is = ((last past).files, read_after_calls past.calls (at_rest (start_of past)) (λ file. refl), is)

-- and it is what is read
pub settled_synced : (past past' : History) (files : Files) (calls faults : ℕ) → past' ≡ noted Sync past → HoldsFiles past files
    → IsSettled (planned past' files calls faults)
settled_synced past past' files calls faults is holds = subst (λ (p : History). IsSettled (planned p files calls faults)) (sym is) (record {
  honest = (refl, refl);
  only = λ image at. λ file. subst (λ (x : Moment). x.left image) (latest past Sync (length (noted Sync past).calls) (omega (arith, length_push past.calls Sync))) at file
      ∙ sym (holds file);
})

-- the files that a write leaves are those that its history tells
pub written_here : (past : History) (file at : ℕ) (bytes : List ℕ) (old new : Files) → HoldsFiles past old → at + length bytes ≤ length (old file)
    → WrittenIn file at bytes old new → Unchanged (after (Write file at bytes) (last past)).files new
written_here past file at bytes old new holds room written =
    read_after (put at bytes) (last past).files file old new holds (written.here ∙ sym (put_is at bytes (old file) room)) written.elsewhere

pub grown_here : (past : History) (file len : ℕ) (old new : Files) → HoldsFiles past old → LengthenedIn file len old new
    → Unchanged (after (Grow file len) (last past)).files new
grown_here past file len old new holds grown =
    read_after (λ (l : List ℕ). lengthened l len) (last past).files file old new holds grown.here grown.elsewhere
