-- That what a planned disk reads is one of its images. It stands here since a trait's law can cite definitions alone.
use Rattle.std.specs.Prelude.{◌≡◌, ℕ, ◌+◌, ◌≤◌, List, [], ◌∷◌, length}
use Rattle.std.proofs.Common.{sym, subst, ap, arith, refl, ◌≢◌, ◌<◌, ⊎_elim, ◌⊎◌, inl, inr, cond}
use Rattle.std.proofs.lemmas.List.{take_all}
use Rattle.clfs_disk.specs.Files.{Files, Torn, Grown, TornIn, GrownIn, lengthened}
use Rattle.std.proofs.lemmas.Bool.{cases_lt}
use Rattle.clfs_planned.specs.Putting.{here, apart_is, put_is, put_none}
use Rattle.clfs_planned.specs.Places.{torn_written, grown_lengthened}
use Rattle.clfs_planned.specs.Moments.{Moment, put, in_file, at_rest, after, moment_after, start_of, moment_of, HoldsFiles, written_in, lengthened_in}
use Rattle.clfs_planned.specs.declared.call.Call.{Call}
use Rattle.clfs_planned.specs.declared.call.Call.TheVariants.{Write, Grow, Sync}
use Rattle.clfs_planned.specs.declared.call.History.{History}

in_file_here : (file : ℕ) (change : List ℕ → List ℕ) (files : Files) → in_file file change files file ≡ change (files file)
in_file_here file change files = ap (λ b. cond b (change (files file)) (files file)) (here file)

in_file_elsewhere : (file : ℕ) (change : List ℕ → List ℕ) (files : Files) (other : ℕ) → other ≢ file → in_file file change files other ≡ files other
in_file_elsewhere file change files other apart = ap (λ b. cond b (change (files other)) (files other)) (apart_is other file apart)

room_or : (a b : ℕ) → (a ≤ b) ⊎ (b < a)
room_or a b = ⊎_elim (λ lt. inr lt) (λ le. inl le) (cases_lt b a)

written_is_torn : (file at : ℕ) (bytes : List ℕ) (files : Files) → TornIn file at (length bytes) files (written_in file at bytes files)
written_is_torn file at bytes files = record {
  here = subst (Torn at (length bytes) (files file)) (sym (in_file_here file (put at bytes) files)) (⊎_elim
      (λ (room : at + length bytes ≤ length (files file)). subst (Torn at (length bytes) (files file)) (sym (put_is at bytes (files file) room))
      (torn_written (files file) at bytes room))
      (λ (past : length (files file) < at + length bytes). subst (Torn at (length bytes) (files file)) (sym (put_none at bytes (files file) past))
      (record { same_length = refl; below = λ i lt. refl; above = λ i le. refl }))
      (room_or (at + length bytes) (length (files file))));
  elsewhere = in_file_elsewhere file (put at bytes) files;
}

lengthened_is_grown : (file len : ℕ) (files : Files) → GrownIn file len files (lengthened_in file len files)
lengthened_is_grown file len files = record {
  here = subst (Grown len (files file)) (sym (in_file_here file (λ old. lengthened old len) files)) (grown_lengthened (files file) len);
  elsewhere = in_file_elsewhere file (λ old. lengthened old len) files;
}

pub read_after_all : (call : Call) (m : Moment) → m.left m.files → (after call m).left (after call m).files
read_after_all (Write file at bytes) m here = (m.files, here, written_is_torn file at bytes m.files)
read_after_all (Grow file len) m here = (m.files, here, lengthened_is_grown file len m.files)
read_after_all Sync m here = λ file. refl

pub read_after_calls : (calls : List Call) (m : Moment) → m.left m.files → (moment_after m calls).left (moment_after m calls).files
read_after_calls [] m here = here
read_after_calls (call ∷ calls) m here = read_after_calls calls (after call m) (read_after_all call m here)

pub reads_as_image_of : (past : History) (files : Files) → HoldsFiles past files → (moment_of past (length past.calls)).left files
reads_as_image_of past files holds =
    let last = moment_after (at_rest (start_of past)) past.calls in
    let same : moment_of past (length past.calls) ≡ last = ap (moment_after (at_rest (start_of past))) (take_all (length past.calls) past.calls (omega arith)) in
    let read : last.files ≡ files = λ i. λ file. sym (holds file) i in
    subst (λ (x : Moment). x.left files) (sym same) (subst last.left read (read_after_calls past.calls (at_rest (start_of past)) (λ file. refl)))
