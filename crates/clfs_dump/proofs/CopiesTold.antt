-- What is printed where there is no newest base copy.
use Rattle.clfs_dump.proofs.Words.{◌≡◌, ℕ, List, Option, Result, Err, refl, sym, ap, ◌∙◌, subst, Files, newest_of, BaseImage, NewestRefusal, without_copy}
use Rattle.clfs_dump.proofs.Words.{slot_offset, LoadRefusal, Told, copy_told, files_told, as_dump, DumpRefusal, Selection}
use Rattle.clfs_base.specs.Decoding.{GivesNewest}
use Rattle.clfs_base.specs.declared.refusal.NewestRefusal.TheVariants as newest
use Rattle.clfs_recover.specs.declared.refusal.LoadRefusal.TheVariants as logs
use Rattle.clfs_dump.proofs.Walks.{PrintsTold}
use Rattle.clfs_dump.proofs.Written.{appends_none, front_of_none}

module _ (selection : Selection) (files : Files) (a : Option (List ℕ)) where
  abbrev told_by : Result (ℕ × BaseImage) NewestRefusal → Told ℕ
  told_by read = copy_told selection files read

  by_refusal : (refusal : NewestRefusal) → GivesNewest {Y = ℕ × BaseImage} (Err refusal) (newest_of (files 0))
      → PrintsTold {T = ℕ} a a (files_told selection files) (Err (as_dump (without_copy refusal)))
  by_refusal newest.NoBase gives =
      subst (λ (t : Told ℕ). PrintsTold {T = ℕ} a a t (Err (as_dump logs.NoBase))) (sym (ap told_by gives)) (appends_none a, refl)
  by_refusal (newest.BadByte slot at) gives =
      subst (λ (t : Told ℕ). PrintsTold {T = ℕ} a a t (Err (as_dump (logs.Damaged 0 (slot_offset slot) at)))) (sym (ap told_by gives)) (appends_none a, refl)
  by_refusal newest.DiskFault gives = front_of_none a (files_told selection files).text
  by_refusal newest.NoMemory gives = front_of_none a (files_told selection files).text

  pub none_printed : (refusal : NewestRefusal) (told : DumpRefusal) (load : LoadRefusal)
      → GivesNewest {Y = ℕ × BaseImage} (Err refusal) (newest_of (files 0)) → load ≡ without_copy refusal → told ≡ as_dump load
      → PrintsTold {T = ℕ} a a (files_told selection files) (Err told)
  none_printed refusal told load gives first second =
      subst (λ (r : DumpRefusal). PrintsTold {T = ℕ} a a (files_told selection files) (Err r)) (sym (second ∙ ap as_dump first)) (by_refusal refusal gives)
