use Rattle.clfs_rows.proofs.Words.{refl, arith}
use Rattle.clfs_rows.proofs.Shuffled.{shuffles}
use Rattle.clfs_rows.proofs.shuffles.journals_that_shuffle.Goals as goal

pub returns : goal.returns
returns c = record {
  interleaved = shuffles _ _ (refl, (refl, tt))
      ((0, omega arith, refl), ((1, omega arith, refl), ((1, omega arith, refl), ((0, omega arith, refl), ((1, omega arith, refl), tt)))));
  interleaved_otherwise = shuffles _ _ (refl, (refl, tt))
      ((1, omega arith, refl), ((0, omega arith, refl), ((0, omega arith, refl), ((1, omega arith, refl), ((1, omega arith, refl), tt)))));
  one_client_after_the_other = shuffles _ _ (refl, (refl, tt))
      ((0, omega arith, refl), ((0, omega arith, refl), ((1, omega arith, refl), ((1, omega arith, refl), ((1, omega arith, refl), tt)))));
  a_script_of_no_lines = shuffles _ _ (refl, (refl, tt)) ((0, omega arith, refl), tt);
  no_entries_of_no_lines = shuffles _ _ (refl, tt) tt;
  no_scripts = shuffles _ _ tt tt;
}
