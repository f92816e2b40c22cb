use Rattle.clfs_rows.proofs.Words.{arith, []}
use Rattle.clfs_rows.specs.Interleaved.{script, entry_for}
use Rattle.clfs_model.specs.declared.call.Call.TheVariants as calls
use Rattle.clfs_rows.proofs.Shuffled.{is_the_only}
use Rattle.clfs_rows.proofs.shuffles.journals_that_do_not_shuffle.Goals as goal

pub returns : goal.returns
returns c = record {
  a_call_left_out = λ shuffle. let calls = shuffle.each 0 (script 0 []) (omega arith) in absurd (cc);
  a_call_of_the_second_client_left_out = λ shuffle. let calls = shuffle.each 1 (script 0 []) (omega arith) in absurd (cc);
  a_call_twice = λ shuffle. let calls = shuffle.each 0 (script 0 []) (omega arith) in absurd (cc);
  calls_out_of_order = λ shuffle. let calls = shuffle.each 0 (script 0 []) (omega arith) in absurd (cc);
  a_call_by_the_other_client = λ shuffle. let calls = shuffle.each 0 (script 0 []) (omega arith) in absurd (cc);
  a_client_without_a_script = λ shuffle. let same = is_the_only 1 2 (shuffle.none_else 1 (entry_for 0 calls.ListExtents) (omega arith)) in absurd
      (omega (arith, same));
  entries_of_scripts_without_lines = λ shuffle. let calls = shuffle.each 0 (script 0 []) (omega arith) in absurd (cc);
  lines_without_entries = λ shuffle. let calls = shuffle.each 0 (script 0 []) (omega arith) in absurd (cc);
}
