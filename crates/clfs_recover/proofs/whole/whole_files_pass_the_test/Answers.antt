use Rattle.clfs_recover.proofs.WholeFiles.{whole_by_test, test_by_whole}
use Rattle.clfs_recover.proofs.whole.whole_files_pass_the_test.Goals as goal

pub returns-clause-passes : goal.returns-clause-passes
returns-clause-passes c = test_by_whole

pub returns-clause-tells : goal.returns-clause-tells
returns-clause-tells c = whole_by_test
