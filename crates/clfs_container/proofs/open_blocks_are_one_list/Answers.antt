use Rattle.clfs_container.proofs.Walks.{one_reading, behind_are_whole, written_are_whole, whole_are_open, none_whole}
use Rattle.clfs_container.proofs.open_blocks_are_one_list.Goals as goal

pub returns-clause-one : goal.returns-clause-one
returns-clause-one c sectors bytes blocks others first second = one_reading sectors bytes blocks others first.0 second.0 first.1 first.2 second.1 second.2

pub returns-clause-behind : goal.returns-clause-behind
returns-clause-behind c = behind_are_whole

pub returns-clause-written : goal.returns-clause-written
returns-clause-written c = written_are_whole

pub returns-clause-whole : goal.returns-clause-whole
returns-clause-whole c = whole_are_open

pub returns-clause-empty : goal.returns-clause-empty
returns-clause-empty c = none_whole
