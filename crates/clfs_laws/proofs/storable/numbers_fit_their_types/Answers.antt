use Rattle.clfs_laws.proofs.Numbers as numbers
use Rattle.clfs_laws.proofs.storable.numbers_fit_their_types.Goals as goal

pub returns-clause-lsns : goal.returns-clause-lsns
returns-clause-lsns c = λ s valid storable. numbers.lsns_fit s valid storable.blocks

pub returns-clause-previous : goal.returns-clause-previous
returns-clause-previous c = λ s valid storable. numbers.previous_fit s valid storable.blocks

pub returns-clause-undo_next : goal.returns-clause-undo_next
returns-clause-undo_next c = λ s valid storable. numbers.undo_next_fit s valid storable.blocks

pub returns-clause-new_bases : goal.returns-clause-new_bases
returns-clause-new_bases c = numbers.new_bases_fit

pub returns-clause-lengths : goal.returns-clause-lengths
returns-clause-lengths c = λ s valid storable. numbers.lengths_fit s valid storable.blocks

pub returns-clause-block_ends : goal.returns-clause-block_ends
returns-clause-block_ends c = λ s valid storable. numbers.ends_fit s valid storable.blocks

pub returns-clause-frontier : goal.returns-clause-frontier
returns-clause-frontier c = λ s valid storable. numbers.frontier_fits s valid storable.blocks

pub returns-clause-flushed : goal.returns-clause-flushed
returns-clause-flushed c = λ s valid storable. numbers.flushed_fits s valid storable.blocks

pub returns-clause-offset : goal.returns-clause-offset
returns-clause-offset c = λ s valid storable. numbers.offset_fits s valid

pub returns-clause-bases : goal.returns-clause-bases
returns-clause-bases c = λ s valid storable. numbers.bases_fit s valid storable.blocks

pub returns-clause-tail : goal.returns-clause-tail
returns-clause-tail c = λ s valid storable. numbers.tail_fits s valid storable.blocks

pub returns-clause-waiting : goal.returns-clause-waiting
returns-clause-waiting c = λ s valid storable. numbers.waiting_fit s valid storable.blocks

pub returns-clause-cursors : goal.returns-clause-cursors
returns-clause-cursors c = numbers.cursors_fit
