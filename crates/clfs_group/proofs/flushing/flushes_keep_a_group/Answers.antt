use Rattle.clfs_group.proofs.Growing.{above_by, flushed_group, kept_group}
use Rattle.clfs_group.proofs.Refused.{flush_finds, flush_kind, flush_refused}
use Rattle.clfs_group.proofs.flushing.flushes_keep_a_group.Goals as goal

pub returns-clause-above : goal.returns-clause-above
returns-clause-above c = above_by c.steps_keep_a_state_valid.ensures.journal c.a_flush_goes_past_its_lsn.ensures

pub returns-clause-answered : goal.returns-clause-answered
returns-clause-answered c = flushed_group c.fronts_are_legal.ensures c.steps_keep_a_state_valid.ensures.journal c.a_flush_goes_past_its_lsn.ensures

pub returns-clause-kept : goal.returns-clause-kept
returns-clause-kept c = kept_group c.fronts_are_legal.ensures c.flushed_never_falls.ensures.part c.steps_keep_a_state_valid.ensures.journal

pub returns-clause-kind : goal.returns-clause-kind
returns-clause-kind c = flush_kind c.replies_are_of_their_calls.ensures.kind

pub returns-clause-causes : goal.returns-clause-causes
returns-clause-causes c = flush_refused c.rows_are_by_own_entries.ensures.made c.replies_are_of_their_calls.ensures.missing c.refusals_are_the_calls_own.ensures.first
    c.replies_are_of_their_calls.ensures.kind

pub returns-clause-finds : goal.returns-clause-finds
returns-clause-finds c = flush_finds c.refusals_are_the_calls_own.ensures.first c.steps_only_add_records.ensures c.steps_keep_a_state_valid.ensures.step
    c.steps_keep_a_state_valid.ensures.journal c.replies_are_of_their_calls.ensures.kind
