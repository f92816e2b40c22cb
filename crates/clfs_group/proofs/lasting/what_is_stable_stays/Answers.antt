use Rattle.clfs_group.proofs.Growing.{still_below, still_flushed}
use Rattle.clfs_group.proofs.lasting.what_is_stable_stays.Goals as goal

pub returns-clause-seen : goal.returns-clause-seen
returns-clause-seen c = still_flushed c.fronts_are_legal.ensures c.flushed_never_falls.ensures.part c.steps_keep_a_state_valid.ensures.journal

pub returns-clause-journal : goal.returns-clause-journal
returns-clause-journal c = still_below c.fronts_are_legal.ensures c.flushed_never_falls.ensures.part c.steps_keep_a_state_valid.ensures.journal
