use Rattle.clfs_laws.proofs.Words.{ap, [], length, State, grown, flush, need_of, hold_sizes, seal_if, flush_if, plain_record, restart_record, rebased}
use Rattle.clfs_laws.proofs.RoomFound.{next_spent}
use Rattle.clfs_laws.proofs.ValidAppends.{spend_first}
use Rattle.clfs_laws.proofs.between.small_changes_make_the_calls.Goals as goal

pub returns-clause-append : goal.returns-clause-append
returns-clause-append c = λ s area draft is_reserved sizes.
    let n = length draft.bytes in
    ap (λ (t : State). flush_if draft.flush (seal_if draft.seal (hold_sizes area sizes t)))
    (spend_first is_reserved area n (grown s (need_of is_reserved n sizes)) (plain_record area draft))

pub returns-clause-restart : goal.returns-clause-restart
returns-clause-restart c = λ s area bytes base is_reserved.
    let n = length bytes in
    ap (λ (t : State). rebased area.stream base (flush t))
    (spend_first is_reserved area n (grown s (need_of is_reserved n [])) (restart_record s area bytes base))

pub returns-clause-lsn : goal.returns-clause-lsn
returns-clause-lsn c = next_spent
