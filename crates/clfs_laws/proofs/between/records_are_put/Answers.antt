use Rattle.clfs_laws.proofs.Words.{arith}
use Rattle.clfs_laws.proofs.LaidPuts as puts
use Rattle.clfs_laws.proofs.LaidStates.{laid_whole}
use Rattle.clfs_laws.proofs.ValidPlaces.{sound_of}
use Rattle.clfs_laws.proofs.between.records_are_put.Goals as goal

pub returns-clause-plain : goal.returns-clause-plain
returns-clause-plain c = puts.whole_put c.space_laws.ensures

pub returns-clause-laid : goal.returns-clause-laid
returns-clause-laid c = λ s entry valid storable may. puts.laid_put c.space_laws.ensures s entry (laid_whole s valid storable) may

pub returns-clause-restart : goal.returns-clause-restart
returns-clause-restart c = puts.whole_restart c.space_laws.ensures

pub returns-clause-tables : goal.returns-clause-tables
returns-clause-tables c = λ s entry valid storable may. puts.put_tables s entry (sound_of s valid)

pub returns-clause-room : goal.returns-clause-room
returns-clause-room c = λ s entry more valid storable may room. puts.room_put c.space_laws.ensures s entry more (sound_of s valid) may room

pub returns-clause-flushed : goal.returns-clause-flushed
returns-clause-flushed c = λ s entry valid storable may. puts.flushed_put c.space_laws.ensures s entry (sound_of s valid) may

pub returns-clause-older : goal.returns-clause-older
returns-clause-older c = puts.older_plain c.space_laws.ensures

pub returns-clause-restart_hold : goal.returns-clause-restart_hold
returns-clause-restart_hold c = λ s entry valid storable may allowed.
    let later = puts.hold_restart c.space_laws.ensures s entry valid may allowed in
    omega (arith, later)
