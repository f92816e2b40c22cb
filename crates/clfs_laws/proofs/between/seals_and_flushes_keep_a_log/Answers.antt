use Rattle.clfs_laws.proofs.LaidStates as laid
use Rattle.clfs_laws.proofs.Turns.{seal_container}
use Rattle.clfs_laws.proofs.ValidPlaces.{flushed_seal, flushed_flush}
use Rattle.clfs_laws.proofs.between.seals_and_flushes_keep_a_log.Goals as goal

pub returns-clause-seal : goal.returns-clause-seal
returns-clause-seal c = laid.whole_seal

pub returns-clause-flush : goal.returns-clause-flush
returns-clause-flush c = laid.whole_flush

pub returns-clause-laid : goal.returns-clause-laid
returns-clause-laid c = laid.laid_whole

pub returns-clause-seal_laid : goal.returns-clause-seal_laid
returns-clause-seal_laid c = laid.laid_seal

pub returns-clause-flush_laid : goal.returns-clause-flush_laid
returns-clause-flush_laid c = laid.laid_flush

pub returns-clause-seal_hold : goal.returns-clause-seal_hold
returns-clause-seal_hold c = λ s is. laid.seal_hold s (laid.sound_laid s is)

pub returns-clause-flush_hold : goal.returns-clause-flush_hold
returns-clause-flush_hold c = λ s is. laid.flush_hold s (laid.sound_laid s is)

pub returns-clause-seal_tables : goal.returns-clause-seal_tables
returns-clause-seal_tables c = λ s is. laid.seal_tables s (laid.sound_laid s is)

pub returns-clause-flush_tables : goal.returns-clause-flush_tables
returns-clause-flush_tables c = λ s is. laid.flush_tables s (laid.sound_laid s is)

pub returns-clause-seal_flushed : goal.returns-clause-seal_flushed
returns-clause-seal_flushed c = λ s is. flushed_seal s (laid.sound_laid s is)

pub returns-clause-flush_flushed : goal.returns-clause-flush_flushed
returns-clause-flush_flushed c = λ s is. flushed_flush s (laid.sound_laid s is)

pub returns-clause-seal_container : goal.returns-clause-seal_container
returns-clause-seal_container c = seal_container

pub returns-clause-flush_container : goal.returns-clause-flush_container
returns-clause-flush_container c = λ s. seal_container s
