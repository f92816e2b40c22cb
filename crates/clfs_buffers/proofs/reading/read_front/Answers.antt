use Rattle.clfs_buffers.proofs.Words.{sym, subst, first_lsn, TellsBlock}
use Rattle.clfs_buffers.specs.declared.refusal.ReadRefusal.{ReadRefusal}
use Rattle.clfs_buffers.proofs.Told.{fronts_are_short, told_of}
use Rattle.clfs_buffers.proofs.reading.read_front.Goals as goal

pub returns-in-Err-clause-told : goal.returns-in-Err-clause-told
returns-in-Err-clause-told g c = subst (λ (r : ReadRefusal). TellsBlock c.args.shape.now c.args.streams (first_lsn c.args.place) r) (sym c.refused.ensures)
    (told_of c.args.shape.now c.args.streams (first_lsn c.args.place) _ c.in-Err.refusal
    (fronts_are_short c.in_ok-count.count _ _ _ c.in_ok-count.ensures.count c.requires.few) c.in-Err.ensures.exact)
