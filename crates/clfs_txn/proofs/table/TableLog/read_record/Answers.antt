use Rattle.clfs_txn.proofs.Words.{ap, subst, IsValid}
use Rattle.clfs_txn.proofs.Quiet.{QuietLaws}
use Rattle.clfs_txn.proofs.NextRead.{goes_on, reads_on, still_whole, writes_on}
use Rattle.clfs_txn.proofs.table.TableLog.read_record.Goals as goal

pub returns-clause-step : goal.returns-clause-step
returns-clause-step g c =
    reads_on c.reading_gives_the_chain.ensures.next c.reading_gives_the_chain.ensures.end_of_log c.ways_of_a_step.ensures _ _ _ _ _ _ _ _ c.read_next-reply.result c.join.result
    (subst IsValid (ap (λ v. v.0.log) c.self.view_is) c.stored.ensures.valid) c.requires.whole c.read_next-reply.ensures.whole c.requires.forward
    c.read_next-reply.ensures.step c.join.ensures.joined

pub returns-clause-writes : goal.returns-clause-writes
returns-clause-writes g c = writes_on _ _ _ _ c.read_next-reply.result c.join.result c.join.ensures.joined c.read_next-reply.ensures.writes

pub returns-clause-whole : goal.returns-clause-whole
returns-clause-whole g c =
    let laws : QuietLaws = record { unbroken = c.unbroken_stays.ensures.calls; broken = c.broken_stays.ensures.calls } in
    still_whole laws _ _ _ _ _ _ _ _ c.read_next-reply.result c.join.result c.requires.whole c.read_next-reply.ensures.step c.join.ensures.joined

pub returns-clause-forward : goal.returns-clause-forward
returns-clause-forward g c = λ is.
    (goes_on c.reading_gives_the_chain.ensures.next c.reading_gives_the_chain.ensures.end_of_log _ _ _ _ _ _ _ _ c.read_next-reply.result c.join.result
    (subst IsValid (ap (λ v. v.0.log) c.self.view_is) c.stored.ensures.valid) c.requires.whole c.requires.forward
    c.read_next-reply.ensures.step c.join.ensures.joined is).0

pub returns-clause-fewer : goal.returns-clause-fewer
returns-clause-fewer g c = λ is.
    (goes_on c.reading_gives_the_chain.ensures.next c.reading_gives_the_chain.ensures.end_of_log _ _ _ _ _ _ _ _ c.read_next-reply.result c.join.result
    (subst IsValid (ap (λ v. v.0.log) c.self.view_is) c.stored.ensures.valid) c.requires.whole c.requires.forward
    c.read_next-reply.ensures.step c.join.ensures.joined is).1
