use Rattle.clfs_restore.proofs.Words.{length, sym, ◌∙◌, ap, arith, length-drop, length-take}
use Rattle.clfs_restore.proofs.piece.container_bytes.Goals as goal

pub split_at-requires : goal.split_at-requires
split_at-requires c =
    let is = c.archives_can_be_restored.ensures.readable c.args.archives.now c.args.archive.now c.args.id c.in-Some.stored c.requires.image c.requires.read
    (sym c.last_copy.ensures ∙ c.in-Some.is) in
    omega (arith, is.0.there)

pub split_at-requires-in-Some : goal.split_at-requires-in-Some
split_at-requires-in-Some c =
    let is = c.archives_can_be_restored.ensures.readable c.args.archives.now c.args.archive.now c.args.id c.in-Some.stored c.requires.image c.requires.read
    (sym c.last_copy.ensures ∙ c.in-Some.is) in
    omega (arith, is.0.there, ap length c.split_at.ensures.back, length-drop c.in-Some.stored.at c.args.archives.now)

pub returns-in-Some-clause-short : goal.returns-in-Some-clause-short
returns-in-Some-clause-short c =
    let is = c.archives_can_be_restored.ensures.readable c.args.archives.now c.args.archive.now c.args.id c.in-Some.stored c.requires.image c.requires.read
    (sym c.last_copy.ensures ∙ c.in-Some.is) in
    omega (arith, is.0.within, ap length c.split_at-in-Some.ensures.front, length-take c.in-Some.stored.len c.split_at.result.1.now)
