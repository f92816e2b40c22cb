use Rattle.clfs_buffers.proofs.Words.{◌∙◌, ap, lru_cache, Blocks, is_same_place}
use Rattle.clfs_buffers.proofs.Changes.{put_first}
use Rattle.clfs_buffers.proofs.buffers.keep.Goals as goal

pub returns-in-Ok-Some-clause-ok : goal.returns-in-Ok-Some-clause-ok
returns-in-Ok-Some-clause-ok c = c.in-Ok-Some.ensures.entries
    ∙ ap (λ (l : Blocks). lru_cache l c.args.table.now.cap) (put_first is_same_place c.args.table.now c.args.place c.args.block c.requires.new)

pub returns-in-Ok-None-clause-ok : goal.returns-in-Ok-None-clause-ok
returns-in-Ok-None-clause-ok c = c.in-Ok-None.ensures.entries
    ∙ ap (λ (l : Blocks). lru_cache l c.args.table.now.cap) (put_first is_same_place c.args.table.now c.args.place c.args.block c.requires.new)
