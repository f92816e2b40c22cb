use Rattle.std.proofs.Common.{◌<◌}
use Rattle.std.proofs.lemmas.List.Elements.{All-drop}
use Rattle.clfs_archive.specs.declared.block.BlockEnd.{BlockEnd}
use Rattle.clfs_archive.proofs.Places.{still_told}
use Rattle.clfs_archive.proofs.archive.Archive.forget_below.Goals as goal

pub returns-clause-told : goal.returns-clause-told
returns-clause-told c = λ from stable heads up are.
    let end = c.forget_below.ensures.end in
    still_told c.self.inside.blocks.items c.forget_below.new.rows.items c.args.lsn end.0 from stable heads end.2 end.1 up (rw (← c.self.view_is) at are)

pub returns-clause-ended : goal.returns-clause-ended
returns-clause-ended c = λ from next heads up are.
    let end = c.forget_below.ensures.end in
    let before = rw (← c.self.view_is) at are in
    record {
      told = still_told c.self.inside.blocks.items c.forget_below.new.rows.items c.args.lsn end.0 from next heads end.2 end.1 up before.told;
      below = rw end.1 (All-drop (λ (block : BlockEnd). block.last < next) end.0 c.self.inside.blocks.items before.below);
      start = before.start;
    }
