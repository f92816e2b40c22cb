use Rattle.clfs_manager.proofs.Words.{◌≡◌, ap, List, Place, Extent, State, extents, extents_of, heads_of}
use Rattle.std.proofs.lemmas.Result.{IfOk-weaker}
use Rattle.clfs_manager.proofs.Extents.{told_by, extents_are}
use Rattle.clfs_manager.proofs.log.Log.all_extents.Goals as goal

pub returns : goal.returns
returns c =
    let s : State = c.args.self.now.state.value in
    let holds = c.requires.sound.holds in
    IfOk-weaker c.extents.result
    (λ (list : List Extent). list ≡ extents_of c.flushed-stable.result c.place-place.result.container c.args.self.now.archive.tail (heads_of s))
    (λ (list : List Extent). list ≡ extents s)
    (λ list is. extents_are s _ _ _ list is (c.records_are_as_their_heads.ensures.extents s) c.flushed-stable.ensures
    (ap (λ (p : Place). p.container) c.place-place.ensures.value) holds.archive)
    (c.extents.ensures (heads_of s)
    (told_by s _ _ _ _ c.ends_of_blocks_go_on.ensures c.requires.sound.valid holds.low holds.sealed holds.archive c.flushed-stable.ensures))
