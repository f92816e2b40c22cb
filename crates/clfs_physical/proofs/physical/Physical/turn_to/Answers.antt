use Rattle.clfs_physical.proofs.Words.{◌⊎◌, ◌∙◌, [], sym, subst, IsTrue, on_ok_weaker, Nature, Leaves, Newest, AreMade, Stores, with_blocks, low_of, taken_of}
use Rattle.clfs_physical.proofs.Joining.{later_then}
use Rattle.clfs_physical.proofs.Logs.{made_still}
use Rattle.clfs_physical.proofs.Taken.{low_counts, first_part, turn_leaves}
use Rattle.clfs_physical.proofs.physical.Physical.turn_to.Goals as goal

pub returns-in_err-drop_low-clause-moments : goal.returns-in_err-drop_low-clause-moments
returns-in_err-drop_low-clause-moments g c settled whole blocks stores =
    let now = c.args.self.now in
    first_part (Stores whole now blocks) (Stores whole (low_of c.args.first now) blocks)
    (Stores whole (taken_of c.args.file (low_of c.args.first now)) (with_blocks c.args.file [] blocks)) _ _ (c.drop_low.ensures.moments settled whole blocks stores)

pub returns-clause-written : goal.returns-clause-written
returns-clause-written g c = on_ok_weaker c.take_file.result
    (λ written tells whole blocks stores.
    let late-tells = subst (λ (n : Nature). IsTrue n.tells_contents) (sym c.drop_low.ensures.time.nature) tells in
    written late-tells whole blocks (c.in_ok-drop_low.ensures.written tells whole blocks stores))
    c.take_file.ensures.written

pub returns-clause-settled : goal.returns-clause-settled
returns-clause-settled g c = on_ok_weaker c.take_file.result
    (λ done settled. done (c.in_ok-drop_low.ensures.settled settled))
    c.take_file.ensures.settled

pub returns-clause-moments : goal.returns-clause-moments
returns-clause-moments g c settled whole blocks stores =
    let now = c.args.self.now in
    let low = low_of c.args.first now in
    let settled-2 = c.in_ok-drop_low.ensures.settled settled in
    turn_leaves (Stores whole now blocks) (Stores whole low blocks) (Stores whole (taken_of c.args.file low) (with_blocks c.args.file [] blocks)) _ _ _
    (c.drop_low.ensures.moments settled whole blocks stores)
    (subst (λ (n : Newest). Leaves (λ f. Stores whole n blocks f ⊎ Stores whole (taken_of c.args.file n) (with_blocks c.args.file [] blocks) f)
    (g.D.Disk.state c.drop_low.new.disk) (g.D.Disk.state c.take_file.new.disk)) c.in_ok-drop_low.ensures.now
    (c.take_file.ensures.moments settled-2 whole blocks (c.in_ok-drop_low.ensures.written settled.honest.0 whole blocks stores)))

pub returns-clause-time : goal.returns-clause-time
returns-clause-time g c = later_then _ _ _ c.drop_low.ensures.time c.take_file.ensures.time

pub returns-clause-steady : goal.returns-clause-steady
returns-clause-steady g c steady made =
    let now = c.args.self.now in
    let steady-2 = subst (λ (n : Nature). IsTrue n.steady) (sym c.drop_low.ensures.time.nature) steady in
    let made-2 = made_still now.image _ _ c.drop_low.ensures.lengths made in
    let second = c.take_file.ensures.steady steady-2
    (subst (λ (n : Newest). AreMade n.image (g.D.Disk.state c.drop_low.new.disk).files) (sym c.in_ok-drop_low.ensures.now)
    (low_counts c.args.first now _ made-2)) in
    (second.0, second.1 ∙ (c.drop_low.ensures.steady steady made).1)
