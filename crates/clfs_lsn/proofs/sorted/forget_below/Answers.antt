use Rattle.std.proofs.Common.{◌≡◌, length, arith}
use Rattle.clfs_lsn.proofs.Places.{turned_and_cut, same_left, few_left, few_stay}
use Rattle.clfs_lsn.proofs.sorted.forget_below.Goals as goal

pub returns-then-place-len-clause-kept : goal.returns-then-place-len-clause-kept
returns-then-place-len-clause-kept g c =
    let at = rw c.deref.ensures.value at c.place_of-place.ensures in
    let long : c.len-len.result ≡ length c.args.rows.now.items = omega (arith, c.len-len.ensures) in
    let cut = turned_and_cut g.T.HasLsn.lsn_of c.args.rows.now.items c.rotate_left.new.self.items c.truncate.new.self.items c.len-len.result _ _ at
    long c.rotate_left.ensures.items c.truncate.ensures.items in
    same_left g.T.HasLsn.lsn_of c.args.rows.now.items c.truncate.new.self.items c.args.lsn _ at cut

pub returns-then-place-len-clause-few : goal.returns-then-place-len-clause-few
returns-then-place-len-clause-few g c =
    let at = rw c.deref.ensures.value at c.place_of-place.ensures in
    let long : c.len-len.result ≡ length c.args.rows.now.items = omega (arith, c.len-len.ensures) in
    let cut = turned_and_cut g.T.HasLsn.lsn_of c.args.rows.now.items c.rotate_left.new.self.items c.truncate.new.self.items c.len-len.result _ _ at
    long c.rotate_left.ensures.items c.truncate.ensures.items in
    few_left g.T.HasLsn.lsn_of c.args.rows.now.items c.truncate.new.self.items c.args.lsn _ at cut

pub returns-else-place-len-clause-few : goal.returns-else-place-len-clause-few
returns-else-place-len-clause-few g c =
    let at = rw c.deref.ensures.value at c.place_of-place.ensures in
    let long : c.len-len.result ≡ length c.args.rows.now.items = omega (arith, c.len-len.ensures) in
    few_stay g.T.HasLsn.lsn_of c.args.rows.now.items c.args.lsn _ c.len-len.result at long c.if-place-len.false
