use Rattle.clfs_cursor.proofs.Words.{◌≡◌, subst, sym, false, arith, Keys, is_numbered}
use Rattle.clfs_cursor.proofs.Counts.{push_is_different}
use Rattle.clfs_cursor.proofs.keys.AreaKeys.push.Goals as goal

pub invariant_of-self : goal.invariant_of-self
invariant_of-self c =
    let unused : is_numbered c.self.inside.keys.items c.args.number ≡ false =
    subst (λ (keys : Keys). is_numbered keys.numbered c.args.number ≡ false) (sym c.self.view_is) c.requires.unused in
    record {
      room = omega (arith, c.self.invariant.room, c.push_reserved.ensures.capacity);
      different = rw c.push_reserved.ensures.items (push_is_different c.self.inside.keys.items _ unused c.self.invariant.different);
    }
