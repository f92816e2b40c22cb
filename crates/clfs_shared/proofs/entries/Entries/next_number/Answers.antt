use Rattle.std.proofs.Common.{◌-◌, ap, ℕ, List, arith, ◌≡◌}
use Rattle.std.specs.Prelude.{vec_len, vec_capacity}
use Rattle.clfs_model.specs.declared.journal.Entry.{Entry}
use Rattle.clfs_shared.proofs.Counting.{count_fits}
use Rattle.clfs_shared.proofs.entries.Entries.next_number.Goals as goal

pub overflow_add-result : goal.overflow_add-result
overflow_add-result g =
    let inside = g.self.inside in
    let room : vec_capacity inside.entries - vec_len inside.entries ≡ g.args.self.now.1 = ap (λ (z : List Entry × ℕ). z.1) g.self.view_is in
    record {
      fits = count_fits inside.counts inside.entries.items g.args.client (vec_len inside.entries) g.capacity-most.result g.self.invariant g.requires.client
          (omega arith) g.capacity-most.type_inv (let c = g.capacity-most.ensures in let r = g.requires.room in omega (arith, c, r, room));
    }
