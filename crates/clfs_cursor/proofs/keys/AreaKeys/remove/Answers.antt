use Rattle.clfs_cursor.proofs.Words.{◌≡◌, refl, rules, tests, arith, not, ◌==◌, filter, Numbered}
use Rattle.std.proofs.lemmas.Fn.{filter_same}
use Rattle.clfs_cursor.proofs.Counts.{filter_is_different}
use Rattle.clfs_cursor.proofs.keys.AreaKeys.remove.Goals as goal

-- what is left
left : (c : goal.After-retain) → c.retain.new.self.items ≡ filter (λ (numbered : Numbered). not (numbered.number == c.args.number)) c.self.inside.keys.items
left c = filter_same _ (λ (numbered : Numbered). not (numbered.number == c.args.number)) _ (λ x b q k. search (rules, tests)) _ _ c.retain.ensures.filtered

pub invariant_of-self : goal.invariant_of-self
invariant_of-self c = record {
  room = omega (arith, c.self.invariant.room, c.retain.ensures.capacity);
  different = rw (left c) (filter_is_different (λ (numbered : Numbered). not (numbered.number == c.args.number)) c.self.inside.keys.items c.self.invariant.different);
}

pub returns : goal.returns
returns c = rw (left c, ← c.self.view_is) refl
