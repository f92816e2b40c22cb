use Rattle.std.proofs.Common.{rules, ◌≡◌, ◌∙◌, ◌+◌, ◌<◌, ◌-◌, drop, length, List, ap, sym, arith}
use Rattle.std.proofs.lemmas.List.{drop-map, drop-drop, length-drop}
use Rattle.clfs_planned.specs.declared.call.PlannedCall.{PlannedCall}
use Rattle.clfs_planned.specs.Calls.{call_of, calls_of}
use Rattle.clfs_planned.proofs.plan.Plan.forget_first.Goals as goal

pub invariant_of-self : goal.invariant_of-self
invariant_of-self c =
    let self = c.args.self.now in
    let items = c.pop_front.ensures.rest in
    let rest : calls_of c.pop_front.new.self.items ≡ drop (self.done + 1) self.past.value.calls =
    ap calls_of items ∙ sym (drop-map call_of 1 self.waiting.items) ∙ ap (drop 1) self.rest ∙ drop-drop 1 self.done self.past.value.calls in
    let some : 0 < length self.waiting.items = search rules in
    let long : length c.pop_front.new.self.items ≡ length self.waiting.items - 1 =
    ap (λ (l : List PlannedCall). length l) items ∙ length-drop 1 self.waiting.items in
    record { rest = rest; number = omega (arith, some, long, self.number); few = self.few }
