use Rattle.std.proofs.Common.{ℕ, Vec, ap, arith}
use Rattle.std.specs.declared.alloc.Global.{Global}
use Rattle.clfs_disk.proofs.Holdings.{holds_refused, counted_refused, passes_refused}
use Rattle.clfs_disk.proofs.memory.Memory.refuse.Goals as goal

pub invariant_of-self : goal.invariant_of-self
invariant_of-self c = record {
  counted = counted_refused _ _ _ _ _ _ _ (omega arith) c.args.self.now.counted (omega arith) (omega arith) c.note_refusal.ensures.calls
      c.saturating_add-self.ensures c.note_refusal.ensures.call_room;
  holds = holds_refused c.args.self.now.files.items c.args.self.now.history.calls.items c.args.self.now.history.written.items c.args.self.now.holds _ _ _
      c.note_refusal.ensures.calls (ap (λ (v : Vec ℕ Global). v.items) c.note_refusal.ensures.written);
}

pub returns-clause-time : goal.returns-clause-time
returns-clause-time c = passes_refused _ c.args.self.now.history.calls.items _ c.args.self.now.history.written.items _ _ _ _ _ _ _
    c.note_refusal.ensures.calls (ap (λ (v : Vec ℕ Global). v.items) c.note_refusal.ensures.written) c.args.self.now.holds.bytes (omega arith)
