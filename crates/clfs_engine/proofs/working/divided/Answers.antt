use Rattle.std.proofs.Common.{◌≡◌, ◌∙◌, ◌+◌, ◌++◌, ◌∷◌, [], ap, length, arith}
use Rattle.std.proofs.lemmas.List.{length_push}
use Rattle.std.proofs.lemmas.List.Elements.{All-push, All-same}
use Rattle.clfs_engine.specs.Work.{WorkerState, ready}
use Rattle.clfs_engine.proofs.Crews.{is_ready, rest_of}
use Rattle.clfs_engine.proofs.working.divided.Goals as goal

pub loop-preserved : goal.loop-preserved
loop-preserved g c =
    let before = c.loop.workers.items in
    let worker : c.new.result ≡ ready c.args.count =
    is_ready c.args.count c.new.result c.split.result c.new.ensures.permit c.split.ensures.new c.new.ensures.lacked in
    let more : length c.push.new.self.items ≡ length before + 1 = ap length c.in_ok-push.ensures.items ∙ length_push before c.new.result in
    let parts = c.loop.invariant.parts in
    let many = c.loop.invariant.many in
    let fewer = c.split.ensures.parts in
    record {
      permit = rest_of c.args.count c.loop.permit c.split.new.self c.loop.invariant.permit c.split.ensures.sectors c.split.ensures.parts c.split.ensures.records;
      parts = omega (arith, parts, fewer);
      many = omega (arith, more, many);
      ready = All-same (λ (w : WorkerState). w ≡ ready c.args.count) c.push.new.self.items (before ++ c.new.result ∷ []) c.in_ok-push.ensures.items
          (All-push (λ (w : WorkerState). w ≡ ready c.args.count) before c.new.result c.loop.invariant.ready worker);
    }
