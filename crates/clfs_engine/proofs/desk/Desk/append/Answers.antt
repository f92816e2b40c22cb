use Rattle.std.proofs.Common.{sym, subst, arith}
use Rattle.clfs_shared.specs.Sessions.{SharedState, IsOf}
use Rattle.clfs_engine.proofs.Crews.{one_appended}
use Rattle.clfs_engine.proofs.desk.Desk.append.Goals as goal

pub append-requires-clause-log : goal.append-requires-clause-log
append-requires-clause-log g c = subst (λ (log : SharedState). IsOf log c.args.self.now.area.session) (sym c.requires.log) c.args.self.now.works.of

pub append-requires-clause-bytes : goal.append-requires-clause-bytes
append-requires-clause-bytes g c = let bytes = c.requires.record.bytes in omega (arith, bytes)

pub returns-in-Ok-clause-ok : goal.returns-in-Ok-clause-ok
returns-in-Ok-clause-ok g c = one_appended c.args.permit.now c.append.new.permit c.args.draft.now c.requires.record c.in-Ok.ensures.permit.0
    c.in-Ok.ensures.permit.1.0 c.in-Ok.ensures.permit.1.1
