use Rattle.clfs_txn.proofs.Words.{ap, ◌∙◌, sym, subst, length, Nature, load_area, Memory, CrashLeaves}
use Rattle.clfs_model.specs.Conditions.{IsClient}
use Rattle.clfs_txn.proofs.Joined.{tells_on, writes_then}
use Rattle.clfs_txn.proofs.LoadParts.{from_same}
use Rattle.clfs_txn.proofs.LoadWhole.{load_is, load_then, so_loaded, so_refused, unread_by, writes_not_made}
use Rattle.clfs_txn.proofs.LoadMoments.{load_meanwhile}
use Rattle.clfs_txn.proofs.table.TableLog.load.Goals as goal

pub over-requires-clause-client : goal.over-requires-clause-client
over-requires-clause-client g c = subst IsClient (sym (ap (λ (x : Memory). x.client) c.in-Ok.ensures.memory)) c.requires.client

pub over-requires-clause-none : goal.over-requires-clause-none
over-requires-clause-none g c = ap (λ (x : Memory). x.transactions) c.in-Ok.ensures.memory

pub loaded-requires-clause-unread : goal.loaded-requires-clause-unread
loaded-requires-clause-unread g c = unread_by _ c.in-Ok.memory c.over.result.0.memory c.in-Ok.ensures.memory c.over.ensures.memory

pub returns-in-Ok-clause-step : goal.returns-in-Ok-clause-step
returns-in-Ok-clause-step g c =
    load_then _ _ _ _ c.make_area.new.manager.0 c.over.result.0.log _ c.in-Ok.memory c.over.result.0.memory _
    (ap (λ (n : Nature). n.tells_contents) (ap (λ d. (g.D.Disk.state d).nature) c.over.ensures.disk ∙ c.in-Ok.ensures.writes.time.nature))
    (ap (λ (x : Memory). x.client) c.in-Ok.ensures.memory) c.over.ensures.memory c.over.ensures.log c.in-Ok.ensures.records
    (c.in-Ok.ensures.step _ (load_area (length c.args.manager.0.records) c.args.client)) c.loaded.ensures.step

pub returns-in-Ok-clause-loaded : goal.returns-in-Ok-clause-loaded
returns-in-Ok-clause-loaded g c =
    so_loaded c.loaded.result (λ store. store.0.memory) (λ refused. refused.cause) (λ store. store.0.log) (λ refused. refused.manager.0) _ _ _
    (λ m t. c.loading_comes_to_the_table.ensures.loaded _ _ _ m t c.stored.ensures.valid c.requires.area) (returns-in-Ok-clause-step g c)

pub returns-in-Ok-clause-refused : goal.returns-in-Ok-clause-refused
returns-in-Ok-clause-refused g c =
    so_refused c.loaded.result (λ store. store.0.memory) (λ refused. refused.cause) (λ store. store.0.log) (λ refused. refused.manager.0) _ _ _
    (λ cause t. c.loading_comes_to_the_table.ensures.refused _ _ _ cause t c.stored.ensures.valid c.requires.area) (returns-in-Ok-clause-step g c)

pub returns-in-Ok-clause-writes : goal.returns-in-Ok-clause-writes
returns-in-Ok-clause-writes g c =
    writes_then _ _ _ _ _ (λ f. absurd (cc f)) c.in-Ok.ensures.writes
    (from_same _ _ _ _ (ap (λ d. g.D.Disk.state d) c.over.ensures.disk) c.loaded.ensures.writes)

pub returns-in-Ok-clause-damage : goal.returns-in-Ok-clause-damage
returns-in-Ok-clause-damage g c = λ tells.
    c.loaded.ensures.damage (tells_on (g.D.Disk.state c.args.manager.1) (g.D.Disk.state c.over.result.1) (ap (λ d. (g.D.Disk.state d).nature) c.over.ensures.disk ∙ c.in-Ok.ensures.writes.time.nature) tells)

pub returns-in-Ok-clause-stopped : goal.returns-in-Ok-clause-stopped
returns-in-Ok-clause-stopped g c = λ broken. let whole = c.in-Ok.ensures.was_whole in absurd (cc (broken, whole))

pub returns-in-Err-clause-step : goal.returns-in-Err-clause-step
returns-in-Err-clause-step g c = load_is _ _ _ _ _ (c.in-Err.ensures.step _ (load_area (length c.args.manager.0.records) c.args.client))

pub returns-in-Err-clause-refused : goal.returns-in-Err-clause-refused
returns-in-Err-clause-refused g c =
    c.loading_comes_to_the_table.ensures.refused _ _ _ _ _ c.stored.ensures.valid c.requires.area (returns-in-Err-clause-step g c)

pub returns-in-Err-clause-writes : goal.returns-in-Err-clause-writes
returns-in-Err-clause-writes g c = writes_not_made _ _ c.in-Err.refusal c.in-Err.ensures.writes

pub returns-in-Ok-clause-moments : goal.returns-in-Ok-clause-moments
returns-in-Ok-clause-moments g c = λ under whole present along.
    load_meanwhile under _ _ _ _ c.make_area.new.manager.0 c.over.result.0.log c.in-Ok.memory c.over.result.0.memory _ _ _
    (ap (λ (n : Nature). n.tells_contents) (ap (λ d. (g.D.Disk.state d).nature) c.over.ensures.disk ∙ c.in-Ok.ensures.writes.time.nature))
    (ap (λ (x : Memory). x.client) c.in-Ok.ensures.memory) c.over.ensures.memory c.over.ensures.log c.in-Ok.ensures.records
    (ap (λ d. (g.D.Disk.state d).nature) c.over.ensures.disk ∙ c.in-Ok.ensures.writes.time.nature)
    (c.in-Ok.ensures.step _ (load_area (length c.args.manager.0.records) c.args.client))
    (subst (λ d. CrashLeaves under (g.D.Disk.state c.args.manager.1) (g.D.Disk.state d)) (sym c.over.ensures.disk) (c.in-Ok.ensures.moments under whole (along.0 whole)))
    along (c.loaded.ensures.moments under)

pub returns-in-Err-clause-moments : goal.returns-in-Err-clause-moments
returns-in-Err-clause-moments g c = λ under whole present along. c.in-Err.ensures.moments under whole (along.0 whole)
