use Rattle.clfs_manager.proofs.Words.{◌∙◌, List, sym, stream_heads, Head}
use Rattle.clfs_tables.specs.Tables.{restarts_of}
use Rattle.clfs_manager.proofs.KeptHeads.{counted, is_number}
use Rattle.clfs_manager.proofs.manager.Manager.restarts_kept.Goals as goal

pub restarts_kept-requires : goal.restarts_kept-requires
restarts_kept-requires g c =
    let log = c.self.inside.log in
    let memory = (c.self.invariant.whole c.if-self.false).memory in
    record { there = is_number log.state.value log c.args.stream c.in_ok-base.field-0 c.base.result memory (c.base.ensures log.state.value (sym memory.streams)) c.in_ok-base.was }

pub returns : goal.returns
returns g c =
    let log = c.self.inside.log in
    let opened = c.self.invariant.whole c.if-self.false in
    counted log c.args.self.now c.self.inside.disk (λ (heads : List Head). restarts_of (stream_heads c.args.stream heads)) c.restarts_kept.result c.args.stream c.in_ok-base.field-0 c.base.result
    c.self.view_is opened.memory opened.forgotten (c.self.invariant.broken ∙ c.if-self.false) (c.base.ensures log.state.value (sym opened.memory.streams)) c.in_ok-base.was
    c.restarts_kept.ensures.all c.restarts_kept.ensures.few
