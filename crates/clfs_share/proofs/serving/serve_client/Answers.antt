use Rattle.clfs_share.proofs.Answering.{served_by, still_of}
use Rattle.clfs_share.proofs.serving.serve_client.Goals as goal

pub leave-requires : goal.leave-requires
leave-requires g c =
    let left = g.S.Source.left in
    let written = g.K.Sink.written in
    let reads = g.S.Source.faults in
    let writes = g.K.Sink.faults in
    let source = c.args.source.now in
    let sink = c.args.sink.now in
    let source' = c.answered-status.new.source in
    let sink' = c.answered-status.new.sink in
    still_of c.args.session c.new-seat.result c.answered-status.new.answering c.into_session-session.result c.args.session c.answered-status.result
    (left source) (left source') (written sink) (written sink') (reads source) (reads source') (writes sink) (writes sink')
    c.new-seat.ensures c.into_session-session.ensures c.answered-status.ensures c.args.log.now c.requires

pub returns : goal.returns
returns g c =
    let left = g.S.Source.left in
    let written = g.K.Sink.written in
    let reads = g.S.Source.faults in
    let writes = g.K.Sink.faults in
    let source = c.args.source.now in
    let sink = c.args.sink.now in
    let source' = c.answered-status.new.source in
    let sink' = c.answered-status.new.sink in
    served_by c.args.session c.new-seat.result c.answered-status.new.answering c.into_session-session.result c.leave.new.session c.answered-status.result
    (left source) (left source') (written sink) (written sink') (reads source) (reads source') (writes sink) (writes sink')
    c.new-seat.ensures c.into_session-session.ensures c.answered-status.ensures c.leave.ensures
