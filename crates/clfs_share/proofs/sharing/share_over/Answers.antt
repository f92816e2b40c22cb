use Rattle.std.proofs.Common.{◌∙◌, ℕ, List, ap, sym, length, reverse, arith}
use Rattle.std.proofs.lemmas.List.{length-map, length-reverse}
use Rattle.clfs_shared.specs.Sessions.{SessionState}
use Rattle.clfs_share.proofs.Ending.{ended_length}
use Rattle.clfs_share.proofs.Numbers.{range_length}
use Rattle.clfs_share.proofs.Returning.{all_back_there, back_belong, belong, heard, others_none}
use Rattle.clfs_share.proofs.sharing.share_over.Goals as goal

pub joined-clients-requires-clause-many : goal.joined-clients-requires-clause-many
joined-clients-requires-clause-many g c =
    sym (length-map c.args.sessions.items (λ (s : SessionState). s.client))
    ∙ ap (λ (z : List ℕ). length z) (c.requires.clients.0 ∙ c.requires.clients.1)
    ∙ range_length 1 (length c.args.openers.items)

pub run_clients-clients-requires-after_bounds : goal.run_clients-clients-requires-after_bounds
run_clients-clients-requires-after_bounds g c κs within =
    record { each = belong c.args.log c.args.sessions.items c.joined-clients.result.items c.joined-clients.ensures.sessions c.requires.log }

pub parted-requires-clause-room : goal.parted-requires-clause-room
parted-requires-clause-room g c =
    let olds = c.joined-clients.result.items in
    let many = ended_length g.C.Service.serves olds c.run_clients-clients.result.items
    c.run_clients-clients.ensures in
    let as_openers = ap (λ z. length z) c.joined-clients.ensures.openers in
    let mapped = length-map (reverse olds) (λ client. g.C.Begins.begun_by client.service) in
    let turned = length-reverse olds in
    (omega (arith, many, as_openers, mapped, turned, c.requires.sessions.1), omega (arith, many, as_openers, mapped, turned, c.requires.ended.1))

pub close-manager-requires-clause-log : goal.close-manager-requires-clause-log
close-manager-requires-clause-log g c =
    back_belong g.C.Begins.begun_by g.C.Service.serves c.args.log c.args.sessions.items c.parted.new.sessions.items
    c.joined-clients.result.items c.run_clients-clients.result.items c.joined-clients.ensures.sessions c.parted.ensures.sessions c.run_clients-clients.ensures
    c.requires.log

pub close-manager-requires-clause-all : goal.close-manager-requires-clause-all
close-manager-requires-clause-all g c =
    all_back_there g.C.Begins.begun_by g.C.Service.serves c.args.log c.args.sessions.items
    c.parted.new.sessions.items c.joined-clients.result.items c.run_clients-clients.result.items c.joined-clients.ensures.sessions c.parted.ensures.sessions
    c.run_clients-clients.ensures c.requires.clients.0

pub returns-clause-clients : goal.returns-clause-clients
returns-clause-clients g c =
    heard g.C.Begins.begun_by g.C.Service.serves c.args.log c.args.sessions.items c.parted.new.sessions.items
    c.joined-clients.result.items c.run_clients-clients.result.items c.joined-clients.ensures.sessions c.parted.ensures.sessions c.run_clients-clients.ensures
    c.close-manager.result.journal c.args.openers.items c.parted.new.ended.items
    c.joined-clients.ensures.openers c.parted.ensures.ended c.requires.new c.requires.clients.0 c.requires.clients.1 c.close-manager.ensures.sessions

pub returns-clause-others : goal.returns-clause-others
returns-clause-others g c =
    others_none c.args.log.clients (length c.args.openers.items) c.close-manager.result.journal c.requires.clients.1 c.close-manager.ensures.others
