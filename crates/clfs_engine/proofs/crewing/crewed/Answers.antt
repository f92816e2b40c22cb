use Rattle.std.proofs.Common.{◌≡◌, ◌∙◌, List, [], ◌∷◌, ◌++◌, true, ap, subst, arith}
use Rattle.std.specs.Prelude.{All}
use Rattle.std.proofs.lemmas.List.Elements.{All-head}
use Rattle.std.proofs.lemmas.Result.{IfOk-weaker}
use Rattle.clfs_turn.specs.Seats.{HasSeen}
use Rattle.clfs_shared.specs.declared.opening.Opening.{Opening}
use Rattle.clfs_shared.specs.Journal.{client_of}
use Rattle.clfs_shared.specs.Sessions.{SessionState}
use Rattle.clfs_engine.specs.Crew.{crew_log}
use Rattle.clfs_engine.proofs.Crews.{first_of, again_of, all_clients, never_fails, only_client, tells_crew}
use Rattle.clfs_engine.proofs.crewing.crewed.Goals as goal

pub start_told-requires-clause-ranges : goal.start_told-requires-clause-ranges
start_told-requires-clause-ranges g c = λ k inside. let one : k ≡ 1 = only_client k inside in record { least = omega (arith, one); greatest = omega (arith, one) }

pub worked-requires-clause-calm : goal.worked-requires-clause-calm
worked-requires-clause-calm g c κs within =
    let disk = g.D.Disk.state c.args.manager.1 in
    never_fails c.in-Ok.log c.args.manager.0 disk c.in-Ok.ensures.log.0 c.requires.state c.requires.told c.requires.steady
    (c.whole_files_pass_the_test.ensures.passes disk.files c.requires.whole)

pub worked-requires-clause-none : goal.worked-requires-clause-none
worked-requires-clause-none g c κs within =
    (first_of c.in-Ok.log c.in-Ok.sessions.items c.pop.new.self.items c.in-Some.session c.in-Some.ensures.items c.in-Ok.ensures.clients c.in-Ok.ensures.belong
    c.in-Ok.ensures.sessions).1.1

pub close-manager-requires-clause-log : goal.close-manager-requires-clause-log
close-manager-requires-clause-log g c =
    let first = first_of c.in-Ok.log c.in-Ok.sessions.items c.pop.new.self.items c.in-Some.session c.in-Some.ensures.items c.in-Ok.ensures.clients
    c.in-Ok.ensures.belong c.in-Ok.ensures.sessions in
    again_of c.in-Ok.log c.push.new.self.items c.pop.new.self.items c.in_ok-ended.ended.session c.in_ok-push.ensures.items first.0 c.in_ok-ended.ensures.of

pub close-manager-requires-clause-all : goal.close-manager-requires-clause-all
close-manager-requires-clause-all g c =
    let first = first_of c.in-Ok.log c.in-Ok.sessions.items c.pop.new.self.items c.in-Some.session c.in-Some.ensures.items c.in-Ok.ensures.clients
    c.in-Ok.ensures.belong c.in-Ok.ensures.sessions in
    all_clients c.in-Ok.log c.push.new.self.items c.pop.new.self.items c.in_ok-ended.ended.session c.in_ok-push.ensures.items first.0 c.in_ok-ended.ensures.of
    c.in-Ok.ensures.log.1

pub returns : goal.returns
returns g c =
    let log = c.in-Ok.log in
    let ended = c.in_ok-ended.ended in
    let closed = c.close-manager.result in
    let disk = g.D.Disk.state c.args.manager.1 in
    let first = first_of log c.in-Ok.sessions.items c.pop.new.self.items c.in-Some.session c.in-Some.ensures.items c.in-Ok.ensures.clients c.in-Ok.ensures.belong
    c.in-Ok.ensures.sessions in
    let alone : c.push.new.self.items ≡ ended.session ∷ [] = c.in_ok-push.ensures.items ∙ ap (λ (ss : List SessionState). ss ++ ended.session ∷ []) first.0 in
    let begins : log.opening.state ≡ crew_log = ap (λ (o : Opening). o.state) c.in-Ok.ensures.log.0 ∙ c.requires.state in
    let told : disk.nature.tells_contents ≡ true = c.requires.told in
    let tells : log.opening.tells_contents ≡ true = ap (λ (o : Opening). o.tells_contents) c.in-Ok.ensures.log.0 ∙ told in
    let seen : HasSeen client_of closed.journal ended.session =
    All-head (λ (s : SessionState). HasSeen client_of closed.journal s) ended.session []
    (subst (λ (ss : List SessionState). All (λ (s : SessionState). HasSeen client_of closed.journal s) ss) alone c.close-manager.ensures.sessions) in
    IfOk-weaker c.crew_text.result _ _
    (λ text is. tells_crew log ended.session c.args.threads c.args.count ended.area ended.held ended.records closed.journal closed.manager.0 text
    c.held_is_by_own_entries.ensures begins tells c.in-Ok.ensures.log.1 c.in_ok-ended.ensures seen c.close-manager.ensures.others
    c.close-manager.ensures.reached.legal is)
    c.crew_text.ensures
