use Rattle.std.proofs.Common.{◌≡◌, ◌∙◌, ℕ, List, [], true, false, map, length, sym, ap, subst}
use Rattle.std.proofs.lemmas.Bool.{eqb-true}
use Rattle.clfs_turn.specs.Lists.{is_in}
use Rattle.clfs_model.specs.Journals.{ClientScript, mine}
use Rattle.clfs_race.specs.Divided.{clients_of}
use Rattle.clfs_shared.specs.Reached.{IsReached, opening_of}
use Rattle.clfs_shared.specs.Sessions.{SessionState}
use Rattle.clfs_shared.specs.declared.opening.Opening.{Opening}
use Rattle.clfs_operations.proofs.Clients.{AllMade, all_made, as_many, same_clients, new_are_of, still_of, fronts_in, all_in, clients_in_range, none_ran}
use Rattle.clfs_operations.proofs.SoFar.{stands_still}
use Rattle.clfs_operations.proofs.racing.race_followed.Goals as goal

pub returns-then-is_empty-clause-ran : goal.returns-then-is_empty-clause-ran
returns-then-is_empty-clause-ran g c =
    let none : length c.args.scripts.now ≡ 0 = eqb-true (length c.args.scripts.now) 0 (sym c.is_empty.ensures ∙ c.if-is_empty.true) in
    rw (c.untouched.ensures.manager, c.untouched.ensures.journal, c.untouched.ensures.whole)
    (none_ran c.args.manager.0 (g.D.Disk.state c.args.manager.1) c.args.scripts.now true (λ _. none))

pub returns-then-is_empty-clause-later : goal.returns-then-is_empty-clause-later
returns-then-is_empty-clause-later g c = rw c.untouched.ensures.manager (stands_still (g.D.Disk.state c.args.manager.1))

pub returns-in_default-clause-later : goal.returns-in_default-clause-later
returns-in_default-clause-later g c = rw c.untouched-in_default.ensures.manager (stands_still (g.D.Disk.state c.args.manager.1))

pub returns-in_default-clause-ran : goal.returns-in_default-clause-ran
returns-in_default-clause-ran g c =
    rw (c.untouched-in_default.ensures.manager, c.untouched-in_default.ensures.journal, c.untouched-in_default.ensures.whole)
    (none_ran c.args.manager.0 (g.D.Disk.state c.args.manager.1) c.args.scripts.now false (λ e. absurd (cc e)))

pub start_for-requires-clause-ranges : goal.start_for-requires-clause-ranges
start_for-requires-clause-ranges g c = λ k is.
    let named : c.deref.result.now ≡ clients_of c.args.scripts.now = c.deref.ensures.value ∙ c.in-Ok.ensures in
    c.requires.clients k (ap (λ (cs : List ℕ). is_in k cs) (sym named) ∙ is)

pub run_clients-requires-clause-log : goal.run_clients-requires-clause-log
run_clients-requires-clause-log g c κs within =
    let started = c.in-Ok-start_for.ensures in
    new_are_of c.in-Ok-start_for.log c.in-Ok-start_for.sessions.items started.sessions
    (λ k is. ap (λ (cs : List ℕ). is_in k cs) (started.log.1 ∙ sym started.clients) ∙ is)

pub close-manager-requires-clause-log : goal.close-manager-requires-clause-log
close-manager-requires-clause-log g c =
    let started = c.in-Ok-start_for.ensures in
    let ss : List SessionState = c.in-Ok-start_for.sessions.items in
    let ts : List SessionState = c.run_clients.new.sessions.items in
    let scripts : List ClientScript = c.args.scripts.now in
    let named : map (λ (s : SessionState). s.client) ss ≡ clients_of scripts = started.clients ∙ c.deref.ensures.value ∙ c.in-Ok.ensures in
    let made : AllMade ss ts scripts = all_made ss ts scripts (as_many ss scripts named) c.run_clients.ensures.many c.run_clients.ensures.made in
    still_of c.in-Ok-start_for.log ss ts scripts made
    (new_are_of c.in-Ok-start_for.log ss started.sessions (λ k is. ap (λ (cs : List ℕ). is_in k cs) (started.log.1 ∙ sym started.clients) ∙ is))

pub close-manager-requires-clause-all : goal.close-manager-requires-clause-all
close-manager-requires-clause-all g c = λ k is.
    let started = c.in-Ok-start_for.ensures in
    let ss : List SessionState = c.in-Ok-start_for.sessions.items in
    let ts : List SessionState = c.run_clients.new.sessions.items in
    let scripts : List ClientScript = c.args.scripts.now in
    let named : map (λ (s : SessionState). s.client) ss ≡ clients_of scripts = started.clients ∙ c.deref.ensures.value ∙ c.in-Ok.ensures in
    let made : AllMade ss ts scripts = all_made ss ts scripts (as_many ss scripts named) c.run_clients.ensures.many c.run_clients.ensures.made in
    ap (λ (cs : List ℕ). is_in k cs) (same_clients ss ts scripts made ∙ started.clients ∙ sym started.log.1) ∙ is

pub returns-in-Ok-start_for-clause-later : goal.returns-in-Ok-start_for-clause-later
returns-in-Ok-start_for-clause-later g c = c.unfollowed.ensures.follows c.args.manager.1 c.requires.begun

pub returns-in-Ok-start_for-clause-ran : goal.returns-in-Ok-start_for-clause-ran
returns-in-Ok-start_for-clause-ran g c =
    let started = c.in-Ok-start_for.ensures in
    let ss : List SessionState = c.in-Ok-start_for.sessions.items in
    let ts : List SessionState = c.run_clients.new.sessions.items in
    let scripts : List ClientScript = c.args.scripts.now in
    let closed = c.close-manager.result in
    let others = c.close-manager.ensures.others in
    let log = c.in-Ok-start_for.log in
    let clients : log.clients ≡ clients_of scripts = started.log.1 ∙ c.deref.ensures.value ∙ c.in-Ok.ensures in
    let named : map (λ (s : SessionState). s.client) ss ≡ clients_of scripts = started.clients ∙ c.deref.ensures.value ∙ c.in-Ok.ensures in
    let made : AllMade ss ts scripts = all_made ss ts scripts (as_many ss scripts named) c.run_clients.ensures.many c.run_clients.ensures.made in
    let no_others : (k : ℕ) → is_in k (clients_of scripts) ≡ false → mine closed.journal k ≡ [] = λ k out. others k (ap (λ (cs : List ℕ). is_in k cs) clients ∙ out) in
    let same : opening_of c.followed.result.0 (g.D.Disk.state c.followed.result.1) ≡ opening_of c.args.manager.0 (g.D.Disk.state c.args.manager.1) =
    λ i. opening_of (c.followed.ensures.state i) (g.D.Disk.state (c.followed.ensures.disk i)) in
    rw (c.unfollowed.ensures.state, c.unfollowed.ensures.disk)
    (record {
      reached = subst (λ (o : Opening). IsReached o (g.D.Disk.state closed.manager.1) closed.manager.0 closed.journal) (started.log.0 ∙ same) c.close-manager.ensures.reached;
      fronts = fronts_in closed.journal log ss ts scripts made started.sessions named c.close-manager.ensures.sessions no_others;
      all = λ w. all_in closed.journal log ss ts scripts made started.sessions named c.close-manager.ensures.sessions no_others (sym c.has_all-whole.ensures ∙ w);
      clients = clients_in_range closed.journal log ss ts scripts made started.sessions named c.close-manager.ensures.sessions no_others c.requires.clients;
    })

pub returns-clause-later : goal.returns-clause-later
returns-clause-later g c =
    rw c.untouched-in-Err.ensures.manager (c.unfollowed-in-Err.ensures.follows c.args.manager.1 c.requires.begun)

pub returns-clause-ran : goal.returns-clause-ran
returns-clause-ran g c =
    let state = ap (λ m. m.0) c.untouched-in-Err.ensures.manager ∙ c.unfollowed-in-Err.ensures.state ∙ ap (λ m. m.0) c.in-Err.ensures.refused ∙ c.followed.ensures.state in
    let disk = ap (λ m. m.1) c.untouched-in-Err.ensures.manager ∙ c.unfollowed-in-Err.ensures.disk ∙ ap (λ m. m.1) c.in-Err.ensures.refused ∙ c.followed.ensures.disk in
    let same : c.untouched-in-Err.result.manager ≡ c.args.manager = λ i. (state i, disk i) in
    rw (same, c.untouched-in-Err.ensures.journal, c.untouched-in-Err.ensures.whole)
    (none_ran c.args.manager.0 (g.D.Disk.state c.args.manager.1) c.args.scripts.now false (λ e. absurd (cc e)))
