use Rattle.std.proofs.Common.{◌≡◌, ◌∙◌, ◌<◌, ◌++◌, ◌∷◌, [], ℕ, List, ap, drop, length, map, sym, subst, take}
use Rattle.std.specs.Prelude.{slice_index_or, sum_by}
use Rattle.std.proofs.lemmas.List.{take_at}
use Rattle.clfs_shared.specs.Sessions.{SessionState}
use Rattle.clfs_engine.specs.Commits.{IsGathered, MemberState, client_of_member}
use Rattle.clfs_engine.proofs.Gathered.{gathered_all}
use Rattle.clfs_engine.proofs.crowding.gathered.Given.{Over}
use Rattle.clfs_engine.proofs.crowding.gathered.Goals as goal

-- the sessions that come back, which are all that were handed in
all_sessions : (g : Over) (c : goal.In_ok-push g) → IsGathered c.args.log.now c.args.count c.push.new.self.items c.in_ok-sessions.field-0.records c.in_ok-sessions.field-0.stable
    × (map (λ (s : SessionState). s.client) c.push.new.self.items ≡ map (λ (s : SessionState). s.client) c.args.sessions.items)
all_sessions g c =
    let totals = c.in_ok-sessions.field-0 in
    let told = c.in_ok-sessions.ensures in
    let done = c.in_ok-session.ensures in
    let before : List MemberState = c.in_ok-members.members.items in
    let after : List MemberState = c.committed.new.members in
    let lent = c.as_mut_slice.ensures in
    let front : take c.in_ok-members.members.len (after ++ drop (length after) before) ≡ after =
    take_at after (drop (length after) before) c.in_ok-members.members.len (c.committed.auto.members ∙ lent.len) in
    let of_session : MemberState → SessionState = λ m. m.session in
    let of_records : MemberState → ℕ = λ m. m.records in
    let of_stable : MemberState → ℕ = λ m. m.stable in
    gathered_all c.args.log.now c.args.count totals.records totals.stable c.args.sessions.items c.pop.new.self.items c.push.new.self.items c.in-Some.session
    c.in_ok-session.session before after c.in-Some.ensures.items c.in_ok-members.ensures.clients (c.committed.auto.members ∙ ap length lent.value)
    (λ k d less. done.clients k d (subst (λ (n : ℕ). k < n) (sym (ap length lent.value)) less)
    ∙ ap (λ (ms : List MemberState). client_of_member (slice_index_or ms k d)) lent.value)
    (done.client ∙ c.in_ok-stream.ensures.same.client) done.members done.quiet
    (◌∙◌ {A = List SessionState} c.in_ok-push.ensures.items
    (ap (λ (ss : List SessionState). ss ++ c.in_ok-session.session ∷ []) (told.sessions ∙ ap (map of_session) front)))
    (told.records ∙ ap (sum_by of_records) front) (told.stable ∙ ap (sum_by of_stable) front)

pub returns-clause-gathered : goal.returns-clause-gathered
returns-clause-gathered g c = (all_sessions g c).0

pub returns-clause-clients : goal.returns-clause-clients
returns-clause-clients g c = (all_sessions g c).1
