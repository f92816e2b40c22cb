use Rattle.clfs_race.proofs.Words.{◌∙◌, ap, List, [], ◌∷◌, ◌++◌, slice_set, ClientScript}
use Rattle.clfs_race.proofs.Gathering.{found_and_pushed, none_and_added}
use Rattle.clfs_race.proofs.Outcomes.{on_ok}
use Rattle.clfs_race.proofs.dividing.add_call.Goals as goal

pub returns-in-Some : goal.returns-in-Some
returns-in-Some c =
    let scripts : List ClientScript = c.args.scripts.now.items in
    on_ok c.push.result _ _
    (λ pushed. ap (λ (s : ClientScript). slice_set scripts c.in-Some.place s) pushed
    ∙ found_and_pushed scripts c.deref.result.now c.args.client c.in-Some.place c.args.call c.index_mut.result.now c.place_of.result c.deref.ensures.value c.place_of.ensures
    c.in-Some.is c.index_mut.ensures.value)
    c.push.ensures

pub returns-in_ok-push-in-None : goal.returns-in_ok-push-in-None
returns-in_ok-push-in-None c =
    let scripts : List ClientScript = c.args.scripts.now.items in
    c.in_ok-push-in-None.ensures.items ∙ ap (λ (s : ClientScript). scripts ++ s ∷ []) c.in_ok-new-in-None.ensures
    ∙ none_and_added scripts c.deref.result.now c.args.client c.args.call c.place_of.result c.deref.ensures.value c.place_of.ensures c.in-None.is
