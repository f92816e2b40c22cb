-- Runs join and part.
use Rattle.clfs_laws.proofs.Words.{Bool, refl, ap, subst, List, [], ◌∷◌, ◌++◌, Happened, Reply, State, Request, Run}
use Rattle.clfs_laws.specs.Fronts.{RunsBy}

pub run_joined : (told : Bool) (s mid t : State) (front rest : List Request) (of_front of_rest : List Happened) (replies more : List Reply)
    → Run told s front of_front replies mid → Run told mid rest of_rest more t → Run told s (front ++ rest) (of_front ++ of_rest) (replies ++ more) t
run_joined told s mid t [] rest [] of_rest [] more first second = let F : State → Type 0 = λ x. Run told x rest of_rest more t in subst F first second
run_joined told s mid t [] rest [] of_rest (reply ∷ replies) more first second = absurd first
run_joined told s mid t [] rest (h ∷ hs) of_rest replies more first second = absurd first
run_joined told s mid t (request ∷ front) rest [] of_rest replies more first second = absurd first
run_joined told s mid t (request ∷ front) rest (h ∷ hs) of_rest [] more first second = absurd first
run_joined told s mid t (request ∷ front) rest (h ∷ hs) of_rest (reply ∷ replies) more first second =
    (first.0, (first.1.0, run_joined told first.0 mid t front rest hs of_rest replies more first.1.1 second))

pub run_parted : (told : Bool) (s t : State) (front rest : List Request) (happened : List Happened) (replies : List Reply)
    → Run told s (front ++ rest) happened replies t → RunsBy told s front rest happened replies t
run_parted told s t [] rest happened replies run = record {
  mid = s;
  of_front = [];
  of_rest = happened;
  to_front = [];
  to_rest = replies;
  happened_is = refl;
  replies_are = refl;
  first = refl;
  second = run;
}
run_parted told s t (request ∷ front) rest [] replies run = absurd run
run_parted told s t (request ∷ front) rest (h ∷ hs) [] run = absurd run
run_parted told s t (request ∷ front) rest (h ∷ hs) (reply ∷ replies) run =
    let others = run_parted told run.0 t front rest hs replies run.1.1 in record {
      mid = others.mid;
      of_front = h ∷ others.of_front;
      of_rest = others.of_rest;
      to_front = reply ∷ others.to_front;
      to_rest = others.to_rest;
      happened_is = ap (λ (more : List Happened). h ∷ more) others.happened_is;
      replies_are = ap (λ (more : List Reply). reply ∷ more) others.replies_are;
      first = (run.0, (run.1.0, others.first));
      second = others.second;
    }
