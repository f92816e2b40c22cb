use Rattle.std.proofs.Common.{suc, arith, List, ◌∷◌, ◌≡◌, ◌⊎◌, ap, subst, sym, ◌∙◌, ℕ, ◌+◌, take}
use Rattle.clfs_disk.specs.Files.{Unchanged}
use Rattle.clfs_disk.specs.State.{IsSettled}
use Rattle.clfs_planned.specs.Carrying.{CarriesOut}
use Rattle.clfs_planned.specs.declared.call.History.{History}
use Rattle.clfs_planned.specs.declared.call.Call.{Call}
use Rattle.clfs_planned.specs.declared.call.Call.TheVariants.{Sync}
use Rattle.clfs_planned.specs.Moments.{Moment, moment_of, start_of, at_rest, moment_after, after}
use Rattle.clfs_planned.proofs.Carried.{Agrees, agrees_opened, agrees_all, agrees_first, meanwhile, moment_push, take_next}
use Rattle.clfs_planned.proofs.laws.plans_carry_over.Goals as goal

next : (m : ℕ) → m + 1 ≡ suc m
next m = omega arith

pub returns : goal.returns
returns g c =
    let state = g.D.Disk.state in
    let agree : (past : History) (m : ℕ) (a b : g.row.D.Denot) → IsSettled (state a) → Unchanged (start_of past) (state a).files
    → CarriesOut state (take m past.calls) a b → Agrees (moment_of past m) (state b) =
    λ past m a b settled same carried. agrees_all state (take m past.calls) (at_rest (start_of past)) a b (agrees_first state (start_of past) a settled same) carried in
    record {
      files = λ past m a b settled same carried. (agree past m a b settled same carried).files;
      images = λ past m a b settled same carried. (agree past m a b settled same carried).images;
      opened = λ past rest m a b honest same is carried.
          let all : take (m + 1) past.calls ≡ Sync ∷ take m rest = ap (take (m + 1)) is ∙ ap (λ (n : ℕ). take n (Sync ∷ rest)) (next m) in
          λ image at. subst (λ (l : List Call). (moment_after (at_rest (start_of past)) l).left image) (sym all)
          ((agrees_opened state (take m rest) (start_of past) a b honest same (subst (λ (l : List Call). CarriesOut state l a b) all carried)).images image at);
      under_way = λ past m call a b d settled same carried is tries moment image from until at.
          let next : moment_of past (m + 1) ≡ after call (moment_of past m) = ap (moment_after (at_rest (start_of past))) (take_next past.calls m call is)
          ∙ moment_push (at_rest (start_of past)) (take m past.calls) call in
          subst (λ (n : Moment). (moment_of past m).left image ⊎ n.left image) (sym next)
          (meanwhile state call (moment_of past m) b d (agree past m a b settled same carried) tries moment image from until at);
    }
