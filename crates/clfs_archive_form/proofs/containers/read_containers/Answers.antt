use Rattle.clfs_archive_form.proofs.Words.{◌+◌, List, length, sym, ◌∙◌, ap, subst, refl, arith, err_from_is_err_and, Stored, container_there, Judging}
use Rattle.clfs_archive_form.proofs.Words.{RefusesAt, LieWithin}
use Rattle.clfs_archive_form.proofs.Grammar.{lie_more, none_taken, no_container, takes_one, all_taken}
use Rattle.clfs_archive_form.proofs.containers.read_containers.Goals as goal

pub loop-i-init : goal.loop-i-init
loop-i-init c =
    let j = c.args.judge.now in record {
      same = refl;
      from = omega arith;
      within = c.requires.place;
      taken = none_taken j.shape j.streams c.args.bytes.now c.args.count c.args.first c.args.at c.args.containers.now.items;
      lie = λ before. before;
    }

pub returns-in_err-stored-clause-exact : goal.returns-in_err-stored-clause-exact
returns-in_err-stored-clause-exact c =
    let p = err_from_is_err_and c.from_residual.result c.from_residual.ensures.1 in
    let j = c.args.judge.now in
    let L = c.loop-i in
    rw (p.1, p.2) (no_container j.shape j.streams c.args.bytes.now c.args.count c.args.first c.args.at c.args.containers.now.items L.containers.items L.i L.end L.invariant.taken
    c.in_err-stored.field-0.0 c.loop-i-test.true
    (subst (λ (s : Judging). RefusesAt c.in_err-stored.field-0.0 (container_there s.shape s.streams c.args.bytes.now (c.args.first + L.i) L.end)) L.invariant.same
    c.in_err-stored.ensures.exact))

pub loop-i-preserved : goal.loop-i-preserved
loop-i-preserved c =
    let j = c.args.judge.now in
    let L = c.loop-i in
    let S = c.in_ok-stored in
    let is = ap (λ (s : Judging). container_there s.shape s.streams c.args.bytes.now (c.args.first + L.i) L.end) (sym L.invariant.same) ∙ S.ensures.exact in record {
      same = c.read_container.ensures.same ∙ L.invariant.same;
      from = omega (arith, S.ensures.end.0, L.invariant.from);
      within = S.ensures.end.1;
      taken = takes_one j.shape j.streams c.args.bytes.now c.args.count c.args.first c.args.at c.args.containers.now.items L.containers.items L.i L.end L.invariant.taken
          S.stored c.push.new.containers.items (S.stored.at + S.stored.len) c.loop-i-test.true is c.in_ok-push.ensures (omega (arith, S.ensures.end.0));
      lie = λ before.
          subst (λ (l : List Stored). LieWithin (length c.args.bytes.now) l) (sym c.in_ok-push.ensures)
          (lie_more (length c.args.bytes.now) L.containers.items S.stored (L.invariant.lie before) S.ensures.end.1);
    }

pub returns-clause-exact : goal.returns-clause-exact
returns-clause-exact c =
    let j = c.args.judge.now in
    let L = c.loop-i in
    all_taken j.shape j.streams c.args.bytes.now c.args.count c.args.first c.args.at c.args.containers.now.items L.containers.items L.i L.end L.invariant.taken
    (omega (arith, c.loop-i-test.false))
