use Rattle.clfs_archive_form.proofs.Words.{List, ◌++◌, length, sym, ◌∙◌, ap, subst, arith, All-nil, err_from_is_err_and, Demands, Stored, archive_there}
use Rattle.clfs_archive_form.proofs.Words.{RefusesAt, LieWithin, Suits, IsReadableAs, AreReadable}
use Rattle.clfs_archive_form.proofs.Grammar.{ReadTo, first_refused, first_read, next_refused, next_read, all_read}
use Rattle.clfs_archive_form.proofs.Readable.{readable_later}
use Rattle.clfs_archive_form.proofs.archives.read_archives.Goals as goal

pub returns-in_err-first-clause-exact : goal.returns-in_err-first-clause-exact
returns-in_err-first-clause-exact c =
    let p = err_from_is_err_and c.from_residual.result c.from_residual.ensures.1 in
    rw (p.1, p.2) (first_refused c.args.bytes.now c.in_err-first.field-0.0
    (subst (λ (d : Demands). RefusesAt c.in_err-first.field-0.0 (archive_there d c.args.bytes.now 0)) c.first_demands.ensures c.in_err-first.ensures.exact))

pub loop-at-init : goal.loop-at-init
loop-at-init c =
    let bytes = c.args.bytes.now in
    let first = c.in_ok-first.first in
    let x = c.in_ok-first.ensures.exact in
    let all = x.2 ∙ ap (λ (l : List Stored). l ++ x.0) c.new-containers.ensures.items in record {
      within = c.in_ok-first.ensures.end.1;
      copy = c.in_ok-first.ensures.image;
      read = subst (λ (l : List Stored). ReadTo bytes first.0 l first.1) (sym all)
          (first_read bytes first.0 x.0 first.1 (ap (λ (d : Demands). archive_there d bytes 0) (sym c.first_demands.ensures) ∙ x.1)
          (omega (arith, c.in_ok-first.ensures.end.0)));
      lie = c.in_ok-first.ensures.within (subst (λ (l : List Stored). LieWithin (length bytes) l) (sym c.new-containers.ensures.items) tt);
      tail = c.in_ok-first.ensures.suits.tail;
      readable = c.in_ok-first.ensures.readable (subst (λ (l : List Stored). AreReadable bytes first.0 l) (sym c.new-containers.ensures.items)
          (All-nil (IsReadableAs bytes first.0)));
    }

pub returns-in_err-next-clause-exact : goal.returns-in_err-next-clause-exact
returns-in_err-next-clause-exact c =
    let p = err_from_is_err_and c.from_residual-in_err-next.result c.from_residual-in_err-next.ensures.1 in
    let bytes = c.args.bytes.now in
    let L = c.loop-at in
    rw (p.1, p.2) (next_refused bytes L.image L.containers.items L.at L.invariant.read c.in_err-next.field-0.0 c.loop-at-test.true
    (subst (λ (d : Demands). RefusesAt c.in_err-next.field-0.0 (archive_there d bytes L.at)) c.later_demands-demands.ensures c.in_err-next.ensures.exact))

pub loop-at-preserved : goal.loop-at-preserved
loop-at-preserved c =
    let bytes = c.args.bytes.now in
    let L = c.loop-at in
    let next = c.in_ok-next.next in
    let x = c.in_ok-next.ensures.exact in record {
      within = c.in_ok-next.ensures.end.1;
      copy = c.in_ok-next.ensures.image;
      read = next_read bytes L.image L.containers.items L.at L.invariant.read next.0 x.0 c.read_archive-in-loop-at.new.containers.items next.1 c.loop-at-test.true
          (ap (λ (d : Demands). archive_there d bytes L.at) (sym c.later_demands-demands.ensures) ∙ x.1) x.2 c.in_ok-next.ensures.end.0;
      lie = c.in_ok-next.ensures.within L.invariant.lie;
      tail = c.in_ok-next.ensures.suits.tail;
      readable = c.in_ok-next.ensures.readable (readable_later c.records_are_read_of_their_block.ensures.more bytes L.image next.0 L.containers.items
          (subst (λ (d : Demands). Suits d next.0) c.later_demands-demands.ensures c.in_ok-next.ensures.suits) L.invariant.readable);
    }

pub returns-clause-exact : goal.returns-clause-exact
returns-clause-exact c =
    let L = c.loop-at in
    rw c.from_vec.ensures (all_read c.args.bytes.now L.image L.containers.items L.at L.invariant.read (omega (arith, c.loop-at-test.false)))

pub returns-clause-within : goal.returns-clause-within
returns-clause-within c = rw c.from_vec.ensures c.loop-at.invariant.lie

pub returns-clause-readable : goal.returns-clause-readable
returns-clause-readable c = rw c.from_vec.ensures (record { tail = c.loop-at.invariant.tail; containers = c.loop-at.invariant.readable })
