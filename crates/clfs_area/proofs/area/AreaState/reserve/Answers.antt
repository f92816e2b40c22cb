use Rattle.std.proofs.Common.{◌≡◌, ◌+◌, arith, refl, sym, ◌∙◌}
use Rattle.clfs_model.specs.declared.call.Call.TheVariants as calls
use Rattle.clfs_model.specs.Space.{own_sum}
use Rattle.clfs_area.specs.Areas.{AreaBooks, books_of, row_of_books}
use Rattle.clfs_area.proofs.Books.{kept_refused, kept_reserved}
use Rattle.clfs_area.proofs.area.AreaState.reserve.Goals as goal

pub invariant_of-self-in-Err : goal.invariant_of-self-in-Err
invariant_of-self-in-Err g c = let f = c.self.inside in record {
  kept = kept_refused (books_of f.session f.number f.stream f.largest f.reads f.held f.placed) c.reserve_more.new.session
      (calls.Reserve f.number c.args.sizes.now) c.in-Err.refusal (record { row = λ _. refl; held = λ _. refl; placed = λ _. refl })
      c.reserve_more.ensures.same c.in-Err.ensures.asked c.self.invariant.kept;
  held = c.self.invariant.held ∙ sym c.audit.ensures.total;
  placed = c.self.invariant.placed;
}

pub invariant_of-self : goal.invariant_of-self
invariant_of-self g c = let f = c.self.inside in
    let a : AreaBooks = books_of f.session f.number f.stream f.largest f.reads f.held f.placed in
    let holds : c.in-Ok.held ≡ f.held + own_sum c.args.sizes.now = c.in-Ok.ensures.held (row_of_books a) c.self.invariant.kept.row in
    let total = c.audit.ensures.total in
    let more = c.add.ensures.total in
    let is = c.self.invariant.held in record {
      kept = kept_reserved a c.reserve_more.new.session c.args.sizes.now c.in-Ok.held c.reserve_more.ensures.same (c.in-Ok.ensures.asked.step refl) c.self.invariant.kept;
      held = omega (arith, holds, total, more, is);
      placed = c.self.invariant.placed;
    }
