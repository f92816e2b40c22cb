use Rattle.std.proofs.Common.{◌≡◌, ◌-◌, arith, refl, sym, ap, ◌∙◌}
use Rattle.clfs_model.specs.declared.call.Call.TheVariants as calls
use Rattle.clfs_area.specs.Areas.{AreaBooks, PermitState, books_of, row_of_books}
use Rattle.clfs_area.proofs.Books.{kept_refused, kept_released}
use Rattle.clfs_area.proofs.area.AreaState.give_back.Goals as goal

pub invariant_of-self-in-Err : goal.invariant_of-self-in-Err
invariant_of-self-in-Err g c = let f = c.self.inside in record {
  kept = kept_refused (books_of f.session f.number f.stream f.largest f.reads f.held f.placed) c.release.new.session
      (calls.Release f.number c.permit.inside.sectors) c.in-Err.refusal (record { row = λ _. refl; held = λ _. refl; placed = λ _. refl })
      c.release.ensures.same c.in-Err.ensures.asked c.self.invariant.kept;
  held = c.self.invariant.held ∙ sym c.audit.ensures.total;
  placed = c.self.invariant.placed;
}

pub invariant_of-self : goal.invariant_of-self
invariant_of-self g c = let f = c.self.inside in
    let a : AreaBooks = books_of f.session f.number f.stream f.largest f.reads f.held f.placed in
    let holds : c.in-Ok.held ≡ f.held - c.permit.inside.sectors = c.in-Ok.ensures.held (row_of_books a) c.self.invariant.kept.row in
    let total = c.audit.ensures.total in
    let less = c.sub.ensures.total in
    let is = c.self.invariant.held in record {
      kept = kept_released a c.release.new.session c.permit.inside.sectors c.in-Ok.held c.release.ensures.same (c.in-Ok.ensures.asked.step refl) c.self.invariant.kept;
      held = omega (arith, holds, total, less, is);
      placed = c.self.invariant.placed;
    }

pub returns-in-Ok-clause-book : goal.returns-in-Ok-clause-book
returns-in-Ok-clause-book g c = let f = c.self.inside in
    let a : AreaBooks = books_of f.session f.number f.stream f.largest f.reads f.held f.placed in
    let holds : c.in-Ok.held ≡ f.held - c.permit.inside.sectors = c.in-Ok.ensures.held (row_of_books a) c.self.invariant.kept.row in
    let bound = c.audit.ensures.bound in let has = c.permit.invariant.sectors_are in let is = c.self.invariant.held in
    let was : f.held ≡ c.args.self.now.sectors = ap (λ (b : AreaBooks). b.sectors) c.self.view_is in
    let had : c.permit.inside.sectors ≡ c.args.permit.now.sectors = ap (λ (p : PermitState). p.sectors) c.permit.view_is in
    (omega (arith, holds, bound, has, is, was, had), ap (λ (b : AreaBooks). b.records) c.self.view_is)
