use Rattle.std.proofs.Common.{◌≡◌, ℕ, ◌+◌, ◌-◌, ◌^◌, ◌<◌, arith, length, refl, sym, ◌∙◌}
use Rattle.clfs_lsn.specs.Size.{own}
use Rattle.clfs_area.specs.Areas.{AreaBooks, books_of}
use Rattle.clfs_area.specs.Calls.{held_append}
use Rattle.clfs_area.proofs.Books.{kept_refused, kept_placed, one_more_fits}
use Rattle.clfs_area.proofs.area.AreaState.append.Goals as goal

pub invariant_of-self-in-Err : goal.invariant_of-self-in-Err
invariant_of-self-in-Err g c = let f = c.self.inside in record {
  kept = kept_refused (books_of f.session f.number f.stream f.largest f.reads f.held f.placed) c.append_held.new.session
      (held_append f.number c.args.draft.now) c.in-Err.refusal (record { row = λ _. refl; held = λ _. refl; placed = λ _. refl })
      c.append_held.ensures.same c.in-Err.ensures.asked c.self.invariant.kept;
  held = c.self.invariant.held ∙ sym c.audit.ensures.total;
  placed = c.self.invariant.placed ∙ sym c.audit-2.ensures.total;
}

pub overflow_add-self : goal.overflow_add-self
overflow_add-self g c = let f = c.self.inside in
    let a : AreaBooks = books_of f.session f.number f.stream f.largest f.reads f.held f.placed in
    let need : ℕ = c.need_of-need.result in
    let is : need ≡ own (length c.args.draft.now.bytes) = c.need_of-need.ensures in
    let bound = c.audit.ensures.bound in let held = c.self.invariant.held in let has = c.permit.invariant.sectors_are in
    let left : f.held - need + own (length c.args.draft.now.bytes) ≡ f.held = omega (arith, is, bound, held, has) in
    let fits : f.placed + 1 < 2 ^ 64 =
    one_more_fits a c.append_held.new.session c.args.draft.now c.in-Ok.lsn (f.held - need) left c.append_held.ensures.same (c.in-Ok.ensures.asked.step refl) c.self.invariant.kept c.in-Ok.ensures.fits in
    record { fits = fits }

pub overflow_add-permit : goal.overflow_add-permit
overflow_add-permit g c = let f = c.self.inside in
    let a : AreaBooks = books_of f.session f.number f.stream f.largest f.reads f.held f.placed in
    let need : ℕ = c.need_of-need.result in
    let is : need ≡ own (length c.args.draft.now.bytes) = c.need_of-need.ensures in
    let bound = c.audit.ensures.bound in let held = c.self.invariant.held in let has = c.permit.invariant.sectors_are in
    let left : f.held - need + own (length c.args.draft.now.bytes) ≡ f.held = omega (arith, is, bound, held, has) in
    let fits : f.placed + 1 < 2 ^ 64 =
    one_more_fits a c.append_held.new.session c.args.draft.now c.in-Ok.lsn (f.held - need) left c.append_held.ensures.same (c.in-Ok.ensures.asked.step refl) c.self.invariant.kept c.in-Ok.ensures.fits in
    let fewer = c.audit-2.ensures.bound in let placed = c.self.invariant.placed in let records = c.permit.invariant.records_are in
    record { fits = omega (arith, fits, fewer, placed, records) }

pub invariant_of-self : goal.invariant_of-self
invariant_of-self g c = let f = c.self.inside in
    let a : AreaBooks = books_of f.session f.number f.stream f.largest f.reads f.held f.placed in
    let need : ℕ = c.need_of-need.result in
    let is : need ≡ own (length c.args.draft.now.bytes) = c.need_of-need.ensures in
    let bound = c.audit.ensures.bound in let held = c.self.invariant.held in let has = c.permit.invariant.sectors_are in
    let left : f.held - need + own (length c.args.draft.now.bytes) ≡ f.held = omega (arith, is, bound, held, has) in
    let total = c.audit.ensures.total in let less = c.sub.ensures.total in
    let count = c.audit-2.ensures.total in let one = c.add.ensures.total in let placed = c.self.invariant.placed in record {
      kept = kept_placed a c.append_held.new.session c.args.draft.now c.in-Ok.lsn (f.held - need) left c.append_held.ensures.same (c.in-Ok.ensures.asked.step refl) c.self.invariant.kept;
      held = omega (arith, total, less, held, left, is);
      placed = omega (arith, count, one, placed);
    }
