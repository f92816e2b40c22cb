use Rattle.clfs_recover.proofs.Words.{take, sym, ◌∙◌, ap, arith, take_at, Piece}
use Rattle.clfs_recover.proofs.Slides.{moved_front}
use Rattle.clfs_recover.proofs.piece.Ahead.keep_from.Goals as goal

pub returns-clause-bytes : goal.returns-clause-bytes
returns-clause-bytes c =
    let has = ap (λ (p : Piece). p.bytes) (sym c.self.view_is) ∙ ap (take c.self.inside.count) (sym c.deref.ensures.value) in
    let within = c.self.invariant.0 in
    ap (λ v. take c.count_from-kept.result v.items) c.swap.ensures.x_after
    ∙ ap (take c.count_from-kept.result) (take_at c.put_first.new.out _ c.self.inside.other.len (omega (arith, c.put_first.auto.out, c.deref_mut.ensures.len))
    ∙ c.put_first.ensures)
    ∙ moved_front c.args.self.now c.args.at c.self.inside.count c.count_from-kept.result c.deref.result.now _ has
    (omega (arith, within, c.deref.ensures.len)) c.count_from-kept.ensures
