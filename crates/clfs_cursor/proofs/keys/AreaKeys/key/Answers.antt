use Rattle.clfs_cursor.proofs.Words.{◌≡◌, ◌∙◌, ap, sym, subst, List, find, Keys, AreDifferent, has_number, Numbered}
use Rattle.std.specs.Prelude.{Some}
use Rattle.clfs_cursor.proofs.Found.{found_passes}
use Rattle.clfs_cursor.proofs.Owned.{found_is}
use Rattle.clfs_cursor.proofs.keys.AreaKeys.key.Goals as goal

pub returns-in_err-numbered_at-clause-different : goal.returns-in_err-numbered_at-clause-different
returns-in_err-numbered_at-clause-different c = subst (λ (keys : Keys). AreDifferent keys.numbered) c.self.view_is c.self.invariant.different

pub returns-clause-different : goal.returns-clause-different
returns-clause-different c = subst (λ (keys : Keys). AreDifferent keys.numbered) c.self.view_is c.self.invariant.different

pub returns-clause-key : goal.returns-clause-key
returns-clause-key c =
    let found : find (has_number c.args.number) c.args.self.now.numbered ≡ Some c.in_ok-numbered_at.field-0 =
    ap (λ (keys : Keys). find (has_number c.args.number) keys.numbered) (sym c.self.view_is)
    ∙ ap (λ (keys : List Numbered). find (has_number c.args.number) keys) (sym c.deref.ensures.value) ∙ sym c.in_ok-numbered_at.ensures in
    found_is c.args.self.now.numbered c.args.number c.in_ok-numbered_at.field-0 found
    (found_passes (has_number c.args.number) c.args.self.now.numbered c.in_ok-numbered_at.field-0 found)
