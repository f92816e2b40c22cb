use Rattle.clfs_cursor.proofs.Words.{rules, tests, ◌∙◌, has_number}
use Rattle.std.proofs.lemmas.Iterator.{YieldsList-from_slice}
use Rattle.std.proofs.lemmas.Iterator.Search.{find_from_yields_List}
use Rattle.clfs_cursor.proofs.keys.numbered_at.Goals as goal

pub returns : goal.returns
returns c =
    c.copied.ensures ∙ find_from_yields_List (has_number c.args.number) _ _ c.find.result c.find.ensures.ran (YieldsList-from_slice c.args.keys.now cc)
    (λ x b q k. search (rules, tests))
