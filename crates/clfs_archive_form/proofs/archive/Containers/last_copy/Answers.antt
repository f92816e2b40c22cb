use Rattle.clfs_archive_form.proofs.Words.{List, reverse, ◌∙◌, ap, find, Stored, is_container}
use Rattle.std.proofs.Common.{rules, tests}
use Rattle.std.proofs.lemmas.Iterator.Adapters.{YieldsList-from_rev_slice}
use Rattle.std.proofs.lemmas.Iterator.Search.{find_from_yields_List}
use Rattle.clfs_archive_form.proofs.archive.Containers.last_copy.Goals as goal

pub returns : goal.returns
returns c =
    c.copied.ensures
    ∙ find_from_yields_List (is_container c.args.id) _ _ c.find.result c.find.ensures.ran (YieldsList-from_rev_slice c.self.inside.containers.items cc)
    (λ x b q k. search (rules, tests))
    ∙ ap (λ (l : List Stored). find (is_container c.args.id) (reverse l)) c.self.view_is
