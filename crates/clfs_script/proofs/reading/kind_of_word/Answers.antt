use Rattle.std.proofs.Common.{◌≡◌, codes, rules, refl}
use Rattle.std.proofs.lemmas.Slice.Eq.{text_from_reads}
use Rattle.clfs_script.proofs.reading.kind_of_word.Goals as goal

pub returns-in-growth : goal.returns-in-growth
returns-in-growth c = let e : c.args.word.now ≡ codes "growth" = search (rules, text_from_reads) in rw e refl
