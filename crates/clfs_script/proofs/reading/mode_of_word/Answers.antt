use Rattle.std.proofs.Common.{◌≡◌, codes, rules, refl}
use Rattle.std.proofs.lemmas.Slice.Eq.{text_from_reads}
use Rattle.clfs_script.proofs.reading.mode_of_word.Goals as goal

pub returns-in-forward : goal.returns-in-forward
returns-in-forward c = let e : c.args.word.now ≡ codes "forward" = search (rules, text_from_reads) in rw e refl

pub returns-in-previous : goal.returns-in-previous
returns-in-previous c = let e : c.args.word.now ≡ codes "previous" = search (rules, text_from_reads) in rw e refl
