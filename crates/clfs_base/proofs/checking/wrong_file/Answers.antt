use Rattle.clfs_base.proofs.Words.{Bool, true, sym, ap, ◌∙◌, file_place, told, is_wrong_file}
use Rattle.clfs_base.proofs.Searches.{passes_on, found_here, ends_here}
use Rattle.clfs_base.proofs.checking.wrong_file.Goals as goal

pub returns-then-is_wrong_file : goal.returns-then-is_wrong_file
returns-then-is_wrong_file c =
    let i = c.loop-i.i in
    sym (found_here (λ k. told (is_wrong_file c.args.bytes.now c.args.made k) (file_place k)) i c.args.listed c.file_place.result c.loop-i-test.true
    (ap (λ (b : Bool). told b (file_place i)) (sym c.is_wrong_file.ensures ∙ c.if-is_wrong_file.true)
    ∙ ap (told true) (sym c.file_place.ensures))) ∙ c.loop-i.invariant

pub loop-i-preserved : goal.loop-i-preserved
loop-i-preserved c =
    let i = c.loop-i.i in
    passes_on (λ k. told (is_wrong_file c.args.bytes.now c.args.made k) (file_place k)) i c.args.listed c.loop-i-test.true
    (ap (λ (b : Bool). told b (file_place i)) (sym c.is_wrong_file.ensures ∙ c.if-is_wrong_file.false)) ∙ c.loop-i.invariant

pub returns : goal.returns
returns c =
    sym (ends_here (λ k. told (is_wrong_file c.args.bytes.now c.args.made k) (file_place k)) c.loop-i.i c.args.listed c.loop-i-test.false)
    ∙ c.loop-i.invariant
