use Rattle.clfs_base.proofs.Words.{◌+◌, ℕ, List, ◌++◌, length, take, drop, ap, ◌∙◌, little_bytes}
use Rattle.clfs_base.proofs.Filling.{row_filled}
use Rattle.clfs_base.proofs.encoder.fill_row.Goals as goal

pub returns : goal.returns
returns c =
    let name_is = c.as_slice-name.ensures in
    row_filled (length c.args.out.now) c.args.row.now c.clear.new.out c.put.new.out c.put-2.new.out c.put_bytes.new.out c.requires.room c.requires.name
    c.clear.ensures
    (c.put.ensures ∙ ap (λ (l : List ℕ). take 0 c.clear.new.out ++ (little_bytes 1 (length l) ++ drop 1 c.clear.new.out)) name_is)
    (c.put-2.ensures ∙ ap (λ (b : ℕ). take 8 c.put.new.out ++ (little_bytes 8 b ++ drop 16 c.put.new.out)) c.number.ensures)
    (c.put_bytes.ensures ∙ ap (λ (l : List ℕ). take 16 c.put-2.new.out ++ (l ++ drop (16 + length l) c.put-2.new.out)) name_is)
