use Rattle.std.proofs.Common.{ℕ, List, get_or, Option, Some, sym, ◌∙◌, ap, arith}
use Rattle.std.specs.Prelude.{find, nat_le}
use Rattle.std.specs.Option.{option_map}
use Rattle.clfs_archive.specs.Row.{Row}
use Rattle.clfs_archive.specs.declared.block.BlockEnd.{BlockEnd}
use Rattle.clfs_archive.proofs.Finding.{end_at_place, none_at_place}
use Rattle.clfs_archive.proofs.archive.Archive.end_from.Goals as goal

-- the end of the first block from an LSN on
abbrev end_in : ℕ → List BlockEnd → Option ℕ
end_in lsn blocks = option_map (λ (block : BlockEnd). block.end) (find (λ (block : BlockEnd). nat_le lsn block.last) blocks)

pub returns-then-place-len : goal.returns-then-place-len
returns-then-place-len c =
    let same = c.deref.ensures.value ∙ ap (λ (row : Row). row.blocks) c.self.view_is in
    sym (none_at_place c.deref.result.now c.args.lsn c.place_of-place.result c.place_of-place.ensures
    (omega (arith, c.if-place-len.true, c.len.ensures, c.deref.ensures.len))) ∙ ap (end_in c.args.lsn) same

pub returns : goal.returns
returns c =
    let same = c.deref.ensures.value ∙ ap (λ (row : Row). row.blocks) c.self.view_is in
    let read = ap (λ (blocks : List BlockEnd). get_or blocks c.place_of-place.result c.index.result.now) (sym c.deref.ensures.value) in
    let within = c.place_of-place.ensures.within in
    ap (λ (block : BlockEnd). some block.end) (c.index.ensures ∙ read)
    ∙ sym (end_at_place c.deref.result.now c.args.lsn c.place_of-place.result c.index.result.now c.place_of-place.ensures
    (omega (arith, within, c.if-place-len.false, c.len.ensures, c.deref.ensures.len))) ∙ ap (end_in c.args.lsn) same
  where
    some : ℕ → Option ℕ
    some n = Some n
