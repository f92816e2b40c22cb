use Rattle.clfs_archive_form.proofs.Words.{◌≡◌, ℕ, ◌+◌, ◌/◌, ◌≤◌, List, length, take, sym, ◌∙◌, ap, subst, arith, All, flat_map, on_ok_weaker, open_gate}
use Rattle.clfs_archive_form.proofs.Words.{lsn_number, offset_of, sectors, FitsAt, record_bytes, LogEntry, SpellsBlock, block_records, HasRecords}
use Rattle.clfs_archive_form.proofs.CutBlocks.{cut_fits, cut_few, cut_room, cut_has}
use Rattle.clfs_archive_form.proofs.ReadRecords.{has_read, one_value}
use Rattle.clfs_archive_form.proofs.kept.cut_block.Goals as goal

pub spell-requires : goal.spell-requires
spell-requires c =
    let start = lsn_number c.args.place.now.container c.args.place.now.offset 0 in
    let entries = c.in_ok-entries.entries in
    let has = has_read c.blocks_are_read_as_written.ensures c.records_are_read_as_written.ensures.fits c.args.shape.now c.requires.shape.largest_block c.args.streams start
    entries c.args.bytes.now c.in_ok-entries.ensures in
    subst (λ (l : List LogEntry). All (λ (e : LogEntry). FitsAt e.lsn e.stream e) (take c.min-count.result l)) (sym c.as_slice-2.ensures)
    (cut_fits c.records_are_read_as_written.ensures.length c.args.shape.now c.requires.shape c.args.streams start entries c.args.bytes.now has c.min-count.result)

pub put_block-requires-clause-few : goal.put_block-requires-clause-few
put_block-requires-clause-few c =
    let start = lsn_number c.args.place.now.container c.args.place.now.offset 0 in
    let entries = c.in_ok-entries.entries in
    let n = c.min-count.result in
    let has = has_read c.blocks_are_read_as_written.ensures c.records_are_read_as_written.ensures.fits c.args.shape.now c.requires.shape.largest_block c.args.streams start
    entries c.args.bytes.now c.in_ok-entries.ensures in
    let content = c.as_slice-3.ensures ∙ c.in_ok-content.ensures ∙ ap (λ (l : List LogEntry). flat_map record_bytes (take n l)) c.as_slice-2.ensures in
    subst (λ (l : List ℕ). sectors (16 + length l) ≤ 128) (sym content)
    (cut_few c.records_are_read_as_written.ensures.length c.args.shape.now c.requires.shape c.args.streams start entries c.args.bytes.now has n)

pub put_block-requires-clause-records : goal.put_block-requires-clause-records
put_block-requires-clause-records c =
    let start = lsn_number c.args.place.now.container c.args.place.now.offset 0 in
    let has = has_read c.blocks_are_read_as_written.ensures c.records_are_read_as_written.ensures.fits c.args.shape.now c.requires.shape.largest_block c.args.streams start
    c.in_ok-entries.entries c.args.bytes.now c.in_ok-entries.ensures in
    omega (arith, c.min-count.ensures, ap length c.as_slice.ensures, has.few)

pub put_block-requires-clause-container : goal.put_block-requires-clause-container
put_block-requires-clause-container c =
    let start = lsn_number c.args.place.now.container c.args.place.now.offset 0 in
    let entries = c.in_ok-entries.entries in
    let n = c.min-count.result in
    let has = has_read c.blocks_are_read_as_written.ensures c.records_are_read_as_written.ensures.fits c.args.shape.now c.requires.shape.largest_block c.args.streams start
    entries c.args.bytes.now c.in_ok-entries.ensures in
    let content = c.as_slice-3.ensures ∙ c.in_ok-content.ensures ∙ ap (λ (l : List LogEntry). flat_map record_bytes (take n l)) c.as_slice-2.ensures in
    let at : c.lsn.result ≡ start = omega (arith, c.lsn.ensures) in
    subst (λ (l : List ℕ). offset_of c.lsn.result / 512 + sectors (16 + length l) ≤ 16384) (sym content)
    (subst (λ (k : ℕ). offset_of k / 512 + sectors (16 + length (flat_map record_bytes (take n entries))) ≤ 16384) (sym at)
    (cut_room c.records_are_read_as_written.ensures.length c.args.shape.now c.requires.shape c.args.streams start entries c.args.bytes.now has n))

pub returns : goal.returns
returns c =
    let start = lsn_number c.args.place.now.container c.args.place.now.offset 0 in
    let entries = c.in_ok-entries.entries in
    let n = c.min-count.result in
    let has = has_read c.blocks_are_read_as_written.ensures c.records_are_read_as_written.ensures.fits c.args.shape.now c.requires.shape.largest_block c.args.streams start
    entries c.args.bytes.now c.in_ok-entries.ensures in
    let content = c.as_slice-3.ensures ∙ c.in_ok-content.ensures ∙ ap (λ (l : List LogEntry). flat_map record_bytes (take n l)) c.as_slice-2.ensures in
    let at : c.lsn.result ≡ start = omega (arith, c.lsn.ensures) in
    on_ok_weaker c.put_block.result
    (λ put es read some few.
    let same = one_value (block_records c.args.shape.now c.args.streams start c.args.bytes.now) entries es c.in_ok-entries.ensures read in
    let count : n ≡ c.args.count = omega (arith, c.min-count.ensures, ap length c.as_slice.ensures, ap length same, few) in
    let spells : SpellsBlock start open_gate n (flat_map record_bytes (take n entries)) put.0 =
    subst (λ (k : ℕ). SpellsBlock k open_gate n (flat_map record_bytes (take n entries)) put.0) at
    (subst (λ (l : List ℕ). SpellsBlock c.lsn.result open_gate n l put.0) content put.2) in
    let cut = cut_has c.records_are_read_as_written.ensures.length c.args.shape.now c.requires.shape c.args.streams start entries c.args.bytes.now has n put.0
    (omega (arith, count, some)) (omega (arith, count, few, ap length same)) spells in (
      put.0,
      put.1,
      subst (λ (k : ℕ). HasRecords c.args.shape.now c.args.streams start (take k es) put.0) count
          (subst (λ (l : List LogEntry). HasRecords c.args.shape.now c.args.streams start (take n l) put.0) same cut),
    ))
    c.put_block.ensures
