use Rattle.std.proofs.Common.{◌≡◌, length, take, drop, sym, ◌∙◌, arith, length-drop}
use Rattle.std.proofs.lemmas.List.{length-take-le}
use Rattle.clfs_lsn.specs.Format.{record_header}
use Rattle.clfs_lsn.specs.Spelling.{header_of}
use Rattle.clfs_record.proofs.decoder.head_at.Goals as goal

pub returns : goal.returns
returns c =
    let bytes = c.args.bytes.now in
    let len_is : c.args.len ≡ length (take (header_of bytes).len (drop record_header bytes)) =
    c.requires.len ∙ sym (length-take-le (header_of bytes).len (drop record_header bytes)
    (omega (arith, length-drop record_header bytes, c.requires.len, c.requires.whole))) in
    λ i. record {
      lsn = c.of_number.ensures i;
      stream = c.requires.stream i;
      kind = c.kind_of.ensures i;
      previous = c.lsn_at.ensures i;
      undo_next = c.lsn_at-2.ensures i;
      new_base = c.lsn_at-3.ensures i;
      len = len_is i;
    }
