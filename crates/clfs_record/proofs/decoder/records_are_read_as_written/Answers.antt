use Rattle.std.proofs.Common.{refl, arith}
use Rattle.clfs_record.proofs.Laws.{only, length-record_bytes, read_whole, read_fits}
use Rattle.clfs_record.proofs.decoder.records_are_read_as_written.Goals as goal

pub returns : goal.returns
returns c = record {
  read = λ lsn streams entry rest lsn_small streams_small fits. only lsn streams entry rest _ fits lsn_small streams_small refl;
  length = length-record_bytes;
  fits = λ lsn streams bytes entry count few is.
      let whole = read_whole lsn streams bytes (entry, count) is in
      read_fits lsn streams bytes (entry, count) (omega (arith, whole, few)) is;
}
