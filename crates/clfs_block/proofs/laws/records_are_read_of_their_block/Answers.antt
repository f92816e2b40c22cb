use Rattle.clfs_block.proofs.Words.{AreJudgedAlone, block_same}
use Rattle.clfs_block.proofs.Fronts.{frame_same, payload_same, rest_same}
use Rattle.clfs_block.proofs.Reading.{has_frame}
use Rattle.clfs_block.proofs.RecordsRead.{block_agrees, block_more, block_count, block_each}
use Rattle.clfs_block.proofs.laws.records_are_read_of_their_block.Goals as goal

judged : AreJudgedAlone
judged = record {
  frame = λ shape start bytes count is. frame_same bytes count shape start is;
  payload = λ bytes head count used le. payload_same bytes count head used le;
  rest = λ bytes head count used le. rest_same bytes count head used le;
}

pub returns : goal.returns
returns c = record {
  alone = λ shape streams start bytes count enough. block_same judged has_frame shape streams start bytes count enough;
  agree = λ shape streams start bytes other count records is enough same. block_agrees judged shape streams start bytes other count records is enough same;
  more = λ shape streams more start bytes records le is. block_more shape streams more start bytes records le is;
  count = λ shape streams start bytes records is. block_count shape streams start bytes records is;
  each = λ shape streams start bytes records is i entry found. block_each shape streams start bytes records is i entry found;
}
