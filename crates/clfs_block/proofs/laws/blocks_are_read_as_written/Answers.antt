use Rattle.clfs_block.proofs.Words.{refl}
use Rattle.clfs_block.proofs.Reading.{has_frame, frame_read, payload_read, rest_read, spelled_by}
use Rattle.clfs_block.proofs.laws.blocks_are_read_as_written.Goals as goal

pub returns : goal.returns
returns c = record {
  holds = has_frame;
  frame = λ shape start records content block more spells some few fits. frame_read shape start records content block more _ spells some few fits refl;
  payload = λ shape start records content block more spells some few fits. payload_read shape start records content block more _ spells some few fits refl;
  rest = λ shape start records content block more spells some few fits. rest_read shape start records content block more _ spells some few fits refl;
  spelled = λ shape start bytes head fits is rest some. (spelled_by shape start bytes head fits is rest some).1;
}
