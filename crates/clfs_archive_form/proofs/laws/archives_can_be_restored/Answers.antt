use Rattle.clfs_archive_form.proofs.Chosen.{last_readable, is_there, can_be_restored}
use Rattle.clfs_archive_form.proofs.laws.archives_can_be_restored.Goals as goal

pub returns : goal.returns
returns c = record {
  can = λ bytes archive up_to lsn fits read choice. can_be_restored bytes archive fits read up_to lsn choice;
  there = λ bytes archive up_to lsn i fits read choice within. is_there bytes archive fits read up_to lsn choice i within;
  readable = λ bytes archive id stored fits read is. last_readable bytes archive fits read id stored is;
}
