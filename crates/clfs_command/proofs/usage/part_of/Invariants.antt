use denote.Shadow.{shadow}
use denote.Text.{Utf8}
use Rattle.clfs_command.proofs.usage.part_of.Given as goal

abbrev pub invariant-loop-paragraph : goal.invariant-loop-paragraph
invariant-loop-paragraph l = record {
  can_next : (goal.iterator-loop-paragraph).can_next l.paragraph-iterator;
  is_finite : (goal.iterator-loop-paragraph).is_finite l.paragraph-iterator;
  is_text : shadow (Utf8 l.before);
}
