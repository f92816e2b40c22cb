use Rattle.memchr.specs.Find.{Nowhere, Passes, is_byte}
use Rattle.clfs_text.proofs.words.word_at.Given as goal

abbrev pub invariant-loop-i : goal.invariant-loop-i
invariant-loop-i l = Nowhere (Passes (is_byte 32) l.rest) 0 l.i
