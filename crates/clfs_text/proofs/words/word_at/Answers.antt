use Rattle.std.proofs.Common.{arith, get_or}
use Rattle.std.proofs.lemmas.Bool.{eq-eqb}
use Rattle.clfs_text.proofs.WordEnds.{word_before, last_word, no_space_yet}
use Rattle.clfs_text.proofs.words.word_at.Goals as goal

pub returns-then-byte-eq32-clause-words : goal.returns-then-byte-eq32-clause-words
returns-then-byte-eq32-clause-words c =
    let rest = c.split_at.result.1.now in
    word_before c.args.line.now rest c.split_at-then-byte-eq32.result.0.now c.args.at c.loop-i.i
    c.if-at-line.false c.split_at.ensures.back c.split_at-then-byte-eq32.ensures.front
    (record { low = omega arith; high = c.loop-i-test.true; before = c.loop-i.invariant }, eq-eqb (get_or rest c.loop-i.i 0) 32 c.if-byte-eq32.true)

pub loop-i-preserved : goal.loop-i-preserved
loop-i-preserved c = no_space_yet c.split_at.result.1.now c.loop-i.i c.loop-i.invariant c.if-byte-eq32.false

pub returns-clause-words : goal.returns-clause-words
returns-clause-words c =
    last_word c.args.line.now c.split_at.result.1.now c.args.at c.if-at-line.false c.split_at.ensures.back
    (λ k low high. c.loop-i.invariant k low (omega (arith, c.loop-i-test.false)))
