use Rattle.clfs_text.proofs.WordEnds.{word_before, last_word}
use Rattle.clfs_text.proofs.words.long_word_at.Goals as goal

pub returns-in-Some-clause-words : goal.returns-in-Some-clause-words
returns-in-Some-clause-words c =
    word_before c.args.line.now c.split_at.result.1.now c.split_at-in-Some.result.0.now c.args.at c.in-Some.end
    c.if-at-line.false c.split_at.ensures.back c.split_at-in-Some.ensures.front c.in-Some.ensures

pub returns-in-None-clause-words : goal.returns-in-None-clause-words
returns-in-None-clause-words c =
    last_word c.args.line.now c.split_at.result.1.now c.args.at c.if-at-line.false c.split_at.ensures.back c.in-None.ensures
