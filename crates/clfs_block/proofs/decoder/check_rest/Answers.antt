use Rattle.clfs_block.proofs.Words.{ℕ, Option, Result, Ok, refl, sym, ◌∙◌, ap, unless_wrong, BlockHead, BlockRefusal, BadByte}
use Rattle.clfs_block.proofs.Searches.{rest_is}
use Rattle.clfs_block.proofs.decoder.check_rest.Goals as goal

answer_of : BlockHead → Option ℕ → Result BlockHead BlockRefusal
answer_of head found = unless_wrong BadByte found (Ok head)

pub returns-in-Some : goal.returns-in-Some
unfolding answer_of
returns-in-Some c = sym (rest_is c.args.bytes.now c.args.head c.first_other_byte.result _ _ c.requires.used c.requires.some.0 refl refl c.first_other_byte.ensures
    ∙ ap (answer_of c.args.head) c.in-Some.is)

pub returns-in-None : goal.returns-in-None
unfolding answer_of
returns-in-None c = sym (rest_is c.args.bytes.now c.args.head c.first_other_byte.result _ _ c.requires.used c.requires.some.0 refl refl c.first_other_byte.ensures
    ∙ ap (answer_of c.args.head) c.in-None.is)
