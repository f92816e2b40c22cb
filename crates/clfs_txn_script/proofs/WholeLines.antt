-- A whole line: a verb, and what stands after it.
use Rattle.std.proofs.Common.{◌≡◌, ℕ, List, length, true, Result, Ok, Err, refl, ◌∙◌, sym, ap, subst, arith}
use Rattle.std.specs.Prelude.{nat_le}
use Rattle.std.specs.Result.{IsErrAnd}
use Rattle.std.proofs.lemmas.Bool.{le-leb}
use Rattle.clfs_model.specs.Lines.{words_of}
use Rattle.clfs_model.specs.Script.{Rest, Read, word, words_from, ◌>>=◌}
use Rattle.clfs_text.specs.Left.{Left, left_from}
use Rattle.clfs_text.specs.declared.words.BadWord.{BadWord}
use Rattle.clfs_cells.specs.declared.asked.TxnCall.{TxnCall}
use Rattle.clfs_cells.specs.Lines.{TxnVerb, txn_verb, behind_verb, verb_line, txn_call_in}
use Rattle.clfs_script.specs.Asked.{rest_of}
use Rattle.clfs_txn_script.specs.Asked.{Answers, ReadsVerb, verb_of}
use Rattle.clfs_txn_script.specs.declared.verbs.Verb.{Verb}

-- a line's words are all left at its beginning
whole_rest : (line : List ℕ) → rest_of (left_from line 0) ≡ record { words = words_from 0 (words_of line); end = length line }
whole_rest line = let t : nat_le 0 (length line) ≡ true = le-leb 0 (length line) (omega arith) in rw t refl

-- what a line asks for, from its verb
line_is : (line : List ℕ) (left : Left) (read : Result (Read TxnVerb) ℕ) → left ≡ left_from line 0 → word txn_verb (rest_of left) ≡ read
    → txn_call_in line ≡ (read >>= (λ (verb : Read TxnVerb). behind_verb verb.value verb.rest))
unfolding txn_call_in
line_is line left read whole is =
    ap (λ (rest : Rest). verb_line rest) (sym (ap rest_of whole ∙ whole_rest line))
    ∙ ap (λ (r : Result (Read TxnVerb) ℕ). r >>= (λ (verb : Read TxnVerb). behind_verb verb.value verb.rest)) is

-- there is no verb
pub no_verb : (line : List ℕ) (left after : Left) (result : Result TxnCall BadWord) (read : Result Verb BadWord) (bad : BadWord) → left ≡ left_from line 0
    → IsErrAnd result (λ x. x ≡ bad) → read ≡ Err bad → ReadsVerb left read after → Answers result (txn_call_in line)
no_verb line left after (Ok call) read bad whole is was reads = absurd is
no_verb line left after (Err other) read bad whole is was reads =
    let found = rw was at reads in
    subst (λ (b : BadWord). txn_call_in line ≡ Err b.at) (sym is) (line_is line left (Err bad.at) whole found)

-- there is a verb, and what it asks for stands after it
pub with_verb : (line : List ℕ) (left after : Left) (result : Result TxnCall BadWord) (read : Result Verb BadWord) (verb : Verb) → left ≡ left_from line 0
    → read ≡ Ok verb → ReadsVerb left read after → Answers result (behind_verb (verb_of verb) (rest_of after)) → Answers result (txn_call_in line)
with_verb line left after result read verb whole was reads answers =
    let found = rw was at reads in
    subst (λ (defined : Result TxnCall ℕ). Answers result defined) (sym (line_is line left (Ok (record { value = verb_of verb; rest = rest_of after })) whole found)) answers
