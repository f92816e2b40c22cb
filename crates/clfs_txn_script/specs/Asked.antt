-- What the reader's values stand for in the definition of a table's lines.
use Rattle.std.specs.Prelude.{◌≡◌, ◌<◌, ◌≤◌, ℕ, List, Result, Ok, Err, Option}
use Rattle.clfs_model.specs.Script.{Read, word}
use Rattle.clfs_text.specs.Left.{Left}
use Rattle.clfs_text.specs.declared.words.BadWord.{BadWord}
use Rattle.clfs_cells.specs.declared.asked.TxnCall.{TxnCall}
use Rattle.clfs_cells.specs.declared.asked.TxnCall.TheVariants as asked
use Rattle.clfs_cells.specs.Lines.{TxnVerb, txn_verb, begin_verb, set_verb, back_verb, commit_verb, rollback_verb, get_verb, checkpoint_verb}
use Rattle.clfs_script.specs.Asked.{rest_of}
use Rattle.clfs_txn_script.specs.declared.verbs.Verb.{Verb}
use Rattle.clfs_txn_script.specs.declared.verbs.Verb.TheVariants as verbs

-- the verb of the definition
abbrev pub verb_of : Verb → TxnVerb
verb_of verbs.Begin = begin_verb
verb_of verbs.Set = set_verb
verb_of verbs.Back = back_verb
verb_of verbs.Commit = commit_verb
verb_of verbs.Rollback = rollback_verb
verb_of verbs.Get = get_verb
verb_of verbs.Checkpoint = checkpoint_verb

-- An answer is what the definition says.
abbrev pub Answers : {A : Type 0} → Result A BadWord → Result A ℕ → Type 0
Answers (Ok x) defined = defined ≡ Ok x
Answers (Err bad) defined = defined ≡ Err bad.at

-- the same of the next word, with what is left after it
abbrev pub AnswersWord : {A : Type 0} → Result A BadWord → Left → Result (Read A) ℕ → Type 0
AnswersWord (Ok x) after defined = defined ≡ Ok (record { value = x; rest = rest_of after })
AnswersWord (Err bad) after defined = defined ≡ Err bad.at

-- The next word was read so.
abbrev pub Reads : {A : Type 0} → (List ℕ → Option A) → Left → Result A BadWord → Left → Type 0
Reads read left result after = AnswersWord result after (word read (rest_of left))

-- The next word is a verb, and was read so.
abbrev pub ReadsVerb : Left → Result Verb BadWord → Left → Type 0
ReadsVerb left (Ok verb) after = word txn_verb (rest_of left) ≡ Ok (record { value = verb_of verb; rest = rest_of after })
ReadsVerb left (Err bad) after = word txn_verb (rest_of left) ≡ Err bad.at

-- What a line asks for is in the ranges of a store's calls.
abbrev pub IsInRange : TxnCall → Type 0
IsInRange (asked.Begin changes) = (1 ≤ changes) × (changes ≤ 7)
IsInRange (asked.Set txn cell value) = cell < 32
IsInRange (asked.Get cell) = cell < 32
IsInRange _ = Unit
