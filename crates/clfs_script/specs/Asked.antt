-- What the reader's values stand for in the definition of the language.
use Rattle.std.specs.Prelude.{◌≡◌, ℕ, List, Result, Ok, Err, Option}
use Rattle.std.specs.Option.{option_map}
use Rattle.clfs_model.specs.Script.{Rest, Read, words_from, word}
use Rattle.clfs_text.specs.Left.{Left}
use Rattle.clfs_model.specs.Script.{Language, calls_and_reopening, calls_alone, client_word, allowed_verb, ◌>>=◌}
use Rattle.clfs_model.specs.Script as script
use Rattle.clfs_model.specs.Run as run
use Rattle.clfs_model.specs.declared.call.Call.{Call}
use Rattle.clfs_script.specs.declared.line.Language.TheVariants as languages
use Rattle.clfs_script.specs.declared.line.Language.{Language as CodeLanguage}
use Rattle.clfs_script.specs.declared.line.Request.{Request}
use Rattle.clfs_script.specs.declared.line.Request.TheVariants.{Step, Reopen}
use Rattle.clfs_script.specs.declared.line.ScriptLine.{ScriptLine}
use Rattle.clfs_script.specs.Verbs.{verb_of}
use Rattle.clfs_script.specs.declared.verbs.Verb.{Verb}
use Rattle.clfs_script.specs.declared.line.LineRefusal.{LineRefusal}
use Rattle.clfs_script.specs.declared.line.LineRefusal.TheVariants.{NoMemory, BadLine}

-- the words that are left, each with its place
abbrev pub rest_of : Left → Rest
rest_of left = record { words = words_from left.at left.words; end = left.end }

-- An answer is what the definition says, or out of memory, which is free.
abbrev pub Answers : {A : Type 0} → Result A LineRefusal → Result A ℕ → Type 0
Answers (Ok x) defined = defined ≡ Ok x
Answers (Err NoMemory) defined = Unit
Answers (Err (BadLine at)) defined = defined ≡ Err at

-- the same of the next word, with what is left after it
abbrev pub AnswersWord : {A : Type 0} → Result A LineRefusal → Left → Result (Read A) ℕ → Type 0
AnswersWord (Ok x) after defined = defined ≡ Ok (record { value = x; rest = rest_of after })
AnswersWord (Err NoMemory) after defined = Unit
AnswersWord (Err (BadLine at)) after defined = defined ≡ Err at

-- The next word was read so.
abbrev pub Reads : {A : Type 0} → (List ℕ → Option A) → Left → Result A LineRefusal → Left → Type 0
Reads read left result after = AnswersWord result after (word read (rest_of left))

-- the language of the definition
abbrev pub language_of : CodeLanguage → Language
language_of languages.CallsAndReopening = calls_and_reopening
language_of languages.CallsAlone = calls_alone

-- a client's request
abbrev pub requested : ℕ → Request → run.Request
requested client (Step call) = run.asks client call
requested client Reopen = run.reopens client

-- what a line that was read asks for
abbrev pub request_of : ScriptLine → run.Request
request_of line = requested line.client line.request

-- what a client asks for by a call, where there is one
abbrev pub asked : ℕ → Result Call ℕ → Result run.Request ℕ
asked client defined = defined >>= (λ call. Ok (run.asks client call))

-- a client, the verb after its number, and what stands after that
abbrev pub client_verb : Language → Rest → Result (ℕ × Read (Option script.Verb)) ℕ
client_verb language rest = do
  client ← word client_word rest
  verb ← word (allowed_verb language) client.rest
  Ok (client.value, verb)

-- A client and its verb were read so. Out of memory is free.
abbrev pub ReadsVerb : Language → Left → Result (ℕ × Option Verb) LineRefusal → Left → Type 0
ReadsVerb language left (Ok found) after =
    client_verb language (rest_of left) ≡ Ok (found.0, record { value = option_map verb_of found.1; rest = rest_of after })
ReadsVerb language left (Err NoMemory) after = Unit
ReadsVerb language left (Err (BadLine at)) after = client_verb language (rest_of left) ≡ Err at

-- A client's request is what the definition says, or there was out of memory, which is free.
abbrev pub AnswersRequest : Result ScriptLine LineRefusal → Result run.Request ℕ → Type 0
AnswersRequest (Ok line) defined = defined ≡ Ok (request_of line)
AnswersRequest (Err NoMemory) defined = Unit
AnswersRequest (Err (BadLine at)) defined = defined ≡ Err at

-- A line asks for what was read, or is bad at the place that was answered. Out of memory is free.
abbrev pub AnswersLine : Result ScriptLine LineRefusal → run.Request → Type 0
AnswersLine (Ok line) request = request ≡ request_of line
AnswersLine (Err NoMemory) request = Unit
AnswersLine (Err (BadLine at)) request = request ≡ run.bad_line at
