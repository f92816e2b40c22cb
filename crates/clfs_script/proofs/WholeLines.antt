-- A whole line: a client, and what it asks for.
use Rattle.std.proofs.Common.{◌≡◌, ℕ, ◌+◌, List, [], ◌∷◌, length, true, Result, Ok, Err, Option, Some, refl, ◌∙◌, ap, subst, arith}
use Rattle.std.specs.Prelude.{nat_le}
use Rattle.std.specs.Result.{IsErrAnd}
use Rattle.std.proofs.lemmas.Bool.{le-leb}
use Rattle.clfs_model.specs.Lines.{words_of}
use Rattle.clfs_model.specs.Run as run
use Rattle.clfs_model.specs.Script.{Language, Verb, Rest, Word, Read, word, client_word, words_from, request_in, request_behind, request_or_bad, last_of, allowed_verb, ◌>>=◌}
use Rattle.clfs_text.specs.Left.{Left, left_from}
use Rattle.clfs_script.specs.Asked.{rest_of, Answers, ReadsVerb, AnswersRequest, AnswersLine, client_verb, request_of}
use Rattle.clfs_script.specs.declared.verbs.Verb.{Verb as CodeVerb}
use Rattle.clfs_script.specs.declared.line.Request.TheVariants.{Reopen}
use Rattle.clfs_script.specs.declared.line.ScriptLine.{ScriptLine}
use Rattle.clfs_script.specs.declared.line.LineRefusal.{LineRefusal}
use Rattle.clfs_script.specs.declared.line.LineRefusal.TheVariants.{NoMemory, BadLine}

-- a word was taken and read
pub taken : {A : Type 0} (read : List ℕ → Option A) (old new : Left) (w : List ℕ) (x : A) → old.words ≡ w ∷ new.words
    → new.at ≡ old.at + length w + 1 → new.end ≡ old.end → read w ≡ Some x → word read (rest_of old) ≡ Ok (record { value = x; rest = rest_of new })
taken read old new w x words next end is = rw (words, is, next, end) refl

-- a line's words are all left at its beginning
whole_rest : (line : List ℕ) → rest_of (left_from line 0) ≡ record { words = words_from 0 (words_of line); end = length line }
whole_rest line = let t : nat_le 0 (length line) ≡ true = le-leb 0 (length line) (omega arith) in rw t refl

both : (client : ℕ) (verb : Result (Read (Option Verb)) ℕ) (g : ℕ → Read (Option Verb) → Result run.Request ℕ)
    → (verb >>= (λ read. g client read)) ≡ ((verb >>= (λ read. Ok (client, read))) >>= (λ (found : ℕ × Read (Option Verb)). g found.0 found.1))
both client (Ok verb) g = refl
both client (Err at) g = refl

behind_both : (client : Result (Read ℕ) ℕ) (f : Read ℕ → Result (Read (Option Verb)) ℕ) (g : ℕ → Read (Option Verb) → Result run.Request ℕ)
    → (client >>= (λ read. f read >>= (λ verb. g read.value verb)))
    ≡ ((client >>= (λ read. f read >>= (λ verb. Ok (read.value, verb)))) >>= (λ (found : ℕ × Read (Option Verb)). g found.0 found.1))
behind_both (Ok client) f g = both client.value (f client) g
behind_both (Err at) f g = refl

-- what a line asks for, from its client and its verb
line_is : (language : Language) (line : List ℕ) (left : Left) (read : Result (ℕ × Read (Option Verb)) ℕ) → left ≡ left_from line 0
    → client_verb language (rest_of left) ≡ read
    → request_in language line ≡ request_or_bad (read >>= (λ (found : ℕ × Read (Option Verb)). request_behind found.0 found.1.value found.1.rest))
unfolding request_in
line_is language line left read whole is =
    let start : Rest = record { words = words_from 0 (words_of line); end = length line } in
    let there : client_verb language start ≡ read = subst (λ (rest : Rest). client_verb language rest ≡ read) (ap rest_of whole ∙ whole_rest line) is in
    ap request_or_bad
    (behind_both (word client_word start) (λ client. word (allowed_verb language) client.rest) (λ client verb. request_behind client verb.value verb.rest)
    ∙ ap (λ (r : Result (ℕ × Read (Option Verb)) ℕ). r >>= (λ (found : ℕ × Read (Option Verb)). request_behind found.0 found.1.value found.1.rest)) there)

-- there is no client, or no verb after it
pub no_verb : (language : Language) (line : List ℕ) (left after : Left) (result : Result ScriptLine LineRefusal)
    (read : Result (ℕ × Option CodeVerb) LineRefusal) (e : LineRefusal)
    → left ≡ left_from line 0 → IsErrAnd result (λ x. x ≡ e) → read ≡ Err e → ReadsVerb language left read after
    → AnswersLine result (request_in language line)
no_verb language line left after (Ok x) read e whole is was reads = absurd is
no_verb language line left after (Err NoMemory) read e whole is was reads = tt
no_verb language line left after (Err (BadLine at)) read e whole is was reads =
    let bad = rw (was, ← is) at reads in line_is language line left (Err at) whole bad

-- there is a client with a verb, and what it asks for stands after it
pub line_asked : (language : Language) (line : List ℕ) (left mid : Left) (client : ℕ) (verb : Option Verb) (result : Result ScriptLine LineRefusal)
    → left ≡ left_from line 0 → client_verb language (rest_of left) ≡ Ok (client, record { value = verb; rest = rest_of mid })
    → AnswersRequest result (request_behind client verb (rest_of mid)) → AnswersLine result (request_in language line)
line_asked language line left mid client verb (Err NoMemory) whole first behind = tt
line_asked language line left mid client verb (Err (BadLine at)) whole first behind =
    line_is language line left (Ok (client, record { value = verb; rest = rest_of mid })) whole first ∙ ap request_or_bad behind
line_asked language line left mid client verb (Ok found) whole first behind =
    line_is language line left (Ok (client, record { value = verb; rest = rest_of mid })) whole first ∙ ap request_or_bad behind

-- the line ends after what it asks for
line_ends : (line : ScriptLine) (result : Result ScriptLine LineRefusal) (words : List Word) → Answers result (last_of line words)
    → AnswersRequest result (last_of (request_of line) words)
line_ends line (Err NoMemory) words last = tt
line_ends line (Ok found) [] last = let same : line ≡ found = cc in rw same refl
line_ends line (Ok found) (w ∷ words) last = absurd (cc)
line_ends line (Err (BadLine at)) [] last = absurd (cc)
line_ends line (Err (BadLine at)) (w ∷ words) last = let same : w.at ≡ at = cc in ap Err same

-- the line ends after `reopen`
pub reopened : (client : ℕ) (result : Result ScriptLine LineRefusal) (words : List Word)
    → Answers result (last_of (record { client = client; request = Reopen }) words) → AnswersRequest result (last_of (run.reopens client) words)
reopened client result words last = line_ends (record { client = client; request = Reopen }) result words last
