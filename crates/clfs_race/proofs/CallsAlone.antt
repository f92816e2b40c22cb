-- In the language of calls alone no line asks to open the log again: after a client stands the verb of a call.
use Rattle.clfs_race.proofs.Words.{◌≡◌, ℕ, List, [], ◌∷◌, length, true, refl, Some, None, Ok, Err, Option, Result, IfSome, words_of, Request, Rest, Read}
use Rattle.clfs_race.proofs.Words.{Word, Verb, ◌>>=◌, value_or, word, word_at, words_from, client_word, allowed_verb, call_line, request_behind, calls_alone}
use Rattle.clfs_race.proofs.Words.{client_line, request_or_bad, request_in}
use Rattle.std.specs.Option.{option_map}
use Rattle.clfs_model.specs.Run.{is_no_reopening}
use Rattle.clfs_model.specs.Script.{verb_word}

-- what was read has a property
abbrev Has : {A : Type 0} → (A → Type 0) → Result A ℕ → Type 0
Has P (Ok x) = P x
Has P (Err at) = Unit {0}

-- what is asked for is no opening
abbrev AsksCall : Request → Type 0
AsksCall request = is_no_reopening request ≡ true

-- a verb of a call
abbrev IsCall : Option Verb → Type 0
IsCall (Some verb) = Unit {0}
IsCall None = ⊥

goes_on : {A B : Type 0} (P : A → Type 0) (Q : B → Type 0) (r : Result A ℕ) (f : A → Result B ℕ) → Has P r → ((x : A) → P x → Has Q (f x)) → Has Q (r >>= f)
goes_on P Q (Ok x) f is next = next x is
goes_on P Q (Err at) f is next = tt

no_matter : {A : Type 0} (r : Result A ℕ) → Has (λ x. Unit {0}) r
no_matter (Ok x) = tt
no_matter (Err at) = tt

value_has : {A : Type 0} (P : A → Type 0) (at : ℕ) (found : Option A) → IfSome found P → Has P (value_or at found)
value_has P at (Some x) is = is
value_has P at None is = tt

word_has : {A : Type 0} (P : A → Type 0) (read : List ℕ → Option A) (words : List Word) (end : ℕ) → ((bytes : List ℕ) → IfSome (read bytes) P)
    → Has (λ (found : Read A). P found.value) (word_at read words end)
word_has P read [] end reads = tt
word_has P read (word ∷ words) end reads =
    goes_on P (λ (found : Read _). P found.value) (value_or word.at (read word.bytes)) (λ x. Ok (record { value = x; rest = record { words = words; end = end } }))
    (value_has P word.at (read word.bytes) (reads word.bytes)) (λ x is. is)

some_verb : (found : Option Verb) → IfSome (option_map (λ verb. Some verb) found) IsCall
some_verb (Some verb) = tt
some_verb None = tt

after_verb : (client : ℕ) (verb : Option Verb) (rest : Rest) → IsCall verb → Has AsksCall (request_behind client verb rest)
after_verb client None rest is = absurd is
after_verb client (Some verb) rest is = goes_on (λ x. Unit {0}) AsksCall (call_line verb rest) _ (no_matter (call_line verb rest)) (λ call _. refl)

client_has : (rest : Rest) → Has AsksCall (client_line calls_alone rest)
client_has rest =
    goes_on (λ x. Unit {0}) AsksCall (word client_word rest) _ (no_matter (word client_word rest))
    (λ client _. goes_on (λ (found : Read (Option Verb)). IsCall found.value) AsksCall (word (allowed_verb calls_alone) client.rest) _
    (word_has IsCall (allowed_verb calls_alone) client.rest.words client.rest.end (λ bytes. some_verb (verb_word bytes)))
    (λ verb is. after_verb client.value verb.value verb.rest is))

asked : (r : Result Request ℕ) → Has AsksCall r → AsksCall (request_or_bad r)
asked (Ok request) is = is
asked (Err at) is = refl

pub lines_ask_calls : (line : List ℕ) → is_no_reopening (request_in calls_alone line) ≡ true
unfolding request_in
lines_ask_calls line =
    asked (client_line calls_alone (record { words = words_from 0 (words_of line); end = length line })) (client_has (record { words = words_from 0 (words_of line); end = length line }))
