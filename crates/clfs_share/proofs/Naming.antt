-- A line that asks for a client's call names that client by its first word.
use Rattle.std.proofs.Common.{◌≡◌, ℕ, ◌+◌, List, [], ◌∷◌, length, Some, None, Ok, Err, ap, sym, subst, ◌∙◌, arith}
use Rattle.std.specs.Prelude.{◌==◌, true, false, Option, Result}
use Rattle.std.specs.Option.{option_map_or}
use Rattle.std.proofs.lemmas.Bool.Decides.{nat_tests}
use Rattle.clfs_model.specs.declared.call.Call.{Call}
use Rattle.clfs_model.specs.Lines.{words_of}
use Rattle.clfs_model.specs.Run.{asks, reopens}
use Rattle.clfs_model.specs.Script.{Rest, Read, Verb, ◌>>=◌, value_or, last_of, word, words_from, client_word, allowed_verb, call_line, request_behind, calls_alone, client_line, request_or_bad, request_in}
use Rattle.clfs_share.specs.Lines.{first_word, client_named, names}

-- what stands after the verb of a call
by_call : (n c : ℕ) (call : Call) (read : Result Call ℕ) → request_or_bad (read >>= (λ (x : Call). Ok (asks n x))) ≡ asks c call → n ≡ c
by_call n c call (Ok x) is = cc is
by_call n c call (Err at) is = absurd (cc is)

no_reopening : (n c : ℕ) (call : Call) (rest : Rest) → request_or_bad (last_of (reopens n) rest.words) ≡ asks c call → n ≡ c
no_reopening n c call rest is = by_words rest.words is
  where
    by_words : (words : List _) → request_or_bad (last_of (reopens n) words) ≡ asks c call → n ≡ c
    by_words [] e = absurd (cc e)
    by_words (w ∷ ws) e = absurd (cc e)

by_verb : (n c : ℕ) (call : Call) (verb : Option Verb) (rest : Rest) → request_or_bad (request_behind n verb rest) ≡ asks c call → n ≡ c
by_verb n c call None rest is = no_reopening n c call rest is
by_verb n c call (Some verb) rest is = by_call n c call (call_line verb rest) is

by_read : (n c : ℕ) (call : Call) (read : Result (Read (Option Verb)) ℕ)
    → request_or_bad (read >>= (λ (verb : Read (Option Verb)). request_behind n verb.value verb.rest)) ≡ asks c call → n ≡ c
by_read n c call (Ok verb) is = by_verb n c call verb.value verb.rest is
by_read n c call (Err at) is = absurd (cc is)

by_client : (c : ℕ) (call : Call) (found : Option ℕ) (rest : Rest)
    → request_or_bad ((value_or 0 found >>= (λ (x : ℕ). Ok (record { value = x; rest = rest }))) >>= (λ (client : Read ℕ). word (allowed_verb calls_alone) client.rest
    >>= (λ (verb : Read (Option Verb)). request_behind client.value verb.value verb.rest))) ≡ asks c call → found ≡ Some c
by_client c call None rest is = absurd (cc is)
by_client c call (Some n) rest is = ap (λ (x : ℕ). Some x) (by_read n c call (word (allowed_verb calls_alone) rest) is)

by_words : (words : List (List ℕ)) (end c : ℕ) (call : Call) → request_or_bad (client_line calls_alone (record { words = words_from 0 words; end = end })) ≡ asks c call
    → client_word (first_word words) ≡ Some c
by_words [] end c call is = absurd (cc is)
by_words (w ∷ ws) end c call is = by_client c call (client_word w) (record { words = words_from (0 + length w + 1) ws; end = end }) is

pub named_by : (line : List ℕ) (c : ℕ) (call : Call) → request_in calls_alone line ≡ asks c call → client_named line ≡ Some c
unfolding request_in
named_by line c call is = by_words (words_of line) (length line) c call is

is_named : (found : Option ℕ) (client c : ℕ) → found ≡ Some c → option_map_or (λ (named : ℕ). named == client) found false ≡ true → c ≡ client
is_named found client c is named =
    let F : Option ℕ → Type 0 = λ (o : Option ℕ). option_map_or (λ (n : ℕ). n == client) o false ≡ true in
    let same : (c == client) ≡ true = subst F is named in
    grind (arith, nat_tests)

-- so a line that names a client asks for a call of this one
pub named_asks : (line : List ℕ) (client c : ℕ) (call : Call) → names client line ≡ true → request_in calls_alone line ≡ asks c call
    → asks client call ≡ request_in calls_alone line
named_asks line client c call named is =
    ap (λ (n : ℕ). asks n call) (sym (is_named (client_named line) client c (named_by line c call is) named)) ∙ sym is
