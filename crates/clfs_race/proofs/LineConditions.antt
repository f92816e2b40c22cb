-- What a line asks for meets the condition of its call: a name and data are no longer than the line, and numbers are within their words' ranges.
use Rattle.clfs_race.proofs.Words.{◌≡◌, ℕ, ◌+◌, ◌-◌, ◌≤◌, Bool, refl, List, [], ◌∷◌, length, Some, None, Ok, Err, arith, inl, inr, Option, Result, IfSome}
use Rattle.clfs_race.proofs.Words.{nat_le, ◌==◌, if◌then◌else◌, slice_split, onto_first, cases_Bool, decode_of, FromHexError, Call, IsClient, HasArguments}
use Rattle.clfs_race.proofs.Words.{words_of, Request, reopens, Word, Rest, Read, ◌>>=◌, value_or, word_at, word, client_word, words_from, Verb, call_line}
use Rattle.clfs_race.proofs.Words.{allowed_verb, request_behind, client_line, request_or_bad, request_in, Meets}
use Rattle.std.specs.Prelude.{codes}
use Rattle.std.specs.List.{AllByRecursion}
use Rattle.std.specs.Option.{option_and_then}
use Rattle.std.specs.Result.{result_ok}
use Rattle.std.specs.Str.{bytes_eq}
use Rattle.std.proofs.lemmas.Bool.Decides.{nat_tests}
use Rattle.clfs_race.proofs.DataLengths.{decode_short}
use Rattle.clfs_lsn.specs.Words.{decimal_number, data_of_word, is_number_word, is_decimal_digit}
use Rattle.std.specs.Str.Parse.{digits_value}
use Rattle.clfs_model.specs.declared.call.Call.TheVariants as calls
use Rattle.clfs_lsn.specs.declared.policy.PolicyKind.{PolicyKind}
use Rattle.clfs_lsn.specs.declared.policy.PolicyKind.TheVariants as kinds
use Rattle.clfs_model.specs.Script.{last_of, ends, number, name_word, cursor_word, option_at, one_word_line, two_word_line, sizes_line, area_line}
use Rattle.clfs_model.specs.Script.{append_line, restart_line, read_line, policy_line, policy_of, options_of, sizes, open_verb, area_verb, drop_verb}
use Rattle.clfs_model.specs.Script.{reserve_verb, release_verb, align_verb, append_verb, flush_verb, flush_to_verb, read_verb, next_verb, end_verb}
use Rattle.clfs_model.specs.Script.{restart_verb, read_restart_verb, previous_restart_verb, advance_verb, archive_verb, tail_verb, extents_verb, policy_verb}
use Rattle.clfs_model.specs.Script.{unpolicy_verb, size_verb, info_verb, Language}

-- ---- readings that may go wrong

-- what was read has a property
abbrev Has : {A : Type 0} → (A → Type 0) → Result A ℕ → Type 0
Has P (Ok x) = P x
Has P (Err at) = Unit {0}

goes_on : {A B : Type 0} (P : A → Type 0) (Q : B → Type 0) (r : Result A ℕ) (f : A → Result B ℕ) → Has P r → ((x : A) → P x → Has Q (f x)) → Has Q (r >>= f)
goes_on P Q (Ok x) f is next = next x is
goes_on P Q (Err at) f is next = tt

-- the words that are left are no longer than n
abbrev AreShort : ℕ → List Word → Type 0
AreShort n words = AllByRecursion (λ (word : Word). length word.bytes ≤ n) words

-- a value was read, and the words after it are no longer than n
record HasRead {A : Type 0} (P : A → Type 0) (n : ℕ) (read : Read A) : Type 0 where
  value : P read.value
  rest : AreShort n read.rest.words

value_has : {A : Type 0} (P : A → Type 0) (at : ℕ) (found : Option A) → IfSome found P → Has P (value_or at found)
value_has P at (Some x) is = is
value_has P at None is = tt

word_at_has : {A : Type 0} (P : A → Type 0) (n : ℕ) (read : List ℕ → Option A) (words : List Word) (end : ℕ)
    → ((bytes : List ℕ) → length bytes ≤ n → IfSome (read bytes) P) → AreShort n words → Has (HasRead P n) (word_at read words end)
word_at_has P n read [] end reads short = tt
word_at_has P n read (word ∷ words) end reads short =
    goes_on P (HasRead P n) (value_or word.at (read word.bytes)) (λ x. Ok (record { value = x; rest = record { words = words; end = end } }))
    (value_has P word.at (read word.bytes) (reads word.bytes short.0)) (λ x is. record { value = is; rest = short.1 })

word_has : {A : Type 0} (P : A → Type 0) (n : ℕ) (read : List ℕ → Option A) (rest : Rest)
    → ((bytes : List ℕ) → length bytes ≤ n → IfSome (read bytes) P) → AreShort n rest.words → Has (HasRead P n) (word read rest)
word_has P n read rest reads short = word_at_has P n read rest.words rest.end reads short

-- nothing is known of the value
any : {A : Type 0} → A → Type 0
any x = Unit {0}

no_matter : {A : Type 0} (found : Option A) → IfSome found (λ x. Unit {0})
no_matter (Some x) = tt
no_matter None = tt

plain_has : {A : Type 0} (n : ℕ) (read : List ℕ → Option A) (rest : Rest) → AreShort n rest.words → Has (HasRead (λ x. Unit {0}) n) (word read rest)
plain_has n read rest short = word_has (λ x. Unit {0}) n read rest (λ bytes few. no_matter (read bytes)) short

last_has : {A : Type 0} (Q : A → Type 0) (x : A) (words : List Word) → Q x → Has Q (last_of x words)
last_has Q x [] is = is
last_has Q x (word ∷ words) is = tt

-- where all values have it, so has what was read
all_has : {A : Type 0} (Q : A → Type 0) (r : Result A ℕ) → ((x : A) → Q x) → Has Q r
all_has Q (Ok x) all = all x
all_has Q (Err at) all = tt

option_short : (n : ℕ) (text : List ℕ) (words : List Word) (end : ℕ) → AreShort n words → AreShort n (option_at text words end).rest.words
option_short n text [] end short = tt
option_short n text (word ∷ words) end short = elim (cases_Bool (bytes_eq word.bytes text)) [
  | inl same ↦ rw same short.1
  | inr other ↦ rw other short
]

-- ---- words

name_short : (n : ℕ) (bytes : List ℕ) → length bytes ≤ n → IfSome (name_word bytes) (λ name. length name ≤ n)
name_short n [] short = tt
name_short n (b ∷ bytes) short = short

decimal_within : (most : ℕ) (bytes : List ℕ) → IfSome (decimal_number most bytes) (λ k. k ≤ most)
decimal_within most bytes = elim (cases_Bool (is_number_word is_decimal_digit bytes)) [
  | inl is ↦ rw is (elim (cases_Bool (nat_le (digits_value 10 bytes) most)) [
    | inl few ↦ rw few (grind (arith, nat_tests, few))
    | inr many ↦ rw many tt
  ])
  | inr none ↦ rw none tt
]

number_of : (least most : ℕ) (found : Option ℕ) → IfSome found (λ k. k ≤ most)
    → IfSome (option_and_then (λ k. if nat_le least k then Some k else None) found) (λ k. (least ≤ k) × (k ≤ most))
number_of least most None is = tt
number_of least most (Some k) is = elim (cases_Bool (nat_le least k)) [
  | inl from ↦ rw from (grind (arith, nat_tests, from), is)
  | inr below ↦ rw below tt
]

number_within : (least most : ℕ) (bytes : List ℕ) → IfSome (number least most bytes) (λ k. (least ≤ k) × (k ≤ most))
number_within least most bytes = number_of least most (decimal_number most bytes) (decimal_within most bytes)

client_is : (bytes : List ℕ) → IfSome (client_word bytes) IsClient
client_is bytes = turned (client_word bytes) (number_within 1 64 bytes)
  where
    turned : (found : Option ℕ) → IfSome found (λ k. (1 ≤ k) × (k ≤ 64)) → IfSome found IsClient
    turned (Some k) is = record { least = is.0; greatest = is.1 }
    turned None is = tt

decoded_short : (word : List ℕ) (found : Result (List ℕ) FromHexError) → ((bytes : List ℕ) → found ≡ Ok bytes → length bytes ≤ length word)
    → IfSome (result_ok found) (λ bytes. length bytes ≤ length word)
decoded_short word (Ok bytes) few = few bytes refl
decoded_short word (Err error) few = tt

data_short : (n : ℕ) (word : List ℕ) → length word ≤ n → IfSome (data_of_word word) (λ bytes. length bytes ≤ n)
data_short n word short = elim (cases_Bool (bytes_eq word (codes "-"))) [
  | inl dash ↦ rw dash (omega arith)
  | inr other ↦ rw other (elim (cases_Bool (length word == 0)) [
    | inl none ↦ rw none tt
    | inr some ↦ rw some (weaker (result_ok (decode_of word)) (decoded_short word (decode_of word) (decode_short word)))
  ])
]
  where
    weaker : (found : Option (List ℕ)) → IfSome found (λ bytes. length bytes ≤ length word) → IfSome found (λ bytes. length bytes ≤ n)
    weaker (Some bytes) is = omega (arith, is, short)
    weaker None is = tt

-- ---- the words of a line

-- what is no longer than m is no longer than n
no_longer : (m n : ℕ) (parts : List (List ℕ)) → m ≤ n → AllByRecursion (λ (part : List ℕ). length part ≤ m) parts
    → AllByRecursion (λ (part : List ℕ). length part ≤ n) parts
no_longer m n [] le short = tt
no_longer m n (part ∷ parts) le short = (omega (arith, short.0, le), no_longer m n parts le short.1)

onto_short : (m n b : ℕ) (parts : List (List ℕ)) → m + 1 ≤ n → AllByRecursion (λ (part : List ℕ). length part ≤ m) parts
    → AllByRecursion (λ (part : List ℕ). length part ≤ n) (onto_first b parts)
onto_short m n b [] le short = (omega (arith, le), tt)
onto_short m n b (part ∷ parts) le short = (omega (arith, short.0, le), no_longer m n parts (omega (arith, le)) short.1)

parts_short : (p : ℕ → Bool) (bytes : List ℕ) (n : ℕ) → length bytes ≤ n → AllByRecursion (λ (part : List ℕ). length part ≤ n) (slice_split p bytes)
parts_short p [] n few = (omega arith, tt)
parts_short p (b ∷ bytes) n few =
    let rest = parts_short p bytes (n - 1) (omega (arith, few)) in
    elim (cases_Bool (p b)) [
      | inl cut ↦ rw cut (omega arith, no_longer (n - 1) n (slice_split p bytes) (omega arith) rest)
      | inr goes ↦ rw goes (onto_short (n - 1) n b (slice_split p bytes) (omega (arith, few)) rest)
    ]

placed_short : (n at : ℕ) (parts : List (List ℕ)) → AllByRecursion (λ (part : List ℕ). length part ≤ n) parts → AreShort n (words_from at parts)
placed_short n at [] short = tt
placed_short n at (part ∷ parts) short = (short.0, placed_short n (at + length part + 1) parts short.1)

-- ---- calls

open_has : (rest : Rest) → AreShort 4294967295 rest.words → Has HasArguments (one_word_line name_word (λ name. calls.OpenStream name) rest)
open_has rest short =
    goes_on (HasRead (λ name. length name ≤ 4294967295) 4294967295) HasArguments (word name_word rest) (λ x. ends (calls.OpenStream x.value) x.rest)
    (word_has (λ name. length name ≤ 4294967295) 4294967295 name_word rest (name_short 4294967295) short)
    (λ x is. last_has HasArguments (calls.OpenStream x.value) x.rest.words (omega (arith, is.value)))

area_has : (rest : Rest) → AreShort 4294967295 rest.words → Has HasArguments (area_line rest)
area_has rest short =
    goes_on _ HasArguments (word _ rest) _ (plain_has 4294967295 _ rest short)
    (λ stream of_stream. goes_on _ HasArguments (word _ stream.rest) _ (plain_has 4294967295 _ stream.rest of_stream.rest)
    (λ largest of_largest. goes_on _ HasArguments (word cursor_word largest.rest) _
    (word_has (λ k. (1 ≤ k) × (k ≤ 16)) 4294967295 cursor_word largest.rest (λ bytes few. number_within 1 16 bytes) of_largest.rest)
    (λ reads of_reads. last_has HasArguments (calls.CreateArea stream.value largest.value reads.value) reads.rest.words of_reads.value)))

append_has : (rest : Rest) → AreShort 4294967295 rest.words → Has HasArguments (append_line rest)
append_has rest short =
    goes_on _ HasArguments (word _ rest) _ (plain_has 4294967295 _ rest short)
    (λ area of_area. goes_on _ HasArguments (word data_of_word area.rest) _
    (word_has (λ bytes. length bytes ≤ 4294967295) 4294967295 data_of_word area.rest (data_short 4294967295) of_area.rest)
    (λ bytes of_bytes. goes_on _ HasArguments (word _ bytes.rest) _ (plain_has 4294967295 _ bytes.rest of_bytes.rest)
    (λ previous of_previous. goes_on _ HasArguments (word _ previous.rest) _ (plain_has 4294967295 _ previous.rest of_previous.rest)
    (λ undo_next of_undo_next. goes_on (λ x. Unit {0}) HasArguments (options_of undo_next.rest) _ (all_has (λ x. Unit {0}) (options_of undo_next.rest) (λ x. tt))
    (λ options _. omega (arith, of_bytes.value))))))

restart_has : (rest : Rest) → AreShort 4294967295 rest.words → Has HasArguments (restart_line rest)
restart_has rest short =
    goes_on _ HasArguments (word _ rest) _ (plain_has 4294967295 _ rest short)
    (λ area of_area. goes_on _ HasArguments (word data_of_word area.rest) _
    (word_has (λ bytes. length bytes ≤ 4294967295) 4294967295 data_of_word area.rest (data_short 4294967295) of_area.rest)
    (λ bytes of_bytes. goes_on _ HasArguments (word _ bytes.rest) _ (plain_has 4294967295 _ bytes.rest of_bytes.rest)
    (λ base of_base. last_has HasArguments _ _ (omega (arith, of_bytes.value)))))

one_has : {A : Type 0} (read : List ℕ → Option A) (call : A → Call) (rest : Rest) → ((x : A) → HasArguments (call x)) → Has HasArguments (one_word_line read call rest)
one_has read call rest all = goes_on (λ x. Unit {0}) HasArguments (word read rest) (λ x. ends (call x.value) x.rest) (all_has (λ x. Unit {0}) (word read rest) (λ x. tt))
    (λ x is. last_has HasArguments (call x.value) x.rest.words (all x.value))

two_has : {A : Type 0} (read : List ℕ → Option A) (call : ℕ → A → Call) (rest : Rest) → ((area : ℕ) (x : A) → HasArguments (call area x)) → Has HasArguments (two_word_line read call rest)
two_has read call rest all =
    goes_on (λ x. Unit {0}) HasArguments (word _ rest) _ (all_has (λ x. Unit {0}) (word _ rest) (λ x. tt))
    (λ area _. goes_on (λ x. Unit {0}) HasArguments (word read area.rest) _ (all_has (λ x. Unit {0}) (word read area.rest) (λ x. tt))
    (λ x _. last_has HasArguments (call area.value x.value) x.rest.words (all area.value x.value)))

sizes_has : (call : ℕ → List ℕ → Call) (rest : Rest) → ((area : ℕ) (lengths : List ℕ) → HasArguments (call area lengths)) → Has HasArguments (sizes_line call rest)
sizes_has call rest all =
    goes_on (λ x. Unit {0}) HasArguments (word _ rest) _ (all_has (λ x. Unit {0}) (word _ rest) (λ x. tt))
    (λ area _. goes_on (λ x. Unit {0}) HasArguments (sizes area.rest) _ (all_has (λ x. Unit {0}) (sizes area.rest) (λ x. tt)) (λ lengths _. all area.value lengths))

read_has : (rest : Rest) → Has HasArguments (read_line rest)
read_has rest =
    goes_on (λ x. Unit {0}) HasArguments (word _ rest) _ (all_has (λ x. Unit {0}) (word _ rest) (λ x. tt))
    (λ area _. goes_on (λ x. Unit {0}) HasArguments (word _ area.rest) _ (all_has (λ x. Unit {0}) (word _ area.rest) (λ x. tt))
    (λ lsn _. goes_on (λ x. Unit {0}) HasArguments (word _ lsn.rest) _ (all_has (λ x. Unit {0}) (word _ lsn.rest) (λ x. tt))
    (λ mode _. last_has HasArguments _ mode.rest.words tt)))

kind_has : (kind : PolicyKind) (rest : Rest) → Has HasArguments (policy_of kind rest)
kind_has kinds.Maximum rest = one_has _ _ rest (λ n. tt)
kind_has kinds.Minimum rest = one_has _ _ rest (λ n. tt)
kind_has kinds.Growth rest = one_has _ _ rest (λ n. tt)
kind_has kinds.Automatic rest = last_has HasArguments _ rest.words tt

policy_has : (rest : Rest) → Has HasArguments (policy_line rest)
policy_has rest =
    goes_on (λ x. Unit {0}) HasArguments (word _ rest) _ (all_has (λ x. Unit {0}) (word _ rest) (λ x. tt)) (λ kind _. kind_has kind.value kind.rest)

call_has : (verb : Verb) (rest : Rest) → AreShort 4294967295 rest.words → Has HasArguments (call_line verb rest)
call_has open_verb rest short = open_has rest short
call_has area_verb rest short = area_has rest short
call_has drop_verb rest short = one_has _ _ rest (λ x. tt)
call_has reserve_verb rest short = sizes_has _ rest (λ area x. tt)
call_has release_verb rest short = two_has _ _ rest (λ area x. tt)
call_has align_verb rest short = sizes_has _ rest (λ area x. tt)
call_has append_verb rest short = append_has rest short
call_has flush_verb rest short = one_has _ _ rest (λ x. tt)
call_has flush_to_verb rest short = two_has _ _ rest (λ area x. tt)
call_has read_verb rest short = read_has rest
call_has next_verb rest short = two_has _ _ rest (λ area x. tt)
call_has end_verb rest short = two_has _ _ rest (λ area x. tt)
call_has restart_verb rest short = restart_has rest short
call_has read_restart_verb rest short = one_has _ _ rest (λ x. tt)
call_has previous_restart_verb rest short = two_has _ _ rest (λ area x. tt)
call_has advance_verb rest short = two_has _ _ rest (λ area x. tt)
call_has archive_verb rest short = one_has _ _ rest (λ x. tt)
call_has tail_verb rest short = one_has _ _ rest (λ x. tt)
call_has extents_verb rest short = last_has HasArguments _ rest.words tt
call_has policy_verb rest short = policy_has rest
call_has unpolicy_verb rest short = one_has _ _ rest (λ x. tt)
call_has size_verb rest short = one_has _ _ rest (λ x. tt)
call_has info_verb rest short = one_has _ _ rest (λ x. tt)

-- ---- lines

behind_has : (client : ℕ) (verb : Option Verb) (rest : Rest) → IsClient client → AreShort 4294967295 rest.words → Has Meets (request_behind client verb rest)
behind_has client None rest is short = last_has Meets (reopens client) rest.words tt
behind_has client (Some verb) rest is short =
    goes_on HasArguments Meets (call_line verb rest) _ (call_has verb rest short) (λ call has. record { is_client = is; arguments = has })

client_has : (language : Language) (rest : Rest) → AreShort 4294967295 rest.words → Has Meets (client_line language rest)
client_has language rest short =
    goes_on (HasRead IsClient 4294967295) Meets (word client_word rest) _ (word_has IsClient 4294967295 client_word rest (λ bytes few. client_is bytes) short)
    (λ client of_client. goes_on (HasRead (λ x. Unit {0}) 4294967295) Meets (word (allowed_verb language) client.rest) _ (plain_has 4294967295 (allowed_verb language) client.rest of_client.rest)
    (λ verb of_verb. behind_has client.value verb.value verb.rest of_client.value of_verb.rest))

met : (r : Result Request ℕ) → Has Meets r → Meets (request_or_bad r)
met (Ok request) is = is
met (Err at) is = tt

-- so a call that is asked for meets its condition
pub line_meets : (language : Language) (line : List ℕ) → length line ≤ 4294967295 → Meets (request_in language line)
unfolding request_in
line_meets language line few =
    met (client_line language (record { words = words_from 0 (words_of line); end = length line }))
    (client_has language (record { words = words_from 0 (words_of line); end = length line })
    (placed_short 4294967295 0 (words_of line) (parts_short _ line 4294967295 few)))
