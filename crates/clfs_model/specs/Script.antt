-- The script language: what a line asks for, and where a line that asks for nothing goes wrong. The words of a line are read
-- from the left. The first word that no form with the words before it allows is wrong at its first byte; a line that ends too
-- early is wrong at its length.
use Rattle.std.specs.Prelude.{ℕ, zero, suc, ◌+◌, Bool, true, false, nat_le, if◌then◌else◌, List, [], ◌∷◌, length, map, find, codes, Option, Some, None, Result, Ok, Err}
use Rattle.std.specs.Option.{option_map, option_and_then}
use Rattle.std.specs.Str.{bytes_eq}
use Rattle.clfs_lsn.specs.Limits.{most_clients, most_areas, most_cursors, most_sizes}
use Rattle.clfs_lsn.specs.Lsn.{null_lsn}
use Rattle.clfs_lsn.specs.Words.{decimal_number, lsn_of_word, data_of_word}
use Rattle.clfs_lsn.specs.declared.policy.Policy.TheVariants as policies
use Rattle.clfs_lsn.specs.declared.policy.PolicyKind.{PolicyKind}
use Rattle.clfs_lsn.specs.declared.policy.PolicyKind.TheVariants as kinds
use Rattle.clfs_model.specs.declared.call.Call.{Call}
use Rattle.clfs_model.specs.declared.call.Call.TheVariants as calls
use Rattle.clfs_lsn.specs.declared.cursor.Mode.{Mode}
use Rattle.clfs_lsn.specs.declared.cursor.Mode.TheVariants.{Previous, UndoNext, Forward}
use Rattle.clfs_model.specs.Run.{Request, asks, reopens, bad_line}
use Rattle.clfs_model.specs.Lines.{lines_of, without_return, words_of}

-- a word and its place in the line
pub record Word : Type 0 where
  pub at : ℕ
  pub bytes : List ℕ

-- words with their places, the first at this one
abbrev pub words_from : ℕ → List (List ℕ) → List Word
words_from at [] = []
words_from at (bytes ∷ more) = record { at = at; bytes = bytes } ∷ words_from (at + length bytes + 1) more

-- the words of a line that are left, and the line's length
pub record Rest : Type 0 where
  pub words : List Word
  pub end : ℕ

-- a value and the words after it
pub record Read (A : Type 0) : Type 0 where
  pub value : A
  pub rest : Rest

infixl 10 ◌>>=◌
-- the second reading after the first, unless the first has gone wrong at a place
abbrev pub ◌>>=◌ : {A B : Type 0} → Result A ℕ → (A → Result B ℕ) → Result B ℕ
(Ok x) >>= f = f x
(Err at) >>= f = Err at

-- the value, or the place where there is none
abbrev pub value_or : {A : Type 0} → ℕ → Option A → Result A ℕ
value_or at None = Err at
value_or at (Some x) = Ok x

-- the next word, read so
abbrev pub word_at : {A : Type 0} → (List ℕ → Option A) → List Word → ℕ → Result (Read A) ℕ
word_at read [] end = Err end
word_at read (word ∷ words) end = do
  x ← value_or word.at (read word.bytes)
  Ok (record { value = x; rest = record { words = words; end = end } })

-- the next word, read so
abbrev pub word : {A : Type 0} → (List ℕ → Option A) → Rest → Result (Read A) ℕ
word read rest = word_at read rest.words rest.end

-- a value after which the line ends
abbrev pub last_of : {A : Type 0} → A → List Word → Result A ℕ
last_of x [] = Ok x
last_of x (word ∷ words) = Err word.at

-- a request after which the line ends
abbrev pub ends : {A : Type 0} → A → Rest → Result A ℕ
ends x rest = last_of x rest.words

-- a number from the least to the greatest
abbrev pub number : ℕ → ℕ → List ℕ → Option ℕ
number least greatest bytes = option_and_then (λ n. if nat_le least n then Some n else None) (decimal_number greatest bytes)

-- a client, 1 to 64
abbrev pub client_word : List ℕ → Option ℕ
client_word bytes = number 1 most_clients bytes

-- an area, 1 to 16
abbrev pub area_word : List ℕ → Option ℕ
area_word bytes = number 1 most_areas bytes

-- a cursor, or how many of them an area may have, 1 to 16
abbrev pub cursor_word : List ℕ → Option ℕ
cursor_word bytes = number 1 most_cursors bytes

-- a stream, 1 to 65535
abbrev pub stream_word : List ℕ → Option ℕ
stream_word bytes = number 1 65535 bytes

-- a number of 16 bits
abbrev pub short_word : List ℕ → Option ℕ
short_word bytes = number 0 65535 bytes

-- a number of 32 bits
abbrev pub long_word : List ℕ → Option ℕ
long_word bytes = number 0 4294967295 bytes

-- a name: any word that isn't empty
abbrev pub name_word : List ℕ → Option (List ℕ)
name_word [] = None
name_word (b ∷ bytes) = Some (b ∷ bytes)

-- a base: an LSN, or `-` for null
abbrev pub base_word : List ℕ → Option ℕ
base_word bytes = if bytes_eq bytes (codes "-") then Some null_lsn else lsn_of_word bytes

-- a word that is this text, for this value, or else another
abbrev pub is_or : {A : Type 0} → List ℕ → A → Option A → List ℕ → Option A
is_or text x others bytes = if bytes_eq bytes text then Some x else others

-- where a read goes
abbrev pub mode_word : List ℕ → Option Mode
mode_word bytes = is_or (codes "previous") Previous (is_or (codes "undo") UndoNext (is_or (codes "forward") Forward None bytes) bytes) bytes

-- `on` or `off`
abbrev pub switch_word : List ℕ → Option Bool
switch_word bytes = is_or (codes "on") true (is_or (codes "off") false None bytes) bytes

-- a kind of policy
abbrev pub kind_word : List ℕ → Option PolicyKind
kind_word bytes =
    is_or (codes "max") kinds.Maximum (is_or (codes "min") kinds.Minimum (is_or (codes "growth") kinds.Growth
    (is_or (codes "auto") kinds.Automatic None bytes) bytes) bytes) bytes

-- this word, where it comes next; it may be left out
abbrev pub option_at : List ℕ → List Word → ℕ → Read Bool
option_at text [] end = record { value = false; rest = record { words = []; end = end } }
option_at text (word ∷ words) end =
    if bytes_eq word.bytes text then record { value = true; rest = record { words = words; end = end } }
    else record { value = false; rest = record { words = word ∷ words; end = end } }

-- this word, where it comes next; it may be left out
abbrev pub option_word : List ℕ → Rest → Read Bool
option_word text rest = option_at text rest.words rest.end

-- sizes up to the line's end, so many at most
abbrev pub sizes_up_to : ℕ → List Word → Result (List ℕ) ℕ
sizes_up_to room [] = Ok []
sizes_up_to zero (word ∷ words) = Err word.at
sizes_up_to (suc room) (word ∷ words) = do
  n ← value_or word.at (long_word word.bytes)
  more ← sizes_up_to room words
  Ok (n ∷ more)

-- one to sixteen sizes up to the line's end
abbrev pub sizes_at : List Word → ℕ → Result (List ℕ) ℕ
sizes_at [] end = Err end
sizes_at (word ∷ words) end = sizes_up_to most_sizes (word ∷ words)

-- one to sixteen sizes up to the line's end
abbrev pub sizes : Rest → Result (List ℕ) ℕ
sizes rest = sizes_at rest.words rest.end

-- sizes where `hold` was there, else none
abbrev pub held_sizes : Read Bool → Result (List ℕ) ℕ
held_sizes hold = if hold.value then sizes hold.rest else ends [] hold.rest

-- `area STREAM LARGEST READS`
abbrev pub area_line : Rest → Result Call ℕ
area_line rest = do
  stream ← word stream_word rest
  largest ← word long_word stream.rest
  reads ← word cursor_word largest.rest
  ends (calls.CreateArea stream.value largest.value reads.value) reads.rest

-- a verb with an area and one word more
abbrev pub two_word_line : {A : Type 0} → (List ℕ → Option A) → (ℕ → A → Call) → Rest → Result Call ℕ
two_word_line read call rest = do
  area ← word area_word rest
  x ← word read area.rest
  ends (call area.value x.value) x.rest

-- a verb with an area and sizes
abbrev pub sizes_line : (ℕ → List ℕ → Call) → Rest → Result Call ℕ
sizes_line call rest = do
  area ← word area_word rest
  lengths ← sizes area.rest
  Ok (call area.value lengths)

-- the options of an append
pub record Options : Type 0 where
  pub reserved : Bool
  pub seal : Bool
  pub flush : Bool
  pub sizes : List ℕ

-- `reserved`, `seal`, `flush` and `hold N ..`, in this order and each at most once
abbrev pub options_of : Rest → Result Options ℕ
options_of rest =
    let reserved = option_word (codes "reserved") rest in
    let seal = option_word (codes "seal") reserved.rest in
    let flush = option_word (codes "flush") seal.rest in do
      lengths ← held_sizes (option_word (codes "hold") flush.rest)
      Ok (record { reserved = reserved.value; seal = seal.value; flush = flush.value; sizes = lengths })

-- `append A DATA PREVIOUS UNDO`, and then the options
abbrev pub append_line : Rest → Result Call ℕ
append_line rest = do
  area ← word area_word rest
  bytes ← word data_of_word area.rest
  previous ← word lsn_of_word bytes.rest
  undo_next ← word lsn_of_word previous.rest
  options ← options_of undo_next.rest
  Ok (calls.Append area.value (record {
    bytes = bytes.value;
    previous = previous.value;
    undo_next = undo_next.value;
    seal = options.seal;
    flush = options.flush;
  }) options.reserved options.sizes)

-- `read A LSN MODE`
abbrev pub read_line : Rest → Result Call ℕ
read_line rest = do
  area ← word area_word rest
  lsn ← word lsn_of_word area.rest
  mode ← word mode_word lsn.rest
  ends (calls.Read area.value lsn.value mode.value) mode.rest

-- `restart A DATA BASE`, and then perhaps `reserved`
abbrev pub restart_line : Rest → Result Call ℕ
restart_line rest = do
  area ← word area_word rest
  bytes ← word data_of_word area.rest
  base ← word base_word bytes.rest
  let reserved = option_word (codes "reserved") base.rest in
      ends (calls.WriteRestart area.value bytes.value base.value reserved.value) reserved.rest

-- a verb with one word
abbrev pub one_word_line : {A : Type 0} → (List ℕ → Option A) → (A → Call) → Rest → Result Call ℕ
one_word_line read call rest = do
  x ← word read rest
  ends (call x.value) x.rest

-- the value of a policy that has one
abbrev pub policy_of : PolicyKind → Rest → Result Call ℕ
policy_of kinds.Maximum rest = one_word_line short_word (λ n. calls.InstallPolicy (policies.Maximum n)) rest
policy_of kinds.Minimum rest = one_word_line short_word (λ n. calls.InstallPolicy (policies.Minimum n)) rest
policy_of kinds.Growth rest = one_word_line short_word (λ n. calls.InstallPolicy (policies.Growth n)) rest
policy_of kinds.Automatic rest = ends (calls.InstallPolicy policies.Automatic) rest

-- `policy max N`, `policy min N`, `policy growth N`, `policy auto`
abbrev pub policy_line : Rest → Result Call ℕ
policy_line rest = do
  kind ← word kind_word rest
  policy_of kind.value kind.rest

-- the verbs of a script
pub data Verb : Type 0 where
  open_verb : Verb
  area_verb : Verb
  drop_verb : Verb
  reserve_verb : Verb
  release_verb : Verb
  align_verb : Verb
  append_verb : Verb
  flush_verb : Verb
  flush_to_verb : Verb
  read_verb : Verb
  next_verb : Verb
  end_verb : Verb
  restart_verb : Verb
  read_restart_verb : Verb
  previous_restart_verb : Verb
  advance_verb : Verb
  archive_verb : Verb
  tail_verb : Verb
  extents_verb : Verb
  policy_verb : Verb
  unpolicy_verb : Verb
  size_verb : Verb
  info_verb : Verb

-- the words of the verbs
abbrev pub verb_words : List (List ℕ × Verb)
verb_words =
    (codes "open", open_verb) ∷ (codes "area", area_verb) ∷ (codes "drop", drop_verb) ∷ (codes "reserve", reserve_verb)
    ∷ (codes "release", release_verb) ∷ (codes "align", align_verb) ∷ (codes "append", append_verb) ∷ (codes "flush", flush_verb)
    ∷ (codes "flushto", flush_to_verb) ∷ (codes "read", read_verb) ∷ (codes "next", next_verb) ∷ (codes "end", end_verb)
    ∷ (codes "restart", restart_verb) ∷ (codes "readrestart", read_restart_verb) ∷ (codes "prevrestart", previous_restart_verb)
    ∷ (codes "advance", advance_verb) ∷ (codes "archive", archive_verb) ∷ (codes "tail", tail_verb) ∷ (codes "extents", extents_verb)
    ∷ (codes "policy", policy_verb) ∷ (codes "unpolicy", unpolicy_verb) ∷ (codes "size", size_verb) ∷ (codes "info", info_verb) ∷ []

-- the verb that a word names
abbrev pub verb_word : List ℕ → Option Verb
verb_word bytes = option_map (λ row. row.1) (find (λ (row : List ℕ × Verb). bytes_eq row.0 bytes) verb_words)

-- what stands after a verb
abbrev pub call_line : Verb → Rest → Result Call ℕ
call_line open_verb rest = one_word_line name_word (λ name. calls.OpenStream name) rest
call_line area_verb rest = area_line rest
call_line drop_verb rest = one_word_line area_word (λ area. calls.DeleteArea area) rest
call_line reserve_verb rest = sizes_line (λ area lengths. calls.Reserve area lengths) rest
call_line release_verb rest = two_word_line long_word (λ area sectors. calls.Release area sectors) rest
call_line align_verb rest = sizes_line (λ area lengths. calls.Align area lengths) rest
call_line append_verb rest = append_line rest
call_line flush_verb rest = one_word_line area_word (λ area. calls.Flush area) rest
call_line flush_to_verb rest = two_word_line lsn_of_word (λ area lsn. calls.FlushTo area lsn) rest
call_line read_verb rest = read_line rest
call_line next_verb rest = two_word_line cursor_word (λ area cursor. calls.ReadNext area cursor) rest
call_line end_verb rest = two_word_line cursor_word (λ area cursor. calls.EndRead area cursor) rest
call_line restart_verb rest = restart_line rest
call_line read_restart_verb rest = one_word_line area_word (λ area. calls.ReadRestart area) rest
call_line previous_restart_verb rest = two_word_line cursor_word (λ area cursor. calls.PreviousRestart area cursor) rest
call_line advance_verb rest = two_word_line lsn_of_word (λ area lsn. calls.Advance area lsn) rest
call_line archive_verb rest = one_word_line switch_word (λ on. calls.SetArchive on) rest
call_line tail_verb rest = one_word_line lsn_of_word (λ lsn. calls.SetArchiveTail lsn) rest
call_line extents_verb rest = ends calls.ListExtents rest
call_line policy_verb rest = policy_line rest
call_line unpolicy_verb rest = one_word_line kind_word (λ kind. calls.RemovePolicy kind) rest
call_line size_verb rest = one_word_line short_word (λ containers. calls.SetSize containers) rest
call_line info_verb rest = one_word_line stream_word (λ stream. calls.Info stream) rest

-- Which verbs a script may have: those of clients' calls, and `reopen`, which asks to open the log again, or the former alone. Where
-- several clients run at once none of them may open the log again, so no form allows that word.
pub data Language : Type 0 where
  calls_and_reopening : Language
  calls_alone : Language

-- a client's verb
abbrev pub call_verb : List ℕ → Option (Option Verb)
call_verb bytes = option_map (λ verb. Some verb) (verb_word bytes)

-- a word that a language allows after the client: a verb, or none for `reopen`, which is no client's call
abbrev pub allowed_verb : Language → List ℕ → Option (Option Verb)
allowed_verb calls_and_reopening bytes = if bytes_eq bytes (codes "reopen") then Some None else call_verb bytes
allowed_verb calls_alone bytes = call_verb bytes

-- what a client's line asks for after its verb
abbrev pub request_behind : ℕ → Option Verb → Rest → Result Request ℕ
request_behind client None rest = ends (reopens client) rest
request_behind client (Some verb) rest = do
  call ← call_line verb rest
  Ok (asks client call)

-- a line without its carriage return: a client, a verb, and what stands after it
abbrev pub client_line : Language → Rest → Result Request ℕ
client_line language rest = do
  client ← word client_word rest
  verb ← word (allowed_verb language) client.rest
  request_behind client.value verb.value verb.rest

-- the request, or a bad line
abbrev pub request_or_bad : Result Request ℕ → Request
request_or_bad (Ok request) = request
request_or_bad (Err at) = bad_line at

-- what a line asks for in a language, without a carriage return at its end
unfoldable pub request_in : Language → List ℕ → Request
request_in language line = request_or_bad (client_line language (record { words = words_from 0 (words_of line); end = length line }))

-- what lines ask for, each with its carriage return dropped: those of a whole script, or those that are answered of one that passes
-- a limit
abbrev pub requests_of_lines : Language → List (List ℕ) → List Request
requests_of_lines language lines = map (λ line. request_in language (without_return line)) lines

-- what a line asks for where the log may be opened again
abbrev pub line_request : List ℕ → Request
line_request line = request_in calls_and_reopening line

-- what the lines of a script ask for where the log may be opened again
abbrev pub script_requests : List ℕ → List Request
script_requests bytes = requests_of_lines calls_and_reopening (lines_of bytes)
