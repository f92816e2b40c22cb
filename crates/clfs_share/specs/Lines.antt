-- What a line of a client asks for. Each client has lines of its own, and each of them begins with the client's number.
use Rattle.std.specs.Prelude.{ℕ, ◌==◌, Bool, false, if◌then◌else◌, List, [], ◌∷◌, map, Option}
use Rattle.std.specs.Option.{option_map_or}
use Rattle.clfs_model.specs.Lines.{words_of, without_return}
use Rattle.clfs_model.specs.Run.{Request, bad_line}
use Rattle.clfs_model.specs.Script.{client_word, calls_alone, request_in}

-- the first of some words
abbrev pub first_word : List (List ℕ) → List ℕ
first_word [] = []
first_word (word ∷ words) = word

-- the client that a line names by its first word
abbrev pub client_named : List ℕ → Option ℕ
client_named line = client_word (first_word (words_of line))

-- whether a line names this client
abbrev pub names : ℕ → List ℕ → Bool
names client line = option_map_or (λ named. named == client) (client_named line) false

-- What a client's line asks for, without a carriage return at its end: a call of the client, or nothing. A line that doesn't name the client goes
-- wrong at its first byte. No client may open the log again.
abbrev pub own_request : ℕ → List ℕ → Request
own_request client line = if names client line then request_in calls_alone line else bad_line 0

-- what a client's lines ask for, each with its carriage return dropped
abbrev pub own_requests : ℕ → List (List ℕ) → List Request
own_requests client lines = map (λ line. own_request client (without_return line)) lines
