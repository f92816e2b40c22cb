-- What the generator keeps between two lines.
use Rattle.std.specs.Prelude.{ℕ, ◌+◌, ◌-◌, ◌*◌, min, nat_lt, if◌then◌else◌, List, [], ◌∷◌, length, map, slice_index, slice_set, Option, Some, None}
use Rattle.clfs_trial.specs.Generated.{next_number, number_at, drawn, drawn_client, drawn_line, opening_lines, opening_client, opening_line, last_lsn}

-- the number after which the next draw comes, how many of the opening lines were answered, and the LSN that each client was told last
pub record Stage : Type 0 where
  pub number : ℕ
  pub opened : ℕ
  pub lsns : List ℕ

-- the clients of a trial
abbrev pub clients : List ℕ
clients = 1 ∷ 2 ∷ 3 ∷ 4 ∷ []

-- what it keeps in the trial of a number, after replies that told these LSNs
abbrev pub stage_after : ℕ → List (Option ℕ) → Stage
stage_after number told = record {
  number = number_at number (2 * (length told - opening_lines));
  opened = min (length told) opening_lines;
  lsns = map (λ client. last_lsn number client told) clients;
}

-- the client of the next line
abbrev pub next_client : Stage → ℕ
next_client stage = if nat_lt stage.opened opening_lines then opening_client stage.opened else drawn_client (drawn (next_number stage.number))

-- the next line
abbrev pub next_line : Stage → List ℕ
next_line stage =
    if nat_lt stage.opened opening_lines then opening_line stage.opened
    else drawn_line (drawn (next_number stage.number)) (drawn (next_number (next_number stage.number))) (slice_index stage.lsns (next_client stage - 1))

-- the LSNs that each client was told last, after the reply to the next line
abbrev pub lsns_after : Stage → Option ℕ → List ℕ
lsns_after stage None = stage.lsns
lsns_after stage (Some lsn) = slice_set stage.lsns (next_client stage - 1) lsn

-- what is kept after that reply
abbrev pub moved_on : Stage → Option ℕ → Stage
moved_on stage told = record {
  number = if nat_lt stage.opened opening_lines then stage.number else next_number (next_number stage.number);
  opened = if nat_lt stage.opened opening_lines then stage.opened + 1 else stage.opened;
  lsns = lsns_after stage told;
}
