-- What is read of records, over their heads alone: no table of the log needs a record's data. A list of heads is that of the records of
-- all streams, their LSNs rising, where nothing else is said; the bases of streams come in as numbers.
use Rattle.std.specs.Prelude.{ℕ, min, Bool, true, false, ◌==◌, nat_lt, nat_le, List, [], ◌∷◌, ◌++◌, map, filter, find, fold, reverse, Option, None}
use Rattle.std.specs.List.{last_or}
use Rattle.std.specs.Option.{option_map_or, option_and_then, option_to_list}
use Rattle.clfs_lsn.specs.Lsn.{null_lsn}
use Rattle.clfs_lsn.specs.declared.cursor.Mode.{Mode}
use Rattle.clfs_lsn.specs.declared.cursor.Mode.TheVariants.{Previous, UndoNext, Forward}
use Rattle.clfs_lsn.specs.declared.entry.Head.{Head}
use Rattle.clfs_lsn.specs.declared.entry.Kind.{Kind}
use Rattle.clfs_lsn.specs.declared.entry.Kind.TheVariants.{Plain, Restart}

-- a head's own LSN
abbrev pub lsn_of_head : Head → ℕ
lsn_of_head head = head.lsn

-- the heads of one stream
abbrev pub stream_heads : ℕ → List Head → List Head
stream_heads stream heads = filter (λ (head : Head). head.stream == stream) heads

-- the heads from an LSN on; from a stream's base on they are the live ones
abbrev pub heads_from : ℕ → List Head → List Head
heads_from base heads = filter (λ (head : Head). nat_le base head.lsn) heads

-- the live heads of a stream with this base
abbrev pub live_heads : ℕ → ℕ → List Head → List Head
live_heads base stream heads = heads_from base (stream_heads stream heads)

-- the head at an LSN
abbrev pub head_at : ℕ → List Head → Option Head
head_at lsn heads = find (λ (head : Head). head.lsn == lsn) heads

-- the first head above an LSN
abbrev pub head_above : ℕ → List Head → Option Head
head_above lsn heads = find (λ (head : Head). nat_lt lsn head.lsn) heads

-- the LSN of a head, or null where there is none
abbrev pub head_or_null : Option Head → ℕ
head_or_null found = option_map_or (λ (head : Head). head.lsn) found null_lsn

-- the live head of a stream at an LSN
abbrev pub live_head_at : ℕ → ℕ → ℕ → List Head → Option Head
live_head_at base stream lsn heads = head_at lsn (live_heads base stream heads)

-- the last live head of a stream
abbrev pub last_live_head : ℕ → ℕ → List Head → Option Head
last_live_head base stream heads = last_or None (live_heads base stream heads)

-- the head where reading goes next from the one at `last`
abbrev pub next_head : ℕ → ℕ → Mode → ℕ → List Head → Option Head
next_head base stream Previous last heads = option_and_then (λ (head : Head). live_head_at base stream head.previous heads) (head_at last heads)
next_head base stream UndoNext last heads = option_and_then (λ (head : Head). live_head_at base stream head.undo_next heads) (head_at last heads)
next_head base stream Forward last heads = head_above last (live_heads base stream heads)

-- whether a record is a restart area
abbrev pub is_restart : Kind → Bool
is_restart Plain = false
is_restart Restart = true

-- the restart areas among heads, the newest first
abbrev pub restarts_among : List Head → List Head
restarts_among heads = reverse (filter (λ (head : Head). is_restart head.kind) heads)

-- the first of them below an LSN
abbrev pub head_below : ℕ → List Head → Option Head
head_below lsn heads = find (λ (head : Head). nat_lt head.lsn lsn) heads

-- the live restart areas of a stream, the newest first
abbrev pub restart_heads : ℕ → ℕ → List Head → List Head
restart_heads base stream heads = restarts_among (live_heads base stream heads)

-- the least of some numbers, or the other one where there are none
abbrev pub least_or : ℕ → List ℕ → ℕ
least_or other [] = other
least_or other (n ∷ ns) = fold min n ns

-- The hold by the frontier, the archive tail where there is one, each stream's base, and the heads.
abbrev pub hold_of : ℕ → Option ℕ → (ℕ → ℕ) → List Head → ℕ
hold_of end tail bases heads = least_or end
    (option_to_list tail ++ map (λ (head : Head). head.lsn) (filter (λ (head : Head). nat_le (bases head.stream) head.lsn) heads))
