-- Streams in the list of a log's streams.
use Rattle.std.specs.Prelude.{ℕ, ◌+◌, ◌-◌, ◌==◌, if◌then◌else◌, List, [], ◌∷◌, Option, Some, None, slice_get}
use Rattle.std.specs.Str.{bytes_eq}
use Rattle.clfs_lsn.specs.declared.stream.Stream.{Stream}

-- Streams are numbered from 1, in the order of their first opening.
abbrev pub stream_in : List Stream → ℕ → Option Stream
stream_in streams number = if number == 0 then None else slice_get streams (number - 1)

-- the number of the first stream of this name, counted on from a number
abbrev pub stream_number_from : ℕ → List ℕ → List Stream → Option ℕ
stream_number_from number name [] = None
stream_number_from number name (stream ∷ streams) =
    if bytes_eq stream.name name then Some number else stream_number_from (number + 1) name streams

-- the streams with this one's base moved
abbrev pub set_base : ℕ → ℕ → List Stream → List Stream
set_base number lsn [] = []
set_base number lsn (stream ∷ streams) =
    if number == 1 then record stream { base = lsn } ∷ streams else stream ∷ set_base (number - 1) lsn streams
