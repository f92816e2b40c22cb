-- Bytes and their line feeds.
use Rattle.std.specs.Prelude.{◌≡◌, ℕ, ◌==◌, Bool, false, List}
use Rattle.std.specs.List.{All}

-- a line feed
abbrev pub is_feed : ℕ → Bool
is_feed byte = byte == 10

-- bytes without a line feed
abbrev pub HasNoFeed : List ℕ → Type 0
HasNoFeed bytes = All (λ byte. is_feed byte ≡ false) bytes
