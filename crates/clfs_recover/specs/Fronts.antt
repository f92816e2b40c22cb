-- What a piece that was read ahead shows of a file.
use Rattle.std.specs.Prelude.{◌≡◌, ◌⊎◌, ℕ, ◌+◌, ◌-◌, ◌<◌, ◌≤◌, List, length, take, drop}

-- Bytes are a front of others: all of them, or at least so many.
pub record IsFrontOf (least : ℕ) (all front : List ℕ) : Type 0 where
  pub is : front ≡ take (length front) all
  pub long : (front ≡ all) ⊎ (least ≤ length front)

-- A piece that was read: from where on, its bytes, and how many there is room for.
pub record Piece : Type 0 where
  pub from : ℕ
  pub bytes : List ℕ
  pub room : ℕ

-- The piece has the bytes of a file from its place on, as many as there is room for or as are there.
pub record Shows (file : List ℕ) (piece : Piece) : Type 0 where
  pub is : piece.bytes ≡ take (length piece.bytes) (drop piece.from file)
  pub full : (piece.room ≤ length piece.bytes) ⊎ (length file ≤ piece.from + length piece.bytes)

-- The piece has so many bytes from a place on, or all that its file has there: it is shorter than its room.
abbrev pub Reaches : ℕ → ℕ → Piece → Type 0
Reaches at least piece = (piece.from ≤ at) × ((at - piece.from + least ≤ length piece.bytes) ⊎ (length piece.bytes < piece.room))
