-- Hexadecimal digits of either case.
use Rattle.std.specs.Prelude.{ℕ, unwrap_or}
use Rattle.hex.specs.Hex.{hex_digit_value}

-- a digit's value, or 255 where the byte is no digit
abbrev pub nibble_of : ℕ → ℕ
nibble_of b = unwrap_or (hex_digit_value b) 255
