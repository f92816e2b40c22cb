-- The bytes of names of streams.
use Rattle.std.specs.Prelude.{ℕ, Bool, nat_le, ◌&&◌, ◌||◌, ◌==◌}

-- a letter, a digit, `_`, `-` or `.`
abbrev pub is_name_byte : ℕ → Bool
is_name_byte b =
    (nat_le 48 b && nat_le b 57) || (nat_le 65 b && nat_le b 90) || (nat_le 97 b && nat_le b 122) || (b == 95) || (b == 45) || (b == 46)
