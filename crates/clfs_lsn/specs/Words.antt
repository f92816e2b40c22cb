-- The words of the script's text: numbers, LSNs and data, each as the text that spells it and as the value that a word spells.
use Rattle.std.specs.Prelude.{ℕ, ◌^◌, ◌-◌, ◌%◌, Bool, false, not, ◌&&◌, ◌||◌, ◌==◌, nat_lt, nat_le, if◌then◌else◌, List, [], ◌∷◌, ◌++◌, length, codes, slice_index, Option, Some, None}
use Rattle.std.specs.Fmt.{digits}
use Rattle.std.specs.List.{slice_split, list_all}
use Rattle.std.specs.Option.{option_and_then}
use Rattle.std.specs.Result.{result_ok}
use Rattle.std.specs.Str.{bytes_eq}
use Rattle.std.specs.Str.Parse.{digits_value}
use Rattle.hex.specs.Hex.{decode_of, encode_lower}
use Rattle.clfs_lsn.specs.Format.{sector_bytes}
use Rattle.clfs_lsn.specs.Lsn.{lsn_number, container_of, offset_of, sequence_of}

-- lower-case hexadecimal digits without leading zeros
abbrev pub hex_text : ℕ → List ℕ
hex_text n = digits 16 false n

-- container, offset and sequence in hexadecimal, joined by colons
abbrev pub lsn_text : ℕ → List ℕ
lsn_text lsn = hex_text (container_of lsn) ++ (codes ":" ++ (hex_text (offset_of lsn) ++ (codes ":" ++ hex_text (sequence_of lsn))))

-- a dash for no bytes, else two lower-case hexadecimal digits for each byte
abbrev pub data_text : List ℕ → List ℕ
data_text bytes = if length bytes == 0 then codes "-" else encode_lower bytes

-- the digits `0` to `9`
abbrev pub is_decimal_digit : ℕ → Bool
is_decimal_digit b = nat_le 48 b && nat_le b 57

-- the digits `0` to `9` and `a` to `f`
abbrev pub is_lower_hex_digit : ℕ → Bool
is_lower_hex_digit b = is_decimal_digit b || (nat_le 97 b && nat_le b 102)

-- one digit, or a first digit other than `0`
abbrev pub has_no_leading_zero : List ℕ → Bool
has_no_leading_zero word = (length word == 1) || not (slice_index word 0 == 48)

-- at least one digit, nothing but digits and no leading zero
abbrev pub is_number_word : (ℕ → Bool) → List ℕ → Bool
is_number_word is_digit word = nat_lt 0 (length word) && list_all is_digit word && has_no_leading_zero word

-- the number of at most so much that a word spells in digits of a base
abbrev pub number_of_word : (ℕ → Bool) → ℕ → ℕ → List ℕ → Option ℕ
number_of_word is_digit base most word =
    if is_number_word is_digit word && nat_le (digits_value base word) most then Some (digits_value base word) else None

-- a decimal number of at most so much
abbrev pub decimal_number : ℕ → List ℕ → Option ℕ
decimal_number most word = number_of_word is_decimal_digit 10 most word

-- a hexadecimal number below 2^32
abbrev pub hex_number : List ℕ → Option ℕ
hex_number word = number_of_word is_lower_hex_digit 16 (2 ^ 32 - 1) word

-- the LSN of a container, an offset and a sequence, where the last two can be those of an LSN
abbrev pub lsn_of_parts : ℕ → ℕ → ℕ → Option ℕ
lsn_of_parts container offset sequence =
    if (offset % sector_bytes == 0) && nat_le sequence (sector_bytes - 1) then Some (lsn_number container offset sequence) else None

-- the same of three numbers each of which may be missing
abbrev pub lsn_of_numbers : Option ℕ → Option ℕ → Option ℕ → Option ℕ
lsn_of_numbers container offset sequence =
    option_and_then (λ c. option_and_then (λ o. option_and_then (λ s. lsn_of_parts c o s) sequence) offset) container

-- the LSN that the pieces between the colons of a word spell, of which there must be three
abbrev pub lsn_of_pieces : List (List ℕ) → Option ℕ
lsn_of_pieces (container ∷ offset ∷ sequence ∷ []) = lsn_of_numbers (hex_number container) (hex_number offset) (hex_number sequence)
lsn_of_pieces _ = None

-- the LSN that a word spells
abbrev pub lsn_of_word : List ℕ → Option ℕ
lsn_of_word word = lsn_of_pieces (slice_split (λ b. b == 58) word)

-- the bytes that a word spells: a dash for none, else one pair of hexadecimal digits of either case for each
abbrev pub data_of_word : List ℕ → Option (List ℕ)
data_of_word word = if bytes_eq word (codes "-") then Some [] else if length word == 0 then None else result_ok (decode_of word)
