-- The lines of a trial. Eight open a stream and make an area for each of four clients. Each line after them is made of two draws from a sequence of
-- pseudo-random numbers, and of the LSNs that the replies before it told.
use Rattle.std.specs.Prelude.{ℕ, zero, suc, ◌+◌, ◌-◌, ◌*◌, ◌/◌, ◌%◌, ◌^◌, ◌==◌, nat_lt, if◌then◌else◌, List, [], ◌∷◌, ◌++◌, take, replicate, codes, Option, unwrap_or}
use Rattle.std.specs.Fmt.{decimal}
use Rattle.clfs_lsn.specs.Lsn.{null_lsn}
use Rattle.clfs_lsn.specs.Words.{lsn_text, data_text}
use Rattle.clfs_trial.specs.declared.kind.LineKind.{LineKind}
use Rattle.clfs_trial.specs.declared.kind.LineKind.TheVariants.{Append, Reserve, Release, Flush, Restart, Info, Advance}

-- ---- the sequence of numbers, each of 64 bits

-- the number that follows one
abbrev pub next_number : ℕ → ℕ
next_number x = (x * 6364136223846793005 + 1442695040888963407) % 2 ^ 64

-- the numbers; the trial's own is at 0
abbrev pub number_at : ℕ → ℕ → ℕ
number_at number zero = number
number_at number (suc i) = next_number (number_at number i)

-- what is drawn of a number: its upper 31 bits
abbrev pub drawn : ℕ → ℕ
drawn x = x / 2 ^ 33

-- the draws, from 1
abbrev pub draw : ℕ → ℕ → ℕ
draw number i = drawn (number_at number i)

-- ---- a line of two draws

-- the client of a line with this first draw, 1 to 4
abbrev pub drawn_client : ℕ → ℕ
drawn_client first = 1 + first % 4

-- the size that it names, 0 to 400 bytes
abbrev pub drawn_size : ℕ → ℕ
drawn_size first = first / 4 % 401

-- what a line asks for, by its second draw modulo 16
abbrev pub kind_of : ℕ → LineKind
kind_of k =
    if nat_lt k 10 then Append else if k == 10 then Reserve else if k == 11 then Release else if k == 12 then Flush
    else if k == 13 then Restart else if k == 14 then Info else Advance

-- what stands after the client
abbrev pub call_text : LineKind → ℕ → ℕ → ℕ → ℕ → List ℕ
call_text Append client size byte lsn = codes " append 1 " ++ (data_text (replicate size byte) ++ codes " 0:0:0 0:0:0")
call_text Reserve client size byte lsn = codes " reserve 1 " ++ decimal size
call_text Release client size byte lsn = codes " release 1 1"
call_text Flush client size byte lsn = codes " flush 1"
call_text Restart client size byte lsn = codes " restart 1 - -"
call_text Info client size byte lsn = codes " info " ++ decimal client
call_text Advance client size byte lsn = codes " advance 1 " ++ lsn_text lsn

-- the line of two draws, with the LSN that the client was told last
abbrev pub drawn_line : ℕ → ℕ → ℕ → List ℕ
drawn_line first second lsn =
    decimal (drawn_client first) ++ call_text (kind_of (second % 16)) (drawn_client first) (drawn_size first) (second % 256) lsn

-- ---- all lines

-- how many lines come before those that are drawn
abbrev pub opening_lines : ℕ
opening_lines = 8

-- the client of one of these lines, which are numbered from 0
abbrev pub opening_client : ℕ → ℕ
opening_client i = 1 + i / 2

-- it opens a stream that is named after the client, or makes an area on it
abbrev pub opening_line : ℕ → List ℕ
opening_line i =
    if i % 2 == 0 then decimal (opening_client i) ++ (codes " open s" ++ decimal (opening_client i))
    else decimal (opening_client i) ++ (codes " area " ++ (decimal (opening_client i) ++ codes " 400 2"))

-- The draws of a line after these, of which each takes two. The first one takes draws 1 and 2.
abbrev pub first_draw : ℕ → ℕ → ℕ
first_draw number i = draw number (2 * (i - opening_lines) + 1)

-- the other one
abbrev pub second_draw : ℕ → ℕ → ℕ
second_draw number i = draw number (2 * (i - opening_lines) + 2)

-- the client of a line, and so of the reply to it
abbrev pub client_at : ℕ → ℕ → ℕ
client_at number i = if nat_lt i opening_lines then opening_client i else drawn_client (first_draw number i)

-- The LSN that a client was told last, or the one before, of the replies from the line at `i` on: each has an LSN or none.
abbrev pub last_told : ℕ → ℕ → ℕ → ℕ → List (Option ℕ) → ℕ
last_told number client i before [] = before
last_told number client i before (told ∷ more) =
    last_told number client (i + 1) (if client_at number i == client then unwrap_or told before else before) more

-- the LSN that a client was told last, or null
abbrev pub last_lsn : ℕ → ℕ → List (Option ℕ) → ℕ
last_lsn number client told = last_told number client 0 null_lsn told

-- The line at `i`, from 0, after replies that told these LSNs.
abbrev pub line_at : ℕ → ℕ → List (Option ℕ) → List ℕ
line_at number i told =
    if nat_lt i opening_lines then opening_line i
    else drawn_line (first_draw number i) (second_draw number i) (last_lsn number (client_at number i) told)

-- So many lines of the trial of a number, where the replies to them tell these LSNs. A line hangs on the replies before it alone.
abbrev pub generated : ℕ → ℕ → List (Option ℕ) → List (List ℕ)
generated number zero told = []
generated number (suc i) told = generated number i told ++ line_at number i (take i told) ∷ []
