use Rattle.std.proofs.Common.{◌≡◌, ℕ, ◌+◌, ◌%◌, ◌≤◌, ◌<◌, refl, arith, true, false, Bool}
use Rattle.std.specs.Prelude.{◌==◌, ◌||◌, nat_lt, nat_le, min, bit_or, if◌then◌else◌}
use Rattle.std.proofs.lemmas.Bool.{eqb-true, agree_below_at, le-ltb, le-leb, lt-leb}
use Rattle.clfs_text.specs.Nibbles.{nibble_of}
use Rattle.clfs_text.proofs.bytes.nibble.Goals as goal

-- what is read of a byte that is no decimal digit
letter_of : ℕ → ℕ
letter_of b = min ((bit_or b 32 + 159) % 256 + 10) 255

is_right : ℕ → Bool
unfolding letter_of
is_right b = nat_lt ((b + 208) % 256) 10 || (if nat_le (letter_of b) 15 then nibble_of b == letter_of b else nibble_of b == 255)

right_at : (b : ℕ) → b < 256 → is_right b ≡ true
unfolding is_right letter_of
right_at b h = agree_below_at is_right (λ y. true) 256 b refl h

if_small : (digit small : Bool) (x y : Bool) → (digit || (if small then x else y)) ≡ true → digit ≡ false → small ≡ true → x ≡ true
if_small true small x y right other t = absurd (cc)
if_small false true x y right other t = right
if_small false false x y right other t = absurd (cc)

if_large : (digit small : Bool) (x y : Bool) → (digit || (if small then x else y)) ≡ true → digit ≡ false → small ≡ false → y ≡ true
if_large true small x y right other t = absurd (cc)
if_large false true x y right other t = absurd (cc)
if_large false false x y right other t = right

letter_is : (b : ℕ) → b < 256 → 10 ≤ (b + 208) % 256 → letter_of b ≤ 15 → nibble_of b ≡ letter_of b
unfolding is_right
letter_is b h other small =
    let t = le-ltb ((b + 208) % 256) 10 other in
    let u = le-leb (letter_of b) 15 small in
    eqb-true (nibble_of b) (letter_of b) (if_small _ _ _ (nibble_of b == 255) (right_at b h) t u)

none_is : (b : ℕ) → b < 256 → 10 ≤ (b + 208) % 256 → 15 < letter_of b → nibble_of b ≡ 255
unfolding is_right
none_is b h other large =
    let t = le-ltb ((b + 208) % 256) 10 other in
    let u = lt-leb (letter_of b) 15 large in
    eqb-true (nibble_of b) 255 (if_large _ _ (nibble_of b == letter_of b) _ (right_at b h) t u)

pub returns-else-digit-lt10-clause-digit : goal.returns-else-digit-lt10-clause-digit
unfolding letter_of
returns-else-digit-lt10-clause-digit c =
    rw c.saturating_add-letter.ensures (letter_is c.args.byte (omega (arith, c.ranges.byte.fits)) c.if-digit-lt10.false)

pub returns-else-digit-lt10-clause-other : goal.returns-else-digit-lt10-clause-other
unfolding letter_of
returns-else-digit-lt10-clause-other c =
    rw c.saturating_add-letter.ensures (none_is c.args.byte (omega (arith, c.ranges.byte.fits)) c.if-digit-lt10.false)
