-- Where the payload of a block stands.
use Rattle.clfs_block.proofs.Words.{◌≡◌, ⊎_elim, ℕ, ◌+◌, ◌-◌, ◌*◌, ◌%◌, ◌<◌, ◌≤◌, List, ◌++◌, length, get_or, take, drop, refl, sym, ◌∙◌, ap, arith}
use Rattle.clfs_block.proofs.Words.{length-append, length-drop, ext_get_or, length-take-le, get_or-take, get_or-drop, get_or_append_left, get_or-append_right}
use Rattle.clfs_block.proofs.Words.{cases_lt, place_of, payload_of, payload_from}
use Rattle.std.proofs.lemmas.List.FromFn.{length-map-range_with_len, get_or-map-range_with_len}

pub length-payload_of : (count : ℕ) (block : List ℕ) → length (payload_of count block) ≡ count
length-payload_of count block = length-map-range_with_len (λ p. get_or block (place_of p) 0) 0 count

pub get_or-payload_of : (count : ℕ) (block : List ℕ) (p : ℕ) → p < count → get_or (payload_of count block) p 0 ≡ get_or block (place_of p) 0
get_or-payload_of count block p lt = get_or-map-range_with_len (λ q. get_or block (place_of q) 0) 0 count p p 0 lt (omega arith)

-- a list of those bytes is the payload
pub payload_is : (count : ℕ) (block now : List ℕ) → length now ≡ count → ((p : ℕ) → p < count → get_or now p 0 ≡ get_or block (place_of p) 0)
    → now ≡ payload_of count block
payload_is count block now long each = ext_get_or 0 now (payload_of count block) (long ∙ sym (length-payload_of count block))
    (λ p lt. each p (omega (arith, lt, long)) ∙ sym (get_or-payload_of count block p (omega (arith, lt, long))))

pub length-payload_from : (first count : ℕ) (block : List ℕ) → length (payload_from first count block) ≡ count
length-payload_from first count block = length-map-range_with_len (λ p. get_or block (place_of p) 0) first count

pub get_or-payload_from : (first count : ℕ) (block : List ℕ) (p : ℕ) → p < count
    → get_or (payload_from first count block) p 0 ≡ get_or block (place_of (first + p)) 0
get_or-payload_from first count block p lt = get_or-map-range_with_len (λ q. get_or block (place_of q) 0) first count p (first + p) 0 lt refl

-- bytes of one sector are the next bytes of the payload
pub payload_more : (first count part : ℕ) (block : List ℕ) → (first + count) % 504 + part ≤ 504 → place_of (first + count) + part ≤ length block
    → payload_from first count block ++ take part (drop (place_of (first + count)) block) ≡ payload_from first (count + part) block
payload_more first count part block few room =
    let front = payload_from first count block in
    let place = place_of (first + count) in
    let back = take part (drop place block) in
    let size : length back ≡ part = length-take-le part (drop place block) (omega (arith, room, length-drop place block)) in
    ext_get_or 0 (front ++ back) (payload_from first (count + part) block)
    (omega (arith, size, length-append front back, length-payload_from first count block, length-payload_from first (count + part) block))
    (λ p lt.
    let within : p < count + part = omega (arith, lt, size, length-append front back, length-payload_from first count block) in
    ⊎_elim
    (λ (low : p < count). get_or_append_left front back 0 p (omega (arith, low, length-payload_from first count block))
    ∙ get_or-payload_from first count block p low)
    (λ (high : count ≤ p).
    let index : place + (p - count) ≡ place_of (first + p) = omega (arith, high, within, few) in
    get_or-append_right front back count p 0 (length-payload_from first count block) high
    ∙ get_or-take part (drop place block) (p - count) 0 (omega (arith, high, within))
    ∙ get_or-drop place block (p - count) 0 ∙ ap (λ (k : ℕ). get_or block k 0) index)
    (cases_lt p count) ∙ sym (get_or-payload_from first (count + part) block p within))

-- bytes that are put after a payload, in the sector of its end, go on with it
pub payload_pushed : (used : ℕ) (buffer part now : List ℕ) → length buffer ≡ place_of used → used % 504 + length part ≤ 504
    → ((k : ℕ) → k < length buffer + length part → get_or now k 0 ≡ get_or (buffer ++ part) k 0)
    → payload_of (used + length part) now ≡ payload_of used buffer ++ part
payload_pushed used buffer part now place few agree =
    let front = payload_of used buffer in
    sym (payload_is (used + length part) now (front ++ part) (omega (arith, length-append front part, length-payload_of used buffer))
    (λ p lt. ⊎_elim
    (λ (low : p < used).
    let within : place_of p < length buffer = omega (arith, low, place) in
    get_or_append_left front part 0 p (omega (arith, low, length-payload_of used buffer)) ∙ get_or-payload_of used buffer p low
    ∙ sym (agree (place_of p) (omega (arith, within)) ∙ get_or_append_left buffer part 0 (place_of p) within))
    (λ (high : used ≤ p).
    let past : length buffer ≤ place_of p = omega (arith, high, lt, few, place) in
    let index : place_of p - length buffer ≡ p - used = omega (arith, high, lt, few, place) in
    let within : place_of p < length buffer + length part = omega (arith, high, lt, few, place) in
    get_or-append_right front part used p 0 (length-payload_of used buffer) high
    ∙ sym (agree (place_of p) within ∙ get_or-append_right buffer part (length buffer) (place_of p) 0 refl past ∙ ap
    (λ (k : ℕ). get_or part k 0) index))
    (cases_lt p used)))

-- the places of a payload and of what stands after it
pub place_below : (p used : ℕ) → p < used → place_of p < place_of used
place_below p used lt = omega (arith, lt)

pub place_above : (p used : ℕ) → used ≤ p → place_of used ≤ place_of p
place_above p used le = omega (arith, le)

pub place_in_payload : (p : ℕ) → place_of p % 512 < 504
place_in_payload p = omega arith

pub place_within : (p count : ℕ) → p < 504 * count → place_of p < 512 * count
place_within p count lt = omega (arith, lt)
