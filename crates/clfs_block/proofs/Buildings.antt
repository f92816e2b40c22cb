-- What a builder's fields say of what it shows.
use Rattle.clfs_block.proofs.Words.{◌≡◌, ℕ, ◌≤◌, Bool, true, false, cond, List, ◌++◌, length, drop, Option, Some, None, refl, ◌∙◌, ap, arith, length-drop}
use Rattle.clfs_block.proofs.Words.{drop-append-le, payload_of, used_bytes, Building}
use Rattle.clfs_block.proofs.Frames.{length-payload_of}

pub content_size : (used : ℕ) (buffer content : List ℕ) → 16 ≤ used → drop 16 (payload_of used buffer) ≡ content → used_bytes content ≡ used
content_size used buffer content some is =
    omega (arith, some, ap (λ (l : List ℕ). length l) is, length-drop 16 (payload_of used buffer), length-payload_of used buffer)

pub not_sealed : (is_sealed : Bool) (bytes : List ℕ) (shown : Option (List ℕ)) → cond is_sealed (Some bytes) None ≡ shown → shown ≡ None → is_sealed ≡ false
not_sealed true bytes shown is none = absurd (cc (is, none))
not_sealed false bytes shown is none = refl

pub shown_open : (is_sealed : Bool) (bytes : List ℕ) → is_sealed ≡ false → cond is_sealed (Some bytes) None ≡ None
shown_open is_sealed bytes is = ap (λ b. cond b (Some bytes) None) is

pub pushed_content : (used : ℕ) (buffer more content : List ℕ) → 16 ≤ used → drop 16 (payload_of used buffer) ≡ content
    → drop 16 (payload_of used buffer ++ more) ≡ content ++ more
pushed_content used buffer more content some is =
    drop-append-le 16 (payload_of used buffer) more (omega (arith, some, length-payload_of used buffer)) ∙ ap (λ (l : List ℕ). l ++ more) is

pub same_building : (a b : Building) → a.room ≡ b.room → a.records ≡ b.records → a.content ≡ b.content → a.sealed ≡ b.sealed → a ≡ b
same_building a b room records content sealed = λ i. record { room = room i; records = records i; content = content i; sealed = sealed i }
