-- Where the first line feed of bytes stands.
use Rattle.clfs_race.proofs.Words.{◌≡◌, ℕ, suc, ◌+◌, List, ◌∷◌, ◌++◌, length, take, drop, Bool, true, false, refl, sym, ap, ◌∙◌, arith, eqb-true, is_feed}
use Rattle.clfs_race.proofs.Words.{HasNoFeed}
use Rattle.std.proofs.Common.{get_or}
use Rattle.std.proofs.lemmas.List.{get_or-take, length-take-le, take-append-drop}
use Rattle.std.proofs.lemmas.List.Elements.{All-from_get_or}
use Rattle.std.proofs.Math.Seq.{drop-cons}
use Rattle.memchr.specs.Find.{NoneBefore, Nowhere, Passes, is_byte}

not_true : (b : Bool) → (b ≡ true → ⊥) → b ≡ false
not_true true h = absurd (h refl)
not_true false h = refl

-- none was found
pub no_feed : (bytes : List ℕ) → Nowhere (Passes (is_byte 10) bytes) 0 (length bytes) → HasNoFeed bytes
no_feed bytes none = All-from_get_or (λ (byte : ℕ). is_feed byte ≡ false) bytes 0 (λ i h. not_true _ (none i (omega arith) h))

-- nor is there one before the first
pub none_before : (bytes : List ℕ) (k : ℕ) → NoneBefore (Passes (is_byte 10) bytes) 0 (length bytes) k → HasNoFeed (take k bytes)
none_before bytes k first =
    let many : length (take k bytes) ≡ k = length-take-le k bytes (omega (arith, first.high)) in
    All-from_get_or (λ (byte : ℕ). is_feed byte ≡ false) (take k bytes) 0
    (λ i h. ap is_feed (get_or-take k bytes i 0 (omega (arith, h, many))) ∙ not_true _ (first.before i (omega arith) (omega (arith, h, many))))

-- the bytes are the line, its line feed, and what stands after it
pub split_there : (bytes : List ℕ) (k : ℕ) → NoneBefore (Passes (is_byte 10) bytes) 0 (length bytes) k → Passes (is_byte 10) bytes k
    → bytes ≡ take k bytes ++ 10 ∷ drop (length (take k bytes) + 1) bytes
split_there bytes k first here =
    let many : length (take k bytes) ≡ k = length-take-le k bytes (omega (arith, first.high)) in
    let feed : get_or bytes k 0 ≡ 10 = eqb-true (get_or bytes k 0) 10 here in
    sym (take-append-drop k bytes)
    ∙ ap (λ (rest : List ℕ). take k bytes ++ rest) (drop-cons bytes k 0 first.high ∙ ap (λ (b : ℕ). b ∷ drop (suc k) bytes) feed)
    ∙ ap (λ (n : ℕ). take k bytes ++ 10 ∷ drop n bytes) {x = suc k} {y = length (take k bytes) + 1} (omega (arith, many))
