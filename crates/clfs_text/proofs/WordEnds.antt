-- Where the first word of a text ends.
use Rattle.std.proofs.Common.{◌≡◌, ℕ, zero, suc, ◌+◌, ◌-◌, ◌≤◌, ◌<◌, List, [], ◌∷◌, length, get_or, take, drop, Bool, true, false, refl, ◌∙◌, ap, subst, arith, inl, inr, drop-drop}
use Rattle.std.specs.Prelude.{◌==◌, nat_le, nat_lt}
use Rattle.std.specs.List.{slice_split, onto_first}
use Rattle.std.proofs.lemmas.Bool.{cases_Bool, cases_lt, eqb-true, le-leb, lt-leb, lt-ltb, ltb-true}
use Rattle.std.proofs.lemmas.List.{length-drop, length-take}
use Rattle.memchr.specs.Find.{NoneBefore, Nowhere, Passes, is_byte}
use Rattle.clfs_text.specs.Left.{words_behind}

abbrev is_space : ℕ → Bool
is_space b = b == 32

-- the first word ends at the first space
first_ends : (text : List ℕ) (k : ℕ) → k < length text → is_space (get_or text k 0) ≡ true → ((j : ℕ) → j < k → is_space (get_or text j 0) ≡ false)
    → slice_split is_space text ≡ take k text ∷ slice_split is_space (drop (suc k) text)
first_ends [] k within here before = absurd (omega arith)
first_ends (b ∷ text) zero within here before = rw here refl
first_ends (b ∷ text) (suc k) within here before =
    let t : is_space b ≡ false = before 0 (omega arith) in
    let rest = first_ends text k (omega arith) here (λ j h. before (suc j) (omega arith)) in
    rw (t, rest) refl

-- a text without a space is one word
one_word : (text : List ℕ) → ((j : ℕ) → j < length text → is_space (get_or text j 0) ≡ false) → slice_split is_space text ≡ text ∷ []
one_word [] before = refl
one_word (b ∷ text) before =
    let t : is_space b ≡ false = before 0 (omega arith) in
    let rest = one_word text (λ j h. before (suc j) (omega arith)) in
    rw (t, rest) refl

not_true : (b : Bool) → (b ≡ true → ⊥) → b ≡ false
not_true true h = absurd (h refl)
not_true false h = refl

-- after a line's end there are no words
pub past_the_end : (line : List ℕ) (at : ℕ) → length line < at → words_behind line at ≡ []
past_the_end line at h = let t : nat_le at (length line) ≡ false = lt-leb at (length line) h in rw t refl

-- a space was found
pub word_before : (line rest word : List ℕ) (at k : ℕ) → at ≤ length line → rest ≡ drop at line → word ≡ take k rest
    → NoneBefore (Passes (is_byte 32) rest) 0 (length rest) k × Passes (is_byte 32) rest k
    → words_behind line at ≡ word ∷ words_behind line (at + length word + 1)
word_before line rest word at k within behind front found =
    let t : nat_le at (length line) ≡ true = le-leb at (length line) within in
    let long : k < length rest = found.0.high in
    let size : length word ≡ k = omega (arith, ap length front, length-take k rest) in
    let whole : length rest ≡ length line - at = ap length behind ∙ length-drop at line in
    let split = first_ends rest k long found.1 (λ j h. not_true _ (found.0.before j (omega arith) h)) in
    let t2 : nat_le (at + k + 1) (length line) ≡ true = le-leb (at + k + 1) (length line) (omega arith) in
    let more : drop (suc k) rest ≡ drop (at + k + 1) line =
    ap (drop (suc k)) behind ∙ drop-drop (suc k) at line ∙ ap (λ n. drop n line) {x = at + suc k} {y = at + k + 1} (omega arith) in
    rw (size, t, t2, ← behind, ← more, front) split

-- no space was found
pub last_word : (line rest : List ℕ) (at : ℕ) → at ≤ length line → rest ≡ drop at line → Nowhere (Passes (is_byte 32) rest) 0 (length rest)
    → words_behind line at ≡ rest ∷ words_behind line (at + length rest + 1)
last_word line rest at within behind none =
    let t : nat_le at (length line) ≡ true = le-leb at (length line) within in
    let whole : length rest ≡ length line - at = ap length behind ∙ length-drop at line in
    let t2 : nat_le (at + length rest + 1) (length line) ≡ false = lt-leb (at + length rest + 1) (length line) (omega arith) in
    let split = one_word rest (λ j h. not_true _ (none j (omega arith) h)) in
    rw (t, t2, ← behind) split

-- one byte more that is no space
pub no_space_yet : (rest : List ℕ) (i : ℕ) → Nowhere (Passes (is_byte 32) rest) 0 i → (get_or rest i 0 ≡ 32 → ⊥)
    → Nowhere (Passes (is_byte 32) rest) 0 (i + 1)
no_space_yet rest i before other = λ k low high passes. elim (cases_lt k i) [
  | inl earlier ↦ before k low earlier passes
  | inr there ↦
      let same : k ≡ i = omega arith in
      other (eqb-true (get_or rest i 0) 32 (subst (λ (n : ℕ). (get_or rest n 0 == 32) ≡ true) same passes))
]

onto_there : (b : ℕ) (parts : List (List ℕ)) → onto_first b parts ≡ [] → ⊥
onto_there b [] e = absurd (cc)
onto_there b (part ∷ parts) e = absurd (cc)

parts_there : (text : List ℕ) → slice_split is_space text ≡ [] → ⊥
parts_there [] e = absurd (cc)
parts_there (b ∷ text) e =
    elim (cases_Bool (is_space b)) [
      | inl t ↦ let e' = rw t at e in absurd (cc e')
      | inr t ↦ let e' = rw t at e in onto_there b (slice_split is_space text) e'
    ]

-- words are left as long as the line hasn't been left
pub end_is : (line : List ℕ) (at : ℕ) → (nat_lt (length line) at ≡ true → words_behind line at ≡ []) × (words_behind line at ≡ []
    → nat_lt (length line) at ≡ true)
end_is line at = (
  λ t. past_the_end line at (ltb-true (length line) at t),
  λ e. elim (cases_lt (length line) at) [
    | inl h ↦ lt-ltb (length line) at h
    | inr h ↦ let t : nat_le at (length line) ≡ true = le-leb at (length line) h in let e' = rw t at e in absurd (parts_there (drop at line) e')
  ],
)
