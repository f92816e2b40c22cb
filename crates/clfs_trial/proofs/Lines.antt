-- What the generator keeps gives the line that the definition says, and what is kept next.
use Rattle.std.proofs.Common.{◌≡◌, ℕ, zero, suc, ◌+◌, ◌-◌, ◌*◌, ◌<◌, ◌≤◌, List, [], ◌∷◌, ◌++◌, length, Bool, true, false, Option, Some, None, refl, sym, ap, ◌∙◌, arith, inl, inr, add-zero, length-append}
use Rattle.std.specs.Prelude.{nat_lt, ◌==◌, if◌then◌else◌, min, map, slice_index, slice_set, unwrap_or}
use Rattle.std.proofs.lemmas.Bool.{cases_Bool, ltb-true, ltb-false}
use Rattle.clfs_lsn.specs.Lsn.{null_lsn}
use Rattle.clfs_trial.specs.Generated.{next_number, number_at, drawn, drawn_client, drawn_line, opening_client, first_draw, second_draw, client_at, last_told, last_lsn, line_at}
use Rattle.clfs_trial.specs.Stage.{Stage, stage_after, clients, next_client, next_line, lsns_after, moved_on}

-- ---- the numbers

first_on : (number i : ℕ) → number_at number (2 * i + 1) ≡ next_number (number_at number (2 * i))
first_on number i = let e : 2 * i + 1 ≡ suc (2 * i) = omega arith in rw e refl

second_on : (number i : ℕ) → number_at number (2 * i + 2) ≡ next_number (next_number (number_at number (2 * i)))
second_on number i = let e : 2 * i + 2 ≡ suc (suc (2 * i)) = omega arith in rw e refl

two_on : (number n : ℕ) → 8 ≤ n → next_number (next_number (number_at number (2 * (n - 8)))) ≡ number_at number (2 * (n + 1 - 8))
two_on number n past = let e : 2 * (n + 1 - 8) ≡ suc (suc (2 * (n - 8))) = omega arith in rw e refl

-- ---- the client of the next line

-- where the opening lines are
opens : (n : ℕ) → n < 8 → min n 8 ≡ n
opens n h = omega arith

is_past : (n : ℕ) → 8 ≤ n → min n 8 ≡ 8
is_past n h = omega arith

pub client_is : (number : ℕ) (told : List (Option ℕ)) → next_client (stage_after number told) ≡ client_at number (length told)
client_is number told = elim (cases_Bool (nat_lt (length told) 8)) [
  | inl opening ↦ let m = opens (length told) (ltb-true (length told) 8 opening) in rw (m, opening) refl
  | inr past ↦
      let m = is_past (length told) (ltb-false (length told) 8 past) in
      rw (m, past) (ap (λ x. drawn_client (drawn x)) (sym (first_on number (length told - 8))))
]

drawn_one : (x : ℕ) → (1 ≤ drawn_client x) × (drawn_client x ≤ 4)
drawn_one x = (omega arith, omega arith)

opening_one : (i : ℕ) → i < 8 → (1 ≤ opening_client i) × (opening_client i ≤ 4)
opening_one i h = (omega arith, omega arith)

client_one : (number i : ℕ) → (1 ≤ client_at number i) × (client_at number i ≤ 4)
client_one number i = elim (cases_Bool (nat_lt i 8)) [
  | inl opening ↦ rw opening (opening_one i (ltb-true i 8 opening))
  | inr past ↦ rw past (drawn_one (first_draw number i))
]

-- ---- the LSNs of four clients

lsn_there : (f : ℕ → ℕ) (c : ℕ) → 1 ≤ c → c ≤ 4 → slice_index (map f clients) (c - 1) ≡ f c
lsn_there f zero some few = absurd (omega arith)
lsn_there f (suc zero) some few = refl
lsn_there f (suc (suc zero)) some few = refl
lsn_there f (suc (suc (suc zero))) some few = refl
lsn_there f (suc (suc (suc (suc zero)))) some few = refl
lsn_there f (suc (suc (suc (suc (suc c))))) some few = absurd (omega arith)

lsn_put : (f : ℕ → ℕ) (c lsn : ℕ) → 1 ≤ c → c ≤ 4 → slice_set (map f clients) (c - 1) lsn ≡ map (λ k. if c == k then lsn else f k) clients
lsn_put f zero lsn some few = absurd (omega arith)
lsn_put f (suc zero) lsn some few = refl
lsn_put f (suc (suc zero)) lsn some few = refl
lsn_put f (suc (suc (suc zero))) lsn some few = refl
lsn_put f (suc (suc (suc (suc zero)))) lsn some few = refl
lsn_put f (suc (suc (suc (suc (suc c))))) lsn some few = absurd (omega arith)

-- ---- one reply more

told_more : (number client i before : ℕ) (told : List (Option ℕ)) (lsn : Option ℕ)
    → last_told number client i before (told ++ lsn ∷ [])
    ≡ (if client_at number (i + length told) == client then unwrap_or lsn (last_told number client i before told) else last_told number client i before told)
told_more number client i before [] lsn = rw add-zero refl
told_more number client i before (x ∷ told) lsn =
    let e : i + 1 + length told ≡ i + suc (length told) = omega arith in
    told_more number client (i + 1) (if client_at number i == client then unwrap_or x before else before) told lsn ∙ rw e refl

lsn_more : (number client : ℕ) (told : List (Option ℕ)) (lsn : Option ℕ)
    → last_lsn number client (told ++ lsn ∷ [])
    ≡ (if client_at number (length told) == client then unwrap_or lsn (last_lsn number client told) else last_lsn number client told)
lsn_more number client told lsn = let e : 0 + length told ≡ length told = omega arith in told_more number client 0 null_lsn told lsn ∙ rw e refl

either_way : (own : Bool) (x : ℕ) → x ≡ (if own then x else x)
either_way true x = refl
either_way false x = refl

lsns_more : (number : ℕ) (told : List (Option ℕ)) (lsn : Option ℕ)
    → lsns_after (stage_after number told) lsn ≡ map (λ client. last_lsn number client (told ++ lsn ∷ [])) clients
lsns_more number told None =
    let keeps = λ (k : ℕ). either_way (client_at number (length told) == k) (last_lsn number k told) ∙ sym (lsn_more number k told None) in
    let one = keeps 1 in
    let two = keeps 2 in
    let three = keeps 3 in
    let four = keeps 4 in
    cc
lsns_more number told (Some lsn) =
    let c = client_one number (length told) in
    let more = λ (k : ℕ). lsn_more number k told (Some lsn) in
    let one = more 1 in
    let two = more 2 in
    let three = more 3 in
    let four = more 4 in
    let is = client_is number told in
    let put = lsn_put (λ client. last_lsn number client told) (client_at number (length told)) lsn c.0 c.1 in
    ap (λ k. slice_set (stage_after number told).lsns (k - 1) lsn) is ∙ put ∙ cc

-- ---- the next line and what is kept after it

same_line : (x y lsn a b c : ℕ) → x ≡ a → y ≡ b → lsn ≡ c → drawn_line (drawn x) (drawn y) lsn ≡ drawn_line (drawn a) (drawn b) c
same_line x y lsn a b c e f g =
    ap (λ k. drawn_line (drawn k) (drawn y) lsn) e ∙ ap (λ k. drawn_line (drawn a) (drawn k) lsn) f ∙ ap (λ k. drawn_line (drawn a) (drawn b) k) g

past_line : (number : ℕ) (told : List (Option ℕ)) → nat_lt (length told) 8 ≡ false → next_line (stage_after number told) ≡ line_at number (length told) told
past_line number told past =
    let n = length told in
    let stage = stage_after number told in
    let m : min n 8 ≡ 8 = is_past n (ltb-false n 8 past) in
    let c = client_one number n in
    let there : slice_index stage.lsns (next_client stage - 1) ≡ last_lsn number (client_at number n) told
    = ap (λ k. slice_index stage.lsns (k - 1)) (client_is number told) ∙ lsn_there (λ client. last_lsn number client told) (client_at number n) c.0 c.1 in
    let begins : next_line stage ≡ drawn_line (drawn (next_number stage.number)) (drawn (next_number (next_number stage.number)))
    (slice_index stage.lsns (next_client stage - 1)) = rw m refl in
    let ends : drawn_line (first_draw number n) (second_draw number n) (last_lsn number (client_at number n) told) ≡ line_at number n told = rw past refl in
    begins ∙ same_line _ _ _ _ _ _ (sym (first_on number (n - 8))) (sym (second_on number (n - 8))) there ∙ ends

pub line_is : (number : ℕ) (told : List (Option ℕ)) → next_line (stage_after number told) ≡ line_at number (length told) told
line_is number told = elim (cases_Bool (nat_lt (length told) 8)) [
  | inl opening ↦ let m = opens (length told) (ltb-true (length told) 8 opening) in rw (m, opening) refl
  | inr past ↦ past_line number told past
]

same_stage : (a b c d : ℕ) (l m : List ℕ) → a ≡ b → c ≡ d → l ≡ m
    → (let x : Stage = record { number = a; opened = c; lsns = l } in x) ≡ record { number = b; opened = d; lsns = m }
same_stage a b c d l m e f g = cc

number_more : (number n : ℕ) → (moved_on (record { number = number_at number (2 * (n - 8)); opened = min n 8; lsns = [] }) None).number ≡ number_at number (2 * (n + 1 - 8))
number_more number n = elim (cases_Bool (nat_lt n 8)) [
  | inl opening ↦
      let less : n < 8 = ltb-true n 8 opening in
      let m = opens n less in
      let e : n + 1 - 8 ≡ n - 8 = omega arith in
      rw (m, opening, e) refl
  | inr past ↦ let m = is_past n (ltb-false n 8 past) in rw m (two_on number n (ltb-false n 8 past))
]

opened_more : (n : ℕ) → (if nat_lt (min n 8) 8 then min n 8 + 1 else min n 8) ≡ min (n + 1) 8
opened_more n = elim (cases_Bool (nat_lt n 8)) [
  | inl opening ↦
      let less : n < 8 = ltb-true n 8 opening in
      let m = opens n less in
      let e : min (n + 1) 8 ≡ n + 1 = omega arith in
      rw (m, opening, e) refl
  | inr past ↦
      let more : 8 ≤ n = ltb-false n 8 past in
      let m = is_past n more in
      let e : min (n + 1) 8 ≡ 8 = omega arith in
      rw (m, e) refl
]

pub moved_is : (number : ℕ) (told : List (Option ℕ)) (lsn : Option ℕ)
    → moved_on (stage_after number told) lsn ≡ stage_after number (told ++ lsn ∷ [])
moved_is number told lsn =
    let n : length (told ++ lsn ∷ []) ≡ length told + 1 = length-append told (lsn ∷ []) in
    same_stage _ _ _ _ _ _ (number_more number (length told) ∙ ap (λ k. number_at number (2 * (k - 8))) (sym n))
    (opened_more (length told) ∙ ap (λ k. min k 8) (sym n)) (lsns_more number told lsn)
