-- Counts of clients' entries.
use Rattle.std.proofs.Common.{◌≡◌, ℕ, suc, ◌+◌, ◌-◌, ◌*◌, ◌<◌, ◌≤◌, ◌^◌, Bool, true, false, List, [], ◌∷◌, ◌++◌, length, length-append, arith, sym, ap, subst, ◌∙◌, inl, inr}
use Rattle.std.specs.Prelude.{if◌then◌else◌, ◌==◌, slice_index, slice_set, replicate, All}
use Rattle.std.specs.List.{sum}
use Rattle.std.proofs.lemmas.Bool.{cases_Bool, eqb-true, true≢false}
use Rattle.std.proofs.lemmas.Bool.Decides.{nat_tests}
use Rattle.std.proofs.lemmas.List.{append-nil, get_or-replicate, get_or-set_other, get_or-set_same}
use Rattle.std.proofs.lemmas.List.Elements.{All-set, filter-append}
use Rattle.std.proofs.lemmas.List.Sums.{sum_by-le, sum_by-set}
use Rattle.clfs_model.specs.declared.journal.Entry.{Entry}
use Rattle.clfs_model.specs.Journals.{mine}
use Rattle.clfs_shared.specs.Counts.{AreCounts, IsCounted, most_calls}

own_number : (n : ℕ) → (n == n) ≡ true
own_number n = grind (arith, nat_tests)

by_test : (b : Bool) (e : Entry) (m : List Entry) (n : ℕ) → length m ≤ n → length (if b then e ∷ m else m) ≤ suc n
by_test true e m n h = grind (arith, h)
by_test false e m n h = omega (arith, h)

-- a client has no more entries than there are
pub few : (entries : List Entry) (client : ℕ) → length (mine entries client) ≤ length entries
few [] client = omega arith
few (e ∷ es) client = by_test (e.client == client) e (mine es client) (length es) (few es client)

-- so its count is below the number of those for which there is memory, where there is room for one more
pub count_fits : (counts : List ℕ) (entries : List Entry) (client count capacity : ℕ) → AreCounts counts entries → client < 65 → count ≡ length entries
    → capacity < 2 ^ 64 → 0 < capacity - count → slice_index counts client + 1 < 2 ^ 64
count_fits counts entries client count capacity are low is fits room =
    let a = are client low in let b = few entries client in omega (arith, a, b, is, fits, room)

pub none_counted : (counts : List ℕ) (entries : List Entry) → counts ≡ replicate 65 0 → entries ≡ [] → AreCounts counts entries
none_counted counts entries is none = λ client low.
    ap (λ (z : List ℕ). slice_index z client) is ∙ (get_or-replicate 65 client 0 0 low ∙ ap (λ (z : List Entry). length (mine z client)) (sym none))

-- no client has an entry yet
pub none_yet : (counts : List ℕ) (entries : List Entry) → counts ≡ replicate 65 0 → entries ≡ [] → IsCounted 0 counts entries
none_yet counts entries is none = record {
  all = sym (ap length none);
  each = none_counted counts entries is none;
  few = subst (λ (z : List ℕ). All (λ n. n ≤ most_calls) z) (sym is) (λ k d below. let there = get_or-replicate 65 k 0 d below in omega (arith, there));
  together = ap sum is;
}

-- so the number of all may rise
pub all_fit : (count : ℕ) (counts : List ℕ) (entries : List Entry) → IsCounted count counts entries → length counts ≡ 65 → count + 1 < 2 ^ 64
all_fit count counts entries is many =
    let most : sum counts ≤ 65 * most_calls = subst (λ (n : ℕ). sum counts ≤ n * most_calls) many (sum_by-le (λ (n : ℕ). n) most_calls counts is.few) in
    let all = is.together in
    omega (arith, most, all)

-- each client's count with one entry more
each_more : (counts : List ℕ) (entries : List Entry) (entry : Entry) → AreCounts counts entries → entry.client < 65 → length counts ≡ 65
    → AreCounts (slice_set counts entry.client (slice_index counts entry.client + 1)) (entries ++ entry ∷ [])
each_more counts entries entry are low many = λ client below. elim (cases_Bool (entry.client == client)) [
  | inl same ↦
      let is : entry.client ≡ client = eqb-true entry.client client same in
      let at = get_or-set_same counts entry.client (slice_index counts entry.client + 1) 0 (omega (arith, low, many)) in
      let own = ap length (filter-append (λ (e : Entry). e.client == entry.client) entries (entry ∷ [])) in
      let count = are entry.client low in
      let more = length-append (mine entries entry.client) (entry ∷ []) in
      subst (λ (c : ℕ). slice_index (slice_set counts entry.client (slice_index counts entry.client + 1)) c ≡ length (mine (entries ++ entry ∷ []) c)) is
      (at ∙ ap (λ (n : ℕ). n + 1) count ∙ sym (own ∙ rw (own_number entry.client) more))
  | inr other ↦
      get_or-set_other counts entry.client client (slice_index counts entry.client + 1) 0 (λ is. absurd (true≢false (sym (own_number client) ∙ ap (λ (c : ℕ). c == client) is ∙ other)))
      ∙ are client below
      ∙ ap length (sym (filter-append (λ (e : Entry). e.client == client) entries (entry ∷ []) ∙ rw other (append-nil (mine entries client))))
]

-- and the counts of all
pub one_more : (count : ℕ) (counts : List ℕ) (entries : List Entry) (entry : Entry) → IsCounted count counts entries → entry.client < 65 → length counts ≡ 65
    → length (mine entries entry.client) < most_calls
    → IsCounted (count + 1) (slice_set counts entry.client (slice_index counts entry.client + 1)) (entries ++ entry ∷ [])
one_more count counts entries entry is low many room = record {
  all = ap (λ (n : ℕ). n + 1) is.all ∙ sym (length-append entries (entry ∷ []));
  each = each_more counts entries entry is.each low many;
  few = let own = is.each entry.client low in
      All-set (λ (n : ℕ). n ≤ most_calls) counts entry.client (slice_index counts entry.client + 1) (omega (arith, own, room)) is.few;
  together =
      let sums = sum_by-set (λ (n : ℕ). n) counts entry.client (slice_index counts entry.client + 1) 0 (omega (arith, low, many)) in
      let all = is.together in
      omega (arith, sums, all);
}
