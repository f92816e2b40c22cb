-- Which verbs a word can name by its length.
use Rattle.std.proofs.Common.{◌≡◌, ℕ, ◌<◌, List, length, None, false, codes, refl, arith, inl, inr, ap}
use Rattle.std.specs.Str.{bytes_eq}
use Rattle.std.proofs.lemmas.Bool.{cases_Bool}
use Rattle.std.proofs.lemmas.Slice.Eq.{bytes_eq-Decides}
use Rattle.clfs_model.specs.Script.{verb_word}
use Rattle.clfs_script.specs.Verbs.{verb_among, four_letters, seven_letters, other_letters}

-- words of different lengths differ
differ : (text word : List ℕ) → (length text ≡ length word → ⊥) → bytes_eq text word ≡ false
differ text word h = elim (cases_Bool (bytes_eq text word)) [
  | inl t ↦ absurd (h (ap length ((bytes_eq-Decides text word).0 t)))
  | inr t ↦ t
]

pub only_four : (word : List ℕ) → length word ≡ 4 → verb_among four_letters word ≡ verb_word word
only_four word h =
    let f0 = differ (codes "reserve") word (λ e. omega (arith, e, h)) in
    let f1 = differ (codes "release") word (λ e. omega (arith, e, h)) in
    let f2 = differ (codes "align") word (λ e. omega (arith, e, h)) in
    let f3 = differ (codes "append") word (λ e. omega (arith, e, h)) in
    let f4 = differ (codes "flush") word (λ e. omega (arith, e, h)) in
    let f5 = differ (codes "flushto") word (λ e. omega (arith, e, h)) in
    let f6 = differ (codes "end") word (λ e. omega (arith, e, h)) in
    let f7 = differ (codes "restart") word (λ e. omega (arith, e, h)) in
    let f8 = differ (codes "readrestart") word (λ e. omega (arith, e, h)) in
    let f9 = differ (codes "prevrestart") word (λ e. omega (arith, e, h)) in
    let f10 = differ (codes "advance") word (λ e. omega (arith, e, h)) in
    let f11 = differ (codes "archive") word (λ e. omega (arith, e, h)) in
    let f12 = differ (codes "extents") word (λ e. omega (arith, e, h)) in
    let f13 = differ (codes "policy") word (λ e. omega (arith, e, h)) in
    let f14 = differ (codes "unpolicy") word (λ e. omega (arith, e, h)) in
    rw (f0, f1, f2, f3, f4, f5, f6, f7, f8, f9, f10, f11, f12, f13, f14) refl

pub only_seven : (word : List ℕ) → length word ≡ 7 → verb_among seven_letters word ≡ verb_word word
only_seven word h =
    let f0 = differ (codes "open") word (λ e. omega (arith, e, h)) in
    let f1 = differ (codes "area") word (λ e. omega (arith, e, h)) in
    let f2 = differ (codes "drop") word (λ e. omega (arith, e, h)) in
    let f3 = differ (codes "align") word (λ e. omega (arith, e, h)) in
    let f4 = differ (codes "append") word (λ e. omega (arith, e, h)) in
    let f5 = differ (codes "flush") word (λ e. omega (arith, e, h)) in
    let f6 = differ (codes "read") word (λ e. omega (arith, e, h)) in
    let f7 = differ (codes "next") word (λ e. omega (arith, e, h)) in
    let f8 = differ (codes "end") word (λ e. omega (arith, e, h)) in
    let f9 = differ (codes "readrestart") word (λ e. omega (arith, e, h)) in
    let f10 = differ (codes "prevrestart") word (λ e. omega (arith, e, h)) in
    let f11 = differ (codes "tail") word (λ e. omega (arith, e, h)) in
    let f12 = differ (codes "policy") word (λ e. omega (arith, e, h)) in
    let f13 = differ (codes "unpolicy") word (λ e. omega (arith, e, h)) in
    let f14 = differ (codes "size") word (λ e. omega (arith, e, h)) in
    let f15 = differ (codes "info") word (λ e. omega (arith, e, h)) in
    rw (f0, f1, f2, f3, f4, f5, f6, f7, f8, f9, f10, f11, f12, f13, f14, f15) refl

pub only_others : (word : List ℕ) → (length word ≡ 4 → ⊥) → (length word ≡ 7 → ⊥) → verb_among other_letters word ≡ verb_word word
only_others word h k =
    let f0 = differ (codes "open") word (λ e. h (omega (arith, e))) in
    let f1 = differ (codes "area") word (λ e. h (omega (arith, e))) in
    let f2 = differ (codes "drop") word (λ e. h (omega (arith, e))) in
    let f3 = differ (codes "read") word (λ e. h (omega (arith, e))) in
    let f4 = differ (codes "next") word (λ e. h (omega (arith, e))) in
    let f5 = differ (codes "tail") word (λ e. h (omega (arith, e))) in
    let f6 = differ (codes "size") word (λ e. h (omega (arith, e))) in
    let f7 = differ (codes "info") word (λ e. h (omega (arith, e))) in
    let f8 = differ (codes "reserve") word (λ e. k (omega (arith, e))) in
    let f9 = differ (codes "release") word (λ e. k (omega (arith, e))) in
    let f10 = differ (codes "flushto") word (λ e. k (omega (arith, e))) in
    let f11 = differ (codes "restart") word (λ e. k (omega (arith, e))) in
    let f12 = differ (codes "advance") word (λ e. k (omega (arith, e))) in
    let f13 = differ (codes "archive") word (λ e. k (omega (arith, e))) in
    let f14 = differ (codes "extents") word (λ e. k (omega (arith, e))) in
    rw (f0, f1, f2, f3, f4, f5, f6, f7, f8, f9, f10, f11, f12, f13, f14) refl

pub none_shorter : (word : List ℕ) → length word < 7 → verb_among seven_letters word ≡ None
none_shorter word h =
    let f0 = differ (codes "reserve") word (λ e. omega (arith, e, h)) in
    let f1 = differ (codes "release") word (λ e. omega (arith, e, h)) in
    let f2 = differ (codes "flushto") word (λ e. omega (arith, e, h)) in
    let f3 = differ (codes "restart") word (λ e. omega (arith, e, h)) in
    let f4 = differ (codes "advance") word (λ e. omega (arith, e, h)) in
    let f5 = differ (codes "archive") word (λ e. omega (arith, e, h)) in
    let f6 = differ (codes "extents") word (λ e. omega (arith, e, h)) in
    rw (f0, f1, f2, f3, f4, f5, f6) refl
