-- Records of which some pass a test: what is so of these, of all, and of their numbers.
use Rattle.clfs_recover.proofs.Words.{◌≡◌, inl, inr, ℕ, Bool, true, false, List, [], ◌∷◌, map, refl, ap, ◌∙◌, AllByRecursion, filter, cases_Bool, LogEntry}

-- a test doesn't fail where it passes
clash : {A : Type 0} (b : Bool) → b ≡ true → b ≡ false → A
clash b passes fails = absurd (cc)

-- what is so of each record by another fact of it, or by two
pub weaker : (P Q : LogEntry → Type 0) (entries : List LogEntry) → ((entry : LogEntry) → P entry → Q entry) → AllByRecursion P entries → AllByRecursion Q entries
weaker P Q [] weak all = tt
weaker P Q (entry ∷ entries) weak all = (weak entry all.0, weaker P Q entries weak all.1)

pub from_both : (P Q R : LogEntry → Type 0) (entries : List LogEntry) → ((entry : LogEntry) → P entry → Q entry → R entry)
    → AllByRecursion P entries → AllByRecursion Q entries → AllByRecursion R entries
from_both P Q R [] both first second = tt
from_both P Q R (entry ∷ entries) both first second = (both entry first.0 second.0, from_both P Q R entries both first.1 second.1)

-- where each passes all are kept, and where each fails none
pub kept_all : (p : LogEntry → Bool) (entries : List LogEntry) → AllByRecursion (λ (entry : LogEntry). p entry ≡ true) entries → filter p entries ≡ entries
kept_all p [] all = refl
kept_all p (entry ∷ entries) all = rw all.0 (ap (λ (es : List LogEntry). entry ∷ es) (kept_all p entries all.1))

pub kept_none : (p : LogEntry → Bool) (entries : List LogEntry) → AllByRecursion (λ (entry : LogEntry). p entry ≡ false) entries → filter p entries ≡ []
kept_none p [] all = refl
kept_none p (entry ∷ entries) all = rw all.0 (kept_none p entries all.1)

-- those that pass a test are the same among the kept ones, where each of them is kept
pub kept_passed : (keep p q : LogEntry → Bool) (entries : List LogEntry) → ((entry : LogEntry) → q entry ≡ p entry)
    → AllByRecursion (λ (entry : LogEntry). p entry ≡ true → keep entry ≡ true) entries → filter q (filter keep entries) ≡ filter p entries
kept_passed keep p q [] same all = refl
kept_passed keep p q (entry ∷ entries) same all = elim (cases_Bool (keep entry)) [
  | inl kept ↦ rw kept (elim (cases_Bool (p entry)) [
    | inl passes ↦ rw (same entry ∙ passes) (rw passes (ap (λ (es : List LogEntry). entry ∷ es) (kept_passed keep p q entries same all.1)))
    | inr fails ↦ rw (same entry ∙ fails) (rw fails (kept_passed keep p q entries same all.1))
  ])
  | inr dropped ↦ rw dropped (elim (cases_Bool (p entry)) [
    | inl passes ↦ clash (keep entry) (all.0 passes) dropped
    | inr fails ↦ rw fails (kept_passed keep p q entries same all.1)
  ])
]

-- what is so of all is so of the kept ones, and what is so of these is so of each that passes
pub all_of_kept : (P : LogEntry → Type 0) (p : LogEntry → Bool) (entries : List LogEntry) → AllByRecursion P entries → AllByRecursion P (filter p entries)
all_of_kept P p [] all = tt
all_of_kept P p (entry ∷ entries) all = elim (cases_Bool (p entry)) [
  | inl passes ↦ rw passes (all.0, all_of_kept P p entries all.1)
  | inr fails ↦ rw fails (all_of_kept P p entries all.1)
]

pub of_kept : (P : LogEntry → Type 0) (p : LogEntry → Bool) (entries : List LogEntry) → AllByRecursion P (filter p entries)
    → AllByRecursion (λ (entry : LogEntry). p entry ≡ true → P entry) entries
of_kept P p [] all = tt
of_kept P p (entry ∷ entries) all = elim (cases_Bool (p entry)) [
  | inl passes ↦
      let them = rw passes at all in
      (λ again. them.0, of_kept P p entries them.1)
  | inr fails ↦ (λ passes. clash (p entry) passes fails, of_kept P p entries (rw fails at all))
]

-- the same of numbers of the kept ones
pub numbers_of_kept : (P : ℕ → Type 0) (number : LogEntry → ℕ) (p : LogEntry → Bool) (entries : List LogEntry)
    → AllByRecursion (λ (entry : LogEntry). p entry ≡ true → P (number entry)) entries → AllByRecursion P (map number (filter p entries))
numbers_of_kept P number p [] all = tt
numbers_of_kept P number p (entry ∷ entries) all = elim (cases_Bool (p entry)) [
  | inl passes ↦ rw passes (all.0 passes, numbers_of_kept P number p entries all.1)
  | inr fails ↦ rw fails (numbers_of_kept P number p entries all.1)
]

pub of_numbers : (P : ℕ → Type 0) (number : LogEntry → ℕ) (p : LogEntry → Bool) (entries : List LogEntry)
    → AllByRecursion P (map number (filter p entries)) → AllByRecursion (λ (entry : LogEntry). p entry ≡ true → P (number entry)) entries
of_numbers P number p [] all = tt
of_numbers P number p (entry ∷ entries) all = elim (cases_Bool (p entry)) [
  | inl passes ↦
      let them = rw passes at all in
      (λ again. them.0, of_numbers P number p entries them.1)
  | inr fails ↦ (λ passes. clash (p entry) passes fails, of_numbers P number p entries (rw fails at all))
]
