-- Answers that come of earlier ones.
use Rattle.clfs_recover.proofs.Words.{◌≡◌, List, Result, Ok, Err, refl, sym, ◌∙◌, LogEntry, ◌>>=◌, told_as, LoadRefusal}

-- what is read of a container, and an answer that these records are read
abbrev pub Records : Type 0
Records = Result (List LogEntry) LoadRefusal

abbrev pub read : List LogEntry → Records
read entries = Ok entries

-- where a later answer is a value, the earlier one was
pub record IsBound {A B E : Type 0} (r : Result A E) (next : A → Result B E) (value : B) : Type 0 where
  pub first : A
  pub is : r ≡ Ok first
  pub then : next first ≡ Ok value

pub bound : {A B E : Type 0} (r : Result A E) (next : A → Result B E) (value : B) → (r >>= next) ≡ Ok value → IsBound r next value
bound (Ok a) next value e = record { first = a; is = refl; then = e }
bound (Err x) next value e = absurd (cc e)

-- an answer has one value
pub one_value : {A E : Type 0} (r : Result A E) (a b : A) → r ≡ Ok a → r ≡ Ok b → a ≡ b
one_value (Ok x) a b p q = (let first : x ≡ a = cc in let other : x ≡ b = cc in sym first ∙ other)
one_value (Err e) a b p q = absurd (cc p)

-- an answer that is a value needs no other words
pub told_value : {A E F : Type 0} (told : E → F) (r : Result A E) (value : A) → told_as told r ≡ Ok value → r ≡ Ok value
told_value told (Ok a) value e = cc e
told_value told (Err x) value e = absurd (cc e)
