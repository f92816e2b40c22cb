-- Records of some blocks with those of others after them.
use Rattle.clfs_recover.proofs.Words.{◌≡◌, List, [], ◌++◌, Result, Ok, Err, refl, sym, ap, append_assoc, LogEntry, ◌>>=◌, LoadRefusal}

abbrev pub Records : Type 0
Records = Result (List LogEntry) LoadRefusal

-- records with others after them, or the first refusal
abbrev pub joined : Records → Records → Records
joined r s = r >>= λ (entries : List LogEntry). (s >>= λ (others : List LogEntry). Ok (entries ++ others))

pub joined_nil : (r : Records) → joined (Ok []) r ≡ r
joined_nil (Ok entries) = refl
joined_nil (Err refusal) = refl

pub joined_assoc : (r s t : Records) → joined r (joined s t) ≡ joined (joined r s) t
joined_assoc (Err refusal) s t = refl
joined_assoc (Ok a) (Err refusal) t = refl
joined_assoc (Ok a) (Ok b) (Err refusal) = refl
joined_assoc (Ok a) (Ok b) (Ok c) = ap (λ (l : List LogEntry). Ok l) (sym (append_assoc a b c))

-- what two readings gave together
pub record AreBoth (r s : Records) (entries : List LogEntry) : Type 0 where
  pub own : List LogEntry
  pub others : List LogEntry
  pub first : r ≡ Ok own
  pub second : s ≡ Ok others
  pub is : entries ≡ own ++ others

-- where records were joined, both readings gave some
pub both_there : (r s : Records) (entries : List LogEntry) → joined r s ≡ Ok entries → AreBoth r s entries
both_there (Err refusal) s entries e = absurd (cc e)
both_there (Ok own) (Err refusal) entries e = absurd (cc e)
both_there (Ok own) (Ok others) entries e = record { own = own; others = others; first = refl; second = refl; is = sym (cc e) }
