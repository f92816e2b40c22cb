-- Parts of a log that are printed, one after the other.
use Rattle.clfs_dump.proofs.Words.{◌≡◌, ℕ, List, [], ◌++◌, Option, Result, Ok, Err, refl, ap, subst, Appends, LogEntry, LoadRefusal, Told, followed_by}
use Rattle.clfs_dump.proofs.Words.{then_told, AppendsFront, Prints, as_dump, DumpRefusal, NoBase, DiskFault, NoMemory, SinkFault}
use Rattle.clfs_recover.specs.declared.refusal.LoadRefusal.TheVariants as logs
use Rattle.clfs_dump.specs.declared.refusal.DumpRefusal.TheVariants.{Damaged}
use Rattle.clfs_dump.proofs.Written.{appends_more, appends_none, front_of_all, front_behind, front_longer}

-- what was found, with all of its text
pub prints_refusal : {T : Type 0} (a b : Option (List ℕ)) (text : List ℕ) (found : Result T LoadRefusal) (refusal : LoadRefusal) → Appends a b text
    → found ≡ Err refusal → Prints a b text found (Err (as_dump refusal))
prints_refusal a b text found logs.NoBase all is = (all, is)
prints_refusal a b text found (logs.Damaged container offset at) all is = (all, is)
prints_refusal a b text found logs.DiskFault all is = front_of_all a b text all
prints_refusal a b text found logs.NoMemory all is = front_of_all a b text all

-- a part after lines that were written
pub prints_behind : {T : Type 0} (a b c : Option (List ℕ)) (lines text : List ℕ) (found : Result T LoadRefusal) (r : Result T DumpRefusal)
    → Appends a b lines → Prints b c text found r → Prints a c (lines ++ text) found r
prints_behind a b c lines text found (Ok value) first printed = (appends_more a b c lines text (lines ++ text) refl first printed.0, printed.1)
prints_behind a b c lines text found (Err NoBase) first printed = (appends_more a b c lines text (lines ++ text) refl first printed.0, printed.1)
prints_behind a b c lines text found (Err (Damaged container offset at)) first printed =
    (appends_more a b c lines text (lines ++ text) refl first printed.0, printed.1)
prints_behind a b c lines text found (Err DiskFault) first printed = front_behind a b c lines text first printed
prints_behind a b c lines text found (Err NoMemory) first printed = front_behind a b c lines text first printed
prints_behind a b c lines text found (Err SinkFault) first printed = front_behind a b c lines text first printed

-- lines that weren't written whole
pub prints_no_more : {S T : Type 0} (a b : Option (List ℕ)) (lines text : List ℕ) (value : S) (found : Result T LoadRefusal) (e : DumpRefusal)
    → Prints {T = S} a b lines (Ok value) (Err e) → Prints {T = T} a b (lines ++ text) found (Err e)
prints_no_more a b lines text value found NoBase printed = absurd (cc printed.1)
prints_no_more a b lines text value found (Damaged container offset at) printed = absurd (cc printed.1)
prints_no_more a b lines text value found DiskFault printed = front_longer a b lines text printed
prints_no_more a b lines text value found NoMemory printed = front_longer a b lines text printed
prints_no_more a b lines text value found SinkFault printed = front_longer a b lines text printed

module _ {S T : Type 0} (a b : Option (List ℕ)) (text : List ℕ) (records : List LogEntry) (next : S → Told T) where
  refused_with : (found : Result S LoadRefusal) (refusal : LoadRefusal) → Appends a b text → found ≡ Err refusal
      → Appends a b (followed_by text records found next).text × ((followed_by text records found next).found ≡ Err refusal)
  refused_with (Ok value) refusal all is = absurd (cc is)
  refused_with (Err other) refusal all is = (let same : other ≡ refusal = cc is in (all, ap (λ (r : LoadRefusal). Err r) same))

  front_with : (found : Result S LoadRefusal) → AppendsFront a b text → AppendsFront a b (followed_by text records found next).text
  front_with (Ok value) front = front_longer a b text (next value).text front
  front_with (Err refusal) front = front

  first_by : (found : Result S LoadRefusal) (e : DumpRefusal) → Prints {T = S} a b text found (Err e)
      → Prints {T = T} a b (followed_by text records found next).text (followed_by text records found next).found (Err e)
  first_by found NoBase printed = refused_with found logs.NoBase printed.0 printed.1
  first_by found (Damaged container offset at) printed = refused_with found (logs.Damaged container offset at) printed.0 printed.1
  first_by found DiskFault printed = front_with found printed
  first_by found NoMemory printed = front_with found printed
  first_by found SinkFault printed = front_with found printed

  next_by : (found : Result S LoadRefusal) (value : S) (c : Option (List ℕ)) (r : Result T DumpRefusal) → Appends a b text → found ≡ Ok value
      → Prints b c (next value).text (next value).found r
      → Prints a c (followed_by text records found next).text (followed_by text records found next).found r
  next_by (Err refusal) value c r all is printed = absurd (cc is)
  next_by (Ok other) value c r all is printed =
      let same : value ≡ other = cc is in
      prints_behind a b c text (next other).text (next other).found r all
      (subst (λ (v : S). Prints b c (next v).text (next v).found r) same printed)

module _ {S T : Type 0} (a b : Option (List ℕ)) (told : Told S) (next : S → Told T) where
  -- a part that ends it all
  pub prints_first : (e : DumpRefusal) → Prints {T = S} a b told.text told.found (Err e)
      → Prints {T = T} a b (then_told told next).text (then_told told next).found (Err e)
  prints_first e printed = first_by a b told.text told.records next told.found e printed

  -- a part, and what comes after it
  pub prints_next : (value : S) (c : Option (List ℕ)) (r : Result T DumpRefusal) → Prints a b told.text told.found (Ok value)
      → Prints b c (next value).text (next value).found r → Prints a c (then_told told next).text (then_told told next).found r
  prints_next value c r first printed = next_by a b told.text told.records next told.found value c r first.0 first.1 printed

-- nothing to tell
pub prints_only : {T : Type 0} (a : Option (List ℕ)) (value : T) → Prints {T = T} a a [] (Ok value) (Ok value)
prints_only a value = (appends_none a, refl)
