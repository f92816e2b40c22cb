-- A text, and after it the last line.
use Rattle.clfs_dump.proofs.Words.{◌≡◌, ℕ, List, ◌++◌, Option, Result, Ok, Err, sym, ap, ◌∙◌, subst, append-nil, Appends, LoadRefusal, last_line, Prints}
use Rattle.clfs_dump.proofs.Words.{DumpRefusal, NoBase, DiskFault, NoMemory, SinkFault}
use Rattle.clfs_dump.specs.declared.refusal.DumpRefusal.TheVariants.{Damaged}
use Rattle.clfs_dump.proofs.Written.{appends_more, front_behind, front_longer}

-- refusals of which no line is told here
abbrev pub IsLineless : DumpRefusal → Type 0
IsLineless NoBase = Unit {0}
IsLineless (Damaged container offset at) = ⊥
IsLineless DiskFault = Unit {0}
IsLineless NoMemory = Unit {0}
IsLineless SinkFault = Unit {0}

module _ (a b : Option (List ℕ)) (text : List ℕ) (found : Result ℕ LoadRefusal) where
  -- it was written
  pub line_behind : (c : Option (List ℕ)) (line : List ℕ) → Appends a b text → last_line found ≡ line → Prints {T = Unit {0}} b c line (Ok tt) (Ok tt)
      → Appends a c (text ++ last_line found)
  line_behind c line all is printed =
      appends_more a b c text line (text ++ last_line found) (ap (λ (l : List ℕ). text ++ l) is) all printed.0

  -- it wasn't
  pub line_short : (c : Option (List ℕ)) (line : List ℕ) (e : DumpRefusal) → Appends a b text → last_line found ≡ line
      → Prints {T = Unit {0}} b c line (Ok tt) (Err e) → Prints {T = ℕ} a c (text ++ last_line found) found (Err e)
  line_short c line NoBase all is printed = absurd (cc printed.1)
  line_short c line (Damaged container offset at) all is printed = absurd (cc printed.1)
  line_short c line DiskFault all is printed =
      front_behind a b c text (last_line found) all (subst (λ (l : List ℕ). Prints {T = Unit {0}} b c l (Ok tt) (Err DiskFault)) (sym is) printed)
  line_short c line NoMemory all is printed =
      front_behind a b c text (last_line found) all (subst (λ (l : List ℕ). Prints {T = Unit {0}} b c l (Ok tt) (Err NoMemory)) (sym is) printed)
  line_short c line SinkFault all is printed =
      front_behind a b c text (last_line found) all (subst (λ (l : List ℕ). Prints {T = Unit {0}} b c l (Ok tt) (Err SinkFault)) (sym is) printed)

  -- there is none
  pub no_line : (e : DumpRefusal) → IsLineless e → Prints {T = ℕ} a b text found (Err e) → Prints {T = ℕ} a b (text ++ last_line found) found (Err e)
  no_line NoBase none printed = (
    subst (λ (l : List ℕ). Appends a b l) (sym (append-nil text)
        ∙ ap (λ (l : List ℕ). text ++ l) (sym (ap (λ (f : Result ℕ LoadRefusal). last_line f) printed.1))) printed.0,
    printed.1,
  )
  no_line (Damaged container offset at) none printed = absurd none
  no_line DiskFault none printed = front_longer a b text (last_line found) printed
  no_line NoMemory none printed = front_longer a b text (last_line found) printed
  no_line SinkFault none printed = front_longer a b text (last_line found) printed
