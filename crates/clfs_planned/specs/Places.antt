-- Places in bytes that were overwritten or torn. They stand here since a trait's law can cite definitions alone.
use Rattle.std.proofs.Common.{◌≡◌, ℕ, ◌+◌, ◌-◌, ◌<◌, ◌≤◌, List, ◌++◌, length, get_or, take, drop, replicate, sym, ◌∙◌, ap, subst, arith}
use Rattle.std.proofs.Common.{length-append, length-drop}
use Rattle.std.proofs.lemmas.List.{length-replicate, length-take-le, get_or-take, get_or-drop, get_or_append_left, get_or-append_right}
use Rattle.clfs_disk.specs.Files.{Files, Torn, Grown, overwritten, lengthened, TornIn, GrownIn, WrittenIn, LengthenedIn}

module _ (old : List ℕ) (at : ℕ) (bytes : List ℕ) (fits : at + length bytes ≤ length old) where
  front_length : length (take at old) ≡ at
  front_length = length-take-le at old (omega (arith, fits))

  pub length-overwritten : length (overwritten old at bytes) ≡ length old
  length-overwritten = omega (
    arith,
    fits,
    length-append (take at old ++ bytes) (drop (at + length bytes) old),
    length-append
        (take at old) bytes,
    front_length,
    length-drop (at + length bytes) old,
  )

  pub overwritten_below : (i : ℕ) → i < at → get_or (overwritten old at bytes) i 0 ≡ get_or old i 0
  overwritten_below i lt =
      get_or_append_left (take at old ++ bytes) (drop (at + length bytes) old) 0 i (omega (arith, lt, length-append (take at old) bytes, front_length))
      ∙ get_or_append_left (take at old) bytes 0 i (omega (arith, lt, front_length))
      ∙ get_or-take at old i 0 lt

  pub overwritten_above : (i : ℕ) → at + length bytes ≤ i → get_or (overwritten old at bytes) i 0 ≡ get_or old i 0
  overwritten_above i le =
      let both : length (take at old ++ bytes) ≡ at + length bytes = omega (arith, length-append (take at old) bytes, front_length) in
      let past : at + length bytes + (i - (at + length bytes)) ≡ i = omega (arith, le) in
      get_or-append_right (take at old ++ bytes) (drop (at + length bytes) old) (at + length bytes) i 0 both le
      ∙ get_or-drop (at + length bytes) old (i - (at + length bytes)) 0
      ∙ ap (λ (k : ℕ). get_or old k 0) past

  -- what a write does is one of what a crash in it may leave
  pub torn_written : Torn at (length bytes) old (overwritten old at bytes)
  torn_written = record { same_length = length-overwritten; below = overwritten_below; above = overwritten_above }

pub torn_in_written : (file at : ℕ) (bytes : List ℕ) (old new : Files) → at + length bytes ≤ length (old file) → WrittenIn file at bytes old new
    → TornIn file at (length bytes) old new
torn_in_written file at bytes old new fits written = record {
  here = subst (Torn at (length bytes) (old file)) (sym written.here) (torn_written (old file) at bytes fits);
  elsewhere = written.elsewhere;
}

-- what a growth does is one of what a crash in it may leave
pub grown_lengthened : (old : List ℕ) (len : ℕ) → Grown len old (lengthened old len)
grown_lengthened old len =
    let size : length (lengthened old len) ≡ length old + (len - length old) =
    length-append old (replicate (len - length old) 0) ∙ ap (λ (k : ℕ). length old + k) (length-replicate (len - length old) 0) in
    record {
      no_shorter = omega (arith, size);
      no_longer = omega (arith, size);
      below = λ i lt. get_or_append_left old (replicate (len - length old) 0) 0 i lt;
    }

pub grown_in_lengthened : (file len : ℕ) (old new : Files) → LengthenedIn file len old new → GrownIn file len old new
grown_in_lengthened file len old new grown = record {
  here = subst (Grown len (old file)) (sym grown.here) (grown_lengthened (old file) len);
  elsewhere = grown.elsewhere;
}
