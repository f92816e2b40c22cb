-- The records of a block by their positions in it.
use Rattle.clfs_buffers.proofs.Words.{◌≡◌, ℕ, zero, suc, ◌+◌, ◌≤◌, List, [], ◌∷◌, ◌++◌, length, get_or, drop, Some, None, Result, Ok, Err, refl, sym, ◌∙◌, ap}
use Rattle.clfs_buffers.proofs.Words.{subst, arith, slice_get, size, record_at, entry_of, header_of, LogEntry, records_at, IsStart, AreStarts, HaveLsns}
use Rattle.clfs_buffers.proofs.Words.{wrong_in}
use Rattle.std.proofs.Common.{◌<◌}
use Rattle.std.proofs.lemmas.Bool.{ltb-false}
use Rattle.std.proofs.lemmas.Option.{slice_get_past}
use Rattle.clfs_lsn.specs.Format.{record_header}
use Rattle.clfs_lsn.specs.Checks.{guard_ok, unless_ok}
use Rattle.clfs_lsn.specs.declared.entry.Head.{Head}
use Rattle.clfs_record.specs.Decoding.{head_read}
use Rattle.clfs_record.specs.declared.refusal.HeadRefusal.{HeadRefusal}
use Rattle.clfs_record.specs.declared.refusal.HeadRefusal.TheVariants.{BadByte}

module _ (payload : List ℕ) where
  -- one record more stands after the others
  pub records_at-append : (lsn : ℕ) (starts : List ℕ) (at : ℕ)
      → records_at payload lsn (starts ++ at ∷ []) ≡ records_at payload lsn starts ++ entry_of (lsn + length starts) (drop at payload) ∷ []
  records_at-append lsn [] at =
      let e : lsn ≡ lsn + 0 = omega arith in ap (λ (n : ℕ). entry_of n (drop at payload) ∷ []) e
  records_at-append lsn (start ∷ starts) at =
      let e : lsn + 1 + length starts ≡ lsn + suc (length starts) = omega arith in
      let front : List LogEntry = records_at payload (lsn + 1) starts in
      ap (λ (l : List LogEntry). entry_of lsn (drop start payload) ∷ l) (records_at-append (lsn + 1) starts at
      ∙ ap (λ (n : ℕ). front ++ entry_of n (drop at payload) ∷ []) e)

  -- and it begins there
  pub AreStarts-append : (streams lsn : ℕ) (starts : List ℕ) (at : ℕ) → AreStarts streams payload lsn starts
      → IsStart streams payload (lsn + length starts) at → AreStarts streams payload lsn (starts ++ at ∷ [])
  AreStarts-append streams lsn [] at are is =
      let e : lsn + 0 ≡ lsn = omega arith in (subst (λ (n : ℕ). IsStart streams payload n at) e is, tt)
  AreStarts-append streams lsn (start ∷ starts) at are is =
      let e : lsn + suc (length starts) ≡ lsn + 1 + length starts = omega arith in
      (are.0, AreStarts-append streams (lsn + 1) starts at are.1 (subst (λ (n : ℕ). IsStart streams payload n at) e is))

  -- there are as many records as places at which they begin
  pub length-records_at : (lsn : ℕ) (starts : List ℕ) → length (records_at payload lsn starts) ≡ length starts
  length-records_at lsn [] = refl
  length-records_at lsn (start ∷ starts) = ap suc (length-records_at (lsn + 1) starts)

  -- the record at a position begins at the place of that position
  pub record_there : (streams lsn : ℕ) (starts : List ℕ) (i d : ℕ) → AreStarts streams payload lsn starts → i < length starts
      → IsStart streams payload (lsn + i) (get_or starts i d)
      × (slice_get (records_at payload lsn starts) i ≡ Some (entry_of (lsn + i) (drop (get_or starts i d) payload)))
  record_there streams lsn [] i d are lt = absurd (omega (arith, lt))
  record_there streams lsn (start ∷ starts) zero d are lt =
      let e : lsn ≡ lsn + 0 = omega arith in
      (subst (λ (n : ℕ). IsStart streams payload n start) e are.0, ap (λ (n : ℕ). Some (entry_of n (drop start payload))) e)
  record_there streams lsn (start ∷ starts) (suc i) d are lt =
      let e : lsn + 1 + i ≡ lsn + suc i = omega arith in
      let other = record_there streams (lsn + 1) starts i d are.1 (omega (arith, lt)) in
      subst (λ (n : ℕ). IsStart streams payload n (get_or starts i d)
      × (slice_get (records_at payload (lsn + 1) starts) i ≡ Some (entry_of n (drop (get_or starts i d) payload)))) e other

  -- past them there is none
  pub none_there : (lsn : ℕ) (starts : List ℕ) (i : ℕ) → length starts ≤ i → slice_get (records_at payload lsn starts) i ≡ None
  none_there lsn starts i le = slice_get_past (records_at payload lsn starts) i (omega (arith, le, length-records_at lsn starts))

  -- each has its own LSN
  pub have_lsns : (lsn : ℕ) (starts : List ℕ) → HaveLsns lsn (records_at payload lsn starts)
  have_lsns lsn [] i entry is = absurd (cc is)
  have_lsns lsn (start ∷ starts) zero entry is =
      let same : entry_of lsn (drop start payload) ≡ entry = cc is in
      let e = ap (λ (x : LogEntry). x.lsn) same in
      omega (arith, e)
  have_lsns lsn (start ∷ starts) (suc i) entry is =
      let e = have_lsns (lsn + 1) starts i entry is in omega (arith, e)

abbrev answer : LogEntry × ℕ → Result (LogEntry × ℕ) ℕ
answer x = Ok x

abbrev refusal : HeadRefusal → Result (Head × ℕ) HeadRefusal
refusal r = Err r

abbrev wrong : ℕ → Result (LogEntry × ℕ) ℕ
wrong at = Err at

-- equal answers have equal records
one_record : (x y : LogEntry × ℕ) → answer x ≡ answer y → x.0 ≡ y.0
one_record x y e = let same : x ≡ y = cc e in ap (λ (z : LogEntry × ℕ). z.0) same

-- what is read of bytes lies in them whole
pub read_whole : (lsn streams : ℕ) (bytes : List ℕ) (x : LogEntry × ℕ) → record_at lsn streams bytes ≡ Ok x → size (header_of bytes).len ≤ length bytes
unfolding record_at
read_whole lsn streams bytes x is =
    let a = guard_ok _ _ _ _ is in
    let b = guard_ok _ _ _ _ a.1 in
    ltb-false _ _ b.0

-- what is read of bytes is the record that they stand for, whose header is there
pub read_entry : (lsn streams : ℕ) (bytes : List ℕ) (x : LogEntry × ℕ) → record_at lsn streams bytes ≡ Ok x
    → (entry_of lsn bytes ≡ x.0) × (record_header ≤ length bytes)
unfolding record_at
read_entry lsn streams bytes x is =
    let a = guard_ok _ _ _ _ is in
    let b = guard_ok _ _ _ _ a.1 in
    let c = unless_ok (λ at. at) _ _ _ b.1 in
    let d = unless_ok (λ at. at) _ _ _ c.1 in
    (one_record _ x d.1, ltb-false _ _ a.0)

-- a head that is refused is a record that is refused at the same byte
pub refused_head : (r : HeadRefusal) (read : Result (LogEntry × ℕ) ℕ) → refusal r ≡ head_read read → read ≡ Err (wrong_in r)
refused_head (BadByte at) (Ok (entry, size)) e = absurd (cc e)
refused_head (BadByte at) (Err k) e = let same : at ≡ k = cc e in ap wrong (sym same)
