-- Being the same is an equivalence, and the flushed parts of states that are the same are the same.
use Rattle.clfs_laws.proofs.Words.{◌≡◌, ℕ, refl, sym, ap, ◌∙◌, Bool, arith, filter, nat_lt, LogEntry, State, hold, flushed, cut, IsSame, IsValid}
use Rattle.clfs_laws.proofs.HoldRises.{hold_cut}
use Rattle.clfs_laws.proofs.SameRecords.{with_records, is_from, from_same, same_from, filter_swap}

pub same_itself : (s : State) → IsSame s s
same_itself s = record { hold = refl; records = refl; others = refl }

pub same_turned : (s t : State) → IsSame s t → IsSame t s
same_turned s t same = record {
  hold = sym same.hold;
  records = sym same.records;
  others = sym (ap (with_records s.records) same.others);
}

pub same_through : (s t u : State) → IsSame s t → IsSame t u → IsSame s u
same_through s t u first second = record {
  hold = first.hold ∙ second.hold;
  records = first.records ∙ second.records;
  others = second.others ∙ ap (with_records u.records) first.others;
}

-- the flushed parts hold no lower container, and have the flushed ones of the same records
pub same_cut : (s u : State) → IsValid s → IsValid u → IsSame s u → IsSame (cut s) (cut u)
same_cut s u valid valid_u same =
    let is = from_same s u same in
    let at = hold s in
    let f : ℕ = flushed s in
    let kept : LogEntry → Bool = λ entry. nat_lt entry.lsn f in
    let same_flushed : flushed u ≡ f = ap flushed is.others in
    let up = hold_cut s valid in
    let up_other = hold_cut u valid_u in
    let records : (cut u).records ≡ filter kept u.records = ap (λ (n : ℕ). filter (λ (entry : LogEntry). nat_lt entry.lsn n) u.records) same_flushed in
    same_from at (cut s) (cut u) (record {
      others = ap (λ (x : State). with_records (cut u).records (cut x)) is.others;
      records = filter_swap (is_from at) kept s.records ∙ ap (filter kept) is.records ∙ sym (filter_swap (is_from at) kept u.records)
          ∙ ap (filter (is_from at)) (sym records);
      up = omega (arith, up);
      up_other = omega (arith, same.hold, up_other);
    })
