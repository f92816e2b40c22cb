-- The records at the front of a block make a block.
use Rattle.clfs_recover.proofs.Words.{◌≡◌, ℕ, zero, suc, ◌+◌, ◌≤◌, List, [], ◌∷◌, ◌++◌, length, take, drop, sym, ◌∙◌, ap, subst, arith, length-append}
use Rattle.clfs_recover.proofs.Words.{take-append-drop, flat_map, length-take-le, record_bytes, LogEntry, Shape, FitFrom, HasRecords}
use Rattle.std.proofs.lemmas.List.Concat.{flat_map-append}
use Rattle.clfs_lsn.specs.Format.{open_gate}
use Rattle.clfs_block.specs.Frame.{SpellsBlock}

front_fits : (streams lsn n : ℕ) (entries : List LogEntry) → FitFrom lsn streams entries → FitFrom lsn streams (take n entries)
front_fits streams lsn zero entries fit = tt
front_fits streams lsn (suc n) [] fit = tt
front_fits streams lsn (suc n) (entry ∷ entries) fit = (fit.0, front_fits streams (lsn + 1) n entries fit.1)

front_bytes : (n : ℕ) (entries : List LogEntry) → length (flat_map record_bytes (take n entries)) ≤ length (flat_map record_bytes entries)
front_bytes n entries =
    let all : flat_map record_bytes entries ≡ flat_map record_bytes (take n entries) ++ flat_map record_bytes (drop n entries) =
    ap (flat_map record_bytes) (sym (take-append-drop n entries)) ∙ flat_map-append record_bytes (take n entries) (drop n entries) in
    omega (arith, ap (λ (l : List ℕ). length l) all, length-append (flat_map record_bytes (take n entries)) (flat_map record_bytes (drop n entries)))

pub front_has : (shape : Shape) (streams start n : ℕ) (entries : List LogEntry) (block cut : List ℕ) → HasRecords shape streams start entries block
    → 1 ≤ n → n ≤ length entries → SpellsBlock start open_gate n (flat_map record_bytes (take n entries)) cut
    → HasRecords shape streams start (take n entries) cut
front_has shape streams start n entries block cut has some few spells =
    let size : length (take n entries) ≡ n = length-take-le n entries few in
    let less = front_bytes n entries in
    record {
      some = omega (arith, size, some);
      few = omega (arith, size, few, has.few);
      fit = front_fits streams start n entries has.fit;
      count = record {
        largest = omega (arith, less, has.count.largest);
        left = omega (arith, less, has.count.left);
        field = omega (arith, less, has.count.field);
      };
      spelled = subst (λ (k : ℕ). SpellsBlock start open_gate k (flat_map record_bytes (take n entries)) cut) (sym size) spells;
    }
