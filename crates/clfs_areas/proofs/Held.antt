-- What areas hold, by the ledger's rows.
use Rattle.clfs_areas.proofs.Words.{◌≡◌, ℕ, ◌+◌, refl, sym, ap, ◌∙◌, List, [], ◌∷◌, map, sum_by-cons, Area, total_held, all_held, reservation_of}

-- all areas together
pub total_seen : (areas : List Area) → total_held (map reservation_of areas) ≡ all_held areas
total_seen [] = refl
total_seen (area ∷ areas) = ap (λ (n : ℕ). area.held + n) (total_seen areas) ∙ sym (sum_by-cons (λ (a : Area). a.held) area areas)
