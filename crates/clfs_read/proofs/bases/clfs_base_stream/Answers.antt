use Rattle.std.proofs.Common.{◌≡◌, ℕ, List, Option, Some, None, if◌then◌else◌, sym, ap, ◌∙◌}
use Rattle.std.specs.Prelude.{nat_lt}
use Rattle.std.specs.Option.{option_map}
use Rattle.clfs_base.specs.declared.image.Row.{Row}
use Rattle.clfs_base.specs.declared.entries.RowPlace.{RowPlace}
use Rattle.clfs_base.specs.Checks.{row_of, image_at}
use Rattle.clfs_base.specs.Layout.{layout_in, numbers_of}
use Rattle.clfs_base.specs.Slots.{slot_of}
use Rattle.clfs_base.specs.Told.{row_told}
use Rattle.clfs_read.proofs.bases.clfs_base_stream.Goals as goal

-- the row that a place tells of bytes
abbrev told : List ℕ → RowPlace → Option Row
told bytes place = Some (row_told bytes place)

-- the row of a stream in a slot
abbrev row_at : ℕ → List ℕ → Option Row
row_at i bytes = if nat_lt i (numbers_of bytes).streams then Some (row_of (layout_in bytes) bytes i) else None

module _ (bytes slot : List ℕ) (is : slot ≡ bytes) (row : RowPlace) (number : ℕ) (same : number ≡ row.base) (found : Option RowPlace)
    (some : found ≡ Some row) where
  -- the place that is handed out tells of the slot what the place that was found does
  same_row : told bytes (record { name_at = row.name_at; name_len = row.name_len; base = number }) ≡ option_map (row_told slot) found
  same_row =
      ap (λ (l : List ℕ). told l (record { name_at = row.name_at; name_len = row.name_len; base = number })) (sym is)
      ∙ ap (λ (base : ℕ). told slot (record { name_at = row.name_at; name_len = row.name_len; base = base })) same
      ∙ ap (λ (o : Option RowPlace). option_map (row_told slot) o) (sym some)

pub returns-in-Some-clause-exact : goal.returns-in-Some-clause-exact
returns-in-Some-clause-exact c =
    same_row (slot_of c.args.file.now c.args.slot) c.slot_of.result.now c.slot_of.ensures c.in-Some.row c.number.result c.number.ensures c.row_at.result c.in-Some.is
    ∙ c.row_at.ensures.exact ∙ ap (λ (l : List ℕ). row_at c.args.i l) c.slot_of.ensures

pub returns-in-None-clause-exact : goal.returns-in-None-clause-exact
returns-in-None-clause-exact c =
    ap (λ (o : Option RowPlace). option_map (row_told c.slot_of.result.now) o) (sym c.in-None.is)
    ∙ c.row_at.ensures.exact ∙ ap (λ (l : List ℕ). row_at c.args.i l) c.slot_of.ensures

pub returns-in-Some-clause-found : goal.returns-in-Some-clause-found
returns-in-Some-clause-found c image is =
    same_row (slot_of c.args.file.now c.args.slot) c.slot_of.result.now c.slot_of.ensures c.in-Some.row c.number.result c.number.ensures c.row_at.result c.in-Some.is
    ∙ c.row_at.ensures.found image (ap (λ (l : List ℕ). image_at l) c.slot_of.ensures ∙ is)

pub returns-in-None-clause-found : goal.returns-in-None-clause-found
returns-in-None-clause-found c image is =
    ap (λ (o : Option RowPlace). option_map (row_told c.slot_of.result.now) o) (sym c.in-None.is)
    ∙ c.row_at.ensures.found image (ap (λ (l : List ℕ). image_at l) c.slot_of.ensures ∙ is)
