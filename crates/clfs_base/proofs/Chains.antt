-- The first wrong byte of a slot, part by part.
use Rattle.clfs_base.proofs.Words.{◌≡◌, ℕ, List, Option, sym, ap, zip, option_or, Layout, Numbers, slot_bytes, file_place, row_place, numbers_of, fields}
use Rattle.clfs_base.proofs.Words.{other_byte, wrong_field, wrong_file, wrong_row, behind_fields, slot_fault, asked, wrong_within, fault_within, Demands}
use Rattle.clfs_base.specs.Layout.{fields_end, files_at, rows_at}

-- the same with the numbers that were read
abbrev pub chain : Layout → List ℕ → Numbers → Option ℕ
chain layout bytes n =
    option_or (wrong_field bytes (fields layout n))
    (option_or (other_byte bytes fields_end files_at)
    (option_or (wrong_file bytes n.files_made n.listed)
    (option_or (other_byte bytes (file_place n.listed) rows_at)
    (option_or (wrong_row layout bytes n.streams)
    (other_byte bytes (row_place layout n.streams) slot_bytes)))))

pub chained : (layout : Layout) (bytes : List ℕ) (n : Numbers) → n ≡ numbers_of bytes → slot_fault layout bytes ≡ chain layout bytes n
unfolding slot_fault
chained layout bytes n is = ap (chain layout bytes) (sym is)

-- the same where narrower ranges of some fields are asked
pub chained_within : (demands : Demands) (layout : Layout) (bytes : List ℕ) (n : Numbers) → n ≡ numbers_of bytes
    → fault_within demands layout bytes ≡ option_or (wrong_within bytes (zip (fields layout n) (asked demands))) (behind_fields layout bytes n)
unfolding fault_within
chained_within demands layout bytes n is =
    ap (λ (k : Numbers). option_or (wrong_within bytes (zip (fields layout k) (asked demands))) (behind_fields layout bytes k)) (sym is)
