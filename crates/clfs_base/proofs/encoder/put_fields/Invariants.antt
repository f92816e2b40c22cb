use Rattle.clfs_base.proofs.Words.{◌≡◌, take, flat_map, fields, filled, field_bytes}
use Rattle.clfs_base.proofs.encoder.put_fields.Given as goal

-- the fields so far, and zeros after them
abbrev pub invariant-loop-field : goal.invariant-loop-field
invariant-loop-field l = l.out ≡ filled 63 (flat_map field_bytes (take l.field-index (fields l.fn.layout l.fn.n)))
