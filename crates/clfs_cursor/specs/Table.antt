-- The table that the parts stand for.
use Rattle.std.specs.Prelude.{map}
use Rattle.clfs_cursor.specs.Rows.{Table}
use Rattle.clfs_cursor.specs.Kept.{area_by, AreOwned}
use Rattle.clfs_cursor.specs.declared.cursors.Cursors.TheInside.{Inside}

-- the areas with their cursors, and the slab's memory
abbrev pub table_of : Inside → Table
table_of inside = record { areas = map (area_by inside.slots) inside.rows.items; capacity = inside.slots.capacity }

-- what is true of the parts
abbrev pub IsOwned : Inside → Type 0
IsOwned inside = AreOwned inside.slots inside.rows.items
