-- Words after `share` in which clap finds a fault by the line of a door ask for nothing, and others for what it finds in them.
use Rattle.std.proofs.Common.{◌≡◌, ◌∙◌, sym, ap, refl, true, false, List, [], None}
use Rattle.clap.specs.Walk.{Row, Text, is_empty}
use Rattle.clap.specs.Simple as simple
use Rattle.clap.specs.Words.{App, fault_of, is_simple_and_free, matches_of}
use Rattle.clfs_command.specs.Door.{door_by, door_in, door_line}

-- no rule of the command line hangs on another
pub is_simple : (line : App) → line ≡ door_line → is_simple_and_free line ≡ true
is_simple line same = ap is_simple_and_free same ∙ refl

-- the command line is one whose matches are told
pub is_plain : (line : App) → line ≡ door_line → simple.is_simple line ≡ true
is_plain line same = ap simple.is_simple same ∙ refl

pub none_asked : (words : List Text) (line : App) → line ≡ door_line → is_empty (fault_of line words) ≡ false → door_by words ≡ None
none_asked words line same some = let found : is_empty (fault_of door_line words) ≡ false = ap (λ (l : App). is_empty (fault_of l words)) (sym same) ∙ some in rw found refl

-- where clap finds no fault what is asked for is in its rows
pub is_asked : (words : List Text) (line : App) → line ≡ door_line → fault_of line words ≡ [] → (rows : List Row) → rows ≡ matches_of line words
    → door_by words ≡ door_in rows
is_asked words line same none rows at =
    let right : is_empty (fault_of door_line words) ≡ true = ap (λ (l : App). is_empty (fault_of l words)) (sym same) ∙ ap is_empty none in
    let there : matches_of door_line words ≡ rows = ap (λ (l : App). matches_of l words) (sym same) ∙ sym at in
    rw right (ap door_in there)
