use Rattle.std.proofs.Common.{◌≡◌, ◌∙◌, ℕ, ap, sym, List}
use Rattle.std.specs.Prelude.{codes, Option, Some, None}
use Rattle.clap.specs.Matches.{found_of}
use Rattle.clap.specs.Walk.{first_of, rows_of, Row, Text}
use Rattle.clap.proofs.WalkLemmas.{first_value-rows}
use Rattle.clfs_command.specs.Command.{number_of}
use Rattle.clfs_command.specs.Door.{AskedDoor, count_of, door_with}
use Rattle.clfs_command.specs.Share.{buffers_of}
use Rattle.clfs_command.proofs.door.door_in.Goals as goal

-- there is no place
pub returns-in_default-get_str-clause-usage : goal.returns-in_default-get_str-clause-usage
returns-in_default-get_str-clause-usage c = λ e.
    let rows = rows_of (found_of c.args.matches.now) in
    let clients : Option ℕ = count_of (number_of (codes "clients") rows) in
    ap (λ (b : Option ℕ). door_with b (first_of (codes "door") rows) clients) (sym (c.in-Some.ensures.buffers ∙ ap buffers_of c.number_of.ensures))
    ∙ ap (λ (p : Option Text). door_with (Some c.in-Some.write_buffers) p clients)
    (sym (c.in_default-get_str.ensures ∙ first_value-rows (found_of c.args.matches.now) (codes "door")))

-- all is there
pub returns-clause-door : goal.returns-clause-door
returns-clause-door c =
    let rows = rows_of (found_of c.args.matches.now) in
    let clients : Option ℕ = count_of (number_of (codes "clients") rows) in
    let buffers = c.in-Some.write_buffers in
    ap (λ (b : Option ℕ). door_with b (first_of (codes "door") rows) clients) (sym (c.in-Some.ensures.buffers ∙ ap buffers_of c.number_of.ensures))
    ∙ ap (λ (p : Option Text). door_with (Some buffers) p clients)
    (sym (c.in-Some-get_str.ensures ∙ first_value-rows (found_of c.args.matches.now) (codes "door")))
    ∙ ap (λ (n : Option ℕ). door_with (Some buffers) (Some c.in-Some-get_str.place.now) n)
    (sym (c.in-Some-count_of.ensures.count ∙ ap count_of c.number_of-2.ensures))
    ∙ ap (λ (place : Text). door_with (Some buffers) (Some place) (Some c.in-Some-count_of.clients)) (sym c.in_ok-from_str.ensures.ok)
