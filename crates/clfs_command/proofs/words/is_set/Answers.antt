use Rattle.std.proofs.Common.{◌≡◌, ◌∙◌, ap, false, codes}
use Rattle.std.specs.Prelude.{Some, None}
use Rattle.std.specs.Option.{option_map_or}
use Rattle.std.specs.Str.{bytes_eq}
use Rattle.clap.specs.Walk.{first_of, rows_of}
use Rattle.clap.specs.Matches.{found_of}
use Rattle.clap.proofs.WalkLemmas.{first_value-rows}
use Rattle.clfs_command.proofs.words.is_set.Goals as goal

-- the option has this text
pub returns-in-Some : goal.returns-in-Some
returns-in-Some c =
    let some : Some c.in-Some.text.now ≡ first_of c.args.name.now (rows_of (found_of c.args.options.now)) =
    c.in-Some.ensures ∙ first_value-rows (found_of c.args.options.now) c.args.name.now in
    c.eq.ensures ∙ ap (λ found. option_map_or (λ text. bytes_eq text (codes "true")) found false) some

-- it isn't there
pub returns-in-None : goal.returns-in-None
returns-in-None c =
    let none : None ≡ first_of c.args.name.now (rows_of (found_of c.args.options.now)) =
    c.in-None.ensures ∙ first_value-rows (found_of c.args.options.now) c.args.name.now in
    ap (λ found. option_map_or (λ text. bytes_eq text (codes "true")) found false) none
