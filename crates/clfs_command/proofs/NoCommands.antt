-- Words in which clap finds a fault are no command, and others are what it finds in them.
use Rattle.std.proofs.Common.{◌≡◌, ◌∙◌, sym, ap, refl, true, false, List, ◌∷◌, [], length, Option, None, inl, inr, arith}
use Rattle.std.proofs.lemmas.Bool.{ne_eqb}
use Rattle.std.specs.Option.{option_and_then}
use Rattle.clap.specs.Values.{kind_of}
use Rattle.clap.specs.Walk.{Row, Text, is_empty}
use Rattle.clap.specs.Simple as simple
use Rattle.clap.specs.Words.{App, Kinds, HasKind, fault_of, is_simple_and_free}
use Rattle.clap.specs.declared.error.Error.{Error}
use Rattle.clap.specs.declared.error.kind.ErrorKind.TheVariants.{OutOfMemory}
use Rattle.clfs_command.specs.Command.{command_of, with_options}
use Rattle.clfs_command.specs.Line.{command_line}

-- an error that isn't out of memory is a fault
pub some_fault : (kinds : Kinds) (e : Error) → HasKind kinds e → (kind_of e ≡ OutOfMemory → ⊥) → is_empty kinds ≡ false
some_fault [] e (inl memory) other = absurd (other memory)
some_fault [] e (inr among) other = absurd among
some_fault (kind ∷ kinds) e has other = ne_eqb (length (kind ∷ kinds)) 0 (λ none. omega (arith, none))

-- no rule of the command line hangs on another
pub is_simple : (line : App) → line ≡ command_line → is_simple_and_free line ≡ true
is_simple line same = ap is_simple_and_free same ∙ refl

pub none_named : (words : List Text) (line : App) → line ≡ command_line → is_empty (fault_of line words) ≡ false → command_of words ≡ None
none_named words line same some = let found : is_empty (fault_of command_line words) ≡ false = ap (λ (l : App). is_empty (fault_of l words)) (sym same) ∙ some in rw found refl

-- the command line is one whose matches are told
pub is_plain : (line : App) → line ≡ command_line → simple.is_simple line ≡ true
is_plain line same = ap simple.is_simple same ∙ refl

-- where clap finds no fault the command is that of the subcommand that it finds
pub is_found : (words : List Text) (line : App) → line ≡ command_line → fault_of line words ≡ [] → (found : Option (Text × List Row)) → found ≡ simple.subcommand_of line words
    → command_of words ≡ option_and_then with_options found
is_found words line same none found at =
    let right : is_empty (fault_of command_line words) ≡ true = ap (λ (l : App). is_empty (fault_of l words)) (sym same) ∙ ap is_empty none in
    let there : simple.subcommand_of command_line words ≡ found = ap (λ (l : App). simple.subcommand_of l words) (sym same) ∙ sym at in
    rw right (ap (option_and_then with_options) there)
