-- Words after `share` in which clap finds a fault ask for nothing, and others for what it finds in them.
use Rattle.std.proofs.Common.{◌≡◌, ◌∙◌, ◌++◌, sym, ap, subst, refl, true, false, List, ◌∷◌, [], length, Option, None, arith}
use Rattle.std.specs.Prelude.{Some, ◌*◌, ◌≤◌, Bool, map, if◌then◌else◌, unwrap_or}
use Rattle.std.specs.Option.{option_map}
use Rattle.std.proofs.lemmas.List.{length-map}
use Rattle.clap.specs.Walk.{Row, Text, is_empty}
use Rattle.clap.specs.Simple as simple
use Rattle.clap.specs.Words.{App, fault_of, is_simple_and_free, matches_of}
use Rattle.clfs_lsn.specs.Limits.{most_clients}
use Rattle.clfs_command.specs.declared.share.PathPair.{PathPair}
use Rattle.clfs_command.specs.Share.{Paths, paths_of, pairs_of, share_by, share_in}
use Rattle.clfs_command.specs.Line.{share_line}

-- no rule of the command line hangs on another
pub is_simple : (line : App) → line ≡ share_line → is_simple_and_free line ≡ true
is_simple line same = ap is_simple_and_free same ∙ refl

-- the command line is one whose matches are told
pub is_plain : (line : App) → line ≡ share_line → simple.is_simple line ≡ true
is_plain line same = ap simple.is_simple same ∙ refl

pub none_asked : (words : List Text) (line : App) → line ≡ share_line → is_empty (fault_of line words) ≡ false → share_by words ≡ None
none_asked words line same some = let found : is_empty (fault_of share_line words) ≡ false = ap (λ (l : App). is_empty (fault_of l words)) (sym same) ∙ some in rw found refl

-- where clap finds no fault what is asked for is in its rows
pub is_asked : (words : List Text) (line : App) → line ≡ share_line → fault_of line words ≡ [] → (rows : List Row) → rows ≡ matches_of line words
    → share_by words ≡ share_in rows
is_asked words line same none rows at =
    let right : is_empty (fault_of share_line words) ≡ true = ap (λ (l : App). is_empty (fault_of l words)) (sym same) ∙ ap is_empty none in
    let there : matches_of share_line words ≡ rows = ap (λ (l : App). matches_of l words) (sym same) ∙ sym at in
    rw right (ap share_in there)

-- a pair of paths
abbrev pub pair : Text → Text → Paths
pair input output = record { input = input; output = output }

-- what is so of one is so of the other
by_some : {T : Type 0} (F : T → Type 0) (a b : T) → Some a ≡ Some b → F a → F b
by_some F a b same holds = subst F (ap (λ found. unwrap_or found a) same) holds

-- pairs are half as many as paths
half_more : (input output : Text) (paths : List Text) (pairs : List Paths) → ((found : List Paths) → pairs_of paths ≡ Some found → length paths ≡ 2 * length found)
    → option_map (λ more. pair input output ∷ more) (pairs_of paths) ≡ Some pairs → (found : Option (List Paths)) → pairs_of paths ≡ found
    → length (input ∷ output ∷ paths) ≡ 2 * length pairs
half_more input output paths pairs rest is None at =
    let never : None ≡ Some pairs = sym (ap (option_map (λ more. pair input output ∷ more)) at) ∙ is in absurd (cc never)
half_more input output paths pairs rest is (Some found) at =
    let same : Some (pair input output ∷ found) ≡ Some pairs = sym (ap (option_map (λ more. pair input output ∷ more)) at) ∙ is in
    let many = rest found at in
    by_some (λ (all : List Paths). length (input ∷ output ∷ paths) ≡ 2 * length all) (pair input output ∷ found) pairs same (omega (arith, many))

half : (paths : List Text) (pairs : List Paths) → pairs_of paths ≡ Some pairs → length paths ≡ 2 * length pairs
half [] pairs is = by_some (λ (found : List Paths). 0 ≡ 2 * length found) [] pairs is refl
half (input ∷ []) pairs is = absurd (cc is)
half (input ∷ output ∷ paths) pairs is = half_more input output paths pairs (half paths) is (pairs_of paths) refl

-- nothing stands before
before_nothing : (found : Option (List Paths)) → option_map (λ more. [] ++ more) found ≡ found
before_nothing None = refl
before_nothing (Some more) = refl

-- there are as many clients as there can be
pub ranged : (paths : List Text) (old new : List PathPair) (whole : Bool) → old ≡ [] → whole ≡ true
    → option_map (λ more. map paths_of old ++ more) (pairs_of paths) ≡ (if whole then Some (map paths_of new) else None)
    → (1 ≤ length paths) × (length paths ≤ 2 * most_clients) → (1 ≤ length new) × (length new ≤ most_clients)
ranged paths old new whole none is made range =
    let from_none : option_map (λ more. [] ++ more) (pairs_of paths) ≡ (if whole then Some (map paths_of new) else None) =
    subst (λ (front : List PathPair). option_map (λ more. map paths_of front ++ more) (pairs_of paths) ≡ (if whole then Some (map paths_of new) else None)) none made in
    let found : pairs_of paths ≡ Some (map paths_of new) = sym (before_nothing (pairs_of paths)) ∙ from_none ∙ ap (λ (b : Bool). if b then Some (map paths_of new) else None) is in
    let many : length paths ≡ 2 * length (map paths_of new) = half paths (map paths_of new) found in
    let same : length (map paths_of new) ≡ length new = length-map new paths_of in
    (omega (arith, many, same, range.0), omega (arith, many, same, range.1))
