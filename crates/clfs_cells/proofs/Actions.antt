-- What a tag and a change say of the action that they spell.
use Rattle.clfs_cells.proofs.Words.{◌≡◌, ℕ, ◌<◌, ◌≤◌, ◌^◌, ◌+◌, Bool, true, false, if◌then◌else◌, List, [], ◌∷◌, ◌++◌, length, drop, get_or, Option, Some}
use Rattle.clfs_cells.proofs.Words.{None, refl, sym, ap, subst, ◌∙◌, arith, length-drop, ◌==◌, nat_lt, option_map, drop-drop, drop_all, little_number}
use Rattle.clfs_cells.proofs.Words.{little_bytes, little_from-lt, Change, TxnRecord}
use Rattle.std.proofs.Common.{◌&&◌}
use Rattle.std.proofs.lemmas.Bool.Decides.{nat_tests}
use Rattle.std.proofs.lemmas.List.{drop_more}
use Rattle.clfs_cells.specs.declared.row.Action.{Action}
use Rattle.clfs_cells.specs.declared.row.Action.TheVariants.{Set, Compensation, Commit, RolledBack}
use Rattle.clfs_cells.specs.Layout.{IsAction, IsTxnRecord, is_blank, blank_change, tag_of, change_in, change_at, action_of, txn_record, txn_record_of}
use Rattle.clfs_cells.specs.Layout.{txn_bytes}
use Rattle.clfs_cells.proofs.Numbers.{IsBytes, IsBytes-drop, two, four, eight}

both_hold : (a b : Bool) → (a && b) ≡ true → (a ≡ true) × (b ≡ true)
both_hold true b e = (refl, e)
both_hold false b e = absurd (cc e)

pub equal : (m n : ℕ) → (m == n) ≡ true → m ≡ n
equal m n e = grind (arith, nat_tests)

below : (m n : ℕ) → nat_lt m n ≡ true → m < n
below m n e = grind (arith, nat_tests)

blank_is : (change : Change) → is_blank change ≡ true → change ≡ blank_change
blank_is change e =
    let outer = both_hold _ _ e in
    let inner = both_hold _ _ outer.0 in
    let cell = equal change.cell 0 inner.0 in
    let old = equal change.old 0 inner.1 in
    let new = equal change.new 0 outer.1 in
    λ i. record { cell = cell i; old = old i; new = new i }

-- what an action's tag and change are
record Spells (tag : ℕ) (change : Change) (action : Action) : Type 0 where
  tag_is : tag ≡ tag_of action
  change_is : change ≡ change_in action
  fits : change.old < 2 ^ 64 → change.new < 2 ^ 64 → IsAction action

spells_set : (tag : ℕ) (change : Change) → ((tag == 1) && nat_lt change.cell 32) ≡ true → Spells tag change (Set change)
spells_set tag change e =
    let both = both_hold _ _ e in
    record { tag_is = equal tag 1 both.0; change_is = refl; fits = λ old new. record { cell = below change.cell 32 both.1; old = old; new = new } }

spells_compensation : (tag : ℕ) (change : Change) → ((tag == 2) && nat_lt change.cell 32) ≡ true → Spells tag change (Compensation change)
spells_compensation tag change e =
    let both = both_hold _ _ e in
    record { tag_is = equal tag 2 both.0; change_is = refl; fits = λ old new. record { cell = below change.cell 32 both.1; old = old; new = new } }

spells_commit : (tag : ℕ) (change : Change) → ((tag == 3) && is_blank change) ≡ true → Spells tag change Commit
spells_commit tag change e = let both = both_hold _ _ e in record { tag_is = equal tag 3 both.0; change_is = blank_is change both.1; fits = λ old new. tt }

spells_rollback : (tag : ℕ) (change : Change) → ((tag == 4) && is_blank change) ≡ true → Spells tag change RolledBack
spells_rollback tag change e = let both = both_hold _ _ e in record { tag_is = equal tag 4 both.0; change_is = blank_is change both.1; fits = λ old new. tt }

same_action : (tag : ℕ) (change : Change) (x y : Action) → x ≡ y → Spells tag change x → Spells tag change y
same_action tag change x y e h = subst (λ (a : Action). Spells tag change a) e h

-- where a test comes before others, it holds and tells its action, or they tell theirs
chain : (tag : ℕ) (change : Change) (b : Bool) (x y : Action) (rest : Option Action) → (b ≡ true → Spells tag change x)
    → (rest ≡ Some y → Spells tag change y) → (if b then Some x else rest) ≡ Some y → Spells tag change y
chain tag change true x y rest here more e = let same : x ≡ y = cc e in same_action tag change x y same (here refl)
chain tag change false x y rest here more e = more e

none_spells : (tag : ℕ) (change : Change) (action : Action) → None ≡ Some action → Spells tag change action
none_spells tag change action e = absurd (cc e)

-- the action that a tag and a change spell has them
spells : (tag : ℕ) (change : Change) (action : Action) → action_of tag change ≡ Some action → Spells tag change action
spells tag change action e =
    chain tag change _ _ action _ (spells_set tag change)
    (chain tag change _ _ action _ (spells_compensation tag change)
    (chain tag change _ _ action _ (spells_commit tag change)
    (chain tag change _ _ action _ (spells_rollback tag change) (none_spells tag change action)))) e

-- data that spell a record, field by field
record IsSpelled (bytes : List ℕ) (r : TxnRecord) : Type 0 where
  size : length bytes ≡ 24
  second : get_or bytes 1 0 ≡ 0
  some : 1 ≤ little_number 4 (drop 4 bytes)
  txn : r.txn ≡ little_number 4 (drop 4 bytes)
  action : action_of (get_or bytes 0 0) (change_at bytes) ≡ Some r.action

-- an answer after a test
pub guarded : {A : Type 0} (b : Bool) (answer : Option A) (x : A) → (if b then answer else None) ≡ Some x → (b ≡ true) × (answer ≡ Some x)
guarded true answer x e = (refl, e)
guarded false answer x e = absurd (cc e)

named : (txn : ℕ) (found : Option Action) (r : TxnRecord) → option_map (txn_record txn) found ≡ Some r → (r.txn ≡ txn) × (found ≡ Some r.action)
named txn None r e = absurd (cc e)
named txn (Some action) r e = let same : txn_record txn action ≡ r = cc e in (sym (ap (λ (x : TxnRecord). x.txn) same), ap (λ (x : TxnRecord). Some x.action) same)

spelled : (bytes : List ℕ) (r : TxnRecord) → txn_record_of bytes ≡ Some r → IsSpelled bytes r
spelled bytes r e =
    let guard = guarded _ _ _ e in
    let outer = both_hold _ _ guard.0 in
    let inner = both_hold _ _ outer.0 in
    let name = named _ _ _ guard.1 in
    record {
      size = equal (length bytes) 24 inner.0;
      second = equal (get_or bytes 1 0) 0 inner.1;
      some = below 0 (little_number 4 (drop 4 bytes)) outer.1;
      txn = name.0;
      action = name.1;
    }

one : (bytes : List ℕ) (n : ℕ) → n < length bytes → drop n bytes ≡ get_or bytes n 0 ∷ drop (n + 1) bytes
one bytes n lt = drop_more bytes n 0 lt

-- the data of a record that are spelled by these fields
abbrev fields_bytes : ℕ → ℕ → ℕ → Change → List ℕ
fields_bytes tag second txn change =
    tag ∷ second ∷ (little_bytes 2 change.cell ++ (little_bytes 4 txn ++ (little_bytes 8 change.old ++ little_bytes 8 change.new)))

none_behind : (bytes : List ℕ) → length bytes ≡ 24 → drop 24 bytes ≡ []
none_behind bytes size = drop_all 24 bytes (omega (arith, size))

-- bytes are spelled by the fields that stand in them
all_fields : (bytes : List ℕ) → length bytes ≡ 24 → IsBytes bytes
    → bytes ≡ fields_bytes (get_or bytes 0 0) (get_or bytes 1 0) (little_number 4 (drop 4 bytes)) (change_at bytes)
all_fields bytes size fits =
    let from = λ (n : ℕ). IsBytes-drop n bytes fits in
    let long = λ (n : ℕ). length-drop n bytes in
    let cell = two (drop 2 bytes) (omega (arith, size, long 2)) (from 2) ∙ ap (λ (l : List ℕ). little_bytes 2 (little_number 2 (drop 2 bytes)) ++ l) (drop-drop 2 2 bytes) in
    let txn = four (drop 4 bytes) (omega (arith, size, long 4)) (from 4) ∙ ap (λ (l : List ℕ). little_bytes 4 (little_number 4 (drop 4 bytes)) ++ l) (drop-drop 4 4 bytes) in
    let old = eight (drop 8 bytes) (omega (arith, size, long 8)) (from 8) ∙ ap (λ (l : List ℕ). little_bytes 8 (little_number 8 (drop 8 bytes)) ++ l) (drop-drop 8 8 bytes) in
    let new = eight (drop 16 bytes) (omega (arith, size, long 16)) (from 16)
    ∙ ap (λ (l : List ℕ). little_bytes 8 (little_number 8 (drop 16 bytes)) ++ l) (drop-drop 8 16 bytes ∙ none_behind bytes size) in
    one bytes 0 (omega (arith, size)) ∙ ap (λ (l : List ℕ). get_or bytes 0 0 ∷ l) (one bytes 1 (omega (arith, size))
    ∙ ap (λ (l : List ℕ). get_or bytes 1 0 ∷ l) (cell
    ∙ ap (λ (l : List ℕ). little_bytes 2 (little_number 2 (drop 2 bytes)) ++ l) (txn
    ∙ ap (λ (l : List ℕ). little_bytes 4 (little_number 4 (drop 4 bytes)) ++ l) (old
    ∙ ap (λ (l : List ℕ). little_bytes 8 (little_number 8 (drop 8 bytes)) ++ l) new))))

-- data that spell a record are that record's
pub written : (bytes : List ℕ) (r : TxnRecord) → IsBytes bytes → txn_record_of bytes ≡ Some r → (bytes ≡ txn_bytes r) × IsTxnRecord r
written bytes r fits e =
    let is = spelled bytes r e in
    let action = spells _ _ _ is.action in
    let small = λ (n : ℕ). little_from-lt 0 8 (drop n bytes) (IsBytes-drop n bytes fits) in
    let txn_small = little_from-lt 0 4 (drop 4 bytes) (IsBytes-drop 4 bytes fits) in (
      all_fields bytes is.size fits
          ∙ ap (λ (n : ℕ). fields_bytes n (get_or bytes 1 0) (little_number 4 (drop 4 bytes)) (change_at bytes)) action.tag_is
          ∙ ap (λ (n : ℕ). fields_bytes (tag_of r.action) n (little_number 4 (drop 4 bytes)) (change_at bytes)) is.second
          ∙ ap (λ (n : ℕ). fields_bytes (tag_of r.action) 0 n (change_at bytes)) (sym is.txn)
          ∙ ap (λ (c : Change). fields_bytes (tag_of r.action) 0 r.txn c) action.change_is,
      record {
        some = rw is.txn is.some;
        txn = omega (arith, is.txn, txn_small);
        action = action.fits (omega (arith, small 8)) (omega (arith, small 16));
      },
    )
