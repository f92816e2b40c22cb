-- What a change of the table of blocks leaves in it.
use Rattle.clfs_buffers.proofs.Words.{◌≡◌, ℕ, zero, suc, ◌-◌, List, [], ◌∷◌, take, Option, Some, None, refl, sym, ◌∙◌, ap, subst, arith, slice_get}
use Rattle.clfs_buffers.proofs.Words.{option_map, lru_cache, LogEntry, BlockPlace, first_lsn, HaveLsns, Blocks, is_same_place, kept_at}
use Rattle.std.proofs.Common.{◌⊎◌, inl, inr, ⊎_elim, Bool, true, false, cond}
use Rattle.std.specs.Prelude.{Contains, IsSome}
use Rattle.std.specs.Map.{lookup, lookup_entry, remove_entry}
use Rattle.std.specs.Option.{is_some, option_map_or}
use Rattle.std.proofs.lemmas.Bool.Decides.{nat_tests}
use Rattle.std.proofs.lemmas.List.Elements.{Contains-append_cases, Contains-push_cases}
use Rattle.lru.specs.LruCache.{LruCache, promoted, put_entries}
use Rattle.lru.proofs.CallerLemmas.{Contains-take, Contains-lookup_entry, Contains-lookup, Contains-promoted}
use Rattle.clfs_buffers.specs.Buffered.{Buffered, with_used, with_block, of_table, IsBuffered}

-- where nothing is found, no entry is there
pub no_entry : {K V : Type 0} (test : K → Bool) (es : List (K × V)) → lookup test es ≡ None → lookup_entry test es ≡ None
no_entry test [] e = refl
no_entry {V = V} test (x ∷ es) e = (elim (test x.0) as (λ b. cond b (Some x.1) (lookup test es) ≡ None → cond b (Some x) (lookup_entry test es) ≡ None) [
  | true ↦ λ h. absurd (cc h)
  | false ↦ λ h. no_entry test es h
]) e

-- what is found is the value of an entry that is there
found_entry : {K V : Type 0} (test : K → Bool) (es : List (K × V)) → lookup test es ≡ option_map (λ e. e.1) (lookup_entry test es)
found_entry test [] = refl
found_entry {V = V} test (x ∷ es) = (elim (test x.0) as (λ b. cond b (Some x.1) (lookup test es) ≡ option_map (λ e. e.1) (cond b (Some x) (lookup_entry test es))) [
  | true ↦ refl
  | false ↦ found_entry test es
])

-- what is found and goes first is then the first
pub promoted_first : {K V : Type 0} (test : K → Bool) (es : List (K × V)) (value : V) → lookup test es ≡ Some value
    → option_map (λ e. e.1) (slice_get (promoted test es) 0) ≡ Some value
promoted_first {K} {V} test es value found = by_entry (lookup_entry test es) (sym (found_entry test es) ∙ found)
  where
    by_entry : (o : Option (K × V)) → option_map (λ e. e.1) o ≡ Some value
        → option_map (λ e. e.1) (slice_get (option_map_or (λ e. e ∷ remove_entry test es) o es) 0) ≡ Some value
    by_entry None is = absurd (cc is)
    by_entry (Some e) is = is

-- so the first is what was found, where something was
pub first_is : (table new : LruCache BlockPlace (List LogEntry)) (place : BlockPlace) (first : Option (BlockPlace × List LogEntry))
    → true ≡ is_some (lookup (is_same_place place) table.entries) → new ≡ lru_cache (promoted (is_same_place place) table.entries) table.cap
    → first ≡ slice_get new.entries 0 → option_map (λ e. e.1) first ≡ lookup (is_same_place place) table.entries
first_is table new place first some change is = by_found (lookup (is_same_place place) table.entries) refl
  where
    by_found : (o : Option (List LogEntry)) → lookup (is_same_place place) table.entries ≡ o → option_map (λ e. e.1) first ≡ lookup (is_same_place place) table.entries
    by_found None none = let clash : true ≡ false = some ∙ ap is_some none in absurd (cc clash)
    by_found (Some records) found =
        ap (option_map (λ e. e.1)) (is ∙ ap (λ (t : LruCache BlockPlace (List LogEntry)). slice_get t.entries 0) change)
        ∙ promoted_first (is_same_place place) table.entries records found ∙ sym found

-- nothing is found where nothing is
pub none_is : {X : Type 0} (found : Option X) → false ≡ is_some found → None ≡ found
none_is None e = refl
none_is (Some x) e = absurd (cc e)

-- what is new goes first
pub put_first : {K V : Type 0} (eq : K → K → Bool) (c : LruCache K V) (k : K) (v : V) → lookup (eq k) c.entries ≡ None
    → put_entries eq c k v ≡ (k, v) ∷ take (c.cap - 1) c.entries
put_first eq c k v e = ap (λ o. option_map_or (λ x. (x.0, v) ∷ remove_entry (eq k) c.entries) o ((k, v) ∷ take (c.cap - 1) c.entries)) (no_entry (eq k) c.entries e)

-- a place is its own
pub same_place : (place : BlockPlace) → is_same_place place place ≡ true
same_place place = grind (arith, nat_tests)

-- a test of places passes for one place alone
pub one_place : (a b : BlockPlace) → is_same_place a b ≡ true → a ≡ b
one_place a b e =
    let container : a.container ≡ b.container = grind (arith, nat_tests) in
    let offset : a.offset ≡ b.offset = grind (arith, nat_tests) in
    λ i. record { container = container i; offset = offset i }

-- what is found in a table is what is kept at the place that is meant
pub kept_is : (table : LruCache BlockPlace (List LogEntry)) (now : Buffered) (place meant : BlockPlace) (found : Option (List LogEntry)) → of_table table ≡ now
    → place ≡ meant → found ≡ lookup (is_same_place place) table.entries → kept_at meant now ≡ found
kept_is table now place meant found same is at = (λ i. kept_at (sym is i) (sym same i)) ∙ sym at

-- a block is kept or not
pub not_both : (blocks : Buffered) (place : BlockPlace) (records : List LogEntry) → kept_at place blocks ≡ Some records → kept_at place blocks ≡ None → ⊥
not_both blocks place records some none = let clash = sym some ∙ none in absurd (cc clash)

pub not_some : (blocks : Buffered) (place : BlockPlace) → kept_at place blocks ≡ None → IsSome (kept_at place blocks) → ⊥
not_some blocks place none some = let clash = subst IsSome none some in cc clash

-- of one place the records of one block are kept
pub one_block : (blocks : Buffered) (place : BlockPlace) (a b : List LogEntry) → kept_at place blocks ≡ Some a → kept_at place blocks ≡ Some b → a ≡ b
one_block blocks place a b p q = let same = sym p ∙ q in cc same

-- the records of a block that is found have the LSNs of its place
pub found_lsns : (most : ℕ) (table : LruCache BlockPlace (List LogEntry)) (place : BlockPlace) (records : List LogEntry) → IsBuffered most table
    → lookup (is_same_place place) table.entries ≡ Some records → HaveLsns (first_lsn place) records
found_lsns most table place records is found =
    let at = Contains-lookup (is_same_place place) table.entries records found in
    subst (λ (p : BlockPlace). HaveLsns (first_lsn p) records) (sym (one_place place at.0 at.2)) (is.lsns at.0 records at.1)

-- a block that was used is kept as before
pub used_stays : (most : ℕ) (table new : LruCache BlockPlace (List LogEntry)) (place : BlockPlace) → IsBuffered most table
    → new ≡ lru_cache (promoted (is_same_place place) table.entries) table.cap → IsBuffered most new
used_stays most table new place is change = subst (IsBuffered most) (sym change) (record {
  room = is.room;
  some = is.some;
  lsns = λ p records has. is.lsns p records (Contains-promoted (is_same_place place) table.entries (p, records) has);
})

-- with another block the table is one still
pub joined_stays : (most : ℕ) (table new : LruCache BlockPlace (List LogEntry)) (place : BlockPlace) (block : List LogEntry) → IsBuffered most table
    → HaveLsns (first_lsn place) block → new ≡ lru_cache ((place, block) ∷ take (table.cap - 1) table.entries) table.cap → IsBuffered most new
joined_stays most table new place block is lsns change = subst (IsBuffered most) (sym change) (record { room = is.room; some = is.some; lsns = among })
  where
    among : (p : BlockPlace) (records : List LogEntry) → Contains ((place, block) ∷ take (table.cap - 1) table.entries) (p, records) → HaveLsns (first_lsn p) records
    among p records has = ⊎_elim
        (λ first. ⊎_elim (λ none. absurd (omega (arith, none.1)))
        (λ (e : (place, block) ≡ (p, records)). subst (λ (x : BlockPlace × List LogEntry). HaveLsns (first_lsn x.0) x.1) e lsns)
        (Contains-push_cases [] (place, block) (p, records) first))
        (λ later. is.lsns p records (Contains-take (table.cap - 1) table.entries (p, records) later))
        (Contains-append_cases ((place, block) ∷ []) (take (table.cap - 1) table.entries) (p, records) has)

-- it has that block first, and of the others as many as there is room for
pub joined_is : (table new : LruCache BlockPlace (List LogEntry)) (now : Buffered) (place meant : BlockPlace) (block : List LogEntry)
    → of_table table ≡ now → place ≡ meant → new ≡ lru_cache ((place, block) ∷ take (table.cap - 1) table.entries) table.cap
    → of_table new ≡ with_block meant block now
joined_is table new now place meant block same is change = ap of_table change ∙ (λ i. with_block (is i) block (same i))

-- ---- what is kept of a place after a change

module _ (other place : BlockPlace) where
  -- the block that is found goes first, past one that is not it
  past_another : (x y : BlockPlace × List LogEntry) (rest all : Option (List LogEntry)) → is_same_place place x.0 ≡ true → is_same_place place y.0 ≡ false
      → cond (is_same_place other x.0) (Some x.1) rest ≡ all
      → cond (is_same_place other x.0) (Some x.1) (cond (is_same_place other y.0) (Some y.1) rest) ≡ cond (is_same_place other y.0) (Some y.1) all
  past_another x y rest all found another is = (elim (is_same_place other y.0) as (λ b. is_same_place other y.0 ≡ b
      → cond (is_same_place other x.0) (Some x.1) (cond b (Some y.1) rest) ≡ cond b (Some y.1) all) [
        | true ↦ λ at_y. (elim (is_same_place other x.0) as (λ b. is_same_place other x.0 ≡ b → cond b (Some x.1) (Some y.1) ≡ Some y.1) [
          | true ↦ λ at_x.
              let here : is_same_place place y.0 ≡ true =
              ap (is_same_place place) (sym (one_place other y.0 at_y) ∙ one_place other x.0 at_x) ∙ found in
              let clash = sym here ∙ another in absurd (cc clash)
          | false ↦ λ at_x. refl
        ]) refl
        | false ↦ λ at_y. is
      ]) refl

  -- so what is found at a place is as it was
  moved_first : (es : Blocks) (x : BlockPlace × List LogEntry) → lookup_entry (is_same_place place) es ≡ Some x
      → lookup (is_same_place other) (x ∷ remove_entry (is_same_place place) es) ≡ lookup (is_same_place other) es
  moved_first [] x e = absurd (cc e)
  moved_first (y ∷ es) x e = (elim (is_same_place place y.0) as (λ b. is_same_place place y.0 ≡ b
      → cond b (Some y) (lookup_entry (is_same_place place) es) ≡ Some x
      → lookup (is_same_place other) (x ∷ cond b es (y ∷ remove_entry (is_same_place place) es)) ≡ lookup (is_same_place other) (y ∷ es)) [
        | true ↦ λ b h. let same : y ≡ x = cc h in ap (λ (z : BlockPlace × List LogEntry). lookup (is_same_place other) (z ∷ es)) (sym same)
        | false ↦ λ b h. past_another x y (lookup (is_same_place other) (remove_entry (is_same_place place) es)) (lookup (is_same_place other) es)
            (Contains-lookup_entry (is_same_place place) es x h).1 b (moved_first es x h)
      ]) refl e

  pub used_same : (kept : Buffered) → kept_at other (with_used place kept) ≡ kept_at other kept
  used_same kept = by_entry (lookup_entry (is_same_place place) kept.blocks) refl
    where
      by_entry : (o : Option (BlockPlace × List LogEntry)) → lookup_entry (is_same_place place) kept.blocks ≡ o
          → lookup (is_same_place other) (option_map_or (λ e. e ∷ remove_entry (is_same_place place) kept.blocks) o kept.blocks)
          ≡ lookup (is_same_place other) kept.blocks
      by_entry None e = refl
      by_entry (Some x) e = moved_first kept.blocks x e

  -- what is found among the first blocks of a table is kept in it
  among_first : (n : ℕ) (blocks : Blocks) (found : List LogEntry) → lookup (is_same_place other) (take n blocks) ≡ Some found
      → lookup (is_same_place other) blocks ≡ Some found
  among_first zero blocks found e = absurd (cc e)
  among_first (suc n) [] found e = absurd (cc e)
  among_first (suc n) (x ∷ blocks) found e = (elim (is_same_place other x.0) as (λ b. cond b (Some x.1) (lookup (is_same_place other) (take n blocks)) ≡ Some found
      → cond b (Some x.1) (lookup (is_same_place other) blocks) ≡ Some found) [
        | true ↦ λ h. h
        | false ↦ λ h. among_first n blocks found h
      ]) e

  pub joined_or_before : (kept : Buffered) (records found : List LogEntry) → kept_at other (with_block place records kept) ≡ Some found
      → ((other ≡ place) × (found ≡ records)) ⊎ (kept_at other kept ≡ Some found)
  joined_or_before kept records found e = (elim (is_same_place other place) as (λ b. is_same_place other place ≡ b
      → cond b (Some records) (lookup (is_same_place other) (take (kept.most - 1) kept.blocks)) ≡ Some found
      → ((other ≡ place) × (found ≡ records)) ⊎ (lookup (is_same_place other) kept.blocks ≡ Some found)) [
        | true ↦ λ b h. inl (one_place other place b, cc h)
        | false ↦ λ b h. inr (among_first (kept.most - 1) kept.blocks found h)
      ]) refl e

-- a block that is added is kept
pub added_is_kept : (kept : Buffered) (place : BlockPlace) (records : List LogEntry) → kept_at place (with_block place records kept) ≡ Some records
added_is_kept kept place records = rw (same_place place) refl
