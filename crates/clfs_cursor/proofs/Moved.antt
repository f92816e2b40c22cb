-- A cursor that moved to another record: what the slab has at its key.
use Rattle.clfs_cursor.proofs.Words.{◌≡◌, ◌≢◌, ℕ, ◌<◌, ◌≤◌, Bool, true, false, cond, refl, sym, ap, ap₂, ◌∙◌, subst, arith, List, [], ◌∷◌, length, map}
use Rattle.clfs_cursor.proofs.Words.{get_or, Option, Some, None, is_some, ◌==◌, find, count_by, slice_set, option_map, nat_tests, set-get_or, Slab, get}
use Rattle.clfs_cursor.proofs.Words.{slab_len, Cursor, AreaCursors, area_at, with_cursors, Keys, AreDifferent, has_number, cursor_by, area_by, has_key}
use Rattle.clfs_cursor.proofs.Words.{uses_in, uses, kind_of, last_of, AreOwned, Numbered, Standing}
use Rattle.std.specs.Prelude.{if◌then◌else◌}
use Rattle.clfs_cursor.proofs.Counts.{counted_more, counted_le}
use Rattle.clfs_cursor.proofs.Found.{none_found}
use Rattle.clfs_cursor.proofs.Frames.{same_cursors, same_cursor, one_area, has_own_key}
use Rattle.clfs_cursor.proofs.Owned.{found_counts, in_row, key_is_used_once}
use Rattle.clfs_cursor.proofs.Seen.{found_seen}
use Rattle.clfs_cursor.proofs.Started.{area_there}

-- the cursor at another record, where it has the number
abbrev pub moved_to : ℕ → ℕ → Cursor → Cursor
moved_to number lsn cursor = if cursor.number == number then record cursor { last = lsn } else cursor

-- where no cursor has the number, none moves
pub none_moves : (number lsn : ℕ) (cursors : List Cursor) → find (λ (cursor : Cursor). cursor.number == number) cursors ≡ None
    → map (moved_to number lsn) cursors ≡ cursors
none_moves number lsn [] none = refl
none_moves number lsn (first ∷ cursors) none = go (first.number == number) refl (none_moves number lsn cursors)
  where
    go : (b : Bool) → (first.number == number) ≡ b
        → (find (λ (cursor : Cursor). cursor.number == number) cursors ≡ None → map (moved_to number lsn) cursors ≡ cursors)
        → map (moved_to number lsn) (first ∷ cursors) ≡ first ∷ cursors
    go true is rest =
        let here : Some first ≡ None = rw is at none in absurd (cc)
    go false is rest = rw is (ap (λ (cs : List Cursor). first ∷ cs) (rest (rw is at none)))

module _ (old new : Slab Standing) (number key lsn : ℕ) (standing : Standing) (was : get old key ≡ Some standing)
    (moved : get new key ≡ Some (record standing { last = lsn })) (others : (k : ℕ) → k ≢ key → get new k ≡ get old k) where
  -- the others of an area stay, where none of them has the number or the key
  rest_stays : (keys : List Numbered) → count_by (has_number number) keys ≡ 0 → count_by (has_key key) keys ≡ 0
      → map (cursor_by new) keys ≡ map (moved_to number lsn) (map (cursor_by old) keys)
  rest_stays keys unnumbered unkeyed =
      let none = found_seen old keys number ∙ ap (λ (o : Option Numbered). option_map (cursor_by old) o) (none_found (has_number number) keys unnumbered) in
      same_cursors old new keys (λ k some. others k (λ e. let here = subst (λ n. 1 ≤ count_by (has_key n) keys) e some in absurd (omega (arith, here, unkeyed))))
      ∙ sym (none_moves number lsn (map (cursor_by old) keys) none)

  -- the cursor's number and key
  abbrev mover : Numbered
  mover = record { number = number; key = key }

  here_moves : cursor_by new mover ≡ moved_to number lsn (cursor_by old mover)
  here_moves =
      let is : (number == number) ≡ true = grind (arith, nat_tests) in
      ap (λ (o : Option Standing). record { number = number; kind = kind_of o; last = last_of o }) moved
      ∙ sym (ap (λ (b : Bool). cond b (record (cursor_by old mover) { last = lsn }) (cursor_by old mover)) is
      ∙ ap (λ (o : Option Standing). record { number = number; kind = kind_of o; last = lsn }) was)

  -- the cursor of the number moves, and no other of the area
  pub moved_cursors : (keys : List Numbered) → AreDifferent keys → count_by (has_key key) keys ≤ 1 → find (has_number number) keys ≡ Some mover
      → map (cursor_by new) keys ≡ map (moved_to number lsn) (map (cursor_by old) keys)
  moved_cursors [] different once found = absurd (cc)
  moved_cursors (first ∷ keys) different once found = go (has_number number first) refl (moved_cursors keys)
    where
      go : (b : Bool) → has_number number first ≡ b
          → (AreDifferent keys → count_by (has_key key) keys ≤ 1 → find (has_number number) keys ≡ Some mover
          → map (cursor_by new) keys ≡ map (moved_to number lsn) (map (cursor_by old) keys))
          → map (cursor_by new) (first ∷ keys) ≡ map (moved_to number lsn) (map (cursor_by old) (first ∷ keys))
      go true is rest =
          let at : Some first ≡ Some mover = rw is at found in
          let same : first ≡ mover = cc in
          let own = subst (λ (x : Numbered). has_key key x ≡ true) (sym same) (has_own_key mover) in
          let unnumbered : count_by (has_number number) keys ≡ 0 = omega (arith, different number, counted_more (has_number number) first keys is) in
          let unkeyed : count_by (has_key key) keys ≡ 0 = omega (arith, once, counted_more (has_key key) first keys own) in
          ap₂ (λ (one : Cursor) (more : List Cursor). one ∷ more)
          (subst (λ (x : Numbered). cursor_by new x ≡ moved_to number lsn (cursor_by old x)) (sym same) here_moves)
          (rest_stays keys unnumbered unkeyed)
      go false is rest =
          let behind : find (has_number number) keys ≡ Some mover = rw is at found in
          let counts = found_counts (has_number number) keys mover behind in
          let other : first.key ≢ key = λ e.
          let own = subst (λ n. has_key n first ≡ true) e (has_own_key first) in
          absurd (omega (arith, once, counts, counted_more (has_key key) first keys own)) in
          ap₂ (λ (one : Cursor) (more : List Cursor). one ∷ more)
          (same_cursor old new first (others first.key other)
          ∙ sym (ap (λ (b : Bool). cond b (record (cursor_by old first) { last = lsn }) (cursor_by old first)) is))
          (rest (λ n. omega (arith, different n, counted_le (has_number n) first keys)) (omega (arith, once, counted_le (has_key key) first keys)) behind)

  module _ (areas : List Keys) (place : ℕ) (row : Keys) (there : place < length areas) (is : row ≡ get_or areas place row)
      (owned : AreOwned old areas) (different : AreDifferent row.numbered) (found : find (has_number number) row.numbered ≡ Some mover) where
    counts : 1 ≤ uses_in key row
    counts = found_counts (has_number number) row.numbered mover found

    used : uses key areas ≡ 1
    used = key_is_used_once old areas owned place row there is key counts

    -- what contracts see is the same with the cursor at the record
    pub moved_areas : map (area_by new) areas
        ≡ with_cursors place (map (moved_to number lsn) (area_at place (map (area_by old) areas)).cursors) (map (area_by old) areas)
    moved_areas =
        sym (ap (λ (rows : List Keys). map (area_by new) rows) (ap (λ (r : Keys). slice_set areas place r) is ∙ set-get_or areas place row))
        ∙ one_area old new areas place row row there (λ k more. others k (λ same.
        let here = subst (λ n. uses_in n (get_or areas place row) < uses n areas) same more in
        absurd (omega (arith, here, used, counts, ap (uses_in key) is))))
        ∙ ap (λ (area : AreaCursors). slice_set (map (area_by old) areas) place area)
        (ap (λ (cursors : List Cursor). record { cursors = cursors; reads = row.reads })
        (moved_cursors row.numbered different (omega (arith, used, in_row old areas owned place row there is key)) found)
        ∙ ap (λ (area : AreaCursors). record area { cursors = map (moved_to number lsn) area.cursors }) (sym (area_there old areas place row there is)))

    -- and the parts belong together
    pub moved_owned : slab_len new ≡ slab_len old → AreOwned new areas
    moved_owned len = record { once = λ k. at k (has_key k mover) refl; as_many = len ∙ owned.as_many }
      where
        at : (k : ℕ) (b : Bool) → has_key k mover ≡ b → uses k areas ≡ cond (is_some (get new k)) 1 0
        at k true here =
            let at_key : key ≡ k = grind (arith, nat_tests, here) in
            let there_now = subst (λ n. get new n ≡ Some (record standing { last = lsn })) at_key moved in
            subst (λ n. uses n areas ≡ 1) at_key used ∙ sym (ap (λ (o : Option Standing). cond (is_some o) 1 0) there_now)
        at k false here =
            let other : k ≢ key = λ e. grind (arith, nat_tests, here, e) in
            owned.once k ∙ sym (ap (λ (o : Option Standing). cond (is_some o) 1 0) (others k other))
