-- An area is what the last of its client's entries that made it says.
use Rattle.clfs_laws.proofs.Words.{◌≡◌, ℕ, Bool, true, false, refl, sym, ap, subst, ◌∙◌, List, [], ◌∷◌, ◌++◌, Option, Some, None, ◌==◌, if◌then◌else◌}
use Rattle.clfs_laws.proofs.Words.{option_map, Call, Entry, Reply, State, Area, area_of, IsLegal, mine, AreaRow, row_of, row_in, row_after, row_through}
use Rattle.clfs_laws.proofs.Words.{changed_where, with_held, with_changed_held}
use Rattle.std.proofs.Common.{eq-eqb}
use Rattle.clfs_model.specs.declared.call.Call.TheVariants as calls
use Rattle.clfs_model.specs.declared.reply.Reply.TheVariants as replies
use Rattle.clfs_laws.specs.Rows.{makes_or_ends, NoneMakesOrEnds}
use Rattle.clfs_laws.proofs.RowRuns.{rows_through}

module _ (stream largest reads : ℕ) where
  -- there is a row, and it has this stream, this largest record and so many cursors at most
  record IsMadeSo (found : Option AreaRow) : Type 0 where
    pub row : AreaRow
    pub there : found ≡ Some row
    pub on : row.stream ≡ stream
    pub length : row.largest ≡ largest
    pub cursors : row.reads ≡ reads

  -- a change of what is held leaves all this
  changed : (named : Bool) (change : AreaRow → AreaRow) (found : Option AreaRow) → ((r : AreaRow) → (change r).stream ≡ r.stream)
      → ((r : AreaRow) → (change r).largest ≡ r.largest) → ((r : AreaRow) → (change r).reads ≡ r.reads)
      → IsMadeSo found → IsMadeSo (changed_where named change found)
  changed false change found on length cursors made = made
  changed true change found on length cursors made = record {
    row = change made.row;
    there = ap (λ (f : Option AreaRow). option_map change f) made.there;
    on = on made.row ∙ made.on;
    length = length made.row ∙ made.length;
    cursors = cursors made.row ∙ made.cursors;
  }

  kept_else : (test : Bool) (other : Option AreaRow) (found : Option AreaRow) → test ≡ false → IsMadeSo found → IsMadeSo (if test then other else found)
  kept_else true other found none made = absurd (cc)
  kept_else false other found none made = made

  kept : (number : ℕ) (found : Option AreaRow) (call : Call) (reply : Reply) → makes_or_ends number call reply ≡ false
      → IsMadeSo found → IsMadeSo (row_after number found call reply)
  kept number found (calls.CreateArea a b c) (replies.Area given) none made =
      kept_else (given == number) (Some (record { stream = a; largest = b; reads = c; held = 0 })) found none made
  kept number found (calls.DeleteArea given) replies.Done none made = kept_else (given == number) None found none made
  kept number found (calls.Reserve given sizes) (replies.Held now) none made =
      changed (given == number) (with_held now) found (λ r. refl) (λ r. refl) (λ r. refl) made
  kept number found (calls.Release given sectors) (replies.Held now) none made =
      changed (given == number) (with_held now) found (λ r. refl) (λ r. refl) (λ r. refl) made
  kept number found (calls.Append given draft spends sizes) (replies.Placed lsn) none made =
      changed (given == number) (with_changed_held _ _) found (λ r. refl) (λ r. refl) (λ r. refl) made
  kept number found (calls.WriteRestart given bytes base spends) (replies.Placed lsn) none made =
      changed (given == number) (with_changed_held _ _) found (λ r. refl) (λ r. refl) (λ r. refl) made
  kept number found call reply none made = made

  kept_through : (number : ℕ) (found : Option AreaRow) (entries : List Entry) → NoneMakesOrEnds number entries → IsMadeSo found
      → IsMadeSo (row_through number found entries)
  kept_through number found [] none made = made
  kept_through number found (entry ∷ entries) none made =
      kept_through number (row_after number found entry.call entry.reply) entries none.1 (kept number found entry.call entry.reply none.0 made)

  here : (number : ℕ) (found : Option AreaRow) (test : Bool) → test ≡ true
      → IsMadeSo (if test then Some (record { stream = stream; largest = largest; reads = reads; held = 0 }) else found)
  here number found true is = record { row = record { stream = stream; largest = largest; reads = reads; held = 0 }; there = refl; on = refl; length = refl; cursors = refl }
  here number found false is = absurd (cc)

  made_by : (number : ℕ) (found : Option AreaRow) (entry : Entry) → entry.call ≡ calls.CreateArea stream largest reads → entry.reply ≡ replies.Area number
      → IsMadeSo (row_after number found entry.call entry.reply)
  made_by number found entry call reply =
      let F : Call → Type 0 = λ c. IsMadeSo (row_after number found c entry.reply) in
      let G : Reply → Type 0 = λ r. IsMadeSo (row_after number found (calls.CreateArea stream largest reads) r) in
      subst F (sym call) (subst G (sym reply) (here number found (number == number) (eq-eqb number number refl)))

  through_all : (number : ℕ) (found : Option AreaRow) (before after : List Entry) (entry : Entry) → entry.call ≡ calls.CreateArea stream largest reads
      → entry.reply ≡ replies.Area number → NoneMakesOrEnds number after → IsMadeSo (row_through number found (before ++ entry ∷ after))
  through_all number found [] after entry call reply none =
      kept_through number (row_after number found entry.call entry.reply) after none (made_by number found entry call reply)
  through_all number found (first ∷ before) after entry call reply none =
      through_all number (row_after number found first.call first.reply) before after entry call reply none

  -- the area of such a row
  of_row : (found : Option Area) → IsMadeSo (option_map row_of found)
      → (area : Area) × (found ≡ Some area) × (area.stream ≡ stream) × (area.largest ≡ largest) × (area.reads ≡ reads)
  of_row None made = absurd (let no = made.there in cc)
  of_row (Some area) made =
      let is : row_of area ≡ made.row = let e = made.there in cc in
      (area, refl, ap (λ (r : AreaRow). r.stream) is ∙ made.on, ap (λ (r : AreaRow). r.largest) is ∙ made.length, ap (λ (r : AreaRow). r.reads) is ∙ made.cursors)

  pub made_area : (told : Bool) (s t : State) (journal before after : List Entry) (client number : ℕ) (entry : Entry) → IsLegal told journal s t
      → mine journal client ≡ before ++ entry ∷ after → entry.call ≡ calls.CreateArea stream largest reads → entry.reply ≡ replies.Area number
      → NoneMakesOrEnds number after
      → (area : Area) × (area_of t client number ≡ Some area) × (area.stream ≡ stream) × (area.largest ≡ largest) × (area.reads ≡ reads)
  made_area told s t journal before after client number entry legal own call reply none =
      let F : Option AreaRow → Type 0 = IsMadeSo in
      let G : List Entry → Type 0 = λ es. IsMadeSo (row_through number (row_in s client number) es) in
      let made = subst G (sym own) (through_all number (row_in s client number) before after entry call reply none) in
      of_row (area_of t client number) (subst F (sym (rows_through told [] s t journal client number legal)) made)
