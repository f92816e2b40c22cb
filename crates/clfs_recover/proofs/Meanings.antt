-- Opening finds one thing in files, whatever stands outside the open blocks.
use Rattle.clfs_recover.proofs.Words.{◌≡◌, ◌≢◌, ⊎_elim, ℕ, ◌+◌, ◌-◌, ◌*◌, ◌/◌, ◌<◌, ◌≤◌, Bool, true, false, cond, not, eqb, map, List, [], ◌∷◌, ◌++◌, length}
use Rattle.clfs_recover.proofs.Words.{get_or, drop, Option, Some, None, Result, Ok, Err, refl, sym, ◌∙◌, ap, subst, arith, length-take-le, le-leb, lt-leb}
use Rattle.clfs_recover.proofs.Words.{ne_eqb, cases_lt, lsn_number, frontier, unless_wrong, pass_guard, LogEntry, Place, Shape, Files, block_sectors, Opens}
use Rattle.clfs_recover.proofs.Words.{EndsCleanly, AreOpen, AreWhole, total, frame_at, BaseImage, NewestRefusal, newest_of, State, ◌>>=◌, told_as}
use Rattle.clfs_recover.proofs.Words.{block_records, Container, shape_of, damage_at, end_at, blocks_end, blocks_records, container_records, listed_records}
use Rattle.clfs_recover.proofs.Words.{last_end, walked, image_fault, slot_offset, AreListed, without_copy, FindsBehind, Finds, state_of, StandsFor}
use Rattle.clfs_recover.proofs.Words.{HaveBlocks, HasLog, stored_in, stored_records, stored_end, stored_place, stored_parts, Parts, LoadRefusal, NoBase}
use Rattle.clfs_recover.proofs.Words.{Damaged}
use Rattle.clfs_block.specs.declared.head.BlockRefusal.TheVariants as blocks
use Rattle.clfs_recover.specs.Files.{IsDamaged, HasNoBase}
use Rattle.clfs_recover.proofs.Finding.{lists_exist}

abbrev found_is : Parts → Result Parts LoadRefusal
found_is parts = Ok parts

abbrev Copy : Type 0
Copy = Result (ℕ × BaseImage) NewestRefusal

-- bytes have one list of open blocks
abbrev pub OneList : Type 0
OneList = (sectors : ℕ) (bytes : List ℕ) (blocks others : List (List ℕ)) → AreOpen sectors bytes blocks → AreOpen sectors bytes others → blocks ≡ others

one_listing : OneList → (sectors : ℕ) (files : Files) (numbers : List ℕ) (a b : List Container) → AreListed sectors files numbers a
    → AreListed sectors files numbers b → a ≡ b
one_listing one sectors files [] [] [] p q = refl
one_listing one sectors files [] [] (c ∷ cs) p q = absurd q
one_listing one sectors files [] (c ∷ cs) b p q = absurd p
one_listing one sectors files (n ∷ ns) [] b p q = absurd p
one_listing one sectors files (n ∷ ns) (c ∷ cs) [] p q = absurd q
one_listing one sectors files (n ∷ ns) (c ∷ cs) (d ∷ ds) p q =
    let bytes : d.bytes ≡ c.bytes = q.0 ∙ sym p.0 in
    let blocks : c.blocks ≡ d.blocks = one sectors c.bytes c.blocks d.blocks p.1 (subst (λ (l : List ℕ). AreOpen sectors l d.blocks) bytes q.1) in
    let others : cs ≡ ds = one_listing one sectors files ns cs ds p.2 q.2 in
    λ i. record { bytes = sym bytes i; blocks = blocks i } ∷ others i

pub one_finding : OneList → (files : Files) (a b : Result Parts LoadRefusal) → Finds files a → Finds files b → a ≡ b
one_finding one files a b p q = by_copy (newest_of (files 0)) p q
  where
    by_copy : (r : Copy) → FindsBehind files a r → FindsBehind files b r → a ≡ b
    by_copy (Err refusal) p q = p ∙ sym q
    by_copy (Ok (slot, image)) p q =
        p.2 ∙ ap (walked slot image) (one_listing one image.container_sectors files image.files p.0 q.0 p.1 q.1) ∙ sym q.2

pub some_finding : (files : Files) → (found : Result Parts LoadRefusal) × Finds files found
some_finding files = by_copy (newest_of (files 0)) refl
  where
    by_copy : (r : Copy) → newest_of (files 0) ≡ r → (found : Result Parts LoadRefusal) × Finds files found
    by_copy (Err refusal) e =
        (Err (without_copy refusal), subst (λ (r : Copy). FindsBehind files (Err (without_copy refusal)) r) (sym e) refl)
    by_copy (Ok (slot, image)) e =
        let listed = lists_exist image.container_sectors files image.files in
        (walked slot image listed.0, subst (λ (r : Copy). FindsBehind files (walked slot image listed.0) r) (sym e) (listed.0, listed.1, refl))

pub one_state : OneList → (files : Files) (s t : State) → StandsFor files s → StandsFor files t → s.buffers ≡ t.buffers → s ≡ t
one_state one files s t p q same =
    let parts : p.parts ≡ q.parts = (let e = one_finding one files (Ok p.parts) (Ok q.parts) p.found q.found in cc) in
    p.is ∙ (λ i. state_of (parts i) (same i)) ∙ sym q.is

pub not_damaged : OneList → (files : Files) (s : State) (container offset at : ℕ) → StandsFor files s → IsDamaged files container offset at → ⊥
not_damaged one files s container offset at p q =
    let e = one_finding one files (Ok p.parts) (Err (Damaged container offset at)) p.found q in cc

no_base_is_found : (files : Files) → HasNoBase files → Finds files (Err NoBase)
no_base_is_found files is = subst (λ (r : Copy). FindsBehind files (Err NoBase) r) (sym is) refl

pub not_without_base : OneList → (files : Files) (s : State) → HasNoBase files → StandsFor files s → ⊥
not_without_base one files s none p = let e = one_finding one files (Ok p.parts) (Err NoBase) p.found (no_base_is_found files none) in cc

pub no_damage_without_base : OneList → (files : Files) (container offset at : ℕ) → HasNoBase files → IsDamaged files container offset at → ⊥
no_damage_without_base one files container offset at none q =
    let e = one_finding one files (Err (Damaged container offset at)) (Err NoBase) q (no_base_is_found files none) in cc

-- ---- open blocks alone

abbrev Records : Type 0
Records = Result (List LogEntry) LoadRefusal

-- every list of open blocks that ends cleanly is one of open blocks
abbrev pub WholeAreOpen : Type 0
WholeAreOpen = (sectors : ℕ) (bytes : List ℕ) (blocks : List (List ℕ)) → AreWhole sectors bytes blocks → AreOpen sectors bytes blocks

taken : {T : Type 0} (b : Bool) (x y : T) → b ≡ true → cond b x y ≡ x
taken true x y e = refl
taken false x y e = absurd (cc e)

closed_frame : (shape : Shape) (start : ℕ) (bytes : List ℕ) → 0 < length bytes → get_or bytes 0 0 ≢ 165 → frame_at shape start bytes ≡ Err blocks.Closed
unfolding frame_at
closed_frame shape start bytes there closed =
    let gate : not (eqb (get_or bytes 0 0) 165) ≡ true = ap not (ne_eqb (get_or bytes 0 0) 165 closed) in
    pass_guard _ _ _ _ (ne_eqb (length bytes) 0 (λ e. absurd (omega (arith, e, there)))) (taken _ _ _ gate)

pub opens_rest : (left : ℕ) (bytes : List ℕ) (open_blocks : List (List ℕ)) (rest : ℕ) → Opens left bytes open_blocks rest
    → 512 * left ≡ 512 * rest + total open_blocks
opens_rest left bytes [] rest opens = omega (arith, opens)
opens_rest left bytes (block ∷ others) rest opens =
    let n = block_sectors bytes in
    let size : length block ≡ 512 * n = ap length opens.0.is ∙ length-take-le (512 * n) bytes opens.0.whole in
    omega (arith, size, opens.0.fits, opens_rest (left - n) (drop (512 * n) bytes) others rest opens.1)

module _ (shape : Shape) (streams : ℕ) where
  abbrev nothing : Records
  nothing = Ok []

  pub end_clean : (id : ℕ) (behind : List ℕ) (size rest : ℕ) → 512 * shape.container_sectors ≡ 512 * rest + size → EndsCleanly rest behind
      → blocks_end shape id behind size ≡ nothing
  end_clean id behind size rest sum ends =
      ⊎_elim (λ (none : rest ≡ 0). full (omega (arith, none, sum)))
      (λ there. ⊎_elim (λ (more : size / 512 < shape.container_sectors).
      ap (λ b. cond b nothing (end_at id size (frame_at shape (lsn_number id size 0) behind))) (lt-leb shape.container_sectors (size / 512) more)
      ∙ ap (end_at id size) (closed_frame shape (lsn_number id size 0) behind there.0 there.1))
      full (cases_lt (size / 512) shape.container_sectors)) ends
    where
      full : shape.container_sectors ≤ size / 512 → blocks_end shape id behind size ≡ nothing
      full le = ap (λ b. cond b nothing (end_at id size (frame_at shape (lsn_number id size 0) behind))) (le-leb shape.container_sectors (size / 512) le)

  pub stored_same : (id : ℕ) (behind : List ℕ) (offset : ℕ) (open_blocks : List (List ℕ)) → blocks_end shape id behind (offset + total open_blocks) ≡ nothing
      → blocks_records shape streams id behind offset open_blocks ≡ stored_in shape streams id offset open_blocks
  stored_same id behind offset [] ends = (let e : offset ≡ offset + 0 = omega arith in ap (blocks_end shape id behind) e) ∙ ends
  stored_same id behind offset (block ∷ others) ends =
      let e : offset + (length block + total others) ≡ offset + length block + total others = omega arith in
      ap (λ (more : Records). told_as (damage_at id offset) (block_records shape streams (lsn_number id offset 0) block)
      >>= λ (entries : List LogEntry). (more >>= λ (rest : List LogEntry). Ok (entries ++ rest)))
      (stored_same id behind (offset + length block) others (sym (ap (blocks_end shape id behind) e) ∙ ends))

  pub whole_is : (id : ℕ) (bytes : List ℕ) (open_blocks : List (List ℕ)) → AreWhole shape.container_sectors bytes open_blocks
      → container_records shape streams id (record { bytes = bytes; blocks = open_blocks }) ≡ stored_in shape streams id 0 open_blocks
  whole_is id bytes open_blocks whole =
      let size : total open_blocks ≡ 0 + total open_blocks = omega arith in
      stored_same id (drop (total open_blocks) bytes) 0 open_blocks
      (sym (ap (blocks_end shape id (drop (total open_blocks) bytes)) size)
      ∙ end_clean id (drop (total open_blocks) bytes) (total open_blocks) whole.0
      (opens_rest shape.container_sectors bytes open_blocks whole.0 whole.1) whole.2)

  -- listed containers with these blocks
  pub record IsStored (files : Files) (numbers : List ℕ) (stored : List (List (List ℕ))) : Type 0 where
    listed : List Container
    are : AreListed shape.container_sectors files numbers listed
    blocks_are : map (λ (c : Container). c.blocks) listed ≡ stored
    read : (id : ℕ) → listed_records shape streams id listed ≡ stored_records shape streams id stored

  pub is_stored : WholeAreOpen → (files : Files) (numbers : List ℕ) (stored : List (List (List ℕ))) → HaveBlocks shape.container_sectors files numbers stored
      → IsStored files numbers stored
  is_stored open_too files [] [] have = record { listed = []; are = tt; blocks_are = refl; read = λ id. refl }
  is_stored open_too files [] (b ∷ bs) have = absurd have
  is_stored open_too files (n ∷ ns) [] have = absurd have
  is_stored open_too files (n ∷ ns) (b ∷ bs) have =
      let others = is_stored open_too files ns bs have.1 in
      let here : Container = record { bytes = files n; blocks = b } in record {
        listed = here ∷ others.listed;
        are = (refl, open_too shape.container_sectors (files n) b have.0, others.are);
        blocks_are = ap (λ (l : List (List (List ℕ))). b ∷ l) others.blocks_are;
        read = λ id.
            let one = whole_is id (files n) b have.0 in
            let rest = others.read (id + 1) in
            λ i. one i >>= λ (entries : List LogEntry). (rest i >>= λ (more : List LogEntry). Ok (entries ++ more));
      }

pub last_end_is : (listed : List Container) → last_end listed ≡ stored_end (map (λ (c : Container). c.blocks) listed)
last_end_is [] = refl
last_end_is (c ∷ []) = refl
last_end_is (c ∷ d ∷ cs) = last_end_is (d ∷ cs)

module _ (slot : ℕ) (image : BaseImage) (stored : List (List (List ℕ))) where
  -- what the walk gives by its records and its place
  abbrev walk_of : Records → List (List (List ℕ)) → Result Parts LoadRefusal
  walk_of r place = r >>= λ (entries : List LogEntry).
      unless_wrong (λ at. Damaged 0 (slot_offset slot) at) (image_fault image (frontier (stored_place image place)))
      (Ok (stored_parts slot image place entries))

  abbrev all : Records
  all = stored_records (shape_of image) (length image.streams) image.first stored

  -- the walk over these blocks, whatever stands after them
  module _ (open_too : WholeAreOpen) (files : Files) (have : HaveBlocks image.container_sectors files image.files stored) where
    here : IsStored (shape_of image) (length image.streams) files image.files stored
    here = is_stored (shape_of image) (length image.streams) open_too files image.files stored have

    walked_is : walked slot image here.listed ≡ walk_of all stored
    walked_is =
        let end : last_end here.listed ≡ stored_end stored = last_end_is here.listed ∙ ap stored_end here.blocks_are in
        let read = here.read image.first in
        λ i. read i >>= λ (entries : List LogEntry).
        (let place : Place = record { container = image.first + length image.files - 1; offset = end i; used = 0; records = 0 } in
        unless_wrong (λ at. Damaged 0 (slot_offset slot) at) (image_fault image (frontier place))
        (Ok (record (stored_parts slot image stored entries) { place = place })))

    -- a base or a tail that doesn't fit their records is told
    pub stored_fault : OneList → (entries : List LogEntry) (at : ℕ) → all ≡ Ok entries → image_fault image (frontier (stored_place image stored)) ≡ Some at
        → (listed : List Container) → AreListed image.container_sectors files image.files listed
        → walked slot image listed ≡ Err (Damaged 0 (slot_offset slot) at)
    stored_fault one entries at read fault listed are =
        ap (walked slot image) (one_listing one image.container_sectors files image.files listed here.listed are here.are) ∙ walked_is
        ∙ ap (λ (r : Records). walk_of r stored) read
        ∙ ap (λ (o : Option ℕ). unless_wrong (λ at. Damaged 0 (slot_offset slot) at) o (Ok (stored_parts slot image stored entries))) fault

  -- the same in the files of a log
  module _ (open_too : WholeAreOpen) (files : Files) (has : HasLog slot image stored files) where
    pub finds_stored : (read : Result Parts LoadRefusal) → read ≡ walk_of all stored → Finds files read
    finds_stored read is =
        let there = here open_too files has.containers in
        subst (λ (r : Copy). FindsBehind files read r) (sym has.newest) (there.listed, there.are, is ∙ sym (walked_is open_too files has.containers))

    pub stored_found : (entries : List LogEntry) → all ≡ Ok entries → image_fault image (frontier (stored_place image stored)) ≡ None
        → Finds files (Ok (stored_parts slot image stored entries))
    stored_found entries read right = finds_stored (Ok (stored_parts slot image stored entries))
        (sym (ap (λ (r : Records). walk_of r stored) read
        ∙ ap (λ (o : Option ℕ). unless_wrong (λ at. Damaged 0 (slot_offset slot) at) o (Ok (stored_parts slot image stored entries))) right))

  pub same_log : OneList → WholeAreOpen → (files others : Files) (s : State) → HasLog slot image stored files → HasLog slot image stored others
      → StandsFor files s → StandsFor others s
  same_log one open_too files others s has had stands = record {
    parts = stands.parts;
    found = finds_stored open_too others had (Ok stands.parts)
        (one_finding one files (Ok stands.parts) (walk_of all stored) stands.found (finds_stored open_too files has (walk_of all stored) refl));
    is = stands.is;
  }
