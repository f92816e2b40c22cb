-- Blocks that the walk has taken in, one after the other, whatever the disk told.
use Rattle.clfs_recover.proofs.Words.{◌≡◌, inl, inr, ⊎_elim, ℕ, ◌+◌, ◌-◌, ◌*◌, ◌/◌, ◌%◌, ◌<◌, ◌≤◌, cond, List, [], ◌∷◌, ◌++◌, length, take, drop, Some, None}
use Rattle.clfs_recover.proofs.Words.{Result, Ok, Err, refl, sym, ◌∙◌, ap, subst, arith, append_assoc, append-nil, length-take-le, take-take, get_or-take}
use Rattle.clfs_recover.proofs.Words.{get_or_past, drop-drop, cases_lt, lt-leb, lsn_number, IsShape, LogEntry, Shape, block_sectors, BeginsWith, Opens, Ends}
use Rattle.clfs_recover.proofs.Words.{EndsCleanly, AreOpen, total, Row, AreBytes, left_from, frame_at, IsEnough, AreJudgedAlone, AreReadAsWritten, BlockHead}
use Rattle.clfs_recover.proofs.Words.{BlockRefusal, block_refused, block_same, told_as, block_records, damage_at, end_at, blocks_end, blocks_records}
use Rattle.clfs_recover.proofs.Words.{container_records, stored_in, LieIn, HasTaken, GathersBlock, RefusesAs, TakesContainer, IsFrontOf, LoadRefusal, NoBase}
use Rattle.clfs_recover.proofs.Words.{Damaged, DiskFault, NoMemory}
use Rattle.clfs_block.specs.Checks.{HasFrame}
use Rattle.clfs_block.specs.declared.head.BlockRefusal.TheVariants as blocks
use Rattle.clfs_recover.proofs.Joined.{Records, joined, joined_nil, joined_assoc}
use Rattle.clfs_recover.proofs.Containers.{front_frame, front_block, sectors_said, left_here, one_refusal, frame_closed, closed_gate, unread_gate}

abbrev none : Records
none = Ok []

abbrev damage : ℕ → ℕ → ℕ → Records
damage container offset at = Err (Damaged container offset at)

abbrev refused : BlockRefusal → Result BlockHead BlockRefusal
refused refusal = Err refusal

-- ---- records of blocks, and those of more blocks after them

module _ (shape : Shape) (streams : ℕ) where
  stored_append : (id offset : ℕ) (some more : List (List ℕ))
      → stored_in shape streams id offset (some ++ more)
      ≡ joined (stored_in shape streams id offset some) (stored_in shape streams id (offset + total some) more)
  stored_append id offset [] more =
      let e : offset ≡ offset + 0 = omega arith in
      ap (λ (n : ℕ). stored_in shape streams id n more) e ∙ sym (joined_nil (stored_in shape streams id (offset + 0) more))
  stored_append id offset (block ∷ others) more =
      let e : offset + length block + total others ≡ offset + (length block + total others) = omega arith in
      let own : Records = told_as (damage_at id offset) (block_records shape streams (lsn_number id offset 0) block) in
      ap (joined own) (stored_append id (offset + length block) others more)
      ∙ joined_assoc own (stored_in shape streams id (offset + length block) others) (stored_in shape streams id (offset + length block + total others) more)
      ∙ ap (λ (n : ℕ). joined (joined own (stored_in shape streams id (offset + length block) others)) (stored_in shape streams id n more)) e

  -- what the walk gives of some blocks and of those after them
  walked_append : (id : ℕ) (past : List ℕ) (offset : ℕ) (some more : List (List ℕ))
      → blocks_records shape streams id past offset (some ++ more)
      ≡ joined (stored_in shape streams id offset some) (blocks_records shape streams id past (offset + total some) more)
  walked_append id past offset [] more =
      let e : offset ≡ offset + 0 = omega arith in
      ap (λ (n : ℕ). blocks_records shape streams id past n more) e ∙ sym (joined_nil (blocks_records shape streams id past (offset + 0) more))
  walked_append id past offset (block ∷ others) more =
      let e : offset + length block + total others ≡ offset + (length block + total others) = omega arith in
      let own : Records = told_as (damage_at id offset) (block_records shape streams (lsn_number id offset 0) block) in
      ap (joined own) (walked_append id past (offset + length block) others more)
      ∙ joined_assoc own (stored_in shape streams id (offset + length block) others)
      (blocks_records shape streams id past (offset + length block + total others) more)
      ∙ ap (λ (n : ℕ). joined (joined own (stored_in shape streams id (offset + length block) others)) (blocks_records shape streams id past n more)) e

  -- a block more
  pub stored_more : (id : ℕ) (some : List (List ℕ)) (block : List ℕ) (entries es : List LogEntry) → stored_in shape streams id 0 some ≡ Ok entries
      → block_records shape streams (lsn_number id (total some) 0) block ≡ Ok es
      → stored_in shape streams id 0 (some ++ block ∷ []) ≡ Ok (entries ++ es)
  stored_more id some block entries es so_far is =
      let place : 0 + total some ≡ total some = omega arith in
      stored_append id 0 some (block ∷ [])
      ∙ ap (λ (r : Records). joined r (stored_in shape streams id (0 + total some) (block ∷ []))) so_far
      ∙ ap (λ (n : ℕ). joined (Ok entries) (stored_in shape streams id n (block ∷ []))) place
      ∙ ap (λ (r : Result (List LogEntry) BlockRefusal). joined (Ok entries) (joined (told_as (damage_at id (total some)) r) (Ok []))) is
      ∙ ap (λ (l : List LogEntry). Ok (entries ++ l)) (append-nil es)

-- ---- a block more in its container

opens_more : (left : ℕ) (bytes : List ℕ) (some : List (List ℕ)) (block : List ℕ) (rest : ℕ) → Opens left bytes some rest
    → BeginsWith rest (drop (total some) bytes) block
    → Opens left bytes (some ++ block ∷ []) (rest - block_sectors (drop (total some) bytes))
opens_more left bytes [] block rest opens first =
    (subst (λ (n : ℕ). BeginsWith n bytes block) (sym opens) first, ap (λ (n : ℕ). n - block_sectors bytes) opens)
opens_more left bytes (own ∷ others) block rest opens first =
    let n : ℕ = 512 * block_sectors bytes in
    let size : length own ≡ n = ap length opens.0.is ∙ length-take-le n bytes opens.0.whole in
    let place : drop (total others) (drop n bytes) ≡ drop (length own + total others) bytes =
    drop-drop (total others) n bytes ∙ ap (λ (k : ℕ). drop (k + total others) bytes) (sym size) in (
      opens.0,
      subst (λ (l : List ℕ). Opens (left - block_sectors bytes) (drop n bytes) (others ++ block ∷ []) (rest - block_sectors l)) place
          (opens_more (left - block_sectors bytes) (drop n bytes) others block rest opens.1 (subst (λ (l : List ℕ). BeginsWith rest l block) (sym place) first)),
    )

-- All open blocks are those that were met, and more after them.
record GoOn (left : ℕ) (bytes : List ℕ) (some all : List (List ℕ)) (here rest : ℕ) : Type 0 where
  more : List (List ℕ)
  is : all ≡ some ++ more
  opens : Opens here (drop (total some) bytes) more rest

opens_go_on : (left : ℕ) (bytes : List ℕ) (some all : List (List ℕ)) (here rest : ℕ) → Opens left bytes some here → Opens left bytes all rest
    → Ends rest (drop (total all) bytes) → GoOn left bytes some all here rest
opens_go_on left bytes [] all here rest opens all_open ends =
    record { more = all; is = refl; opens = subst (λ (n : ℕ). Opens n bytes all rest) opens all_open }
opens_go_on left bytes (block ∷ others) [] here rest opens all_open ends =
    absurd (⊎_elim (λ (none : rest ≡ 0). omega (arith, none, all_open, opens.0.some, opens.0.fits))
    (λ more. ⊎_elim (λ closed. closed opens.0.gate)
    (λ more. ⊎_elim (λ (none : block_sectors bytes ≡ 0). omega (arith, none, opens.0.some))
    (λ more. ⊎_elim (λ (many : rest < block_sectors bytes). omega (arith, many, all_open, opens.0.fits))
    (λ (short : length bytes < 512 * block_sectors bytes). omega (arith, short, opens.0.whole)) more) more) more) ends)
opens_go_on left bytes (block ∷ others) (first ∷ rest_of) here rest opens all_open ends =
    let n : ℕ = 512 * block_sectors bytes in
    let place = λ (own : List ℕ) (l : List (List ℕ)) (is : own ≡ take n bytes).
    drop-drop (total l) n bytes ∙ ap (λ (k : ℕ). drop (k + total l) bytes) (sym (ap length is ∙ length-take-le n bytes opens.0.whole)) in
    let next = opens_go_on (left - block_sectors bytes) (drop n bytes) others rest_of here rest opens.1 all_open.1
    (subst (λ (l : List ℕ). Ends rest l) (sym (place first rest_of all_open.0.is)) ends) in record {
      more = next.more;
      is = λ i. (all_open.0.is ∙ sym opens.0.is) i ∷ next.is i;
      opens = subst (λ (l : List ℕ). Opens here l next.more rest) (place block others opens.0.is) next.opens;
    }

lie_more : (left : ℕ) (some : List (List ℕ)) (block : List ℕ) → LieIn left some → AreBytes block → BeginsWith (left - total some / 512) block block
    → LieIn left (some ++ block ∷ [])
lie_more left [] block lie bytes first =
    let e : left - 0 / 512 ≡ left = omega arith in (bytes, subst (λ (n : ℕ). BeginsWith n block block) e first, tt)
lie_more left (own ∷ others) block lie bytes first =
    let n : ℕ = block_sectors own in
    let size : length own ≡ 512 * n = ap length lie.1.is ∙ length-take-le (512 * n) own lie.1.whole in
    let fewer : left - (length own + total others) / 512 ≡ left - n - total others / 512 = omega (arith, size) in
    (lie.0, lie.1, lie_more (left - n) others block lie.2 bytes (subst (λ (n : ℕ). BeginsWith n block block) fewer first))

-- ---- the walk through a container

module _ (shape : Shape) (streams id : ℕ) (told : Type 0) (bytes : List ℕ) where
  -- The walk stands after these blocks, whose records were taken in.
  pub record IsBehind (has : List LogEntry → Type 0) (rows : List Row) (bases : List ℕ) (before : List LogEntry) (offset : ℕ) : Type 0 where
    pub blocks : List (List ℕ)
    pub entries : List LogEntry
    pub lie : LieIn shape.container_sectors blocks
    pub records : stored_in shape streams id 0 blocks ≡ Ok entries
    pub ends : total blocks ≡ offset
    pub opens : told → Opens shape.container_sectors bytes blocks (shape.container_sectors - offset / 512)
    pub taken : HasTaken has rows bases (before ++ entries)

  -- it begins after none
  pub starts : (has : List LogEntry → Type 0) (rows : List Row) (bases : List ℕ) (before : List LogEntry) → HasTaken has rows bases before
      → IsBehind has rows bases before 0
  starts has rows bases before taken = record {
    blocks = [];
    entries = [];
    lie = tt;
    records = refl;
    ends = refl;
    opens = λ is_told. omega arith;
    taken = subst (λ (l : List LogEntry). HasTaken has rows bases l) (sym (append-nil before)) taken;
  }

  module _ (has : List LogEntry → Type 0) (rows : List Row) (bases : List ℕ) (before : List LogEntry) (offset : ℕ)
      (at : IsBehind has rows bases before offset) where
    -- it ends where no block was to begin
    pub ends_here : (now : List LogEntry → Type 0) (moved : List ℕ) → HasTaken now rows moved (before ++ at.entries)
        → (told → EndsCleanly (shape.container_sectors - offset / 512) (drop offset bytes))
        → TakesContainer shape streams id told bytes now rows moved before offset
    ends_here now moved taken clean = record {
      blocks = at.blocks;
      entries = at.entries;
      lie = at.lie;
      records = at.records;
      ends = at.ends;
      stand = λ is_told. (
        shape.container_sectors - offset / 512,
        at.opens is_told,
        subst (λ (n : ℕ). EndsCleanly (shape.container_sectors - offset / 512) (drop n bytes)) (sym at.ends) (clean is_told),
      );
      taken = taken;
    }

    -- as where no sector is left
    pub is_full : 512 * shape.container_sectors ≤ offset → TakesContainer shape streams id told bytes has rows bases before offset
    is_full far = ends_here has bases at.taken (λ is_told. inl (omega (arith, far)))

    module _ (judged : AreJudgedAlone) (written : AreReadAsWritten) (good : IsShape shape) (whole : offset % 512 ≡ 0)
        (near : offset < 512 * shape.container_sectors) (front : List ℕ)
        (shown : told → IsFrontOf (512 * shape.block_sectors) (drop offset bytes) front) where
      abbrev start : ℕ
      start = lsn_number id offset 0

      abbrev here : List ℕ
      here = drop offset bytes

      abbrev sectors_left : ℕ
      sectors_left = shape.container_sectors - offset / 512

      -- bytes begin with the block whose frame is right
      begins_with : (l : List ℕ) (head : BlockHead) → frame_at shape start l ≡ Ok head → BeginsWith sectors_left l (take (512 * head.sectors) l)
      begins_with l head is =
          let frame = written.holds shape start l head is in
          let said : head.sectors ≡ block_sectors l = ap (λ (h : BlockHead). h.sectors) frame.numbers ∙ sectors_said l in
          let left : left_from shape start ≡ sectors_left = left_here shape id offset whole (omega (arith, near, good.largest_container)) in record {
            gate = frame.gate;
            some = omega (arith, frame.some, said);
            fits = omega (arith, frame.left, left, said);
            whole = omega (arith, frame.whole, said);
            is = ap (λ (n : ℕ). take (512 * n) l) said;
          }

      -- a closed gate ends it
      pub is_closed : (now : List LogEntry → Type 0) (moved : List ℕ)
          → GathersBlock now rows moved (before ++ at.entries) id offset (Ok None) (block_records shape streams start front)
          → TakesContainer shape streams id told bytes now rows moved before offset
      is_closed now moved gathers =
          let gate = frame_closed shape streams start front gathers.0 in
          ends_here now moved gathers.1 (λ is_told.
          let there : frame_at shape start here ≡ Err blocks.Closed =
          sym (front_frame judged written shape streams start good.some_sectors here front (shown is_told)) ∙ gate in
          inr (unread_gate shape start here there, λ open_gate. closed_gate shape start here open_gate there))

      -- a block that was taken in
      pub goes_on : AreBytes front → (sectors : ℕ) (now : List LogEntry → Type 0) (moved : List ℕ)
          → GathersBlock now rows moved (before ++ at.entries) id offset (Ok (Some sectors)) (block_records shape streams start front)
          → (head : BlockHead) → frame_at shape start front ≡ Ok head → head.sectors ≡ sectors
          → IsBehind now rows moved before (offset + 512 * sectors)
      goes_on are_bytes sectors now moved gathers head is same = subst (λ (n : ℕ). IsBehind now rows moved before (offset + 512 * n)) same (record {
        blocks = at.blocks ++ block ∷ [];
        entries = at.entries ++ gathers.0;
        lie = lie_more shape.container_sectors at.blocks block at.lie block_bytes
            (subst (λ (n : ℕ). BeginsWith (shape.container_sectors - n / 512) block block) (sym at.ends) own);
        records = stored_more shape streams id at.blocks block at.entries gathers.0 at.records
            (ap (λ (n : ℕ). block_records shape streams (lsn_number id n 0) block) at.ends ∙ read);
        ends = total_more at.blocks ∙ (let e = at.ends in omega (arith, e, size));
        opens = λ is_told.
            let there : frame_at shape start here ≡ Ok head =
            sym (front_frame judged written shape streams start good.some_sectors here front (shown is_told)) ∙ is in
            let first = begins_with here head there in
            let is_block : take count here ≡ block = sym (ap (take count) (shown is_told).is ∙ take-take count (length front) here frame.whole) in
            let place : drop (total at.blocks) bytes ≡ here = ap (λ (n : ℕ). drop n bytes) at.ends in
            let said : block_sectors here ≡ head.sectors = says here there in
            let fewer : sectors_left - block_sectors here ≡ shape.container_sectors - (offset + count) / 512 = omega (arith, said, whole) in
            subst (λ (n : ℕ). Opens shape.container_sectors bytes (at.blocks ++ block ∷ []) n)
            (ap (λ (l : List ℕ). sectors_left - block_sectors l) place ∙ fewer)
            (opens_more shape.container_sectors bytes at.blocks block sectors_left (at.opens is_told)
            (subst (λ (l : List ℕ). BeginsWith sectors_left l block) (sym place) (subst (λ (l : List ℕ). BeginsWith sectors_left here l) is_block first)));
        taken = subst (λ (l : List LogEntry). HasTaken now rows moved l) (append_assoc before at.entries gathers.0) gathers.2;
      })
        where
          count : ℕ
          count = 512 * head.sectors

          block : List ℕ
          block = take count front

          frame : HasFrame shape start front head
          frame = written.holds shape start front head is

          says : (l : List ℕ) → frame_at shape start l ≡ Ok head → block_sectors l ≡ head.sectors
          says l right = sym (ap (λ (h : BlockHead). h.sectors) (written.holds shape start l head right).numbers ∙ sectors_said l)

          size : length block ≡ count
          size = length-take-le count front frame.whole

          enough : IsEnough shape front count
          enough = record { first = omega (arith, frame.some); all = inl (let e = ap (λ (h : BlockHead). h.sectors) frame.numbers in omega (arith, e)) }

          own : BeginsWith sectors_left block block
          own = subst (λ (l : List ℕ). BeginsWith sectors_left block l) (take-take count count front (omega arith))
              (begins_with block head (judged.frame shape start front count enough ∙ is))

          read : block_records shape streams start block ≡ Ok gathers.0
          read = block_same judged written.holds shape streams start front count enough ∙ gathers.1

          block_bytes : AreBytes block
          block_bytes i = ⊎_elim (λ (within : i < count). subst (λ (n : ℕ). n < 256) (sym (get_or-take count front i 0 within)) (are_bytes i))
              (λ (past : count ≤ i). subst (λ (n : ℕ). n < 256) (sym (get_or_past block i 0 (omega (arith, past, size)))) (omega arith))
              (cases_lt i count)

          total_more : (l : List (List ℕ)) → total (l ++ block ∷ []) ≡ total l + length block
          total_more [] = omega arith
          total_more (b ∷ bs) = let e = total_more bs in omega (arith, e)

      -- no block whose frame is right begins where the open blocks end
      not_ended : (head : BlockHead) → frame_at shape start here ≡ Ok head → Ends sectors_left here → ⊥
      not_ended head is ends =
          let first = begins_with here head is in
          ⊎_elim (λ (none : sectors_left ≡ 0). omega (arith, none, first.some, first.fits))
          (λ more. ⊎_elim (λ closed. closed first.gate)
          (λ more. ⊎_elim (λ (none : block_sectors here ≡ 0). omega (arith, none, first.some))
          (λ more. ⊎_elim (λ (many : sectors_left < block_sectors here). omega (arith, many, first.fits))
          (λ (short : length here < 512 * block_sectors here). omega (arith, short, first.whole)) more) more) more) ends

      module _ (is_told : told) (all : List (List ℕ)) (open_blocks : AreOpen shape.container_sectors bytes all) where
        abbrev past_all : List ℕ
        past_all = drop (total all) bytes

        abbrev all_records : Records
        all_records = container_records shape streams id (record { bytes = bytes; blocks = all })

        go_on : GoOn shape.container_sectors bytes at.blocks all sectors_left open_blocks.0
        go_on = opens_go_on shape.container_sectors bytes at.blocks all sectors_left open_blocks.0 (at.opens is_told) open_blocks.1 open_blocks.2

        is_here : drop (total at.blocks) bytes ≡ here
        is_here = ap (λ (n : ℕ). drop n bytes) at.ends

        -- a wrong byte is told
        damaged : (wrong : ℕ) → block_records shape streams start front ≡ Err (blocks.BadByte wrong) → all_records ≡ Err (Damaged id offset wrong)
        damaged wrong is =
            let place : 0 + total at.blocks ≡ offset = omega (arith, at.ends) in
            ap (blocks_records shape streams id past_all 0) go_on.is ∙ walked_append shape streams id past_all 0 at.blocks go_on.more
            ∙ ap (λ (r : Records). joined r (blocks_records shape streams id past_all (0 + total at.blocks) go_on.more)) at.records
            ∙ ap (λ (n : ℕ). joined (Ok at.entries) (blocks_records shape streams id past_all n go_on.more)) place
            ∙ ap (joined (Ok at.entries)) (by_more go_on.more go_on.is go_on.opens)
          where
            here_wrong : block_records shape streams start here ≡ Err (blocks.BadByte wrong)
            here_wrong = sym (front_block judged written shape streams start good.some_sectors here front (shown is_told)) ∙ is

            by_more : (more : List (List ℕ)) → all ≡ at.blocks ++ more → Opens sectors_left (drop (total at.blocks) bytes) more open_blocks.0
                → blocks_records shape streams id past_all offset more ≡ Err (Damaged id offset wrong)
            by_more (block ∷ others) e opens =
                let first = subst (λ (l : List ℕ). BeginsWith sectors_left l block) is_here opens.0 in
                let same = ap (block_records shape streams start) first.is
                ∙ block_same judged written.holds shape streams start here (512 * block_sectors here)
                (record { first = omega (arith, first.some); all = inl (let e = sectors_said here in omega (arith, e)) }) in
                ap (λ (r : Result (List LogEntry) BlockRefusal).
                joined (told_as (damage_at id offset) r) (blocks_records shape streams id past_all (offset + length block) others)) (same ∙ here_wrong)
            by_more [] e opens = by_answer (frame_at shape start here) refl
              where
                past_is : past_all ≡ here
                past_is = ap (λ (l : List (List ℕ)). drop (total l) bytes) (e ∙ append-nil at.blocks) ∙ is_here

                by_answer : (r : Result BlockHead BlockRefusal) → frame_at shape start here ≡ r
                    → blocks_end shape id past_all offset ≡ Err (Damaged id offset wrong)
                by_answer (Ok head) f =
                    absurd (not_ended head f (subst (λ (n : ℕ). Ends n here) (sym opens) (subst (λ (l : List ℕ). Ends open_blocks.0 l) past_is open_blocks.2)))
                by_answer (Err refusal) f =
                    let same : refusal ≡ blocks.BadByte wrong = one_refusal refusal (blocks.BadByte wrong)
                    (sym (block_refused shape streams start here refusal f) ∙ here_wrong) in
                    ap (λ b. cond b none (end_at id offset (frame_at shape start past_all)))
                    (lt-leb shape.container_sectors (offset / 512) (omega (arith, near)))
                    ∙ ap (λ (l : List ℕ). end_at id offset (frame_at shape start l)) past_is ∙ ap (end_at id offset) (f ∙ ap refused same)

        -- what is refused here, the container is refused for
        pub is_refused : (now : List LogEntry → Type 0) (moved : List ℕ) (refusal : LoadRefusal)
            → GathersBlock now rows moved (before ++ at.entries) id offset (Err refusal) (block_records shape streams start front)
            → RefusesAs refusal all_records
        is_refused now moved NoBase gathers = absurd gathers
        is_refused now moved (Damaged c o wrong) gathers = damaged wrong gathers.2 ∙ (λ i. damage (sym gathers.0 i) (sym gathers.1 i) wrong)
        is_refused now moved DiskFault gathers = tt
        is_refused now moved NoMemory gathers = tt
