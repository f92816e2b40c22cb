-- How far the blocks of a container lie below an LSN, block by block.
use Rattle.clfs_archive_form.proofs.Words.{inl, inr, ⊎_elim, ◌≡◌, ◌⊎◌, ℕ, zero, suc, ◌+◌, ◌-◌, ◌*◌, ◌<◌, ◌≤◌, Bool, cond, ltb, List, [], ◌∷◌, ◌++◌, length}
use Rattle.clfs_archive_form.proofs.Words.{take, drop, Result, Ok, Err, refl, sym, ◌∙◌, ap, subst, append_assoc, append-nil, arith, cases_lt, lt-ltb, le-ltb}
use Rattle.clfs_archive_form.proofs.Words.{drop-drop, drop_all, length-drop, length-take-le, get_or-take, filter-append, lsn_number, LogEntry, Shape}
use Rattle.clfs_archive_form.proofs.Words.{block_sectors, total, frame_at, AreReadAsWritten, block_refused, ◌>>=◌, told_as, block_records, BlockHead}
use Rattle.clfs_archive_form.proofs.Words.{BlockRefusal, FitFrom, stored_in, damage_at, LoadRefusal, block_bytes, blocks_of, blocks_in, below, in_a_row}
use Rattle.clfs_archive_form.proofs.Words.{AreExact, StandIn, IsKeptEnd}
use Rattle.std.proofs.Math.Seq.{take-add}
use Rattle.std.proofs.lemmas.Grind.{flat_map-append}
use Rattle.clfs_archive_form.proofs.Blocks.{ReadAlone, takes_first, none_of}
use Rattle.clfs_archive_form.proofs.OpenEnds.{sectors_said}
use Rattle.clfs_archive_form.proofs.ReadRecords.{ReadsFit, HasRead, has_read, bound, one_value, told_value}

-- ---- records below an LSN, and from one on

abbrev pub AreBelow : ℕ → List LogEntry → Type 0
AreBelow lsn [] = Unit {0}
AreBelow lsn (e ∷ es) = (e.lsn < lsn) × AreBelow lsn es

abbrev pub AreFrom : ℕ → List LogEntry → Type 0
AreFrom lsn [] = Unit {0}
AreFrom lsn (e ∷ es) = (lsn ≤ e.lsn) × AreFrom lsn es

pub below-append : (lsn : ℕ) (a b : List LogEntry) → below lsn (a ++ b) ≡ below lsn a ++ below lsn b
below-append lsn a b = filter-append (λ (e : LogEntry). ltb e.lsn lsn) a b

pub all_below : (lsn : ℕ) (es : List LogEntry) → AreBelow lsn es → below lsn es ≡ es
all_below lsn [] are = refl
all_below lsn (e ∷ es) are =
    ap (λ (b : Bool). cond b (e ∷ below lsn es) (below lsn es)) (lt-ltb e.lsn lsn are.0) ∙ ap (λ (l : List LogEntry). e ∷ l) (all_below lsn es are.1)

pub none_below : (lsn from : ℕ) (es : List LogEntry) → lsn ≤ from → AreFrom from es → below lsn es ≡ []
none_below lsn from [] le are = refl
none_below lsn from (e ∷ es) le are =
    ap (λ (b : Bool). cond b (e ∷ below lsn es) (below lsn es)) (le-ltb e.lsn lsn (omega (arith, le, are.0))) ∙ none_below lsn from es le are.1

pub below_both : (lsn : ℕ) (a b : List LogEntry) → AreBelow lsn a → AreBelow lsn b → AreBelow lsn (a ++ b)
below_both lsn [] b first next = next
below_both lsn (e ∷ es) b first next = (first.0, below_both lsn es b first.1 next)

pub from_both : (lsn : ℕ) (a b : List LogEntry) → AreFrom lsn a → AreFrom lsn b → AreFrom lsn (a ++ b)
from_both lsn [] b first next = next
from_both lsn (e ∷ es) b first next = (first.0, from_both lsn es b first.1 next)

pub from_lower : (lsn least : ℕ) (es : List LogEntry) → least ≤ lsn → AreFrom lsn es → AreFrom least es
from_lower lsn least [] le are = tt
from_lower lsn least (e ∷ es) le are = (omega (arith, le, are.0), from_lower lsn least es le are.1)

pub below_higher : (lsn most : ℕ) (es : List LogEntry) → lsn ≤ most → AreBelow lsn es → AreBelow most es
below_higher lsn most [] le are = tt
below_higher lsn most (e ∷ es) le are = (omega (arith, le, are.0), below_higher lsn most es le are.1)

-- records whose LSNs are in a row
pub row_from : (lsn streams : ℕ) (es : List LogEntry) → FitFrom lsn streams es → AreFrom lsn es
row_from lsn streams [] fit = tt
row_from lsn streams (e ∷ es) fit = (omega (arith, fit.0.at), from_lower (lsn + 1) lsn es (omega arith) (row_from (lsn + 1) streams es fit.1))

pub row_below : (lsn streams most : ℕ) (es : List LogEntry) → FitFrom lsn streams es → lsn + length es ≤ most → AreBelow most es
row_below lsn streams most [] fit few = tt
row_below lsn streams most (e ∷ es) fit few = (omega (arith, fit.0.at, few), row_below (lsn + 1) streams most es fit.1 (omega (arith, few)))

abbrev no_records : List LogEntry
no_records = []

none_of_none : (n : ℕ) → no_records ≡ take n no_records
none_of_none zero = refl
none_of_none (suc n) = refl

pub row_front : (lsn streams up_to : ℕ) (es : List LogEntry) → FitFrom lsn streams es → below up_to es ≡ take (up_to - lsn) es
row_front lsn streams up_to [] fit = none_of_none (up_to - lsn)
row_front lsn streams up_to (e ∷ es) fit = ⊎_elim
    (λ (lt : lsn < up_to).
    let one : up_to - lsn ≡ suc (up_to - (lsn + 1)) = omega (arith, lt) in
    ap (λ (b : Bool). cond b (e ∷ below up_to es) (below up_to es)) (lt-ltb e.lsn up_to (omega (arith, fit.0.at, lt)))
    ∙ ap (λ (l : List LogEntry). e ∷ l) (row_front (lsn + 1) streams up_to es fit.1) ∙ ap (λ (n : ℕ). take n (e ∷ es)) (sym one))
    (λ (ge : up_to ≤ lsn).
    let none : up_to - lsn ≡ 0 = omega (arith, ge) in
    none_below up_to lsn (e ∷ es) ge (row_from lsn streams (e ∷ es) fit) ∙ ap (λ (n : ℕ). take n (e ∷ es)) (sym none))
    (cases_lt lsn up_to)

-- ---- blocks one after the other

-- Of some blocks those up to a byte lie below an LSN, and these records are theirs.
pub record KeptTo (shape : Shape) (streams id up_to : ℕ) (bytes : List ℕ) (entries : List LogEntry) (offset : ℕ) : Type 0 where
  pub own : List LogEntry
  pub others : List LogEntry
  pub most : ℕ
  pub enough : length bytes ≤ offset + most
  pub rest : stored_in shape streams id offset (blocks_of most (drop offset bytes)) ≡ Ok others
  pub all : entries ≡ own ++ others
  pub front : List (List ℕ)
  pub stand : StandIn shape streams id own (take offset bytes) front
  pub size : total front ≡ offset
  pub low : AreBelow up_to own

-- The block at a byte, and what is read of it and of those after it.
pub record NextBlock (shape : Shape) (streams id : ℕ) (bytes : List ℕ) (offset : ℕ) (others : List LogEntry) (most : ℕ) : Type 0 where
  pub here : List LogEntry
  pub more : List LogEntry
  pub fewer : ℕ
  pub least : most ≡ fewer + 1
  pub read : block_records shape streams (lsn_number id offset 0) (drop offset bytes) ≡ Ok here
  pub block : block_records shape streams (lsn_number id offset 0) (take (512 * block_sectors (drop offset bytes)) (drop offset bytes)) ≡ Ok here
  pub has : HasRead shape streams (lsn_number id offset 0) here (drop offset bytes)
  pub rest : stored_in shape streams id (offset + 512 * block_sectors (drop offset bytes)) (blocks_of fewer (drop (offset + 512 * block_sectors (drop offset bytes)) bytes)) ≡ Ok more
  pub all : others ≡ here ++ more

-- what is read of a block and of those after it
abbrev read_both : List LogEntry → Result (List LogEntry) LoadRefusal → Result (List LogEntry) LoadRefusal
read_both entries read = read >>= (λ (others : List LogEntry). Ok (entries ++ others))

abbrev right : List LogEntry → Result (List LogEntry) LoadRefusal
right entries = Ok entries

abbrev block_right : List LogEntry → Result (List LogEntry) BlockRefusal
block_right entries = Ok entries

pub exact_both : (a b : List (List ℕ)) → AreExact a → AreExact b → AreExact (a ++ b)
exact_both [] b first next = next
exact_both (x ∷ a) b first next = (first.0, exact_both a b first.1 next)

pub total_both : (a b : List (List ℕ)) → total (a ++ b) ≡ total a + total b
total_both [] b = omega arith
total_both (x ∷ a) b = omega (arith, total_both a b)

-- that what is read of blocks and of those after them is read of all
abbrev pub ReadBehind : Type 0
ReadBehind = (shape : Shape) (streams id offset : ℕ) (blocks more : List (List ℕ)) (entries others : List LogEntry)
    → stored_in shape streams id offset blocks ≡ Ok entries → stored_in shape streams id (offset + total blocks) more ≡ Ok others
    → stored_in shape streams id offset (blocks ++ more) ≡ Ok (entries ++ others)

-- blocks with one more
pub one_more_read : (shape : Shape) (streams id : ℕ) → ReadBehind → (own here : List LogEntry) (bytes block : List ℕ) (front : List (List ℕ))
    → StandIn shape streams id own bytes front → length block ≡ 512 * block_sectors block → stored_in shape streams id (total front) (block ∷ []) ≡ Ok here
    → StandIn shape streams id (own ++ here) (bytes ++ block) (front ++ block ∷ [])
one_more_read shape streams id behind own here bytes block front stand exact read = record {
  is = ap (λ (l : List ℕ). l ++ block) stand.is ∙ ap (λ (l : List ℕ). in_a_row front ++ l) (sym (append-nil block))
      ∙ sym (flat_map-append (λ (b : List ℕ). b) front (block ∷ []));
  exact = exact_both front (block ∷ []) stand.exact (exact, tt);
  read = behind shape streams id 0 front (block ∷ []) own here stand.read
      (subst (λ (n : ℕ). stored_in shape streams id n (block ∷ []) ≡ Ok here) (first (total front)) read);
}
  where
    first : (n : ℕ) → n ≡ 0 + n
    first n = omega arith

module _ (alone : ReadAlone) (written : AreReadAsWritten) (fits : ReadsFit) (shape : Shape) (small : shape.block_sectors ≤ 128) (streams id : ℕ) where
  -- the records of blocks from an offset on have LSNs from there on
  pub stored_from : (offset : ℕ) (blocks : List (List ℕ)) (entries : List LogEntry) → stored_in shape streams id offset blocks ≡ Ok entries
      → AreFrom (lsn_number id offset 0) entries
  stored_from offset [] entries is = subst (AreFrom (lsn_number id offset 0)) (one_value (right []) [] entries refl is) tt
  stored_from offset (block ∷ blocks) entries is =
      let first = bound (told_as (damage_at id offset) (block_records shape streams (lsn_number id offset 0) block))
      (λ (es : List LogEntry). read_both es (stored_in shape streams id (offset + length block) blocks)) entries is in
      let next = bound (stored_in shape streams id (offset + length block) blocks) (λ (others : List LogEntry). Ok (first.first ++ others)) entries first.then in
      let has = has_read written fits shape small streams (lsn_number id offset 0) first.first block
      (told_value (damage_at id offset) (block_records shape streams (lsn_number id offset 0) block) first.first first.is) in
      let more = stored_from (offset + length block) blocks next.first next.is in
      subst (AreFrom (lsn_number id offset 0)) (one_value (right (first.first ++ next.first)) (first.first ++ next.first) entries refl next.then)
      (from_both (lsn_number id offset 0) first.first next.first (row_from (lsn_number id offset 0) streams first.first has.fit)
      (from_lower (lsn_number id (offset + length block) 0) (lsn_number id offset 0) next.first (omega arith) more))

  module _ (bytes : List ℕ) (offset : ℕ) (others : List LogEntry) (most : ℕ) (enough : length bytes ≤ offset + most)
      (rest : stored_in shape streams id offset (blocks_of most (drop offset bytes)) ≡ Ok others) where
    nothing_left : length bytes ≤ offset → others ≡ []
    nothing_left end =
        let none : blocks_of most (drop offset bytes) ≡ [] = ap (blocks_of most) (drop_all offset bytes end) ∙ none_of most in
        sym (one_value (right []) [] others refl (ap (stored_in shape streams id offset) (sym none) ∙ rest))

    pub next_block : offset < length bytes → NextBlock shape streams id bytes offset others most
    next_block more =
        let R : List ℕ = drop offset bytes in
        let start : ℕ = lsn_number id offset 0 in
        let n : ℕ = block_sectors R in
        let t = takes_first most R (omega (arith, length-drop offset bytes, more)) (omega (arith, length-drop offset bytes, enough)) in
        let block : List ℕ = take (block_bytes R) R in
        let behind : List (List ℕ) = blocks_of t.0 (drop (block_bytes R) R) in
        let both = ap (stored_in shape streams id offset) (sym t.2) ∙ rest in
        let first = bound (told_as (damage_at id offset) (block_records shape streams start block))
        (λ (es : List LogEntry). read_both es (stored_in shape streams id (offset + length block) behind)) others both in
        let next = bound (stored_in shape streams id (offset + length block) behind) (λ (es : List LogEntry). Ok (first.first ++ es)) others first.then in
        let own = told_value (damage_at id offset) (block_records shape streams start block) first.first first.is in
        let read = sym (alone shape streams start R (block_bytes R) (record { first = omega arith; all = inl (omega arith) })) ∙ own in
        let has = has_read written fits shape small streams start first.first R read in
        let size : block_bytes R ≡ 512 * n = omega (arith, sectors_said R, has.some_sectors) in
        let len : length block ≡ 512 * n = length-take-le (block_bytes R) R (omega (arith, size, has.long)) ∙ size in
        let left : drop (block_bytes R) R ≡ drop (offset + 512 * n) bytes = ap (λ (k : ℕ). drop k R) size ∙ drop-drop (512 * n) offset bytes in record {
          here = first.first;
          more = next.first;
          fewer = t.0;
          least = t.1;
          read = read;
          block = subst (λ (k : ℕ). block_records shape streams start (take k R) ≡ Ok first.first) size own;
          has = has;
          rest = ap (λ (k : ℕ). stored_in shape streams id (offset + k) (blocks_of t.0 (drop (offset + 512 * n) bytes))) (sym len)
              ∙ ap (λ (l : List ℕ). stored_in shape streams id (offset + length block) (blocks_of t.0 l)) (sym left) ∙ next.is;
          all = sym (one_value (right (first.first ++ next.first)) (first.first ++ next.first) others refl next.then);
        }

  one_more : ReadBehind → (own here : List LogEntry) (bytes block : List ℕ) (front : List (List ℕ)) → StandIn shape streams id own bytes front
      → length block ≡ 512 * block_sectors block → block_records shape streams (lsn_number id (total front) 0) block ≡ Ok here
      → StandIn shape streams id (own ++ here) (bytes ++ block) (front ++ block ∷ [])
  one_more behind own here bytes block front stand exact read =
      one_more_read shape streams id behind own here bytes block front stand exact
      (ap (λ (r : Result (List LogEntry) BlockRefusal). told_as (damage_at id (total front)) r >>= (λ (es : List LogEntry). right (es ++ []))) read
      ∙ ap right (append-nil here))

  module _ (up_to : ℕ) (bytes : List ℕ) (entries : List LogEntry) where
    pub begins : stored_in shape streams id 0 (blocks_in bytes) ≡ Ok entries → KeptTo shape streams id up_to bytes entries 0
    begins read = record {
      own = [];
      others = entries;
      most = length bytes;
      enough = omega arith;
      rest = read;
      all = refl;
      front = [];
      stand = record { is = refl; exact = tt; read = refl };
      size = refl;
      low = tt;
    }

    -- all blocks lie below it
    pub ends : (offset : ℕ) → KeptTo shape streams id up_to bytes entries offset → offset ≤ length bytes → length bytes ≤ offset
        → IsKeptEnd shape streams id up_to bytes entries offset 0
    ends offset kept within end =
        let none = nothing_left bytes offset kept.others kept.most kept.enough kept.rest end in
        let same : entries ≡ kept.own = kept.all ∙ ap (λ (l : List LogEntry). kept.own ++ l) none ∙ append-nil kept.own in record {
          own = kept.own;
          blocks = (kept.front, kept.stand);
          within = within;
          rest = inl (refl, ap (below up_to) same ∙ all_below up_to kept.own kept.low);
        }

    module _ (behind : ReadBehind) (offset : ℕ) (kept : KeptTo shape streams id up_to bytes entries offset) (more : offset < length bytes) (head : BlockHead)
        (framed : frame_at shape (lsn_number id offset 0) (drop offset bytes) ≡ Ok head) where
      next : NextBlock shape streams id bytes offset kept.others kept.most
      next = next_block bytes offset kept.others kept.most kept.enough kept.rest more

      counted : (length next.here ≡ head.records) × (block_sectors (drop offset bytes) ≡ head.sectors)
      counted = next.has.heads head framed

      pub within : (1 ≤ head.sectors) × (offset + 512 * head.sectors ≤ length bytes)
      within = (omega (arith, counted.1, next.has.some_sectors), omega (arith, counted.1, next.has.long, length-drop offset bytes, more))

      -- the block lies below it
      pub goes_on : head.records ≤ up_to - lsn_number id offset 0 → KeptTo shape streams id up_to bytes entries (offset + 512 * head.sectors)
      goes_on low =
          let R : List ℕ = drop offset bytes in
          let n : ℕ = block_sectors R in
          let block : List ℕ = take (512 * n) R in
          let len : length block ≡ 512 * n = length-take-le (512 * n) R next.has.long in
          let said : block_sectors block ≡ n = sectors_in n R next.has.some_sectors in
          subst (λ (k : ℕ). KeptTo shape streams id up_to bytes entries (offset + 512 * k)) counted.1 (record {
            own = kept.own ++ next.here;
            others = next.more;
            most = next.fewer;
            enough = omega (arith, kept.enough, next.least, next.has.some_sectors);
            rest = next.rest;
            all = kept.all ∙ ap (λ (l : List LogEntry). kept.own ++ l) next.all ∙ sym (append_assoc kept.own next.here next.more);
            front = kept.front ++ block ∷ [];
            stand = subst (λ (l : List ℕ). StandIn shape streams id (kept.own ++ next.here) l (kept.front ++ block ∷ [])) (sym (take-add offset (512 * n) bytes))
                (one_more behind kept.own next.here (take offset bytes) block kept.front kept.stand (len ∙ ap (λ (k : ℕ). 512 * k) (sym said))
                (subst (λ (k : ℕ). block_records shape streams (lsn_number id k 0) block ≡ Ok next.here) (sym kept.size) next.block));
            size = total_both kept.front (block ∷ []) ∙ omega (arith, kept.size, len);
            low = below_both up_to kept.own next.here kept.low (row_below (lsn_number id offset 0) streams up_to next.here next.has.fit (omega (arith, low, counted.0, next.has.some)));
          })
        where
          sectors_in : (n : ℕ) (l : List ℕ) → 1 ≤ n → block_sectors (take (512 * n) l) ≡ block_sectors l
          sectors_in n l some =
              let a = get_or-take (512 * n) l 2 0 (omega (arith, some)) in
              let b = get_or-take (512 * n) l 3 0 (omega (arith, some)) in
              omega (arith, a, b)

      -- of the block so many records do
      pub stops : (records : ℕ) → records ≡ up_to - lsn_number id offset 0 → records < head.records → IsKeptEnd shape streams id up_to bytes entries offset records
      stops records is fewer = record {
        own = kept.own;
        blocks = (kept.front, kept.stand);
        within = omega (arith, more);
        rest = either records is fewer (both records is fewer);
      }
        where
          both : (records : ℕ) → records ≡ up_to - lsn_number id offset 0 → records < head.records → below up_to entries ≡ kept.own ++ take records next.here
          both records is fewer =
              let start : ℕ = lsn_number id offset 0 in
              let behind_it = stored_from (offset + 512 * block_sectors (drop offset bytes)) (blocks_of next.fewer (drop (offset + 512 * block_sectors (drop offset bytes)) bytes)) next.more next.rest in
              let none : below up_to next.more ≡ [] = none_below up_to (lsn_number id (offset + 512 * block_sectors (drop offset bytes)) 0) next.more
              (omega (arith, is, fewer, counted.0, next.has.few, next.has.some_sectors)) behind_it in
              ap (below up_to) (kept.all ∙ ap (λ (l : List LogEntry). kept.own ++ l) next.all)
              ∙ below-append up_to kept.own (next.here ++ next.more)
              ∙ ap (λ (l : List LogEntry). l ++ below up_to (next.here ++ next.more)) (all_below up_to kept.own kept.low)
              ∙ ap (λ (l : List LogEntry). kept.own ++ l) (below-append up_to next.here next.more
              ∙ ap (λ (l : List LogEntry). below up_to next.here ++ l) none ∙ append-nil (below up_to next.here)
              ∙ row_front start streams up_to next.here next.has.fit ∙ ap (λ (k : ℕ). take k next.here) (sym is))

          either : (records : ℕ) → records ≡ up_to - lsn_number id offset 0 → records < head.records → below up_to entries ≡ kept.own ++ take records next.here
              → ((records ≡ 0) × (below up_to entries ≡ kept.own))
              ⊎ ((following : List LogEntry) × (block_records shape streams (lsn_number id offset 0) (drop offset bytes) ≡ Ok following) × (1 ≤ records)
              × (records ≤ length following) × (below up_to entries ≡ kept.own ++ take records following))
          either zero is fewer same = inl (refl, same ∙ append-nil kept.own)
          either (suc k) is fewer same = inr (next.here, next.read, omega arith, omega (arith, fewer, counted.0), same)

    -- a block that is refused is none of these
    pub no_refusal : (offset : ℕ) → KeptTo shape streams id up_to bytes entries offset → offset < length bytes → (refusal : BlockRefusal)
        → frame_at shape (lsn_number id offset 0) (drop offset bytes) ≡ Err refusal → ⊥
    no_refusal offset kept more refusal is =
        let next = next_block bytes offset kept.others kept.most kept.enough kept.rest more in
        let refused = block_refused shape streams (lsn_number id offset 0) (drop offset bytes) refusal is in
        absurd (cc (next.read, refused))
