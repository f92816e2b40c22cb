-- The open blocks while blocks are written after them.
use Rattle.std.proofs.Common.{◌≡◌, ◌≢◌, ◌⊎◌, inl, inr, ⊎_elim, ℕ, zero, suc, ◌+◌, ◌-◌, ◌*◌, ◌<◌, ◌≤◌, List, [], ◌∷◌, ◌++◌, length, get_or, take, drop}
use Rattle.std.proofs.Common.{refl, sym, ◌∙◌, ap, subst, arith, length-drop}
use Rattle.std.proofs.lemmas.List.{length-take, length-take-le, get_or-take, get_or-drop, ext_get_or, drop-drop}
use Rattle.std.specs.Prelude.{Result, Ok, Err, OnOk}
use Rattle.std.proofs.lemmas.Bool.{cases_eq}
use Rattle.clfs_disk.specs.Files.{Files, TornIn, WrittenIn}
use Rattle.clfs_disk.specs.Overwriting.{StandsInPlace}
use Rattle.clfs_container.specs.OpenBlocks.{block_sectors, BeginsWith, Opens, Ends, EndsCleanly, total, AreOpen, AreWhole}
use Rattle.clfs_container.specs.Writing.{IsBehind, HasBlocks, HasBody, IsGroup, OthersStay}

pub on_ok_both : {T E P Q R : Type 0} (r : Result T E) → (P → Q → R) → OnOk r P → OnOk r Q → OnOk r R
on_ok_both (Ok x) f p q = f p q
on_ok_both (Err e) f p q = tt

-- fronts of two lists that agree there
front_same : (a b : List ℕ) (n : ℕ) → n ≤ length a → n ≤ length b → ((i : ℕ) → i < n → get_or a i 0 ≡ get_or b i 0) → take n a ≡ take n b
front_same a b n la lb each = ext_get_or 0 (take n a) (take n b)
    (omega (arith, length-take n a, length-take n b, la, lb))
    (λ i lt.
    let near : i < n = omega (arith, lt, length-take n a) in
    get_or-take n a i 0 near ∙ each i near ∙ sym (get_or-take n b i 0 near))

-- the first block, where bytes agree as far as it goes
begins_same : (left : ℕ) (bytes image block : List ℕ) → length block ≤ length image → ((i : ℕ) → i < length block → get_or image i 0 ≡ get_or bytes i 0)
    → BeginsWith left bytes block → (block_sectors image ≡ block_sectors bytes) × BeginsWith left image block × (length block ≡ 512 * block_sectors bytes)
begins_same left bytes image block long each first =
    let size : length block ≡ 512 * block_sectors bytes = ap length first.is ∙ length-take-le (512 * block_sectors bytes) bytes first.whole in
    let two : get_or image 2 0 ≡ get_or bytes 2 0 = each 2 (omega (arith, size, first.some)) in
    let three : get_or image 3 0 ≡ get_or bytes 3 0 = each 3 (omega (arith, size, first.some)) in
    let same : block_sectors image ≡ block_sectors bytes = omega (arith, two, three) in (
      same,
      record {
        gate = each 0 (omega (arith, size, first.some)) ∙ first.gate;
        some = omega (arith, same, first.some);
        fits = omega (arith, same, first.fits);
        whole = omega (arith, same, size, long);
        is = first.is ∙ sym (front_same image bytes (512 * block_sectors bytes) (omega (arith, size, long)) first.whole
            (λ i lt. each i (omega (arith, lt, size)))) ∙ ap (λ (n : ℕ). take (512 * n) image) (sym same);
      },
      size,
    )

-- bytes that agree as far as the open blocks go have the same open blocks
pub opens_same : (left : ℕ) (bytes image : List ℕ) (blocks : List (List ℕ)) (rest : ℕ) → total blocks ≤ length image
    → ((i : ℕ) → i < total blocks → get_or image i 0 ≡ get_or bytes i 0)
    → Opens left bytes blocks rest → Opens left image blocks rest
opens_same left bytes image [] rest long each opens = opens
opens_same left bytes image (block ∷ blocks) rest long each opens =
    let first = begins_same left bytes image block (omega (arith, long)) (λ i lt. each i (omega (arith, lt))) opens.0 in
    let n = block_sectors bytes in
    let behind : Opens (left - n) (drop (512 * n) image) blocks rest = opens_same (left - n) (drop (512 * n) bytes) (drop (512 * n) image) blocks rest
    (omega (arith, long, first.2, length-drop (512 * n) image))
    (λ i lt. get_or-drop (512 * n) image i 0 ∙ each (512 * n + i) (omega (arith, lt, first.2)) ∙ sym (get_or-drop (512 * n) bytes i 0))
    opens.1 in
    (first.1, subst (λ (m : ℕ). Opens (left - m) (drop (512 * m) image) blocks rest) (sym first.0) behind)

-- the open blocks lie within the bytes
pub opens_within : (left : ℕ) (bytes : List ℕ) (blocks : List (List ℕ)) (rest : ℕ) → Opens left bytes blocks rest → total blocks ≤ length bytes
opens_within left bytes [] rest opens = omega arith
opens_within left bytes (block ∷ blocks) rest opens =
    let n = block_sectors bytes in
    let size : length block ≡ 512 * n = ap length opens.0.is ∙ length-take-le (512 * n) bytes opens.0.whole in
    omega (arith, size, opens.0.whole, opens_within (left - n) (drop (512 * n) bytes) blocks rest opens.1, length-drop (512 * n) bytes)

-- more of them after them
pub opens_append : (left : ℕ) (bytes : List ℕ) (blocks more : List (List ℕ)) (rest last : ℕ) → Opens left bytes blocks rest
    → Opens rest (drop (total blocks) bytes) more last → Opens left bytes (blocks ++ more) last
opens_append left bytes [] more rest last opens behind = subst (λ (k : ℕ). Opens k bytes more last) (sym opens) behind
opens_append left bytes (b ∷ blocks) more rest last opens behind =
    let n = block_sectors bytes in
    let size : length b ≡ 512 * n = ap length opens.0.is ∙ length-take-le (512 * n) bytes opens.0.whole in
    let split : drop (total (b ∷ blocks)) bytes ≡ drop (total blocks) (drop (512 * n) bytes) =
    ap (λ (k : ℕ). drop (k + total blocks) bytes) size ∙ sym (drop-drop (total blocks) (512 * n) bytes) in
    (opens.0, opens_append (left - n) (drop (512 * n) bytes) blocks more rest last opens.1 (subst (λ (l : List ℕ). Opens rest l more last) split behind))

total-append : (blocks more : List (List ℕ)) → total (blocks ++ more) ≡ total blocks + total more
total-append [] more = omega arith
total-append (b ∷ blocks) more = omega (arith, total-append blocks more)

gate_at : (bytes : List ℕ) (at : ℕ) → get_or (drop at bytes) 0 0 ≡ get_or bytes at 0
gate_at bytes at = get_or-drop at bytes 0 0 ∙ ap (λ (k : ℕ). get_or bytes k 0) (omega arith)

-- a byte of the body after a gate
body_byte : (file at : ℕ) (body : List ℕ) (files : Files) → HasBody file at body files → (i : ℕ) → at + 1 ≤ i → i < at + 1 + length body
    → get_or (files file) i 0 ≡ get_or body (i - (at + 1)) 0
body_byte file at body files has i from until =
    let near : i - (at + 1) < length body = omega (arith, from, until) in
    let place : at + 1 + (i - (at + 1)) ≡ i = omega (arith, from) in
    sym (ap (λ (l : List ℕ). get_or l (i - (at + 1)) 0) (sym has.is) ∙ get_or-take (length body) (drop (at + 1) (files file)) (i - (at + 1)) 0 near
    ∙ get_or-drop (at + 1) (files file) (i - (at + 1)) 0 ∙ ap (λ (k : ℕ). get_or (files file) k 0) place)

-- bytes that were written after a gate
pub body_written : StandsInPlace → (file at : ℕ) (body : List ℕ) (old new : Files) → at + 1 + length body ≤ length (old file) → WrittenIn file (at + 1) body old new
    → HasBody file at body new
body_written stands file at body old new room written = record {
  whole = omega (arith, room, ap (λ (l : List ℕ). length l) written.here, stands.size (old file) (at + 1) body room);
  is = ap (λ (l : List ℕ). take (length body) (drop (at + 1) l)) written.here ∙ stands.part (old file) (at + 1) body room;
}

pub gate_kept : StandsInPlace → (file at : ℕ) (body : List ℕ) (old new : Files) → at + 1 + length body ≤ length (old file) → WrittenIn file (at + 1) body old new
    → get_or (new file) at 0 ≡ get_or (old file) at 0
gate_kept stands file at body old new room written =
    ap (λ (l : List ℕ). get_or l at 0) written.here ∙ stands.below (old file) (at + 1) body room at (omega arith)

module _ (sectors file : ℕ) (blocks : List (List ℕ)) (rest at : ℕ) (old : Files) (behind : IsBehind sectors file blocks rest at old) where
  within : at ≤ length (old file)
  within = omega (arith, behind.place, opens_within sectors (old file) blocks rest behind.opens)

  -- bytes that agree below the place, with a closed gate there
  still : (new : Files) → length (new file) ≡ length (old file) → ((i : ℕ) → i < at → get_or (new file) i 0 ≡ get_or (old file) i 0)
      → get_or (new file) at 0 ≢ 165 → IsBehind sectors file blocks rest at new
  still new long each closed = record {
    opens = opens_same sectors (old file) (new file) blocks rest (omega (arith, long, behind.place, within))
        (λ i lt. each i (omega (arith, lt, behind.place))) behind.opens;
    place = behind.place;
    there = omega (arith, behind.there, long);
    closed = closed;
  }

  -- the bytes after the closed gate are torn
  pub body_torn : (n : ℕ) (new : Files) → TornIn file (at + 1) n old new → IsBehind sectors file blocks rest at new × OthersStay file old new
  body_torn n new torn = (
    still new torn.here.same_length (λ i lt. torn.here.below i (omega (arith, lt))) (λ is. behind.closed (sym (torn.here.below at (omega arith)) ∙ is)),
    torn.elsewhere,
  )

  module _ (body : List ℕ) (more : List (List ℕ)) (left : ℕ) (has : HasBody file at body old) (group : IsGroup rest body more left) where
    -- the gate is open over the body
    opened : (new : Files) → length (new file) ≡ length (old file) → ((i : ℕ) → i < at → get_or (new file) i 0 ≡ get_or (old file) i 0)
        → get_or (new file) at 0 ≡ 165 → ((i : ℕ) → at + 1 ≤ i → get_or (new file) i 0 ≡ get_or (old file) i 0)
        → HasBlocks sectors file (blocks ++ more) left new
    opened new long below gate above = record {
      opens = opens_append sectors (new file) blocks more rest left front (subst (λ (k : ℕ). Opens rest (drop k (new file)) more left) (sym behind.place) back);
      shut = shut group.shut;
    }
      where
        tail_long : length (drop at (new file)) ≡ length (old file) - at
        tail_long = length-drop at (new file) ∙ ap (λ (k : ℕ). k - at) long

        spelled : (i : ℕ) → i < length body + 1 → get_or (drop at (new file)) i 0 ≡ get_or (165 ∷ body) i 0
        spelled zero lt = gate_at (new file) at ∙ gate
        spelled (suc i) lt =
            let place : at + suc i - (at + 1) ≡ i = omega arith in
            get_or-drop at (new file) (suc i) 0 ∙ above (at + suc i) (omega arith)
            ∙ body_byte file at body old has (at + suc i) (omega arith) (omega (arith, lt)) ∙ ap (λ (k : ℕ). get_or body k 0) place

        front : Opens sectors (new file) blocks rest
        front = opens_same sectors (old file) (new file) blocks rest (omega (arith, long, behind.place, within))
            (λ i lt. below i (omega (arith, lt, behind.place))) behind.opens

        back : Opens rest (drop at (new file)) more left
        back = opens_same rest (165 ∷ body) (drop at (new file)) more left (omega (arith, tail_long, has.whole, group.whole))
            (λ i lt. spelled i (omega (arith, lt, group.whole))) group.opens

        shut : (left ≡ 0) ⊎ ((total more ≤ length body) × (get_or (165 ∷ body) (total more) 0 ≢ 165))
            → (left ≡ 0) ⊎ ((total (blocks ++ more) < length (new file)) × (get_or (new file) (total (blocks ++ more)) 0 ≢ 165))
        shut (inl full) = inl full
        shut (inr closed) =
            let place : at + total more ≡ total (blocks ++ more) = omega (arith, total-append blocks more, behind.place) in
            inr (
              omega (arith, place, closed.0, has.whole, long),
              λ is. closed.1 (sym (spelled (total more) (omega (arith, closed.0))) ∙ get_or-drop at (new file) (total more) 0
                  ∙ ap (λ (k : ℕ). get_or (new file) k 0) place ∙ is),
            )

    -- the gate is torn over the whole body
    pub gate_torn : (new : Files) → TornIn file at 1 old new
        → (IsBehind sectors file blocks rest at new ⊎ HasBlocks sectors file (blocks ++ more) left new) × OthersStay file old new
    gate_torn new torn = (
      ⊎_elim
          (λ open_now. inr (opened new torn.here.same_length torn.here.below open_now (λ i from. torn.here.above i from)))
          (λ closed. inl (still new torn.here.same_length torn.here.below closed))
          (cases_eq (get_or (new file) at 0) 165),
      torn.elsewhere,
    )

    -- the gate is written
    pub gate_written : StandsInPlace → (new : Files) → at + 1 ≤ length (old file) → WrittenIn file at (165 ∷ []) old new
        → HasBlocks sectors file (blocks ++ more) left new × OthersStay file old new
    gate_written stands new room written =
        let long : length (new file) ≡ length (old file) = ap length written.here ∙ stands.size (old file) at (165 ∷ []) room in
        let none : at - at ≡ 0 = omega arith in (
          opened new long
              (λ i lt. ap (λ (l : List ℕ). get_or l i 0) written.here ∙ stands.below (old file) at (165 ∷ []) room i lt)
              (ap (λ (l : List ℕ). get_or l at 0) written.here ∙ stands.inside (old file) at (165 ∷ []) room at (omega arith) (omega arith)
              ∙ ap (λ (k : ℕ). get_or (165 ∷ []) k 0) none)
              (λ i from. ap (λ (l : List ℕ). get_or l i 0) written.here ∙ stands.above (old file) at (165 ∷ []) room i from),
          written.elsewhere,
        )

-- a closed first gate
pub none_open : StandsInPlace → (sectors file : ℕ) (old new : Files) → 1 ≤ length (old file) → WrittenIn file 0 (0 ∷ []) old new → HasBlocks sectors file [] sectors new
none_open stands sectors file old new room written =
    let gate : get_or (new file) 0 0 ≡ 0 =
    ap (λ (l : List ℕ). get_or l 0 0) written.here ∙ stands.inside (old file) 0 (0 ∷ []) room 0 (omega arith) (omega arith) in
    let size : length (new file) ≡ length (old file) = ap length written.here ∙ stands.size (old file) 0 (0 ∷ []) room in
    record { opens = refl; shut = inr (omega (arith, size, room), λ is. absurd (omega (arith, gate, is))) }

closed_ends : (left : ℕ) (bytes : List ℕ) (at : ℕ) → at < length bytes → get_or bytes at 0 ≢ 165 → EndsCleanly left (drop at bytes)
closed_ends left bytes at there closed = inr (omega (arith, length-drop at bytes, there), λ is. closed (sym (gate_at bytes at) ∙ is))

pub behind_are_whole : (sectors file : ℕ) (blocks : List (List ℕ)) (rest at : ℕ) (files : Files) → IsBehind sectors file blocks rest at files
    → AreWhole sectors (files file) blocks
behind_are_whole sectors file blocks rest at files behind = (
  rest,
  behind.opens,
  closed_ends rest (files file) (total blocks) (omega (arith, behind.there, behind.place))
      (subst (λ (k : ℕ). get_or (files file) k 0 ≢ 165) (sym behind.place) behind.closed),
)

pub written_are_whole : (sectors file : ℕ) (blocks : List (List ℕ)) (rest : ℕ) (files : Files) → HasBlocks sectors file blocks rest files
    → AreWhole sectors (files file) blocks
written_are_whole sectors file blocks rest files has = (rest, has.opens, ends has.shut)
  where
    ends : (rest ≡ 0) ⊎ ((total blocks < length (files file)) × (get_or (files file) (total blocks) 0 ≢ 165))
        → EndsCleanly rest (drop (total blocks) (files file))
    ends (inl full) = inl full
    ends (inr closed) = closed_ends rest (files file) (total blocks) closed.0 closed.1

clean_ends : (left : ℕ) (bytes : List ℕ) → EndsCleanly left bytes → Ends left bytes
clean_ends left bytes (inl full) = inl full
clean_ends left bytes (inr closed) = inr (inl closed.1)

pub whole_are_open : (sectors : ℕ) (bytes : List ℕ) (blocks : List (List ℕ)) → AreWhole sectors bytes blocks → AreOpen sectors bytes blocks
whole_are_open sectors bytes blocks whole = (whole.0, whole.1, clean_ends whole.0 (drop (total blocks) bytes) whole.2)

-- where nothing is, no gate is
pub none_whole : (sectors : ℕ) (blocks : List (List ℕ)) → 0 < sectors → AreWhole sectors [] blocks → ⊥
none_whole sectors [] some (rest, opens, inl full) = absurd (omega (arith, some, opens, full))
none_whole sectors [] some (rest, opens, inr closed) = absurd (omega (arith, closed.0))
none_whole sectors (block ∷ blocks) some (rest, opens, ends) = absurd (omega (arith, opens.0.some, opens.0.whole))

no_block : (left : ℕ) (bytes block : List ℕ) → Ends left bytes → BeginsWith left bytes block → ⊥
no_block left bytes block (inl none) b = absurd (omega (arith, none, b.some, b.fits))
no_block left bytes block (inr (inl shut)) b = shut b.gate
no_block left bytes block (inr (inr (inl none))) b = absurd (omega (arith, none, b.some))
no_block left bytes block (inr (inr (inr (inl past)))) b = absurd (omega (arith, past, b.fits))
no_block left bytes block (inr (inr (inr (inr short)))) b = absurd (omega (arith, short, b.whole))

behind_first : (left : ℕ) (bytes b : List ℕ) (bs : List (List ℕ)) (rest : ℕ) → BeginsWith left bytes b → Ends rest (drop (total (b ∷ bs)) bytes)
    → Ends rest (drop (total bs) (drop (512 * block_sectors bytes) bytes))
behind_first left bytes b bs rest begins ends =
    let n = block_sectors bytes in
    let size : length b ≡ 512 * n = ap length begins.is ∙ length-take-le (512 * n) bytes begins.whole in
    let split : drop (total (b ∷ bs)) bytes ≡ drop (total bs) (drop (512 * n) bytes) = ap (λ (k : ℕ). drop (k + total bs) bytes) size
    ∙ sym (drop-drop (total bs) (512 * n) bytes) in
    subst (λ (l : List ℕ). Ends rest l) split ends

-- bytes have one list of open blocks
pub one_reading : (left : ℕ) (bytes : List ℕ) (bs cs : List (List ℕ)) (rest last : ℕ) → Opens left bytes bs rest → Ends rest (drop (total bs) bytes)
    → Opens left bytes cs last → Ends last (drop (total cs) bytes) → bs ≡ cs
one_reading left bytes [] [] rest last p e q f = refl
one_reading left bytes [] (c ∷ cs) rest last p e q f = absurd (no_block left bytes c (subst (λ (k : ℕ). Ends k bytes) (sym p) e) q.0)
one_reading left bytes (b ∷ bs) [] rest last p e q f = absurd (no_block left bytes b (subst (λ (k : ℕ). Ends k bytes) (sym q) f) p.0)
one_reading left bytes (b ∷ bs) (c ∷ cs) rest last p e q f =
    let first : b ≡ c = p.0.is ∙ sym q.0.is in
    let others : bs ≡ cs = one_reading (left - block_sectors bytes) (drop (512 * block_sectors bytes) bytes) bs cs rest last p.1
    (behind_first left bytes b bs rest p.0 e) q.1 (behind_first left bytes c cs last q.0 f) in
    λ i. first i ∷ others i
