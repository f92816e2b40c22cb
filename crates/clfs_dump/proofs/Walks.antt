-- Going through the blocks of a container, and through the containers of a log: whatever is printed of the rest, all is printed with it.
use Rattle.clfs_dump.proofs.Words.{◌≡◌, ℕ, zero, suc, ◌+◌, ◌*◌, ◌<◌, ◌≤◌, cond, List, length, get_or, drop, Option, Some, None, Result, Ok, Err, refl, sym}
use Rattle.clfs_dump.proofs.Words.{◌∙◌, ap, subst, arith, lt-leb, le-leb, drop_all, Shape, Row, Files, Told, only, then_told, block_told, behind_block}
use Rattle.clfs_dump.proofs.Words.{blocks_told, container_told, listed_told, Prints, DumpRefusal, DiskFault, Selection}
use Rattle.std.proofs.lemmas.List.{drop_more}
use Rattle.clfs_dump.proofs.Written.{front_of_none}
use Rattle.clfs_dump.proofs.PrintedParts.{prints_first, prints_next, prints_only}

-- a told part, printed
abbrev pub PrintsTold : {T : Type 0} → Option (List ℕ) → Option (List ℕ) → Told T → Result T DumpRefusal → Type 0
PrintsTold a b told r = Prints a b told.text told.found r

-- ---- the blocks of a container

module _ (selection : Selection) (rows : List Row) (shape : Shape) (container : ℕ) (file : List ℕ) where
  abbrev pub from_here : ℕ → ℕ → Told ℕ
  from_here n offset = blocks_told selection rows shape container file n offset

  abbrev block_here : ℕ → Told (Option ℕ)
  block_here offset = block_told selection rows shape container offset (drop offset file)

  -- nothing is read where the last sector ends
  pub ended : (n offset : ℕ) → 512 * shape.container_sectors ≤ offset → from_here n offset ≡ only (Ok offset)
  ended zero offset far = refl
  ended (suc n) offset far =
      ap (λ b. cond b (only (Ok offset)) (then_told (block_here offset) (behind_block (λ behind. from_here n behind) offset)))
      (le-leb (512 * shape.container_sectors) offset far)

  -- and a block elsewhere
  pub begun : (n offset : ℕ) → offset < 512 * shape.container_sectors
      → from_here (suc n) offset ≡ then_told (block_here offset) (behind_block (λ behind. from_here n behind) offset)
  begun n offset near =
      ap (λ b. cond b (only (Ok offset)) (then_told (block_here offset) (behind_block (λ behind. from_here n behind) offset)))
      (lt-leb (512 * shape.container_sectors) offset near)

  -- At an offset with so much written: whatever is printed of the blocks from here on, all are printed with it.
  pub record IsThrough (before now : Option (List ℕ)) (offset : ℕ) : Type 0 where
    pub n : ℕ
    pub enough : 512 * shape.container_sectors ≤ 512 * n + offset
    pub on : (after : Option (List ℕ)) (r : Result ℕ DumpRefusal) → PrintsTold now after (from_here n offset) r
        → PrintsTold before after (from_here shape.container_sectors 0) r

  pub at_first : (now : Option (List ℕ)) → IsThrough now now 0
  at_first now = record { n = shape.container_sectors; enough = omega arith; on = λ after r printed. printed }

  module _ (before now : Option (List ℕ)) (offset : ℕ) (at : IsThrough before now offset) where
    -- no sector is left
    pub at_last : 512 * shape.container_sectors ≤ offset → PrintsTold before now (from_here shape.container_sectors 0) (Ok offset)
    at_last far = at.on now (Ok offset) (subst (λ (t : Told ℕ). PrintsTold now now t (Ok offset)) (sym (ended at.n offset far)) (prints_only now offset))

    -- the disk failed, or memory
    pub at_fault : PrintsTold before now (from_here shape.container_sectors 0) (Err DiskFault)
    at_fault = at.on now (Err DiskFault) (front_of_none now (from_here at.n offset).text)

    module _ (near : offset < 512 * shape.container_sectors) (new : Option (List ℕ)) where
      one_here : (n : ℕ) → 512 * shape.container_sectors ≤ 512 * n + offset → (k : ℕ) × (n ≡ suc k)
      one_here zero enough = absurd (omega (arith, enough, near))
      one_here (suc k) enough = (k, refl)

      here_is : let one = one_here at.n at.enough in
          from_here at.n offset ≡ then_told (block_here offset) (behind_block (λ behind. from_here one.0 behind) offset)
      here_is =
          let one = one_here at.n at.enough in
          ap (λ (k : ℕ). from_here k offset) one.1 ∙ begun one.0 offset near

      -- the block here is refused
      pub at_refused : (e : DumpRefusal) → PrintsTold {T = Option ℕ} now new (block_here offset) (Err e)
          → PrintsTold before new (from_here shape.container_sectors 0) (Err e)
      at_refused e printed =
          let one = one_here at.n at.enough in
          at.on new (Err e) (subst (λ (t : Told ℕ). PrintsTold now new t (Err e)) (sym here_is)
          (prints_first now new (block_here offset) (behind_block (λ behind. from_here one.0 behind) offset) e printed))

      -- its gate is closed
      pub at_closed : PrintsTold now new (block_here offset) (Ok None) → PrintsTold before new (from_here shape.container_sectors 0) (Ok offset)
      at_closed printed =
          let one = one_here at.n at.enough in
          at.on new (Ok offset) (subst (λ (t : Told ℕ). PrintsTold now new t (Ok offset)) (sym here_is)
          (prints_next now new (block_here offset) (behind_block (λ behind. from_here one.0 behind) offset) None new (Ok offset) printed
          (prints_only new offset)))

      -- it is after, with its sectors
      pub at_next : (sectors : ℕ) → 1 ≤ sectors → PrintsTold now new (block_here offset) (Ok (Some sectors))
          → IsThrough before new (offset + 512 * sectors)
      at_next sectors some printed =
          let one = one_here at.n at.enough in record {
            n = one.0;
            enough = omega (arith, at.enough, one.1, some);
            on = λ after r rest. at.on after r (subst (λ (t : Told ℕ). PrintsTold now after t r) (sym here_is)
                (prints_next now new (block_here offset) (behind_block (λ behind. from_here one.0 behind) offset) (Some sectors) after r printed rest));
          }

-- ---- the containers of a log

module _ (selection : Selection) (rows : List Row) (shape : Shape) (files : Files) (first : ℕ) (numbers : List ℕ) where
  -- The same of the containers from one of these on, where that before it ended at an offset.
  pub record IsThroughListed (before now : Option (List ℕ)) (i end : ℕ) : Type 0 where
    pub on : (after : Option (List ℕ)) (r : Result ℕ DumpRefusal)
        → PrintsTold now after (listed_told selection rows shape files (first + i) end (drop i numbers)) r
        → PrintsTold before after (listed_told selection rows shape files first 0 numbers) r

  pub listed_first : (now : Option (List ℕ)) → IsThroughListed now now 0 0
  listed_first now =
      let zero_more : first + 0 ≡ first = omega arith in record {
        on = λ after r printed. subst (λ (k : ℕ). PrintsTold now after (listed_told selection rows shape files k 0 numbers) r) zero_more printed;
      }

  module _ (before now : Option (List ℕ)) (i end : ℕ) (at : IsThroughListed before now i end) where
    pub listed_last : length numbers ≤ i → PrintsTold before now (listed_told selection rows shape files first 0 numbers) (Ok end)
    listed_last far = at.on now (Ok end)
        (subst (λ (l : List ℕ). PrintsTold now now (listed_told selection rows shape files (first + i) end l) (Ok end)) (sym (drop_all i numbers far))
        (prints_only now end))

    module _ (near : i < length numbers) (new : Option (List ℕ)) where
      abbrev here : Told ℕ
      here = container_told selection rows shape files (first + i) (get_or numbers i 0)

      abbrev behind : ℕ → Told ℕ
      behind stop = listed_told selection rows shape files (first + i + 1) stop (drop (i + 1) numbers)

      here_are : listed_told selection rows shape files (first + i) end (drop i numbers) ≡ then_told here behind
      here_are = ap (λ (l : List ℕ). listed_told selection rows shape files (first + i) end l) (drop_more numbers i 0 near)

      pub listed_refused : (e : DumpRefusal) → PrintsTold {T = ℕ} now new here (Err e)
          → PrintsTold before new (listed_told selection rows shape files first 0 numbers) (Err e)
      listed_refused e printed = at.on new (Err e) (subst (λ (t : Told ℕ). PrintsTold now new t (Err e)) (sym here_are) (prints_first now new here behind e printed))

      pub listed_next : (stop : ℕ) → PrintsTold now new here (Ok stop) → IsThroughListed before new (i + 1) stop
      listed_next stop printed =
          let next : first + i + 1 ≡ first + (i + 1) = omega arith in record {
            on = λ after r rest. at.on after r (subst (λ (t : Told ℕ). PrintsTold now after t r) (sym here_are)
                (prints_next now new here behind stop after r printed
                (subst (λ (k : ℕ). PrintsTold new after (listed_told selection rows shape files k stop (drop (i + 1) numbers)) r) (sym next) rest)));
          }
