-- Planned calls that are carried out on another disk.
use Rattle.std.proofs.Common.{◌≡◌, ◌≢◌, ◌⊎◌, inl, inr, ⊎_elim, ℕ, suc, ◌+◌, ◌<◌, ◌≤◌, eqb, cond, List, [], ◌∷◌, ◌++◌, length, take, refl, sym, ◌∙◌, ap, subst, arith}
use Rattle.std.specs.Prelude.{Some, slice_get}
use Rattle.std.proofs.Math.Seq.{take-suc}
use Rattle.std.proofs.lemmas.Option.{slice_get_within, get_or_from_slice_get}
use Rattle.std.proofs.lemmas.Bool.{cases_eq, cases_lt}
use Rattle.clfs_disk.specs.Files.{Files, Unchanged, TornIn, GrownIn, lengthened}
use Rattle.clfs_disk.specs.State.{DiskState, Nature, IsHonest, IsSettled, MayLeave, Passes}
use Rattle.clfs_planned.specs.declared.call.Call.{Call}
use Rattle.clfs_planned.specs.declared.call.Call.TheVariants.{Write, Grow, Sync}
use Rattle.clfs_planned.specs.Moments.{Moment, put, at_rest, after, moment_after}
use Rattle.clfs_planned.specs.Putting.{here, apart_is, put_is}
use Rattle.clfs_planned.specs.Carrying.{Does, Tries, CarriesOut}
use Rattle.clfs_planned.proofs.Passing.{same_files, torn_none, grown_unchanged, unchanged}

-- files that are told and files that are there, after a change in one of them
pub read_after : (change : List ℕ → List ℕ) (files : Files) (file : ℕ) (old new : Files) → Unchanged files old → new file ≡ change (old file)
    → ((other : ℕ) → other ≢ file → new other ≡ old other) → Unchanged (λ f. cond (eqb f file) (change (files f)) (files f)) new
read_after change files file old new each changed others f = ⊎_elim
    (λ (is : f ≡ file). subst (λ (k : ℕ). new k ≡ cond (eqb k file) (change (files k)) (files k)) (sym is)
    (changed ∙ ap change (each file) ∙ sym (ap (λ b. cond b (change (files file)) (files file)) (here file))))
    (λ apart. others f apart ∙ each f ∙ sym (ap (λ b. cond b (change (files f)) (files f)) (apart_is f file apart)))
    (cases_eq f file)

-- a disk that keeps what it synced, and whose files and images are those that are told
pub record Agrees (m : Moment) (disk : DiskState) : Type 0 where
  pub honest : IsHonest disk
  pub files : Unchanged m.files disk.files
  pub images : (image : Files) → MayLeave disk image → m.left image

-- an image from a moment of a call on, and what it was before
from_before : (change : Files → Files → Type 0) (old new : DiskState) (P : Files → Type 0) → ((image : Files) → change image image)
    → Passes change old new → ((image : Files) → MayLeave old image → P image)
    → (moment : ℕ) (image : Files) → old.clock ≤ moment → moment ≤ new.clock → new.image_at moment image → (before : Files) × P before × change before image
from_before change old new P same passes each moment image from until at = ⊎_elim
    (λ (later : old.clock < moment). let found = passes.images moment image later until at in (found.0, each found.0 found.1, found.2))
    (λ (le : moment ≤ old.clock).
    let is : moment ≡ old.clock = omega (arith, from, le) in
    (image, each image (subst (λ (n : ℕ). old.image_at n image) is (passes.past moment image le at)), same image))
    (cases_lt old.clock moment)

honest_after : (change : Files → Files → Type 0) (old new : DiskState) → Passes change old new → IsHonest old → IsHonest new
honest_after change old new passes honest = subst (λ (n : Nature). IsHonest (record new { nature = n })) (sym passes.nature) honest

grown_none : (file len : ℕ) (d : Files) → GrownIn file len d d
grown_none file len d = grown_unchanged file len d d (unchanged d)

-- one call that was done
agrees_after : (call : Call) (m : Moment) (old new : DiskState) → Agrees m old → Does call old new → Agrees (after call m) new
agrees_after (Write file at bytes) m old new a does =
    let told = does.written a.honest.0 in
    record {
      honest = honest_after (TornIn file at (length bytes)) old new does.time a.honest;
      files = read_after (put at bytes) m.files file old.files new.files a.files (told.1.here ∙ sym (put_is at bytes (old.files file) told.0)) told.1.elsewhere;
      images = λ image at_new. from_before (TornIn file at (length bytes)) old new m.left (torn_none file at (length bytes)) does.time a.images
          new.clock image does.time.later (omega arith) at_new;
    }
agrees_after (Grow file len) m old new a does =
    let grown = does.grown a.honest.0 in
    record {
      honest = honest_after (GrownIn file len) old new does.time a.honest;
      files = read_after (λ (l : List ℕ). lengthened l len) m.files file old.files new.files a.files grown.here grown.elsewhere;
      images = λ image at_new. from_before (GrownIn file len) old new m.left (grown_none file len) does.time a.images
          new.clock image does.time.later (omega arith) at_new;
    }
agrees_after Sync m old new a does =
    let read : Unchanged m.files new.files = λ file. does.same file ∙ a.files file in
    record {
      honest = honest_after Unchanged old new does.time a.honest;
      files = read;
      images = λ image at_new. λ file. (does.settled a.honest).only image at_new file ∙ read file;
    }

-- one call, whatever it answered
left_meanwhile : (call : Call) (m : Moment) (old new : DiskState) → Agrees m old → Tries call old new → (moment : ℕ) (image : Files) → old.clock ≤ moment
    → moment ≤ new.clock → new.image_at moment image → m.left image ⊎ (after call m).left image
left_meanwhile (Write file at bytes) m old new a tries moment image from until at_new =
    inr (from_before (TornIn file at (length bytes)) old new m.left (torn_none file at (length bytes)) tries.1.time a.images moment image from until at_new)
left_meanwhile (Grow file len) m old new a tries moment image from until at_new =
    inr (from_before (GrownIn file len) old new m.left (grown_none file len) tries.1.time a.images moment image from until at_new)
left_meanwhile Sync m old new a tries moment image from until at_new =
    let found = from_before Unchanged old new m.left unchanged tries.1.time a.images moment image from until at_new in
    inl (subst m.left (sym (same_files found.0 image found.2)) found.1)

module _ {D : Type 0} (state : D → DiskState) where
  -- calls that were done
  pub agrees_all : (calls : List Call) (m : Moment) (a b : D) → Agrees m (state a) → CarriesOut state calls a b → Agrees (moment_after m calls) (state b)
  agrees_all [] m a b agrees is = subst (λ (d : D). Agrees m (state d)) (sym is) agrees
  agrees_all (call ∷ calls) m a c agrees carried = agrees_all calls (after call m) carried.0 c
      (agrees_after call m (state a) (state carried.0) agrees carried.1) carried.2

  pub agrees_first : (start : Files) (a : D) → IsSettled (state a) → Unchanged start (state a).files → Agrees (at_rest start) (state a)
  agrees_first start a settled same = record {
    honest = settled.honest;
    files = same;
    images = λ image at. λ file. settled.only image at file ∙ same file;
  }

  pub meanwhile : (call : Call) (m : Moment) (b c : D) → Agrees m (state b) → Tries call (state b) (state c) → (moment : ℕ) (image : Files)
      → (state b).clock ≤ moment → moment ≤ (state c).clock → (state c).image_at moment image → m.left image ⊎ (after call m).left image
  meanwhile call m b c = left_meanwhile call m (state b) (state c)

  -- where the first call is a sync nothing has to be known of what a crash left before it
  pub agrees_opened : (rest : List Call) (start : Files) (a b : D) → IsHonest (state a) → Unchanged start (state a).files
      → CarriesOut state (Sync ∷ rest) a b → Agrees (moment_after (at_rest start) (Sync ∷ rest)) (state b)
  agrees_opened rest start a c honest same carried =
      let b = carried.0 in
      let read : Unchanged start (state b).files = λ file. carried.1.same file ∙ same file in
      agrees_all rest (at_rest start) b c (record {
        honest = honest_after Unchanged (state a) (state b) carried.1.time honest;
        files = read;
        images = λ image at_new. λ file. (carried.1.settled honest).only image at_new file ∙ read file;
      }) carried.2

-- the moment after one call more
pub moment_push : (m : Moment) (calls : List Call) (call : Call) → moment_after m (calls ++ call ∷ []) ≡ after call (moment_after m calls)
moment_push m [] call = refl
moment_push m (c ∷ calls) call = moment_push (after c m) calls call

pub take_next : (calls : List Call) (m : ℕ) (call : Call) → slice_get calls m ≡ Some call → take (m + 1) calls ≡ take m calls ++ call ∷ []
take_next calls m call is =
    let within = slice_get_within calls m call is in
    let next : m + 1 ≡ suc m = omega arith in
    ap (λ (n : ℕ). take n calls) next ∙ take-suc calls m call within
    ∙ ap (λ (c : Call). take m calls ++ c ∷ []) (get_or_from_slice_get calls m call call is)
