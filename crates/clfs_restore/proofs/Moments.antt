-- What a crash leaves of restoring, call by call.
use Rattle.clfs_restore.proofs.Words.{inl, inr, ⊎_elim, ◌≡◌, ◌⊎◌, ℕ, zero, suc, ◌<◌, ◌≤◌, eqb, List, length, get_or, refl, sym, ◌∙◌, ap, subst, arith, IsTrue}
use Rattle.clfs_restore.proofs.Words.{cases_lt, Files, Unchanged, GrownIn, DiskState, Nature, TellsContents, IsSteady, IsSettled, Passes, Leaves, Rises}
use Rattle.clfs_restore.proofs.Words.{is_open_slot, HasNoCopy, BaseStays, base_bytes, GrowsBase, ComesAtOnce}
use Rattle.clfs_disk.specs.Files.{Grown, TornIn}
use Rattle.clfs_disk.specs.State.{IsHonest, MayLeave, Later}
use Rattle.clfs_format.specs.Making.{KnowsLengths}

abbrev pub Change : Type 1
Change = Files → Files → Type 0

-- ---- calls one after another

pub passes_weaker : (R S : Change) (a b : DiskState) → ((x y : Files) → R x y → S x y) → Passes R a b → Passes S a b
passes_weaker R S a b weaker p = record {
  later = p.later;
  past = p.past;
  kept = p.kept;
  images = λ moment image after until at. let from = p.images moment image after until at in (from.0, from.1, weaker from.0 image from.2);
  faults = p.faults;
  nature = p.nature;
}

pub passes_then : (R S T : Change) (a b c : DiskState) → ((x y z : Files) → R x y → S y z → T x z) → ((x y : Files) → R x y → T x y)
    → ((x y : Files) → S x y → T x y) → Passes R a b → Passes S b c → Passes T a c
passes_then R S T a b c both first second p q = record {
  later = omega (arith, p.later, q.later);
  past = λ moment image le at. p.past moment image le (q.past moment image (omega (arith, p.later, le)) at);
  kept = λ moment image le at. q.kept moment image (omega (arith, p.later, le)) (p.kept moment image le at);
  images = λ moment image after until at. ⊎_elim
      (λ (late : b.clock < moment). from_old image (q.images moment image late until at))
      (λ (early : moment ≤ b.clock).
      let from = p.images moment image after early (q.past moment image early at) in (from.0, from.1, first from.0 image from.2))
      (cases_lt b.clock moment);
  faults = omega (arith, p.faults, q.faults);
  nature = q.nature ∙ p.nature;
}
  where
    from_old : (image : Files) → (before : Files) × b.image_at b.clock before × S before image → (before : Files) × a.image_at a.clock before × T before image
    from_old image from = ⊎_elim
        (λ (moved : a.clock < b.clock).
        let older = p.images b.clock from.0 moved (omega arith) from.1 in (older.0, older.1, both older.0 from.0 image older.2 from.2))
        (λ (still : b.clock ≤ a.clock).
        let same : b.clock ≡ a.clock = omega (arith, still, p.later) in
        (from.0, p.past a.clock from.0 (omega arith) (subst (λ (n : ℕ). b.image_at n from.0) same from.1), second from.0 image from.2))
        (cases_lt a.clock b.clock)

pub later_from : (R : Change) (a b : DiskState) → Passes R a b → Later a b
later_from R a b p = passes_weaker R (λ x y. Unit {0}) a b (λ x y r. tt) p

pub later_then : (a b c : DiskState) → Later a b → Later b c → Later a c
later_then a b c p q = passes_then (λ x y. Unit {0}) (λ x y. Unit {0}) (λ x y. Unit {0}) a b c (λ x y z r s. tt) (λ x y r. tt) (λ x y r. tt) p q

pub leaves_then : (P : Files → Type 0) (a b c : DiskState) → Leaves P a b → Leaves P b c → Leaves P a c
leaves_then P a b c p q = record {
  later = omega (arith, p.later, q.later);
  past = λ moment image le at. p.past moment image le (q.past moment image (omega (arith, p.later, le)) at);
  each = λ moment image from until at. ⊎_elim
      (λ (late : b.clock < moment). q.each moment image (omega (arith, late)) until at)
      (λ (early : moment ≤ b.clock). p.each moment image from early (q.past moment image early at))
      (cases_lt b.clock moment);
}

pub leaves_weaker : (P Q : Files → Type 0) (a b : DiskState) → ((image : Files) → P image → Q image) → Leaves P a b → Leaves Q a b
leaves_weaker P Q a b weaker p = record {
  later = p.later;
  past = p.past;
  each = λ moment image from until at. weaker image (p.each moment image from until at);
}

-- ---- the base file stays

pub base_same : (x y : Files) → Unchanged x y → BaseStays x y
base_same x y same = same 0

pub base_both : (x y z : Files) → BaseStays x y → BaseStays y z → BaseStays x z
base_both x y z first next = next ∙ first

pub base_then : (a b c : DiskState) → Passes BaseStays a b → Passes BaseStays b c → Passes BaseStays a c
base_then a b c p q = passes_then BaseStays BaseStays BaseStays a b c base_both (λ x y r. r) (λ x y r. r) p q

pub base_grown : (file len : ℕ) (x y : Files) → 1 ≤ file → GrownIn file len x y → BaseStays x y
base_grown file len x y some grown = grown.elsewhere 0 (λ is. omega (arith, is, some))

pub base_torn : (file at count : ℕ) (x y : Files) → 1 ≤ file → TornIn file at count x y → BaseStays x y
base_torn file at count x y some torn = torn.elsewhere 0 (λ is. omega (arith, is, some))

-- ---- the base file grows

pub grown_still : (x y : Files) → Unchanged x y → GrownIn 0 base_bytes x y
grown_still x y same = record {
  here = record {
    no_shorter = omega (arith, ap length (same 0));
    no_longer = omega (arith, ap length (same 0));
    below = λ i lt. ap (λ (l : List ℕ). get_or l i 0) (same 0);
  };
  elsewhere = λ other apart. same other;
}

pub grown_then : (x y z : Files) → GrownIn 0 base_bytes x y → Unchanged y z → GrownIn 0 base_bytes x z
grown_then x y z grown same = record {
  here = subst (Grown base_bytes (x 0)) (sym (same 0)) grown.here;
  elsewhere = λ other apart. same other ∙ grown.elsewhere other apart;
}

pub then_grown : (x y z : Files) → Unchanged x y → GrownIn 0 base_bytes y z → GrownIn 0 base_bytes x z
then_grown x y z same grown = record {
  here = subst (λ (l : List ℕ). Grown base_bytes l (z 0)) (same 0) grown.here;
  elsewhere = λ other apart. grown.elsewhere other apart ∙ same other;
}

pub no_copy_same : (x y : Files) → BaseStays x y → HasNoCopy x → HasNoCopy y
no_copy_same x y same none slot few = ap (λ (l : List ℕ). is_open_slot l slot) same ∙ none slot few

-- a base file that is at full length stays as it was
pub no_copy_long : (x y : Files) → GrownIn 0 base_bytes x y → base_bytes ≤ length (x 0) → HasNoCopy x → HasNoCopy y
no_copy_long x y grown long none zero few = ap (λ (n : ℕ). eqb n 165) (grown.here.below 0 (omega (arith, long))) ∙ none 0 (omega arith)
no_copy_long x y grown long none (suc zero) few = ap (λ (n : ℕ). eqb n 165) (grown.here.below 16384 (omega (arith, long))) ∙ none 1 (omega arith)
no_copy_long x y grown long none (suc (suc n)) few = absurd (omega (arith, few))

-- ---- where nothing was pending

-- what a crash leaves at a moment of a change
left_at : (R : Change) (a b : DiskState) → IsSettled a → Passes R a b → (P : Files → Type 0) → ((image : Files) → Unchanged a.files image → P image)
    → ((before image : Files) → Unchanged a.files before → R before image → P image)
    → (moment : ℕ) (image : Files) → a.clock ≤ moment → moment ≤ b.clock → b.image_at moment image → P image
left_at R a b settled p P now then moment image from until at = ⊎_elim
    (λ (after : a.clock < moment).
    let x = p.images moment image after until at in then x.0 image (settled.only x.0 x.1) x.2)
    (λ (here : moment ≤ a.clock).
    let same : moment ≡ a.clock = omega (arith, here, from) in
    now image (settled.only image (p.past a.clock image (omega arith) (subst (λ (n : ℕ). b.image_at n image) same at))))
    (cases_lt a.clock moment)

pub still_settled : (a b : DiskState) → IsSettled a → IsHonest b → Passes Unchanged a b → Unchanged a.files b.files → IsSettled b
still_settled a b settled honest p same = record {
  honest = honest;
  only = λ image at file.
      left_at Unchanged a b settled p (Unchanged a.files) (λ image is. is) (λ before image is change other. change other ∙ is other) b.clock image p.later (omega arith) at file
      ∙ sym (same file);
}

pub no_copy_left : (a b : DiskState) → IsSettled a → HasNoCopy a.files → Passes BaseStays a b → Leaves HasNoCopy a b
no_copy_left a b settled none p = record {
  later = p.later;
  past = p.past;
  each = left_at BaseStays a b settled p HasNoCopy (λ image is. no_copy_same a.files image (is 0) none)
      (λ before image is change. no_copy_same before image change (no_copy_same a.files before (is 0) none));
}

pub no_copy_grown : (a b : DiskState) → IsSettled a → HasNoCopy a.files → base_bytes ≤ length (a.files 0) → GrowsBase a b → Leaves HasNoCopy a b
no_copy_grown a b settled none long p = record {
  later = p.later;
  past = p.past;
  each = left_at (GrownIn 0 base_bytes) a b settled p HasNoCopy (λ image is. no_copy_same a.files image (is 0) none)
      (λ before image is change. no_copy_long before image change (omega (arith, long, ap length (is 0))) (no_copy_same a.files before (is 0) none));
}

-- ---- a log comes to be there at once

abbrev pub Never : Files → Type 0
Never files = ⊥

pub none_or : (P : Files → Type 0) (image : Files) → HasNoCopy image → HasNoCopy image ⊎ P image
none_or P image none = inl none

pub once_begins : (P : Files → Type 0) (old mid new : DiskState) → GrowsBase old mid → IsSettled mid → HasNoCopy mid.files
    → Leaves (λ image. HasNoCopy image ⊎ P image) mid new → ComesAtOnce P old new
once_begins P old mid new grows settled none leaves = record {
  since = mid.clock;
  begun = grows.later;
  ended = leaves.later;
  before = λ moment image after until at. grows.images moment image after until (leaves.past moment image until at);
  none = λ image at. no_copy_same mid.files image (settled.only image (leaves.past mid.clock image (omega arith) at) 0) none;
  later = λ moment image from until at. leaves.each moment image from until at;
}

pub once_then : (P : Files → Type 0) (old mid new : DiskState) → ComesAtOnce Never old mid → Leaves (λ image. HasNoCopy image ⊎ P image) mid new
    → ComesAtOnce P old new
once_then P old mid new once leaves = record {
  since = once.since;
  begun = once.begun;
  ended = omega (arith, once.ended, leaves.later);
  before = λ moment image after until at. once.before moment image after until (leaves.past moment image (omega (arith, until, once.ended)) at);
  none = λ image at. once.none image (leaves.past once.since image once.ended at);
  later = λ moment image from until at. ⊎_elim
      (λ (late : mid.clock < moment). leaves.each moment image (omega (arith, late)) until at)
      (λ (early : moment ≤ mid.clock). ⊎_elim (λ (none : HasNoCopy image). inl none) (λ (never : ⊥). absurd never)
      (once.later moment image from early (leaves.past moment image early at)))
      (cases_lt mid.clock moment);
}

pub once_weaker : (P Q : Files → Type 0) (old new : DiskState) → ((image : Files) → P image → Q image) → ComesAtOnce P old new → ComesAtOnce Q old new
once_weaker P Q old new weaker once = record {
  since = once.since;
  begun = once.begun;
  ended = once.ended;
  before = once.before;
  none = once.none;
  later = λ moment image from until at. ⊎_elim (λ (none : HasNoCopy image). inl none) (λ (is : P image). inr (weaker image is)) (once.later moment image from until at);
}

-- reads come first
pub once_after_reads : (P : Files → Type 0) (old mid new : DiskState) → Passes Unchanged old mid → Later mid new → ComesAtOnce P mid new → ComesAtOnce P old new
once_after_reads P old mid new reads later once = record {
  since = once.since;
  begun = omega (arith, reads.later, once.begun);
  ended = once.ended;
  before = λ moment image after until at. ⊎_elim
      (λ (late : mid.clock < moment). from_old image (once.before moment image late until at))
      (λ (early : moment ≤ mid.clock).
      let from = reads.images moment image after early (later.past moment image early at) in (from.0, from.1, grown_still from.0 image from.2))
      (cases_lt mid.clock moment);
  none = once.none;
  later = once.later;
}
  where
    from_old : (image : Files) → (first : Files) × MayLeave mid first × GrownIn 0 base_bytes first image → (first : Files) × MayLeave old first × GrownIn 0 base_bytes first image
    from_old image from = ⊎_elim
        (λ (moved : old.clock < mid.clock).
        let older = reads.images mid.clock from.0 moved (omega arith) from.1 in (older.0, older.1, then_grown older.0 from.0 image older.2 from.2))
        (λ (still : mid.clock ≤ old.clock).
        let same : mid.clock ≡ old.clock = omega (arith, still, reads.later) in
        (from.0, reads.past old.clock from.0 (omega arith) (subst (λ (n : ℕ). mid.image_at n from.0) same from.1), from.2))
        (cases_lt old.clock mid.clock)

pub grows_after_reads : (old mid new : DiskState) → Passes Unchanged old mid → GrowsBase mid new → GrowsBase old new
grows_after_reads old mid new reads grows =
    passes_then Unchanged (GrownIn 0 base_bytes) (GrownIn 0 base_bytes) old mid new then_grown grown_still (λ x y r. r) reads grows

pub leaves_after_reads : (P : Files → Type 0) (old mid new : DiskState) → IsSettled old → ((image : Files) → Unchanged old.files image → P image)
    → Passes Unchanged old mid → Leaves P mid new → Leaves P old new
leaves_after_reads P old mid new settled now reads leaves =
    leaves_then P old mid new (record {
      later = reads.later;
      past = reads.past;
      each = left_at Unchanged old mid settled reads P now (λ before image is change. now image (λ file. change file ∙ is file));
    }) leaves

-- ---- what is known of a disk stays known

pub knows_still : (R : Change) (a b : DiskState) → Passes R a b → KnowsLengths a → KnowsLengths b
knows_still R a b p knows = ⊎_elim
    (λ (tells : TellsContents a). inl (subst (λ (n : Nature). IsTrue n.tells_contents) (sym p.nature) tells))
    (λ (steady : IsSteady a). inr (subst (λ (n : Nature). IsTrue n.steady) (sym p.nature) steady)) knows

pub tells_still : (R : Change) (a b : DiskState) → Passes R a b → TellsContents a → TellsContents b
tells_still R a b p tells = subst (λ (n : Nature). IsTrue n.tells_contents) (sym p.nature) tells

pub honest_still : (R : Change) (a b : DiskState) → Passes R a b → IsHonest a → IsHonest b
honest_still R a b p honest =
    (subst (λ (n : Nature). IsTrue n.tells_contents) (sym p.nature) honest.0, subst (λ (n : Nature). IsTrue n.tells_images) (sym p.nature) honest.1)

pub steady_still : (R : Change) (a b : DiskState) → Passes R a b → IsSteady a → IsSteady b
steady_still R a b p steady = subst (λ (n : Nature). IsTrue n.steady) (sym p.nature) steady

pub rises_still : (R : Change) (a b c : DiskState) → Passes R a b → Rises b.faults c.faults → Rises a.faults c.faults
rises_still R a b c p rises = omega (arith, p.faults, rises)

-- ---- nothing was done but reads

pub passes_still : (R : Change) (a : DiskState) → Passes R a a
passes_still R a = record {
  later = omega arith;
  past = λ moment image le at. at;
  kept = λ moment image le at. at;
  images = λ moment image after until at. absurd (omega (arith, after, until));
  faults = omega arith;
  nature = refl;
}

pub reads_grow : (old new : DiskState) → Passes Unchanged old new → GrowsBase old new
reads_grow old new reads = passes_weaker Unchanged (GrownIn 0 base_bytes) old new grown_still reads

pub reads_leave : (P : Files → Type 0) (old new : DiskState) → IsSettled old → HasNoCopy old.files → Passes Unchanged old new
    → Leaves (λ files. HasNoCopy files ⊎ P files) old new
reads_leave P old new settled none reads =
    leaves_weaker HasNoCopy (λ files. HasNoCopy files ⊎ P files) old new (none_or P) (no_copy_left old new settled none (passes_weaker Unchanged BaseStays old new base_same reads))
