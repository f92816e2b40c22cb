-- One more call in the record of a disk in memory.
use Rattle.std.proofs.Common.{◌≡◌, ◌≢◌, ◌⊎◌, inl, inr, ⊎_elim, ℕ, zero, suc, ◌+◌, ◌-◌, ◌<◌, ◌≤◌, Bool, true, false, eqb, leb, ltb, ◌&&◌, ◌||◌, cond, List}
use Rattle.std.proofs.Common.{[], ◌∷◌, ◌++◌, length, get_or, take, drop, replicate, refl, sym, ◌∙◌, ap, subst, arith, length-append}
use Rattle.std.proofs.Math.Path.{subst₃}
use Rattle.std.proofs.lemmas.List.{take-append-le, drop-append-le, take_all, length_push, length-take-le, length-replicate, length-drop, get_or-take}
use Rattle.std.proofs.lemmas.List.{get_or-drop, get_or_append_left, get_or_past, ext_get_or}
use Rattle.std.proofs.lemmas.Bool.{cases_eq, cases_lt}
use Rattle.std.proofs.lemmas.Bool.Decides.{nat_tests}
use Rattle.clfs_disk.specs.Files.{Files, Unchanged, Torn, Grown, InFile, TornIn, GrownIn, overwritten, lengthened, WrittenIn, LengthenedIn}
use Rattle.clfs_disk.specs.State.{DiskState, Passes}
use Rattle.clfs_disk.specs.Record.{Moment, at_rest, after, after_write, after_growth, byte_count, bytes_written, replay, Image, recorded}
use Rattle.clfs_disk.specs.declared.record.Event.{Event}
use Rattle.clfs_disk.proofs.Places.{length-overwritten, overwritten_below, overwritten_inside, overwritten_above}

-- a call that is noted last comes last
pub replay_push : (m : Moment) (events : List Event) (bytes new : List ℕ) (event : Event) → bytes_written events ≡ length bytes → byte_count event ≡ length new
    → replay m (events ++ event ∷ []) (bytes ++ new) ≡ after event new (replay m events bytes)
replay_push m [] [] new event p q = ap (λ (l : List ℕ). after event l m) (take_all (byte_count event) new (omega (arith, q)))
replay_push m [] (b ∷ bytes) new event p q = absurd (omega (arith, p))
replay_push m (e ∷ events) bytes new event p q =
    let k = byte_count e in
    let front : take k (bytes ++ new) ≡ take k bytes = take-append-le k bytes new (omega (arith, p)) in
    let back : drop k (bytes ++ new) ≡ drop k bytes ++ new = drop-append-le k bytes new (omega (arith, p)) in
    ap (λ (l : List ℕ). replay (after e l m) (events ++ event ∷ []) (drop k (bytes ++ new))) front
    ∙ ap (λ (l : List ℕ). replay (after e (take k bytes) m) (events ++ event ∷ []) l) back
    ∙ replay_push (after e (take k bytes) m) events (drop k bytes) new event (omega (arith, p, length-drop k bytes)) q

-- bytes of later calls change nothing
pub replay_more : (m : Moment) (events : List Event) (bytes new : List ℕ) → bytes_written events ≤ length bytes → replay m events (bytes ++ new) ≡ replay m events bytes
replay_more m [] bytes new le = refl
replay_more m (e ∷ events) bytes new le =
    let k = byte_count e in
    let front : take k (bytes ++ new) ≡ take k bytes = take-append-le k bytes new (omega (arith, le)) in
    let back : drop k (bytes ++ new) ≡ drop k bytes ++ new = drop-append-le k bytes new (omega (arith, le)) in
    ap (λ (l : List ℕ). replay (after e l m) events (drop k (bytes ++ new))) front
    ∙ ap (λ (l : List ℕ). replay (after e (take k bytes) m) events l) back
    ∙ replay_more (after e (take k bytes) m) events (drop k bytes) new (omega (arith, le, length-drop k bytes))

bytes_written-take : (n : ℕ) (events : List Event) → bytes_written (take n events) ≤ bytes_written events
bytes_written-take zero events = omega arith
bytes_written-take (suc n) [] = omega arith
bytes_written-take (suc n) (e ∷ events) = omega (arith, bytes_written-take n events)

pub bytes_written_push : (events : List Event) (event : Event) → bytes_written (events ++ event ∷ []) ≡ bytes_written events + byte_count event
bytes_written_push [] event = omega arith
bytes_written_push (e ∷ events) event = omega (arith, bytes_written_push events event)

module _ (start : Files) (calls : List Event) (written new : List ℕ) (event : Event) (p : bytes_written calls ≡ length written)
    (q : byte_count event ≡ length new) where
  -- earlier moments stay
  earlier : (moment : ℕ) → moment ≤ length calls → replay (at_rest start) (take moment (calls ++ event ∷ [])) (written ++ new) ≡ replay (at_rest start)
      (take moment calls) written
  earlier moment le = ap (λ (l : List Event). replay (at_rest start) l (written ++ new)) (take-append-le moment calls (event ∷ []) le)
      ∙ replay_more (at_rest start) (take moment calls) written new (omega (arith, bytes_written-take moment calls, p))

  latest : (moment : ℕ) → length calls < moment → replay (at_rest start) (take moment (calls ++ event ∷ [])) (written ++ new) ≡ after event new
      (replay (at_rest start) calls written)
  latest moment lt = ap (λ (l : List Event). replay (at_rest start) l (written ++ new))
      (take_all moment (calls ++ event ∷ []) (omega (arith, lt, length_push calls event)))
      ∙ replay_push (at_rest start) calls written new event p q

  -- a call that is noted: what a crash may leave comes from what it might by a change
  passes_push : (R : Files → Files → Type 0) (files files' : Files) (made made' faults : ℕ)
      → ((image : Files) → Image (after event new (replay (at_rest start) calls written)) image → (before : Files)
      × Image (replay (at_rest start) calls written) before × R before image)
      → Passes R (recorded start calls written files made faults) (recorded start (calls ++ event ∷ []) (written ++ new) files' made' faults)
  passes_push R files files' made made' faults changed = record {
    later = omega (arith, length_push calls event);
    past = λ moment image le at. subst (λ (m : Moment). Image m image) (earlier moment le) at;
    kept = λ moment image le at. subst (λ (m : Moment). Image m image) (sym (earlier moment le)) at;
    images = λ moment image later until at.
        let from = changed image (subst (λ (m : Moment). Image m image) (latest moment later) at) in (
          from.0,
          subst (λ (l : List Event). Image (replay (at_rest start) l written) from.0)
              (sym (take_all (length calls) calls (omega arith))) from.1,
          from.2,
        );
    faults = omega arith;
    nature = refl;
  }

same_function : (old new : Files) → Unchanged old new → old ≡ new
same_function old new same = λ i. λ file. (sym (same file)) i

-- the same where the record and the first files are known by equations
pub passes_noted : (R : Files → Files → Type 0) (start start' : Files) (calls calls' : List Event) (written written' new : List ℕ) (event : Event)
    (files files' : Files) (made made' faults : ℕ)
    → Unchanged start start' → calls' ≡ calls ++ event ∷ [] → written' ≡ written ++ new → bytes_written calls ≡ length written → byte_count event ≡ length new
    → ((image : Files) → Image (after event new (replay (at_rest start) calls written)) image → (before : Files)
    × Image (replay (at_rest start) calls written) before × R before image)
    → Passes R (recorded start calls written files made faults) (recorded start' calls' written' files' made' faults)
passes_noted R start start' calls calls' written written' new event files files' made made' faults same is are p q changed =
    subst₃ (λ (x : Files) (l : List Event) (w : List ℕ). Passes R (recorded start calls written files made faults) (recorded x l w files' made' faults))
    (same_function start start' same) (sym is) (sym are)
    (passes_push start calls written new event p q R files files' made made' faults changed)

-- a call that isn't noted
pub passes_unnoted : (R : Files → Files → Type 0) (start start' : Files) (calls calls' : List Event) (written written' : List ℕ) (files files' : Files)
    (made made' faults faults' : ℕ)
    → Unchanged start start' → calls' ≡ calls → written' ≡ written → faults ≤ faults'
    → Passes R (recorded start calls written files made faults) (recorded start' calls' written' files' made' faults')
passes_unnoted R start start' calls calls' written written' files files' made made' faults faults' same is are le =
    subst₃ (λ (x : Files) (l : List Event) (w : List ℕ). Passes R (recorded start calls written files made faults) (recorded x l w files' made' faults'))
    (same_function start start' same) (sym is) (sym are)
    (record {
      later = omega arith;
      past = λ moment image le at. at;
      kept = λ moment image le at. at;
      images = λ moment image after until at. absurd (omega (arith, after, until));
      faults = le;
      nature = refl;
    })

-- the count of faults may have risen beside
pub passes_with_faults : (R : Files → Files → Type 0) (a b : DiskState) (faults : ℕ) → Passes R a b → b.faults ≤ faults
    → Passes R a (record b { faults = faults })
passes_with_faults R a b faults p le = record {
  later = p.later;
  past = p.past;
  kept = p.kept;
  images = p.images;
  nature = p.nature;
  faults = omega (arith, p.faults, le);
}

pub image_same : (m : Moment) (image : Files) → Image m image → (before : Files) × Image m before × Unchanged before image
image_same m image is = (image, is, λ file. refl)

pub image_at_rest : (files image : Files) → Image (at_rest files) image → Unchanged files image
image_at_rest files image is file = ext_get_or 0 (image file) (files file) (is file).0 (λ i lt. (is file).1 i refl)

pub image_synced : (m : Moment) (image : Files) → Image (at_rest m.files) image → (before : Files) × Image m before × Unchanged before image
image_synced m image is = (image, (λ file. ((is file).0, λ i free. (is file).1 i refl)), λ file. refl)

here : (file : ℕ) → eqb file file ≡ true
here file = grind (arith, nat_tests)

apart_is : (f file : ℕ) → f ≢ file → eqb f file ≡ false
apart_is f file apart = grind (arith, nat_tests)

neither : (p e q : Bool) → p ≡ false → e ≡ false → (p || (e && q)) ≡ false
neither p e q none other = ap (λ b. b || (e && q)) none ∙ ap (λ b. b && q) other

outside : (p e : Bool) (at n i : ℕ) → p ≡ false → (i < at) ⊎ (at + n ≤ i) → (p || (e && (leb at i && ltb i (at + n)))) ≡ false
outside true e at n i none out = absurd (cc none)
outside false false at n i none out = refl
outside false true at n i none out = range at n i out
  where
    range : (at n i : ℕ) → (i < at) ⊎ (at + n ≤ i) → (leb at i && ltb i (at + n)) ≡ false
    range at n i out = grind (arith, nat_tests, out)

within : (p e : Bool) (old i : ℕ) → p ≡ false → i < old → (p || (e && leb old i)) ≡ false
within true e old i none lt = absurd (cc none)
within false false old i none lt = refl
within false true old i none lt = grind (arith, nat_tests)

-- what there was in one file before a write
one_before : (old image : List ℕ) (at n : ℕ) (pending : ℕ → Bool) → at + n ≤ length old → length image ≡ length old
    → ((i : ℕ) → pending i ≡ false → (i < at) ⊎ (at + n ≤ i) → get_or image i 0 ≡ get_or old i 0)
    → (before : List ℕ) × (length before ≡ length old) × ((i : ℕ) → pending i ≡ false → get_or before i 0 ≡ get_or old i 0) × Torn at n before image
one_before old image at n pending room long each =
    let patch = take n (drop at old) in
    let size : length patch ≡ n = length-take-le n (drop at old) (omega (arith, length-drop at old, room)) in
    let fits : at + length patch ≤ length image = omega (arith, size, room, long) in (
      overwritten image at patch,
      length-overwritten image at patch fits ∙ long,
      (λ i free. ⊎_elim
          (λ (below : i < at). overwritten_below image at patch fits i below ∙ each i free (inl below))
          (λ (from : at ≤ i). ⊎_elim
          (λ (until : i < at + n).
          let near : i - at < n = omega (arith, from, until) in
          let place : at + (i - at) ≡ i = omega (arith, from) in
          overwritten_inside image at patch fits i from (omega (arith, until, size)) ∙ get_or-take n (drop at old) (i - at) 0 near
          ∙ get_or-drop at old (i - at) 0 ∙ ap (λ (k : ℕ). get_or old k 0) place)
          (λ (past : at + n ≤ i). overwritten_above image at patch fits i (omega (arith, past, size)) ∙ each i free (inr past))
          (cases_lt i (at + n)))
          (cases_lt i at)),
      record {
        same_length = sym (length-overwritten image at patch fits);
        below = λ i lt. sym (overwritten_below image at patch fits i lt);
        above = λ i le. sym (overwritten_above image at patch fits i (omega (arith, le, size)));
      },
    )

-- the files with another list in the place of one
swapped : Files → ℕ → List ℕ → Files
swapped files file bytes f = cond (eqb f file) bytes (files f)

swapped_here : (files : Files) (file : ℕ) (bytes : List ℕ) → swapped files file bytes file ≡ bytes
unfolding swapped
swapped_here files file bytes = ap (λ b. cond b bytes (files file)) (here file)

swapped_other : (files : Files) (file : ℕ) (bytes : List ℕ) (f : ℕ) → f ≢ file → swapped files file bytes f ≡ files f
unfolding swapped
swapped_other files file bytes f apart = ap (λ b. cond b bytes (files f)) (apart_is f file apart)

-- an image of files of which one had another image before
before_in : (m : Moment) (file : ℕ) (image : Files) (change : List ℕ → List ℕ → Type 0) (b : List ℕ) → length b ≡ length (m.files file)
    → ((i : ℕ) → m.pending file i ≡ false → get_or b i 0 ≡ get_or (m.files file) i 0) → change b (image file)
    → ((f : ℕ) → f ≢ file → (length (image f) ≡ length (m.files f)) × ((i : ℕ) → m.pending f i ≡ false → get_or (image f) i 0 ≡ get_or (m.files f) i 0))
    → (before : Files) × Image m before × InFile file change before image
before_in m file image change b long each changed others = (
  swapped image file b,
  (λ f. ⊎_elim
      (λ (is : f ≡ file). subst (λ (k : ℕ). (length (swapped image file b k) ≡ length (m.files k))
      × ((i : ℕ) → m.pending k i ≡ false → get_or (swapped image file b k) i 0 ≡ get_or (m.files k) i 0)) (sym is)
      (subst (λ (l : List ℕ). (length l ≡ length (m.files file)) × ((i : ℕ) → m.pending file i ≡ false → get_or l i 0 ≡ get_or (m.files file) i 0))
      (sym (swapped_here image file b)) (long, each)))
      (λ apart. subst (λ (l : List ℕ). (length l ≡ length (m.files f)) × ((i : ℕ) → m.pending f i ≡ false → get_or l i 0 ≡ get_or (m.files f) i 0))
      (sym (swapped_other image file b f apart)) (others f apart))
      (cases_eq f file)),
  record {
    here = subst (λ (l : List ℕ). change l (image file)) (sym (swapped_here image file b)) changed;
    elsewhere = λ f apart. sym (swapped_other image file b f apart);
  },
)

pub image_written : (m : Moment) (file at : ℕ) (bytes : List ℕ) (image : Files) → at + length bytes ≤ length (m.files file)
    → Image (after_write file at bytes m) image
    → (before : Files) × Image m before × TornIn file at (length bytes) before image
image_written m file at bytes image room is =
    let written : cond (eqb file file) (overwritten (m.files file) at bytes) (m.files file) ≡ overwritten (m.files file) at bytes = ap
    (λ b. cond b (overwritten (m.files file) at bytes) (m.files file)) (here file) in
    let one = one_before (m.files file) (image file) at (length bytes) (m.pending file) room
    ((is file).0 ∙ ap (λ (l : List ℕ). length l) written ∙ length-overwritten (m.files file) at bytes room)
    (λ i free out. (is file).1 i (outside (m.pending file i) (eqb file file) at (length bytes) i free out) ∙ ap (λ (l : List ℕ). get_or l i 0) written
    ∙ ⊎_elim (λ (lt : i < at). overwritten_below (m.files file) at bytes room i lt)
    (λ (le : at + length bytes ≤ i). overwritten_above (m.files file) at bytes room i le) out) in
    before_in m file image (Torn at (length bytes)) one.0 one.1 one.2 one.3
    (λ f apart.
    let no = apart_is f file apart in
    let same : cond (eqb f file) (overwritten (m.files f) at bytes) (m.files f) ≡ m.files f = ap
    (λ b. cond b (overwritten (m.files f) at bytes) (m.files f)) no in (
      (is f).0 ∙ ap (λ (l : List ℕ). length l) same,
      λ i free. (is f).1 i (neither (m.pending f i) (eqb f file) _ free no) ∙ ap (λ (l : List ℕ). get_or l i 0) same,
    ))

pub image_grown : (m : Moment) (file len : ℕ) (image : Files) → Image (after_growth file len m) image → (before : Files) × Image m before
    × GrownIn file len before image
image_grown m file len image is =
    let old = m.files file in
    let longer : cond (eqb file file) (lengthened old len) old ≡ lengthened old len = ap (λ b. cond b (lengthened old len) old) (here file) in
    let size : length (image file) ≡ length old + (len - length old) = (is file).0 ∙ ap (λ (l : List ℕ). length l) longer
    ∙ length-append old (replicate (len - length old) 0) ∙ ap (λ (k : ℕ). length old + k) (length-replicate (len - length old) 0) in
    let cut : length (take (length old) (image file)) ≡ length old = length-take-le (length old) (image file) (omega (arith, size)) in
    before_in m file image (Grown len) (take (length old) (image file)) cut
    (λ i free. ⊎_elim
    (λ (lt : i < length old).
    get_or-take (length old) (image file) i 0 lt ∙ (is file).1 i (within (m.pending file i) (eqb file file) (length old) i free lt) ∙ ap
    (λ (l : List ℕ). get_or l i 0) longer
    ∙ get_or_append_left old (replicate (len - length old) 0) 0 i lt)
    (λ (le : length old ≤ i). get_or_past (take (length old) (image file)) i 0 (omega (arith, cut, le)) ∙ sym (get_or_past old i 0 le))
    (cases_lt i (length old)))
    (record {
      no_shorter = omega (arith, cut, size);
      no_longer = omega (arith, cut, size);
      below = λ i lt. sym (get_or-take (length old) (image file) i 0 (omega (arith, lt, cut)));
    })
    (λ f apart.
    let no = apart_is f file apart in
    let same : cond (eqb f file) (lengthened (m.files f) len) (m.files f) ≡ m.files f = ap (λ b. cond b (lengthened (m.files f) len) (m.files f)) no in (
      (is f).0 ∙ ap (λ (l : List ℕ). length l) same,
      λ i free. (is f).1 i (neither (m.pending f i) (eqb f file) _ free no) ∙ ap (λ (l : List ℕ). get_or l i 0) same,
    ))

-- after a write that the moment tells, the files are those that it tells
pub read_after_write : (m : Moment) (file at : ℕ) (bytes : List ℕ) (old new : Files) → Unchanged m.files old → WrittenIn file at bytes old new
    → Unchanged (after_write file at bytes m).files new
read_after_write m file at bytes old new each written f = ⊎_elim
    (λ (is : f ≡ file). subst (λ (k : ℕ). new k ≡ cond (eqb k file) (overwritten (m.files k) at bytes) (m.files k)) (sym is)
    (written.here ∙ ap (λ (l : List ℕ). overwritten l at bytes) (each file)
    ∙ sym (ap (λ b. cond b (overwritten (m.files file) at bytes) (m.files file)) (here file))))
    (λ apart. written.elsewhere f apart ∙ each f ∙ sym (ap (λ b. cond b (overwritten (m.files f) at bytes) (m.files f)) (apart_is f file apart)))
    (cases_eq f file)

-- the same after a growth, for the files as read or as synced
pub read_after_growth : (files : Files) (file len : ℕ) (old new : Files) → Unchanged files old → LengthenedIn file len old new → Unchanged
    (λ f. cond (eqb f file) (lengthened (files f) len) (files f)) new
read_after_growth files file len old new each grown f = ⊎_elim
    (λ (is : f ≡ file). subst (λ (k : ℕ). new k ≡ cond (eqb k file) (lengthened (files k) len) (files k)) (sym is)
    (grown.here ∙ ap (λ (l : List ℕ). lengthened l len) (each file) ∙ sym (ap (λ b. cond b (lengthened (files file) len) (files file)) (here file))))
    (λ apart. grown.elsewhere f apart ∙ each f ∙ sym (ap (λ b. cond b (lengthened (files f) len) (files f)) (apart_is f file apart)))
    (cases_eq f file)
