-- What a disk in memory keeps, after each call and after a crash.
use Rattle.std.proofs.Common.{◌≡◌, ◌≢◌, ◌⊎◌, inl, inr, ⊎_elim, ℕ, ◌+◌, ◌-◌, ◌^◌, ◌<◌, ◌≤◌, ◌%◌, min, Bool, true, false, eqb, leb, ltb, ◌&&◌, cond, List, [], ◌∷◌}
use Rattle.std.proofs.Common.{◌++◌, length, get_or, replicate, refl, sym, ◌∙◌, ap, subst, arith, length-append}
use Rattle.std.proofs.lemmas.List.{take_all, get_or_append_left, get_or_past, append-nil, length_push}
use Rattle.std.proofs.lemmas.List.FromFn.{length-map-range_with_len, get_or-map-range_with_len}
use Rattle.std.proofs.lemmas.Bool.Decides.{nat_tests}
use Rattle.std.proofs.lemmas.Bool.{cases_eq, cases_lt, or_parts, lt-ltb, le-ltb}
use Rattle.clfs_disk.specs.Files.{Files, Unchanged, lengthened, picked, picked_byte}
use Rattle.clfs_disk.specs.State.{IsSettled, Passes, raised}
use Rattle.clfs_disk.specs.Record.{Moment, at_rest, after, after_write, after_growth, byte_count, bytes_written, replay, Image, recorded}
use Rattle.clfs_disk.specs.Copies.{read_files, synced_files, first_files, now_of, IsSound, Holds}
use Rattle.clfs_disk.specs.declared.record.Event.{Event}
use Rattle.clfs_disk.specs.declared.record.Event.TheVariants.{Refused, Synced}
use Rattle.clfs_disk.specs.declared.copies.FileCopies.{FileCopies}
use Rattle.clfs_disk.proofs.Places.{length-overwritten, overwritten_below, overwritten_above}
use Rattle.clfs_disk.proofs.Replays.{replay_push, bytes_written_push, passes_noted, passes_unnoted, passes_with_faults, image_same, image_at_rest}

same_number : (f file : ℕ) → f ≡ file → eqb f file ≡ true
same_number f file is = grind (arith, nat_tests)

other_number : (f file : ℕ) → f ≢ file → eqb f file ≡ false
other_number f file apart = grind (arith, nat_tests)

in_range : (i at n : ℕ) → at ≤ i → i < at + n → (leb at i && ltb i (at + n)) ≡ true
in_range i at n from until = grind (arith, nat_tests)

at_most : (n i : ℕ) → n ≤ i → leb n i ≡ true
at_most n i le = grind (arith, nat_tests)

-- a value that is chosen by a file's number
chosen_here : (f file : ℕ) (x y : List ℕ) → f ≡ file → cond (eqb f file) x y ≡ x
chosen_here f file x y is = ap (λ b. cond b x y) (same_number f file is)

chosen_elsewhere : (f file : ℕ) (x y : List ℕ) → f ≢ file → cond (eqb f file) x y ≡ y
chosen_elsewhere f file x y apart = ap (λ b. cond b x y) (other_number f file apart)

pub length-picked : (pick : ℕ) (read synced : List ℕ) → length (picked pick read synced) ≡ length read
length-picked pick read synced = length-map-range_with_len (λ i. picked_byte pick i (get_or read i 0) (get_or synced i 0)) 0 (length read)

pub sound_at_rest : (files : Files) → IsSound (at_rest files)
sound_at_rest files = record { same_length = λ file. refl; agree = λ file i free. refl }

-- where a range of a file isn't pending after a write, it lies outside the write
out_of_range : (f i file at n : ℕ) → f ≡ file → (eqb f file && (leb at i && ltb i (at + n))) ≡ false → (i < at) ⊎ (at + n ≤ i)
out_of_range f i file at n here free = ⊎_elim (λ lt. inl lt)
    (λ (from : at ≤ i). ⊎_elim
    (λ (until : i < at + n).
    let clash : (eqb f file && (leb at i && ltb i (at + n))) ≡ true = ap (λ b. b && (leb at i && ltb i (at + n))) (same_number f file here)
    ∙ in_range i at n from until in
    absurd (cc (clash, free)))
    (λ le. inr le)
    (cases_lt i (at + n)))
    (cases_lt i at)

before_end : (f i file n : ℕ) → f ≡ file → (eqb f file && leb n i) ≡ false → i < n
before_end f i file n here free = ⊎_elim (λ lt. lt)
    (λ (le : n ≤ i).
    let clash : (eqb f file && leb n i) ≡ true = ap (λ b. b && leb n i) (same_number f file here) ∙ at_most n i le in
    absurd (cc (clash, free)))
    (cases_lt i n)

module _ (m : Moment) (s : IsSound m) where
  pub sound_after_write : (file at : ℕ) (bytes : List ℕ) → at + length bytes ≤ length (m.files file) → IsSound (after_write file at bytes m)
  sound_after_write file at bytes room = record {
    same_length = λ f. s.same_length f ∙ sym (⊎_elim
        (λ (is : f ≡ file). ap (λ (l : List ℕ). length l) (chosen_here f file _ _ is)
        ∙ length-overwritten (m.files f) at bytes (subst (λ (k : ℕ). at + length bytes ≤ length (m.files k)) (sym is) room))
        (λ apart. ap (λ (l : List ℕ). length l) (chosen_elsewhere f file _ _ apart))
        (cases_eq f file));
    agree = λ f i free. let parts = or_parts _ _ free in s.agree f i parts.0 ∙ sym (⊎_elim
        (λ (is : f ≡ file).
        let fits = subst (λ (k : ℕ). at + length bytes ≤ length (m.files k)) (sym is) room in
        ap (λ (l : List ℕ). get_or l i 0) (chosen_here f file _ _ is)
        ∙ ⊎_elim
        (λ (lt : i < at). overwritten_below (m.files f) at bytes fits i lt)
        (λ (le : at + length bytes ≤ i). overwritten_above (m.files f) at bytes fits i le)
        (out_of_range f i file at (length bytes) is parts.1))
        (λ apart. ap (λ (l : List ℕ). get_or l i 0) (chosen_elsewhere f file _ _ apart))
        (cases_eq f file));
  }

  pub sound_after_growth : (file len : ℕ) → IsSound (after_growth file len m)
  sound_after_growth file len = record {
    same_length = λ f. ⊎_elim
        (λ (is : f ≡ file). ap (λ (l : List ℕ). length l) (chosen_here f file _ _ is) ∙ same_end f
        ∙ sym (ap (λ (l : List ℕ). length l) (chosen_here f file _ _ is)))
        (λ apart. ap (λ (l : List ℕ). length l) (chosen_elsewhere f file _ _ apart) ∙ s.same_length f
        ∙ sym (ap (λ (l : List ℕ). length l) (chosen_elsewhere f file _ _ apart)))
        (cases_eq f file);
    agree = λ f i free. let parts = or_parts _ _ free in ⊎_elim
        (λ (is : f ≡ file).
        let lt : i < length (m.files f) = before_end f i file (length (m.files f)) is parts.1 in
        let lt' : i < length (m.synced f) = omega (arith, lt, s.same_length f) in
        ap (λ (l : List ℕ). get_or l i 0) (chosen_here f file _ _ is) ∙ get_or_append_left (m.synced f) (replicate (len - length (m.synced f)) 0) 0 i lt'
        ∙ s.agree f i parts.0
        ∙ sym (get_or_append_left (m.files f) (replicate (len - length (m.files f)) 0) 0 i lt)
        ∙ sym (ap (λ (l : List ℕ). get_or l i 0) (chosen_here f file _ _ is)))
        (λ apart. ap (λ (l : List ℕ). get_or l i 0) (chosen_elsewhere f file _ _ apart) ∙ s.agree f i parts.0
        ∙ sym (ap (λ (l : List ℕ). get_or l i 0) (chosen_elsewhere f file _ _ apart)))
        (cases_eq f file);
  }
    where
      same_end : (f : ℕ) → length (lengthened (m.synced f) len) ≡ length (lengthened (m.files f) len)
      same_end f = length-append (m.synced f) (replicate (len - length (m.synced f)) 0)
          ∙ ap (λ (k : ℕ). k + length (replicate {A = ℕ} (len - k) 0)) (s.same_length f)
          ∙ sym (length-append (m.files f) (replicate (len - length (m.files f)) 0))

  -- what a crash leaves by a pick is one of the images
  pub pick_is_image : (pick : ℕ) (image : Files) → ((file : ℕ) → image file ≡ picked pick (m.files file) (m.synced file)) → Image m image
  pick_is_image pick image is file =
      let size : length (image file) ≡ length (m.files file) = ap (λ (l : List ℕ). length l) (is file)
      ∙ length-map-range_with_len (byte file) 0 (length (m.files file)) in (
        size,
        λ i free. ⊎_elim
            (λ (lt : i < length (m.files file)).
            ap (λ (l : List ℕ). get_or l i 0) (is file) ∙ get_or-map-range_with_len (byte file) 0 (length (m.files file)) i i 0 lt (omega arith)
            ∙ ap (λ (b : ℕ). picked_byte pick i (get_or (m.files file) i 0) b) (s.agree file i free)
            ∙ either (eqb pick 0) (eqb pick 1) (eqb (i % 2) 0) (get_or (m.files file) i 0))
            (λ (le : length (m.files file) ≤ i). get_or_past (image file) i 0 (omega (arith, size, le)) ∙ sym (get_or_past (m.files file) i 0 le))
            (cases_lt i (length (m.files file))),
      )
    where
      byte : ℕ → ℕ → ℕ
      byte file i = picked_byte pick i (get_or (m.files file) i 0) (get_or (m.synced file) i 0)

      either : (a b c : Bool) (x : ℕ) → cond a x (cond b x (cond c x x)) ≡ x
      either true b c x = refl
      either false true c x = refl
      either false false true x = refl
      either false false false x = refl

module _ (files : List FileCopies) (calls : List Event) (written : List ℕ) (h : Holds files calls written) where
  -- one more call
  module _ (files' : List FileCopies) (calls' : List Event) (written' new : List ℕ) (event : Event)
      (count : length files' ≡ length files) (first : Unchanged (first_files files) (first_files files'))
      (is : calls' ≡ calls ++ event ∷ []) (are : written' ≡ written ++ new) (wrote : byte_count event ≡ length new) where
    now : Moment
    now = now_of files calls written

    then_is : now_of files' calls' written' ≡ after event new now
    unfolding now
    then_is =
        let start : first_files files' ≡ first_files files = λ i. λ file. first file i in
        ap (λ (x : Files). replay (at_rest x) calls' written') start ∙ ap (λ (l : List Event). replay (at_rest (first_files files)) l written') is
        ∙ ap (λ (w : List ℕ). replay (at_rest (first_files files)) (calls ++ event ∷ []) w) are
        ∙ replay_push (at_rest (first_files files)) calls written new event h.bytes wrote

    pub holds_after : Unchanged (after event new (now_of files calls written)).files (read_files files')
        → Unchanged (after event new (now_of files calls written)).synced (synced_files files')
        → IsSound (after event new (now_of files calls written)) → Holds files' calls' written'
    unfolding now
    holds_after read synced sound = record {
      count = count ∙ h.count;
      bytes = ap bytes_written is ∙ bytes_written_push calls event ∙ omega (arith, h.bytes, wrote, ap (λ (l : List ℕ). length l) are, length-append written new);
      read = λ file. read file ∙ ap (λ (m : Moment). m.files file) (sym then_is);
      synced = λ file. synced file ∙ ap (λ (m : Moment). m.synced file) (sym then_is);
      sound = subst IsSound (sym then_is) sound;
    }

  -- the same copies and the same record
  pub holds_same : (files' : List FileCopies) (calls' : List Event) (written' : List ℕ) → length files' ≡ length files
      → Unchanged (first_files files) (first_files files') → Unchanged (read_files files) (read_files files')
      → Unchanged (synced_files files) (synced_files files')
      → calls' ≡ calls → written' ≡ written → Holds files' calls' written'
  holds_same files' calls' written' count first read synced is are =
      let start : first_files files' ≡ first_files files = λ i. λ file. first file i in
      let same : now_of files' calls' written' ≡ now_of files calls written =
      ap (λ (x : Files). replay (at_rest x) calls' written') start ∙ ap (λ (l : List Event). replay (at_rest (first_files files)) l written') is ∙ ap
      (λ (w : List ℕ). replay (at_rest (first_files files)) calls w) are in
      record {
        count = count ∙ h.count;
        bytes = ap bytes_written is ∙ h.bytes ∙ sym (ap (λ (l : List ℕ). length l) are);
        read = λ file. read file ∙ h.read file ∙ ap (λ (m : Moment). m.files file) (sym same);
        synced = λ file. synced file ∙ h.synced file ∙ ap (λ (m : Moment). m.synced file) (sym same);
        sound = subst IsSound (sym same) h.sound;
      }

-- a record without calls, over copies that are all the same
pub holds_fresh : (files : List FileCopies) (calls : List Event) (written : List ℕ) → length files ≡ 257 → calls ≡ [] → written ≡ []
    → Unchanged (first_files files) (read_files files) → Unchanged (first_files files) (synced_files files) → Holds files calls written
holds_fresh files calls written count none no_bytes read synced =
    let rest : now_of files calls written ≡ at_rest (first_files files) = ap (λ (l : List Event). replay (at_rest (first_files files)) l written) none in
    record {
      count = count;
      bytes = ap bytes_written none ∙ sym (ap (λ (l : List ℕ). length l) no_bytes);
      read = λ file. read file ∙ ap (λ (m : Moment). m.files file) (sym rest);
      synced = λ file. synced file ∙ ap (λ (m : Moment). m.synced file) (sym rest);
      sound = subst IsSound (sym rest) (sound_at_rest (first_files files));
    }

-- where the record ends with nothing pending, nothing is
pub settled_at_rest : (start rested : Files) (calls : List Event) (written : List ℕ) (files : Files) (made faults : ℕ)
    → replay (at_rest start) calls written ≡ at_rest rested → Unchanged rested files
    → IsSettled (recorded start calls written files made faults)
settled_at_rest start rested calls written files made faults is same = record {
  honest = (refl, refl);
  only = λ image at file.
      let now : Image (at_rest rested) image = subst (λ (m : Moment). Image m image) (ap (λ (l : List Event). replay (at_rest start) l written)
      (take_all (length calls) calls (omega arith)) ∙ is) at in
      image_at_rest rested image now file ∙ sym (same file);
}

-- a call that failed is noted, or the record is full
pub holds_refused : (files : List FileCopies) (calls : List Event) (written : List ℕ) → Holds files calls written
    → (calls' : List Event) (written' : List ℕ) (noted : Bool)
    → calls' ≡ cond noted (calls ++ Refused ∷ []) calls → written' ≡ written → Holds files calls' written'
holds_refused files calls written h calls' written' true is are =
    holds_after files calls written h files calls' written' [] Refused refl (λ file. refl) is (are ∙ sym (append-nil written)) refl h.read h.synced h.sound
holds_refused files calls written h calls' written' false is are =
    holds_same files calls written h files calls' written' refl (λ file. refl) (λ file. refl) (λ file. refl) is are

pub passes_refused : (start : Files) (calls calls' : List Event) (written written' : List ℕ) (files : Files) (made made' faults faults' : ℕ) (noted : Bool)
    → calls' ≡ cond noted (calls ++ Refused ∷ []) calls → written' ≡ written → bytes_written calls ≡ length written → faults ≤ faults'
    → Passes Unchanged (recorded start calls written files made faults) (recorded start calls' written' files made' faults')
passes_refused start calls calls' written written' files made made' faults faults' true is are p le =
    passes_with_faults Unchanged (recorded start calls written files made faults) (recorded start calls' written' files made' faults) faults'
    (passes_noted Unchanged start start calls calls' written written' [] Refused files files made made' faults
    (λ file. refl) is (are ∙ sym (append-nil written)) p refl (λ image at. image_same (replay (at_rest start) calls written) image at))
    le
passes_refused start calls calls' written written' files made made' faults faults' false is are p le =
    passes_unnoted Unchanged start start calls calls' written written' files files made made' faults faults' (λ file. refl) is are le

-- after a sync nothing is pending
pub settled_after_sync : (files : List FileCopies) (calls : List Event) (written : List ℕ) → Holds files calls written
    → (files' : List FileCopies) (calls' : List Event) (written' : List ℕ) (made faults : ℕ)
    → Unchanged (first_files files) (first_files files') → calls' ≡ calls ++ Synced ∷ [] → written' ≡ written ++ []
    → Unchanged (read_files files) (read_files files')
    → IsSettled (recorded (first_files files') calls' written' (read_files files') made faults)
settled_after_sync files calls written h files' calls' written' made faults first is are read =
    let start : first_files files' ≡ first_files files = λ i. λ file. first file i in
    settled_at_rest (first_files files') (now_of files calls written).files calls' written' (read_files files') made faults
    (ap (λ (x : Files). replay (at_rest x) calls' written') start ∙ ap (λ (l : List Event). replay (at_rest (first_files files)) l written') is
    ∙ ap (λ (w : List ℕ). replay (at_rest (first_files files)) (calls ++ Synced ∷ []) w) are
    ∙ replay_push (at_rest (first_files files)) calls written [] Synced h.bytes refl)
    (λ file. read file ∙ h.read file)

-- a call that is noted where the record has a place for it is counted too
pub counted_after : (events events' : List Event) (event : Event) (calls calls' room room' : ℕ) → length events ≡ min calls room → length events < room
    → room < 2 ^ 64 → events' ≡ events ++ event ∷ [] → calls' ≡ raised 1 calls → room' ≡ room → length events' ≡ min calls' room'
counted_after events events' event calls calls' room room' counted place small is more same =
    omega (arith, counted, place, small, more, same, ap (λ (l : List Event). length l) is, length_push events event)

-- a call that is refused is counted, and noted where the record has a place for it
pub counted_refused : (events events' : List Event) (size calls calls' room room' : ℕ) → size ≡ length events → length events ≡ min calls room
    → room < 2 ^ 64 → calls < 2 ^ 64 → events' ≡ cond (ltb size room) (events ++ Refused ∷ []) events → calls' ≡ raised 1 calls → room' ≡ room
    → length events' ≡ min calls' room'
counted_refused events events' size calls calls' room room' long counted small few is more same = ⊎_elim
    (λ (place : size < room). counted_after events events' Refused calls calls' room room' counted (omega (arith, long, place)) small
    (is ∙ ap (λ b. cond b (events ++ Refused ∷ []) events) (lt-ltb size room place)) more same)
    (λ (full : room ≤ size).
    let still : length events' ≡ length events = ap (λ (l : List Event). length l)
    (is ∙ ap (λ b. cond b (events ++ Refused ∷ []) events) (le-ltb size room full)) in
    omega (arith, counted, full, long, small, few, more, same, still))
    (cases_lt size room)

-- an empty record of no calls
pub counted_none : (events : List Event) (room : ℕ) → events ≡ [] → length events ≡ min 0 room
counted_none events room none = omega (arith, ap (λ (l : List Event). length l) none)
