-- The state of parts that opening finds is one that a log can have.
use Rattle.clfs_recover.proofs.Words.{◌≡◌, inl, inr, ℕ, ◌<◌, ◌≤◌, Bool, true, false, cond, eqb, leb, List, [], length, get_or, map, Option, Some, None, refl}
use Rattle.clfs_recover.proofs.Words.{sym, ◌∙◌, ap, subst, arith, All, AllByRecursion, option_to_list, cases_Bool, eq-eqb, eqb-true, eqb-false}
use Rattle.clfs_recover.proofs.Words.{All-from_recursion, lsn_number, sequence_of, IsWithin, frontier, FitsAt, LogEntry, Restart, BaseImage, IsImage, State}
use Rattle.clfs_recover.proofs.Words.{Stream, IsValid, shape_of, base_with, state_of, Parts}
use Rattle.std.specs.Prelude.{IfSome}
use Rattle.std.specs.List.{range_with_len}
use Rattle.std.proofs.lemmas.Bool.Decides.{nat_tests}
use Rattle.clfs_lsn.specs.Limits.{most_containers}
use Rattle.clfs_base.specs.Layout.{version_two, most_minimum, most_dedicated}
use Rattle.clfs_base.specs.Spelling.{IsPolicy, flag}
use Rattle.clfs_model.specs.Valid.{HasRanges, HasPolicies, IsArea, IsRecord, IsWaiting}
use Rattle.clfs_recover.specs.Files.{policy_of}
use Rattle.clfs_recover.proofs.FoundBases.{base_low, base_to}
use Rattle.clfs_recover.proofs.FoundParts.{AreOpened}
use Rattle.clfs_recover.proofs.FoundRecords.{all_below, all_above, all_rise, none_of_block}
use Rattle.clfs_recover.proofs.FoundStreams.{length-streams_with, all_streams, different_streams, has_stream}
use Rattle.clfs_recover.proofs.HoldOrder.{hold_above}
use Rattle.clfs_recover.proofs.KeptRecords.{from_both}
use Rattle.clfs_recover.proofs.Raising.{base_at, length-bases_with}

-- ---- policies

-- a policy that is installed is in its range
policy_ranges : (P : ℕ → Type 0) (least most value : ℕ) → 1 ≤ least → IsPolicy least most value → (least ≤ value → value ≤ most → P value)
    → IfSome (policy_of value) P
policy_ranges P least most value some (inl none) within = subst (λ (o : Option ℕ). IfSome o P) (sym (ap (λ b. cond b None (Some value)) (eq-eqb value 0 none))) tt
policy_ranges P least most value some (inr is) within = elim (cases_Bool (eqb value 0)) [
  | inl none ↦ rw none tt
  | inr there ↦ rw there (within is.0 is.1)
]

-- a minimum is at most an installed maximum
minimum_low : (maximum minimum : ℕ) → IsPolicy 2 most_containers maximum → IsPolicy 2 (most_minimum maximum) minimum
    → IsPolicy 2 most_containers minimum
minimum_low maximum minimum limits (inl none) = inl none
minimum_low maximum minimum (inl off) (inr is) =
    let free : most_minimum maximum ≡ 256 = ap (λ b. cond b 256 maximum) (eq-eqb maximum 0 off) in
    inr (is.0, omega (arith, is.1, free))
minimum_low maximum minimum (inr limits) (inr is) = inr (is.0, below (eqb maximum 0) is.1)
  where
    below : (b : Bool) → minimum ≤ cond b 256 maximum → minimum ≤ 256
    below true le = le
    below false le = omega (arith, le, limits.1)

in_order : (maximum minimum : ℕ) → IsPolicy 2 (most_minimum maximum) minimum
    → IfSome (policy_of maximum) (λ most. IfSome (policy_of minimum) (λ least. least ≤ most))
in_order maximum minimum is = elim (cases_Bool (eqb maximum 0)) [
  | inl off ↦ rw off tt
  | inr on ↦
      let F : ℕ → Type 0 = λ most. IsPolicy 2 most minimum in
      let bound : IsPolicy 2 maximum minimum = subst F (ap (λ b. cond b 256 maximum) on) is in
      rw on (policy_ranges (λ least. least ≤ maximum) 2 maximum minimum (omega arith) bound (λ low high. high))
]

policies_hold : (image : BaseImage) → IsImage image → (s : State) → s.maximum ≡ policy_of image.maximum → s.minimum ≡ policy_of image.minimum
    → s.growth ≡ policy_of image.growth → HasPolicies s
policies_hold image is s maximum_is minimum_is growth_is = record {
  maximum = subst (λ (o : Option ℕ). IfSome o (λ most. (2 ≤ most) × (most ≤ 256))) (sym maximum_is)
      (policy_ranges (λ most. (2 ≤ most) × (most ≤ 256)) 2 256 image.maximum (omega arith) is.maximum (λ low high. (low, high)));
  minimum = subst (λ (o : Option ℕ). IfSome o (λ least. (2 ≤ least) × (least ≤ 256))) (sym minimum_is)
      (policy_ranges (λ least. (2 ≤ least) × (least ≤ 256)) 2 256 image.minimum (omega arith)
      (minimum_low image.maximum image.minimum is.maximum is.minimum) (λ low high. (low, high)));
  order = subst (λ (o : Option ℕ). IfSome o (λ most. IfSome s.minimum (λ least. least ≤ most))) (sym maximum_is)
      (subst (λ (o : Option ℕ). IfSome (policy_of image.maximum) (λ most. IfSome o (λ least. least ≤ most))) (sym minimum_is)
      (in_order image.maximum image.minimum is.minimum));
  growth = subst (λ (o : Option ℕ). IfSome o (λ rate. (1 ≤ rate) × (rate ≤ 254))) (sym growth_is)
      (policy_ranges (λ rate. (1 ≤ rate) × (rate ≤ 254)) 1 254 image.growth (omega arith) (rate image.growth is.growth) (λ low high. (low, high)));
}
  where
    rate : (value : ℕ) → value ≤ 254 → IsPolicy 1 254 value
    rate value le = elim (cases_Bool (eqb value 0)) [
      | inl none ↦ inl (eqb-true value 0 none)
      | inr there ↦ inr (let other = eqb-false value 0 there in omega (arith, other), le)
    ]

-- a dedicated log has one stream at most
has_one : (on : Bool) (count : ℕ) → flag on ≤ most_dedicated version_two count → on ≡ true → count ≤ 1
has_one false count few is = absurd (cc is)
has_one true count few is = by (leb count 1) refl few
  where
    by : (b : Bool) → leb count 1 ≡ b → 1 ≤ cond b 1 0 → count ≤ 1
    by true within few = grind (arith, nat_tests)
    by false within few = absurd (omega (arith, few))

-- ---- the state

module _ (parts : Parts) (buffers : ℕ) (is : AreOpened parts) where
  abbrev s : State
  s = state_of parts buffers

  abbrev image : BaseImage
  image = parts.image

  -- the place's LSN, below which all records lie
  abbrev pub here : ℕ
  here = lsn_number parts.place.container parts.place.offset 0

  pub frontier_is : frontier parts.place ≡ here
  frontier_is = let none = is.closed.1 in omega (arith, none)

  offset_small : parts.place.offset ≤ 8388608
  offset_small = omega (arith, is.laid.within, is.image_is.shape.largest_container)

  pub below : AllByRecursion (λ (entry : LogEntry). entry.lsn < here) parts.entries
  below = all_below (lsn_number image.first 0 0) here parts.entries is.laid.rise

  pub above : AllByRecursion (λ (entry : LogEntry). lsn_number image.first 0 0 ≤ entry.lsn) parts.entries
  above = all_above (lsn_number image.first 0 0) here parts.entries is.laid.rise

  pub same_length : length parts.bases ≡ length image.streams
  same_length = ap length is.bases_are ∙ length-bases_with image.streams parts.entries

  -- a stream's base is at most the place's LSN
  pub base_is : (i : ℕ) → i < length image.streams → get_or parts.bases i 0 ≡ base_with image.streams parts.entries i
  base_is i lt = ap (λ (l : List ℕ). get_or l i 0) is.bases_are ∙ base_at image.streams parts.entries i lt

  pub base_below : (i : ℕ) → i < length image.streams → get_or parts.bases i 0 ≤ here
  base_below i lt =
      let row = is.rows i lt in
      let all = from_both (λ (entry : LogEntry). FitsAt entry.lsn (length image.streams) entry) (λ (entry : LogEntry). entry.lsn < here)
      (λ (entry : LogEntry). entry.new_base ≤ here) parts.entries
      (λ entry fits low. let own = base_low entry.kind entry.lsn entry.new_base fits.new_base in omega (arith, own, low)) is.laid.fit below in
      let base = base_to image.streams parts.entries here i (omega (arith, row, frontier_is)) all in
      omega (arith, base, base_is i lt)

  record_is : (entry : LogEntry) → FitsAt entry.lsn (length image.streams) entry → (lsn_number image.first 0 0 ≤ entry.lsn) × (entry.lsn < here) → IsRecord s entry
  record_is entry fits lies = record {
    stream = has_stream image.streams parts.bases same_length s refl entry.stream fits.some_stream fits.stream;
    named = let low = lies.0 in omega (arith, low, is.image_is.first);
    below = let high = lies.1 in omega (arith, high, frontier_is);
    previous = inr fits.previous;
    undo_next = inr fits.undo_next;
  }

  records_are : All (IsRecord s) parts.entries
  records_are =
      let between = from_both (λ (entry : LogEntry). lsn_number image.first 0 0 ≤ entry.lsn) (λ (entry : LogEntry). entry.lsn < here)
      (λ (entry : LogEntry). (lsn_number image.first 0 0 ≤ entry.lsn) × (entry.lsn < here)) parts.entries (λ entry low high. (low, high)) above below in
      All-from_recursion (IsRecord s) parts.entries (from_both (λ (entry : LogEntry). FitsAt entry.lsn (length image.streams) entry)
      (λ (entry : LogEntry). (lsn_number image.first 0 0 ≤ entry.lsn) × (entry.lsn < here)) (IsRecord s) parts.entries record_is is.laid.fit between)

  tail_below : (archiving : Bool) → image.archiving ≡ archiving → IfSome (cond archiving (Some image.tail) None) (λ tail. tail ≤ here)
  tail_below true on = let low = (is.tail on).0 in omega (arith, low, frontier_is)
  tail_below false off = tt

  tail_above : (archiving : Bool) → image.archiving ≡ archiving
      → AllByRecursion (λ lsn. lsn_number image.first 0 0 ≤ lsn) (option_to_list (cond archiving (Some image.tail) None))
  tail_above true on = (let low = (is.tail on).1 in omega (arith, low), tt)
  tail_above false off = tt

  pub place_within : IsWithin (shape_of image) parts.place
  place_within = record {
    container = omega (arith, is.container_is, is.image_is.first, is.image_is.some_listed);
    offset = is.laid.whole;
    end = let none = is.closed.0 in omega (arith, none, is.laid.within, is.laid.whole);
    block = inl is.closed;
  }

  ranges : 1 ≤ buffers → buffers ≤ 64 → HasRanges s
  ranges some few = record {
    shape = is.image_is.shape;
    some_containers = is.image_is.some_containers;
    few_containers = omega (arith, is.image_is.containers_made, is.image_is.few_made);
    some_buffers = some;
    few_buffers = few;
    place = place_within;
  }

  pub valid : 1 ≤ buffers → buffers ≤ 64 → IsValid s
  valid some few = record {
    ranges = ranges some few;
    policies = policies_hold image is.image_is s refl refl refl;
    tables = record {
      names = different_streams image.streams parts.bases same_length 64 is.current_is.rows;
      numbers = λ i j d lt within. absurd (omega (arith, within));
      areas = All-from_recursion (IsArea s) [] tt;
      dedicated = λ alone.
          let long = length-streams_with image.streams parts.bases same_length in
          let few = has_one image.dedicated (length image.streams) is.current_is.dedicated alone in omega (arith, long, few);
    };
    records = record {
      rising = all_rise (lsn_number image.first 0 0) here parts.entries is.laid.rise;
      records = records_are;
      open_block = ap (map (λ (entry : LogEntry). sequence_of entry.lsn))
          (none_of_block parts.place.container parts.place.offset parts.entries is.laid.whole (omega (arith, offset_small)) below)
          ∙ sym (ap (range_with_len 0) is.closed.1);
    };
    stable = record {
      bases = all_streams image.streams parts.bases same_length (λ (stream : Stream). stream.base ≤ here) base_below;
      restarts = All-from_recursion (λ (entry : LogEntry). entry.kind ≡ Restart → entry.lsn < here) parts.entries
          (from_both (λ (entry : LogEntry). entry.lsn < here) (λ (entry : LogEntry). entry.lsn < here) (λ (entry : LogEntry). entry.kind ≡ Restart → entry.lsn < here)
          parts.entries (λ entry low other restart. low) below below);
      tail = tail_below image.archiving refl;
    };
    waiting = record {
      few = omega (arith, some);
      rising = λ k within. absurd (omega (arith, within));
      blocks = All-from_recursion (IsWaiting s) [] tt;
    };
    space = record {
      active =
          let least = hold_above (lsn_number image.first 0 0) s (omega (arith, frontier_is, is.container_is, is.image_is.some_listed))
          (tail_above image.archiving refl) above in
          omega (arith, least, is.container_is, is.image_is.few_listed);
      room = omega arith;
      two = λ held. absurd (omega (arith, held));
    };
  }
