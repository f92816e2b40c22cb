-- The state of parts that opening finds is one that files can hold, and its own flushed part.
use Rattle.clfs_recover.proofs.Words.{◌≡◌, inl, inr, ℕ, ◌-◌, ◌<◌, ◌≤◌, true, ltb, [], length, None, refl, sym, subst, arith, All-from_recursion}
use Rattle.clfs_recover.proofs.Words.{recursion_from_All, container_of, offset_of, frontier, FitsAt, LogEntry, Files, AreReadAsWritten, BaseImage, State}
use Rattle.clfs_recover.proofs.Words.{Stream, name_fault, before_all, behind_all, IsValid, base_with, state_of, StandsFor, Parts}
use Rattle.std.proofs.lemmas.Bool.{lt-ltb}
use Rattle.clfs_model.specs.Flush.{flushed, cut}
use Rattle.clfs_model.specs.Storable.{GoesOnAt, HasMovedBase, IsAreaWithinLimits, IsStorable}
use Rattle.clfs_recover.proofs.FoundBases.{base_from_records}
use Rattle.clfs_recover.proofs.FoundParts.{AreImagesRead, AreOpened, found_opened}
use Rattle.clfs_recover.proofs.FoundStreams.{length-streams_with, all_streams, legal_name, base_there}
use Rattle.clfs_recover.proofs.KeptRecords.{weaker, from_both, kept_all}
use Rattle.clfs_recover.proofs.LaidBlocks.{BeginsAt}
use Rattle.clfs_recover.proofs.ReadBlocks.{ReadsFit}
use Rattle.clfs_recover.proofs.ValidStates.{frontier_is, below, same_length, base_is, valid}

module _ (parts : Parts) (buffers : ℕ) (is : AreOpened parts) where
  abbrev s : State
  s = state_of parts buffers

  abbrev image : BaseImage
  image = parts.image

  moved_base : (entry : LogEntry) → FitsAt entry.lsn (length image.streams) entry
      → (1 ≤ entry.stream → entry.new_base ≤ base_with image.streams parts.entries (entry.stream - 1)) → HasMovedBase s entry
  moved_base entry fits moved = record {
    own = fits.new_base;
    moved =
        let at = base_there image.streams parts.bases (same_length parts buffers is) s refl entry.stream fits.some_stream fits.stream in
        let base = base_is parts buffers is (entry.stream - 1) (omega (arith, fits.some_stream, fits.stream)) in
        let further = moved fits.some_stream in
        omega (arith, at, base, further);
  }

  pub goes_on : BeginsAt (behind_all before_all parts.entries) parts.place.container parts.place.offset → GoesOnAt (behind_all before_all parts.entries) parts.place
  goes_on (inl here) = inr (inl (λ i. record { container = sym here.0 i; offset = here.1 i; used = is.closed.0 i; records = is.closed.1 i }))
  goes_on (inr further) =
      inr (inr (further.0, λ i. record { container = parts.place.container; offset = further.1 i; used = is.closed.0 i; records = is.closed.1 i }))

  pub storable : IsStorable s
  storable = record {
    bases = All-from_recursion (HasMovedBase s) parts.entries
        (from_both (λ (entry : LogEntry). FitsAt entry.lsn (length image.streams) entry)
        (λ (entry : LogEntry). 1 ≤ entry.stream → entry.new_base ≤ base_with image.streams parts.entries (entry.stream - 1)) (HasMovedBase s) parts.entries moved_base
        is.laid.fit (recursion_from_All (λ (entry : LogEntry). 1 ≤ entry.stream → entry.new_base ≤ base_with image.streams parts.entries (entry.stream - 1))
        parts.entries (base_from_records image.streams parts.entries)));
    blocks = record {
      laid = is.laid.laid;
      place = goes_on is.laid.next;
      container = omega (arith, is.container_is, is.image_is.last_id);
    };
    limits = record {
      names = all_streams image.streams parts.bases (same_length parts buffers is) (λ (stream : Stream). name_fault stream.name ≡ None)
          (λ i lt. legal_name _ (is.current_is.rows.named i lt));
      few_streams =
          let long = length-streams_with image.streams parts.bases (same_length parts buffers is) in omega (arith, long, is.current_is.few_streams);
      few_areas = λ client. omega arith;
      areas = All-from_recursion (IsAreaWithinLimits s) [] tt;
    };
  }

  pub flushed_is : flushed s ≡ frontier parts.place
  flushed_is = sym (frontier_is parts buffers is)

  pub cut_is : cut s ≡ s
  cut_is =
      let low : parts.place.offset ≤ 8388608 = omega (arith, is.laid.within, is.image_is.shape.largest_container) in
      let container : container_of (flushed s) ≡ parts.place.container = omega (arith, low) in
      let offset : offset_of (flushed s) ≡ parts.place.offset = omega (arith, low, is.laid.whole) in
      let kept = kept_all (λ (entry : LogEntry). ltb entry.lsn (flushed s)) parts.entries
      (weaker (λ (entry : LogEntry). entry.lsn < flushed s) (λ (entry : LogEntry). ltb entry.lsn (flushed s) ≡ true) parts.entries
      (λ entry low. lt-ltb entry.lsn (flushed s) low) (below parts buffers is)) in
      λ i. record s {
        records = kept i;
        place = record { container = container i; offset = offset i; used = sym is.closed.0 i; records = sym is.closed.1 i };
      }

-- ---- files that stand for a state

module _ (images : AreImagesRead) (written : AreReadAsWritten) (reads : ReadsFit) (files : Files) (s : State) (stands : StandsFor files s) where
  opened : AreOpened stands.parts
  opened = found_opened images written reads files stands.parts stands.found

  pub stands_valid : 1 ≤ s.buffers → s.buffers ≤ 64 → IsValid s
  stands_valid some few = subst IsValid (sym stands.is) (valid stands.parts s.buffers opened some few)

  pub stands_storable : IsStorable s
  stands_storable = subst IsStorable (sym stands.is) (storable stands.parts s.buffers opened)

  pub stands_cut : cut s ≡ s
  stands_cut = subst (λ (t : State). cut t ≡ t) (sym stands.is) (cut_is stands.parts s.buffers opened)

  pub stands_flushed : flushed s ≡ frontier s.place
  stands_flushed = subst (λ (t : State). flushed t ≡ frontier t.place) (sym stands.is) (flushed_is stands.parts s.buffers opened)
