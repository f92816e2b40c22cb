-- How dumping ends, by what the dump answers.
use Rattle.std.proofs.Common.{◌≡◌, ℕ, zero, suc, ◌+◌, ◌≤◌, ◌⊎◌, min, List, [], ◌∷◌, ◌++◌, length, take, Result, Ok, Err, refl, sym, ap, ◌∙◌, subst, inl, inr, arith}
use Rattle.std.proofs.Math.Seq.{take-append-add}
use Rattle.std.proofs.lemmas.List.{append-nil}
use Rattle.std.specs.Prelude.{Option}
use Rattle.std.specs.Io.KnownBytes.{Appends}
use Rattle.clfs_lsn.specs.Place.{frontier}
use Rattle.clfs_ports.specs.Cause as ports
use Rattle.clfs_disk.specs.Files.{Files, Unchanged}
use Rattle.clfs_disk.specs.State.{DiskState, TellsContents, Passes}
use Rattle.clfs_recover.specs.Files.{Finds}
use Rattle.clfs_recover.specs.declared.parts.Parts.{Parts}
use Rattle.clfs_recover.specs.declared.refusal.LoadRefusal.{LoadRefusal}
use Rattle.clfs_recover.specs.declared.refusal.LoadRefusal.TheVariants.{NoBase, Damaged, DiskFault}
use Rattle.clfs_dump.specs.Printing as dump
use Rattle.clfs_dump.specs.Telling.{files_told, dump_text}
use Rattle.clfs_dump.specs.declared.selection.Selection.{Selection}
use Rattle.clfs_operations.specs.Check.{IsCheckStatus}
use Rattle.clfs_operations.specs.Complete.{IsDone, NothingFailsChecking}
use Rattle.clfs_operations.specs.Dump.{no_base_line, printed_text, IsDumpOfLog, IsDumpOfNoLog, EndsDump}
use Rattle.clfs_lines.specs.Ends.{AppendsFront}
use Rattle.clfs_operations.specs.Ends.{disk_fault_text}
use Rattle.clfs_operations.specs.Opened.{IsNoLog, RefusesLog, no_log_text}
use Rattle.std.proofs.KnownBytes.{Appends-nil}
use Rattle.clfs_operations.proofs.Written.{appends_more}

-- opening finds something in files, and a dump tells it
pub record DumpLaws : Type 0 where
  pub some : (files : Files) → (found : Result Parts LoadRefusal) × Finds files found
  pub end : (selection : Selection) (files : Files) (parts : Parts) → Finds files (Ok parts) → (files_told selection files).found ≡ Ok (frontier parts.place)
  pub records : (selection : Selection) (files : Files) (parts : Parts) → Finds files (Ok parts) → (files_told selection files).records ≡ parts.entries
  pub refused : (selection : Selection) (files : Files) (refusal : LoadRefusal) → Finds files (Err refusal) → (files_told selection files).found ≡ Err refusal

-- ---- what was found

module _ (laws : DumpLaws) (selection : Selection) (files : Files) where
  is_log : (lsn : ℕ) → (files_told selection files).found ≡ Ok lsn → IsDumpOfLog selection files
  is_log lsn is = by_found (laws.some files).0 (laws.some files).1
    where
      by_found : (found : Result Parts LoadRefusal) → Finds files found → IsDumpOfLog selection files
      by_found (Ok parts) finds =
          record { parts = parts; found = finds; records = laws.records selection files parts finds; end = laws.end selection files parts finds }
      by_found (Err refusal) finds = let e = sym (laws.refused selection files refusal finds) ∙ is in absurd (cc e)

  is_no_log : (refusal : LoadRefusal) → IsNoLog refusal → (files_told selection files).found ≡ Err refusal → IsDumpOfNoLog selection files
  is_no_log refusal none is = by_found (laws.some files).0 (laws.some files).1
    where
      by_found : (found : Result Parts LoadRefusal) → Finds files found → IsDumpOfNoLog selection files
      by_found (Ok parts) finds = let e = sym (laws.end selection files parts finds) ∙ is in absurd (cc e)
      by_found (Err other) finds =
          let e = sym (laws.refused selection files other finds) ∙ is in
          let same : other ≡ refusal = cc e in
          record { refusal = refusal; no_log = none; found = subst (λ (r : LoadRefusal). Finds files (Err r)) same finds; told = is }

-- ---- what was written

take_short : (n : ℕ) (xs ys : List ℕ) → take (min n (length xs)) (xs ++ ys) ≡ take n xs
take_short zero xs ys = let e : min 0 (length xs) ≡ 0 = omega arith in ap (λ (k : ℕ). take k (xs ++ ys)) e
take_short (suc n) [] ys = let e : min (suc n) 0 ≡ 0 = omega arith in ap (λ (k : ℕ). take k ys) e
take_short (suc n) (x ∷ xs) ys =
    let e : min (suc n) (suc (length xs)) ≡ suc (min n (length xs)) = omega arith in
    ap (λ (k : ℕ). take k (x ∷ xs ++ ys)) e ∙ ap (λ (l : List ℕ). x ∷ l) (take_short n xs ys)

-- a front of what comes after a text
front_after : (a b c : Option (List ℕ)) (xs ys : List ℕ) → Appends a b xs → AppendsFront b c ys → AppendsFront a c (xs ++ ys)
front_after a b c xs ys first front = record {
  count = length xs + front.count;
  front = appends_more a b c xs (take front.count ys) (take (length xs + front.count) (xs ++ ys)) (take-append-add xs ys front.count) first front.front;
}

module _ (selection : Selection) (files : Files) (a b : Option (List ℕ)) where
  -- all of it, if a slot is open
  all_printed : no_base_line (files_told selection files).found ≡ [] → Appends a b (dump_text selection files) → Appends a b (printed_text selection files)
  all_printed none all =
      subst (λ (l : List ℕ). Appends a b l)
      (sym (ap (λ (l : List ℕ). dump_text selection files ++ l) none ∙ append-nil (dump_text selection files))) all

  -- a front of it
  front_printed : dump.AppendsFront a b (dump_text selection files) → AppendsFront a b (printed_text selection files)
  front_printed front = record {
    count = min front.count (length (dump_text selection files));
    front = subst (λ (l : List ℕ). Appends a b l)
        (sym (take_short front.count (dump_text selection files) (no_base_line (files_told selection files).found))) front.front;
  }

  -- the line that no slot is open comes last
  line_last : (files_told selection files).found ≡ Err NoBase → dump_text selection files ++ no_log_text NoBase ≡ printed_text selection files
  line_last is = sym (ap (λ (f : Result ℕ LoadRefusal). dump_text selection files ++ no_base_line f) is)

-- ---- how dumping ends

module _ (laws : DumpLaws) (selection : Selection) (old new : DiskState) (a b : Option (List ℕ)) (sink mid : ℕ)
    (same : Unchanged old.files new.files) (time : Passes Unchanged old new) (later : sink ≤ mid) where
  -- at the log's end
  pub ends_done : (lsn : ℕ)
      → (TellsContents old → Appends a b (dump_text selection old.files) × ((files_told selection old.files).found ≡ Ok lsn))
      → EndsDump selection 0 old new a b sink mid
  ends_done lsn prints = record {
    statuses = inl refl;
    done = λ e tells. let p = prints tells in (is_log laws selection old.files lsn p.1, all_printed selection old.files a b (ap no_base_line p.1) p.0);
    sink_fault = λ e. absurd (omega (arith, e));
    sink_fault_front = λ e. absurd (omega (arith, e));
    disk_fault = λ e. absurd (omega (arith, e));
    disk_fault_line = λ e. absurd (omega (arith, e));
    no_memory_front = λ e. absurd (omega (arith, e));
    no_log = λ e. absurd (omega (arith, e));
    same = same;
    time = time;
    sink_count = later;
  }

  -- at the first wrong byte
  pub ends_damaged : (container offset at : ℕ)
      → (TellsContents old → Appends a b (dump_text selection old.files) × ((files_told selection old.files).found ≡ Err (Damaged container offset at)))
      → EndsDump selection 6 old new a b sink mid
  ends_damaged container offset at prints = record {
    statuses = inr (inr (inr (inr refl)));
    done = λ e. absurd (omega (arith, e));
    sink_fault = λ e. absurd (omega (arith, e));
    sink_fault_front = λ e. absurd (omega (arith, e));
    disk_fault = λ e. absurd (omega (arith, e));
    disk_fault_line = λ e. absurd (omega (arith, e));
    no_memory_front = λ e. absurd (omega (arith, e));
    no_log = λ e tells.
        let p = prints tells in
        (is_no_log laws selection old.files (Damaged container offset at) tt p.1, all_printed selection old.files a b (ap no_base_line p.1) p.0);
    same = same;
    time = time;
    sink_count = later;
  }

  -- where memory ran out
  pub ends_short : (TellsContents old → dump.AppendsFront a b (dump_text selection old.files)) → EndsDump selection 5 old new a b sink mid
  ends_short prints = record {
    statuses = inr (inr (inr (inl refl)));
    done = λ e. absurd (omega (arith, e));
    sink_fault = λ e. absurd (omega (arith, e));
    sink_fault_front = λ e. absurd (omega (arith, e));
    disk_fault = λ e. absurd (omega (arith, e));
    disk_fault_line = λ e. absurd (omega (arith, e));
    no_memory_front = λ e tells. front_printed selection old.files a b (prints tells);
    no_log = λ e. absurd (omega (arith, e));
    same = same;
    time = time;
    sink_count = later;
  }

  -- where the sink failed
  pub ends_cut : ports.Rises sink mid → (TellsContents old → dump.AppendsFront a b (dump_text selection old.files))
      → EndsDump selection 3 old new a b sink mid
  ends_cut rises prints = record {
    statuses = inr (inl refl);
    done = λ e. absurd (omega (arith, e));
    sink_fault = λ e. rises;
    sink_fault_front = λ e tells. inl (front_printed selection old.files a b (prints tells));
    disk_fault = λ e. absurd (omega (arith, e));
    disk_fault_line = λ e. absurd (omega (arith, e));
    no_memory_front = λ e. absurd (omega (arith, e));
    no_log = λ e. absurd (omega (arith, e));
    same = same;
    time = time;
    sink_count = later;
  }

  -- a last line was written, or the sink failed in it
  module _ (result : ℕ) (c : Option (List ℕ)) (sink' : ℕ) (cause : result ≡ 3 → ports.Rises mid sink') (last : mid ≤ sink') where
    rises : result ≡ 3 → ports.Rises sink sink'
    rises e = omega (arith, cause e, later, last)

    -- no slot is open
    pub ends_without_base :
        (TellsContents old → Appends a b (dump_text selection old.files) × ((files_told selection old.files).found ≡ Err NoBase))
        → (result ≡ 6) ⊎ (result ≡ 3) → (result ≡ 6 → Appends b c (no_log_text NoBase)) → (result ≡ 3 → AppendsFront b c (no_log_text NoBase))
        → EndsDump selection result old new a c sink sink'
    ends_without_base prints ends whole front = record {
      statuses = statuses ends;
      done = λ e. absurd (never 0 ends e (inl refl));
      sink_fault = rises;
      sink_fault_front = λ e tells.
          let p = prints tells in
          inl (subst (λ (l : List ℕ). AppendsFront a c l) (line_last selection old.files a b p.1)
          (front_after a b c (dump_text selection old.files) (no_log_text NoBase) p.0 (front e)));
      disk_fault = λ e. absurd (never 4 ends e (inr (inl refl)));
      disk_fault_line = λ e. absurd (never 4 ends e (inr (inl refl)));
      no_memory_front = λ e. absurd (never 5 ends e (inr (inr refl)));
      no_log = λ e tells.
          let p = prints tells in (
            is_no_log laws selection old.files NoBase tt p.1,
            appends_more a b c (dump_text selection old.files) (no_log_text NoBase) (printed_text selection old.files)
                (sym (line_last selection old.files a b p.1)) p.0 (whole e),
          );
      same = same;
      time = time;
      sink_count = omega (arith, later, last);
    }
      where
        statuses : (result ≡ 6) ⊎ (result ≡ 3) → IsCheckStatus result
        statuses (inl e) = inr (inr (inr (inr e)))
        statuses (inr e) = inr (inl e)

        never : (k : ℕ) → (result ≡ 6) ⊎ (result ≡ 3) → result ≡ k → (k ≡ 0) ⊎ ((k ≡ 4) ⊎ (k ≡ 5)) → ⊥
        never k (inl e) f (inl g) = omega (arith, e, f, g)
        never k (inl e) f (inr (inl g)) = omega (arith, e, f, g)
        never k (inl e) f (inr (inr g)) = omega (arith, e, f, g)
        never k (inr e) f (inl g) = omega (arith, e, f, g)
        never k (inr e) f (inr (inl g)) = omega (arith, e, f, g)
        never k (inr e) f (inr (inr g)) = omega (arith, e, f, g)

    -- the disk failed
    pub ends_faulted : RefusesLog DiskFault old new → (TellsContents old → dump.AppendsFront a b (dump_text selection old.files))
        → (result ≡ 4) ⊎ (result ≡ 3) → (result ≡ 4 → Appends b c disk_fault_text) → (result ≡ 3 → AppendsFront b c disk_fault_text)
        → EndsDump selection result old new a c sink sink'
    ends_faulted fault prints ends whole front = record {
      statuses = statuses ends;
      done = λ e. absurd (never 0 ends e (inl refl));
      sink_fault = rises;
      sink_fault_front = λ e tells.
          let start = front_printed selection old.files a b (prints tells) in
          inr (record {
            fault = fault;
            text = take start.count (printed_text selection old.files) ++ disk_fault_text;
            is = record { count = start.count; is = refl };
            front = front_after a b c (take start.count (printed_text selection old.files)) disk_fault_text start.front (front e);
          });
      disk_fault = λ e. fault;
      disk_fault_line = λ e tells.
          let start = front_printed selection old.files a b (prints tells) in (
            take start.count (printed_text selection old.files) ++ disk_fault_text,
            record { count = start.count; is = refl },
            appends_more a b c (take start.count (printed_text selection old.files)) disk_fault_text _ refl start.front (whole e),
          );
      no_memory_front = λ e. absurd (never 5 ends e (inr (inl refl)));
      no_log = λ e. absurd (never 6 ends e (inr (inr refl)));
      same = same;
      time = time;
      sink_count = omega (arith, later, last);
    }
      where
        statuses : (result ≡ 4) ⊎ (result ≡ 3) → IsCheckStatus result
        statuses (inl e) = inr (inr (inl e))
        statuses (inr e) = inr (inl e)

        never : (k : ℕ) → (result ≡ 4) ⊎ (result ≡ 3) → result ≡ k → (k ≡ 0) ⊎ ((k ≡ 5) ⊎ (k ≡ 6)) → ⊥
        never k (inl e) f (inl g) = omega (arith, e, f, g)
        never k (inl e) f (inr (inl g)) = omega (arith, e, f, g)
        never k (inl e) f (inr (inr g)) = omega (arith, e, f, g)
        never k (inr e) f (inl g) = omega (arith, e, f, g)
        never k (inr e) f (inr (inl g)) = omega (arith, e, f, g)
        never k (inr e) f (inr (inr g)) = omega (arith, e, f, g)

-- no call, no time
stands : (disk : DiskState) → Passes Unchanged disk disk
stands disk = record {
  later = omega arith;
  past = λ moment image le at. at;
  kept = λ moment image le at. at;
  images = λ moment image after until at. absurd (omega (arith, after, until));
  faults = omega arith;
  nature = refl;
}

-- before anything was read
pub ends_unread : (selection : Selection) (old : DiskState) (a : Option (List ℕ)) (sink : ℕ) → EndsDump selection 5 old old a a sink sink
ends_unread selection old a sink = record {
  statuses = inr (inr (inr (inl refl)));
  done = λ e. absurd (omega (arith, e));
  sink_fault = λ e. absurd (omega (arith, e));
  sink_fault_front = λ e. absurd (omega (arith, e));
  disk_fault = λ e. absurd (omega (arith, e));
  disk_fault_line = λ e. absurd (omega (arith, e));
  no_memory_front = λ e tells. record { count = 0; front = Appends-nil a };
  no_log = λ e. absurd (omega (arith, e));
  same = λ file. refl;
  time = stands old;
  sink_count = omega arith;
}

-- if nothing outside fails dumping is done
pub dumping_is_done : DumpLaws → (selection : Selection) (status : ℕ) (old new : DiskState) (written written' : Option (List ℕ)) (sink sink' : ℕ)
    → EndsDump selection status old new written written' sink sink' → NothingFailsChecking old new sink sink' → IsDone status
dumping_is_done laws selection status old new written written' sink sink' ends calm = by_status ends.statuses
  where
    by_disk : status ≡ 4 → IsDone status
    by_disk e = elim calm.disk [
      | inl still ↦ absurd (still ((ends.disk_fault e).cause refl))
      | inr steady ↦ absurd ((ends.disk_fault e).steady steady refl)
    ]

    no_log : status ≡ 6 → ⊥
    no_log e =
        let none = (ends.no_log e calm.log.told).0 in
        let stands = calm.log.stands in
        let both = sym (laws.end selection old.files stands.parts stands.found) ∙ none.told in
        cc both

    by_status : IsCheckStatus status → IsDone status
    by_status (inl e) = inl e
    by_status (inr (inl e)) = absurd (calm.sink_calm (ends.sink_fault e))
    by_status (inr (inr (inl e))) = by_disk e
    by_status (inr (inr (inr (inl e)))) = inr e
    by_status (inr (inr (inr (inr e)))) = absurd (no_log e)
