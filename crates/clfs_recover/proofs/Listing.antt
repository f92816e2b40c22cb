-- The listed containers as the walk takes them in, one after the other, whatever the disk told.
use Rattle.clfs_recover.proofs.Words.{◌≡◌, ℕ, suc, zero, ◌+◌, ◌<◌, ◌≤◌, List, [], ◌∷◌, ◌++◌, length, get_or, take, Ok, refl, sym, ◌∙◌, ap, subst, arith}
use Rattle.clfs_recover.proofs.Words.{append_assoc, length-append, append-nil, length-take-le, take_all, take_more, All-nil, All-push, LogEntry, Shape, Row}
use Rattle.clfs_recover.proofs.Words.{Files, AreOpen, AreWhole, total, Container, container_records, listed_records, last_end, AreListed, HaveBlocks}
use Rattle.clfs_recover.proofs.Words.{stored_in, stored_records, stored_end, LieIn, HasTaken, TakesContainer, TakesListed, RefusesAs, LoadRefusal, NoBase}
use Rattle.clfs_recover.proofs.Words.{Damaged, DiskFault, NoMemory}
use Rattle.clfs_recover.proofs.Joined.{Records, joined, joined_nil, joined_assoc, AreBoth, both_there}
use Rattle.clfs_recover.proofs.Meanings.{OneList, WholeAreOpen, whole_is}

-- the end of the last of some containers, or where the one before them ended
abbrev pub end_behind : ℕ → List Container → ℕ
end_behind end [] = end
end_behind end (container ∷ containers) = last_end (container ∷ containers)

pub ends_on : (container : Container) (others : List Container) → last_end (container ∷ others) ≡ end_behind (total container.blocks) others
ends_on container [] = refl
ends_on container (other ∷ others) = refl

-- ---- records of containers, and those of more containers after them

module _ (shape : Shape) (streams : ℕ) where
  containers_append : (id : ℕ) (some more : List (List (List ℕ)))
      → stored_records shape streams id (some ++ more)
      ≡ joined (stored_records shape streams id some) (stored_records shape streams (id + length some) more)
  containers_append id [] more =
      let e : id ≡ id + 0 = omega arith in
      ap (λ (n : ℕ). stored_records shape streams n more) e ∙ sym (joined_nil (stored_records shape streams (id + 0) more))
  containers_append id (container ∷ others) more =
      let e : id + 1 + length others ≡ id + suc (length others) = omega arith in
      let own : Records = stored_in shape streams id 0 container in
      ap (joined own) (containers_append (id + 1) others more)
      ∙ joined_assoc own (stored_records shape streams (id + 1) others) (stored_records shape streams (id + 1 + length others) more)
      ∙ ap (λ (n : ℕ). joined (joined own (stored_records shape streams (id + 1) others)) (stored_records shape streams n more)) e

  -- a container more
  pub containers_more : (id : ℕ) (some : List (List (List ℕ))) (container : List (List ℕ)) (entries es : List LogEntry)
      → stored_records shape streams id some ≡ Ok entries → stored_in shape streams (id + length some) 0 container ≡ Ok es
      → stored_records shape streams id (some ++ container ∷ []) ≡ Ok (entries ++ es)
  containers_more id some container entries es so_far is =
      containers_append id some (container ∷ [])
      ∙ ap (λ (r : Records). joined r (joined (stored_in shape streams (id + length some) 0 container) (Ok []))) so_far
      ∙ ap (λ (r : Records). joined (Ok entries) (joined r (Ok []))) is
      ∙ ap (λ (l : List LogEntry). Ok (entries ++ l)) (append-nil es)

-- ---- a container more

have_more : (sectors : ℕ) (files : Files) (numbers : List ℕ) (some : List (List (List ℕ))) (number : ℕ) (container : List (List ℕ))
    → HaveBlocks sectors files numbers some → AreWhole sectors (files number) container
    → HaveBlocks sectors files (numbers ++ number ∷ []) (some ++ container ∷ [])
have_more sectors files [] [] number container have whole = (whole, tt)
have_more sectors files [] (c ∷ cs) number container have whole = absurd have
have_more sectors files (n ∷ ns) [] number container have whole = absurd have
have_more sectors files (n ∷ ns) (c ∷ cs) number container have whole = (have.0, have_more sectors files ns cs number container have.1 whole)

end_more : (some : List (List (List ℕ))) (container : List (List ℕ)) → stored_end (some ++ container ∷ []) ≡ total container
end_more [] container = refl
end_more (c ∷ []) container = refl
end_more (c ∷ d ∷ cs) container = end_more (d ∷ cs) container

module _ (shape : Shape) (streams first : ℕ) (told : Type 0) (files : Files) (numbers : List ℕ) where
  -- the containers in the first of these files were taken in
  abbrev pub HaveTaken : (List LogEntry → Type 0) → List Row → List ℕ → List LogEntry → ℕ → ℕ → Type 0
  HaveTaken has rows bases before i end = TakesListed shape streams first told files (take i numbers) has rows bases before end

  pub starts_listed : (has : List LogEntry → Type 0) (rows : List Row) (bases : List ℕ) (before : List LogEntry) → HasTaken has rows bases before
      → HaveTaken has rows bases before 0 0
  starts_listed has rows bases before taken = record {
    blocks = [];
    entries = [];
    listed = refl;
    lie = All-nil (LieIn shape.container_sectors);
    records = refl;
    ends = refl;
    stand = λ is_told. tt;
    taken = subst (λ (l : List LogEntry). HasTaken has rows bases l) (sym (append-nil before)) taken;
  }

  module _ (has : List LogEntry → Type 0) (rows : List Row) (bases : List ℕ) (before : List LogEntry) (i end : ℕ)
      (at : HaveTaken has rows bases before i end) where
    pub all_listed : length numbers ≤ i → TakesListed shape streams first told files numbers has rows bases before end
    all_listed far = subst (λ (l : List ℕ). TakesListed shape streams first told files l has rows bases before end) (take_all i numbers far) at

    pub goes_on_listed : i < length numbers → (now : List LogEntry → Type 0) (moved : List ℕ) (stop : ℕ)
        → TakesContainer shape streams (first + i) told (files (get_or numbers i 0)) now rows moved (before ++ at.entries) stop
        → HaveTaken now rows moved before (i + 1) stop
    goes_on_listed near now moved stop one =
        let number : ℕ = get_or numbers i 0 in
        let more : take (i + 1) numbers ≡ take i numbers ++ number ∷ [] = take_more numbers i 0 near in
        let count : length at.blocks ≡ i = at.listed ∙ length-take-le i numbers (omega (arith, near)) in
        subst (λ (l : List ℕ). TakesListed shape streams first told files l now rows moved before stop) (sym more) (record {
          blocks = at.blocks ++ one.blocks ∷ [];
          entries = at.entries ++ one.entries;
          listed = length-append at.blocks (one.blocks ∷ []) ∙ ap (λ (n : ℕ). n + 1) at.listed ∙ sym (length-append (take i numbers) (number ∷ []));
          lie = All-push (LieIn shape.container_sectors) at.blocks one.blocks at.lie one.lie;
          records = containers_more shape streams first at.blocks one.blocks at.entries one.entries at.records
              (ap (λ (n : ℕ). stored_in shape streams (first + n) 0 one.blocks) count ∙ one.records);
          ends = end_more at.blocks one.blocks ∙ one.ends;
          stand = λ is_told. have_more shape.container_sectors files (take i numbers) at.blocks number one.blocks (at.stand is_told) (one.stand is_told);
          taken = subst (λ (l : List LogEntry). HasTaken now rows moved l) (append_assoc before at.entries one.entries) one.taken;
        })

-- ---- a container that is refused

-- what was taken in of a container, where the same is named otherwise
pub taken_otherwise : (shape : Shape) (id streams others : ℕ) (told still : Type 0) (bytes same : List ℕ) (has : List LogEntry → Type 0) (rows : List Row)
    (bases : List ℕ) (before : List LogEntry) (end : ℕ) → streams ≡ others → (still → told) → bytes ≡ same
    → TakesContainer shape streams id told bytes has rows bases before end → TakesContainer shape others id still same has rows bases before end
taken_otherwise shape id streams others told still bytes same has rows bases before end p tells q one = record {
  blocks = one.blocks;
  entries = one.entries;
  lie = one.lie;
  records = subst (λ (n : ℕ). stored_in shape n id 0 one.blocks ≡ Ok one.entries) p one.records;
  ends = one.ends;
  stand = λ is_told. subst (λ (l : List ℕ). AreWhole shape.container_sectors l one.blocks) q (one.stand (tells is_told));
  taken = one.taken;
}

-- and what it is refused for
pub refused_otherwise : (refusal : LoadRefusal) (shape : Shape) (id streams others : ℕ) (bytes same : List ℕ) → streams ≡ others → bytes ≡ same
    → ((blocks : List (List ℕ)) → AreOpen shape.container_sectors bytes blocks
    → RefusesAs refusal (container_records shape streams id (record { bytes = bytes; blocks = blocks })))
    → (blocks : List (List ℕ)) → AreOpen shape.container_sectors same blocks
    → RefusesAs refusal (container_records shape others id (record { bytes = same; blocks = blocks }))
refused_otherwise refusal shape id streams others bytes same p q refuses =
    subst (λ (l : List ℕ). (blocks : List (List ℕ)) → AreOpen shape.container_sectors l blocks
    → RefusesAs refusal (container_records shape others id (record { bytes = l; blocks = blocks }))) q
    (subst (λ (n : ℕ). (blocks : List (List ℕ)) → AreOpen shape.container_sectors bytes blocks
    → RefusesAs refusal (container_records shape n id (record { bytes = bytes; blocks = blocks }))) p refuses)

-- a refusal stands, whatever comes after it, and after records that were taken in
refused_first : (refusal : LoadRefusal) (r s : Records) → RefusesAs refusal r → RefusesAs refusal (joined r s)
refused_first NoBase r s refuses = refuses
refused_first (Damaged container offset at) r s refuses = ap (λ (read : Records). joined read s) refuses
refused_first DiskFault r s refuses = tt
refused_first NoMemory r s refuses = tt

refused_behind : (refusal : LoadRefusal) (own : List LogEntry) (r s : Records) → r ≡ Ok own → RefusesAs refusal s → RefusesAs refusal (joined r s)
refused_behind NoBase own r s is refuses = refuses
refused_behind (Damaged container offset at) own r s is refuses = ap (λ (read : Records). joined read s) is ∙ ap (joined (Ok own)) refuses
refused_behind DiskFault own r s is refuses = tt
refused_behind NoMemory own r s is refuses = tt

module _ (one : OneList) (open_too : WholeAreOpen) (shape : Shape) (streams : ℕ) (files : Files) (refusal : LoadRefusal) where
  -- After containers that were taken in, what the next is refused for, all are.
  pub listed_refused : (numbers : List ℕ) (i first : ℕ) (some : List (List (List ℕ))) (entries : List LogEntry) (listed : List Container)
      → HaveBlocks shape.container_sectors files (take i numbers) some → stored_records shape streams first some ≡ Ok entries → i < length numbers
      → AreListed shape.container_sectors files numbers listed
      → ((blocks : List (List ℕ)) → AreOpen shape.container_sectors (files (get_or numbers i 0)) blocks
      → RefusesAs refusal (container_records shape streams (first + i) (record { bytes = files (get_or numbers i 0); blocks = blocks })))
      → RefusesAs refusal (listed_records shape streams first listed)
  listed_refused [] i first some entries listed have read near are refuses = absurd (omega (arith, near))
  listed_refused (n ∷ ns) i first some entries [] have read near are refuses = absurd are
  listed_refused (n ∷ ns) zero first some entries (c ∷ cs) have read near are refuses =
      let e : first + 0 ≡ first = omega arith in
      let own = refuses c.blocks (subst (λ (l : List ℕ). AreOpen shape.container_sectors l c.blocks) are.0 are.1) in
      refused_first refusal (container_records shape streams first c) (listed_records shape streams (first + 1) cs)
      (subst (λ (k : ℕ). RefusesAs refusal (container_records shape streams k c)) e
      (subst (λ (l : List ℕ). RefusesAs refusal (container_records shape streams (first + 0) (record { bytes = l; blocks = c.blocks }))) (sym are.0) own))
  listed_refused (n ∷ ns) (suc i) first [] entries (c ∷ cs) have read near are refuses = absurd have
  listed_refused (n ∷ ns) (suc i) first (b ∷ bs) entries (c ∷ cs) have read near are refuses =
      let both : AreBoth (stored_in shape streams first 0 b) (stored_records shape streams (first + 1) bs) entries =
      both_there (stored_in shape streams first 0 b) (stored_records shape streams (first + 1) bs) entries read in
      let whole : AreWhole shape.container_sectors c.bytes b = subst (λ (l : List ℕ). AreWhole shape.container_sectors l b) (sym are.0) have.0 in
      let same : c.blocks ≡ b = one shape.container_sectors c.bytes c.blocks b are.1 (open_too shape.container_sectors c.bytes b whole) in
      let own : container_records shape streams first c ≡ Ok both.own =
      ap (λ (l : List (List ℕ)). container_records shape streams first (record { bytes = c.bytes; blocks = l })) same
      ∙ whole_is shape streams first c.bytes b whole ∙ both.first in
      let further : first + suc i ≡ first + 1 + i = omega arith in
      refused_behind refusal both.own (container_records shape streams first c) (listed_records shape streams (first + 1) cs) own
      (listed_refused ns i (first + 1) bs both.others cs have.1 both.second (omega (arith, near)) are.2
      (λ blocks are_open. subst (λ (k : ℕ). RefusesAs refusal (container_records shape streams k (record { bytes = files (get_or ns i 0); blocks = blocks })))
      further (refuses blocks are_open)))
