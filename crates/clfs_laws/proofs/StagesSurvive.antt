-- The flushed parts of the states between the small changes of a call survive the call.
use Rattle.clfs_laws.proofs.Words.{◌≡◌, ℕ, ◌+◌, ◌*◌, ◌≤◌, ◌^◌, refl, sym, ap, ◌∙◌, subst, inl, inr, ◌⊎◌, arith, List, [], ◌∷◌, ◌++◌, length, Any, nat_lt}
use Rattle.clfs_laws.proofs.Words.{AllByRecursion, append-nil, filter-append, container_of, offset_of, sectors, frontier, Place, LogEntry, State, Stream}
use Rattle.clfs_laws.proofs.Words.{base_of, flushed, cut, next_lsn, put, Request, HasBlocks, IsStorable, HasSettings, HasBases, HasBasesOfRequest}
use Rattle.clfs_laws.proofs.Words.{EndsBlockOf, IsSurvivor, IsValid, HasSpaceLaws, MayPut, readied, ready_stages}
use Rattle.clfs_laws.proofs.Among.{IsAmong}
use Rattle.clfs_laws.proofs.CutPlaces.{frontier_cut, splits_none, any_among, among_front, cut_ends, paid_front, at_lsn}
use Rattle.clfs_laws.proofs.CutSurvives.{its_own}
use Rattle.clfs_laws.proofs.FallingLists.{below_lsn}
use Rattle.clfs_laws.proofs.KeptSettings.{kept_back, kept_on, kept_cut}
use Rattle.clfs_laws.proofs.ReadyStages.{IsStage, IsReadying, readying, IsPutBehind, put_behind}
use Rattle.clfs_laws.proofs.SurvivingRecords.{AreAbove, none_below}
use Rattle.clfs_laws.proofs.ValidCuts.{flushed_block}
use Rattle.clfs_laws.proofs.ValidPuts.{placed}

-- a state that a call begins its changes of records with: what is on the disk is as it was
pub record IsBegun (s u : State) : Type 0 where
  pub valid : IsValid u
  pub blocks : HasBlocks u
  pub shape : u.shape ≡ s.shape
  pub dedicated : u.dedicated ≡ s.dedicated
  pub streams : u.streams ≡ s.streams
  pub flushed : flushed u ≡ flushed s

-- a state from which a call goes on to the one that it leaves
pub record LeadsTo (v t : State) : Type 0 where
  pub more : List LogEntry
  pub joined : t.records ≡ v.records ++ more
  pub above : AreAbove (flushed v) more
  pub settings : HasSettings v t
  pub rises : flushed v ≤ flushed t

-- records at or above the end of a block leave it the end
ends_still : (records more : List LogEntry) (place : Place) → AreAbove (frontier place) more → place.records ≡ 0
    → (entry : LogEntry) → EndsBlockOf records place entry → EndsBlockOf (records ++ more) place entry
ends_still records more place above closed entry (inl ends) =
    let bound : container_of entry.lsn * 2 ^ 32 + offset_of entry.lsn + 512 ≤ frontier place = omega (arith, ends.0, ends.1, closed) in
    let same = paid_front (container_of entry.lsn) (offset_of entry.lsn) (frontier place) records more bound above in
    let E : ℕ → Type 0 = λ n. place.offset ≡ offset_of entry.lsn + 512 * sectors (16 + n) in
    inl (ends.0, subst E (sym same) ends.1)
ends_still records more place above closed entry (inr further) = inr further

-- what is so of some record of a front is so of some of all
any_front : (P Q : LogEntry → Type 0) (records more : List LogEntry) → ((entry : LogEntry) → P entry → Q entry) → Any P records → Any Q (records ++ more)
any_front P Q records more each any =
    let F : LogEntry → Type 0 = λ entry. IsAmong entry records in
    let among : IsAmong any.1 records = subst F any.3 (its_own records any.0 any.1 any.2) in
    any_among Q (records ++ more) any.1 (among_front records more any.1 among) (each any.1 any.4)

-- where the flushed part of a state within a call begins
stage_ends : (s u v t : State) → IsBegun s u → IsStage u v → LeadsTo v t
    → ((cut v).place ≡ (cut s).place) ⊎ Any (EndsBlockOf t.records (cut v).place) t.records
stage_ends s u v t begun stage leads = by_place (cut_ends u v begun.valid stage.valid begun.blocks stage.blocks stage.adds stage.turn stage.rises)
  where
    by_place : ((cut v).place ≡ (cut u).place) ⊎ Any (EndsBlockOf v.records (cut v).place) v.records
        → ((cut v).place ≡ (cut s).place) ⊎ Any (EndsBlockOf t.records (cut v).place) t.records
    by_place (inl same) = inl (same ∙ ap at_lsn begun.flushed)
    by_place (inr ends) =
        let place : Place = (cut v).place in
        let A : ℕ → Type 0 = λ lsn. AreAbove lsn leads.more in
        let above : A (frontier place) = subst A (sym (frontier_cut v stage.valid)) leads.above in
        let E : List LogEntry → Type 0 = λ entries. Any (EndsBlockOf entries place) entries in
        inr (subst E (sym leads.joined) (any_front (EndsBlockOf v.records place) (EndsBlockOf (v.records ++ leads.more) place) v.records leads.more
        (ends_still v.records leads.more place above refl) ends))

-- the bases of the flushed part are those before the call
pub stage_bases : (s u v : State) → IsBegun s u → IsStage u v → HasBases s (cut v)
stage_bases s u v begun stage stream =
    ap (λ (streams : List Stream). base_of (record s { streams = streams }) stream) (stage.streams ∙ begun.streams)

-- the flushed part of a state within a call survives the call
pub stage_survives : (asked : Request) (s u v t : State) → IsBegun s u → IsStage u v → LeadsTo v t → HasBasesOfRequest asked s t (cut v)
    → IsSurvivor asked s t (cut v)
stage_survives asked s u v t begun stage leads bases =
    let at = frontier_cut v stage.valid in
    let block = flushed_block v stage.valid in
    let settings = kept_cut t v (kept_back v t leads.settings) in
    let same_records : below_lsn (flushed v) t.records ≡ (cut v).records =
    ap (below_lsn (flushed v)) leads.joined
    ∙ filter-append (λ (entry : LogEntry). nat_lt entry.lsn (flushed v)) v.records leads.more
    ∙ ap (λ (more : List LogEntry). below_lsn (flushed v) v.records ++ more) (none_below (flushed v) leads.more leads.above)
    ∙ append-nil (below_lsn (flushed v) v.records) in
    record {
      shape = stage.turn.shape ∙ begun.shape;
      dedicated = stage.turn.dedicated ∙ begun.dedicated;
      place = record {
        closed = (refl, refl);
        from = omega (arith, at, stage.rises, begun.flushed);
        to = omega (arith, at, leads.rises);
        end = stage_ends s u v t begun stage leads;
        whole_blocks = splits_none t.records (cut v).place (omega (arith, at, block.sequence));
      };
      records = sym (ap (λ (lsn : ℕ). below_lsn lsn t.records) at ∙ same_records);
      settings = inr settings;
      new_settings = λ more. settings;
      bases = λ stream. inl (stage_bases s u v begun stage stream);
      bases_of_request = bases;
      no_areas = refl;
      nothing_waits = refl;
      whole = refl;
    }

-- the state that a call leaves where a record joins the one that it began with
pub record IsFollowed (u t : State) (entry : LogEntry) : Type 0 where
  pub joined : t.records ≡ u.records ++ placed entry (next_lsn u (length entry.bytes)) ∷ []
  pub settings : HasSettings u t
  pub rises : flushed (put u entry) ≤ flushed t

-- a state before the record joins
ready_leads : (u v r t : State) (entry : LogEntry) → IsReadying u r v → IsPutBehind u r entry → IsFollowed u t entry → LeadsTo v t
ready_leads u v r t entry is behind follows =
    let new : LogEntry = placed entry (next_lsn u (length entry.bytes)) in
    record {
      more = new ∷ [];
      joined = follows.joined ∙ ap (λ (records : List LogEntry). records ++ new ∷ []) (sym is.records);
      above = (omega (arith, is.below, behind.next), tt);
      settings = kept_on v u t (kept_back u v is.stage.settings) follows.settings;
      rises = omega (arith, is.below, behind.of_flushed, follows.rises);
    }

-- the bases that a request demands of such a state
abbrev pub BasesBefore : Request → State → State → State → Type 0
BasesBefore asked s u t = (v r : State) (entry : LogEntry) → IsReadying u r v → IsPutBehind u r entry → IsFollowed u t entry
    → HasBasesOfRequest asked s t (cut v)

-- the flushed parts of a list of states survive
abbrev pub AllSurvive : Request → State → State → List State → Type 0
AllSurvive asked s t states = AllByRecursion (λ (v : State). IsSurvivor asked s t (cut v)) states

-- each of the states before the record joins
readying_survive : (asked : Request) (s u r t : State) (entry : LogEntry) (states : List State) → IsBegun s u → IsPutBehind u r entry → IsFollowed u t entry
    → BasesBefore asked s u t → AllByRecursion (IsReadying u r) states → AllSurvive asked s t states
readying_survive asked s u r t entry [] begun behind follows bases all = tt
readying_survive asked s u r t entry (v ∷ states) begun behind follows bases all = (
  stage_survives asked s u v t begun all.0.stage (ready_leads u v r t entry all.0 behind follows) (bases v r entry all.0 behind follows),
  readying_survive asked s u r t entry states begun behind follows bases all.1,
)

-- two lists of states
pub both_survive : (asked : Request) (s t : State) (front states : List State) → AllSurvive asked s t front → AllSurvive asked s t states
    → AllSurvive asked s t (front ++ states)
both_survive asked s t [] states first second = second
both_survive asked s t (v ∷ front) states first second = (first.0, both_survive asked s t front states first.1 second)

-- what survives of the states up to that in which the record has joined
pub record SurvivesPut (asked : Request) (s u t : State) (entry : LogEntry) : Type 0 where
  pub ready : AllSurvive asked s t (ready_stages u (length entry.bytes))
  pub first : IsSurvivor asked s t (cut u)
  pub joined : IsSurvivor asked s t (cut (put u entry))

pub put_survives : HasSpaceLaws → (asked : Request) (s u t : State) (entry : LogEntry) → IsBegun s u → IsStorable u → MayPut u entry → IsFollowed u t entry
    → BasesBefore asked s u t → SurvivesPut asked s u t entry
put_survives space asked s u t entry begun storable may follows bases =
    let n = length entry.bytes in
    let r : State = readied u n in
    let all = readying space u entry begun.valid storable may in
    let behind = put_behind space u entry begun.valid storable may in
    let Left : State → Type 0 = λ x. IsSurvivor asked s t x in
    let of_first : IsReadying u r u = all.first in
    let of_last : IsReadying u r r = all.last in
    record {
      ready = readying_survive asked s u r t entry (ready_stages u n) begun behind follows bases all.each;
      first = stage_survives asked s u u t begun of_first.stage (ready_leads u u r t entry of_first behind follows) (bases u r entry of_first behind follows);
      joined = subst Left (sym behind.of_cut)
          (stage_survives asked s u r t begun of_last.stage (ready_leads u r r t entry of_last behind follows) (bases r r entry of_last behind follows));
    }
