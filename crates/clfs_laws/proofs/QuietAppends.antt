-- Where an append makes no call on the disk, none of the small changes that it is made of wants one.
use Rattle.clfs_laws.proofs.Words.{◌≡◌, ℕ, Bool, true, false, refl, ap, ◌∙◌, arith, List, [], ◌∷◌, length, ◌&&◌, ◌||◌, if◌then◌else◌, ltb-false, joins}
use Rattle.clfs_laws.proofs.Words.{begins_here, Draft, State, Area, with_containers, grown, seal, flush, made_ready, put, need_of, spend_if, hold_sizes}
use Rattle.clfs_laws.proofs.Words.{plain_record, grows, fills_buffers, making_ready_writes, append_writes, HasSpaceLaws}
use Rattle.clfs_laws.proofs.ValidAppends.{seal_with_areas, flush_with_areas}
use Rattle.clfs_laws.proofs.ValidSettings.{grown_is, grown_no_fewer}

-- neither of two tests holds where not one of them does
neither : (a b : Bool) → (a || b) ≡ false → (a ≡ false) × (b ≡ false)
neither true b none = absurd (cc)
neither false b none = (refl, none)

none_of_four : (a b c d : Bool) → (a || b || c || d) ≡ false → (a ≡ false) × ((b ≡ false) × ((c ≡ false) × (d ≡ false)))
none_of_four a b c d none =
    let first = neither (a || b || c) d none in
    let second = neither (a || b) c first.0 in
    let third = neither a b second.0 in
    (third.0, (third.1, (second.1, first.1)))

-- the second of two tests fails where the first holds and not both do
not_second : (a b : Bool) → (a && b) ≡ false → a ≡ true → b ≡ false
not_second true b none holds = none
not_second false b none holds = absurd (cc)

-- a log that doesn't grow stays as it is
pub grown_same : HasSpaceLaws → (s : State) (need : ℕ) → grows s need ≡ false → grown s need ≡ s
grown_same space s need none =
    let few = ltb-false s.containers (grown s need).containers none in
    let more = grown_no_fewer space s need in
    let same : (grown s need).containers ≡ s.containers = omega (arith, few, more) in
    grown_is s need ∙ ap (λ (n : ℕ). with_containers n s) same

-- what an append that writes nothing tells
pub record IsQuiet (s : State) (draft : Draft) (is_reserved : Bool) (sizes : List ℕ) : Type 0 where
  pub grown : grows s (need_of is_reserved (length draft.bytes) sizes) ≡ false
  pub ready : making_ready_writes s (length draft.bytes) ≡ false
  pub seal : (draft.seal && fills_buffers (made_ready s (length draft.bytes))) ≡ false
  pub flush : draft.flush ≡ false

pub is_quiet : (s : State) (draft : Draft) (is_reserved : Bool) (sizes : List ℕ) → append_writes s draft is_reserved sizes ≡ false
    → IsQuiet s draft is_reserved sizes
is_quiet s draft is_reserved sizes none =
    let n = length draft.bytes in
    let all = none_of_four (grows s (need_of is_reserved n sizes)) (making_ready_writes s n) (draft.seal && fills_buffers (made_ready s n)) draft.flush none in
    record { grown = all.0; ready = all.1.0; seal = all.1.1.0; flush = all.1.1.1 }

-- making ready doesn't look at areas
ready_with_areas : (joining beginning : Bool) (s : State) (areas : List Area)
    → fills_buffers (if joining then record s { areas = areas } else if beginning then seal (record s { areas = areas }) else flush (record s { areas = areas }))
    ≡ fills_buffers (if joining then s else if beginning then seal s else flush s)
ready_with_areas true beginning s areas = refl
ready_with_areas false true s areas = ap fills_buffers (seal_with_areas s areas)
ready_with_areas false false s areas = ap fills_buffers (flush_with_areas s areas)

fills_spent : (is_reserved : Bool) (area : Area) (n : ℕ) (s : State) → fills_buffers (made_ready (spend_if is_reserved area n s) n) ≡ fills_buffers (made_ready s n)
fills_spent false area n s = refl
fills_spent true area n s = ready_with_areas (joins s.shape s.place n) (begins_here s.shape s.place n) s (spend_if true area n s).areas

ready_spent : (is_reserved : Bool) (area : Area) (n : ℕ) (s : State) → making_ready_writes (spend_if is_reserved area n s) n ≡ making_ready_writes s n
ready_spent false area n s = refl
ready_spent true area n s = refl

-- nor does holding sectors for records to come change what waits
fills_held : (area : Area) (sizes : List ℕ) (s : State) → fills_buffers (hold_sizes area sizes s) ≡ fills_buffers s
fills_held area [] s = refl
fills_held area (size ∷ sizes) s = refl

-- nothing is written to make the log ready
pub quiet_ready : HasSpaceLaws → (s : State) (area : Area) (draft : Draft) (is_reserved : Bool) (sizes : List ℕ) → append_writes s draft is_reserved sizes ≡ false
    → making_ready_writes (spend_if is_reserved area (length draft.bytes) (grown s (need_of is_reserved (length draft.bytes) sizes))) (length draft.bytes) ≡ false
quiet_ready space s area draft is_reserved sizes none =
    let n = length draft.bytes in
    let need = need_of is_reserved n sizes in
    let is = is_quiet s draft is_reserved sizes none in
    ready_spent is_reserved area n (grown s need) ∙ ap (λ (u : State). making_ready_writes u n) (grown_same space s need is.grown) ∙ is.ready

-- nor to seal the record's block
pub quiet_seal : HasSpaceLaws → (s : State) (area : Area) (draft : Draft) (is_reserved : Bool) (sizes : List ℕ) → append_writes s draft is_reserved sizes ≡ false
    → draft.seal ≡ true
    → fills_buffers (hold_sizes area sizes
    (put (spend_if is_reserved area (length draft.bytes) (grown s (need_of is_reserved (length draft.bytes) sizes))) (plain_record area draft))) ≡ false
quiet_seal space s area draft is_reserved sizes none asked =
    let n = length draft.bytes in
    let need = need_of is_reserved n sizes in
    let is = is_quiet s draft is_reserved sizes none in
    fills_held area sizes _ ∙ fills_spent is_reserved area n (grown s need)
    ∙ ap (λ (u : State). fills_buffers (made_ready u n)) (grown_same space s need is.grown) ∙ not_second draft.seal _ is.seal asked
