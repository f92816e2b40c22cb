-- A valid log has no more extents than there can be containers.
use Rattle.clfs_laws.proofs.Words.{◌≡◌, ℕ, ◌+◌, ◌-◌, ◌≤◌, Bool, true, false, refl, sym, ap, ◌∙◌, inl, inr, arith, List, [], ◌∷◌, length, Option, Some, None}
use Rattle.clfs_laws.proofs.Words.{MatchOption, AllByRecursion, filter_map, range_with_len, option_map_or, option_to_list, container_of, Call, Extent}
use Rattle.clfs_laws.proofs.Words.{Refusal, Happened, Fine, Fault, Damage, Reply, State, answer, extents, extents_from, extent_in, flushed, hold, refusal}
use Rattle.clfs_laws.proofs.Words.{Step, Goes, Comes, IsReply, IsValid, is_reply_of}
use Rattle.std.specs.List.{cons_option}
use Rattle.std.proofs.lemmas.List.FromFn.{length-range_with_len}
use Rattle.clfs_lsn.specs.Limits.{most_containers}
use Rattle.clfs_model.specs.declared.call.Call.TheVariants as calls
use Rattle.clfs_model.specs.declared.refusal.Refusal.TheVariants as refusals
use Rattle.clfs_model.specs.declared.reply.Reply.TheVariants as replies
use Rattle.clfs_laws.proofs.HoldOrder.{hold_below_archive}
use Rattle.clfs_laws.proofs.ReplyKinds.{answer_kind}
use Rattle.clfs_laws.proofs.StepCases.{broken_step, whole_step}

-- one more item gives at most one more
one_more : {Y : Type 0} (gift : Option Y) (ys : List Y) (n : ℕ) → length ys ≤ n → length (cons_option gift ys) ≤ n + 1
one_more None ys n few = omega (arith, few)
one_more (Some y) ys n few = omega (arith, few)

-- what a function gives of some items is no more than there are
given_few : {X Y : Type 0} (f : X → Option Y) (xs : List X) → length (filter_map f xs) ≤ length xs
given_few f [] = omega arith
given_few f (x ∷ xs) = let few = one_more (f x) (filter_map f xs) (length xs) (given_few f xs) in omega (arith, few)

extents_by : (s : State) (archive : Option ℕ) → IsValid s → AllByRecursion (λ lsn. hold s ≤ lsn) (option_to_list archive)
    → length (option_map_or (extents_from s) archive []) ≤ most_containers
extents_by s None valid below = omega arith
extents_by s (Some tail) valid below =
    let count = s.place.container + 1 - container_of tail in
    let few = given_few (extent_in s tail) (range_with_len (container_of tail) count) in
    let long = length-range_with_len (container_of tail) count in
    omega (arith, few, long, below.0, valid.space.active, valid.ranges.few_containers)

pub few_extents : (s : State) → IsValid s → length (extents s) ≤ most_containers
few_extents s valid = extents_by s s.archive valid (hold_below_archive s)

-- ---- those that a reply tells

-- an answer with extents has those of the state
answer_tells : (s : State) (client : ℕ) (call : Call) (told_extents : List Extent) → is_reply_of call (replies.Extents told_extents) ≡ true
    → (answer s client call).reply ≡ replies.Extents told_extents → told_extents ≡ extents s
answer_tells s client calls.ListExtents told_extents kind is = cc is
answer_tells s client _ told_extents kind is = absurd (cc kind)

-- the machine's reply where extents are told
given_extents : (told : Bool) (stable : ℕ) (answered : Reply) (told_extents : List Extent) → IsReply told stable answered (replies.Extents told_extents)
    → answered ≡ replies.Extents told_extents
given_extents true stable answered told_extents is = sym is
given_extents false stable (replies.Found cursor entry) told_extents is = absurd (let e : replies.Extents told_extents ≡ replies.Found cursor is.0 = is.1.1 in cc)
given_extents false stable (replies.Next entry) told_extents is = absurd (let e : replies.Extents told_extents ≡ replies.Next is.0 = is.1.1 in cc)
given_extents false stable (replies.Stream number) told_extents is = sym is
given_extents false stable (replies.Area number) told_extents is = sym is
given_extents false stable replies.Done told_extents is = sym is
given_extents false stable (replies.Held sectors) told_extents is = sym is
given_extents false stable (replies.Sectors sectors) told_extents is = sym is
given_extents false stable (replies.Placed lsn) told_extents is = sym is
given_extents false stable (replies.Flushed lsn) told_extents is = sym is
given_extents false stable (replies.Base lsn) told_extents is = sym is
given_extents false stable (replies.Tail lsn) told_extents is = sym is
given_extents false stable (replies.Extents extents) told_extents is = sym is
given_extents false stable (replies.Containers containers) told_extents is = sym is
given_extents false stable (replies.Info info) told_extents is = sym is
given_extents false stable (replies.Refused refusal) told_extents is = sym is

fine_tells : (told : Bool) (s : State) (client : ℕ) (call : Call) (told_extents : List Extent) (t : State) (first : Option Refusal)
    → MatchOption first (Comes told (flushed s) (answer s client call) (replies.Extents told_extents) t)
    (λ given. (replies.Extents told_extents ≡ replies.Refused given) × (t ≡ s))
    → told_extents ≡ extents s
fine_tells told s client call told_extents t None comes =
    let is : (answer s client call).reply ≡ replies.Extents told_extents = given_extents told (flushed s) (answer s client call).reply told_extents comes.0 in
    answer_tells s client call told_extents (sym (ap (is_reply_of call) is) ∙ answer_kind s client call) is
fine_tells told s client call told_extents t (Some given) comes = absurd (let wrong : replies.Extents told_extents ≡ replies.Refused given = comes.0 in cc)

goes_tells : (told : Bool) (s : State) (client : ℕ) (call : Call) (happened : Happened) (told_extents : List Extent) (t : State)
    → Goes told s client call happened (replies.Extents told_extents) t → told_extents ≡ extents s
goes_tells told s client call Fine told_extents t goes = fine_tells told s client call told_extents t (refusal s client call) goes
goes_tells told s client call Fault told_extents t goes = absurd (let wrong : replies.Extents told_extents ≡ replies.Refused refusals.DiskFault = goes.1.1.0 in cc)
goes_tells told s client call Damage told_extents t goes = absurd goes.1.1.0

tells_by : (told : Bool) (s : State) (client : ℕ) (call : Call) (happened : Happened) (told_extents : List Extent) (t : State) (broken : Bool) → s.broken ≡ broken
    → Step told s client call happened (replies.Extents told_extents) t → told_extents ≡ extents s
tells_by told s client call happened told_extents t true is step =
    absurd (let wrong : replies.Extents told_extents ≡ replies.Refused refusals.Broken = (broken_step told s client call happened _ t is step).0 in cc)
tells_by told s client call happened told_extents t false is step = elim (whole_step told s client call happened _ t is step) [
  | inl want ↦ absurd (let wrong : replies.Extents told_extents ≡ replies.Refused refusals.NoMemory = want.1.0 in cc)
  | inr goes ↦ goes_tells told s client call happened told_extents t goes
]

pub few_told : (told : Bool) (s : State) (client : ℕ) (call : Call) (happened : Happened) (told_extents : List Extent) (t : State) → IsValid s
    → Step told s client call happened (replies.Extents told_extents) t → length told_extents ≤ most_containers
few_told told s client call happened told_extents t valid step =
    let is = ap length (tells_by told s client call happened told_extents t s.broken refl step) in
    omega (arith, few_extents s valid, is)
