-- Why the log refuses a group's flush.
use Rattle.std.proofs.Common.{◌≡◌, ◌≢◌, ℕ, ◌+◌, Bool, true, false, refl, sym, ap, ap₂, subst, ◌∙◌, inl, inr, List, [], ◌∷◌, ◌++◌, length, append_assoc, arith}
use Rattle.std.specs.Prelude.{◌⊎◌, nat_le, Option, Some, None, Contains, Result, Ok, Err, IfOk, IfErr, MatchResult}
use Rattle.std.specs.List.{AllByRecursion}
use Rattle.std.specs.Option.{option_map_or}
use Rattle.std.proofs.lemmas.Bool.{eq-eqb, eqb-true, leb-true}
use Rattle.std.proofs.lemmas.List.Elements.{Contains-append_left, recursion_from_All}
use mathlib.Core.List.{IsPrefix}
use Rattle.clfs_lsn.specs.Place.{frontier}
use Rattle.clfs_model.specs.declared.call.Call.{Call}
use Rattle.clfs_model.specs.declared.call.Call.TheVariants as calls
use Rattle.clfs_model.specs.declared.journal.Entry.{Entry}
use Rattle.clfs_model.specs.declared.refusal.Refusal.{Refusal}
use Rattle.clfs_model.specs.declared.refusal.Refusal.TheVariants as refusals
use Rattle.clfs_model.specs.declared.reply.Happened.{Happened}
use Rattle.clfs_model.specs.declared.reply.Reply.{Reply}
use Rattle.clfs_model.specs.declared.reply.Reply.TheVariants as replies
use Rattle.clfs_model.specs.declared.state.Area.{Area}
use Rattle.clfs_model.specs.declared.state.State.{State}
use Rattle.clfs_model.specs.State.{area_of}
use Rattle.clfs_model.specs.Happened.{happened_of}
use Rattle.clfs_model.specs.Journals.{IsLegal, mine}
use Rattle.clfs_model.specs.Refusals.{refusal, refused_if}
use Rattle.clfs_model.specs.Step.{Step}
use Rattle.clfs_model.specs.Valid.{IsValid}
use Rattle.clfs_laws.specs.Needs.{area_number}
use Rattle.clfs_laws.specs.Refused.{is_of_call}
use Rattle.clfs_laws.specs.ReplyKinds.{is_reply_of}
use Rattle.clfs_laws.specs.Rows.{NoneMakesOrEnds, makes_or_ends}
use Rattle.clfs_turn.specs.Seats.{IsSameSeat}
use Rattle.clfs_shared.specs.Journal.{entry_of, is_out_of_memory}
use Rattle.clfs_shared.specs.Sessions.{SessionState, IsCalmReply, IsStepped, own_entries}
use Rattle.clfs_group.specs.Answers.{StandsBehind, flush_reply, may_refuse_flush, placed_by, placed_lsns}
use Rattle.clfs_group.specs.Groups.{GroupParts, HasGroupEntries, IsStable, is_flush_by, making}
use Rattle.clfs_group.proofs.Growing.{StaysValid, by_memory, prefix_on}
use Rattle.clfs_group.proofs.Placed.{AreOfKind, OnlyAdds, StepsStayValid, placed_below}

-- ---- what the laws say

-- an area is told to be missing only if it is
abbrev pub MissingIsTrue : Type 0
MissingIsTrue = (told : Bool) (s : State) (client : ℕ) (call : Call) (happened : Happened) (t : State)
    → Step told s client call happened (replies.Refused refusals.NoSuchArea) t → area_of s client (area_number call) ≡ None

-- a refusal of the call's own list is the one that the call meets
abbrev pub FirstIsGiven : Type 0
FirstIsGiven = (told : Bool) (s : State) (client : ℕ) (call : Call) (happened : Happened) (given : Refusal) (t : State)
    → is_of_call given ≡ true → Step told s client call happened (replies.Refused given) t → refusal s client call ≡ Some given

-- an area that the client's own entries made and didn't delete is there
abbrev pub MadeIsThere : Type 0
MadeIsThere = (stream largest reads : ℕ) (told : Bool) (s t : State) (journal before after : List Entry) (client number : ℕ) (entry : Entry)
    → IsLegal told journal s t → mine journal client ≡ before ++ entry ∷ after
    → entry.call ≡ calls.CreateArea stream largest reads → entry.reply ≡ replies.Area number → NoneMakesOrEnds number after
    → (area : Area) × (area_of t client number ≡ Some area)
    × (area.stream ≡ stream) × (area.largest ≡ largest) × (area.reads ≡ reads)

-- ---- memory

pub not_memory : (given : Refusal) → given ≢ refusals.NoMemory → is_out_of_memory (replies.Refused given) ≡ false
not_memory refusals.NoMemory other = absurd (other refl)
not_memory _ other = refl

-- ---- the group's area is there

flush_ends_none : (area : ℕ) (call : Call) (reply : Reply) → is_flush_by area call ≡ true → makes_or_ends area call reply ≡ false
flush_ends_none area (calls.FlushTo number lsn) reply is = refl
flush_ends_none area _ reply is = absurd (cc is)

none_ends : (area : ℕ) (entries : List Entry) → AllByRecursion (λ (entry : Entry). is_flush_by area entry.call ≡ true) entries → NoneMakesOrEnds area entries
none_ends area [] all = tt
none_ends area (e ∷ es) all = (flush_ends_none area e.call e.reply all.0, none_ends area es all.1)

area_is_there : MadeIsThere → (first : SessionState) (stream : ℕ) (g : GroupParts) (t : SessionState) (call : Call) (reply : Reply) (z : IsStepped g.session t call reply)
    → HasGroupEntries first stream g.area g.session → (area : Area) × (area_of z.found g.session.client g.area ≡ Some area)
area_is_there made first stream g t call reply z has =
    let s = g.session in
    let e : Entry = entry_of first.client (length (own_entries first) + 1) (making stream) (replies.Area g.area) in
    let found = made stream 0 1 s.opening.tells_contents s.opening.state z.found z.before (own_entries first) has.flushes s.client g.area e z.legal
    (sym z.others ∙ has.entries) refl refl (none_ends g.area has.flushes (recursion_from_All (λ (entry : Entry). is_flush_by g.area entry.call ≡ true) has.flushes has.are)) in
    (found.0, found.1)

-- ---- the causes

-- a flush that isn't refused because its area is missing
flush_causes : (number lsn : ℕ) (given : Refusal) → is_reply_of (calls.FlushTo number lsn) (replies.Refused given) ≡ true → given ≢ refusals.NoSuchArea
    → ((at : ℕ) → given ≡ refusals.RecordNonexistent at → at ≡ lsn) → may_refuse_flush lsn given ≡ true
flush_causes number lsn refusals.NoMemory kind there named = refl
flush_causes number lsn refusals.DiskFault kind there named = refl
flush_causes number lsn refusals.Broken kind there named = refl
flush_causes number lsn (refusals.RecordNonexistent at) kind there named = eq-eqb at lsn (named at refl)
flush_causes number lsn refusals.NoSuchArea kind there named = absurd (there refl)
flush_causes number lsn _ kind there named = absurd (cc kind)

-- a test that tells that no record has an LSN, where it does
tells_missing : (test : Bool) (lsn at : ℕ) → refused_if test (refusals.RecordNonexistent lsn) None ≡ Some (refusals.RecordNonexistent at) → (at ≡ lsn) × (test ≡ true)
tells_missing true lsn at is = (cc (sym is), refl)
tells_missing false lsn at is = absurd (cc is)

tells_where : (s : State) (client number lsn at : ℕ) (found : Option Area)
    → option_map_or (λ (area : Area). refused_if (nat_le (frontier s.place) lsn) (refusals.RecordNonexistent lsn) None) found (Some refusals.NoSuchArea)
    ≡ Some (refusals.RecordNonexistent at) → (at ≡ lsn) × (nat_le (frontier s.place) lsn ≡ true)
tells_where s client number lsn at None is = absurd (cc is)
tells_where s client number lsn at (Some area) is = tells_missing (nat_le (frontier s.place) lsn) lsn at is

nonexistent : FirstIsGiven → (s t : SessionState) (number lsn at : ℕ) (given : Refusal) (z : IsStepped s t (calls.FlushTo number lsn) (replies.Refused given))
    → given ≡ refusals.RecordNonexistent at → (at ≡ lsn) × (nat_le (frontier z.found.place) lsn ≡ true)
nonexistent first s t number lsn at given z is =
    let F : Refusal → Type 0 = λ g. Step s.opening.tells_contents z.found s.client (calls.FlushTo number lsn) (happened_of (replies.Refused g)) (replies.Refused g) z.left in
    tells_where z.found s.client number lsn at (area_of z.found s.client number)
    (first s.opening.tells_contents z.found s.client (calls.FlushTo number lsn) (happened_of (replies.Refused (refusals.RecordNonexistent at)))
    (refusals.RecordNonexistent at) z.left refl (subst F is z.step))

memory_refused : (lsn : ℕ) (given : Refusal) → is_out_of_memory (replies.Refused given) ≡ true → may_refuse_flush lsn given ≡ true
memory_refused lsn refusals.NoMemory out = refl
memory_refused lsn _ out = absurd (cc out)

-- the refusal of a group's flush
pub flush_refused : MadeIsThere → MissingIsTrue → FirstIsGiven → AreOfKind → (first : SessionState) (stream lsn : ℕ) (g : GroupParts) (t : SessionState) (given : Refusal)
    → (is_out_of_memory (replies.Refused given) ≡ false → IsStepped g.session t (calls.FlushTo g.area lsn) (replies.Refused given))
    → HasGroupEntries first stream g.area g.session → may_refuse_flush lsn given ≡ true
flush_refused made missing is_first kind first stream lsn g t given step has =
    by_memory (is_out_of_memory (replies.Refused given)) (may_refuse_flush lsn given ≡ true) (memory_refused lsn given) (λ off.
    let z = step off in
    let s = g.session in
    let call : Call = calls.FlushTo g.area lsn in
    let told = s.opening.tells_contents in
    let there = area_is_there made first stream g t call (replies.Refused given) z has in
    let F : Refusal → Type 0 = λ r. Step told z.found s.client call (happened_of (replies.Refused r)) (replies.Refused r) z.left in
    flush_causes g.area lsn given (kind told z.found s.client call (happened_of (replies.Refused given)) (replies.Refused given) z.left z.step)
    (λ is. let none = missing told z.found s.client call (happened_of (replies.Refused refusals.NoSuchArea)) z.left (subst F is z.step) in
    let clash : Some there.0 ≡ None = sym there.1 ∙ none in cc clash)
    (λ at is. (nonexistent is_first s t g.area lsn at given z is).0))

-- a reply to a flush is of its kind
pub flush_kind : AreOfKind → (s t : SessionState) (area lsn : ℕ) (reply : Reply) → IsStepped s t (calls.FlushTo area lsn) reply → is_reply_of (calls.FlushTo area lsn) reply ≡ true
flush_kind kind s t area lsn reply z =
    kind s.opening.tells_contents z.found s.client (calls.FlushTo area lsn) (happened_of reply) reply z.left z.step

placed_lsns-append : (es more : List Entry) → placed_lsns (es ++ more) ≡ placed_lsns es ++ placed_lsns more
placed_lsns-append [] more = refl
placed_lsns-append (e ∷ es) more =
    ap (λ (ns : List ℕ). placed_by e.reply ++ ns) (placed_lsns-append es more) ∙ sym (append_assoc (placed_by e.reply) (placed_lsns es) (placed_lsns more))

-- what more entries place
pub placed_more : (es all : List Entry) (at : ℕ) → IsPrefix es all → Contains (placed_lsns es) at → Contains (placed_lsns all) at
placed_more es all at begins there =
    let whole : Contains (placed_lsns (es ++ begins.0)) at =
    subst (λ (ns : List ℕ). Contains ns at) (sym (placed_lsns-append es begins.0)) (Contains-append_left (placed_lsns es) (placed_lsns begins.0) at there) in
    subst (λ (xs : List Entry). Contains (placed_lsns xs) at) begins.1 whole

-- it isn't that no record has the LSN, where an entry placed one at it that the session had seen
pub flush_finds : FirstIsGiven → OnlyAdds → StepsStayValid → StaysValid → AreOfKind → (s t : SessionState) (number lsn : ℕ) (given : Refusal) → IsValid s.opening.state
    → (is_out_of_memory (replies.Refused given) ≡ false → IsStepped s t (calls.FlushTo number lsn) (replies.Refused given))
    → Contains (placed_lsns s.seen) lsn → given ≢ refusals.RecordNonexistent lsn
flush_finds is_first adds valid stays kind s t number lsn given begin step here is =
    let off : is_out_of_memory (replies.Refused given) ≡ false = ap (λ (g : Refusal). is_out_of_memory (replies.Refused g)) is in
    let z = step off in
    let told = s.opening.tells_contents in
    let seen : Contains (placed_lsns z.before) lsn = placed_more s.seen z.before lsn z.begins here in
    let below = placed_below adds valid kind told s.opening.state z.found z.before lsn begin z.legal (stays told s.opening.state z.found z.before begin z.legal) seen in
    let above = leb-true (frontier z.found.place) lsn (nonexistent is_first s t number lsn lsn given z is).1 in
    omega (arith, below, above)

-- ---- the answer of `stable`

-- what lacks for a call that takes no memory
pub takes_none : {A : Type 0} → (false ≡ true) ⊎ A → A
takes_none (inl takes) = absurd (cc takes)
takes_none (inr lacks) = lacks

-- what may lack for the group's own entries may lack for those of its client that a session has seen which met it after a call that made none
pub lacks_for : (may_lack : List Entry → Type 0) (m t u w : SessionState) (client : ℕ) → IsSameSeat m t → t.seen ≡ m.seen → own_entries u ≡ own_entries t
    → w.seen ≡ u.seen → u.client ≡ client → may_lack (own_entries m) → may_lack (mine w.seen client)
lacks_for may_lack m t u w client same none own met is lacks =
    let before : own_entries t ≡ own_entries m = ap₂ (λ (es : List Entry) (c : ℕ). mine es c) none same.client in
    let after : own_entries u ≡ mine w.seen client = ap₂ (λ (es : List Entry) (c : ℕ). mine es c) (sym met) is in
    subst may_lack (sym before ∙ sym own ∙ after) lacks

-- so memory alone lacks over a disk that fails in no call
only_memory : (lsn : ℕ) (given : Refusal) → may_refuse_flush lsn given ≡ true → IsCalmReply (replies.Refused given) → given ≢ refusals.RecordNonexistent lsn
    → given ≡ refusals.NoMemory
only_memory lsn refusals.NoMemory may calm there = refl
only_memory lsn refusals.DiskFault may calm there = absurd (calm.fault refl)
only_memory lsn refusals.Broken may calm there = absurd (calm.broken refl)
only_memory lsn (refusals.RecordNonexistent at) may calm there = absurd (there (ap (λ (n : ℕ). refusals.RecordNonexistent n) (eqb-true at lsn may)))
only_memory lsn _ may calm there = absurd (cc may)

pub memory_lacks : (lsn : ℕ) (result : Result ℕ Refusal) → IfErr result (λ given. may_refuse_flush lsn given ≡ true) → IsCalmReply (flush_reply result)
    → IfErr result (λ given. given ≢ refusals.RecordNonexistent lsn) → IfErr result (λ given. given ≡ refusals.NoMemory)
memory_lacks lsn (Ok answer) may calm there = tt
memory_lacks lsn (Err given) may calm there = only_memory lsn given may calm there

-- all below an answer is on the disk, since it is the mark
pub answer_stable : (w : SessionState) (result : Result ℕ Refusal) (mark old : ℕ) → MatchResult result (λ answer. mark ≡ answer) (λ _. mark ≡ old) → IsStable w mark
    → IfOk result (λ answer. IsStable w answer)
answer_stable w (Ok answer) mark old is stable = subst (IsStable w) is stable
answer_stable w (Err given) mark old is stable = tt

-- a refusal stands after what was seen
pub stands_behind : (seen all : List Entry) (m t : SessionState) (client number area lsn : ℕ) (result : Result ℕ Refusal) → IsPrefix seen m.seen → m.client ≡ client → number ≡ area
    → (is_out_of_memory (flush_reply result) ≡ false → IsStepped m t (calls.FlushTo number lsn) (flush_reply result))
    → (is_out_of_memory (flush_reply result) ≡ false → all ≡ t.seen)
    → IfErr result (λ given. given ≢ refusals.NoMemory → StandsBehind seen client (calls.FlushTo area lsn) (replies.Refused given) all)
stands_behind seen all m t client number area lsn (Ok answer) begins is_client is_area step ends = tt
stands_behind seen all m t client number area lsn (Err given) begins is_client is_area step ends = λ other.
    let off = not_memory given other in
    let z = step off in record {
      before = z.before;
      rest = [];
      number = length (own_entries m) + 1;
      begins = prefix_on seen m.seen z.before begins z.begins;
      there = ends off ∙ (z.ends ∙ ap₂ (λ (c : ℕ) (n : ℕ). z.before ++ entry_of c (length (own_entries m) + 1) (calls.FlushTo n lsn) (replies.Refused given) ∷ []) is_client is_area);
    }

-- so it does for some area of the group's client
pub some_area : (seen all : List Entry) (client area lsn : ℕ) (result : Result ℕ Refusal)
    → IfErr result (λ given. given ≢ refusals.NoMemory → StandsBehind seen client (calls.FlushTo area lsn) (replies.Refused given) all)
    → IfErr result (λ given. given ≢ refusals.NoMemory → (number : ℕ) × StandsBehind seen client (calls.FlushTo number lsn) (replies.Refused given) all)
some_area seen all client area lsn (Ok answer) is = tt
some_area seen all client area lsn (Err given) is = λ other. (area, is other)
