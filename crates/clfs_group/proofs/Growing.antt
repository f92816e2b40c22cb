-- What stays true of a group where its session has seen more, and what one flush makes of it.
use Rattle.std.proofs.Common.{◌≡◌, ℕ, ◌+◌, ◌≤◌, ◌<◌, Bool, true, false, refl, sym, ap, ap₂, subst, ◌∙◌, inl, inr, List, [], ◌∷◌, ◌++◌, length, arith, append_assoc, length-append, append-nil}
use Rattle.std.specs.Prelude.{if◌then◌else◌, nat_lt}
use mathlib.Core.List.{IsPrefix}
use Rattle.std.proofs.lemmas.Bool.{cases_Bool, ltb-true, eq-eqb}
use Rattle.std.proofs.lemmas.List.Elements.{All-push}
use Rattle.clfs_turn.specs.Lists.{longer}
use Rattle.clfs_turn.specs.Seats.{IsSameSeat}
use Rattle.clfs_model.specs.declared.call.Call.{Call}
use Rattle.clfs_model.specs.declared.call.Call.TheVariants as calls
use Rattle.clfs_model.specs.declared.journal.Entry.{Entry}
use Rattle.clfs_model.specs.declared.reply.Happened.{Happened}
use Rattle.clfs_model.specs.declared.reply.Reply.{Reply}
use Rattle.clfs_model.specs.declared.reply.Reply.TheVariants as replies
use Rattle.clfs_model.specs.declared.state.State.{State}
use Rattle.clfs_model.specs.Flush.{flushed}
use Rattle.clfs_model.specs.Happened.{happened_of}
use Rattle.clfs_model.specs.Journals.{GoesOn, IsLegal, mine}
use Rattle.clfs_model.specs.Step.{Step}
use Rattle.clfs_model.specs.Valid.{IsValid}
use Rattle.clfs_shared.specs.declared.opening.Opening.{Opening}
use Rattle.clfs_shared.specs.Journal.{entry_of, has_fault, has_damage, is_out_of_memory}
use Rattle.clfs_shared.specs.Reached.{is_calm as calm_of}
use Rattle.clfs_shared.specs.Sessions.{SessionState, IsLegalFrom, IsOf, IsStepped, SharedState, own_entries}
use Rattle.clfs_group.specs.Groups.{GroupParts, HasFlushed, HasGroupEntries, IsGroup, IsStable, is_flush_by, making, parts_of}

-- ---- what the laws say

-- the front of a legal journal is legal
abbrev pub FrontsAreLegal : Type 0
FrontsAreLegal = (told : Bool) (s t : State) (front rest : List Entry) → IsLegal told (front ++ rest) s t
    → (mid : State) × (IsLegal told front s mid × GoesOn told front mid rest t)

-- what is on the disk stays there, along any part of a journal
abbrev pub NeverFalls : Type 0
NeverFalls = (told : Bool) (before : List Entry) (s t : State) (entries : List Entry) → IsValid s → GoesOn told before s entries t → flushed s ≤ flushed t

-- a legal journal keeps a state valid
abbrev pub StaysValid : Type 0
StaysValid = (told : Bool) (s t : State) (journal : List Entry) → IsValid s → IsLegal told journal s t → IsValid t

-- a flush goes past its LSN
abbrev pub GoesPast : Type 0
GoesPast = (told : Bool) (s : State) (client number lsn : ℕ) (happened : Happened) (answered : ℕ) (t : State)
    → IsValid s → Step told s client (calls.FlushTo number lsn) happened (replies.Flushed answered) t → (lsn < answered) × (answered ≡ flushed t)

-- ---- seats and lists

pub same_on : (s t u : SessionState) → IsSameSeat s t → IsSameSeat t u → IsSameSeat s u
same_on s t u first second = record {
  lock = second.lock ∙ first.lock;
  client = second.client ∙ first.client;
  opening = second.opening ∙ first.opening;
}

module _ {A : Type 0} where
  pub prefix_on : (xs ys zs : List A) → IsPrefix xs ys → IsPrefix ys zs → IsPrefix xs zs
  prefix_on xs ys zs p q = (p.0 ++ q.0, sym (append_assoc xs p.0 q.0) ∙ (ap (λ w. w ++ q.0) p.1 ∙ q.1))

  prefix_length : (xs ys : List A) → IsPrefix xs ys → length xs ≤ length ys
  prefix_length xs ys p = omega (arith, sym (ap length p.1) ∙ length-append xs p.0)

  if_off : (b : Bool) (xs ys : List A) → b ≡ false → (if b then ys else xs) ≡ xs
  if_off b xs ys is = rw is refl

  -- the longer of two lists, of which the second begins the first, is the first
  pub longer_is : (xs ys : List A) → IsPrefix ys xs → longer xs ys ≡ xs
  longer_is xs ys begins = elim (cases_Bool (nat_lt (length xs) (length ys))) [
    | inl less ↦ absurd (let short = prefix_length ys xs begins in let long = ltb-true (length xs) (length ys) less in omega (arith, short, long))
    | inr not_less ↦ if_off (nat_lt (length xs) (length ys)) xs ys not_less
  ]

-- ---- where a session has seen more

-- it began in a valid state
pub valid_begin : (log : SharedState) (first s : SessionState) → IsValid log.opening.state → IsOf log first → IsSameSeat first s → IsValid s.opening.state
valid_begin log first s valid of same = let F : Opening → Type 0 = λ o. IsValid o.state in subst F (sym (same.opening ∙ of.opening)) valid

-- what it knew to be on the disk is there in each state to which a journal leads that begins with what it has seen
pub still_below : FrontsAreLegal → NeverFalls → StaysValid → (s : SessionState) (lsn : ℕ) (journal : List Entry) (last : State) → IsValid s.opening.state
    → IsPrefix s.seen journal → IsLegal s.opening.tells_contents journal s.opening.state last → HasFlushed s lsn → lsn ≤ flushed last
still_below fronts falls valid s lsn journal last begin more legal has =
    let told = s.opening.tells_contents in
    let of_entries : List Entry → Type 0 = λ es. IsLegal told es s.opening.state last in
    let cut = fronts told s.opening.state last s.seen more.0 (subst of_entries (sym more.1) legal) in
    let ok = valid told s.opening.state cut.0 s.seen begin cut.1.0 in
    let rises = falls told s.seen cut.0 last more.0 ok cut.1.1 in
    let at = has cut.0 cut.1.0 in
    omega (arith, rises, at)

-- so it is where it has seen more
pub still_flushed : FrontsAreLegal → NeverFalls → StaysValid → (s t : SessionState) (lsn : ℕ) → IsValid s.opening.state → IsSameSeat s t
    → IsPrefix s.seen t.seen → HasFlushed s lsn → HasFlushed t lsn
still_flushed fronts falls valid s t lsn begin same more has last legal =
    let of_opening : Opening → Type 0 = λ o. IsLegal o.tells_contents t.seen o.state last in
    still_below fronts falls valid s lsn t.seen last begin more (subst of_opening same.opening legal) has

-- and a group is one still
pub still_group : FrontsAreLegal → NeverFalls → StaysValid → (first : SessionState) (stream : ℕ) (g : GroupParts) (t : SessionState) → IsValid g.session.opening.state
    → IsSameSeat g.session t → IsPrefix g.session.seen t.seen → own_entries t ≡ own_entries g.session → IsGroup first stream g → IsGroup first stream (parts_of t g.area g.mark)
still_group fronts falls valid first stream g t begin same more own is = record {
  same = same_on first g.session t is.same same;
  begins = prefix_on first.seen g.session.seen t.seen is.begins more;
  entries = record {
    flushes = is.entries.flushes;
    are = is.entries.are;
    entries = own ∙ is.entries.entries;
  };
  mark = still_flushed fronts falls valid g.session t g.mark begin same more is.mark;
}

-- so it is of another session that has seen the same
pub stable_too : (s t : SessionState) (o : Opening) (lsn : ℕ) → t.opening ≡ o → s.opening ≡ o → t.seen ≡ s.seen → IsLegalFrom o s.seen → HasFlushed s lsn → IsStable t lsn
stable_too s t o lsn there here seen legal has =
    let F : Opening → Type 0 = λ p. IsLegalFrom p s.seen in
    let G : List Entry → Type 0 = λ es. IsLegalFrom t.opening es in record {
      legal = subst G (sym seen) (subst F (sym there) legal);
      flushed = λ last is.
          let H : List Entry → Type 0 = λ es. IsLegal t.opening.tells_contents es t.opening.state last in
          let K : Opening → Type 0 = λ p. IsLegal p.tells_contents s.seen p.state last in
          has last (subst K (there ∙ sym here) (subst H seen is));
    }

-- ---- one flush

-- the entry of a flush by the group's area
flush_entry : (s : SessionState) (area lsn : ℕ) (reply : Reply) → is_flush_by area (entry_of s.client (length (own_entries s) + 1) (calls.FlushTo area lsn) reply).call ≡ true
flush_entry s area lsn reply = eq-eqb area area refl

pub seen_more : (s t : SessionState) (call : Call) (reply : Reply) → IsStepped s t call reply → IsPrefix s.seen t.seen
seen_more s t call reply z =
    prefix_on s.seen z.before t.seen z.begins (entry_of s.client (length (own_entries s) + 1) call reply ∷ [], sym z.ends)

-- where a flush was answered, all below its answer is on the disk, in each state to which the entries lead
pub flushed_by : FrontsAreLegal → StaysValid → GoesPast → (s t : SessionState) (area lsn answer : ℕ) → IsValid s.opening.state → IsSameSeat s t
    → IsStepped s t (calls.FlushTo area lsn) (replies.Flushed answer) → HasFlushed t answer
flushed_by fronts valid past s t area lsn answer begin same z last legal =
    let told = s.opening.tells_contents in
    let e : Entry = entry_of s.client (length (own_entries s) + 1) (calls.FlushTo area lsn) (replies.Flushed answer) in
    let of_opening : Opening → Type 0 = λ o. IsLegal o.tells_contents t.seen o.state last in
    let of_entries : List Entry → Type 0 = λ es. IsLegal told es s.opening.state last in
    let whole : IsLegal told (z.before ++ e ∷ []) s.opening.state last = subst of_entries z.ends (subst of_opening same.opening legal) in
    let cut = fronts told s.opening.state last z.before (e ∷ []) whole in
    let ok = valid told s.opening.state cut.0 z.before begin cut.1.0 in
    let made = past told cut.0 s.client area lsn (happened_of (replies.Flushed answer)) answer cut.1.1.0 ok cut.1.1.1.0.step in
    let ends : last ≡ cut.1.1.0 = cut.1.1.1.1 in
    let is : answer ≡ flushed last = made.1 ∙ ap flushed (sym ends) in
    omega (arith, is)

-- the entries of a group that made one flush
pub flush_more : (first : SessionState) (stream area lsn : ℕ) (s t : SessionState) (reply : Reply) → IsStepped s t (calls.FlushTo area lsn) reply
    → HasGroupEntries first stream area s → HasGroupEntries first stream area t
flush_more first stream area lsn s t reply z has =
    let e : Entry = entry_of s.client (length (own_entries s) + 1) (calls.FlushTo area lsn) reply in
    let made : Entry = entry_of first.client (length (own_entries first) + 1) (making stream) (replies.Area area) in record {
      flushes = has.flushes ++ e ∷ [];
      are = All-push (λ (entry : Entry). is_flush_by area entry.call ≡ true) has.flushes e has.are (flush_entry s area lsn reply);
      entries = z.grew ∙ (ap (λ (es : List Entry). es ++ e ∷ []) has.entries ∙ append_assoc (own_entries first) (made ∷ has.flushes) (e ∷ []));
    }

-- a group whose flush was answered
pub flushed_group : FrontsAreLegal → StaysValid → GoesPast → (first : SessionState) (stream lsn answer : ℕ) (g : GroupParts) (t : SessionState) → IsValid g.session.opening.state
    → IsSameSeat g.session t → IsStepped g.session t (calls.FlushTo g.area lsn) (replies.Flushed answer) → IsGroup first stream g → IsGroup first stream (parts_of t g.area answer)
flushed_group fronts valid past first stream lsn answer g t begin same z is = record {
  same = same_on first g.session t is.same same;
  begins = prefix_on first.seen g.session.seen t.seen is.begins (seen_more g.session t (calls.FlushTo g.area lsn) (replies.Flushed answer) z);
  entries = flush_more first stream g.area lsn g.session t (replies.Flushed answer) z is.entries;
  mark = flushed_by fronts valid past g.session t g.area lsn answer begin same z;
}

-- an answer is above the LSN
pub above_by : StaysValid → GoesPast → (s t : SessionState) (area lsn answer : ℕ) → IsValid s.opening.state
    → IsStepped s t (calls.FlushTo area lsn) (replies.Flushed answer) → lsn < answer
above_by valid past s t area lsn answer begin z =
    let told = s.opening.tells_contents in
    let ok = valid told s.opening.state z.found z.before begin z.legal in
    (past told z.found s.client area lsn (happened_of (replies.Flushed answer)) answer z.left ok z.step).0

-- one whose flush was refused
refused_group : FrontsAreLegal → NeverFalls → StaysValid → (first : SessionState) (stream lsn : ℕ) (reply : Reply) (g : GroupParts) (t : SessionState) → IsValid g.session.opening.state
    → IsSameSeat g.session t → IsStepped g.session t (calls.FlushTo g.area lsn) reply → IsGroup first stream g → IsGroup first stream (parts_of t g.area g.mark)
refused_group fronts falls valid first stream lsn reply g t begin same z is =
    let more = seen_more g.session t (calls.FlushTo g.area lsn) reply z in record {
      same = same_on first g.session t is.same same;
      begins = prefix_on first.seen g.session.seen t.seen is.begins more;
      entries = flush_more first stream g.area lsn g.session t reply z is.entries;
      mark = still_flushed fronts falls valid g.session t g.mark begin same more is.mark;
    }

-- a session that has seen no more
unseen : (s t : SessionState) → IsSameSeat s t → t.seen ≡ s.seen → own_entries t ≡ own_entries s
unseen s t same is = ap (λ (c : ℕ). mine t.seen c) same.client ∙ ap (λ (es : List Entry). mine es s.client) is

-- a list begins with an equal one
prefix_same : (xs ys : List Entry) → ys ≡ xs → IsPrefix xs ys
prefix_same xs ys is = ([], append-nil xs ∙ sym is)

-- either memory ran out, or not
pub by_memory : (b : Bool) (P : Type 0) → (b ≡ true → P) → (b ≡ false → P) → P
by_memory true P out other = out refl
by_memory false P out other = other refl

-- a group whose flush gave another reply than an answer
pub kept_group : FrontsAreLegal → NeverFalls → StaysValid → (first : SessionState) (stream lsn : ℕ) (reply : Reply) (g : GroupParts) (t : SessionState) → IsValid g.session.opening.state
    → IsSameSeat g.session t → (is_out_of_memory reply ≡ true → t.seen ≡ g.session.seen)
    → (is_out_of_memory reply ≡ false → IsStepped g.session t (calls.FlushTo g.area lsn) reply) → IsGroup first stream g → IsGroup first stream (parts_of t g.area g.mark)
kept_group fronts falls valid first stream lsn reply g t begin same none step is =
    by_memory (is_out_of_memory reply) (IsGroup first stream (parts_of t g.area g.mark))
    (λ out. let seen = none out in
    still_group fronts falls valid first stream g t begin same (prefix_same g.session.seen t.seen seen) (unseen g.session t same seen) is)
    (λ off. refused_group fronts falls valid first stream lsn reply g t begin same (step off) is)

-- ---- a call between two meetings

-- the session's call, where it had met another one before, and has met it since
pub stepped_between : (s m t v : SessionState) (call : Call) (reply : Reply) → IsSameSeat s m → IsPrefix s.seen m.seen → own_entries m ≡ own_entries s → IsStepped m t call reply
    → v.seen ≡ t.seen → own_entries v ≡ own_entries t → IsStepped s v call reply
stepped_between s m t v call reply same more own z is own_is =
    let of_opening : Opening → Type 0 = λ o. Step o.tells_contents z.found m.client call (happened_of reply) reply z.left in
    let of_client : ℕ → Type 0 = λ c. Step s.opening.tells_contents z.found c call (happened_of reply) reply z.left in
    let e : entry_of m.client (length (own_entries m) + 1) call reply ≡ entry_of s.client (length (own_entries s) + 1) call reply =
    ap₂ (λ (c : ℕ) (n : ℕ). entry_of c (n + 1) call reply) same.client (ap (λ (es : List Entry). length es) own) in record {
      before = z.before;
      found = z.found;
      left = z.left;
      begins = prefix_on s.seen m.seen z.before more z.begins;
      legal = let F : Opening → Type 0 = λ o. IsLegal o.tells_contents z.before o.state z.found in subst F same.opening z.legal;
      step = subst of_client same.client (subst of_opening same.opening z.step);
      place = λ given told. rw (← same.client) (z.place given told);
      whole = let F : Opening → Type 0 = λ o. IsLegal o.tells_contents v.seen o.state z.left in
          let G : List Entry → Type 0 = λ es. IsLegal m.opening.tells_contents es m.opening.state z.left in
          subst F same.opening (subst G (sym is) z.whole);
      ends = is ∙ (z.ends ∙ ap (λ (x : Entry). z.before ++ x ∷ []) e);
      grew = own_is ∙ (z.grew ∙ ap₂ (λ (es : List Entry) (x : Entry). es ++ x ∷ []) own e);
      others = sym own ∙ (z.others ∙ ap (λ (c : ℕ). mine z.before c) same.client);
      calm = λ calm. let F : List Entry → Type 0 = λ es. has_fault es ≡ false in subst F (sym is) (z.calm (ap calm_of same.opening ∙ calm));
      damage = λ tells. let F : List Entry → Type 0 = λ es. has_damage es ≡ false in subst F (sym is) (z.damage (ap (λ (o : Opening). o.tells_contents) same.opening ∙ tells));
    }
