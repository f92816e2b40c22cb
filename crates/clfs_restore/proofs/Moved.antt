-- What moving the archive tail says of a log in which archiving is on: the tail is there, or the disk failed; and a tail above the flushed LSN is refused
-- by telling that one.
use Rattle.clfs_restore.proofs.Words.{MatchBool, MatchOption, IsTrue, inl, inr, ⊎_elim, ◌≡◌, ◌⊎◌, ℕ, ◌<◌, ◌≤◌, Bool, true, false, ltb, ◌||◌, Option, Some}
use Rattle.clfs_restore.proofs.Words.{None, refl, ◌∙◌, ap, subst, arith, cases_lt, Refusal, Happened, Fine, Fault, Damage, Reply, State, answer, flushed}
use Rattle.clfs_restore.proofs.Words.{happened_of_refusal, refused_if, tail_refusal, Step, Goes, Comes, IsBroken, IsOutOfMemory, with_broken, DiskState}
use Rattle.clfs_restore.proofs.Words.{WritesDisk}
use Rattle.std.specs.Prelude.{IfSome}
use Rattle.clfs_model.specs.declared.call.Call.TheVariants as calls
use Rattle.clfs_model.specs.declared.refusal.Refusal.TheVariants as refusals
use Rattle.clfs_model.specs.declared.reply.Reply.TheVariants as replies
use Rattle.clfs_laws.specs.Refused.{is_of_call}
use Rattle.clfs_restore.specs.Archiving.{stable_of}

abbrev refused : Refusal → Reply
refused refusal = replies.Refused refusal

-- the highest LSN that there is
abbrev pub highest : ℕ
highest = 18446744073709551615

module _ (s t : State) (lsn : ℕ) (fine : s.broken ≡ false) where
  -- a step of a log that isn't broken: it takes no memory
  goes : (h : Happened) (reply : Reply) → Step true s 0 (calls.SetArchiveTail lsn) h reply t → Goes true s 0 (calls.SetArchiveTail lsn) h reply t
  unfolding Step
  goes h reply step = ⊎_elim
      (λ (m : IsTrue false × IsOutOfMemory s reply t). absurd (cc m.0))
      (λ (g : Goes true s 0 (calls.SetArchiveTail lsn) h reply t). g)
      (subst (λ (b : Bool). MatchBool b (IsBroken s reply t) ((IsTrue false × IsOutOfMemory s reply t) ⊎ Goes true s 0 (calls.SetArchiveTail lsn) h reply t)) fine step)

  by_refusal : (reply : Reply) (first : Option Refusal) → tail_refusal s lsn ≡ first
      → MatchOption first (Comes true (flushed s) (answer s 0 (calls.SetArchiveTail lsn)) reply t) (λ given. (reply ≡ replies.Refused given) × (t ≡ s))
      → ((tail_refusal s lsn ≡ None) × ((reply ≡ replies.Tail lsn) × (t ≡ record s { archive = Some lsn })))
      ⊎ ((given : Refusal) × (tail_refusal s lsn ≡ Some given) × ((reply ≡ replies.Refused given) × (t ≡ s)))
  by_refusal reply None is comes = inl (is, (comes.0, comes.1))
  by_refusal reply (Some given) is comes = inr (given, is, comes)

  -- the tail was moved
  pub was_moved : (told : ℕ) → Step true s 0 (calls.SetArchiveTail lsn) Fine (replies.Tail told) t
      → (tail_refusal s lsn ≡ None) × (t ≡ record s { archive = Some lsn })
  was_moved told step = ⊎_elim
      (λ (moved : (tail_refusal s lsn ≡ None) × ((replies.Tail told ≡ replies.Tail lsn) × (t ≡ record s { archive = Some lsn }))). (moved.0, moved.1.1))
      (λ (other : (given : Refusal) × (tail_refusal s lsn ≡ Some given) × ((replies.Tail told ≡ replies.Refused given) × (t ≡ s))). absurd (cc other.2.0))
      (by_refusal (replies.Tail told) (tail_refusal s lsn) refl (goes Fine (replies.Tail told) step))

  by_happened : (r : Refusal) (h : Happened) → Goes true s 0 (calls.SetArchiveTail lsn) h (refused r) t
      → ((tail_refusal s lsn ≡ None) × ((r ≡ refusals.DiskFault) × (t ≡ with_broken s))) ⊎ ((tail_refusal s lsn ≡ Some r) × (t ≡ s))
  by_happened r Fine g = ⊎_elim
      (λ (moved : (tail_refusal s lsn ≡ None) × ((refused r ≡ replies.Tail lsn) × (t ≡ record s { archive = Some lsn }))). absurd (cc moved.1.0))
      (λ (other : (given : Refusal) × (tail_refusal s lsn ≡ Some given) × ((refused r ≡ replies.Refused given) × (t ≡ s))).
      inr (other.1 ∙ ap Some (given_is other.0 other.2.0), other.2.1))
      (by_refusal (refused r) (tail_refusal s lsn) refl g)
    where
      given_is : (given : Refusal) → refused r ≡ replies.Refused given → given ≡ r
      given_is given e = cc e
  by_happened r Fault g = inl (g.0, (fault_is g.1.1.0, g.1.1.1))
    where
      fault_is : refused r ≡ replies.Refused refusals.DiskFault → r ≡ refusals.DiskFault
      fault_is e = cc e
  by_happened r Damage g = absurd (cc g.1.0)

  -- it wasn't: the disk failed, or this is the call's own refusal
  pub was_refused : (r : Refusal) → Step true s 0 (calls.SetArchiveTail lsn) (happened_of_refusal r) (refused r) t
      → ((tail_refusal s lsn ≡ None) × ((r ≡ refusals.DiskFault) × (t ≡ with_broken s))) ⊎ ((tail_refusal s lsn ≡ Some r) × (t ≡ s))
  was_refused r step = by_happened r (happened_of_refusal r) (goes (happened_of_refusal r) (refused r) step)

-- ---- the refusal of a tail

-- the highest LSN is refused by telling the flushed one, unless it is that
by_tail : (s : State) (tail : Option ℕ) (lsn : ℕ) (r : Refusal) → s.archive ≡ tail → (tail ≡ None → ⊥) → tail_refusal s lsn ≡ Some r
    → (low : ℕ) × (r ≡ refusals.ArchiveTailInvalid lsn low (flushed s))
by_tail s None lsn r is on e = absurd (on refl)
by_tail s (Some tail) lsn r is on e = by_bool (ltb lsn tail || ltb (flushed s) lsn) refl
  where
    at : refused_if (ltb lsn tail || ltb (flushed s) lsn) (refusals.ArchiveTailInvalid lsn tail (flushed s)) None ≡ Some r
    at = rw is at e

    by_bool : (b : Bool) → (ltb lsn tail || ltb (flushed s) lsn) ≡ b → (low : ℕ) × (r ≡ refusals.ArchiveTailInvalid lsn low (flushed s))
    by_bool true b = let told = rw b at at in (tail, cc told)
    by_bool false b = let told = rw b at at in absurd (cc told)

pub tells_flushed : (s : State) (lsn : ℕ) (r : Refusal) → (s.archive ≡ None → ⊥) → tail_refusal s lsn ≡ Some r → stable_of r ≡ Some (flushed s)
tells_flushed s lsn r on e = let found = by_tail s s.archive lsn r refl on e in ap stable_of found.1

-- the flushed LSN is not refused
at_flushed : (s : State) (tail : Option ℕ) → s.archive ≡ tail → (tail ≡ None → ⊥) → IfSome tail (λ low. low ≤ flushed s) → tail_refusal s (flushed s) ≡ None
at_flushed s None is on low = absurd (on refl)
at_flushed s (Some tail) is on low = rw is (grind (arith, low))

pub flushed_is_fine : (s : State) → (s.archive ≡ None → ⊥) → IfSome s.archive (λ low. low ≤ flushed s) → tail_refusal s (flushed s) ≡ None
flushed_is_fine s on low = at_flushed s s.archive refl on low

-- the highest LSN isn't refused only if all below it is on the disk
above_none : (s : State) (tail : Option ℕ) → s.archive ≡ tail → (tail ≡ None → ⊥) → flushed s < 18446744073709551616 → tail_refusal s highest ≡ None → highest ≡ flushed s
above_none s None is on few e = absurd (on refl)
above_none s (Some tail) is on few e = ⊎_elim
    (λ (lt : flushed s < highest). absurd (refused_there lt))
    (λ (le : highest ≤ flushed s). omega (arith, le, few))
    (cases_lt (flushed s) highest)
  where
    at : refused_if (ltb highest tail || ltb (flushed s) highest) (refusals.ArchiveTailInvalid highest tail (flushed s)) None ≡ None
    at = rw is at e

    refused_there : flushed s < highest → ⊥
    refused_there lt = grind (arith, lt, at)

pub highest_is_flushed : (s : State) → (s.archive ≡ None → ⊥) → flushed s < 18446744073709551616 → tail_refusal s highest ≡ None → highest ≡ flushed s
highest_is_flushed s on few e = above_none s s.archive refl on few e

-- ---- the answers of the call

-- a flushed LSN was told: nothing has changed
pub was_told : (s t : State) (lsn : ℕ) (r : Refusal) (stable : ℕ) → s.broken ≡ false → (s.archive ≡ None → ⊥)
    → Step true s 0 (calls.SetArchiveTail lsn) (happened_of_refusal r) (refused r) t → Some stable ≡ stable_of r
    → (t ≡ s) × ((stable ≡ flushed s) × (is_of_call r ≡ true))
was_told s t lsn r stable fine on step told = ⊎_elim
    (λ (fault : (tail_refusal s lsn ≡ None) × ((r ≡ refusals.DiskFault) × (t ≡ with_broken s))). absurd (no_stable fault.1.0))
    (λ (own : (tail_refusal s lsn ≡ Some r) × (t ≡ s)). (own.1, (cc (told ∙ tells_flushed s lsn r on own.0), of_call own.0)))
    (was_refused s t lsn fine r step)
  where
    no_stable : r ≡ refusals.DiskFault → ⊥
    no_stable e = let never : Some stable ≡ None = told ∙ ap stable_of e in cc never

    of_call : tail_refusal s lsn ≡ Some r → is_of_call r ≡ true
    of_call e = let found = by_tail s s.archive lsn r refl on e in ap is_of_call found.1

-- none was told: the disk failed, in a call that wasn't refused
pub was_fault : (s t : State) (lsn : ℕ) (r : Refusal) → s.broken ≡ false → (s.archive ≡ None → ⊥)
    → Step true s 0 (calls.SetArchiveTail lsn) (happened_of_refusal r) (refused r) t → None ≡ stable_of r
    → (tail_refusal s lsn ≡ None) × ((r ≡ refusals.DiskFault) × (t ≡ with_broken s))
was_fault s t lsn r fine on step told = ⊎_elim
    (λ (fault : (tail_refusal s lsn ≡ None) × ((r ≡ refusals.DiskFault) × (t ≡ with_broken s))). fault)
    (λ (own : (tail_refusal s lsn ≡ Some r) × (t ≡ s)). let never : None ≡ Some (flushed s) = told ∙ tells_flushed s lsn r on own.0 in absurd (cc never))
    (was_refused s t lsn fine r step)

-- the same of a disk, the fault told in another way
pub writes_as : (fault other : Type 0) (old new : DiskState) → (fault → other) → (other → fault) → WritesDisk fault old new → WritesDisk other old new
writes_as fault other old new to back writes = record {
  time = writes.time;
  cause = λ f. writes.cause (back f);
  whole = λ none. writes.whole (λ f. none (to f));
  steady = λ steady told are. let fine = writes.steady steady told are in (λ f. fine.0 (back f), fine.1);
}
