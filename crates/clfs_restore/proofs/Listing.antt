-- What asking for the parts that are to be archived says of a log: archiving is off just where it is refused for that.
use Rattle.clfs_restore.proofs.Words.{MatchBool, MatchOption, IsTrue, inl, inr, ⊎_elim, ◌≡◌, ◌⊎◌, ℕ, Bool, true, false, Option, Some, None, refl, ap, subst}
use Rattle.clfs_restore.proofs.Words.{List, Refusal, Happened, Fine, Fault, Damage, Reply, State, answer, flushed, happened_of_refusal, refused_if, Step}
use Rattle.clfs_restore.proofs.Words.{Goes, Comes, IsBroken, IsOutOfMemory, Log, NoMemory}
use Rattle.std.specs.Prelude.{is_none}
use Rattle.clfs_model.specs.declared.call.Call.TheVariants as calls
use Rattle.clfs_model.specs.declared.refusal.Refusal.TheVariants as refusals
use Rattle.clfs_model.specs.declared.info.Extent.{Extent}
use Rattle.clfs_model.specs.declared.reply.Reply.TheVariants as replies
use Rattle.clfs_restore.specs.Archiving.{of_log}

abbrev refused : Refusal → Reply
refused refusal = replies.Refused refusal

-- a step of a log that isn't broken
unbroken : (told : Bool) (s : State) (h : Happened) (reply : Reply) → s.broken ≡ false → Step told s 0 calls.ListExtents h reply s
    → (IsTrue true × IsOutOfMemory s reply s) ⊎ Goes told s 0 calls.ListExtents h reply s
unfolding Step
unbroken told s h reply fine step =
    subst (λ (b : Bool). MatchBool b (IsBroken s reply s) ((IsTrue true × IsOutOfMemory s reply s) ⊎ Goes told s 0 calls.ListExtents h reply s)) fine step

by_archive : (s : State) (r : Refusal) (tail : Option ℕ) → s.archive ≡ tail
    → MatchOption (refused_if (is_none tail) refusals.Ephemeral None) (Comes true (flushed s) (answer s 0 calls.ListExtents) (refused r) s)
    (λ first. (refused r ≡ replies.Refused first) × (s ≡ s)) → (r ≡ refusals.Ephemeral) × (s.archive ≡ None)
by_archive s r None is g = (cc g.0, is)
by_archive s r (Some tail) is g = absurd (cc g.0)

by_happened : (s : State) (r : Refusal) (h : Happened) → Goes true s 0 calls.ListExtents h (refused r) s → (r ≡ refusals.Ephemeral) × (s.archive ≡ None)
by_happened s r Fine g = by_archive s r s.archive refl g
by_happened s r Fault g = absurd (cc g.1.0)
by_happened s r Damage g = absurd (cc g.1.0)

pub off : (s : State) (r : Refusal) → s.broken ≡ false → Step true s 0 calls.ListExtents (happened_of_refusal r) (refused r) s
    → (of_log r ≡ NoMemory) ⊎ ((of_log r ≡ Log refusals.Ephemeral) × (s.archive ≡ None))
off s r fine step =
    ⊎_elim (λ (m : IsTrue true × IsOutOfMemory s (refused r) s). inl (ap of_log (no_memory m.1.0)))
    (λ (g : Goes true s 0 calls.ListExtents (happened_of_refusal r) (refused r) s).
    let why = by_happened s r (happened_of_refusal r) g in inr (ap of_log why.0, why.1)) (unbroken true s (happened_of_refusal r) (refused r) fine step)
  where
    no_memory : refused r ≡ replies.Refused refusals.NoMemory → r ≡ refusals.NoMemory
    no_memory e = cc e

listed : (s : State) (reply : Reply) (tail : Option ℕ) → tail ≡ None
    → MatchOption (refused_if (is_none tail) refusals.Ephemeral None) (Comes true (flushed s) (answer s 0 calls.ListExtents) reply s)
    (λ first. (reply ≡ replies.Refused first) × (s ≡ s)) → reply ≡ replies.Refused refusals.Ephemeral
listed s reply None none g = g.0
listed s reply (Some tail) none g = absurd (cc none)

pub on : (s : State) (extents : List Extent) → s.broken ≡ false → Step true s 0 calls.ListExtents Fine (replies.Extents extents) s → s.archive ≡ None → ⊥
on s extents fine step none =
    ⊎_elim (λ (m : IsTrue true × IsOutOfMemory s (replies.Extents extents) s). absurd (cc m.1.0))
    (λ (g : Goes true s 0 calls.ListExtents Fine (replies.Extents extents) s). absurd (cc (listed s (replies.Extents extents) s.archive none g)))
    (unbroken true s Fine (replies.Extents extents) fine step)
