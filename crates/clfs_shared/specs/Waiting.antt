-- Who waits for the turn of a shared log, and who is let in.
use Rattle.std.specs.Prelude.{◌≡◌, ◌⊎◌, ℕ, ◌-◌, ◌==◌, nat_lt, Bool, true, false, not, ◌||◌, ◌&&◌, if◌then◌else◌}
use Rattle.clfs_shared.specs.declared.waiting.Kind.{Kind}
use Rattle.clfs_shared.specs.declared.waiting.Kind.TheVariants.{Quick, Flushing}
use Rattle.clfs_shared.specs.declared.waiting.Gathering.{Gathering}
use Rattle.clfs_shared.specs.declared.waiting.Gathering.TheVariants.{NotBegun, UnderWay, Done}
use Rattle.clfs_shared.specs.declared.waiting.Waiting.{Waiting}

-- the other kind of calls
abbrev pub other_than : Kind → Kind
other_than Quick = Flushing
other_than Flushing = Quick

-- both are of one kind
abbrev pub is_same_kind : Kind → Kind → Bool
is_same_kind Quick Quick = true
is_same_kind Flushing Flushing = true
is_same_kind _ _ = false

-- a flush gathers
abbrev pub is_under_way : Gathering → Bool
is_under_way UnderWay = true
is_under_way _ = false

-- how many calls of a kind wait
abbrev pub waiting_of : Waiting → Kind → ℕ
waiting_of w Quick = w.quick
waiting_of w Flushing = w.flushing

-- the same by the parts of the state that tell it
abbrev pub first_by : Gathering → ℕ → Kind → Kind
first_by UnderWay left serves = Quick
first_by Done left serves = Flushing
first_by NotBegun left serves = if left == 0 then other_than serves else serves

-- the kind that comes before the other: quick calls while a flush gathers, flushes when one has, and else the kind that is served, until none is left to it
abbrev pub first_of : Waiting → Kind
first_of w = first_by w.gathering w.left w.serves

-- A call of this kind need not wait: none is made, and its kind comes first, or none of the other waits and no flush gathers.
abbrev pub is_let_in : Waiting → Kind → Bool
is_let_in w kind = not w.busy && (is_same_kind (first_of w) kind || (not (is_under_way w.gathering) && waiting_of w (other_than kind) == 0))

-- Whoever need not wait before a call of this kind came need not after it, or the one that came need not. So whoever was woken goes in, or another does
-- that is awake.
abbrev pub KeepsLetIn : Waiting → Waiting → Kind → Type 0
KeepsLetIn old new came = (kind : Kind) → is_let_in old kind ≡ true → (is_let_in new kind ≡ true) ⊎ (is_let_in new came ≡ true)

-- a call of this kind goes on with its kind's turn
abbrev pub goes_on : Waiting → Kind → Bool
goes_on w kind = is_same_kind w.serves kind && nat_lt 0 w.left

-- A call of this kind is made. It is one of the turn of its kind, or it begins one, for as many more as wait now.
abbrev pub with_one_in : Kind → Waiting → Waiting
with_one_in kind w = record w { busy = true; serves = kind; left = if goes_on w kind then w.left - 1 else waiting_of w kind }
