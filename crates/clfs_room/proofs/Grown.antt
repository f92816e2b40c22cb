-- How a log grows for what a call needs, and what it has then.
use Rattle.std.proofs.Common.{◌≡◌, ℕ, ◌+◌, ◌<◌, ◌≤◌, Bool, true, false, refl, sym, ap, ◌∙◌, inl, inr, ⊎_elim, arith}
use Rattle.std.specs.Prelude.{◌⊎◌, ◌&&◌, Option, Some, None, IfSome, unwrap_or, nat_le, nat_lt}
use Rattle.std.proofs.lemmas.Bool.{cases_Bool, ltb-true}
use Rattle.clfs_lsn.specs.Limits.{most_containers}
use Rattle.clfs_lsn.specs.Space.{growth}
use Rattle.clfs_lsn.specs.declared.place.Place.{Place}
use Rattle.clfs_lsn.specs.declared.shape.Shape.{Shape}
use Rattle.clfs_model.specs.declared.refusal.Refusal.TheVariants as refusals
use Rattle.clfs_model.specs.declared.state.State.{State}
use Rattle.clfs_model.specs.Live.{hold}
use Rattle.clfs_model.specs.Refusals.{full}
use Rattle.clfs_model.specs.Space.{free, reserved, grown, grown_if, grown_containers, growth_rate, has_room, size_limit, with_containers}
use Rattle.clfs_space.specs.Growing.{IsLeastStep}

-- the numbers of containers after growth, from the parts of the state that they are computed from
pub grown_is : (s : State) (wanted : ℕ) (shape : Shape) (place : Place) (needed have rate limit result : ℕ) (steps : Option ℕ)
    → steps ≡ growth shape place needed have rate limit wanted → result ≡ unwrap_or steps have
    → shape ≡ s.shape → place ≡ s.place → needed ≡ hold s → have ≡ s.containers → rate ≡ growth_rate s → limit ≡ size_limit s
    → result ≡ grown_containers s wanted
grown_is s wanted shape place needed have rate limit result steps given is of_shape of_place of_hold of_have of_rate of_limit =
    is ∙ ap (λ (o : Option ℕ). unwrap_or o have) given
    ∙ ap (λ (x : Shape). unwrap_or (growth x place needed have rate limit wanted) have) of_shape
    ∙ ap (λ (x : Place). unwrap_or (growth s.shape x needed have rate limit wanted) have) of_place
    ∙ ap (λ (x : ℕ). unwrap_or (growth s.shape s.place x have rate limit wanted) have) of_hold
    ∙ ap (λ (x : ℕ). unwrap_or (growth s.shape s.place (hold s) x rate limit wanted) x) of_have
    ∙ ap (λ (x : ℕ). unwrap_or (growth s.shape s.place (hold s) s.containers x limit wanted) s.containers) of_rate
    ∙ ap (λ (x : ℕ). unwrap_or (growth s.shape s.place (hold s) s.containers (growth_rate s) x wanted) s.containers) of_limit

-- growth never takes containers away, and keeps to the most that it is given
pub grown_between : (shape : Shape) (place : Place) (needed have rate limit wanted : ℕ) (steps : Option ℕ)
    → IfSome steps (IsLeastStep shape place needed have rate limit wanted) → have ≤ most_containers → limit ≤ most_containers
    → (have ≤ unwrap_or steps have) × (unwrap_or steps have ≤ most_containers)
grown_between shape place needed have rate limit wanted None is few at_most = (omega arith, few)
grown_between shape place needed have rate limit wanted (Some n) is few at_most =
    let steps = is.whole_steps in (omega (arith, steps.2), omega (arith, is.at_most, at_most))

-- and growth keeps to the limit
pub grown_to_limit : (shape : Shape) (place : Place) (needed have rate limit wanted : ℕ) (steps : Option ℕ)
    → IfSome steps (IsLeastStep shape place needed have rate limit wanted) → have < unwrap_or steps have → unwrap_or steps have ≤ limit
grown_to_limit shape place needed have rate limit wanted None is more = absurd (omega (arith, more))
grown_to_limit shape place needed have rate limit wanted (Some n) is more = is.at_most

-- a log that may not grow, or has enough, stays as it is
pub not_grown : (s : State) (need : ℕ) → (s.automatic ≡ false) ⊎ (reserved s + need ≤ free s) → grown s need ≡ s
unfolding grown
not_grown s need enough = elim (cases_Bool (s.automatic && nat_lt (free s) (reserved s + need))) [
  | inl grows ↦ absurd (⊎_elim
      (λ (off : s.automatic ≡ false). never_off s.automatic (nat_lt (free s) (reserved s + need)) off grows)
      (λ (room : reserved s + need ≤ free s). never_enough s.automatic (free s) (reserved s + need) room grows) enough)
  | inr stays ↦ rw stays refl
]
  where
    never_off : (a b : Bool) → a ≡ false → (a && b) ≡ true → ⊥
    never_off false b off both = cc
    never_off true b off both = cc

    never_enough : (a : Bool) (x y : ℕ) → y ≤ x → (a && nat_lt x y) ≡ true → ⊥
    never_enough false x y le both = cc
    never_enough true x y le both = let lt : nat_lt x y ≡ true = both in omega (arith, le, ltb-true x y lt)

-- one that may and hasn't grows to the least number of containers that is enough
pub is_grown : (s : State) (need : ℕ) → s.automatic ≡ true → free s < reserved s + need → grown s need ≡ with_containers (grown_containers s (reserved s + need)) s
unfolding grown
is_grown s need on short = ap (λ (test : Bool). grown_if test s (reserved s + need)) (both s.automatic (free s) (reserved s + need) on short)
  where
    both : (a : Bool) (x y : ℕ) → a ≡ true → x < y → (a && nat_lt x y) ≡ true
    both a x y on lt = grind (arith)

-- the same of the numbers that were computed of it
pub stays_by : (s : State) (need free_now reserved_now : ℕ) (automatic : Bool) → free_now ≡ free s → reserved_now ≡ reserved s → automatic ≡ s.automatic
    → (automatic ≡ false) ⊎ ((automatic ≡ true) × (reserved_now + need ≤ free_now)) → grown s need ≡ s
stays_by s need free_now reserved_now automatic of_free of_reserved of_automatic either = not_grown s need (⊎_elim
    (λ (off : automatic ≡ false). inl (sym of_automatic ∙ off))
    (λ (enough : (automatic ≡ true) × (reserved_now + need ≤ free_now)). inr (omega (arith, enough.1, of_free, of_reserved))) either)

pub grows_by : (s : State) (need free_now reserved_now after : ℕ) (automatic : Bool) → free_now ≡ free s → reserved_now ≡ reserved s → automatic ≡ s.automatic
    → automatic ≡ true → free_now < reserved_now + need → after ≡ grown_containers s (reserved_now + need) → grown s need ≡ with_containers after s
grows_by s need free_now reserved_now after automatic of_free of_reserved of_automatic on short is =
    is_grown s need (sym of_automatic ∙ on) (omega (arith, short, of_free, of_reserved))
    ∙ ap (λ (n : ℕ). with_containers n s) (sym (is ∙ ap (λ (n : ℕ). grown_containers s (n + need)) of_reserved))

-- growth changes nothing that areas hold
pub reserved_grown : (s : State) (need : ℕ) → reserved (grown s need) ≡ reserved s
unfolding grown
reserved_grown s need = reserved_if (s.automatic && nat_lt (free s) (reserved s + need))
  where
    reserved_if : (test : Bool) → reserved (grown_if test s (reserved s + need)) ≡ reserved s
    reserved_if true = refl
    reserved_if false = refl

room_test : (s : State) (need : ℕ) → has_room s need ≡ nat_le (reserved s + need) (free (grown s need))
unfolding has_room
room_test s need = refl

-- there is room
pub not_full : (s : State) (need : ℕ) → reserved s + need ≤ free (grown s need) → full s need ≡ None
not_full s need enough = rw (room_test s need, enough_is (reserved s + need) (free (grown s need)) enough) refl
  where
    enough_is : (x y : ℕ) → x ≤ y → nat_le x y ≡ true
    enough_is x y le = grind (arith)

-- there is none
pub is_full : (s : State) (need : ℕ) → free (grown s need) < reserved s + need → full s need ≡ Some (refusals.Full (free (grown s need)) (reserved s) need)
is_full s need short = rw (room_test s need, short_is (reserved s + need) (free (grown s need)) short, reserved_grown s need) refl
  where
    short_is : (x y : ℕ) → y < x → nat_le x y ≡ false
    short_is x y lt = grind (arith)

-- the same of the numbers that were computed of it
pub full_by : (s : State) (need free_now reserved_now : ℕ) → free_now ≡ free (grown s need) → reserved_now ≡ reserved s → free_now < reserved_now + need
    → Some (refusals.Full free_now reserved_now need) ≡ full s need
full_by s need free_now reserved_now of_free of_reserved short =
    ap (λ (n : ℕ). Some (refusals.Full n reserved_now need)) of_free ∙ ap (λ (n : ℕ). Some (refusals.Full (free (grown s need)) n need)) of_reserved
    ∙ sym (is_full s need (omega (arith, short, of_free, of_reserved)))
