-- The least of the first live LSNs is the least of all live ones.
use Rattle.std.proofs.Common.{◌≡◌, ℕ, ◌+◌, ◌-◌, ◌<◌, Bool, true, refl, sym, ◌∙◌, inl, inr, arith, List, [], ◌∷◌, length, zero, suc, Option, Some, None, get_or, map}
use Rattle.std.specs.Prelude.{filter, nat_le, ◌==◌, AllPairs}
use Rattle.std.specs.Option.{unwrap_or}
use Rattle.std.proofs.lemmas.Bool.{cases_Bool, eq-eqb, eqb-true}
use Rattle.clfs_lsn.specs.declared.entry.Head.{Head}
use Rattle.clfs_lsn.specs.Heads.{hold_of}
use Rattle.clfs_tail.specs.Firsts.{first_live, AreFirsts, hold_among}
use Rattle.clfs_tail.specs.Tree.{lesser}
use Rattle.clfs_tail.proofs.Leasts.{UpTo, IsAmong, IsLeastOf, IsLeastIn, least_is, with_tail, least_of_firsts}

-- a head is live
abbrev pub is_live_head : (ℕ → ℕ) → Head → Bool
is_live_head bases head = nat_le (bases head.stream) head.lsn

-- the LSNs of the live heads of all streams
abbrev pub live_lsns : (ℕ → ℕ) → List Head → List ℕ
live_lsns bases heads = map (λ (head : Head). head.lsn) (filter (is_live_head bases) heads)

-- the place of a live head among all
record IsLiveAt (bases : ℕ → ℕ) (heads : List Head) (n : ℕ) : Type 0 where
  place : ℕ
  default : Head
  inside : place < length heads
  live : is_live_head bases (get_or heads place default) ≡ true
  is : (get_or heads place default).lsn ≡ n

live_at_place : (bases : ℕ → ℕ) (heads : List Head) (n : ℕ) → IsAmong n (live_lsns bases heads) → IsLiveAt bases heads n
live_at_place bases [] n among = absurd among
live_at_place bases (head ∷ heads) n among = elim (cases_Bool (is_live_head bases head)) [
  | inl passes ↦ elim (rw passes at among) [
    | inl same ↦ record { place = 0; default = head; inside = omega arith; live = passes; is = sym same }
    | inr rest ↦
        let found = live_at_place bases heads n rest in
        record { place = suc found.place; default = found.default; inside = omega (arith, found.inside); live = found.live; is = found.is }
  ]
  | inr fails ↦
      let found = live_at_place bases heads n (rw fails at among) in
      record { place = suc found.place; default = found.default; inside = omega (arith, found.inside); live = found.live; is = found.is }
]

rising_tail : (head : Head) (heads : List Head) → AllPairs (λ (a b : Head). a.lsn < b.lsn) (head ∷ heads) → AllPairs (λ (a b : Head). a.lsn < b.lsn) heads
rising_tail head heads rising = λ i j d before inside. rising (suc i) (suc j) d (omega arith) (omega arith)

-- the first live head of a live head's stream isn't above it
first_up_to : (bases : ℕ → ℕ) (heads : List Head) (k : ℕ) (d : Head) → AllPairs (λ (a b : Head). a.lsn < b.lsn) heads → k < length heads
    → is_live_head bases (get_or heads k d) ≡ true → UpTo (first_live bases heads (get_or heads k d).stream) (get_or heads k d).lsn
first_up_to bases [] k d rising inside live = absurd (omega (arith, inside))
first_up_to bases (head ∷ heads) zero d rising inside live =
    let own = eq-eqb head.stream head.stream refl in
    rw own (rw live (record { value = head.lsn; is = refl; up_to = omega arith }))
first_up_to bases (head ∷ heads) (suc k) d rising inside live =
    let rest = first_up_to bases heads k d (rising_tail head heads rising) (omega (arith, inside)) live in
    elim (cases_Bool (head.stream == (get_or heads k d).stream)) [
      | inr other ↦ rw other rest
      | inl same ↦ elim (cases_Bool (nat_le (bases (get_or heads k d).stream) head.lsn)) [
        | inr dead ↦ rw same (rw dead rest)
        | inl first ↦
            let less = rising 0 (suc k) d (omega arith) inside in
            rw same (rw first (record { value = head.lsn; is = refl; up_to = omega (arith, less) }))
      ]
    ]

-- a stream's first live LSN is one of the live ones
first_is_live : (bases : ℕ → ℕ) (heads : List Head) (stream n : ℕ) → first_live bases heads stream ≡ Some n → IsAmong n (live_lsns bases heads)
first_is_live bases [] stream n is = absurd (cc)
first_is_live bases (head ∷ heads) stream n is = elim (cases_Bool (head.stream == stream)) [
  | inr other ↦ more bases head heads n (first_is_live bases heads stream n (rw other at is))
  | inl same ↦ elim (cases_Bool (nat_le (bases stream) head.lsn)) [
    | inr dead ↦ more bases head heads n (first_is_live bases heads stream n (rw dead at (rw same at is)))
    | inl first ↦
        let own : head.stream ≡ stream = eqb-true _ _ same in
        let live : is_live_head bases head ≡ true = rw own first in
        let here : n ≡ head.lsn = (let there = rw first at (rw same at is) in cc) in
        rw live (inl here)
  ]
]
  where
    more : (bases : ℕ → ℕ) (head : Head) (heads : List Head) (n : ℕ) → IsAmong n (live_lsns bases heads) → IsAmong n (live_lsns bases (head ∷ heads))
    more bases head heads n among = elim (cases_Bool (is_live_head bases head)) [
      | inl passes ↦ rw passes (inr among)
      | inr fails ↦ rw fails among
    ]

least_of_live : (bases : ℕ → ℕ) (heads : List Head) (firsts : List (Option ℕ)) (least : Option ℕ) → AreFirsts firsts bases heads → IsLeastOf least firsts
    → IsLeastIn least (live_lsns bases heads)
least_of_live bases heads firsts least are is = record {
  below = λ n among.
      let at = live_at_place bases heads n among in
      let stream = are.streams at.place at.default at.inside in
      let up = first_up_to bases heads at.place at.default are.rising at.inside at.live in
      let told = are.each (get_or heads at.place at.default).stream stream.0 stream.1 in
      let here = is.below ((get_or heads at.place at.default).stream - 1) up.value (told ∙ up.is) in
      record { value = here.value; is = here.is; up_to = omega (arith, here.up_to, up.up_to, at.is) };
  one = λ n there.
      let found = is.one n there in
      let inside = within firsts found.0 n found.1 in
      let back : found.0 + 1 - 1 ≡ found.0 = omega arith in
      let told = rw back at (are.each (found.0 + 1) (omega arith) (omega (arith, inside))) in
      first_is_live bases heads (found.0 + 1) n (sym told ∙ found.1);
}
  where
    within : (firsts : List (Option ℕ)) (j n : ℕ) → get_or firsts j None ≡ Some n → j < length firsts
    within [] j n is = absurd (cc)
    within (first ∷ firsts) zero n is = omega arith
    within (first ∷ firsts) (suc j) n is = omega (arith, within firsts j n is)

pub hold_by_firsts : (end : ℕ) (tail least : Option ℕ) (firsts : List (Option ℕ)) → IsLeastOf least firsts
    → unwrap_or (lesser tail least) end ≡ hold_among end tail firsts
hold_by_firsts end tail least firsts is = least_is (lesser tail least) end _ (with_tail tail least _ (least_of_firsts least firsts is))

pub hold_by_heads : (end : ℕ) (tail least : Option ℕ) (bases : ℕ → ℕ) (heads : List Head) (firsts : List (Option ℕ)) → AreFirsts firsts bases heads
    → IsLeastOf least firsts → unwrap_or (lesser tail least) end ≡ hold_of end tail bases heads
hold_by_heads end tail least bases heads firsts are is =
    least_is (lesser tail least) end _ (with_tail tail least _ (least_of_live bases heads firsts least are is))
