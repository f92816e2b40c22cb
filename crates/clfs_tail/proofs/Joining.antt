-- The first live LSNs follow the heads: where a record joins, where a base moves, and where a stream is added.
use Rattle.std.proofs.Common.{◌≡◌, ◌≢◌, ℕ, ◌+◌, ◌-◌, ◌<◌, ◌≤◌, refl, sym, ap, ◌∙◌, inl, inr, arith, List, [], ◌∷◌, ◌++◌, length, Option, Some, None, get_or, set, slice_get}
use Rattle.std.specs.Prelude.{is_some, nat_le, if◌then◌else◌, ◌==◌, All, AllPairs}
use Rattle.std.specs.Option.{option_map}
use Rattle.std.proofs.lemmas.Bool.{cases_Bool, cases_eq, cases_lt, eq-eqb, ne_eqb, le-leb}
use Rattle.std.proofs.lemmas.List.{append-nil, get_or_append_left, get_or_push, get_or-set_same, get_or-set_other, length_push, length-set}
use Rattle.std.proofs.lemmas.List.Elements.{All-tail, All-weaker, All-push, filter-append}
use Rattle.clfs_lsn.specs.declared.entry.Head.{Head}
use Rattle.clfs_lsn.specs.Heads.{stream_heads, heads_from, live_heads}
use Rattle.clfs_tail.specs.Firsts.{first_live, AreFirsts}

-- a head of one of so many streams
abbrev IsOfFirst : ℕ → Head → Type 0
IsOfFirst count head = (1 ≤ head.stream) × (head.stream ≤ count)

-- No head is of the stream after the last.
none_behind : (count base : ℕ) (heads : List Head) → All (IsOfFirst count) heads → live_heads base (count + 1) heads ≡ []
none_behind count base [] within = refl
none_behind count base (head ∷ heads) within =
    let here = within 0 head (omega arith) in
    rw (ne_eqb head.stream (count + 1) (λ same. omega (arith, same, here.1))) (none_behind count base heads (All-tail (IsOfFirst count) head heads within))

-- a stream without records is added
pub added : (firsts : List (Option ℕ)) (bases : ℕ → ℕ) (heads : List Head) → AreFirsts firsts bases heads → AreFirsts (firsts ++ None ∷ []) bases heads
added firsts bases heads are = record {
  rising = are.rising;
  streams = All-weaker (IsOfFirst (length firsts)) (IsOfFirst (length (firsts ++ None ∷ []))) (λ head here. (here.0, omega (arith, here.1, length_push firsts None))) heads are.streams;
  each = λ stream some within. elim (cases_lt (length firsts) stream) [
    | inl behind ↦
        let last : stream ≡ length firsts + 1 = omega (arith, behind, within, length_push firsts None) in
        let none = none_behind (length firsts) (bases stream) heads are.streams in
        get_or_push firsts None None (stream - 1) (omega (arith, last))
        ∙ sym (ap (λ n. option_map (λ (head : Head). head.lsn) (slice_get (live_heads (bases stream) n heads) 0)) last ∙ ap (λ (hs : List Head). option_map (λ (head : Head). head.lsn) (slice_get hs 0)) none)
    | inr there ↦ get_or_append_left firsts (None ∷ []) None (stream - 1) (omega (arith, there, some)) ∙ are.each stream some there
  ];
}

-- a stream's base moves, and with it its first live LSN
pub moved : (firsts : List (Option ℕ)) (stream : ℕ) (first : Option ℕ) (bases others : ℕ → ℕ) (heads : List Head) → 1 ≤ stream → stream ≤ length firsts
    → AreFirsts firsts bases heads → ((other : ℕ) → other ≢ stream → others other ≡ bases other) → first ≡ first_live others heads stream
    → AreFirsts (set firsts (stream - 1) first) others heads
moved firsts stream first bases others heads some there are same is = record {
  rising = are.rising;
  streams = rw (length-set firsts (stream - 1) first) are.streams;
  each = λ other from_one within. elim (cases_eq other stream) [
    | inl own ↦
        rw own (get_or-set_same firsts (stream - 1) first None (omega (arith, some, there)) ∙ is)
    | inr different ↦
        get_or-set_other firsts (stream - 1) (other - 1) first None (λ at. different (omega (arith, at, some, from_one)))
        ∙ are.each other from_one (omega (arith, within, length-set firsts (stream - 1) first))
        ∙ ap (λ base. option_map (λ (head : Head). head.lsn) (slice_get (live_heads base other heads) 0)) (sym (same other different))
  ];
}

-- a head above all others keeps their LSNs rising
rising_on : (heads : List Head) (head : Head) → AllPairs (λ (a b : Head). a.lsn < b.lsn) heads → All (λ (other : Head). other.lsn < head.lsn) heads
    → AllPairs (λ (a b : Head). a.lsn < b.lsn) (heads ++ head ∷ [])
rising_on heads head rising above = λ i j d before within. elim (cases_lt j (length heads)) [
  | inl inside ↦
      rw (get_or_append_left heads (head ∷ []) d i (omega (arith, before, inside)), get_or_append_left heads (head ∷ []) d j inside) (rising i j d before inside)
  | inr behind ↦
      let last : j ≡ length heads = omega (arith, behind, within, length_push heads head) in
      rw (get_or_append_left heads (head ∷ []) d i (omega (arith, before, last)), get_or_push heads head d j (sym last)) (above i d (omega (arith, before, last)))
]

-- the live heads of a stream with one head more, where that is another stream's or a live one of this stream
live_of_other : (base stream : ℕ) (heads : List Head) (head : Head) → (head.stream ≡ stream → ⊥) → live_heads base stream (heads ++ head ∷ []) ≡ live_heads base stream heads
live_of_other base stream heads head other =
    ap (heads_from base) (filter-append (λ (h : Head). h.stream == stream) heads (head ∷ []) ∙ rw (ne_eqb head.stream stream other) (append-nil _))

live_of_own : (base stream : ℕ) (heads : List Head) (head : Head) → head.stream ≡ stream → base ≤ head.lsn
    → live_heads base stream (heads ++ head ∷ []) ≡ live_heads base stream heads ++ head ∷ []
live_of_own base stream heads head own live =
    ap (heads_from base) (filter-append (λ (h : Head). h.stream == stream) heads (head ∷ []) ∙ rw (eq-eqb head.stream stream own) refl)
    ∙ filter-append (λ (h : Head). nat_le base h.lsn) (stream_heads stream heads) (head ∷ []) ∙ rw (le-leb base head.lsn live) refl

-- the first of heads with one more after them
first_with : (heads : List Head) (head : Head) (first : Option ℕ) → first ≡ option_map (λ (h : Head). h.lsn) (slice_get heads 0)
    → (if is_some first then first else Some head.lsn) ≡ option_map (λ (h : Head). h.lsn) (slice_get (heads ++ head ∷ []) 0)
first_with [] head first is = rw is refl
first_with (other ∷ heads) head first is = rw is refl

-- what becomes of the first LSN of a stream that a record joins
abbrev pub with_pushed : List (Option ℕ) → ℕ → ℕ → List (Option ℕ)
with_pushed firsts stream lsn = if is_some (get_or firsts (stream - 1) None) then firsts else set firsts (stream - 1) (Some lsn)

pushed_long : (firsts : List (Option ℕ)) (stream lsn : ℕ) → length (with_pushed firsts stream lsn) ≡ length firsts
pushed_long firsts stream lsn = elim (cases_Bool (is_some (get_or firsts (stream - 1) None))) [
  | inl some ↦ rw some refl
  | inr none ↦ rw none (length-set firsts (stream - 1) (Some lsn))
]

pushed_own : (firsts : List (Option ℕ)) (stream lsn : ℕ) → 1 ≤ stream → stream ≤ length firsts
    → get_or (with_pushed firsts stream lsn) (stream - 1) None ≡ (if is_some (get_or firsts (stream - 1) None) then get_or firsts (stream - 1) None else Some lsn)
pushed_own firsts stream lsn some there = elim (cases_Bool (is_some (get_or firsts (stream - 1) None))) [
  | inl is ↦ rw is refl
  | inr none ↦ rw none (get_or-set_same firsts (stream - 1) (Some lsn) None (omega (arith, some, there)))
]

pushed_other : (firsts : List (Option ℕ)) (stream lsn other : ℕ) → (other ≡ stream - 1 → ⊥) → get_or (with_pushed firsts stream lsn) other None ≡ get_or firsts other None
pushed_other firsts stream lsn other apart = elim (cases_Bool (is_some (get_or firsts (stream - 1) None))) [
  | inl is ↦ rw is refl
  | inr none ↦ rw none (get_or-set_other firsts (stream - 1) other (Some lsn) None apart)
]

-- a record joins a stream after all others
pub joined : (firsts : List (Option ℕ)) (stream lsn : ℕ) (bases : ℕ → ℕ) (heads : List Head) (head : Head) → 1 ≤ stream → stream ≤ length firsts
    → AreFirsts firsts bases heads → head.stream ≡ stream → head.lsn ≡ lsn → All (λ (other : Head). other.lsn < lsn) heads → bases stream ≤ lsn
    → AreFirsts (with_pushed firsts stream lsn) bases (heads ++ head ∷ [])
joined firsts stream lsn bases heads head some there are own at above live = record {
  rising = rising_on heads head are.rising (rw at above);
  streams = rw (pushed_long firsts stream lsn) (All-push (IsOfFirst (length firsts)) heads head are.streams (omega (arith, own, some), omega (arith, own, there)));
  each = λ other from_one within. elim (cases_eq other stream) [
    | inl same ↦
        rw same (pushed_own firsts stream lsn some there
        ∙ rw (← at) (first_with (live_heads (bases stream) stream heads) head _ (are.each stream some there))
        ∙ ap (λ (hs : List Head). option_map (λ (h : Head). h.lsn) (slice_get hs 0)) (sym (live_of_own (bases stream) stream heads head own (omega (arith, live, at)))))
    | inr different ↦
        pushed_other firsts stream lsn (other - 1) (λ same. different (omega (arith, same, from_one, some)))
        ∙ are.each other from_one (omega (arith, within, pushed_long firsts stream lsn))
        ∙ ap (λ (hs : List Head). option_map (λ (h : Head). h.lsn) (slice_get hs 0)) (sym (live_of_other (bases other) other heads head (λ is. different (sym (sym own ∙ is)))))
  ];
}
