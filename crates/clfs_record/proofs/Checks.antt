-- What a check that passes says, and that what is right passes it.
use Rattle.std.proofs.Common.{◌≡◌, ◌≢◌, ◌⊎◌, inl, inr, ⊎_elim, ℕ, ◌<◌, ◌≤◌, Bool, true, false, cond, eqb, ltb, leb, not, ◌||◌, List, length, get_or}
use Rattle.std.proofs.Common.{replicate}
use Rattle.std.proofs.Common.{Option, Some, None, refl, sym, ◌∙◌, ap, subst, arith}
use Rattle.std.specs.Option.{option_map}
use Rattle.std.specs.List.{position_or_len, position}
use Rattle.std.proofs.lemmas.List.{ext_get_or, length-replicate, get_or-replicate}
use Rattle.std.proofs.lemmas.List.Sums.{fails_before_first, position_or_len_is}
use Rattle.std.proofs.lemmas.Bool.{cases_eq, ltb-false, le-ltb}
use Rattle.std.proofs.lemmas.Bool.Decides.{nat_tests}
use Rattle.clfs_lsn.specs.declared.entry.Kind.{Kind}
use Rattle.clfs_lsn.specs.declared.entry.Kind.TheVariants.{Plain, Restart}
use Rattle.clfs_lsn.specs.Spelling.{kind_byte, BaseFits, Header, header_fault, is_wrong_base}
use Rattle.clfs_lsn.specs.Checks.{no_fault, pass_check}

-- what holds of a header without a fault
pub record IsRight (lsn streams : ℕ) (h : Header) : Type 0 where
  pub some_stream : 1 ≤ h.stream
  pub stream : h.stream ≤ streams
  pub kind : (h.kind ≡ 1) ⊎ (h.kind ≡ 2)
  pub zero_is : h.zero ≡ 0
  pub previous : h.previous < lsn
  pub undo_next : h.undo_next < lsn
  pub base : ((h.kind ≡ 1) × (h.new_base ≡ 0)) ⊎ ((h.kind ≡ 2) × (h.new_base ≤ lsn))

base_right : (kind base lsn : ℕ) → (kind ≡ 1) ⊎ (kind ≡ 2) → is_wrong_base kind lsn base ≡ false
    → ((kind ≡ 1) × (base ≡ 0)) ⊎ ((kind ≡ 2) × (base ≤ lsn))
base_right kind base lsn (inl is) e = inl (is, grind (arith, nat_tests))
base_right kind base lsn (inr is) e = inr (is, grind (arith, nat_tests))

neither_kind : (kind : ℕ) → kind ≢ 1 → kind ≢ 2 → not (eqb kind 1 || eqb kind 2) ≡ true
neither_kind kind p q = grind (arith, nat_tests)

kind_right : (kind : ℕ) → not (eqb kind 1 || eqb kind 2) ≡ false → (kind ≡ 1) ⊎ (kind ≡ 2)
kind_right kind e = ⊎_elim (λ is. inl is)
    (λ p. ⊎_elim (λ is. inr is) (λ q. let clash = neither_kind kind p q in absurd (cc (clash, e))) (cases_eq kind 2))
    (cases_eq kind 1)

stream_right : (stream streams : ℕ) → (eqb stream 0 || ltb streams stream) ≡ false → (1 ≤ stream) × (stream ≤ streams)
stream_right stream streams e = (grind (arith, nat_tests), grind (arith, nat_tests))

zero_right : (n : ℕ) → not (eqb n 0) ≡ false → n ≡ 0
zero_right n e = grind (arith, nat_tests)

below_right : (a b : ℕ) → leb a b ≡ false → b < a
below_right a b e = grind (arith, nat_tests)

pub right : (lsn streams : ℕ) (h : Header) → header_fault lsn streams h ≡ None → IsRight lsn streams h
right lsn streams h e =
    let a = no_fault _ _ _ e in
    let b = no_fault _ _ _ a.1 in
    let c = no_fault _ _ _ b.1 in
    let d = no_fault _ _ _ c.1 in
    let f = no_fault _ _ _ d.1 in
    let k = no_fault _ _ _ f.1 in
    let stream = stream_right h.stream streams a.0 in
    let kind = kind_right h.kind b.0 in
    record {
      some_stream = stream.0;
      stream = stream.1;
      kind = kind;
      zero_is = zero_right h.zero c.0;
      previous = below_right lsn h.previous d.0;
      undo_next = below_right lsn h.undo_next f.0;
      base = base_right h.kind h.new_base lsn kind k.0;
    }

stream_passes : (stream streams : ℕ) → 1 ≤ stream → stream ≤ streams → (eqb stream 0 || ltb streams stream) ≡ false
stream_passes stream streams p q = grind (arith, nat_tests)

link_passes : (lsn link : ℕ) → link < lsn → leb lsn link ≡ false
link_passes lsn link p = grind (arith, nat_tests)

kind_passes : (kind : Kind) → not (eqb (kind_byte kind) 1 || eqb (kind_byte kind) 2) ≡ false
kind_passes Plain = refl
kind_passes Restart = refl

base_passes : (kind : Kind) (lsn base : ℕ) → BaseFits kind lsn base → is_wrong_base (kind_byte kind) lsn base ≡ false
base_passes Plain lsn base is = zero_passes base is
  where
    zero_passes : (base : ℕ) → base ≡ 0 → not (eqb base 0) ≡ false
    zero_passes base is = grind (arith, nat_tests)
base_passes Restart lsn base le = le-ltb lsn base le

-- a header with these fields passes
pub passes : (lsn streams len stream : ℕ) (kind : Kind) (previous undo_next base : ℕ) → 1 ≤ stream → stream ≤ streams → previous < lsn → undo_next < lsn
    → BaseFits kind lsn base
    → header_fault lsn streams (record { len = len; stream = stream; kind = kind_byte kind; zero = 0; previous = previous; undo_next = undo_next; new_base = base }) ≡ None
passes lsn streams len stream kind previous undo_next base some few before undo fits =
    pass_check _ 4 _ (stream_passes stream streams some few)
    (pass_check _ 6 _ (kind_passes kind)
    (pass_check _ 7 _ refl
    (pass_check _ 8 _ (link_passes lsn previous before)
    (pass_check _ 16 _ (link_passes lsn undo_next undo)
    (pass_check _ 24 _ (base_passes kind lsn base fits) refl)))))

pub kind_back : (kind : ℕ) → (kind ≡ 1) ⊎ (kind ≡ 2) → kind_byte (cond (eqb kind 1) Plain Restart) ≡ kind
kind_back kind (inl is) = subst (λ (k : ℕ). kind_byte (cond (eqb k 1) Plain Restart) ≡ k) (sym is) refl
kind_back kind (inr is) = subst (λ (k : ℕ). kind_byte (cond (eqb k 1) Plain Restart) ≡ k) (sym is) refl

pub kind_kept : (kind : Kind) → cond (eqb (kind_byte kind) 1) Plain Restart ≡ kind
kind_kept Plain = refl
kind_kept Restart = refl

pub base_back : (kind base lsn : ℕ) → ((kind ≡ 1) × (base ≡ 0)) ⊎ ((kind ≡ 2) × (base ≤ lsn)) → BaseFits (cond (eqb kind 1) Plain Restart) lsn base
base_back kind base lsn (inl both) = subst (λ (k : ℕ). BaseFits (cond (eqb k 1) Plain Restart) lsn base) (sym both.0) both.1
base_back kind base lsn (inr both) = subst (λ (k : ℕ). BaseFits (cond (eqb k 1) Plain Restart) lsn base) (sym both.0) both.1

none_found : (b : Bool) (at : ℕ) → cond b (Some at) None ≡ None → b ≡ false
none_found true at e = absurd (cc e)
none_found false at e = refl

-- bytes without another byte than 0
pub all_zero : (bytes : List ℕ) → position (λ b. not (eqb b 0)) bytes ≡ None → bytes ≡ replicate (length bytes) 0
all_zero bytes e =
    let far : length bytes ≤ position_or_len (λ b. not (eqb b 0)) bytes = ltb-false _ _ (none_found _ _ e) in
    ext_get_or 0 bytes (replicate (length bytes) 0) (sym (length-replicate (length bytes) 0))
    (λ i lt. zero_right (get_or bytes i 0) (fails_before_first (λ b. not (eqb b 0)) bytes i 0 (omega (arith, lt, far)))
    ∙ sym (get_or-replicate (length bytes) i 0 0 lt))

pub zeros_pass : (n : ℕ) → position (λ b. not (eqb b 0)) (replicate n 0) ≡ None
zeros_pass n =
    let zeros : List ℕ = replicate n 0 in
    let size_is : length zeros ≡ n = length-replicate n 0 in
    let all : position_or_len (λ b. not (eqb b 0)) zeros ≡ length zeros =
    position_or_len_is (λ b. not (eqb b 0)) zeros (length zeros) 0 (omega arith)
    (λ k lt. ap (λ b. not (eqb b 0)) (get_or-replicate n k 0 0 (omega (arith, lt, size_is)))) (λ lt. absurd (omega (arith, lt))) in
    ap (λ b. cond b (Some (position_or_len (λ b. not (eqb b 0)) zeros)) None)
    (le-ltb (position_or_len (λ b. not (eqb b 0)) zeros) (length zeros) (omega (arith, all)))

pub mapped_none : (f : ℕ → ℕ) (o : Option ℕ) → option_map f o ≡ None → o ≡ None
mapped_none f None e = refl
mapped_none f (Some at) e = absurd (cc e)
