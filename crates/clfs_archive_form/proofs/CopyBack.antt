-- A base copy is read back of the archive that has it: it has no fault among those that are looked for there.
use Rattle.clfs_archive_form.proofs.Words.{◌≡◌, ℕ, ◌-◌, ◌^◌, ◌<◌, ◌≤◌, Bool, true, false, not, ◌||◌, cond, List, [], ◌∷◌, ◌++◌, length, take, Option, Some}
use Rattle.clfs_archive_form.proofs.Words.{None, Ok, refl, sym, ◌∙◌, ap, subst, append-nil, arith, take-append_seam, eqb-true, le-ltb, nat_tests, zip}
use Rattle.clfs_archive_form.proofs.Words.{option_or, lsn_number, container_of, BaseImage, number_at, layout_in, IsImage, spelled, image_of, fault_within}
use Rattle.clfs_archive_form.proofs.Words.{magic, copy_there, first_demands, first_listed, with_tail, slot_in}
use Rattle.std.proofs.Common.{find}
use Rattle.std.specs.Option.{option_map}
use Rattle.clfs_lsn.specs.Checks.{unless_ok}
use Rattle.clfs_base.specs.declared.demands.Asked.{Asked}
use Rattle.clfs_base.specs.declared.demands.Asked.TheVariants.{Between}
use Rattle.clfs_base.specs.declared.layout.Field.{Field}
use Rattle.clfs_base.specs.declared.layout.Numbers.{Numbers}
use Rattle.clfs_base.specs.Layout.{numbers_of, fields}
use Rattle.clfs_base.specs.Checks.{is_wrong_field, wrong_field, slot_fault, image_at}
use Rattle.clfs_base.specs.Demands.{asked, is_asked, is_wrong_within, wrong_within}
use Rattle.clfs_archive_form.proofs.Slots.{copy_right}

-- each field's number is asked for
AreAsked : List Field → List Asked → Type 0
AreAsked [] asks = Unit {0}
AreAsked (f ∷ fs) [] = ⊥
AreAsked (f ∷ fs) (a ∷ asks) = (is_asked a f.number ≡ true) × AreAsked fs asks

-- where no field is wrong and each number is asked for, none is wrong within what is asked
asked_pass : (bytes : List ℕ) (fs : List Field) (asks : List Asked) → wrong_field bytes fs ≡ None → AreAsked fs asks
    → wrong_within bytes (zip fs asks) ≡ None
unfolding AreAsked
asked_pass bytes [] asks none are = refl
asked_pass bytes (f ∷ fs) [] none are = absurd are
asked_pass bytes (f ∷ fs) (a ∷ asks) none are =
    by (is_wrong_field bytes f) (is_asked a f.number) (find (is_wrong_field bytes) fs) (find (is_wrong_within bytes) (zip fs asks)) are.0 none
    (λ rest. asked_pass bytes fs asks rest are.1)
  where
    by : (b c : Bool) (rest : Option Field) (more : Option (Field × Asked)) → c ≡ true
        → option_map (λ (g : Field). g.at) (cond b (Some f) rest) ≡ None
        → (option_map (λ (g : Field). g.at) rest ≡ None → option_map (λ (x : Field × Asked). x.0.at) more ≡ None)
        → option_map (λ (x : Field × Asked). x.0.at) (cond (b || not c) (Some (f, a)) more) ≡ None
    by true c rest more is none next = absurd (cc none)
    by false true rest more is none next = next none
    by false false rest more is none next = absurd (cc is)

both_none : (one rest : Option ℕ) → option_or one rest ≡ None → (one ≡ None) × (rest ≡ None)
both_none None rest e = (refl, e)
both_none (Some at) rest e = absurd (cc e)

goes_on : (one rest : Option ℕ) → one ≡ None → rest ≡ None → option_or one rest ≡ None
goes_on one rest none is = ap (λ (o : Option ℕ). option_or o rest) none ∙ is

between : (least most number : ℕ) → least ≤ number → number ≤ most → is_asked (Between least most) number ≡ true
between least most number low high = grind (arith, nat_tests)

module _ (image : BaseImage) (slot : List ℕ) (read : image_at slot ≡ Ok image) (version : image.version ≡ 2) (turn : image.turn ≡ 0)
    (on : image.archiving ≡ true) (low : lsn_number (first_listed slot) 0 0 ≤ image.tail) (high : image.tail < 2 ^ 64) where
  parts : (slot_fault (layout_in slot) slot ≡ None) × (image_of (layout_in slot) slot ≡ image)
  parts =
      let p = unless_ok (λ (at : ℕ). at) (slot_fault (layout_in slot) slot) (Ok (image_of (layout_in slot) slot)) image read in (p.0, cc p.1)

  abbrev n : Numbers
  n = numbers_of slot

  version_is : n.version ≡ 2
  version_is = ap (λ (i : BaseImage). i.version) parts.1 ∙ version

  turn_is : n.turn ≡ 0
  turn_is = ap (λ (i : BaseImage). i.turn) parts.1 ∙ turn

  archiving_is : n.archiving ≡ 1
  archiving_is = eqb-true n.archiving 1 (ap (λ (i : BaseImage). i.archiving) parts.1 ∙ on)

  tail_is : n.tail ≡ image.tail
  tail_is = ap (λ (i : BaseImage). i.tail) parts.1

  are_asked : AreAsked (fields (layout_in slot) n) (asked (with_tail slot first_demands))
  unfolding AreAsked
  are_asked = (
    between 2 2 n.version (omega (arith, version_is)) (omega (arith, version_is)),
    (
      between 0 0 n.turn (omega (arith, turn_is)) (omega (arith, turn_is)),
      (
        refl,
        (
          refl,
          (
            refl,
            (
              refl,
              (
                refl,
                (
                  refl,
                  (
                    refl,
                    (
                      refl,
                      (
                        between 1 1 n.archiving (omega (arith, archiving_is)) (omega (arith, archiving_is)),
                        (
                          refl,
                          (
                            refl,
                            (
                              refl,
                              (
                                refl,
                                (between (lsn_number (first_listed slot) 0 0) (2 ^ 64 - 1) n.tail (omega (arith, tail_is, low)) (omega (arith, tail_is, high)), (refl, tt)),
                              ),
                            ),
                          ),
                        ),
                      ),
                    ),
                  ),
                ),
              ),
            ),
          ),
        ),
      ),
    ),
  )

  no_fault : fault_within (with_tail slot first_demands) (layout_in slot) slot ≡ None
  unfolding fault_within slot_fault
  no_fault =
      let both = both_none _ _ parts.0 in
      goes_on _ _ (asked_pass slot (fields (layout_in slot) n) (asked (with_tail slot first_demands)) both.0 are_asked) both.1

  image_is : image ≡ image_of (layout_in slot) slot
  image_is = sym parts.1

abbrev pub Written : Type 0
Written = (image : BaseImage) (gate : ℕ) (rest : List ℕ) → IsImage image → image_at (gate ∷ (spelled image ++ rest)) ≡ Ok image

abbrev pub HaveLength : Type 0
HaveLength = (image : BaseImage) → IsImage image → length (spelled image) ≡ 16383

-- the copy of an archive is read of its bytes
pub copy_back : Written → HaveLength → (image : BaseImage) (rest : List ℕ) → IsImage image → image.version ≡ 2 → image.turn ≡ 0 → image.archiving ≡ true
    → image.first ≤ container_of image.tail → image.tail < 2 ^ 64 → copy_there first_demands (magic ++ (spelled image ++ rest)) 0 ≡ Ok image
copy_back written sized image rest fits version turn on low high =
    let slot : List ℕ = 49 ∷ spelled image in
    let long : length slot ≡ 16384 = omega (arith, sized image fits) in
    let read : image_at slot ≡ Ok image = subst (λ (l : List ℕ). image_at (49 ∷ l) ≡ Ok image) (append-nil (spelled image)) (written image 49 [] fits) in
    let here : slot ≡ slot_in (magic ++ (spelled image ++ rest)) 0 = sym (take-append_seam slot rest) ∙ ap (λ (k : ℕ). take k (slot ++ rest)) long in
    let same : image_of (layout_in slot) slot ≡ image = image_same slot read in
    let listed : first_listed slot ≡ image.first =
    ap (λ (b : Bool). cond b 0 (number_at 16 4 slot)) (le-ltb (length slot) 20 (omega (arith, long))) ∙ ap (λ (i : BaseImage). i.first) same in
    let tail : lsn_number (first_listed slot) 0 0 ≤ image.tail = omega (arith, listed, low) in
    copy_right first_demands (with_tail slot first_demands) (magic ++ (spelled image ++ rest)) 0 slot image here refl
    (no_fault image slot read version turn on tail high) (sym same)
  where
    image_same : (slot : List ℕ) → image_at slot ≡ Ok image → image_of (layout_in slot) slot ≡ image
    image_same slot read =
        let p = unless_ok (λ (at : ℕ). at) (slot_fault (layout_in slot) slot) (Ok (image_of (layout_in slot) slot)) image read in cc p.1
