use Rattle.clfs_base.proofs.Words.{◌≡◌, ⊎_elim, ℕ, eqb, sym, ◌∙◌, ap, arith, cases_eq, number_at, file_in}
use Rattle.std.proofs.lemmas.Bool.{ne_eqb, eq-eqb}
use Rattle.clfs_base.proofs.Places.{none_passes}
use Rattle.clfs_base.proofs.Earlier.{one_passes}
use Rattle.clfs_base.proofs.checking.has_number.Goals as goal

pub loop-i-preserved : goal.loop-i-preserved
loop-i-preserved c k lt =
    let i = c.loop-i.i in
    let bytes = c.args.bytes.now in
    let number = c.args.number in
    let here : c.number_2.result ≡ file_in bytes i = c.number_2.ensures ∙ ap (λ (at : ℕ). number_at at 2 bytes) c.file_place.ensures in
    ⊎_elim
    (λ (is : k ≡ i). ap (λ (j : ℕ). eqb (file_in bytes j) number) is ∙ ap (λ (n : ℕ). eqb n number) (sym here)
    ∙ ne_eqb c.number_2.result number c.if-number_2-number.false)
    (λ apart. c.loop-i.invariant k (omega (arith, lt, apart)))
    (cases_eq k i)

pub returns-then-number_2-number : goal.returns-then-number_2-number
returns-then-number_2-number c =
    let i = c.loop-i.i in
    let bytes = c.args.bytes.now in
    let number = c.args.number in
    let here : c.number_2.result ≡ file_in bytes i = c.number_2.ensures ∙ ap (λ (at : ℕ). number_at at 2 bytes) c.file_place.ensures in
    sym (one_passes (λ (other : ℕ). eqb other number) (file_in bytes) c.args.count i c.loop-i-test.true
    (ap (λ (n : ℕ). eqb n number) (sym here) ∙ eq-eqb c.number_2.result number c.if-number_2-number.true))

pub returns : goal.returns
returns c =
    sym (none_passes (λ (other : ℕ). eqb other c.args.number) (file_in c.args.bytes.now) 0 c.args.count
    (λ k le lt. c.loop-i.invariant k (omega (arith, lt, c.loop-i-test.false))))
