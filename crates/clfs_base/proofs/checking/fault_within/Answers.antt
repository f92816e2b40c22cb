use Rattle.clfs_base.proofs.Words.{ℕ, sym, ap, ◌∙◌, zip, other_byte, wrong_within}
use Rattle.clfs_base.proofs.Searches.{goes_on, stops_at}
use Rattle.clfs_base.proofs.Chains.{chained_within}
use Rattle.clfs_base.proofs.checking.fault_within.Goals as goal

pub returns-in-Some : goal.returns-in-Some
returns-in-Some c =
    let bytes = c.args.bytes.now in
    sym (chained_within c.args.demands.now c.args.layout.now bytes c.numbers_of-numbers.result c.numbers_of-numbers.ensures
    ∙ stops_at _ _ _ ((λ k. wrong_within bytes (zip (sym c.fields.ensures k) (sym c.of_fields.ensures k))) ∙ sym c.wrong_field.ensures ∙ c.in-Some.is))

pub returns-in-Some-other_byte : goal.returns-in-Some-other_byte
returns-in-Some-other_byte c =
    let bytes = c.args.bytes.now in
    sym (chained_within c.args.demands.now c.args.layout.now bytes c.numbers_of-numbers.result c.numbers_of-numbers.ensures
    ∙ goes_on _ _ _ ((λ k. wrong_within bytes (zip (sym c.fields.ensures k) (sym c.of_fields.ensures k))) ∙ sym c.wrong_field.ensures ∙ c.in_default.is)
    (stops_at _ _ _ (sym c.other_byte.ensures ∙ c.in-Some-other_byte.is)))

pub returns-in-Some-wrong_file : goal.returns-in-Some-wrong_file
returns-in-Some-wrong_file c =
    let bytes = c.args.bytes.now in
    sym (chained_within c.args.demands.now c.args.layout.now bytes c.numbers_of-numbers.result c.numbers_of-numbers.ensures
    ∙ goes_on _ _ _ ((λ k. wrong_within bytes (zip (sym c.fields.ensures k) (sym c.of_fields.ensures k))) ∙ sym c.wrong_field.ensures ∙ c.in_default.is)
    (goes_on _ _ _ (sym c.other_byte.ensures ∙ c.in_default-other_byte.is)
    (stops_at _ _ _ (sym c.wrong_file.ensures ∙ c.in-Some-wrong_file.is))))

pub returns-in-Some-other_byte-2 : goal.returns-in-Some-other_byte-2
returns-in-Some-other_byte-2 c =
    let bytes = c.args.bytes.now in
    sym (chained_within c.args.demands.now c.args.layout.now bytes c.numbers_of-numbers.result c.numbers_of-numbers.ensures
    ∙ goes_on _ _ _ ((λ k. wrong_within bytes (zip (sym c.fields.ensures k) (sym c.of_fields.ensures k))) ∙ sym c.wrong_field.ensures ∙ c.in_default.is)
    (goes_on _ _ _ (sym c.other_byte.ensures ∙ c.in_default-other_byte.is)
    (goes_on _ _ _ (sym c.wrong_file.ensures ∙ c.in_default-wrong_file.is)
    (stops_at _ _ _ (ap (λ (from : ℕ). other_byte bytes from 576) (sym c.file_place.ensures) ∙ sym c.other_byte-2.ensures ∙ c.in-Some-other_byte-2.is)))))

pub returns-in-Some-wrong_row : goal.returns-in-Some-wrong_row
returns-in-Some-wrong_row c =
    let bytes = c.args.bytes.now in
    sym (chained_within c.args.demands.now c.args.layout.now bytes c.numbers_of-numbers.result c.numbers_of-numbers.ensures
    ∙ goes_on _ _ _ ((λ k. wrong_within bytes (zip (sym c.fields.ensures k) (sym c.of_fields.ensures k))) ∙ sym c.wrong_field.ensures ∙ c.in_default.is)
    (goes_on _ _ _ (sym c.other_byte.ensures ∙ c.in_default-other_byte.is)
    (goes_on _ _ _ (sym c.wrong_file.ensures ∙ c.in_default-wrong_file.is)
    (goes_on _ _ _ (ap (λ (from : ℕ). other_byte bytes from 576) (sym c.file_place.ensures) ∙ sym c.other_byte-2.ensures ∙ c.in_default-other_byte-2.is)
    (stops_at _ _ _ (sym c.wrong_row.ensures ∙ c.in-Some-wrong_row.is))))))

pub returns : goal.returns
returns c =
    let bytes = c.args.bytes.now in
    sym (chained_within c.args.demands.now c.args.layout.now bytes c.numbers_of-numbers.result c.numbers_of-numbers.ensures
    ∙ goes_on _ _ _ ((λ k. wrong_within bytes (zip (sym c.fields.ensures k) (sym c.of_fields.ensures k))) ∙ sym c.wrong_field.ensures ∙ c.in_default.is)
    (goes_on _ _ _ (sym c.other_byte.ensures ∙ c.in_default-other_byte.is)
    (goes_on _ _ _ (sym c.wrong_file.ensures ∙ c.in_default-wrong_file.is)
    (goes_on _ _ _ (ap (λ (from : ℕ). other_byte bytes from 576) (sym c.file_place.ensures) ∙ sym c.other_byte-2.ensures ∙ c.in_default-other_byte-2.is)
    (goes_on _ _ _ (sym c.wrong_row.ensures ∙ c.in_default-wrong_row.is)
    (ap (λ (from : ℕ). other_byte bytes from 16384) (sym c.row_place.ensures) ∙ sym c.other_byte-3.ensures))))))
