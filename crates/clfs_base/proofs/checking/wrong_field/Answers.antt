use Rattle.clfs_base.proofs.Words.{◌≡◌, ℕ, ◌+◌, ◌<◌, Bool, true, false, cond, List, length, get_or, drop, find, Some, sym, ◌∙◌, ap, arith, zip, option_map}
use Rattle.clfs_base.proofs.Words.{drop_more, drop_all, Asked, Anything, Field, is_wrong_within, wrong_within}
use Rattle.clfs_base.proofs.Tables.{no_field}
use Rattle.clfs_base.proofs.checking.wrong_field.Goals as goal

module _ (bytes : List ℕ) (table : List Field) (asks : List Asked) (i : ℕ) (lt : i < length table) (same : length table ≡ length asks) where
  abbrev f : Field
  f = get_or table i no_field

  abbrev a : Asked
  a = get_or asks i Anything

  -- the search at a place, by its test there
  at_place : (b : Bool) → is_wrong_within bytes (f, a) ≡ b
      → wrong_within bytes (zip (drop i table) (drop i asks))
      ≡ option_map (λ (x : Field × Asked). x.0.at) (cond b (Some (f, a)) (find (is_wrong_within bytes) (zip (drop (i + 1) table) (drop (i + 1) asks))))
  at_place b is =
      (λ k. wrong_within bytes (zip (drop_more table i no_field lt k) (drop_more asks i Anything (omega (arith, lt, same)) k)))
      ∙ ap (λ (w : Bool). option_map (λ (x : Field × Asked). x.0.at)
      (cond w (Some (f, a)) (find (is_wrong_within bytes) (zip (drop (i + 1) table) (drop (i + 1) asks))))) is

pub loop-i-preserved : goal.loop-i-preserved
loop-i-preserved c =
    sym (at_place c.args.bytes.now c.args.table.now c.args.asked.now c.loop-i.i c.loop-i-test.true c.requires false
    (sym c.is_wrong_within.ensures ∙ c.if-is_wrong_within.false)) ∙ c.loop-i.invariant

pub returns-then-is_wrong_within : goal.returns-then-is_wrong_within
returns-then-is_wrong_within c =
    sym (at_place c.args.bytes.now c.args.table.now c.args.asked.now c.loop-i.i c.loop-i-test.true c.requires true
    (sym c.is_wrong_within.ensures ∙ c.if-is_wrong_within.true)) ∙ c.loop-i.invariant

pub returns : goal.returns
returns c =
    let table = c.args.table.now in
    let asks = c.args.asked.now in
    let i = c.loop-i.i in
    sym ((λ k. wrong_within c.args.bytes.now (zip (drop_all i table c.loop-i-test.false k) (drop i asks)))) ∙ c.loop-i.invariant
