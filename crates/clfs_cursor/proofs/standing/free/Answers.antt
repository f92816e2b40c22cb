use Rattle.clfs_cursor.proofs.Words.{◌≡◌, ◌≤◌, ◌∙◌, ap, sym, subst, arith, cond, List, take, get_or, is_some, count_by, has_key, Numbered}
use Rattle.std.proofs.lemmas.List.{take_all}
use Rattle.clfs_cursor.proofs.Freed.{there_by_count, counted_there, first_time, gone_more, others_more}
use Rattle.clfs_cursor.proofs.standing.free.Goals as goal

abbrev no_numbered : Numbered
no_numbered = record { number = 0; key = 0 }

-- the cursor at the next key is there still
pub remove-ended-requires : goal.remove-ended-requires
remove-ended-requires c =
    let key = (get_or c.args.keys.now c.loop-numbered.numbered-index no_numbered).key in
    let some = counted_there c.args.keys.now c.loop-numbered.numbered-index no_numbered c.loop-numbered-test.true in
    let was = there_by_count c.args.slots.now key (count_by (has_key key) c.args.keys.now) some (c.requires key) in
    let once = subst (λ b. count_by (has_key key) c.args.keys.now ≤ cond b 1 0) was (c.requires key) in
    let unseen = first_time c.args.keys.now c.loop-numbered.numbered-index no_numbered c.loop-numbered-test.true once in
    ap (λ o. is_some o) (c.loop-numbered.invariant.others key unseen) ∙ was

pub loop-numbered-preserved : goal.loop-numbered-preserved
loop-numbered-preserved c = record {
  others = others_more c.args.keys.now c.loop-numbered.numbered-index no_numbered c.loop-numbered-test.true c.args.slots.now c.loop-numbered.slots c.remove-ended.new.self
      c.remove-ended.ensures.updates c.loop-numbered.invariant.others;
  gone = gone_more c.args.keys.now c.loop-numbered.numbered-index no_numbered c.loop-numbered-test.true c.loop-numbered.slots c.remove-ended.new.self
      c.remove-ended.ensures.updates c.loop-numbered.invariant.gone;
  len = omega (arith, c.loop-numbered.invariant.len, c.remove-ended.ensures.len);
  capacity = c.remove-ended.ensures.capacity ∙ c.loop-numbered.invariant.capacity;
}

pub returns : goal.returns
returns c =
    let all : take c.loop-numbered.numbered-index c.args.keys.now ≡ c.args.keys.now = take_all c.loop-numbered.numbered-index c.args.keys.now c.loop-numbered-test.false in
    record {
      others = λ key none. c.loop-numbered.invariant.others key (ap (λ (keys : List Numbered). count_by (has_key key) keys) all ∙ none);
      gone = λ key some. c.loop-numbered.invariant.gone key (subst (λ (keys : List Numbered). 1 ≤ count_by (has_key key) keys) (sym all) some);
      len = omega (arith, c.loop-numbered.invariant.len, c.loop-numbered-test.false, c.loop-numbered.auto.numbered-index-end);
      capacity = c.loop-numbered.invariant.capacity;
    }
