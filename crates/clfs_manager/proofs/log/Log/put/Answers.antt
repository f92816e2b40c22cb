use Rattle.clfs_manager.proofs.Words.{◌≡◌, ℕ, ◌<◌, refl, sym, ap, subst, ◌∙◌, arith, List, [], ◌∷◌, ◌++◌, length, All, head_of, Head, State, Stream, next_lsn}
use Rattle.clfs_manager.proofs.Words.{Fields, base_in, unplaced}
use Rattle.clfs_manager.proofs.Numbers.{number_of, flushed_below, hold_within}
use Rattle.clfs_manager.proofs.PutRecord.{base_below, heads_below, holds_put, next_lsn_is}
use Rattle.clfs_manager.proofs.log.Log.put.Goals as goal

pub put-requires-clause-there : goal.put-requires-clause-there
put-requires-clause-there c =
    let s : State = c.args.self.now.state.value in
    let fields : Fields = c.args.fields.now in
    let stream : c.head_of.result.stream ≡ fields.stream = ap (λ (h : Head). h.stream) (c.head_of.ensures c.args.bytes.now refl) in
    let is = number_of s fields.stream c.requires.may.stream in
    (omega (arith, is.0, stream), omega (arith, is.1, stream, ap length c.requires.sound.holds.streams))

pub put-requires-clause-above : goal.put-requires-clause-above
put-requires-clause-above c =
    let s : State = c.args.self.now.state.value in
    let holds = c.requires.sound.holds in
    let valid = c.requires.sound.valid in
    let n = length c.args.bytes.now in
    let at : c.head_of.result.lsn ≡ next_lsn s n = ap (λ (h : Head). h.lsn) (c.head_of.ensures c.args.bytes.now refl) ∙ c.push-lsn.ensures.lsn
    ∙ next_lsn_is c.args.self.now.queue s n holds.shape holds.place in
    let is = heads_below s (next_lsn s n) valid (c.the_next_lsn_is_above_all.ensures.frontier s.shape s.place n valid.ranges.shape valid.ranges.place) in
    subst (λ (lsn : ℕ). All (λ (other : Head). other.lsn < lsn) c.args.self.now.tables.heads) (sym at)
    (subst (λ (hs : List Head). All (λ (other : Head). other.lsn < next_lsn s n) hs) (sym holds.heads) is)

pub put-requires-clause-live : goal.put-requires-clause-live
put-requires-clause-live c =
    let s : State = c.args.self.now.state.value in
    let holds = c.requires.sound.holds in
    let valid = c.requires.sound.valid in
    let n = length c.args.bytes.now in
    let fields : Fields = c.args.fields.now in
    let stream : c.head_of.result.stream ≡ fields.stream = ap (λ (h : Head). h.stream) (c.head_of.ensures c.args.bytes.now refl) in
    let at : c.head_of.result.lsn ≡ next_lsn s n = ap (λ (h : Head). h.lsn) (c.head_of.ensures c.args.bytes.now refl) ∙ c.push-lsn.ensures.lsn
    ∙ next_lsn_is c.args.self.now.queue s n holds.shape holds.place in
    let above = c.the_next_lsn_is_above_all.ensures.frontier s.shape s.place n valid.ranges.shape valid.ranges.place in
    let bases : base_in c.args.self.now.tables.streams c.head_of.result.stream ≡ base_in s.streams fields.stream =
    ap (λ (rows : List Stream). base_in rows c.head_of.result.stream) holds.streams ∙ ap (base_in s.streams) stream in
    omega (arith, bases, base_below s fields.stream valid, flushed_below s valid, above, at)

pub put-requires-clause-low : goal.put-requires-clause-low
put-requires-clause-low c =
    let s : State = c.args.self.now.state.value in
    let holds = c.requires.sound.holds in
    let valid = c.requires.sound.valid in
    let n = length c.args.bytes.now in
    let at : c.head_of.result.lsn ≡ next_lsn s n = ap (λ (h : Head). h.lsn) (c.head_of.ensures c.args.bytes.now refl) ∙ c.push-lsn.ensures.lsn
    ∙ next_lsn_is c.args.self.now.queue s n holds.shape holds.place in
    let above = c.the_next_lsn_is_above_all.ensures.frontier s.shape s.place n valid.ranges.shape valid.ranges.place in
    omega (arith, holds.low, hold_within s valid, above, at)

pub returns-clause-holds : goal.returns-clause-holds
returns-clause-holds c =
    let old = c.args.self.now in
    let s : State = old.state.value in
    let holds = c.requires.sound.holds in
    let valid = c.requires.sound.valid in
    let n = length c.args.bytes.now in
    let fields : Fields = c.args.fields.now in
    let lsn : c.push-lsn.result ≡ next_lsn s n = c.push-lsn.ensures.lsn ∙ next_lsn_is old.queue s n holds.shape holds.place in
    let head = c.head_of.ensures c.args.bytes.now refl ∙ ap (λ (at : ℕ). head_of (let e = unplaced fields c.args.bytes.now in record e { lsn = at })) lsn in
    holds_put old (record old { tables = c.put.new.self; queue = c.push-lsn.new.self; state = c.with_record-self.result }) fields c.args.bytes.now valid holds
    c.requires.ready (c.the_next_lsn_is_above_all.ensures.frontier s.shape s.place n valid.ranges.shape valid.ranges.place)
    (c.records_are_put.ensures.tables s (unplaced fields c.args.bytes.now) valid c.requires.sound.storable c.requires.may) c.ends_of_blocks_go_on.ensures c.requires.ends
    c.push-lsn.ensures.pushed c.put.ensures.streams (c.put.ensures.heads ∙ ap (λ (h : Head). old.tables.heads ++ h ∷ []) head) c.put.ensures.low
    refl refl refl refl c.with_record-self.ensures
