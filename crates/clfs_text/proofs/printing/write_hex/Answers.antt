use Rattle.std.proofs.Common.{◌≡◌, ◌+◌, ◌-◌, arith, drop}
use Rattle.clfs_text.proofs.HexDigits.{hex_before, step_back, last_step}
use Rattle.clfs_text.proofs.printing.write_hex.Goals as goal

pub loop-left-init : goal.loop-left-init
loop-left-init c =
    let fuel : c.args.end - 1 + 65 - c.args.end ≡ 64 = omega (arith, c.requires.room) in
    let k : c.args.end - 1 + 9 - c.args.end ≡ 8 = omega (arith, c.requires.room) in
    let back : c.args.end - 1 + 1 ≡ c.args.end = omega (arith, c.requires.room) in
    record {
      within = omega (arith, c.requires.room);
      room = omega (arith, c.requires.room);
      small = rw k (omega (arith, c.ranges.number.fits));
      so_far = rw (fuel, back) (hex_before c.args.number (drop c.args.end c.args.digits.now));
    }

pub loop-left-preserved : goal.loop-left-preserved
loop-left-preserved c =
    let i = c.loop-left.invariant in
    let s = step_back c.args.number c.loop-left.left c.loop-left.start c.args.end c.glyph.result c.loop-left.digits (drop c.args.end
    c.args.digits.now)
    c.requires.room i.within i.room (omega arith) c.loop-left-test.true i.small c.glyph.ensures i.so_far in
    record {
      within = omega (arith, s.0);
      room = s.1;
      small = s.2;
      so_far = s.3;
    }

pub returns-clause-written : goal.returns-clause-written
returns-clause-written c =
    let i = c.loop-left.invariant in
    last_step c.args.number c.loop-left.left c.loop-left.start c.args.end c.glyph-2.result c.loop-left.digits (drop c.args.end
    c.args.digits.now)
    i.within i.room (omega arith) c.loop-left-test.false c.glyph-2.ensures i.so_far
