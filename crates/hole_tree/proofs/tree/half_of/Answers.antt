use Rattle.std.proofs.Common.{◌-◌, arith}
use Rattle.std.proofs.Math.Pow.{pow_mono}
use Rattle.std.proofs.lemmas.Nat.{shl_whole}
use Rattle.hole_tree.proofs.tree.half_of.Goals as goal

pub returns : goal.returns
returns c =
    let whole = shl_whole 32 6 (c.args.height - 1) 64 (omega arith) (omega arith) in
    record {
      half = whole;
      fits = omega (arith, whole, pow_mono {i = c.args.height - 1} {j = 26} (omega arith));
    }
