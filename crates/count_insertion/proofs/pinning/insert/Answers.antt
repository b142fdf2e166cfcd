use Rattle.std.proofs.Common.{◌≡◌, map, ap, ◌∙◌}
use Rattle.count_insertion.specs.Inserted.{func_pins}
use Rattle.count_insertion.proofs.Exactness.{listed_exact}
use Rattle.count_insertion.proofs.pinning.insert.Goals as goal

pub returns-clause-pins : goal.returns-clause-pins
returns-clause-pins c =
    let listed : c.in_ok-pins.pins ≡ map func_pins c.args.core.now.funcs = c.in_ok-pins.ensures ∙ ap (map func_pins) c.as_slice.ensures in
    listed_exact c.args.core.now c.in_ok-pins.pins listed
