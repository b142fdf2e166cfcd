use Rattle.std.proofs.Common.{◌<◌, ℕ, List, sym, subst}
use Rattle.std.specs.Prelude.{All}
use Rattle.flat_code.specs.declared.registers.Run.{Run}
use Rattle.flat_code.proofs.RunLists.{all_below, last_below}
use Rattle.flat_code.proofs.registers.Registers.are_below.Goals as goal

pub returns : goal.returns
returns c =
    let runs = c.self.inside.runs.items in let n = c.args.number in (
      λ yes. subst (λ (rs : List ℕ). All (λ r. r < n) rs) c.self.view_is
          (all_below runs n (subst (λ (rs : List Run). All (λ (run : Run). run.last < n) rs) c.deref.ensures.value (c.end_below.ensures.0 yes))),
      λ all. c.end_below.ensures.1
          (subst (λ (rs : List Run). All (λ (run : Run). run.last < n) rs) (sym c.deref.ensures.value)
          (last_below runs n c.self.invariant.each (subst (λ (rs : List ℕ). All (λ r. r < n) rs) (sym c.self.view_is) all))),
    )
