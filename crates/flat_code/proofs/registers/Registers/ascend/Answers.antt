use Rattle.std.proofs.Common.{◌-◌, ◌<◌, ℕ, List, length, get_or, refl, sym, subst, ◌∙◌, arith}
use Rattle.std.specs.Prelude.{AllPairs}
use Rattle.std.proofs.lemmas.List.{get_or_default}
use Rattle.flat_code.specs.declared.registers.Run.{Run}
use Rattle.flat_code.proofs.RunLists.{apart, ascending, neighbours}
use Rattle.flat_code.proofs.registers.Registers.ascend.Goals as goal

pub returns-then-index : goal.returns-then-index
returns-then-index c =
    let runs = c.self.inside.runs.items in let i = c.loop-i.i in
    let x = c.index.result.now in let y = c.index-in-loop-i.result.now in
    let inside : i < length runs = omega arith in (
      λ no. absurd (cc),
      λ all.
          let are = apart runs c.self.invariant.each (subst (λ (rs : List ℕ). AllPairs (λ one other. one < other) rs) (sym c.self.view_is) all) in
          let less : (get_or runs (i - 1) x).last < (get_or runs i x).first = are (i - 1) i x (omega arith) inside in
          let from_x : x.last < (get_or runs i x).first = subst (λ (o : Run). o.last < (get_or runs i x).first) (sym c.index.ensures) less in
          let to_y : x.last < y.first = subst (λ (o : Run). x.last < o.first) (get_or_default runs i x y inside ∙ sym c.index-in-loop-i.ensures) from_x in
          absurd (omega (arith, to_y, c.if-index.true)),
    )

pub returns : goal.returns
returns c =
    let runs = c.self.inside.runs.items in (
      λ yes. subst (λ (rs : List ℕ). AllPairs (λ one other. one < other) rs) c.self.view_is
          (ascending runs (neighbours runs c.self.invariant.each (λ k d h. c.loop-i.invariant k d (omega (arith, h))))),
      λ all. refl,
    )
