use Rattle.std.proofs.Common.{◌<◌, length, sym, arith}
use Rattle.std.proofs.lemmas.Bool.{le-leb, leb-true, lt-ltb, ltb-true}
use Rattle.code_rules.proofs.Entries.{of_behind, of_none, of_some, of_within}
use Rattle.code_rules.proofs.functions.is_of_function.Goals as goal

pub returns-then-entry-point : goal.returns-then-entry-point
returns-then-entry-point c =
    let code = c.args.code.now in (
      λ yes.
          let inside : c.args.point < length code.instrs = omega (arith, ltb-true c.args.point c.len.result yes, c.len.ensures) in
          of_some code c.args.point (length code.funcs) 0 c.in-Some.entry.now inside (omega arith) (sym c.in-Some.ensures.item) c.if-entry-point.true,
      λ of. lt-ltb c.args.point c.len.result (omega (arith, of_within code c.args.point of, c.len.ensures)),
    )

pub returns-else-entry-point : goal.returns-else-entry-point
returns-else-entry-point c =
    let first = c.in-Some.entry.now.first in (
      λ yes. absurd (omega (arith, leb-true first c.args.point yes, c.if-entry-point.false)),
      λ of. le-leb first c.args.point (of_behind c.args.code.now c.args.point c.requires c.in-Some.entry.now (sym c.in-Some.ensures.item) of),
    )

pub returns-in-None : goal.returns-in-None
returns-in-None c = (λ no. absurd (cc), λ of. absurd (of_none c.args.code.now c.args.point (sym c.in-None.ensures.item) of))
