use Rattle.std.proofs.Common.{refl, sym, ap, subst, arith}
use Rattle.hs_base.specs.Trace.{Escape}
use Rattle.object_meaning.specs.objects.Going.{Next}
use Rattle.meaning_run.specs.declared.halt.Halt.TheVariants as halt
use Rattle.meaning_run.specs.Leading.{StopsAlone, Alone}
use Rattle.meaning_run.proofs.Ending.{escaped, goes_back}
use Rattle.meaning_run.proofs.machine.Machine.give_back.Goals as goal

pub overflow_cast-result : goal.overflow_cast-result
overflow_cast-result c =
    let h = rw (c.in-Some.is, c.deref.ensures.value) at c.in_ok-k.ensures.within in
    let short = c.in_ok-locals.ensures.short in omega arith

pub returns-in-Some : goal.returns-in-Some
returns-in-Some c = λ left.
    let s = c.args.self.now in
    let first = rw (c.in-Some.is, c.deref.ensures.value) at c.in_ok-k.ensures.first in
    let within = rw (c.in-Some.is, c.deref.ensures.value) at c.in_ok-k.ensures.within in
    let is = escaped c.args.core.now c.args.line c.args.answer s left c.in_ok-locals.locals.items c.in_ok-locals.ensures.births c.in-Some.k first within in
    subst (λ (n : Next). StopsAlone n (halt.Escape c.running_func.result c.in-Some.k c.args.line)) (sym is) ((refl, refl), ap (λ f. Escape f c.in-Some.k c.args.line) (sym c.running_func.ensures))

pub returns : goal.returns
returns c = λ left.
    let s = c.args.self.now in
    let first = rw (c.in_default.is, c.deref.ensures.value) at c.in_ok-k.ensures.first in
    let is = goes_back c.args.core.now c.args.line c.args.answer s left c.in_ok-locals.locals.items c.in_ok-locals.ensures.births first in
    subst (λ (n : Next). Alone left n c.go_back.new.self c.go_back.result) (sym is) (rw c.end_locals.ensures at (c.go_back.ensures left))
