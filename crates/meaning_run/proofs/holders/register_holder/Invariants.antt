use Rattle.std.proofs.Common.{◌≡◌, ◌&&◌, not, map, drop}
use Rattle.std.specs.Prelude.{slice_get}
use Rattle.std.specs.List.{filter, enumerate_from}
use Rattle.hs_base.specs.declared.ends.Holder.TheVariants as holder
use Rattle.hs_base.specs.Freeing.{is_pointer_to}
use Rattle.object_meaning.specs.objects.Values.{pointer_in}
use Rattle.object_meaning.specs.objects.Holding.{is_live_in, takes_answer, first_of}
use Rattle.meaning_run.specs.Holding.{counted_registers}
use Rattle.meaning_run.proofs.holders.register_holder.Given as goal

abbrev pub invariant-loop-r : goal.invariant-loop-r
invariant-loop-r l = first_of (counted_registers l.core l.func l.point l.answer l.birth l.regs) ≡ first_of (map (λ at. holder.Register l.func at.0) (filter (λ at. (is_live_in (slice_get l.core.funcs l.func) l.point at.0 && not (takes_answer l.answer at.0)) && is_pointer_to l.birth (pointer_in at.1)) (enumerate_from l.r (drop l.r l.regs))))
