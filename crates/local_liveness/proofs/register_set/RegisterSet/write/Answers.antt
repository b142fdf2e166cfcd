use Rattle.std.proofs.Common.{◌<◌, length, ap, refl, arith}
use Rattle.std.proofs.lemmas.List.{take_at}
use Rattle.local_liveness.proofs.Marks.{marks_same, marks_written}
use Rattle.local_liveness.proofs.register_set.RegisterSet.write.Goals as goal

pub invariant_of-self : goal.invariant_of-self
invariant_of-self c =
    let words = c.self.inside.words.items in let some = c.deref_mut.result.now in let full = c.deref_mut-2.result.now in
    let inside : c.args.place < length words = omega (arith, ap length c.self.view_is, c.requires) in
    let marks = marks_same _ words _ some _ full refl c.deref_mut.ensures.value c.deref_mut-2.ensures.value c.self.invariant in
    marks_same _ _ _ _ _ _ refl (take_at c.put.new.words _ c.self.inside.some.len (omega arith)) (take_at c.put-2.new.words _ c.self.inside.full.len (omega arith))
    (marks_written words some full c.put.new.words c.put-2.new.words c.args.place c.args.word inside marks c.put.ensures c.put-2.ensures)
