use Rattle.std.proofs.Common.{Some, sym, subst}
use Rattle.object_meaning.specs.objects.Going.{Next}
use Rattle.meaning_run.specs.Leading.{with_input, Seen, Moves}
use Rattle.meaning_run.proofs.Printfs.{printed_none, printed_some}
use Rattle.meaning_run.proofs.machine.Machine.put_printed.Goals as goal

pub returns-in-None-clause-told : goal.returns-in-None-clause-told
returns-in-None-clause-told g c = λ left taken text is h.
    let s = with_input left c.args.self.now in
    let told = rw (c.length_as_int.ensures, c.as_slice-bytes.ensures) at (c.put_bytes.ensures.told left taken h) in
    subst (λ (n : Next). Seen n left taken c.put_bytes.result c.put_bytes.new.self (Some left) (g.O.Sink.taken c.put_bytes.new.out)) (sym (printed_none c.args.printed.now text is c.in-None.is c.args.line c.args.r s)) told

pub returns-in-None-clause-moves : goal.returns-in-None-clause-moves
returns-in-None-clause-moves g c = λ left text is.
    let s = with_input left c.args.self.now in
    let moves = rw (c.length_as_int.ensures, c.as_slice-bytes.ensures) at (c.put_bytes.ensures.moves left) in
    subst (λ (n : Next). Moves n c.put_bytes.new.self c.put_bytes.result) (sym (printed_none c.args.printed.now text is c.in-None.is c.args.line c.args.r s)) moves

pub returns-in-Some-clause-told : goal.returns-in-Some-clause-told
returns-in-Some-clause-told g c = λ left taken text is h.
    let s = with_input left c.args.self.now in
    let e = printed_some c.args.printed.now text is c.in-Some.refusal c.in-Some.is c.args.line c.args.r s in
    let told = rw c.as_slice-bytes.ensures at (c.put_refused.ensures.told left taken e.0 e.1 h) in
    subst (λ (n : Next). Seen n left taken c.put_refused.result c.args.self.now (Some left) (g.O.Sink.taken c.put_refused.new.out)) (sym e.2) told

pub returns-in-Some-clause-moves : goal.returns-in-Some-clause-moves
returns-in-Some-clause-moves g c = λ left text is.
    let s = with_input left c.args.self.now in
    let e = printed_some c.args.printed.now text is c.in-Some.refusal c.in-Some.is c.args.line c.args.r s in
    let moves = rw c.as_slice-bytes.ensures at (c.put_refused.ensures.moves left e.0 e.1) in
    subst (λ (n : Next). Moves n c.args.self.now c.put_refused.result) (sym e.2) moves
