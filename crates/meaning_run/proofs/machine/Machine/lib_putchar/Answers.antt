use Rattle.std.proofs.Common.{rules}
use Rattle.std.proofs.lemmas.Int.{to_z-of_z}
use mir.Syntax.{w128}
use mir.Val.{SFits}
use Rattle.meaning_run.proofs.machine.Machine.lib_putchar.Goals as goal

pub returns-clause-told : goal.returns-clause-told
returns-clause-told g c = λ left taken h.
    let fits : SFits w128 c.from.result = search rules in
    rw (to_z-of_z w128 c.from.result fits, c.from.ensures, c.byte_at-byte.ensures) at (c.put_bytes.ensures.told left taken h)

pub returns-clause-moves : goal.returns-clause-moves
returns-clause-moves g c = λ left.
    let fits : SFits w128 c.from.result = search rules in
    rw (to_z-of_z w128 c.from.result fits, c.from.ensures, c.byte_at-byte.ensures) at (c.put_bytes.ensures.moves left)
