use Rattle.meaning_run.proofs.machine.Machine.act_printf.Goals as goal

pub pieces_of-requires : goal.pieces_of-requires
pieces_of-requires g c = rw c.format.ensures c.requires.format

pub returns-clause-told : goal.returns-clause-told
returns-clause-told g c = λ left taken h.
    let prints = rw (c.as_slice.ensures, c.in_ok-pieces.ensures.pieces, c.format.ensures, c.as_slice-2.ensures.value, c.in_ok-values.ensures) at c.in_ok-printed.ensures in
    c.put_printed.ensures.told left taken _ prints h

pub returns-clause-moves : goal.returns-clause-moves
returns-clause-moves g c = λ left.
    let prints = rw (c.as_slice.ensures, c.in_ok-pieces.ensures.pieces, c.format.ensures, c.as_slice-2.ensures.value, c.in_ok-values.ensures) at c.in_ok-printed.ensures in
    c.put_printed.ensures.moves left _ prints
