use Rattle.std.proofs.Common.{◌+◌, sym, subst, arith}
use Rattle.std.proofs.lemmas.Result.{err_from_is_err_and}
use Rattle.code_file.specs.Spelling.{IsNumber, list_of, number}
use Rattle.code_file.specs.Parts.{IsShortBeside}
use Rattle.code_file.proofs.ListsBeside.{Along, along_all, along_more, along_none, along_stops, no_count_beside, other_count}
use Rattle.code_file.proofs.Reading.{exits, hands_on}
use Rattle.code_file.proofs.names.read_list_beside.Goals as goal

pub returns-in_err-count : goal.returns-in_err-count
returns-in_err-count g c =
    let Fits = g.T.Beside.fits_beside in let item = g.T.Spelled.spelling in let known = c.args.known.now in
    exits (IsShortBeside Fits known) (list_of item) c.args.reader.now c.read.new.reader c.from_residual.result _ (err_from_is_err_and c.from_residual.result c.from_residual.ensures.1)
    (hands_on (IsShortBeside Fits known) (list_of item) c.args.reader.now c.read.new.reader IsNumber number c.args.reader.now c.read.new.reader _
    (no_count_beside Fits item known c.args.reader.now) c.in_err-count.ensures)

pub returns-then-count-known : goal.returns-then-count-known
returns-then-count-known g c =
    let Fits = g.T.Beside.fits_beside in let item = g.T.Spelled.spelling in let known = c.args.known.now in
    other_count Fits item known c.in_ok-count.count c.args.reader.now c.read.new.reader c.if-count-known.true c.in_ok-count.ensures

pub loop-item-init : goal.loop-item-init
loop-item-init g c =
    let Fits = g.T.Beside.fits_beside in let item = g.T.Spelled.spelling in let known = c.args.known.now in
    subst (Along Fits item known 0 c.args.reader.now c.read.new.reader) (sym c.new-items.ensures)
    (along_none Fits item known c.in_ok-count.count c.args.reader.now c.read.new.reader c.if-count-known.false c.in_ok-count.ensures)

pub loop-item-preserved : goal.loop-item-preserved
loop-item-preserved g c =
    let Fits = g.T.Beside.fits_beside in let item = g.T.Spelled.spelling in let known = c.args.known.now in
    subst (Along Fits item known (c.loop-item.item-index + 1) c.args.reader.now c.read_beside.new.reader) (sym c.in_ok-push.ensures.ok)
    (along_more Fits item known c.loop-item.item-index c.args.reader.now c.loop-item.reader c.read_beside.new.reader c.loop-item.items c.item-item.result c.in_ok-read_beside.field-0
    c.loop-item-test.true c.item-item.is c.loop-item.invariant c.in_ok-read_beside.ensures)

pub returns-in_err-read_beside : goal.returns-in_err-read_beside
returns-in_err-read_beside g c =
    let Fits = g.T.Beside.fits_beside in let item = g.T.Spelled.spelling in let known = c.args.known.now in
    let r = c.from_residual-in_err-read_beside.result in
    exits (IsShortBeside Fits known) (list_of item) c.args.reader.now c.read_beside.new.reader r _ (err_from_is_err_and r c.from_residual-in_err-read_beside.ensures.1)
    (hands_on (IsShortBeside Fits known) (list_of item) c.args.reader.now c.read_beside.new.reader (Fits c.item-item.result) item c.loop-item.reader c.read_beside.new.reader _
    (along_stops Fits item known c.loop-item.item-index c.args.reader.now c.loop-item.reader c.loop-item.items c.item-item.result c.loop-item-test.true c.item-item.is c.loop-item.invariant)
    c.in_err-read_beside.ensures)

pub returns : goal.returns
returns g c =
    let Fits = g.T.Beside.fits_beside in let item = g.T.Spelled.spelling in let known = c.args.known.now in
    along_all Fits item known c.loop-item.item-index c.args.reader.now c.loop-item.reader c.loop-item.items (omega arith) c.loop-item.invariant
