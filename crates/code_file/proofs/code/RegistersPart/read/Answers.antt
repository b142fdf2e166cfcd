use Rattle.std.proofs.Common.{◌≡◌, ◌+◌, sym, subst, arith}
use Rattle.std.proofs.lemmas.Result.{err_from_is_err_and}
use Rattle.code_file.specs.Spelling.{IsNumber, IsShortList, list_of, number}
use Rattle.code_file.proofs.Lists.{Under, no_count, under_all, under_more, under_none, under_stops}
use Rattle.code_file.proofs.Reading.{exits, hands_on}
use Rattle.code_file.proofs.code.RegistersPart.read.Goals as goal

pub returns-in_err-count : goal.returns-in_err-count
returns-in_err-count c =
    exits (IsShortList IsNumber) (list_of number) c.args.reader.now c.read.new.reader c.from_residual.result _ (err_from_is_err_and c.from_residual.result c.from_residual.ensures.1)
    (hands_on (IsShortList IsNumber) (list_of number) c.args.reader.now c.read.new.reader IsNumber number c.args.reader.now c.read.new.reader _
    (no_count IsNumber number c.args.reader.now) c.in_err-count.ensures)

pub loop-done-init : goal.loop-done-init
loop-done-init c =
    subst (Under IsNumber number c.in_ok-count.count 0 c.args.reader.now c.read.new.reader) (sym c.new-registers.ensures)
    (under_none IsNumber number c.in_ok-count.count c.args.reader.now c.read.new.reader c.in_ok-count.ensures)

pub loop-done-preserved : goal.loop-done-preserved
loop-done-preserved c =
    subst (Under IsNumber number c.in_ok-count.count (c.loop-done._done + 1) c.args.reader.now c.read-in-loop-done.new.reader) (sym c.in_ok-push.ensures.ok)
    (under_more IsNumber number c.in_ok-count.count c.loop-done._done c.args.reader.now c.loop-done.reader c.read-in-loop-done.new.reader c.loop-done.registers c.in_ok-read.field-0
    (omega arith) c.loop-done.invariant c.in_ok-read.ensures)

pub returns-in_err-read : goal.returns-in_err-read
returns-in_err-read c =
    exits (IsShortList IsNumber) (list_of number) c.args.reader.now c.read-in-loop-done.new.reader c.from_residual-in_err-read.result _ (err_from_is_err_and c.from_residual-in_err-read.result c.from_residual-in_err-read.ensures.1)
    (hands_on (IsShortList IsNumber) (list_of number) c.args.reader.now c.read-in-loop-done.new.reader IsNumber number c.loop-done.reader c.read-in-loop-done.new.reader _
    (under_stops IsNumber number c.in_ok-count.count c.loop-done._done c.args.reader.now c.loop-done.reader c.loop-done.registers (omega arith) c.loop-done.invariant) c.in_err-read.ensures)

pub returns : goal.returns
returns c =
    let all : c.loop-done._done ≡ c.in_ok-count.count = omega arith in
    under_all IsNumber number c.in_ok-count.count c.args.reader.now c.loop-done.reader c.loop-done.registers c.in_ok-count.ensures.fits
    (subst (λ n. Under IsNumber number c.in_ok-count.count n c.args.reader.now c.loop-done.reader c.loop-done.registers) all c.loop-done.invariant)
