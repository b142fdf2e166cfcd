use Rattle.std.proofs.Common.{◌≤◌, ◌<◌, ◌^◌, List, ◌∷◌, [], ap, sym, ◌∙◌, subst, arith, length, map}
use Rattle.std.specs.Prelude.{All}
use Rattle.core_tree.specs.declared.program.Func.{Func}
use Rattle.core_tree.specs.declared.program.Static.{Static}
use Rattle.core_tree.specs.Sound.{EachStatement, HasNumbers}
use Rattle.count_insertion.specs.Inserted.{func_pins}
use Rattle.flat_codegen.specs.Emitting.{with_instrs}
use Rattle.meaning_laws.specs.code.Laws.{HoldsBytes}
use Rattle.flat_codegen.proofs.Bytes.{bytes_hold}
use Rattle.flat_codegen.proofs.Closing.{walked, are_short, main_inside, all_numbers}
use Rattle.flat_codegen.proofs.program.code_of.Goals as goal

pub start-requires : goal.start-requires
start-requires c =
    let funcs = c.args.counted.now.core.funcs in
    let inside : c.main_of-main.result ≤ length funcs =
    subst (λ n. n ≤ length funcs) (sym c.main_of-main.ensures) (main_inside funcs) in
    let short : length funcs < 2 ^ 32 = c.requires.sound.short_funcs in
    omega arith

pub functions-requires : goal.functions-requires
functions-requires c = record {
  numbers = subst (λ (funcs : List Func). All (λ (func : Func). EachStatement func.body (λ point stm. HasNumbers stm.kind)) funcs) (sym c.as_slice-3.ensures)
      (all_numbers c.args.counted.now.core c.requires.sound);
  listed = c.as_slice-4.ensures ∙ c.requires.listed ∙ ap (map func_pins) (sym c.as_slice-3.ensures);
}

pub returns-clause-compiled : goal.returns-clause-compiled
returns-clause-compiled c =
    let core = c.args.counted.now.core in
    let pins = c.args.counted.now.pins in
    let layouts = c.in_ok-layouts.ensures ∙ ap (map (λ (static : Static). static.layout)) c.as_slice-2.ensures in
    let pushed = c.in_ok-push.ensures ∙ ap (λ i. with_instrs c.new-emitter.result.code c.line_of.result (i ∷ [])) c.start.ensures in
    let last = c.in_ok-code.ensures.code ∙ c.in_ok-functions.ensures in
    walked core pins c.requires.listed c.requires.sound c.as_slice.result.now c.as_slice.ensures c.as_slice-3.result.now c.as_slice-3.ensures c.main_of-main.result c.main_of-main.ensures c.in_ok-statics.statics c.in_ok-statics.ensures.first c.in_ok-layouts.layouts layouts c.line_of.result c.line_of.ensures c.new-emitter.result.code c.push.new.self.code c.in_ok-code.code c.new-emitter.ensures pushed last

pub returns-clause-short : goal.returns-clause-short
returns-clause-short c =
    are_short c.args.counted.now.core c.requires.sound c.in_ok-code.code (returns-clause-compiled c) (c.in_ok-code.ensures.short.0) (c.in_ok-code.ensures.short.1) (c.in_ok-code.ensures.short.2)

-- the statics of the code are those that it began with
pub returns-clause-bytes : goal.returns-clause-bytes
returns-clause-bytes c =
    let begun : HoldsBytes c.new-emitter.result.code = subst HoldsBytes (sym c.new-emitter.ensures) c.in_ok-statics.ensures.bytes in
    let pushed : HoldsBytes c.push.new.self.code = subst HoldsBytes (sym c.in_ok-push.ensures) begun in
    bytes_hold c.push.new.self.code c.in_ok-code.code c.as_slice-3.result.now (c.in_ok-code.ensures.code ∙ c.in_ok-functions.ensures) pushed
