use Rattle.std.proofs.Common.{◌∙◌, List, sym, subst}
use Rattle.std.specs.List.{All}
use Rattle.std.proofs.lemmas.List.Elements.{All-push}
use Rattle.core_tree.specs.declared.program.Func.{Func}
use Rattle.code_file.specs.CodeFile.{IsShortFunction}
use Rattle.code_file.specs.Names.{bare_function}
use Rattle.code_file.proofs.Copies.{copied_more}
use Rattle.code_file.proofs.bare.names_of_functions.Goals as goal

pub loop-func-preserved : goal.loop-func-preserved
loop-func-preserved c =
    let names : List Func = c.loop-func.names in
    let func : Func = c.func-item.result in
    let more : Func = c.in_ok-function_names.field-0 in
    let pushed = c.in_ok-push.ensures.ok in
    record {
      names = pushed
          ∙ copied_more bare_function c.args.funcs.now c.loop-func.func-index func names more c.loop-func-test.true c.func-item.is c.loop-func.invariant.names c.in_ok-function_names.ensures.names;
      short = subst (λ (fs : List Func). All IsShortFunction fs) (sym pushed) (All-push IsShortFunction names more c.loop-func.invariant.short c.in_ok-function_names.ensures.short);
    }
