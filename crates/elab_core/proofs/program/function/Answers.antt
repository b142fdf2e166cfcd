use Rattle.std.proofs.Common.{◌≡◌, List, ◌++◌, length, replicate, map, ap, sym, ◌∙◌, arith, append_assoc}
use Rattle.std.proofs.lemmas.Grind.{common_steps}
use Rattle.core_tree.specs.declared.program.Reg.{Reg}
use Rattle.elaboration.specs.Context.{Running, Code, Walked}
use Rattle.elaboration.specs.Resolving.{temporary, pointer_register, plain_name}
use Rattle.elab_base.specs.PlainPieces.{plain_piece}
use Rattle.elab_core.specs.NumbersBy.{IsPlaced}
use Rattle.elab_core.proofs.Functions.{body_is, placed_along, function_is}
use Rattle.elab_core.proofs.program.function.Goals as goal

pub returns : goal.returns
returns c = λ d variables functions.
    let w : Walked = c.args.walked in
    let whole = c.into_parts-name.ensures in
    let name : c.plain_name.result ≡ plain_name w.name = c.plain_name.ensures ∙ (λ i. plain_name (whole i).0) in
    let params : c.into_parts-name.result.1 ≡ w.params = λ i. (whole i).1 in
    let running : c.into_parts-name.result.2 ≡ w.running = λ i. (whole i).2 in
    let code : c.into_parts-name.result.3 ≡ w.code = λ i. (whole i).3 in
    let line : c.into_parts-line.result.0 ≡ w.running.line = c.into_parts-line.ensures.line ∙ ap (λ (r : Running). r.line) running in
    let locals : c.into_parts-line.result.1.items ≡ w.running.locals = c.into_parts-line.ensures.locals ∙ ap (λ (r : Running). r.locals) running in
    let mems : c.from-2.result ≡ w.running.mems = c.from-2.ensures ∙ c.into_parts-line.ensures.mems ∙ ap (λ (r : Running). r.mems) running in
    let formats : c.from-3.result ≡ w.running.formats = c.from-3.ensures ∙ c.into_parts-line.ensures.formats ∙ ap (λ (r : Running). r.formats) running in
    let count : c.in_ok-fit.field-0 ≡ length w.running.locals = grind (arith, common_steps, locals) in
    let integers : c.most_integers-integers.result ≡ w.code.most_integers = c.most_integers-integers.ensures ∙ ap (λ (k : Code). k.most_integers) code in
    let pointers : c.most_pointers-pointers.result ≡ w.code.most_pointers = c.most_pointers-pointers.ensures ∙ ap (λ (k : Code). k.most_pointers) code in
    let first : c.from.result ≡ (c.into_parts-line.result.1.items ++ replicate c.most_integers-integers.result temporary) ++ replicate c.most_pointers-pointers.result pointer_register =
    c.from.ensures ∙ c.in_ok-registers-2.ensures ∙ ap (λ (l : List Reg). l ++ replicate c.most_pointers-pointers.result pointer_register) c.in_ok-registers.ensures in
    let spread : (c.into_parts-line.result.1.items ++ replicate c.most_integers-integers.result temporary) ++ replicate c.most_pointers-pointers.result pointer_register ≡ (w.running.locals ++ replicate w.code.most_integers temporary) ++ replicate w.code.most_pointers pointer_register =
    λ i. (locals i ++ replicate (integers i) temporary) ++ replicate (pointers i) pointer_register in
    let regs : c.from.result ≡ w.running.locals ++ (replicate w.code.most_integers temporary ++ replicate w.code.most_pointers pointer_register) =
    first ∙ spread ∙ append_assoc w.running.locals (replicate w.code.most_integers temporary) (replicate w.code.most_pointers pointer_register) in
    let pieces : map plain_piece c.into_vec-pieces.result.items ≡ w.code.pieces = c.into_vec-pieces.ensures ∙ c.into_pieces.ensures ∙ ap (λ (k : Code). k.pieces) code in
    let viewed : map plain_piece c.deref-2.result.now ≡ w.code.pieces = ap (map plain_piece) c.deref-2.ensures.value ∙ pieces in
    let placed : IsPlaced c.deref-3.result.now c.in_ok-total.total w.code.pieces = placed_along c.in_ok-points.points.items c.deref-3.result.now c.in_ok-total.total (map plain_piece c.deref-2.result.now) w.code.pieces (sym c.deref-3.ensures.value) viewed c.in_ok-points.ensures in
    let body = body_is d w c.in_ok-fit.field-0 c.most_integers-integers.result c.args.variables c.args.functions.now (map plain_piece c.into_vec-pieces.result.items) c.in_ok-body.body count integers (sym variables) (sym functions) pieces (c.in_ok-body.ensures w.code.pieces placed) in
    function_is d w _ name line params regs mems body formats
