use Rattle.std.proofs.Common.{arith, length, ◌≡◌, ℕ, Option, Vec, Global, ap, sym, subst, ◌∙◌}
use Rattle.c_types.specs.Types.{PlainType}
use Rattle.c_tree.specs.Tree.{Trees}
use Rattle.c_decls.specs.Refusals.{Checked, Meets}
use Rattle.c_decls.specs.TypeNames.{with_layers}
use Rattle.c_typing.specs.declared.layers.Layer.{Layer}
use Rattle.c_typing.specs.Layers.{plain_layer, plain_layers}
use Rattle.elab_statements.specs.GivenLengths.{held, given_behind, with_given}
use Rattle.std.specs.Prelude.{option_copied}
use Rattle.elab_statements.proofs.GivenLengths.{given_set, no_layers}
use Rattle.elab_statements.proofs.lengths.with_init_layers.Goals as goal
use Rattle.elab_statements.proofs.lengths.with_init_layers.Goals.{in-Some, in_default}

pub returns : goal.returns
returns c =
    let tags = c.args.tags.now in
    let inits : Trees = held (option_copied c.args.init) in
    let base : PlainType = c.args.base in
    let count : c.len.result ≡ length c.args.layers.items = omega (arith, c.len.ensures, c.args.layers.ok.0) in
    let given = c.in_ok-given.ensures ∙ ap (λ (t : PlainType). given_behind c.len.result t inits) c.ty.ensures ∙ ap (λ (n : ℕ). given_behind n base inits) count in
    elim c.match-get_mut.branch [
      | in-Some w ↦
          subst (λ (whole : Checked PlainType). Meets (λ (type : PlainType). type) c.with_layers.result whole)
          (sym (given_set tags inits c.args.layers.items w.in-Some.layer.now w.give_length.new.layer base w.in-Some.ensures.item.3.0 w.in-Some.ensures.value
          (w.give_length.ensures ∙ ap (λ (g : Option ℕ). with_given g (plain_layer w.in-Some.layer.now)) given)
          ∙ ap (λ (v : Vec Layer Global). with_layers tags (plain_layers v.items) base) (sym w.layers-is)))
          c.with_layers.ensures
      | in_default w ↦
          subst (λ (whole : Checked PlainType). Meets (λ (type : PlainType). type) c.with_layers.result whole)
          (sym (no_layers tags inits c.args.layers.items base w.in_default.ensures.item.3
          ∙ ap (λ (v : Vec Layer Global). with_layers tags (plain_layers v.items) base) (sym w.layers-is)))
          c.with_layers.ensures
    ]
