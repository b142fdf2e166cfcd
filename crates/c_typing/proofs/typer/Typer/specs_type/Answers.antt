use Rattle.std.proofs.Common.{◌≡◌, ◌∙◌, ap, sym, subst}
use Rattle.std.specs.Prelude.{Ok, option_copied}
use Rattle.std.specs.List.{find}
use Rattle.c_types.specs.Types.{PlainType}
use Rattle.c_tree.specs.View.{spec_tree}
use Rattle.c_tree.specs.StatementView.{trees}
use Rattle.c_decls.specs.TypeNames.{word_type}
use Rattle.c_typing.specs.SpecWords.{is_special}
use Rattle.c_typing.specs.Walks.{Walks, context_of}
use Rattle.c_typing.proofs.SpecTypes.{decided, specs_decided}
use Rattle.c_typing.proofs.typer.Typer.specs_type.Goals as goal

pub returns-in-Some : goal.returns-in-Some
returns-in-Some c =
    let words = c.args.specs.now.words.items in
    let context = context_of c.args.self.now c.args.tags.now in
    let line = c.args.specs.now.line in
    let all = trees spec_tree words in
    let found = ap (find is_special) (sym c.deref.ensures.value) ∙ sym c.special_word.ensures ∙ ap option_copied c.in-Some.is in
    subst (λ w. Walks (λ (type : PlainType). type) (context_of c.special_type.new.self c.args.tags.now) c.special_type.result w)
    (sym (specs_decided line all words context ∙ ap (decided line all context) found)) c.special_type.ensures

pub returns-in-None : goal.returns-in-None
returns-in-None c =
    let words = c.args.specs.now.words.items in
    let context = context_of c.args.self.now c.args.tags.now in
    let line = c.args.specs.now.line in
    let all = trees spec_tree words in
    let found = ap (find is_special) (sym c.deref.ensures.value) ∙ sym c.special_word.ensures ∙ ap option_copied c.in-None.is in
    specs_decided line all words context ∙ ap (decided line all context) found
    ∙ ap (λ t. Ok (context, t)) (ap (λ ws. word_type (trees spec_tree ws)) (sym c.deref-in-None.ensures.value) ∙ sym c.word_type.ensures)
