-- A return with a value, in its steps.
use Rattle.std.proofs.Common.{◌≡◌, ℕ, Bool, false, Option, None, Result, Ok, subst, ap, sym, ◌∙◌}
use Rattle.c_types.specs.Types.{PlainType}
use Rattle.c_tree.specs.declared.tree.ExprKind.{ExprKind}
use Rattle.c_tree.specs.Tree.{Tree}
use Rattle.c_tree.specs.View.{expr_tree}
use Rattle.c_decls.specs.declared.refusal.TypeKind.{TypeKind}
use Rattle.c_decls.specs.declared.refusal.TypeKind.TheVariants.{Assignment}
use Rattle.c_decls.specs.declared.refusal.TypeError.{TypeError}
use Rattle.c_decls.specs.Refusals.{Checked, then, unless, Meets}
use Rattle.c_decls.specs.Typed.{is_void}
use Rattle.c_decls.specs.TypeRules.{barred}
use Rattle.c_decls.specs.PlaceRules.{unconverted, converts}
use Rattle.elab_base.specs.declared.code.Mark.{Mark}
use Rattle.elab_base.specs.Marks.{mark_of, cut}
use Rattle.elaboration.specs.Context.{Code, Context, With}
use Rattle.elaboration.specs.Conversions.{Found}
use Rattle.elaboration.specs.Reallocates.{opened}
use Rattle.elaboration.specs.Expressions.{value_of}
use Rattle.elaboration.specs.Statements.{return_value, return_of}
use Rattle.elab_statements.proofs.Cuts.{cut_value}

-- what an answer meets, its equal meets
pub carry : {A B : Type 0} (view : A → B) (r : Result A TypeError) (x y : Checked B) → x ≡ y → Meets view r x → Meets view r y
carry {B = B} view r x y e h = let P : Checked B → Type 0 = λ z. Meets view r z in subst P e h

-- the same, where what it meets is known first
pub carried : {A B : Type 0} (view : A → B) (r : Result A TypeError) (x y : Checked B) → Meets view r x → x ≡ y → Meets view r y
carried view r x y h e = carry view r x y e h

module _ (line delays : ℕ) (kind : ExprKind) (at : ℕ) (type : PlainType) where
  abbrev tree : Tree
  tree = expr_tree kind at

  -- a value that is returned, from its code on
  abbrev from_value : Code → Context × Found → Checked Context
  from_value before d =
      unless (is_void type) Assignment line (converts line type d.1.typed (return_value line delays tree type before d))

  abbrev from_start : Context → Checked Context
  from_start b = then (value_of tree type b) (λ d. from_value b.code d)

  pub return_steps : (old begun : Context) (d : Context × Found) (m : Mark) →
      begun ≡ opened tree old → m ≡ mark_of begun.code → value_of tree type begun ≡ Ok d →
      is_void type ≡ false → unconverted type d.1.typed ≡ None →
      return_value line delays tree type (cut m d.0.code) d ≡ return_of line delays tree type old
  return_steps old begun d m start mark value solid fits =
      let answer : Code → Checked Context = λ before. return_value line delays tree type before d in
      ap answer (cut_value kind at type begun d m mark value)
      ∙ sym (ap (λ (b : Context). from_start b) (sym start)
      ∙ ap (λ (a : With Found). then a (λ x. from_value begun.code x)) value
      ∙ ap (λ (b : Bool). unless b Assignment line (converts line type d.1.typed (answer begun.code))) solid
      ∙ ap (λ (o : Option TypeKind). barred o line (answer begun.code)) fits)
