-- The definition of a function, as the walk changes it where it stands.
use Rattle.c_units.proofs.Words.Std.{Err, IfOk, List, Ok, Result, ap, ap₂, sym, ℕ, ◌∙◌, ◌≡◌}
use Rattle.c_units.proofs.Words.Trees.{At, Decl, Declarator, Node, Specs, Stmt, Tree, body_view, decl_view, declarator_tree, none, params_of, specs_view, ◌▹◌}
use Rattle.c_units.proofs.Words.Units.{Defined, Names, behind, behind_declarator, behind_external, inside_params, left_scope, renamed, renamed_declarator, renamed_external}
use Rattle.c_tree.specs.declared.statement.Decl.TheVariants as d
use Rattle.c_tree.specs.Forms as f
use Rattle.c_units.proofs.KeptParams.{file_params}
use Rattle.c_units.proofs.WalkSteps.{if_by}

both_by : {T E A B C : Type 0} (r : Result T E) → (A → B → C) → IfOk r (λ _. A) → IfOk r (λ _. B) → IfOk r (λ _. C)
both_by (Ok x) h a b = h a b
both_by (Err x) h a b = tt

module _ {T E : Type 0} (r : Result T E) (x last y : Names) (old : Decl) (line : ℕ) (specs : Specs) (declarator named : Declarator) (body : List Stmt) (end : ℕ)
    (is : old ≡ d.Function line specs declarator body end) (first : last ≡ behind (specs_view specs) x)
    (made : declarator_tree named ≡ renamed_declarator Defined line (declarator_tree declarator) last)
    (known : y ≡ behind_declarator Defined line (declarator_tree declarator) last) where
  name : Names
  name = behind_declarator Defined line (declarator_tree declarator) (behind (specs_view specs) x)

  there : y ≡ name
  unfolding name
  there = known ∙ ap (λ (u : Names). behind_declarator Defined line (declarator_tree declarator) u) first

  start : inside_params (params_of (declarator_tree named)) y ≡ inside_params (params_of (declarator_tree declarator)) name
  start =
      ap (λ (t : Tree). inside_params (params_of t) y) made ∙ file_params declarator Defined line last y
      ∙ ap (λ (u : Names). inside_params (params_of (declarator_tree declarator)) u) there

  pub function_names : (z : Names) → IfOk r (λ _. z ≡ left_scope y (behind (body_view body end) (inside_params (params_of (declarator_tree named)) y))) →
      IfOk r (λ _. z ≡ behind_external (decl_view old) x)
  unfolding behind_external name
  function_names z = if_by r (λ h.
      h ∙ ap₂ (λ (u v : Names). left_scope u (behind (body_view body end) v)) there start ∙ sym (ap (λ (o : Decl). behind_external (decl_view o) x) is))

  function_tree : (words : Specs) (kept : Declarator) (items : List Stmt) → specs_view words ≡ renamed (specs_view specs) x → declarator_tree kept ≡ declarator_tree named →
      body_view items end ≡ renamed (body_view body end) (inside_params (params_of (declarator_tree named)) y) →
      decl_view (d.Function line words kept items end) ≡ renamed_external (decl_view (d.Function line specs declarator body end)) x
  unfolding renamed_external name
  function_tree words kept items more same here =
      ap (λ (a : Tree). Node f.Function (At line ▹ a ▹ Node f.Declared (declarator_tree kept ▹ none) ▹ body_view items end ▹ none)) more
      ∙ ap (λ (a : Tree). Node f.Function (At line ▹ renamed (specs_view specs) x ▹ Node f.Declared (a ▹ none) ▹ body_view items end ▹ none))
      (same ∙ made ∙ ap (λ (u : Names). renamed_declarator Defined line (declarator_tree declarator) u) first)
      ∙ ap (λ (a : Tree). Node f.Function (At line ▹ renamed (specs_view specs) x ▹
      Node f.Declared (renamed_declarator Defined line (declarator_tree declarator) (behind (specs_view specs) x) ▹ none) ▹ a ▹ none))
      (here ∙ ap (λ (u : Names). renamed (body_view body end) u) start)

  pub function_new : (tree : Tree) (words : Specs) (kept : Declarator) (items : List Stmt) → tree ≡ decl_view (d.Function line words kept items end) →
      specs_view words ≡ renamed (specs_view specs) x → IfOk r (λ _. declarator_tree kept ≡ declarator_tree named) →
      IfOk r (λ _. body_view items end ≡ renamed (body_view body end) (inside_params (params_of (declarator_tree named)) y)) →
      IfOk r (λ _. tree ≡ renamed_external (decl_view old) x)
  function_new tree words kept items one more same here = both_by r
      (λ a b. one ∙ function_tree words kept items more a b ∙ sym (ap (λ (o : Decl). renamed_external (decl_view o) x) is)) same here
