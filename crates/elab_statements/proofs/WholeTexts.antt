-- External declarations one behind another: between them nothing is kept of the last function.
use Rattle.std.proofs.Common.{◌≡◌, ◌<◌, ◌≤◌, ◌+◌, ℕ, zero, suc, Bool, true, false, List, [], ◌∷◌, Ok, Err, drop, length, get_or, refl, ap, sym, subst, ◌∙◌, arith}
use Rattle.std.specs.Prelude.{slice_get, not, cond, codes}
use Rattle.std.proofs.Math.Seq.{drop-cons}
use Rattle.c_tree.specs.declared.statement.Decl.{Decl}
use Rattle.c_tree.specs.declared.statement.Decl.TheVariants as d
use Rattle.c_tree.specs.StatementView.{trees, decl_view}
use Rattle.c_decls.specs.declared.refusal.TypeKind.{TypeKind}
use Rattle.c_decls.specs.declared.refusal.TypeKind.TheVariants.{NoMain, Undeclared}
use Rattle.c_decls.specs.declared.refusal.TypeError.{TypeError}
use Rattle.c_decls.specs.declared.refusal.TypeError.TheVariants as e
use Rattle.c_decls.specs.ScopeList.{named_in}
use Rattle.c_decls.specs.Refusals.{Checked, refused, then, unless, Meets}
use Rattle.elaboration.specs.Context.{Context, Declared, first_context}
use Rattle.elaboration.specs.Externals.{external, externals, is_defined, is_main, calls_defined, ended}
use Rattle.elab_base.specs.Idle.{idle, idled}

external_idle : (x : Decl) (c : Context) → external (decl_view x) c ≡ external (decl_view x) (idle c)
unfolding external
external_idle (d.Function line specs declarator body end) c = refl
external_idle (d.Names line specs names) c = refl

externals_idle : (xs : List Decl) (c : Context) → idled (externals (trees decl_view xs) c) ≡ idled (externals (trees decl_view xs) (idle c))
unfolding externals
externals_idle [] c = refl
externals_idle (x ∷ xs) c =
    ap (λ (answer : Checked Context). idled (then answer (λ d. externals (trees decl_view xs) d))) (external_idle x c)

-- what follows an answer sees of it only what is idle
after_ok : (answer : Checked Context) (xs : List Decl) (s : Context) → idled answer ≡ Ok s →
    idled (externals (trees decl_view xs) s) ≡ idled (then answer (λ d. externals (trees decl_view xs) d))
after_ok (Ok c) xs s h =
    let same : idle c ≡ s = cc in
    sym (externals_idle xs c ∙ ap (λ (d : Context). idled (externals (trees decl_view xs) d)) same)
after_ok (Err refusal) xs s h = cc

after_refusal : (answer : Checked Context) (next : Context → Checked Context) (kind : TypeKind) (line : ℕ) → idled answer ≡ refused kind line →
    idled (then answer next) ≡ refused kind line
after_refusal (Ok c) next kind line h = cc
after_refusal (Err refusal) next kind line h = h

open_next : (xs : List Decl) (i : ℕ) (x : Decl) (c : Context) → i < length xs → x ≡ get_or xs i x →
    then (external (decl_view x) c) (λ d. externals (trees decl_view (drop (i + 1) xs)) d) ≡ externals (trees decl_view (drop i xs)) c
unfolding externals
open_next xs i x c h is =
    let more : drop (i + 1) xs ≡ drop (suc i) xs = ap (λ (n : ℕ). drop n xs) (let next : i + 1 ≡ suc i = omega arith in next) in
    ap (λ (l : List Decl). then (external (decl_view x) c) (λ d. externals (trees decl_view l) d)) more
    ∙ ap (λ (y : Decl). then (external (decl_view y) c) (λ d. externals (trees decl_view (drop (suc i) xs)) d)) is
    ∙ sym (ap (λ (l : List Decl). externals (trees decl_view l) c) (drop-cons xs i x h))

pub decl_next : (xs : List Decl) (i : ℕ) (x : Decl) (c s : Context) → i < length xs → x ≡ get_or xs i x → idled (external (decl_view x) c) ≡ Ok s →
    idled (externals (trees decl_view (drop (i + 1) xs)) s) ≡ idled (externals (trees decl_view (drop i xs)) c)
decl_next xs i x c s h is done =
    after_ok (external (decl_view x) c) (drop (i + 1) xs) s done
    ∙ ap (λ (answer : Checked Context). idled answer) (open_next xs i x c h is)

pub decl_err : (xs : List Decl) (i : ℕ) (x : Decl) (c s t : Context) (error : TypeError) (whole : Checked Context) → i < length xs → x ≡ get_or xs i x →
    idled (externals (trees decl_view (drop i xs)) c) ≡ whole →
    Meets (λ (u : Unit {0}). s) (Err error) (idled (external (decl_view x) c)) → Meets (λ (u : Unit {0}). t) (Err error) whole
decl_err xs i x c s t (e.Bad kind line) whole h is same failed =
    sym same
    ∙ ap (λ (answer : Checked Context). idled answer) (sym (open_next xs i x c h is))
    ∙ after_refusal (external (decl_view x) c) (λ d. externals (trees decl_view (drop (i + 1) xs)) d) kind line failed
decl_err xs i x c s t e.NoMemory whole h is same failed = tt

pub decls_end : (xs : List Decl) (i : ℕ) (c : Context) → length xs ≤ i → idled (externals (trees decl_view (drop i xs)) c) ≡ Ok (idle c)
unfolding externals
decls_end [] zero c h = refl
decls_end [] (suc i) c h = refl
decls_end (first ∷ xs) zero c h = absurd (omega (arith, h))
decls_end (first ∷ xs) (suc i) c h = decls_end xs i c (omega (arith, h))

-- the end of a text

abbrev main_defined : Context → Checked Context
main_defined c = unless (not (is_main c.functions (named_in (codes "main") c.scopes.file))) NoMain 1 (Ok c)

tested : (test : Bool) (c : Context) → idled (unless test NoMain 1 (Ok c)) ≡ idled (unless test NoMain 1 (Ok (idle c)))
tested true c = refl
tested false c = refl

module _ (functions : List Declared) where
  checked : (calls : List (ℕ × ℕ)) (c : Context) → idled (then (calls_defined functions calls c) main_defined) ≡ idled (then (calls_defined functions calls (idle c)) main_defined)
  checked [] c = tested (not (is_main c.functions (named_in (codes "main") c.scopes.file))) c
  checked (call ∷ calls) c =
      elim (is_defined (slice_get functions call.0)) as (λ b. idled (then (cond b (calls_defined functions calls c) (refused Undeclared call.1)) main_defined) ≡ idled (then (cond b (calls_defined functions calls (idle c)) (refused Undeclared call.1)) main_defined))
      [ true ↦ checked calls c | false ↦ refl ]

ended_idle : (c : Context) → idled (ended c) ≡ idled (ended (idle c))
ended_idle c = checked c.functions c.calls c

whole_ok : (answer : Checked Context) (s : Context) → idled answer ≡ Ok (idle s) → idled (ended s) ≡ idled (then answer ended)
whole_ok (Ok c) s h =
    let same : idle c ≡ idle s = cc in
    ended_idle s ∙ sym (ended_idle c ∙ ap (λ (d : Context). idled (ended d)) same)
whole_ok (Err refusal) s h = cc

pub text_ok : (answer : Checked Context) (s : Context) → idled answer ≡ Ok (idle s) → ended s ≡ Ok s → idled (then answer ended) ≡ Ok (idle s)
text_ok answer s h done = sym (whole_ok answer s h) ∙ ap (λ (a : Checked Context). idled a) done

pub text_err : (answer : Checked Context) (s : Context) (error : TypeError) → Meets (λ (u : Unit {0}). s) (Err error) (idled answer) →
    Meets (λ (t : Context). idle t) (Err error) (idled (then answer ended))
text_err answer s (e.Bad kind line) failed = after_refusal answer ended kind line failed
text_err answer s e.NoMemory failed = tt

pub end_err : (answer : Checked Context) (s : Context) (error : TypeError) → idled answer ≡ Ok (idle s) → Meets (λ (u : Unit {0}). s) (Err error) (ended s) →
    Meets (λ (t : Context). idle t) (Err error) (idled (then answer ended))
end_err answer s (e.Bad kind line) h failed = sym (whole_ok answer s h) ∙ ap (λ (a : Checked Context). idled a) failed
end_err answer s e.NoMemory h failed = tt

-- the same of what stands in the code: the declarations as a slice, and the first context as it was made
module _ (decls list : List Decl) (first s : Context) (error : TypeError) (is : list ≡ decls) (begins : first ≡ first_context) where
  from_first : externals (trees decl_view list) first ≡ externals (trees decl_view decls) first_context
  from_first =
      ap (λ (l : List Decl). externals (trees decl_view l) first) is ∙ ap (λ (c : Context). externals (trees decl_view decls) c) begins

  pub text_err_at : Meets (λ (u : Unit {0}). idle s) (Err error) (idled (externals (trees decl_view list) first)) →
      Meets (λ (t : Context). idle t) (Err error) (idled (then (externals (trees decl_view decls) first_context) ended))
  text_err_at failed =
      text_err (externals (trees decl_view decls) first_context) (idle s) error
      (subst (λ (a : Checked Context). Meets (λ (u : Unit {0}). idle s) (Err error) (idled a)) from_first failed)

  pub end_err_at : idled (externals (trees decl_view list) first) ≡ Ok (idle s) → Meets (λ (u : Unit {0}). s) (Err error) (ended s) →
      Meets (λ (t : Context). idle t) (Err error) (idled (then (externals (trees decl_view decls) first_context) ended))
  end_err_at h failed =
      end_err (externals (trees decl_view decls) first_context) s error (ap (λ (a : Checked Context). idled a) (sym from_first) ∙ h) failed
