-- The statements of a body that was emitted stand one behind the other.
use Rattle.std.proofs.Common.{◌≡◌, ℕ, ◌+◌, ◌<◌, ◌≤◌, suc, List, [], ◌∷◌, Option, Some, None, refl, ap, sym, ◌∙◌, subst, length, get_or, map, take, ◌++◌, arith, length-append, append_assoc, inr, ⊎_elim}
use Rattle.std.specs.Prelude.{slice_get, All, fold}
use Rattle.std.specs.List.{flat_map, enumerate_from}
use Rattle.std.specs.Option.{option_to_list}
use Rattle.std.proofs.lemmas.List.{length-map, append-nil}
use Rattle.std.proofs.lemmas.List.FromFn.{length-enumerate_from}
use Rattle.std.proofs.lemmas.List.Elements.{All-append}
use Rattle.std.proofs.lemmas.Bool.{cases_lt}
use Rattle.core_tree.specs.declared.program.Core.{Core}
use Rattle.core_tree.specs.declared.program.Func.{Func}
use Rattle.core_tree.specs.declared.statements.Stm.{Stm}
use Rattle.core_tree.specs.Sound.{element_layouts}
use Rattle.flat_code.specs.declared.instructions.Instr.{Instr}
use Rattle.flat_code.specs.declared.program.Code.{Code}
use Rattle.object_meaning.specs.compiled.Handing.{code_length}
use Rattle.object_meaning.specs.counted.Pinning.{Pins, pins_in, pins_of}
use Rattle.count_insertion.specs.Inserted.{func_pins}
use Rattle.object_meaning.specs.compiled.Places.{body_length, first_of, place_of}
use Rattle.object_meaning.specs.compiled.Compiled.{IsStatement, IsLayoutIn, IsFormatIn, format_of}
use Rattle.object_meaning.specs.compiled.Sites.{site_at, statement_sites}
use Rattle.flat_codegen.specs.Emitting.{block, with_statement, with_point}
use Rattle.flat_codegen.proofs.Gets.{get_left, any_at, contains_at, all_at, sum_one_more, same_get}
use Rattle.flat_codegen.proofs.Kept.{Extends, HasFormat, extends_same, extends_twice, keeps_statement}
use Rattle.flat_codegen.proofs.Numbering.{numbered_at, made_next}
use Rattle.flat_codegen.proofs.Standing.{length-block, statement_stands}
use Rattle.flat_codegen.proofs.Walking.{fold_keeps}

-- a statement more
pub extends_statement : (place : ℕ → ℕ) (func : Func) (code : Code) (stm : Stm) (pins : List ℕ) → Extends code (with_statement place func code stm pins)
extends_statement place func code stm pins = record {
  instrs = λ k x e. get_left code.instrs _ k x e;
  lines = λ k x e. get_left code.lines _ k x e;
  funcs = λ k x e. e;
  layouts = λ k x e. get_left code.layouts _ k x e;
  formats = λ k x e. get_left code.formats _ k x e;
}

module _ (core : Core) (pins : Pins) (f : ℕ) (func : Func) (at : slice_get core.funcs f ≡ Some func) (listed : (point : ℕ) → pins_of pins f point ≡ pins_in (func_pins func) point) where
  -- the layouts and the format of a statement are the core's
  elements_in : (point : ℕ) (stm : Stm) → slice_get func.body point ≡ Some stm → All (IsLayoutIn core) (element_layouts stm.kind)
  elements_in point stm e = all_at (IsLayoutIn core) (element_layouts stm.kind)
      (λ k layout g. inr (any_at _ core.funcs f func at (inr (any_at _ func.body point stm e (contains_at (element_layouts stm.kind) k layout g)))))

  texts_of : (o : Option (List ℕ)) → ((text : List ℕ) → o ≡ Some text → IsFormatIn core text) → All (IsFormatIn core) (option_to_list o)
  texts_of None h = all_at (IsFormatIn core) [] (λ k x e. cc)
  texts_of (Some text) h = λ k d b. let only : k ≡ 0 = omega arith in subst (λ (n : ℕ). IsFormatIn core (get_or (text ∷ []) n d)) (sym only) (h text refl)

  texts_in : (point : ℕ) (stm : Stm) → slice_get func.body point ≡ Some stm → All (IsFormatIn core) (option_to_list (format_of func stm.kind))
  texts_in point stm e = texts_of (format_of func stm.kind) (λ text g. any_at _ core.funcs f func at (any_at _ func.body point stm e g))

  module _ (place : ℕ → ℕ) (right : (l : ℕ) → place l ≡ place_of core f func.body l) (written : (point : ℕ) (stm : Stm) → slice_get func.body point ≡ Some stm → HasFormat func stm.kind) where
    -- so many statements of the body stand behind some code
    pub record BodySoFar (old : Code) (n : ℕ) (code : Code) : Type 0 where
      pub grows : Extends old code
      pub count : length code.instrs ≡ length old.instrs + body_length (take n func.body)
      pub stand : (point : ℕ) (stm : Stm) → point < n → slice_get func.body point ≡ Some stm → IsStatement core code f func (length old.instrs + body_length (take point func.body)) stm
      pub same : length code.lines ≡ length code.instrs
      pub layouts : All (IsLayoutIn core) code.layouts
      pub formats : All (IsFormatIn core) code.formats
      pub funcs : code.funcs ≡ old.funcs
      pub statics : code.statics ≡ old.statics
      pub sites : code.sites ≡ old.sites ++ flat_map (statement_sites core pins f func) (enumerate_from 0 (take n func.body))

    -- the site of one statement more
    sites_more : (old : Code) (n : ℕ) (stm : Stm) (code : Code) → length old.instrs ≡ first_of core f → slice_get func.body n ≡ Some stm → BodySoFar old n code → (with_point place func code (n, stm)).sites ≡ old.sites ++ flat_map (statement_sites core pins f func) (enumerate_from 0 (take (suc n) func.body))
    sites_more old n stm code begins e h =
        let before = flat_map (statement_sites core pins f func) (enumerate_from 0 (take n func.body)) in
        let site = site_at (length code.instrs) stm.kind (pins_in (func_pins func) n) in
        let spot : length code.instrs ≡ place_of core f func.body n = omega (arith, h.count, begins) in
        let own : site ≡ statement_sites core pins f func (n, stm) = (λ i. site_at (spot i) stm.kind (sym (listed n) i)) in
        ap (λ sites. sites ++ site) h.sites ∙ append_assoc old.sites before site ∙ ap (λ sites. old.sites ++ (before ++ sites)) own
        ∙ ap (λ sites. old.sites ++ sites) (sym (made_next (statement_sites core pins f func) func.body n stm e))

    -- one statement more stands
    one_more : (old : Code) (n : ℕ) (stm : Stm) (code : Code) → length old.instrs ≡ first_of core f → slice_get func.body n ≡ Some stm → BodySoFar old n code → BodySoFar old (suc n) (with_point place func code (n, stm))
    one_more old n stm code begins e h =
        let new = with_point place func code (n, stm) in
        let own = pins_in (func_pins func) n in
        let all : List Instr = block place (length code.layouts) (length code.formats) stm.kind in
        let some : length all ≡ code_length stm.kind = length-block place (length code.layouts) (length code.formats) stm.kind in
        let longer : length new.instrs ≡ length code.instrs + code_length stm.kind = length-append code.instrs all ∙ ap (λ (k : ℕ). length code.instrs + k) some in
        let sums : body_length (take (suc n) func.body) ≡ body_length (take n func.body) + code_length stm.kind = sum_one_more (λ (stm : Stm). code_length stm.kind) func.body n stm e in
        let lines : length new.lines ≡ length code.lines + length all = length-append code.lines (map (λ _. stm.line) all) ∙ ap (λ (k : ℕ). length code.lines + k) (length-map all (λ _. stm.line)) in
        let s : HasFormat func stm.kind = written n stm e in
        record {
          grows = extends_twice old code new h.grows (extends_statement place func code stm own);
          count = omega (arith, h.count);
          stand = λ point one b g.
              ⊎_elim
              (λ (lt : point < n). keeps_statement core code new f func (length old.instrs + body_length (take point func.body)) one (extends_statement place func code stm own) (written point one g) (h.stand point one lt g))
              (λ (le : n ≤ point).
              let here : n ≡ point = omega arith in
              let it : one ≡ stm = same_get func.body n point stm one e g here in
              let stands : IsStatement core new f func (length code.instrs) stm = statement_stands core code f func place stm own right s h.same in
              let spot : length code.instrs ≡ length old.instrs + body_length (take point func.body) = h.count ∙ ap (λ (k : ℕ). length old.instrs + body_length (take k func.body)) here in
              subst (λ (x : Stm). IsStatement core new f func (length old.instrs + body_length (take point func.body)) x) (sym it)
              (subst (λ (k : ℕ). IsStatement core new f func k stm) spot stands))
              (cases_lt point n);
          same = omega (arith, h.same);
          layouts = All-append (IsLayoutIn core) code.layouts (element_layouts stm.kind) h.layouts (elements_in n stm e);
          formats = All-append (IsFormatIn core) code.formats (option_to_list (format_of func stm.kind)) h.formats (texts_in n stm e);
          funcs = h.funcs;
          statics = h.statics;
          sites = sites_more old n stm code begins e h;
        }

    -- before the first one
    none_yet : (old : Code) → length old.lines ≡ length old.instrs → All (IsLayoutIn core) old.layouts → All (IsFormatIn core) old.formats → BodySoFar old 0 old
    none_yet old same layouts formats = record {
      grows = extends_same old;
      count = omega arith;
      stand = λ point stm b g. absurd (omega arith);
      same = same;
      layouts = layouts;
      formats = formats;
      funcs = refl;
      statics = refl;
      sites = sym (append-nil old.sites);
    }

    -- all of them
    pub whole_body : (old : Code) → length old.instrs ≡ first_of core f → length old.lines ≡ length old.instrs → All (IsLayoutIn core) old.layouts → All (IsFormatIn core) old.formats →
        BodySoFar old (length func.body) (fold (with_point place func) old (enumerate_from 0 func.body))
    whole_body old begins same layouts formats =
        subst (λ n. BodySoFar old n (fold (with_point place func) old (enumerate_from 0 func.body))) (length-enumerate_from 0 func.body)
        (fold_keeps (with_point place func) (BodySoFar old) old (enumerate_from 0 func.body) (none_yet old same layouts formats)
        (λ k one code e h.
        let it = numbered_at 0 func.body k one e in
        let number : one.0 ≡ k = omega (arith, it.0) in
        subst (λ n. BodySoFar old (suc k) (with_point place func code (n, one.1))) (sym number) (one_more old k one.1 code begins it.1 h)))
