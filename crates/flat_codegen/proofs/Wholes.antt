-- The functions that were emitted stand one behind the other.
use Rattle.std.proofs.Common.{◌≡◌, ℕ, ◌+◌, ◌<◌, ◌≤◌, suc, List, [], ◌∷◌, ◌++◌, Some, refl, ap, sym, ◌∙◌, subst, length, map, take, arith, length-append, append_assoc}
use Rattle.std.specs.Prelude.{slice_get, All, Any, fold}
use Rattle.std.specs.List.{enumerate_from, flat_map, range_with_len, sum_by}
use Rattle.std.specs.Option.{option_map}
use Rattle.std.proofs.Common.{⊎_elim, inl, inr}
use Rattle.std.proofs.lemmas.List.{take_all, length-map}
use Rattle.std.proofs.lemmas.List.Elements.{All-append}
use Rattle.std.proofs.lemmas.Bool.{cases_lt}
use Rattle.std.proofs.lemmas.Option.{get_or_from_slice_get, slice_get_within, slice_get-map}
use Rattle.c_types.specs.declared.layouts.Layout.{Layout}
use Rattle.core_tree.specs.declared.program.Core.{Core}
use Rattle.core_tree.specs.declared.program.Func.{Func}
use Rattle.core_tree.specs.declared.program.Mem.{Mem}
use Rattle.core_tree.specs.declared.program.Static.{Static}
use Rattle.core_tree.specs.declared.statements.Stm.{Stm}
use Rattle.flat_code.specs.declared.program.Code.{Code}
use Rattle.flat_code.specs.declared.program.Entry.{Entry}
use Rattle.object_meaning.specs.counted.Pinning.{Pins, pins_in, pins_of}
use Rattle.count_insertion.specs.Inserted.{func_pins}
use Rattle.object_meaning.specs.compiled.Places.{body_length, first_of, place_of}
use Rattle.object_meaning.specs.compiled.Compiled.{IsStatement, IsEntry, IsLayoutIn, IsFormatIn}
use Rattle.object_meaning.specs.compiled.Sites.{statement_sites, func_sites}
use Rattle.flat_codegen.specs.Emitting.{place_from, entry_of, with_entry, with_function}
use Rattle.flat_codegen.proofs.Gets.{get_left, get_next, get_within, any_at, all_at, sum_one_more, same_get}
use Rattle.flat_codegen.proofs.Kept.{Extends, HasFormat, extends_twice, keeps_statement, keeps_entry}
use Rattle.flat_codegen.proofs.Bodies.{BodySoFar, whole_body}
use Rattle.flat_codegen.proofs.Numbering.{made_next}
use Rattle.flat_codegen.proofs.Walking.{fold_keeps}

-- the layouts of memory locals have the next numbers
numbers_lead : (all ls : List Layout) (mems : List Mem) → all ≡ ls ++ map (λ (m : Mem). m.layout) mems →
    map (slice_get all) (range_with_len (length ls) (length mems)) ≡ map (λ (m : Mem). Some m.layout) mems
numbers_lead all ls [] e = refl
numbers_lead all ls (m ∷ mems) e =
    let first : slice_get all (length ls) ≡ Some m.layout = ap (λ (l : List Layout). slice_get l (length ls)) e ∙ get_next ls m.layout (map (λ (m : Mem). m.layout) mems) in
    let longer : length (ls ++ m.layout ∷ []) ≡ length ls + 1 = length-append ls (m.layout ∷ []) in
    let split : all ≡ (ls ++ m.layout ∷ []) ++ map (λ (m : Mem). m.layout) mems = e ∙ sym (append_assoc ls (m.layout ∷ []) (map (λ (m : Mem). m.layout) mems)) in
    let more : map (slice_get all) (range_with_len (length ls + 1) (length mems)) ≡ map (λ (m : Mem). Some m.layout) mems =
    subst (λ (n : ℕ). map (slice_get all) (range_with_len n (length mems)) ≡ map (λ (m : Mem). Some m.layout) mems) longer (numbers_lead all (ls ++ m.layout ∷ []) mems split) in
    λ i. first i ∷ more i

-- the entry of a function more
extends_entry : (code : Code) (func : Func) → Extends code (with_entry code func)
extends_entry code func = record {
  instrs = λ k x e. e;
  lines = λ k x e. e;
  funcs = λ k x e. get_left code.funcs _ k x e;
  layouts = λ k x e. get_left code.layouts _ k x e;
  formats = λ k x e. e;
}

-- what a list that is mapped has comes from an element
any_mapped : {X Y : Type 0} (g : X → Y) (xs : List X) (k : ℕ) (y : Y) → slice_get (map g xs) k ≡ Some y → Any (λ x. g x ≡ y) xs
any_mapped g xs k y e =
    let inside : k < length xs = omega (arith, slice_get_within (map g xs) k y e, length-map xs g) in
    let it = get_within xs k inside in
    let there : slice_get (map g xs) k ≡ Some (g it.0) = slice_get-map g xs k ∙ ap (option_map g) it.1 in
    let same : g it.0 ≡ y = cc in
    any_at (λ x. g x ≡ y) xs k it.0 it.1 same

-- the layouts of memory locals and of statics are the core's
pub mems_in : (core : Core) (f : ℕ) (func : Func) → slice_get core.funcs f ≡ Some func → All (IsLayoutIn core) (map (λ (m : Mem). m.layout) func.mems)
mems_in core f func at = all_at (IsLayoutIn core) (map (λ (m : Mem). m.layout) func.mems)
    (λ k layout e. inr (any_at _ core.funcs f func at (inl (any_mapped (λ (m : Mem). m.layout) func.mems k layout e))))

pub statics_in : (core : Core) → All (IsLayoutIn core) (map (λ (s : Static). s.layout) core.statics)
statics_in core = all_at (IsLayoutIn core) (map (λ (s : Static). s.layout) core.statics)
    (λ k layout e. inl (any_mapped (λ (s : Static). s.layout) core.statics k layout e))

module _ (core : Core) (pins : Pins) (listed : pins ≡ map func_pins core.funcs) (written : (f point : ℕ) (func : Func) (stm : Stm) → slice_get core.funcs f ≡ Some func → slice_get func.body point ≡ Some stm → HasFormat func stm.kind) where
  -- so many functions stand in code that began as some
  pub record FuncsSoFar (old : Code) (n : ℕ) (code : Code) : Type 0 where
    pub grows : Extends old code
    pub count : length code.funcs ≡ n
    pub next : length code.instrs ≡ first_of core n
    pub same : length code.lines ≡ length code.instrs
    pub entries : (f : ℕ) (func : Func) → f < n → slice_get core.funcs f ≡ Some func → (entry : Entry) × (slice_get code.funcs f ≡ Some entry) × IsEntry core code f func entry
    pub statements : (f point : ℕ) (func : Func) (stm : Stm) → f < n → slice_get core.funcs f ≡ Some func → slice_get func.body point ≡ Some stm → IsStatement core code f func (place_of core f func.body point) stm
    pub layouts : All (IsLayoutIn core) code.layouts
    pub formats : All (IsFormatIn core) code.formats
    pub statics : code.statics ≡ old.statics
    pub sites : code.sites ≡ old.sites ++ flat_map (func_sites core pins) (enumerate_from 0 (take n core.funcs))

  -- the pins of a function are those that are listed for it
  own_pins : (f : ℕ) (func : Func) → slice_get core.funcs f ≡ Some func → (point : ℕ) → pins_of pins f point ≡ pins_in (func_pins func) point
  own_pins f func at point =
      ap (λ ps. pins_of ps f point) listed ∙ ap (λ ps. pins_in ps point) (get_or_from_slice_get (map func_pins core.funcs) f (func_pins func) [] (slice_get-map func_pins core.funcs f ∙ ap (option_map func_pins) at))

  -- the sites of one function more
  sites_more : (old : Code) (n : ℕ) (func : Func) (code new : Code) → slice_get core.funcs n ≡ Some func → FuncsSoFar old n code → new.sites ≡ code.sites ++ func_sites core pins (n, func) → new.sites ≡ old.sites ++ flat_map (func_sites core pins) (enumerate_from 0 (take (suc n) core.funcs))
  sites_more old n func code new at h e =
      let before = flat_map (func_sites core pins) (enumerate_from 0 (take n core.funcs)) in
      e ∙ ap (λ sites. sites ++ func_sites core pins (n, func)) h.sites ∙ append_assoc old.sites before (func_sites core pins (n, func))
      ∙ ap (λ sites. old.sites ++ sites) (sym (made_next (func_sites core pins) core.funcs n func at))

  -- one function more stands
  one_more : (old : Code) (n : ℕ) (func : Func) (code : Code) → slice_get core.funcs n ≡ Some func → FuncsSoFar old n code → FuncsSoFar old (suc n) (with_function code func)
  one_more old n func code at h =
      let place = place_from (length code.instrs) func.body in
      let right : (l : ℕ) → place l ≡ place_of core n func.body l = λ l. ap (λ (first : ℕ). first + body_length (take l func.body)) h.next in
      let mine : (point : ℕ) (stm : Stm) → slice_get func.body point ≡ Some stm → HasFormat func stm.kind = λ point stm e. written n point func stm at e in
      let mid = with_entry code func in
      let new = with_function code func in
      let layouts : All (IsLayoutIn core) mid.layouts = All-append (IsLayoutIn core) code.layouts (map (λ (m : Mem). m.layout) func.mems) h.layouts (mems_in core n func at) in
      let body : BodySoFar core pins n func at (own_pins n func at) place right mine mid (length func.body) new = whole_body core pins n func at (own_pins n func at) place right mine mid h.next h.same layouts h.formats in
      let grows : Extends code new = extends_twice code mid new (extends_entry code func) body.grows in
      let all : take (length func.body) func.body ≡ func.body = take_all (length func.body) func.body (omega arith) in
      let longer : length new.instrs ≡ length code.instrs + body_length func.body = body.count ∙ ap (λ (b : List Stm). length code.instrs + body_length b) all in
      let sums : first_of core (suc n) ≡ 1 + (sum_by (λ (func : Func). body_length func.body) (take n core.funcs) + body_length func.body) = ap (λ (k : ℕ). 1 + k) (sum_one_more (λ (func : Func). body_length func.body) core.funcs n func at) in
      let entries : length new.funcs ≡ length code.funcs + 1 = ap length body.funcs ∙ length-append code.funcs (entry_of code func ∷ []) in
      let made : slice_get new.funcs n ≡ Some (entry_of code func) =
      ap (λ (fs : List Entry). slice_get fs n) body.funcs ∙ ap (slice_get mid.funcs) (sym h.count) ∙ get_next code.funcs (entry_of code func) [] in
      let entry : IsEntry core mid n func (entry_of code func) = record { first = h.next; params = refl; kinds = refl; mems = numbers_lead mid.layouts code.layouts func.mems refl } in
      record {
        grows = extends_twice old code new h.grows grows;
        count = omega (arith, h.count);
        next = omega (arith, h.next);
        same = body.same;
        entries = λ f one b e.
            ⊎_elim
            (λ (lt : f < n). let found = h.entries f one lt e in (found.0, grows.funcs f found.0 found.1, keeps_entry core code new f one found.0 grows found.2))
            (λ (le : n ≤ f).
            let here : n ≡ f = omega arith in
            let it : one ≡ func = same_get core.funcs n f func one at e here in
            let kept : IsEntry core new n func (entry_of code func) = keeps_entry core mid new n func (entry_of code func) body.grows entry in
            subst (λ (x : Func). (entry : Entry) × (slice_get new.funcs f ≡ Some entry) × IsEntry core new f x entry) (sym it)
            (subst (λ (k : ℕ). (entry : Entry) × (slice_get new.funcs k ≡ Some entry) × IsEntry core new k func entry) here (entry_of code func, made, kept)))
            (cases_lt f n);
        statements = λ f point one stm b e g.
            ⊎_elim
            (λ (lt : f < n). keeps_statement core code new f one (place_of core f one.body point) stm grows (written f point one stm e g) (h.statements f point one stm lt e g))
            (λ (le : n ≤ f).
            let here : n ≡ f = omega arith in
            let it : one ≡ func = same_get core.funcs n f func one at e here in
            let there : slice_get func.body point ≡ Some stm = ap (λ (x : Func). slice_get x.body point) (sym it) ∙ g in
            let stands : IsStatement core new n func (length code.instrs + body_length (take point func.body)) stm = body.stand point stm (slice_get_within func.body point stm there) there in
            subst (λ (x : Func). IsStatement core new f x (place_of core f x.body point) stm) (sym it)
            (subst (λ (k : ℕ). IsStatement core new k func (place_of core k func.body point) stm) here
            (subst (λ (k : ℕ). IsStatement core new n func k stm) (right point) stands)))
            (cases_lt f n);
        layouts = body.layouts;
        formats = body.formats;
        statics = body.statics ∙ h.statics;
        sites = sites_more old n func code new at h (body.sites ∙ ap (λ (body : List Stm). code.sites ++ flat_map (statement_sites core pins n func) (enumerate_from 0 body)) all);
      }

  -- all of them
  pub whole_core : (old : Code) → FuncsSoFar old 0 old → FuncsSoFar old (length core.funcs) (fold with_function old core.funcs)
  whole_core old start = fold_keeps with_function (FuncsSoFar old) old core.funcs start (λ k func code e h. one_more old k func code e h)
