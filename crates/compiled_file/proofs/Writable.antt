-- The code of a core can be written with the names of the core.
use Rattle.std.proofs.Common.{◌≡◌, ◌≢◌, ◌<◌, ℕ, zero, suc, Bool, List, [], ◌∷◌, ◌++◌, Option, Some, None, length, map, get_or, refl, sym, ap, ◌∙◌, subst, arith}
use Rattle.std.specs.List.{All, AllZip, slice_get}
use Rattle.std.proofs.lemmas.List.{length-map}
use Rattle.std.proofs.lemmas.List.Elements.{All-map}
use Rattle.std.proofs.lemmas.Option.{slice_get-get_or}
use Rattle.c_types.specs.declared.layouts.Layout.{Layout}
use Rattle.core_tree.specs.declared.program.Core.{Core}
use Rattle.core_tree.specs.declared.program.Func.{Func}
use Rattle.core_tree.specs.declared.program.Mem.{Mem}
use Rattle.core_tree.specs.declared.program.Reg.{Reg}
use Rattle.core_tree.specs.declared.program.Static.{Static}
use Rattle.flat_code.specs.declared.program.Code.{Code}
use Rattle.flat_code.specs.declared.program.Entry.{Entry}
use Rattle.flat_code.specs.declared.program.StaticInit.{StaticInit}
use Rattle.object_meaning.specs.counted.Pinning.{Pins}
use Rattle.object_meaning.specs.compiled.Compiled.{IsCompiled, IsEntry}
use Rattle.code_file.specs.CodeFile.{AgreesWith, EndsOtherwise, IsBareFunction, IsBareMemory, IsBareStatic, IsShortCode, IsShortNames, IsWritable}
use Rattle.code_file.specs.Names.{bare, bare_function, bare_memory, bare_static}

-- Lists

-- R of each two items at one place, the second changed by g
zip_map : {X Y Z : Type 0} (R : X → Z → Type 0) (g : Y → Z) (xs : List X) (ys : List Y) → length xs ≡ length ys →
    ((k : ℕ) (x : X) (y : Y) → slice_get xs k ≡ Some x → slice_get ys k ≡ Some y → R x (g y)) → AllZip R xs (map g ys)
zip_map R g [] [] long each = tt
zip_map R g [] (y ∷ ys) long each = absurd (omega arith)
zip_map R g (x ∷ xs) [] long each = absurd (omega arith)
zip_map R g (x ∷ xs) (y ∷ ys) long each =
    (each zero x y refl refl, zip_map R g xs ys (omega arith) (λ k a b h i. each (suc k) a b h i))

own_kinds : (regs : List Reg) → AllZip (λ (pointer : Bool) (reg : Reg). reg.pointer ≡ pointer) (map (λ (r : Reg). r.pointer) regs) regs
own_kinds [] = tt
own_kinds (r ∷ regs) = (refl, own_kinds regs)

all_map : {X Y : Type 0} (P : Y → Type 0) (g : X → Y) → ((x : X) → P (g x)) → (xs : List X) → All P (map g xs)
all_map P g each xs = All-map P g xs (λ k d h. each (get_or xs k d))

-- there is an item at each place
item_at : {X : Type 0} (xs : List X) (k : ℕ) → k < length xs → (x : X) × (slice_get xs k ≡ Some x)
item_at [] k h = absurd (omega arith)
item_at (x ∷ xs) zero h = (x, refl)
item_at (x ∷ xs) (suc k) h = item_at xs k (omega arith)

module _ (core : Core) (pins : Pins) (code : Code) (is : IsCompiled core pins code) where
  entry_agrees : (f : ℕ) (func : Func) (entry : Entry) → IsEntry core code f func entry → AgreesWith entry (bare_function func)
  entry_agrees f func entry e = record {
    params = sym e.params;
    registers = subst (λ (kinds : List Bool). AllZip (λ (pointer : Bool) (reg : Reg). reg.pointer ≡ pointer) kinds func.regs) (sym e.kinds) (own_kinds func.regs);
    mems = length-map func.mems bare_memory ∙ sym (length-map func.mems (λ (m : Mem). Some m.layout)) ∙ sym (ap (λ (ls : List (Option Layout)). length ls) e.mems) ∙ length-map entry.mems (slice_get code.layouts);
  }

  function_agrees : (f : ℕ) (entry : Entry) (func : Func) → slice_get code.funcs f ≡ Some entry → slice_get core.funcs f ≡ Some func → AgreesWith entry (bare_function func)
  function_agrees f entry func here there =
      let one = is.functions f func there in
      let same : one.0 ≡ entry = cc (one.1, here) in
      subst (λ (e : Entry). AgreesWith e (bare_function func)) same (entry_agrees f func one.0 one.2)

  ends_otherwise : All (λ (s : StaticInit). EndsOtherwise s.bytes) code.statics
  ends_otherwise = λ k d h.
      let static = item_at core.statics k (omega (arith, is.few_statics)) in
      let one = is.statics k static.0 static.1 in
      let same : one.0 ≡ get_or code.statics k d = cc (one.1, slice_get-get_or code.statics k d h) in
      subst (λ (s : StaticInit). EndsOtherwise s.bytes) same one.2.bytes.last

  pub writable : (names : Core) → names ≡ bare core → IsShortCode code → IsShortNames names → IsWritable (record { code = code; names = names })
  writable names named short short_names = record {
    agree = record {
      statics = ap (λ (n : Core). length n.statics) named ∙ length-map core.statics bare_static ∙ sym is.few_statics;
      functions = subst (λ (n : Core). AllZip AgreesWith code.funcs n.funcs) (sym named) (zip_map AgreesWith bare_function code.funcs core.funcs is.few_funcs (λ f entry func here there. function_agrees f entry func here there));
    };
    code = short;
    names = short_names;
    bare_statics = subst (λ (n : Core). All IsBareStatic n.statics) (sym named) (all_map IsBareStatic bare_static (λ s. (refl, refl)) core.statics);
    bare_functions = subst (λ (n : Core). All IsBareFunction n.funcs) (sym named) (all_map IsBareFunction bare_function (λ f. record { mems = all_map IsBareMemory bare_memory (λ m. refl) f.mems; body = refl; formats = refl }) core.funcs);
    ends = ends_otherwise;
  }
