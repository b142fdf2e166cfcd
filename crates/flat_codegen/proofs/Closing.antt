-- What was emitted is the code of the core, and its lists are short.
use Rattle.std.proofs.Common.{◌≡◌, ℕ, ◌+◌, ◌<◌, ◌≤◌, suc, Bool, true, false, cond, List, [], ◌∷◌, Option, Some, None, refl, ap, sym, ◌∙◌, subst, length, map, take, arith}
use Rattle.std.specs.Prelude.{slice_get, All, fold, pos}
use Rattle.std.specs.List.{enumerate_from, flat_map}
use Rattle.std.specs.Option.{option_map}
use Rattle.std.proofs.lemmas.List.{length-map, take_all}
use Rattle.std.proofs.lemmas.Option.{slice_get_within, slice_get-map, slice_get_read, get_or_from_slice_get}
use Rattle.c_types.specs.declared.layouts.Layout.{Layout}
use Rattle.core_tree.specs.declared.program.Core.{Core}
use Rattle.core_tree.specs.declared.program.Func.{Func}
use Rattle.core_tree.specs.declared.program.Mem.{Mem}
use Rattle.core_tree.specs.declared.program.Reg.{Reg}
use Rattle.core_tree.specs.declared.program.Static.{Static}
use Rattle.core_tree.specs.declared.statements.Atom.{Atom}
use Rattle.core_tree.specs.declared.statements.Stm.{Stm}
use Rattle.core_tree.specs.declared.statements.StmKind.{StmKind}
use Rattle.core_tree.specs.declared.statements.StmKind.TheVariants as stm
use Rattle.core_tree.specs.Sorts.{IsTyped, TakesFormat}
use Rattle.core_tree.specs.Sound.{IsSound, EachStatement, HasNumbers, first_main, is_main, main_of}
use Rattle.object_meaning.specs.objects.Meaning.{line_of}
use Rattle.flat_code.specs.declared.instructions.Op.TheVariants as op
use Rattle.flat_code.specs.declared.program.Code.{Code}
use Rattle.flat_code.specs.declared.program.Entry.{Entry}
use Rattle.flat_code.specs.declared.program.StaticInit.{StaticInit}
use Rattle.flat_code.specs.WellFormed.{IsShort, AreShort}
use Rattle.object_meaning.specs.compiled.Handing.{instr}
use Rattle.object_meaning.specs.counted.Pinning.{Pins}
use Rattle.count_insertion.specs.Inserted.{func_pins}
use Rattle.object_meaning.specs.compiled.Compiled.{IsCompiled, IsFormatIn, format_of}
use Rattle.object_meaning.specs.compiled.Sites.{func_sites}
use Rattle.flat_codegen.specs.Emitting.{before_functions, with_instrs, with_function}
use Rattle.flat_codegen.specs.Statics.{AreInits}
use Rattle.flat_codegen.proofs.Gets.{get_within, all_at, same_get}
use Rattle.flat_codegen.proofs.Kept.{HasFormat, extends_same}
use Rattle.flat_codegen.proofs.Wholes.{FuncsSoFar, statics_in, whole_core}

-- a format that a statement takes is there
takes_there : (core : Core) (func : Func) (args : List Atom) (o : Option (List ℕ)) → TakesFormat core func args o → (format : List ℕ) × (o ≡ Some format)
takes_there core func args None h = absurd h
takes_there core func args (Some format) h = (format, refl)

typed_format : (core : Core) (func : Func) (kind : StmKind) → IsTyped core func kind → HasFormat func kind
typed_format core func (stm.Printf r k args) h = takes_there core func args (slice_get func.formats k) h.1
typed_format core func kind h = tt

formats_there : (core : Core) → IsSound core → (f point : ℕ) (func : Func) (stm : Stm) → slice_get core.funcs f ≡ Some func → slice_get func.body point ≡ Some stm → HasFormat func stm.kind
formats_there core sound f point func stm at e = typed_format core func stm.kind ((sound.functions f func at).typed point stm e)

-- code in which the run begins, and that has no function yet
abbrev pub begun : Core → List StaticInit → Code
begun core inits =
    with_instrs (before_functions inits (map (λ (static : Static). static.layout) core.statics)) (line_of (slice_get core.funcs (main_of core))) (instr op.Start 0 0 0 (pos (main_of core)) ∷ [])

-- before the first function
no_functions : (core : Core) (pins : Pins) (listed : pins ≡ map func_pins core.funcs) (sound : IsSound core) (inits : List StaticInit) → FuncsSoFar core pins listed (formats_there core sound) (begun core inits) 0 (begun core inits)
no_functions core pins listed sound inits = record {
  grows = extends_same (begun core inits);
  count = refl;
  next = refl;
  same = refl;
  entries = λ f func b e. absurd (omega arith);
  statements = λ f point func stm b e g. absurd (omega arith);
  layouts = statics_in core;
  formats = λ k d b. absurd (omega arith);
  statics = refl;
  sites = refl;
}

-- the code of all functions is that of the core
is_compiled : (core : Core) (pins : Pins) → pins ≡ map func_pins core.funcs → IsSound core → (inits : List StaticInit) → AreInits core.statics inits → IsCompiled core pins (fold with_function (begun core inits) core.funcs)
is_compiled core pins listed sound inits made =
    let code = fold with_function (begun core inits) core.funcs in
    let h : FuncsSoFar core pins listed (formats_there core sound) (begun core inits) (length core.funcs) code = whole_core core pins listed (formats_there core sound) (begun core inits) (no_functions core pins listed sound inits) in
    let all : take (length core.funcs) core.funcs ≡ core.funcs = take_all (length core.funcs) core.funcs (omega arith) in
    record {
      start = h.grows.instrs 0 _ refl;
      start_line = h.grows.lines 0 _ refl;
      few_funcs = h.count;
      few_statics = ap length h.statics ∙ made.count;
      few_instrs = h.next;
      few_lines = h.same;
      functions = λ f func e. h.entries f func (slice_get_within core.funcs f func e) e;
      statements = λ f point func stm e g. h.statements f point func stm (slice_get_within core.funcs f func e) e g;
      statics = λ k static e.
          let init = made.each k static e in
          let mine : slice_get (map (λ (static : Static). static.layout) core.statics) k ≡ Some static.layout =
          slice_get-map (λ (static : Static). static.layout) core.statics k ∙ ap (option_map (λ (static : Static). static.layout)) e in
          let layout : slice_get code.layouts init.0.layout ≡ Some static.layout = ap (slice_get code.layouts) init.2.layout_is ∙ h.grows.layouts k static.layout mine in
          let there : slice_get code.statics k ≡ Some init.0 = ap (λ (is : List StaticInit). slice_get is k) h.statics ∙ init.1 in
          (init.0, there, record { layout = layout; bytes = init.2.bytes; same_pointers = init.2.same_pointers; by_slots = init.2.by_slots });
      layouts = h.layouts;
      formats = h.formats;
      sites = h.sites ∙ ap (λ (funcs : List Func). flat_map (func_sites core pins) (enumerate_from 0 funcs)) all;
    }

-- the format that a statement writes is one of its function's
format_there : (func : Func) (kind : StmKind) (text : List ℕ) → format_of func kind ≡ Some text → (k : ℕ) × (slice_get func.formats k ≡ Some text)
format_there func (stm.Printf r k args) text e = (k, e)
format_there func kind text e = cc

-- each format is short
short_format : (core : Core) → IsSound core → (text : List ℕ) → IsFormatIn core text → IsShort text
short_format core sound text h =
    let func = h.1 in
    let at : slice_get core.funcs h.0 ≡ Some func = slice_get_read core.funcs (length core.funcs) h.0 func refl h.2 (sym h.3) in
    let stm = h.4.1 in
    let found = format_there func stm.kind text h.4.4 in
    let all = (sound.short h.0 func at).texts in
    subst IsShort (get_or_from_slice_get func.formats found.0 text [] found.1) (all found.0 [] (slice_get_within func.formats found.0 text found.1))

-- and so are all lists
pub are_short : (core : Core) {pins : Pins} → IsSound core → (code : Code) → IsCompiled core pins code → IsShort code.instrs → IsShort code.layouts → IsShort code.formats → AreShort code
are_short core sound code h instrs layouts formats = record {
  instrs = instrs;
  funcs = omega (arith, h.few_funcs, sound.short_funcs);
  registers = λ f entry e.
      let inside : f < length core.funcs = omega (arith, slice_get_within code.funcs f entry e, h.few_funcs) in
      let func = get_within core.funcs f inside in
      let found = h.functions f func.0 func.1 in
      let same : found.0 ≡ entry = same_get code.funcs f f entry found.0 e found.1 refl in
      let short = sound.short f func.0 func.1 in
      let kinds : length found.0.kinds ≡ length func.0.regs = ap length found.2.kinds ∙ length-map func.0.regs (λ (r : Reg). r.pointer) in
      let mems : length found.0.mems ≡ length func.0.mems =
      sym (length-map found.0.mems (slice_get code.layouts)) ∙ ap length found.2.mems ∙ length-map func.0.mems (λ (m : Mem). Some m.layout) in
      let a : IsShort found.0.kinds = omega (arith, kinds, short.regs) in
      let b : IsShort found.0.mems = omega (arith, mems, short.mems) in
      subst (λ (x : Entry). IsShort x.kinds × IsShort x.mems) same (a, b);
  statics = omega (arith, h.few_statics, sound.short_statics);
  layouts = layouts;
  formats = (
    formats,
    all_at IsShort code.formats (λ k text e.
        short_format core sound text (subst (IsFormatIn core) (get_or_from_slice_get code.formats k text text e) (h.formats k text (slice_get_within code.formats k text e)))),
  );
}

-- main is one of the functions, or behind them
pub main_inside : (funcs : List Func) → first_main funcs ≤ length funcs
main_inside [] = omega arith
main_inside (func ∷ funcs) = one_more (is_main func) (first_main funcs) (length funcs) (main_inside funcs)
  where
    one_more : (b : Bool) (n m : ℕ) → n ≤ m → cond b 0 (n + 1) ≤ suc m
    one_more true n m h = omega arith
    one_more false n m h = omega arith

-- the numbers of each statement are in range
pub all_numbers : (core : Core) → IsSound core → All (λ (func : Func). EachStatement func.body (λ point stm. HasNumbers stm.kind)) core.funcs
all_numbers core sound = all_at (λ (func : Func). EachStatement func.body (λ point stm. HasNumbers stm.kind)) core.funcs
    (λ f func at. λ point stm e. (sound.functions f func at).numbers point stm e)

-- the same by the steps of the walk
pub walked : (core : Core) (pins : Pins) → pins ≡ map func_pins core.funcs → IsSound core → (statics : List Static) → statics ≡ core.statics → (funcs : List Func) → funcs ≡ core.funcs → (main : ℕ) → main ≡ main_of core →
    (inits : List StaticInit) → AreInits statics inits → (layouts : List Layout) → layouts ≡ map (λ (static : Static). static.layout) core.statics →
    (line : ℕ) → line ≡ line_of (slice_get core.funcs main) →
    (first next last : Code) → first ≡ before_functions inits layouts → next ≡ with_instrs first line (instr op.Start 0 0 0 (pos main) ∷ []) → last ≡ fold with_function next funcs → IsCompiled core pins last
walked core pins listed sound statics s funcs fs main m inits made layouts l line ln first next last a b c =
    let begins : next ≡ begun core inits =
    b ∙ (λ i. with_instrs (a i) (ln i) (instr op.Start 0 0 0 (pos main) ∷ []))
    ∙ (λ i. with_instrs (before_functions inits (l i)) (line_of (slice_get core.funcs (m i))) (instr op.Start 0 0 0 (pos (m i)) ∷ [])) in
    let all : last ≡ fold with_function (begun core inits) core.funcs = c ∙ (λ i. fold with_function (begins i) (fs i)) in
    subst (IsCompiled core pins) (sym all) (is_compiled core pins listed sound inits (subst (λ (xs : List Static). AreInits xs inits) s made))
