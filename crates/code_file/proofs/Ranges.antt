-- What is read of a file, and what can be written of one whose numbers are those of their types, are the same.
use Rattle.std.proofs.Common.{◌≡◌, ℕ, List, [], ◌∷◌, Bool, Option, Some, None}
use Rattle.std.specs.Option.{IfSome}
use Rattle.std.specs.List.{All, AllZip}
use Rattle.std.proofs.lemmas.List.Elements.{All-cons, All-head, All-nil, All-tail}
use Rattle.c_types.specs.declared.layouts.Layout.{Layout}
use Rattle.core_tree.specs.declared.program.Func.{Func}
use Rattle.core_tree.specs.declared.program.Mem.{Mem}
use Rattle.core_tree.specs.declared.program.Reg.{Reg}
use Rattle.core_tree.specs.declared.program.Static.{Static}
use Rattle.flat_code.specs.declared.instructions.Instr.{Instr}
use Rattle.flat_code.specs.declared.program.Code.{Code}
use Rattle.flat_code.specs.declared.program.Entry.{Entry}
use Rattle.flat_code.specs.declared.program.Site.{Site}
use Rattle.flat_code.specs.declared.program.StaticInit.{StaticInit}
use Rattle.code_file.specs.declared.file.CodeFile.{CodeFile}
use Rattle.code_file.specs.Spelling.{Any, IsByte, IsNumber, IsShort, IsShortList, IsSigned}
use Rattle.code_file.specs.CodeFile.{AgreesWith, EndsOtherwise, IsBareFunction, IsBareMemory, IsBareStatic, IsRanged, IsRangedCode, IsRangedFunction, IsShortCode, IsShortEntry, IsShortFunction, IsShortStatic, IsWritable}
use Rattle.code_file.specs.Parts.{FitsCode, FitsEntry, FitsFile, FitsFunction, FitsInstr, FitsLayout, FitsMemoryName, FitsRegister, FitsSite, FitsStatic, FitsStaticName}

-- Lists

joined : {X : Type 0} (S R F : X → Type 0) → ((x : X) → S x → R x → F x) → (xs : List X) → IsShortList S xs → All R xs → IsShortList F xs
joined S R F both xs short ranged = (short.0, λ k d h. both _ (short.1 k d h) (ranged k d h))

short_of : {X : Type 0} (S F : X → Type 0) → ((x : X) → F x → S x) → (xs : List X) → IsShortList F xs → IsShortList S xs
short_of S F one xs fits = (fits.0, λ k d h. one _ (fits.1 k d h))

ranged_of : {X : Type 0} (R F : X → Type 0) → ((x : X) → F x → R x) → (xs : List X) → IsShortList F xs → All R xs
ranged_of R F one xs fits = λ k d h. one _ (fits.1 k d h)

any_list : {X : Type 0} (xs : List X) → IsShort xs → IsShortList Any xs
any_list xs short = (short, λ k d h. tt)

zip_right : {K X : Type 0} (R : K → X → Type 0) (P : X → Type 0) → ((k : K) (x : X) → R k x → P x) → (ks : List K) (xs : List X) → AllZip R ks xs → All P xs
zip_right R P one [] [] zip = All-nil P
zip_right R P one [] (x ∷ xs) zip = absurd zip
zip_right R P one (k ∷ ks) [] zip = absurd zip
zip_right R P one (k ∷ ks) (x ∷ xs) zip = All-cons P x xs (one k x zip.0) (zip_right R P one ks xs zip.1)

zip_weaker : {K X : Type 0} (R Q : K → X → Type 0) → ((k : K) (x : X) → R k x → Q k x) → (ks : List K) (xs : List X) → AllZip R ks xs → AllZip Q ks xs
zip_weaker R Q one [] [] zip = tt
zip_weaker R Q one [] (x ∷ xs) zip = absurd zip
zip_weaker R Q one (k ∷ ks) [] zip = absurd zip
zip_weaker R Q one (k ∷ ks) (x ∷ xs) zip = (one k x zip.0, zip_weaker R Q one ks xs zip.1)

zip_joined : {K X : Type 0} (R Q : K → X → Type 0) (P : X → Type 0) → ((k : K) (x : X) → R k x → P x → Q k x) → (ks : List K) (xs : List X) → AllZip R ks xs → All P xs → AllZip Q ks xs
zip_joined R Q P one [] [] zip all = tt
zip_joined R Q P one [] (x ∷ xs) zip all = absurd zip
zip_joined R Q P one (k ∷ ks) [] zip all = absurd zip
zip_joined R Q P one (k ∷ ks) (x ∷ xs) zip all = (one k x zip.0 (All-head P x xs all), zip_joined R Q P one ks xs zip.1 (All-tail P x xs all))

-- Names

name_fits : (o : Option (List ℕ)) → IfSome o IsShort → IfSome o (All IsByte) → IfSome o (IsShortList IsByte)
name_fits None short ranged = tt
name_fits (Some name) short ranged = (short, ranged)

name_short : (o : Option (List ℕ)) → IfSome o (IsShortList IsByte) → IfSome o IsShort
name_short None fits = tt
name_short (Some name) fits = fits.0

name_ranged : (o : Option (List ℕ)) → IfSome o (IsShortList IsByte) → IfSome o (All IsByte)
name_ranged None fits = tt
name_ranged (Some name) fits = fits.1

-- Code

code_fits : (code : Code) → IsShortCode code → All (λ (s : StaticInit). EndsOtherwise s.bytes) code.statics → IsRangedCode code → FitsCode code
code_fits code short ends ranged = (
  joined Any (λ (i : Instr). IsNumber i.a × IsNumber i.b × IsNumber i.c × IsSigned i.imm) FitsInstr (λ i s r. (tt, (r.0, (r.1, (r.2, r.3))))) code.instrs (any_list code.instrs short.instrs) ranged.instrs,
  (
    joined IsShortEntry (λ (e : Entry). IsNumber e.first × IsNumber e.params × All IsNumber e.mems) FitsEntry (λ e s r. (r.0, (r.1, (any_list e.kinds s.0, (s.1, r.2))))) code.funcs short.funcs ranged.funcs,
    (
      joined (λ (s : StaticInit). IsShortStatic s × EndsOtherwise s.bytes)
          (λ (s : StaticInit). IsNumber s.layout × All IsByte s.bytes × All (λ (p : ℕ × ℕ × ℕ). IsNumber p.0 × IsNumber p.1 × IsNumber p.2) s.pointers) FitsStatic
          (λ s h r. ((r.0, ((h.0.0, r.1), (h.0.1, λ k d i. let q = r.2 k d i in (q.0, (q.1, q.2))))), h.1))
          code.statics (short.statics.0, λ k d h. (short.statics.1 k d h, ends k d h)) ranged.statics,
      (
        joined (λ (l : Layout). IsShort l.slots) (λ (l : Layout). IsNumber l.size × IsNumber l.align × All IsNumber l.slots) FitsLayout (λ l s r. (r.0, (r.1, (s, r.2)))) code.layouts short.layouts ranged.layouts,
        (
          joined (λ (s : Site). IsShort s.pins) (λ (s : Site). IsNumber s.instr × All IsNumber s.pins) FitsSite (λ s h r. (r.0, (h, r.1))) code.sites short.sites ranged.sites,
          (
            (short.lines, ranged.lines),
            joined IsShort (All IsByte) (IsShortList IsByte) (λ f s r. (s, r)) code.formats short.formats ranged.formats,
          ),
        ),
      ),
    ),
  ),
)

code_short : (code : Code) → FitsCode code → IsShortCode code
code_short code fits = record {
  instrs = fits.0.0;
  funcs = short_of IsShortEntry FitsEntry (λ e f. (f.1.1.0.0, f.1.1.1.0)) code.funcs fits.1.0;
  statics = short_of IsShortStatic FitsStatic (λ s f. (f.0.1.0.0, f.0.1.1.0)) code.statics fits.1.1.0;
  layouts = short_of (λ (l : Layout). IsShort l.slots) FitsLayout (λ l f. f.1.1.0) code.layouts fits.1.1.1.0;
  sites = short_of (λ (s : Site). IsShort s.pins) FitsSite (λ s f. f.1.0) code.sites fits.1.1.1.1.0;
  lines = fits.1.1.1.1.1.0.0;
  formats = short_of IsShort (IsShortList IsByte) (λ f h. h.0) code.formats fits.1.1.1.1.1.1;
}

code_ends : (code : Code) → FitsCode code → All (λ (s : StaticInit). EndsOtherwise s.bytes) code.statics
code_ends code fits = ranged_of (λ (s : StaticInit). EndsOtherwise s.bytes) FitsStatic (λ s f. f.1) code.statics fits.1.1.0

code_ranged : (code : Code) → FitsCode code → IsRangedCode code
code_ranged code fits = record {
  instrs = ranged_of (λ (i : Instr). IsNumber i.a × IsNumber i.b × IsNumber i.c × IsSigned i.imm) FitsInstr (λ i f. (f.1.0, f.1.1.0, f.1.1.1.0, f.1.1.1.1)) code.instrs fits.0;
  funcs = ranged_of (λ (e : Entry). IsNumber e.first × IsNumber e.params × All IsNumber e.mems) FitsEntry (λ e f. (f.0, f.1.0, f.1.1.1.1)) code.funcs fits.1.0;
  statics = ranged_of (λ (s : StaticInit). IsNumber s.layout × All IsByte s.bytes × All (λ (p : ℕ × ℕ × ℕ). IsNumber p.0 × IsNumber p.1 × IsNumber p.2) s.pointers) FitsStatic
      (λ s f. (f.0.0, f.0.1.0.1, λ k d h. let q = f.0.1.1.1 k d h in (q.0, q.1.0, q.1.1))) code.statics fits.1.1.0;
  layouts = ranged_of (λ (l : Layout). IsNumber l.size × IsNumber l.align × All IsNumber l.slots) FitsLayout (λ l f. (f.0, f.1.0, f.1.1.1)) code.layouts fits.1.1.1.0;
  sites = ranged_of (λ (s : Site). IsNumber s.instr × All IsNumber s.pins) FitsSite (λ s f. (f.0, f.1.1)) code.sites fits.1.1.1.1.0;
  lines = fits.1.1.1.1.1.0.1;
  formats = ranged_of (All IsByte) (IsShortList IsByte) (λ f h. h.1) code.formats fits.1.1.1.1.1.1;
}

-- Functions

-- all that is known of the names of a function beside its entry
record Bare (f : Func) : Type 0 where
  short : IsShortFunction f
  ranged : IsRangedFunction f
  bare : IsBareFunction f

function_fits : (entry : Entry) (f : Func) → AgreesWith entry f → Bare f → FitsFunction entry f
function_fits entry f agrees is = record {
  name = (is.short.name, is.ranged.name);
  line = is.ranged.line;
  params = agrees.params;
  registers = (
    is.short.registers.0,
    zip_joined (λ (pointer : Bool) (reg : Reg). reg.pointer ≡ pointer) FitsRegister (λ (r : Reg). IfSome r.name IsShort × IfSome r.name (All IsByte))
        (λ pointer r same names. (name_fits r.name names.0 names.1, same)) entry.kinds f.regs agrees.registers (λ k d h. (is.short.registers.1 k d h, is.ranged.registers k d h)),
  );
  mems = joined (λ (m : Mem). IsShort m.name) (λ (m : Mem). All IsByte m.name × IsBareMemory m) FitsMemoryName (λ m s r. ((s, r.0), r.1)) f.mems is.short.mems (λ k d h. (is.ranged.mems k d h, is.bare.mems k d h));
  count = agrees.mems;
  body = is.bare.body;
  formats = is.bare.formats;
}

function_agrees : (entry : Entry) (f : Func) → FitsFunction entry f → AgreesWith entry f
function_agrees entry f fits = record {
  params = fits.params;
  registers = zip_weaker FitsRegister (λ (pointer : Bool) (reg : Reg). reg.pointer ≡ pointer) (λ pointer r h. h.1) entry.kinds f.regs fits.registers.1;
  mems = fits.count;
}

function_short : (entry : Entry) (f : Func) → FitsFunction entry f → IsShortFunction f
function_short entry f fits = record {
  name = fits.name.0;
  registers = (fits.registers.0, zip_right FitsRegister (λ (r : Reg). IfSome r.name IsShort) (λ pointer r h. name_short r.name h.0) entry.kinds f.regs fits.registers.1);
  mems = short_of (λ (m : Mem). IsShort m.name) FitsMemoryName (λ m h. h.0.0) f.mems fits.mems;
}

function_ranged : (entry : Entry) (f : Func) → FitsFunction entry f → IsRangedFunction f
function_ranged entry f fits = record {
  name = fits.name.1;
  line = fits.line;
  registers = zip_right FitsRegister (λ (r : Reg). IfSome r.name (All IsByte)) (λ pointer r h. name_ranged r.name h.0) entry.kinds f.regs fits.registers.1;
  mems = ranged_of (λ (m : Mem). All IsByte m.name) FitsMemoryName (λ m h. h.0.1) f.mems fits.mems;
}

function_bare : (entry : Entry) (f : Func) → FitsFunction entry f → IsBareFunction f
function_bare entry f fits = record {
  mems = ranged_of IsBareMemory FitsMemoryName (λ m h. h.1) f.mems fits.mems;
  body = fits.body;
  formats = fits.formats;
}

-- Files

pub file_fits : (file : CodeFile) → IsWritable file → IsRanged file → FitsFile file
file_fits file writable ranged = record {
  code = code_fits file.code writable.code writable.ends ranged.code;
  names = record {
    statics = joined (λ (s : Static). IfSome s.name IsShort) (λ (s : Static). IfSome s.name (All IsByte) × IsBareStatic s) FitsStaticName
        (λ s short r. (name_fits s.name short r.0, r.1)) file.names.statics writable.names.statics (λ k d h. (ranged.statics k d h, writable.bare_statics k d h));
    count = writable.agree.statics;
    funcs = (
      writable.names.funcs.0,
      zip_joined AgreesWith FitsFunction Bare function_fits file.code.funcs file.names.funcs writable.agree.functions
          (λ k d h. record { short = writable.names.funcs.1 k d h; ranged = ranged.funcs k d h; bare = writable.bare_functions k d h }),
    );
  };
}

pub file_writable : (file : CodeFile) → FitsFile file → IsWritable file
file_writable file fits = record {
  agree = record {
    statics = fits.names.count;
    functions = zip_weaker FitsFunction AgreesWith function_agrees file.code.funcs file.names.funcs fits.names.funcs.1;
  };
  code = code_short file.code fits.code;
  names = record {
    statics = short_of (λ (s : Static). IfSome s.name IsShort) FitsStaticName (λ s f. name_short s.name f.0) file.names.statics fits.names.statics;
    funcs = (fits.names.funcs.0, zip_right FitsFunction IsShortFunction function_short file.code.funcs file.names.funcs fits.names.funcs.1);
  };
  bare_statics = ranged_of IsBareStatic FitsStaticName (λ s f. f.1) file.names.statics fits.names.statics;
  bare_functions = zip_right FitsFunction IsBareFunction function_bare file.code.funcs file.names.funcs fits.names.funcs.1;
  ends = code_ends file.code fits.code;
}

pub file_ranged : (file : CodeFile) → FitsFile file → IsRanged file
file_ranged file fits = record {
  code = code_ranged file.code fits.code;
  statics = ranged_of (λ (s : Static). IfSome s.name (All IsByte)) FitsStaticName (λ s f. name_ranged s.name f.0) file.names.statics fits.names.statics;
  funcs = zip_right FitsFunction IsRangedFunction function_ranged file.code.funcs file.names.funcs fits.names.funcs.1;
}
