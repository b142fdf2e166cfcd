-- What was said of code that grows at its end stays true.
use Rattle.std.proofs.Common.{◌≡◌, ℕ, List, [], ◌∷◌, Option, Some, None, refl, sym, ◌∙◌, map}
use Rattle.std.specs.Prelude.{slice_get}
use Rattle.core_tree.specs.declared.program.Core.{Core}
use Rattle.core_tree.specs.declared.program.Func.{Func}
use Rattle.core_tree.specs.declared.program.Mem.{Mem}
use Rattle.core_tree.specs.declared.statements.Stm.{Stm}
use Rattle.core_tree.specs.declared.statements.StmKind.{StmKind}
use Rattle.core_tree.specs.declared.statements.StmKind.TheVariants as stm
use Rattle.flat_code.specs.declared.instructions.Instr.{Instr}
use Rattle.flat_code.specs.declared.program.Code.{Code}
use Rattle.flat_code.specs.declared.program.Entry.{Entry}
use Rattle.object_meaning.specs.compiled.Doing.{Does}
use Rattle.object_meaning.specs.compiled.Compiled.{IsStatement, IsEntry}

-- each element stays where it is
abbrev pub Grows : {X : Type 0} → List X → List X → Type 0
Grows {X} xs ys = (k : ℕ) (x : X) → slice_get xs k ≡ Some x → slice_get ys k ≡ Some x

-- code that has grown
pub record Extends (old new : Code) : Type 0 where
  pub instrs : Grows old.instrs new.instrs
  pub lines : Grows old.lines new.lines
  pub funcs : Grows old.funcs new.funcs
  pub layouts : Grows old.layouts new.layouts
  pub formats : Grows old.formats new.formats

-- code extends itself, and what it extends
pub extends_same : (code : Code) → Extends code code
extends_same code = record { instrs = λ k x e. e; lines = λ k x e. e; funcs = λ k x e. e; layouts = λ k x e. e; formats = λ k x e. e }

pub extends_twice : (a b c : Code) → Extends a b → Extends b c → Extends a c
extends_twice a b c h g = record {
  instrs = λ k x e. g.instrs k x (h.instrs k x e);
  lines = λ k x e. g.lines k x (h.lines k x e);
  funcs = λ k x e. g.funcs k x (h.funcs k x e);
  layouts = λ k x e. g.layouts k x (h.layouts k x e);
  formats = λ k x e. g.formats k x (h.formats k x e);
}

-- the format that a statement writes is there
abbrev pub HasFormat : Func → StmKind → Type 0
HasFormat func (stm.Printf r k args) = (format : List ℕ) × (slice_get func.formats k ≡ Some format)
HasFormat func kind = Unit {0}

-- a format by its number
keeps_format : (old new : Code) → Extends old new → (o : Option (List ℕ)) (format : List ℕ) → o ≡ Some format → (n : ℕ) → slice_get old.formats n ≡ o → slice_get new.formats n ≡ o
keeps_format old new h o format e n g = h.formats n format (g ∙ e) ∙ sym e

-- what an instruction does
pub keeps_does : (core : Core) (old new : Code) (f : ℕ) (func : Func) → Extends old new → (kind : StmKind) (i : Instr) → HasFormat func kind → Does core old f func kind i → Does core new f func kind i
keeps_does core old new f func h (stm.Malloc r n t) i s d = (d.0, d.1, h.layouts d.0 t d.2)
keeps_does core old new f func h (stm.Calloc r m n t) i s d = (d.0, d.1, h.layouts d.0 t d.2)
keeps_does core old new f func h (stm.Realloc r p n t) i s d = (d.0, d.1, h.layouts d.0 t d.2)
keeps_does core old new f func h (stm.Printf r k args) i s d = (d.0, d.1, keeps_format old new h (slice_get func.formats k) s.0 s.1 d.0 d.2)
keeps_does core old new f func h (stm.Return None) i s d = d
keeps_does core old new f func h (stm.Return (Some a)) i s d = d
keeps_does core old new f func h kind i s d = d

-- a statement that stands
pub keeps_statement : (core : Core) (old new : Code) (f : ℕ) (func : Func) (place : ℕ) (stm : Stm) → Extends old new → HasFormat func stm.kind →
    IsStatement core old f func place stm → IsStatement core new f func place stm
keeps_statement core old new f func place stm h s t = record {
  hands = λ k a e. h.instrs _ _ (t.hands k a e);
  does = (t.does.0, h.instrs _ _ t.does.1, keeps_does core old new f func h stm.kind t.does.0 s t.does.2);
  lines = λ k b. h.lines _ _ (t.lines k b);
}

-- layouts by their numbers
keeps_layouts : (old new : Code) → Extends old new → (ns : List ℕ) (mems : List Mem) →
    map (slice_get old.layouts) ns ≡ map (λ (m : Mem). Some m.layout) mems → map (slice_get new.layouts) ns ≡ map (λ (m : Mem). Some m.layout) mems
keeps_layouts old new h [] [] e = refl
keeps_layouts old new h [] (m ∷ mems) e = cc
keeps_layouts old new h (n ∷ ns) [] e = cc
keeps_layouts old new h (n ∷ ns) (m ∷ mems) e =
    let first : slice_get old.layouts n ≡ Some m.layout = cc in
    let more : map (slice_get old.layouts) ns ≡ map (λ (m : Mem). Some m.layout) mems = cc in
    let a : slice_get new.layouts n ≡ Some m.layout = h.layouts n m.layout first in
    let b : map (slice_get new.layouts) ns ≡ map (λ (m : Mem). Some m.layout) mems = keeps_layouts old new h ns mems more in
    λ i. a i ∷ b i

-- the entry of a function
pub keeps_entry : (core : Core) (old new : Code) (f : ℕ) (func : Func) (entry : Entry) → Extends old new → IsEntry core old f func entry → IsEntry core new f func entry
keeps_entry core old new f func entry h e = record {
  first = e.first;
  params = e.params;
  kinds = e.kinds;
  mems = keeps_layouts old new h entry.mems func.mems e.mems;
}
