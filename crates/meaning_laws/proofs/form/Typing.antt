-- What the statements of a sound core take, give and name, their instructions take, give and name.
use Rattle.meaning_laws.proofs.Words.Core.{Atom, Code, Core, EachAnswer, Entry, Func, GivesResult, GivesTo, HasNumbers, HasRegister, HasResult, Instr, Integer, IsElement, IsElementSize, IsTyped, Layout, NamesWhatIsThere, Op, Sort, StmKind, Takes, TakesAll, TakesCall, TakesFormat, all_there, atom_sort, call_takes, chosen, edges, format_takes, hands, piece_takes, pieces_of, register_sort, scopes_after}
use Rattle.meaning_laws.proofs.Words.Meaning.{Does, IsCompiled, IsEntry, Pins, handed_atoms, instr, place_of, to}
use Rattle.meaning_laws.proofs.Words.Std.{All, All-cons, All-nil, IfSome, IsSome, IsSomeAnd, List, None, Option, Some, [], ap, arith, false, flat_map, ints, length, map, option_map_or, pos, refl, slice_get, subst, sym, take, unwrap_or, ℕ, ℤ, ◌+◌, ◌<◌, ◌∙◌, ◌∷◌, ◌≡◌, ◌≤ℤ◌, ◌≤◌}
use Rattle.core_tree.specs.Sorts.{Pointer}
use Rattle.meaning_laws.proofs.form.Sorts.{register_is, parameters_are, kinds_are}
use Rattle.core_tree.specs.declared.statements.LibName.TheVariants as lib
use Rattle.core_tree.specs.declared.statements.StmKind.TheVariants as stm
use Rattle.core_tree.specs.Statements as statements
use Rattle.core_tree.specs.Sound as sound
use Rattle.flat_code.specs.declared.instructions.Op.TheVariants as op
use Rattle.core_tree.specs.Sorts as core_sorts

-- The instruction that does what a statement does, as a function of the statement and of the number of its layout or format.

-- an operation whose result may be left
abbrev pub chooses : Option ℕ → Op → ℕ → Instr
chooses r o b = instr o (unwrap_or r 0) b (option_map_or (λ _. 1) r 0) (pos 0)

pub chosen_is : (r : Option ℕ) (o : Op) (b : ℕ) → chosen (chooses r o b) ≡ r
chosen_is None o b = refl
chosen_is (Some r) o b = refl

-- n is the number of a layout or a format
abbrev pub doing : (ℕ → ℕ) → StmKind → ℕ → Instr
doing place (stm.Set r a) n = to r op.Set
doing place (stm.Conv k r a) n = to r (op.Conv k)
doing place (stm.Un o k r a) n = to r (op.Un o k)
doing place (stm.Bin o k r a b) n = to r (op.Bin o k)
doing place (stm.Cmp o r a b) n = to r (op.Cmp o)
doing place (stm.Add r p a size) n = instr op.Add r 0 0 size
doing place (stm.Sub r p a size) n = instr op.Sub r 0 0 size
doing place (stm.Off r p c) n = instr op.Add r 0 0 (pos 1)
doing place (stm.Diff r p q size) n = instr op.Diff r 0 0 size
doing place (stm.Pcmp o r p q) n = to r (op.Pcmp o)
doing place (stm.Test r p) n = to r op.Test
doing place (stm.Load k r p) n = to r (op.Load k)
doing place (stm.Loadp r p) n = to r op.Loadp
doing place (stm.Store k p a) n = to 0 (op.Store k)
doing place (stm.Storep p q) n = to 0 op.Storep
doing place (stm.Copy p q m) n = to 0 op.Copy
doing place (stm.Clear p m) n = to 0 op.Clear
doing place (stm.Jump l) n = instr op.Jump 0 (place l) 0 (pos 0)
doing place (stm.Zero a l) n = instr op.Zero 0 (place l) 0 (pos 0)
doing place (stm.Case a v l) n = instr op.Case 0 (place l) 0 (pos 0)
doing place (stm.Loop l) n = instr op.Loop 0 (place l) 0 (pos 0)
doing place (stm.Call g r args) n = chooses r op.Call g
doing place (stm.Malloc r m t) n = instr op.Malloc r n 0 (pos 0)
doing place (stm.Calloc r m k t) n = instr op.Calloc r n 0 (pos 0)
doing place (stm.Realloc r p m t) n = instr op.Realloc r n 0 (pos 0)
doing place (stm.Free p) n = to 0 op.Free
doing place (stm.Lib name r args) n = chooses r (op.Lib name) 0
doing place (stm.Printf r format args) n = instr op.Printf r n 0 (pos 0)
doing place stm.Enter n = to 0 op.Enter
doing place stm.Leave n = to 0 op.Leave
doing place (stm.Return None) n = to 0 op.Return
doing place (stm.Return (Some a)) n = to 0 op.Give

-- the number is that of the statement's layout or format
abbrev pub Numbers : Code → Func → StmKind → ℕ → Type 0
Numbers code func (stm.Malloc r m t) n = slice_get code.layouts n ≡ Some t
Numbers code func (stm.Calloc r m k t) n = slice_get code.layouts n ≡ Some t
Numbers code func (stm.Realloc r p m t) n = slice_get code.layouts n ≡ Some t
Numbers code func (stm.Printf r format args) n = slice_get code.formats n ≡ slice_get func.formats format
Numbers code func kind n = Unit {0}

pub as_doing : (core : Core) (code : Code) (f : ℕ) (func : Func) (kind : StmKind) (i : Instr) → Does core code f func kind i → (n : ℕ) × (i ≡ doing (place_of core f func.body) kind n) × Numbers code func kind n
as_doing core code f func (stm.Malloc r m t) i h = h
as_doing core code f func (stm.Calloc r m k t) i h = h
as_doing core code f func (stm.Realloc r p m t) i h = h
as_doing core code f func (stm.Printf r format args) i h = h
as_doing core code f func (stm.Call g None args) i h = (0, h, tt)
as_doing core code f func (stm.Call g (Some r) args) i h = (0, h, tt)
as_doing core code f func (stm.Lib name None args) i h = (0, h, tt)
as_doing core code f func (stm.Lib name (Some r) args) i h = (0, h, tt)
as_doing core code f func (stm.Return None) i h = (0, h, tt)
as_doing core code f func (stm.Return (Some a)) i h = (0, h, tt)
as_doing core code f func kind i h = (0, h, tt)

pub does_not_hand : (place : ℕ → ℕ) (kind : StmKind) (n : ℕ) → hands (doing place kind n).op ≡ false
does_not_hand place (stm.Return None) n = refl
does_not_hand place (stm.Return (Some a)) n = refl
does_not_hand place (stm.Set r a) n = refl
does_not_hand place kind n = refl

pub same_scopes : (place : ℕ → ℕ) (kind : StmKind) (n scopes : ℕ) → scopes_after (doing place kind n).op scopes ≡ sound.scopes_after kind scopes
same_scopes place stm.Enter n scopes = refl
same_scopes place stm.Leave n scopes = refl
same_scopes place (stm.Return None) n scopes = refl
same_scopes place (stm.Return (Some a)) n scopes = refl
same_scopes place kind n scopes = refl

-- the run goes on to the places of the points to which it goes in the core
pub same_edges : (place : ℕ → ℕ) (kind : StmKind) (n point at : ℕ) → place (point + 1) ≡ at + 1 → edges (doing place kind n) (doing place kind n).op at ≡ map place (statements.edges kind point)
same_edges place (stm.Jump l) n point at e = refl
same_edges place (stm.Zero a l) n point at e = ap (λ next. next ∷ place l ∷ []) (omega arith)
same_edges place (stm.Case a v l) n point at e = ap (λ next. next ∷ place l ∷ []) (omega arith)
same_edges place (stm.Loop l) n point at e = refl
same_edges place (stm.Return None) n point at e = refl
same_edges place (stm.Return (Some a)) n point at e = refl
same_edges place (stm.Lib lib.Exit r args) n point at e = refl
same_edges place (stm.Lib lib.Abort r args) n point at e = refl
same_edges place (stm.Lib name r args) n point at e = ap (λ next. next ∷ []) (omega arith)
same_edges place kind n point at e = ap (λ next. next ∷ []) (omega arith)

-- What the statements of a sound core take, give and name, their instructions take, give and name.

one : {X : Type 0} {x y : X} → x ≡ y → ◌≡◌ {A = List X} (x ∷ []) (y ∷ [])
one {X} e = ap (λ (x : X). x ∷ []) e

two : {X : Type 0} {a b x y : X} → a ≡ x → b ≡ y → ◌≡◌ {A = List X} (a ∷ b ∷ []) (x ∷ y ∷ [])
two {X} {a} {b} {x} {y} e h = ap (λ (z : X). z ∷ b ∷ []) e ∙ ap (λ (z : X). x ∷ z ∷ []) h

three : {X : Type 0} {a b c x y z : X} → a ≡ x → b ≡ y → c ≡ z → ◌≡◌ {A = List X} (a ∷ b ∷ c ∷ []) (x ∷ y ∷ z ∷ [])
three {X} {a} {b} {c} {x} {y} {z} e h g = ap (λ (w : X). w ∷ b ∷ c ∷ []) e ∙ ap (λ (ws : List X). x ∷ ws) (two h g)

pub is_there : {X : Type 0} (o : Option X) (x : X) → o ≡ Some x → IsSome o
is_there o x h = rw h refl

-- Operands are there

module _ (core : Core) (func : Func) where
  abbrev There : Atom → Type 0
  There a = IsSome (atom_sort core func a)

  none_there : All There []
  none_there = All-nil There

  there : (a : Atom) (sort : Sort) → atom_sort core func a ≡ Some sort → There a
  there a sort h = is_there (atom_sort core func a) sort h

  one_there : (a : Atom) (sort : Sort) → atom_sort core func a ≡ Some sort → All There (a ∷ [])
  one_there a sort h = All-cons There a [] (there a sort h) none_there

  two_there : (a b : Atom) (x y : Sort) → atom_sort core func a ≡ Some x → atom_sort core func b ≡ Some y → All There (a ∷ b ∷ [])
  two_there a b x y h g = All-cons There a (b ∷ []) (there a x h) (one_there b y g)

  three_there : (a b c : Atom) (x y z : Sort) → atom_sort core func a ≡ Some x → atom_sort core func b ≡ Some y → atom_sort core func c ≡ Some z → All There (a ∷ b ∷ c ∷ [])
  three_there a b c x y z h g f = All-cons There a (b ∷ c ∷ []) (there a x h) (two_there b c y z g f)

  all_of : (sorts : List Sort) (args : List Atom) → TakesAll core func sorts args → All There args
  all_of sorts [] h = none_there
  all_of [] (a ∷ args) h = absurd (cc)
  all_of (sort ∷ sorts) (a ∷ args) h = All-cons There a args (there a sort (cc)) (all_of sorts args (cc))

  all_of_call : (args : List Atom) (callee : Option Func) → TakesCall core func args callee → All There args
  all_of_call args None h = absurd h
  all_of_call args (Some callee) h = all_of (map core_sorts.sort_of (take callee.params callee.regs)) args h

  all_of_format : (args : List Atom) (format : Option (List ℕ)) → TakesFormat core func args format → All There args
  all_of_format args None h = absurd h
  all_of_format args (Some format) h = all_of (flat_map piece_takes (pieces_of format)) args h.1

  pub atoms_there : (kind : StmKind) → IsTyped core func kind → All There (handed_atoms kind)
  atoms_there (stm.Set r a) h = one_there a h.0 h.2
  atoms_there (stm.Conv k r a) h = one_there a Integer h.1
  atoms_there (stm.Un o k r a) h = one_there a Integer h.1
  atoms_there (stm.Bin o k r a b) h = two_there a b Integer Integer h.1 h.2
  atoms_there (stm.Cmp o r a b) h = two_there a b Integer Integer h.1 h.2
  atoms_there (stm.Add r p a size) h = two_there p a Pointer Integer h.1 h.2
  atoms_there (stm.Sub r p a size) h = two_there p a Pointer Integer h.1 h.2
  atoms_there (stm.Off r p c) h = two_there p _ Pointer Integer h.1 refl
  atoms_there (stm.Diff r p q size) h = two_there p q Pointer Pointer h.1 h.2
  atoms_there (stm.Pcmp o r p q) h = two_there p q Pointer Pointer h.1 h.2
  atoms_there (stm.Test r p) h = one_there p Pointer h.1
  atoms_there (stm.Load k r p) h = one_there p Pointer h.1
  atoms_there (stm.Loadp r p) h = one_there p Pointer h.1
  atoms_there (stm.Store k p a) h = two_there p a Pointer Integer h.0 h.1
  atoms_there (stm.Storep p q) h = two_there p q Pointer Pointer h.0 h.1
  atoms_there (stm.Copy p q n) h = three_there p q _ Pointer Pointer Integer h.0 h.1 refl
  atoms_there (stm.Clear p n) h = two_there p _ Pointer Integer h refl
  atoms_there (stm.Zero a l) h = one_there a Integer h
  atoms_there (stm.Case a v l) h = two_there a _ Integer Integer h refl
  atoms_there (stm.Call g r args) h = all_of_call args (slice_get core.funcs g) h.1
  atoms_there (stm.Malloc r n t) h = one_there n Integer h.1
  atoms_there (stm.Calloc r m n t) h = two_there m n Integer Integer h.1 h.2
  atoms_there (stm.Realloc r p n t) h = two_there p n Pointer Integer h.1 h.2
  atoms_there (stm.Free p) h = one_there p Pointer h
  atoms_there (stm.Lib name r args) h = all_of (core_sorts.lib_takes name) args h.1
  atoms_there (stm.Printf r format args) h = all_of_format args (slice_get func.formats format) h.1
  atoms_there (stm.Return (Some a)) h = one_there a h.0 h.1
  atoms_there kind h = none_there

module _ (core : Core) {pins : Pins} (code : Code) (is : IsCompiled core pins code) (f : ℕ) (func : Func) (entry : Entry) (e : IsEntry core code f func entry) where
  -- What is taken

  call_is_taken : (g : ℕ) (args : List Atom) (callee : Option Func) → slice_get core.funcs g ≡ callee → TakesCall core func args callee → map (atom_sort core func) args ≡ all_there (call_takes (slice_get code.funcs g))
  call_is_taken g args None same h = absurd h
  call_is_taken g args (Some callee) same h =
      let there = is.functions g callee same in
      h ∙ ap all_there (sym (parameters_are core code is g callee there.0 there.2)) ∙ ap (λ o. all_there (call_takes o)) (sym there.1)

  format_is_taken : (args : List Atom) (format there : Option (List ℕ)) → there ≡ format → TakesFormat core func args format → map (atom_sort core func) args ≡ all_there (format_takes there)
  format_is_taken args None there same h = absurd h
  format_is_taken args (Some format) there same h = h.1 ∙ ap (λ o. all_there (format_takes o)) (sym same)

  register : (r : ℕ) (sort : Sort) → core_sorts.Gives func sort r → register_sort entry r ≡ Some sort
  register r sort h = register_is core code is f func entry e r ∙ h

  pub takes_its_operands : (place : ℕ → ℕ) (kind : StmKind) (n : ℕ) → IsTyped core func kind → Numbers code func kind n → Takes code entry (doing place kind n) (doing place kind n).op (map (atom_sort core func) (handed_atoms kind))
  takes_its_operands place (stm.Set r a) n h m = one (h.2 ∙ sym (register r h.0 h.1))
  takes_its_operands place (stm.Conv k r a) n h m = one h.1
  takes_its_operands place (stm.Un o k r a) n h m = one h.1
  takes_its_operands place (stm.Bin o k r a b) n h m = two h.1 h.2
  takes_its_operands place (stm.Cmp o r a b) n h m = two h.1 h.2
  takes_its_operands place (stm.Add r p a size) n h m = two h.1 h.2
  takes_its_operands place (stm.Sub r p a size) n h m = two h.1 h.2
  takes_its_operands place (stm.Off r p c) n h m = two h.1 refl
  takes_its_operands place (stm.Diff r p q size) n h m = two h.1 h.2
  takes_its_operands place (stm.Pcmp o r p q) n h m = two h.1 h.2
  takes_its_operands place (stm.Test r p) n h m = one h.1
  takes_its_operands place (stm.Load k r p) n h m = one h.1
  takes_its_operands place (stm.Loadp r p) n h m = one h.1
  takes_its_operands place (stm.Store k p a) n h m = two h.0 h.1
  takes_its_operands place (stm.Storep p q) n h m = two h.0 h.1
  takes_its_operands place (stm.Copy p q k) n h m = three h.0 h.1 refl
  takes_its_operands place (stm.Clear p k) n h m = two h refl
  takes_its_operands place (stm.Zero a l) n h m = one h
  takes_its_operands place (stm.Case a v l) n h m = two h refl
  takes_its_operands place (stm.Call g r args) n h m = call_is_taken g args (slice_get core.funcs g) refl h.1
  takes_its_operands place (stm.Malloc r k t) n h m = one h.1
  takes_its_operands place (stm.Calloc r k l t) n h m = two h.1 h.2
  takes_its_operands place (stm.Realloc r p k t) n h m = two h.1 h.2
  takes_its_operands place (stm.Free p) n h m = one h
  takes_its_operands place (stm.Lib name r args) n h m = h.1
  takes_its_operands place (stm.Printf r format args) n h m =
      format_is_taken args (slice_get func.formats format) (slice_get code.formats n) m h.1
  takes_its_operands place (stm.Return (Some a)) n h m = (h.0, one h.1)
  takes_its_operands place kind n h m = refl

  -- What is given

  own_result : (r : ℕ) (sort : Sort) → core_sorts.Gives func sort r → GivesTo entry (register_sort entry r) (Some r)
  own_result r sort h =
      let there = register r sort h in subst (λ o. GivesTo entry o (Some r)) (sym there) there

  pub given : (result : Option Sort) (r : Option ℕ) → GivesResult func result r → GivesTo entry result r
  given None None h = tt
  given (Some sort) None h = tt
  given None (Some r) h = h
  given (Some sort) (Some r) h = register r sort h

  has_register : (r : Option ℕ) → HasRegister func r → IfSome r (λ k. k < length entry.kinds)
  has_register None h = tt
  has_register (Some r) h = omega (arith, h, kinds_are core code is f func entry e)

  -- the answers of a call go to its register, where each return of its function has what the register takes
  abbrev pub Answered : StmKind → Type 0
  Answered (stm.Call g r args) = EachAnswer code g (λ answer. GivesTo entry answer r)
  Answered kind = Unit {0}

  call_result : (g : ℕ) (r : Option ℕ) → HasRegister func r → EachAnswer code g (λ answer. GivesTo entry answer r) → HasResult code entry (chooses r op.Call g) op.Call
  call_result g r h answers =
      subst (λ (o : Option ℕ). IfSome o (λ k. k < length entry.kinds) × EachAnswer code g (λ answer. GivesTo entry answer o)) (sym (chosen_is r op.Call g)) (has_register r h, answers)

  pub gives_its_result : (place : ℕ → ℕ) (kind : StmKind) (n : ℕ) → IsTyped core func kind → Answered kind → HasResult code entry (doing place kind n) (doing place kind n).op
  gives_its_result place (stm.Set r a) n h m = own_result r h.0 h.1
  gives_its_result place (stm.Conv k r a) n h m = register r Integer h.0
  gives_its_result place (stm.Un o k r a) n h m = register r Integer h.0
  gives_its_result place (stm.Bin o k r a b) n h m = register r Integer h.0
  gives_its_result place (stm.Cmp o r a b) n h m = register r Integer h.0
  gives_its_result place (stm.Add r p a size) n h m = register r Pointer h.0
  gives_its_result place (stm.Sub r p a size) n h m = register r Pointer h.0
  gives_its_result place (stm.Off r p c) n h m = register r Pointer h.0
  gives_its_result place (stm.Diff r p q size) n h m = register r Integer h.0
  gives_its_result place (stm.Pcmp o r p q) n h m = register r Integer h.0
  gives_its_result place (stm.Test r p) n h m = register r Integer h.0
  gives_its_result place (stm.Load k r p) n h m = register r Integer h.0
  gives_its_result place (stm.Loadp r p) n h m = register r Pointer h.0
  gives_its_result place (stm.Call g r args) n h m = call_result g r h.0 m
  gives_its_result place (stm.Malloc r k t) n h m = register r Pointer h.0
  gives_its_result place (stm.Calloc r k l t) n h m = register r Pointer h.0
  gives_its_result place (stm.Realloc r p k t) n h m = register r Pointer h.0
  gives_its_result place (stm.Lib name r args) n h m =
      subst (λ o. GivesTo entry (core_sorts.lib_gives name) o) (sym (chosen_is r (op.Lib name) 0)) (given (core_sorts.lib_gives name) r h.0)
  gives_its_result place (stm.Printf r format args) n h m = register r Integer h.0
  gives_its_result place (stm.Return None) n h m = tt
  gives_its_result place kind n h m = tt

  -- What is named

  size_of : (size : ℤ) (sizes : List ℤ) → All (λ s. (pos 1 ≤ℤ s) × (s ≤ℤ pos 268435456)) (size ∷ sizes) → IsElementSize size
  size_of size sizes h = h 0 size (omega arith)

  element_of : (n : ℕ) (t : Layout) → slice_get code.layouts n ≡ Some t → All (λ s. (pos 1 ≤ℤ s) × (s ≤ℤ pos 268435456)) (pos t.size ∷ []) → IsElement code n
  element_of n t m h =
      let sized = size_of (pos t.size) [] h in
      let large : 1 ≤ t.size = omega (arith, ints, sized.0) in
      subst (λ (o : Option Layout). IsSomeAnd o (λ (l : Layout). 1 ≤ l.size)) (sym m) large

  callee_there : (g : ℕ) (args : List Atom) (callee : Option Func) → slice_get core.funcs g ≡ callee → TakesCall core func args callee → IsSome (slice_get code.funcs g)
  callee_there g args None same h = absurd h
  callee_there g args (Some callee) same h =
      let there = is.functions g callee same in is_there (slice_get code.funcs g) there.0 there.1

  format_there : (args : List Atom) (format there : Option (List ℕ)) → there ≡ format → TakesFormat core func args format → IsSome there
  format_there args None there same h = absurd h
  format_there args (Some format) there same h = is_there there format same

  pub names_what_is_there : (place : ℕ → ℕ) (kind : StmKind) (n : ℕ) → IsTyped core func kind → HasNumbers kind → Numbers code func kind n → NamesWhatIsThere code (doing place kind n) (doing place kind n).op
  names_what_is_there place (stm.Add r p a size) n h s m = size_of size [] s.sizes
  names_what_is_there place (stm.Sub r p a size) n h s m = size_of size [] s.sizes
  names_what_is_there place (stm.Off r p c) n h s m = (omega (arith, ints), omega (arith, ints))
  names_what_is_there place (stm.Diff r p q size) n h s m = size_of size [] s.sizes
  names_what_is_there place (stm.Call g r args) n h s m = callee_there g args (slice_get core.funcs g) refl h.1
  names_what_is_there place (stm.Malloc r k t) n h s m = element_of n t m s.sizes
  names_what_is_there place (stm.Calloc r k l t) n h s m = element_of n t m s.sizes
  names_what_is_there place (stm.Realloc r p k t) n h s m = element_of n t m s.sizes
  names_what_is_there place (stm.Printf r format args) n h s m =
      format_there args (slice_get func.formats format) (slice_get code.formats n) m h.1
  names_what_is_there place (stm.Return None) n h s m = tt
  names_what_is_there place (stm.Return (Some a)) n h s m = tt
  names_what_is_there place kind n h s m = tt
