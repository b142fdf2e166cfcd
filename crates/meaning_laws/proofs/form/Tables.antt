-- The layouts, the formats and the lines of the code of a sound core.
use Rattle.meaning_laws.proofs.Words.Core.{Atom, Code, Core, Func, IsFormat, IsLayout, IsLayoutOfType, IsShort, IsSound, IsTyped, Layout, Mem, Static, Stm, StmKind, TakesFormat, element_layouts, main_of, pieces_of}
use Rattle.meaning_laws.proofs.Words.Meaning.{IsCompiled, IsFormatIn, IsLayoutIn, Pins, format_of, line_of}
use Rattle.meaning_laws.proofs.Words.Std.{All, All-contains, All-weaker, Any, Contains, List, None, Option, Some, ap, arith, cases_lt, get_or_from_slice_get, length, slice_get, slice_get-get_or, subst, sym, ℕ, ⊎_elim, ◌<◌, ◌∙◌, ◌≡◌, ◌≤◌, ◌⊎◌}
use Rattle.c_types.specs.Layouts.{IsSound as IsSoundLayout}
use Rattle.core_tree.specs.declared.statements.StmKind.TheVariants as stm
use Rattle.core_tree.specs.Sound.{IsStatic}
use Rattle.meaning_laws.proofs.form.Functions.{main_func}
use Rattle.meaning_laws.proofs.form.Places.{first_more, in_function, InStatement, in_statement}
use Rattle.meaning_laws.proofs.soundness.Lists.{all_at}

-- some element of a list, with its place
pub found_at : {X : Type 0} (P : X → Type 0) (xs : List X) → Any P xs → (k : ℕ) × (x : X) × (slice_get xs k ≡ Some x) × P x
found_at P xs h = (h.0, h.1, slice_get-get_or xs h.0 h.1 h.2 ∙ ap (λ x. Some x) h.3, h.4)

module _ (core : Core) {pins : Pins} (code : Code) (sound : IsSound core) (is : IsCompiled core pins code) where
  -- Layouts

  static_type : (layout : Layout) → Any (λ (static : Static). static.layout ≡ layout) core.statics → IsLayoutOfType layout
  static_type layout h =
      let w = found_at (λ (static : Static). static.layout ≡ layout) core.statics h in
      subst IsLayoutOfType w.3 (all_at (IsStatic core) core.statics w.0 w.1 sound.statics w.2).layout

  mem_type : (f : ℕ) (func : Func) → slice_get core.funcs f ≡ Some func → (layout : Layout) → Any (λ (mem : Mem). mem.layout ≡ layout) func.mems → IsLayoutOfType layout
  mem_type f func here layout h =
      let w = found_at (λ (mem : Mem). mem.layout ≡ layout) func.mems h in
      subst IsLayoutOfType w.3 (all_at (λ (mem : Mem). IsLayoutOfType mem.layout) func.mems w.0 w.1 (sound.functions f func here).mems w.2)

  element_type : (f : ℕ) (func : Func) → slice_get core.funcs f ≡ Some func → (layout : Layout) → Any (λ (stm : Stm). Contains (element_layouts stm.kind) layout) func.body → IsLayoutOfType layout
  element_type f func here layout h =
      let w = found_at (λ (stm : Stm). Contains (element_layouts stm.kind) layout) func.body h in
      All-contains IsLayoutOfType (element_layouts w.1.kind) layout ((sound.functions f func here).elements w.0 w.1 w.2) w.3

  abbrev InFunc : Layout → Func → Type 0
  InFunc layout func =
      Any (λ (mem : Mem). mem.layout ≡ layout) func.mems ⊎ Any (λ (stm : Stm). Contains (element_layouts stm.kind) layout) func.body

  func_type : (layout : Layout) → Any (InFunc layout) core.funcs → IsLayoutOfType layout
  func_type layout h =
      let w = found_at (InFunc layout) core.funcs h in ⊎_elim (mem_type w.0 w.1 w.2 layout) (element_type w.0 w.1 w.2 layout) w.3

  layout_type : (layout : Layout) → IsLayoutIn core layout → IsLayoutOfType layout
  layout_type layout h = ⊎_elim (static_type layout) (func_type layout) h

  pub layouts_are : ((l : Layout) → IsLayoutOfType l → IsSoundLayout l) → ((l : Layout) → IsLayoutOfType l → l.size ≤ 268435456) → All IsLayout code.layouts
  layouts_are sound_layout small_layout =
      All-weaker (IsLayoutIn core) IsLayout
      (λ layout h.
      let type = layout_type layout h in
      let kept = sound_layout layout type in
      record { size = small_layout layout type; sound = kept })
      code.layouts is.layouts

  -- Formats

  typed_format : (func : Func) (args : List Atom) (written : Option (List ℕ)) (format : List ℕ) → TakesFormat core func args written → written ≡ Some format → IsFormat format (pieces_of format)
  typed_format func args None format h same = absurd h
  typed_format func args (Some written) format h same =
      let e : written ≡ format = cc in subst (λ (x : List ℕ). IsFormat x (pieces_of x)) e h.0

  statement_format : (func : Func) (kind : StmKind) (format : List ℕ) → IsTyped core func kind → format_of func kind ≡ Some format → IsFormat format (pieces_of format)
  statement_format func (stm.Printf r k args) format h same =
      typed_format func args (slice_get func.formats k) format h.1 same
  statement_format func kind format h same = absurd (cc)

  short_format : (func : Func) (kind : StmKind) (format : List ℕ) → All IsShort func.formats → format_of func kind ≡ Some format → IsShort format
  short_format func (stm.Printf r k args) format h same = all_at IsShort func.formats k format h same
  short_format func kind format h same = absurd (cc)

  abbrev Writes : List ℕ → Func → Type 0
  Writes format func = Any (λ (stm : Stm). format_of func stm.kind ≡ Some format) func.body

  format_is : (format : List ℕ) → IsFormatIn core format → IsFormat format (pieces_of format) × IsShort format
  format_is format h =
      let w = found_at (Writes format) core.funcs h in
      let v = found_at (λ (stm : Stm). format_of w.1 stm.kind ≡ Some format) w.1.body w.3 in
      (statement_format w.1 v.1.kind format ((sound.functions w.0 w.1 w.2).typed v.0 v.1 v.2) v.3, short_format w.1 v.1.kind format (sound.short w.0 w.1 w.2).texts v.3)

  pub formats_are : All (λ format. IsFormat format (pieces_of format)) code.formats
  formats_are =
      All-weaker (IsFormatIn core) (λ format. IsFormat format (pieces_of format)) (λ format h. (format_is format h).0) code.formats is.formats

  pub formats_are_short : All IsShort code.formats
  formats_are_short = All-weaker (IsFormatIn core) IsShort (λ format h. (format_is format h).1) code.formats is.formats

  -- Lines

  abbrev HasLine : ℕ → Type 0
  HasLine k = (line : ℕ) × (slice_get code.lines k ≡ Some line) × (1 ≤ line)

  start_has_line : HasLine 0
  start_has_line =
      let m = main_func core code sound is in
      (m.0.line, is.start_line ∙ ap (λ o. Some (line_of o)) m.1, (sound.functions (main_of core) m.0 m.1).line)

  statement_has_line : (f : ℕ) (func : Func) (here : slice_get core.funcs f ≡ Some func) (k : ℕ) → InStatement core f func here k → HasLine k
  statement_has_line f func here k w =
      let stands = (is.statements f w.point func w.stm here w.found).lines w.rest (omega (arith, w.below)) in
      (w.stm.line, sym (ap (slice_get code.lines) w.sum) ∙ stands, (sound.functions f func here).lines w.point w.stm w.found)

  has_line : (k : ℕ) → 1 ≤ k → k < length code.lines → HasLine k
  has_line k low high =
      let w = in_function core k low (omega (arith, is.few_lines, is.few_instrs)) in
      let more = first_more core w.f w.func w.here in
      statement_has_line w.f w.func w.here k (in_statement core w.f w.func w.here k (omega (arith, w.sum)) (omega (arith, w.sum, w.below, more)))

  any_has_line : (k : ℕ) → k < length code.lines → HasLine k
  any_has_line k high =
      ⊎_elim
      (λ (first : k < 1). let e : 0 ≡ k = omega arith in subst HasLine e start_has_line)
      (λ (later : 1 ≤ k). has_line k later high)
      (cases_lt k 1)

  pub lines_from_one : All (λ line. 1 ≤ line) code.lines
  lines_from_one k d h =
      let w = any_has_line k h in subst (λ line. 1 ≤ line) (sym (get_or_from_slice_get code.lines k w.0 d w.1)) w.2
