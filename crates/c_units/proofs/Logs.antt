-- Declarations as the code keeps them, and what each name is bound to.
use Rattle.c_units.proofs.Words.Std.{Bool, HashMap, List, Option, Some, UpdatesBy, Vec, [], ap, arith, bytes_eq, bytes_eq-Decides, drop, false, get_or, get_or_from_slice_get, if◌then◌else◌, length, lookup, option_to_list, refl, reverse, reverse-append, slice_get, subst, suc, sym, true, unwrap_or, ℕ, ◌++◌, ◌-◌, ◌<◌, ◌∙◌, ◌∷◌, ◌≡◌, ◌≤◌}
use Rattle.c_units.proofs.Words.Units.{AreBound, Binding, Entry, Known, Shared, TellBefore, binding_of, bound_in, entries_known, oldest, without_latest}
use Rattle.std.specs.Map.{KeepsOthers}

not_true : (b : Bool) → (b ≡ true → ⊥) → b ≡ false
not_true false h = refl
not_true true h = absurd (h refl)

false_not_true : false ≡ true → ⊥
false_not_true h = cc

back_by : (same : Bool) (entry : Entry) (rest : List Known) (name : List ℕ) → bytes_eq entry.name.items name ≡ same →
    entry.before ≡ binding_of rest entry.name.items →
    (if same then entry.before else (if same then entry.binding else binding_of rest name)) ≡ binding_of rest name
back_by false entry rest name h was = refl
back_by true entry rest name h was = was ∙ ap (binding_of rest) ((bytes_eq-Decides entry.name.items name).0 h)

-- names that are the same as a third, and names that are not
same_test : (name x y : List ℕ) → bytes_eq name x ≡ true → bytes_eq name y ≡ bytes_eq x y
same_test name x y e = ap (λ (l : List ℕ). bytes_eq l y) ((bytes_eq-Decides name x).0 e)

apart : (key name k : List ℕ) → bytes_eq key name ≡ false → bytes_eq key k ≡ true → bytes_eq name k ≡ false
apart key name k n e =
    let same = (bytes_eq-Decides key k).0 e in
    not_true (bytes_eq name k) (λ is. false_not_true (sym n ∙ (bytes_eq-Decides key name).1 (same ∙ sym ((bytes_eq-Decides name k).0 is))))

module _ {G S : Type 0} where
  -- no names at first
  pub none_yet : (log : List Entry) (table : HashMap (Vec ℕ G) Binding S) → log ≡ [] → table.entries ≡ [] → TellBefore (reverse log) × AreBound table (entries_known (reverse log))
  none_yet log table e f =
      subst (λ (l : List Entry). TellBefore (reverse l) × AreBound table (entries_known (reverse l))) (sym e)
      (tt, λ name. ap (λ (es : List (Vec ℕ G × Binding)). unwrap_or (lookup (λ (key : Vec ℕ G). bytes_eq name key.items) es) Shared) f)

  -- a declaration behind others
  pub one_more : (log more : List Entry) (entry : Entry) (table bound : HashMap (Vec ℕ G) Binding S) → more ≡ log ++ entry ∷ [] →
      TellBefore (reverse log) × AreBound table (entries_known (reverse log)) →
      entry.before ≡ binding_of (entries_known (reverse log)) entry.name.items →
      ((name : List ℕ) → bound_in bound name ≡ (if bytes_eq entry.name.items name then entry.binding else bound_in table name)) →
      TellBefore (reverse more) × AreBound bound (entries_known (reverse more))
  one_more log more entry table bound e before was binds =
      let turned : reverse more ≡ entry ∷ reverse log = ap reverse e ∙ reverse-append log (entry ∷ []) in
      subst (λ (l : List Entry). TellBefore l × AreBound bound (entries_known l)) (sym turned) (
        (was, before.0),
        λ name. binds name ∙ ap (λ (b : Binding). if bytes_eq entry.name.items name then entry.binding else b) (before.1 name),
      )

  -- a declaration is taken back
  pub one_back : (log rest : List Entry) (entry : Entry) (table bound : HashMap (Vec ℕ G) Binding S) → log ≡ rest ++ entry ∷ [] →
      TellBefore (reverse log) × AreBound table (entries_known (reverse log)) →
      ((name : List ℕ) → bound_in bound name ≡ (if bytes_eq entry.name.items name then entry.before else bound_in table name)) →
      TellBefore (reverse rest) × AreBound bound (entries_known (reverse rest))
  one_back log rest entry table bound e before binds =
      let turned : reverse log ≡ entry ∷ reverse rest = ap reverse e ∙ reverse-append rest (entry ∷ []) in
      let was : TellBefore (entry ∷ reverse rest) × AreBound table (entries_known (entry ∷ reverse rest)) = subst (λ (l : List Entry). TellBefore l × AreBound table (entries_known l)) turned before in (
        was.0.1,
        λ name. binds name ∙ ap (λ (b : Binding). if bytes_eq entry.name.items name then entry.before else b) (was.1 name)
            ∙ back_by (bytes_eq entry.name.items name) entry (entries_known (reverse rest)) name refl was.0.0,
      )

-- a table in which a key was bound
module _ {G S : Type 0} (old new : HashMap (Vec ℕ G) Binding S) (key : List ℕ) (binding : Binding)
    (h : UpdatesBy (λ (x y : Vec ℕ G). bytes_eq x.items y.items) (λ (y : Vec ℕ G). bytes_eq key y.items) old new (Some binding)) where
  bound_by : (same : Bool) (name : List ℕ) → bytes_eq key name ≡ same → bound_in new name ≡ (if same then binding else bound_in old name)
  unfolding KeepsOthers
  bound_by true name is =
      let e = (bytes_eq-Decides key name).0 is in
      ap (λ (l : List ℕ). bound_in new l) (sym e) ∙ ap (λ (o : Option Binding). unwrap_or o Shared) h.1
  bound_by false name is =
      ap (λ (o : Option Binding). unwrap_or o Shared)
      (h.3 (λ (k : Vec ℕ G). bytes_eq name k.items) (λ x y e. same_test name x.items y.items e) (λ k e. apart key name k.items is e))

  pub bound_now : (name : List ℕ) → bound_in new name ≡ (if bytes_eq key name then binding else bound_in old name)
  bound_now name = bound_by (bytes_eq key name) name refl

-- the last entry is the one that leaves
pub last_leaves : (log rest : List Entry) (popped : Option Entry) (entry : Entry) (n : ℕ) → n ≡ length log → log ≡ rest ++ option_to_list popped → slice_get log (length log - 1) ≡ Some entry →
    ((d : Entry) → 0 < n → popped ≡ Some (get_or log (n - 1) d)) → log ≡ rest ++ entry ∷ []
last_leaves [] rest popped entry n same e last found = cc
last_leaves (first ∷ log) rest popped entry n same e last found =
    let there : get_or (first ∷ log) (n - 1) entry ≡ entry = ap (λ k. get_or (first ∷ log) (k - 1) entry) same ∙ get_or_from_slice_get (first ∷ log) (length (first ∷ log) - 1) entry entry last in
    e ∙ ap (λ p. rest ++ option_to_list p) (found entry (omega (arith, same)) ∙ ap Some there)

-- one less is taken back
pub oldest_behind : (count : ℕ) (known : List Known) → count < length known → oldest count (without_latest known) ≡ oldest count known
oldest_behind count [] h = absurd (omega (arith, h))
oldest_behind count (first ∷ known) h =
    let e : suc (length known) - count ≡ suc (length known - count) = omega arith in
    sym (ap (λ n. drop n (first ∷ known)) e)

-- all of them
pub oldest_all : (count : ℕ) (known : List Known) → length known ≤ count → oldest count known ≡ known
oldest_all count known h = let e : length known - count ≡ 0 = omega arith in ap (λ n. drop n known) e
