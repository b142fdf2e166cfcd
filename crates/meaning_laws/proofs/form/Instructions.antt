-- Each instruction of the code of a sound core is well formed.
use Rattle.meaning_laws.proofs.Words.Core.{Atom, Code, Core, EachInstr, Entry, HandsOrTakes, HasNumbers, HasResult, Instr, IsInstr, IsNumber, IsSound, NamesWhatIsThere, Sort, StmKind, Takes, atom_numbers, atom_sort, end_of, hands, operands}
use Rattle.meaning_laws.proofs.Words.Meaning.{AreAscending, AreExact, IsCompiled, Pins, hand_of, handed_atoms, instr}
use Rattle.meaning_laws.proofs.Words.Std.{All, Bool, IsSome, List, Option, Some, [], arith, cond, false, flat_map, flat_map-cons, get_or-append-add, get_or_append_left, get_or_from_slice_get, int_lt, length, length-append, none-some, pos, same_Some, slice_get, slice_get_within, subst, suc, sym, true, zero, ℕ, ℤ, ◌++◌, ◌+◌, ◌-ℤ◌, ◌<◌, ◌^◌, ◌∷◌, ◌≡◌, ◌≤◌}
use Rattle.meaning_laws.proofs.form.Typing.{doing, does_not_hand, Numbers, atoms_there, takes_its_operands, gives_its_result, names_what_is_there}
use Rattle.meaning_laws.proofs.form.Flow.{hand_leads, hand_leads_on, hand_starts_afresh, first_inside, last_inside, leads_inside, leads_ahead, leads_afresh, handed_all}
use Rattle.meaning_laws.proofs.form.Sorts.{each_hand, hands_over, handed_is}
use Rattle.meaning_laws.proofs.form.Functions.{answered}
use Rattle.meaning_laws.proofs.form.Pinned.{LiveByPaths}
use Rattle.meaning_laws.proofs.form.Sites.{hand_site, does_site}
use Rattle.meaning_laws.proofs.form.Spots.{Spot, places, start, last, atoms, each_instr}
use Rattle.core_tree.specs.declared.statements.Atom.TheVariants as atom
use Rattle.core_tree.specs.declared.statements.StmKind.TheVariants as stm
use Rattle.flat_code.specs.declared.instructions.Op.TheVariants as op

-- The integers that a statement of a sound core hands over are in range.

-- an operand that is an integer is in range
abbrev pub InRange : Atom → Type 0
InRange (atom.Int n) = IsNumber n
InRange a = Unit {0}

abbrev pub AllInRange : List Atom → Type 0
AllInRange [] = Unit {0}
AllInRange (a ∷ atoms) = InRange a × AllInRange atoms

module _ {X : Type 0} (P : X → Type 0) where
  all_front : (xs ys : List X) → All P (xs ++ ys) → All P xs
  all_front xs ys h k d lt =
      subst P (get_or_append_left xs ys d k lt) (h k d (omega (arith, length-append xs ys)))

  all_back : (xs ys : List X) → All P (xs ++ ys) → All P ys
  all_back xs ys h k d lt =
      subst P (get_or-append-add xs ys k d) (h (length xs + k) d (omega (arith, length-append xs ys)))

in_range : (a : Atom) → All IsNumber (atom_numbers a) → InRange a
in_range (atom.Int n) h = h 0 n (omega arith)
in_range (atom.Reg r) h = tt
in_range atom.Null h = tt
in_range (atom.Static k) h = tt
in_range (atom.Mem k) h = tt

all_in_range : (atoms : List Atom) → All IsNumber (flat_map atom_numbers atoms) → AllInRange atoms
all_in_range [] h = tt
all_in_range (a ∷ atoms) h =
    let both = subst (All IsNumber) (flat_map-cons atom_numbers a atoms) h in
    (in_range a (all_front IsNumber (atom_numbers a) _ both), all_in_range atoms (all_back IsNumber (atom_numbers a) _ both))

-- operands, and a number behind them
with_own : (atoms : List Atom) (n : ℤ) → All IsNumber (flat_map atom_numbers atoms ++ n ∷ []) → AllInRange atoms × IsNumber n
with_own atoms n h =
    (all_in_range atoms (all_front IsNumber (flat_map atom_numbers atoms) (n ∷ []) h), all_back IsNumber (flat_map atom_numbers atoms) (n ∷ []) h 0 n (omega arith))

without_own : (atoms : List Atom) → All IsNumber (flat_map atom_numbers atoms ++ []) → AllInRange atoms
without_own atoms h = all_in_range atoms (all_front IsNumber (flat_map atom_numbers atoms) [] h)

pub handed_in_range : (kind : StmKind) → HasNumbers kind → AllInRange (handed_atoms kind)
handed_in_range (stm.Off r p c) h = let o = with_own (p ∷ []) c h.numbers in (o.0.0, (o.1, tt))
handed_in_range (stm.Case a v l) h = let o = with_own (a ∷ []) v h.numbers in (o.0.0, (o.1, tt))
handed_in_range (stm.Copy p q n) h = let o = with_own (p ∷ q ∷ []) n h.numbers in (o.0.0, (o.0.1.0, (o.1, tt)))
handed_in_range (stm.Clear p n) h = let o = with_own (p ∷ []) n h.numbers in (o.0.0, (o.1, tt))
handed_in_range kind h = without_own (operands kind) h.numbers

-- Each instruction of the code of a sound core is well formed.

hand_gives_nothing : (code : Code) (entry : Entry) (a : Atom) → HasResult code entry (hand_of a) (hand_of a).op
hand_gives_nothing code entry a = each_hand (λ (i : Instr). HasResult code entry i i.op) (λ r. tt) (λ n. tt) (λ n. tt) tt (λ k. tt) (λ k. tt) a

-- an integer that is handed over is in range, as the operand is
integer_in_range : (code : Code) (b : Bool) (n m : ℤ) → IsNumber n → let i = cond b (instr op.HandInt 0 0 0 n) (instr op.HandUnsigned 0 0 0 m) in NamesWhatIsThere code i i.op
integer_in_range code true n m h = h
integer_in_range code false n m h = tt

hand_names : (code : Code) (a : Atom) → InRange a → NamesWhatIsThere code (hand_of a) (hand_of a).op
hand_names code (atom.Int n) h = integer_in_range code (int_lt n (pos (2 ^ 63))) n (n -ℤ pos (2 ^ 64)) h
hand_names code (atom.Reg r) h = tt
hand_names code atom.Null h = tt
hand_names code (atom.Static k) h = tt
hand_names code (atom.Mem k) h = tt

-- each of some operands is in range where all are
one_in_range : (atoms : List Atom) (k : ℕ) (a : Atom) → AllInRange atoms → slice_get atoms k ≡ Some a → InRange a
one_in_range [] k a all h = absurd (none-some a h)
one_in_range (x ∷ atoms) zero a all h = subst InRange (same_Some x a h) all.0
one_in_range (x ∷ atoms) (suc k) a all h = one_in_range atoms k a all.1 h

module _ (paths : LiveByPaths) (core : Core) {pins : Pins} (code : Code) (sound : IsSound core) (exact : AreExact core pins) (ascending : AreAscending pins) (is : IsCompiled core pins code) where
  hands_what_is_there : (s : Spot core code is) (k : ℕ) (a : Atom) → slice_get (atoms core code is s) k ≡ Some a → HandsOrTakes code s.entry (start core code is s + k) (hand_of a) (hands (hand_of a).op)
  hands_what_is_there s k a h =
      let typed = (sound.functions s.f s.func s.here).typed s.point s.stm s.found in
      let all = atoms_there core s.func s.stm.kind typed in
      let inside = slice_get_within (atoms core code is s) k a h in
      let there : IsSome (atom_sort core s.func a) =
      subst (λ (x : Atom). IsSome (atom_sort core s.func x)) (get_or_from_slice_get (atoms core code is s) k a a h) (all k a inside) in
      subst (λ b. HandsOrTakes code s.entry (start core code is s + k) (hand_of a) b) (sym (hands_over a))
      (subst (λ (o : Option Sort). IsSome o) (sym (handed_is core code is s.f s.func s.entry s.matches a)) there)

  hand_is_instr : (s : Spot core code is) (k : ℕ) (a : Atom) → slice_get (atoms core code is s) k ≡ Some a → IsInstr code s.f s.entry (start core code is s + k) (hand_of a)
  hand_is_instr s k a h =
      let at = start core code is s + k in
      let less = slice_get_within (atoms core code is s) k a h in
      let low = first_inside core code sound is s in
      let high = last_inside core code sound is s in
      record {
        operands = hands_what_is_there s k a h;
        result = hand_gives_nothing code s.entry a;
        names = hand_names code a (one_in_range (atoms core code is s) k a (handed_in_range s.stm.kind ((sound.functions s.f s.func s.here).numbers s.point s.stm s.found)) h);
        inside = hand_leads (λ next. (s.entry.first ≤ next) × (next < end_of code s.f)) a at (omega (arith, low), omega (arith, less, high));
        ahead = hand_leads_on a at;
        afresh = hand_starts_afresh code s.entry a at;
        site = hand_site core code sound is s k a h;
      }

  takes_what_is_handed : (s : Spot core code is) (n : ℕ) → Numbers code s.func s.stm.kind n → HandsOrTakes code s.entry (last core code is s) (doing (places core code is s) s.stm.kind n) (hands (doing (places core code is s) s.stm.kind n).op)
  takes_what_is_handed s n m =
      let i = doing (places core code is s) s.stm.kind n in
      let typed = (sound.functions s.f s.func s.here).typed s.point s.stm s.found in
      let all = handed_all core code sound is s.f s.func s.here s.entry s.matches s.point s.stm s.found in
      let taken = takes_its_operands core code is s.f s.func s.entry s.matches (places core code is s) s.stm.kind n typed m in
      subst (λ b. HandsOrTakes code s.entry (last core code is s) i b) (sym (does_not_hand (places core code is s) s.stm.kind n))
      (subst (λ handed. Takes code s.entry i i.op handed) (sym all) taken)

  does_is_instr : (s : Spot core code is) (n : ℕ) → Numbers code s.func s.stm.kind n → IsInstr code s.f s.entry (last core code is s) (doing (places core code is s) s.stm.kind n)
  does_is_instr s n m =
      let func = sound.functions s.f s.func s.here in
      let typed = func.typed s.point s.stm s.found in
      let answers = func.answers s.point s.stm s.found in
      let numbers = func.numbers s.point s.stm s.found in
      let gives = answered core code sound is s.f s.func s.entry s.matches s.stm.kind typed answers in
      record {
        operands = takes_what_is_handed s n m;
        result = gives_its_result core code is s.f s.func s.entry s.matches (places core code is s) s.stm.kind n typed gives;
        names = names_what_is_there core code is s.f s.func s.entry s.matches (places core code is s) s.stm.kind n typed numbers m;
        inside = leads_inside core code sound is s n;
        ahead = leads_ahead core code sound is s n;
        afresh = leads_afresh core code sound is s n;
        site = does_site core code sound is paths exact ascending s n;
      }

  pub instructions : EachInstr code (IsInstr code)
  instructions = each_instr core code is (IsInstr code) hand_is_instr does_is_instr
