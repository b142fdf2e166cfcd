-- A register is live behind the last instruction of a statement where it is live behind the statement in the core, and only there.
use Rattle.meaning_laws.proofs.Words.Core.{Atom, Code, Core, Func, Instr, IsLive, IsPath, IsSound, Stm, StmKind, edges, edges_at, is_register, reads, reads_at, writes, writes_at, written}
use Rattle.meaning_laws.proofs.Words.Meaning.{IsCompiled, Pins, hand_of, handed_atoms, instr}
use Rattle.meaning_laws.proofs.Words.Std.{All, All-cons, All-contains, All-head, All-nil, All-tail, Any-from_list_any, Bool, Contains, IsTrue, List, None, Option, Some, [], add-zero, ap, arith, both_ways, cases_lt, cond, false, get_or-map, get_or_from_slice_get, inl, inr, int_lt, length, length-map, list_any, list_any_at, map, option_map_or, pos, refl, slice_get, slice_get_within, subst, suc, sym, true, zero, ℕ, ℤ, ⊎_elim, ◌++◌, ◌+◌, ◌-ℤ◌, ◌<◌, ◌==◌, ◌^◌, ◌↔◌, ◌∙◌, ◌∷◌, ◌≡◌, ◌≤◌, ◌⊎◌}
use Rattle.meaning_laws.proofs.form.Typing.{doing, chosen_is, as_doing, same_edges}
use Rattle.meaning_laws.proofs.form.Sorts.{each_hand}
use Rattle.meaning_laws.proofs.form.Tables.{found_at}
use Rattle.meaning_laws.proofs.form.Flow.{hand_edges}
use Rattle.meaning_laws.proofs.form.Places.{place, place_more}
use Rattle.meaning_laws.proofs.form.Scopes.{contains_one, contains_map}
use Rattle.meaning_laws.proofs.dangling.Standing.{found as element}
use Rattle.core_tree.specs.declared.statements.Atom.TheVariants as atom
use Rattle.core_tree.specs.declared.statements.StmKind.TheVariants as stm
use Rattle.core_tree.specs.Statements as statements
use Rattle.flat_code.specs.declared.instructions.Op.TheVariants as op
use Rattle.core_tree.specs.Lives as cores

-- What the instructions of a statement read and write: those that hand over read what the statement reads, and the last one writes
-- what the statement writes.

-- What hands an operand over

integer_reads_nothing : (b : Bool) (n m : ℤ) (r : ℕ) → let i = cond b (instr op.HandInt 0 0 0 n) (instr op.HandUnsigned 0 0 0 m) in reads i i.op r ≡ false
integer_reads_nothing true n m r = refl
integer_reads_nothing false n m r = refl

pub hand_reads : (a : Atom) (r : ℕ) → reads (hand_of a) (hand_of a).op r ≡ is_register r a
hand_reads (atom.Reg k) r = refl
hand_reads (atom.Int n) r = integer_reads_nothing (int_lt n (pos (2 ^ 63))) n (n -ℤ pos (2 ^ 64)) r
hand_reads atom.Null r = refl
hand_reads (atom.Static k) r = refl
hand_reads (atom.Mem k) r = refl

pub hand_writes_nothing : (a : Atom) (r : ℕ) → writes (hand_of a) (hand_of a).op r ≡ false
hand_writes_nothing a r = each_hand (λ (i : Instr). writes i i.op r ≡ false) (λ k. refl) (λ n. refl) (λ n. refl) refl (λ k. refl) (λ k. refl) a

-- What does what a statement does

pub does_not_read : (place : ℕ → ℕ) (kind : StmKind) (n r : ℕ) → reads (doing place kind n) (doing place kind n).op r ≡ false
does_not_read place (stm.Return None) n r = refl
does_not_read place (stm.Return (Some a)) n r = refl
does_not_read place kind n r = refl

same_written : (place : ℕ → ℕ) (kind : StmKind) (n : ℕ) → written (doing place kind n) (doing place kind n).op ≡ statements.written kind
same_written place (stm.Call g r args) n = chosen_is r op.Call g
same_written place (stm.Lib name r args) n = chosen_is r (op.Lib name) 0
same_written place (stm.Return None) n = refl
same_written place (stm.Return (Some a)) n = refl
same_written place kind n = refl

pub same_writes : (place : ℕ → ℕ) (kind : StmKind) (n r : ℕ) → writes (doing place kind n) (doing place kind n).op r ≡ statements.writes kind r
same_writes place kind n r = ap (λ (o : Option ℕ). option_map_or (λ k. k == r) o false) (same_written place kind n)

-- What a statement reads

-- a number that is handed over beside the operands is no register
same_reads : (kind : StmKind) (r : ℕ) → list_any (is_register r) (handed_atoms kind) ≡ statements.reads kind r
same_reads (stm.Off q p c) r = refl
same_reads (stm.Case a v l) r = refl
same_reads (stm.Copy p q n) r = refl
same_reads (stm.Clear p n) r = refl
same_reads kind r = refl

-- a statement that reads a register hands it over
pub reads_handed : (kind : StmKind) (r : ℕ) → statements.reads kind r ≡ true → (k : ℕ) × (a : Atom) × (slice_get (handed_atoms kind) k ≡ Some a) × (is_register r a ≡ true)
reads_handed kind r h =
    found_at (λ (a : Atom). is_register r a ≡ true) (handed_atoms kind)
    (Any-from_list_any (is_register r) (handed_atoms kind) (same_reads kind r ∙ h))

-- and what hands a register over reads it
pub handed_reads : (kind : StmKind) (r k : ℕ) (a : Atom) → slice_get (handed_atoms kind) k ≡ Some a → is_register r a ≡ true → statements.reads kind r ≡ true
handed_reads kind r k a at h =
    sym (same_reads kind r) ∙ list_any_at (is_register r) (handed_atoms kind) k a (slice_get_within (handed_atoms kind) k a at)
    (ap (is_register r) (get_or_from_slice_get (handed_atoms kind) k a a at) ∙ h)

-- A register is live behind the last instruction of a statement where it is live behind the statement in the core, and only there.

contains_mapped : {X Y : Type 0} (f : X → Y) (xs : List X) (x : X) → Contains xs x → Contains (map f xs) (f x)
contains_mapped f xs x h = (h.0, omega (arith, length-map xs f, h.1), get_or-map f xs h.0 x (f x) h.1 ∙ ap f h.2)

-- One edge more

module _ (code : Code) (r : ℕ) where
  -- an instruction reads the register, or it does not write it and the register is live behind it
  abbrev Meets : ℕ → Type 0
  Meets p = (reads_at code p r ≡ true) ⊎ ((writes_at code p r ≡ false) × IsLive code p r)

  live_by_edge : (p q : ℕ) → Contains (edges_at code p) q → Meets q → IsLive code p r
  live_by_edge p q edge h =
      ⊎_elim
      (λ (read : reads_at code q r ≡ true).
      record { before = []; read = q; path = (edge, tt); unwritten = All-nil (λ p. writes_at code p r ≡ false); is_read = read })
      (λ (on : (writes_at code q r ≡ false) × IsLive code q r).
      record {
        before = q ∷ on.1.before;
        read = on.1.read;
        path = (edge, on.1.path);
        unwritten = All-cons (λ p. writes_at code p r ≡ false) q on.1.before on.0 on.1.unwritten;
        is_read = on.1.is_read;
      })
      h

module _ (body : List Stm) (r : ℕ) where
  -- the same of a statement
  abbrev MeetsInCore : ℕ → Type 0
  MeetsInCore n = (statements.reads_at body n r ≡ true) ⊎ ((statements.writes_at body n r ≡ false) × cores.IsLive body n r)

  core_by_edge : (n m : ℕ) → Contains (statements.edges_at body n) m → MeetsInCore m → cores.IsLive body n r
  core_by_edge n m edge h =
      ⊎_elim
      (λ (read : statements.reads_at body m r ≡ true).
      record { before = []; read = m; path = (edge, tt); unwritten = All-nil (λ p. statements.writes_at body p r ≡ false); is_read = read })
      (λ (on : (statements.writes_at body m r ≡ false) × cores.IsLive body m r).
      record {
        before = m ∷ on.1.before;
        read = on.1.read;
        path = (edge, on.1.path);
        unwritten = All-cons (λ p. statements.writes_at body p r ≡ false) m on.1.before on.0 on.1.unwritten;
        is_read = on.1.is_read;
      })
      h

module _ (core : Core) {pins : Pins} (code : Code) (sound : IsSound core) (is : IsCompiled core pins code) (f : ℕ) (func : Func) (here : slice_get core.funcs f ≡ Some func) (r : ℕ) where
  abbrev at : ℕ → ℕ
  at = place core f func here

  -- What the instructions of a statement read and write, and where they lead

  module _ (n : ℕ) (stm : Stm) (found : slice_get func.body n ≡ Some stm) where
    abbrev last : ℕ
    last = at n + length (handed_atoms stm.kind)

    module _ (k : ℕ) (a : Atom) (operand : slice_get (handed_atoms stm.kind) k ≡ Some a) where
      hands : slice_get code.instrs (at n + k) ≡ Some (hand_of a)
      hands = (is.statements f n func stm here found).hands k a operand

      hand_reads_at : reads_at code (at n + k) r ≡ is_register r a
      hand_reads_at =
          ap (λ (o : Option Instr). option_map_or (λ (i : Instr). reads i i.op r) o false) hands ∙ hand_reads a r

      hand_writes_at : writes_at code (at n + k) r ≡ false
      hand_writes_at =
          ap (λ (o : Option Instr). option_map_or (λ (i : Instr). writes i i.op r) o false) hands ∙ hand_writes_nothing a r

      hand_edges_at : edges_at code (at n + k) ≡ (at n + k + 1) ∷ []
      hand_edges_at =
          ap (λ (o : Option Instr). option_map_or (λ (i : Instr). edges i i.op (at n + k)) o []) hands ∙ hand_edges a (at n + k)

    does : (m : ℕ) × (slice_get code.instrs last ≡ Some (doing at stm.kind m))
    does =
        let stands = (is.statements f n func stm here found).does in
        let d = as_doing core code f func stm.kind stands.0 stands.2 in (d.0, stands.1 ∙ ap (λ (i : Instr). Some i) d.1)

    last_reads : reads_at code last r ≡ false
    last_reads =
        ap (λ (o : Option Instr). option_map_or (λ (i : Instr). reads i i.op r) o false) does.1 ∙ does_not_read at stm.kind does.0 r

    last_writes : writes_at code last r ≡ statements.writes_at func.body n r
    last_writes =
        ap (λ (o : Option Instr). option_map_or (λ (i : Instr). writes i i.op r) o false) does.1 ∙ same_writes at stm.kind does.0 r ∙
        sym (ap (λ (o : Option Stm). option_map_or (λ (s : Stm). statements.writes s.kind r) o false) found)

    last_edges : edges_at code last ≡ map at (statements.edges_at func.body n)
    last_edges =
        ap (λ (o : Option Instr). option_map_or (λ (i : Instr). edges i i.op last) o []) does.1 ∙
        same_edges at stm.kind does.0 n last (place_more core f func here n stm found) ∙
        sym (ap (λ (o : Option Stm). map at (option_map_or (λ (s : Stm). statements.edges s.kind n) o [])) found)

    core_reads : statements.reads_at func.body n r ≡ statements.reads stm.kind r
    core_reads = ap (λ (o : Option Stm). option_map_or (λ (s : Stm). statements.reads s.kind r) o false) found

    -- an edge of the core leads to a statement
    inside : (m : ℕ) → Contains (statements.edges_at func.body n) m → (x : Stm) × (slice_get func.body m ≡ Some x)
    inside m edge =
        let own = subst (λ (xs : List ℕ). Contains xs m) (ap (λ (o : Option Stm). option_map_or (λ (s : Stm). statements.edges s.kind n) o []) found) edge in
        let below = (sound.functions f func here).inside n stm found in
        element func.body m (All-contains (λ next. next < length func.body) (statements.edges stm.kind n) m below own)

  -- From the core to the code

  back_one : (n : ℕ) (stm : Stm) (found : slice_get func.body n ≡ Some stm) (k : ℕ) → k < length (handed_atoms stm.kind) → Meets code r (at n + k + 1) → Meets code r (at n + k)
  back_one n stm found k less h =
      let a = element (handed_atoms stm.kind) k less in
      let itself : Contains ((at n + k + 1) ∷ []) (at n + k + 1) = (0, omega arith, refl) in
      let edge = subst (λ (xs : List ℕ). Contains xs (at n + k + 1)) (sym (hand_edges_at n stm found k a.0 a.1)) itself in
      inr (hand_writes_at n stm found k a.0 a.1, live_by_edge code r (at n + k) (at n + k + 1) edge h)

  -- what an instruction of a statement meets, the statement's first one meets
  back : (n : ℕ) (stm : Stm) (found : slice_get func.body n ≡ Some stm) (k : ℕ) → k ≤ length (handed_atoms stm.kind) → Meets code r (at n + k) → Meets code r (at n)
  back n stm found zero below h = subst (Meets code r) (add-zero (at n)) h
  back n stm found (suc k) below h =
      let e : at n + suc k ≡ at n + k + 1 = omega arith in
      back n stm found k (omega arith) (back_one n stm found k (omega arith) (subst (Meets code r) e h))

  meets_read : (n : ℕ) (stm : Stm) (found : slice_get func.body n ≡ Some stm) → statements.reads_at func.body n r ≡ true → Meets code r (at n)
  meets_read n stm found h =
      let w = reads_handed stm.kind r (sym (core_reads n stm found) ∙ h) in
      let less = slice_get_within (handed_atoms stm.kind) w.0 w.1 w.2 in
      back n stm found w.0 (omega (arith, less)) (inl (hand_reads_at n stm found w.0 w.1 w.2 ∙ w.3))

  meets_live : (n : ℕ) (stm : Stm) (found : slice_get func.body n ≡ Some stm) → statements.writes_at func.body n r ≡ false → IsLive code (last n stm found) r → Meets code r (at n)
  meets_live n stm found h live =
      back n stm found (length (handed_atoms stm.kind)) (omega arith) (inr (last_writes n stm found ∙ h, live))

  leads : (n : ℕ) (stm : Stm) (found : slice_get func.body n ≡ Some stm) (m : ℕ) → Contains (statements.edges_at func.body n) m → Contains (edges_at code (last n stm found)) (at m)
  leads n stm found m edge =
      subst (λ (xs : List ℕ). Contains xs (at m)) (sym (last_edges n stm found)) (contains_mapped at (statements.edges_at func.body n) m edge)

  in_code : (before : List ℕ) (read n : ℕ) (stm : Stm) (found : slice_get func.body n ≡ Some stm) → cores.IsPath func.body n (before ++ read ∷ []) → All (λ p. statements.writes_at func.body p r ≡ false) before → IsTrue (statements.reads_at func.body read r) → IsLive code (last n stm found) r
  in_code [] read n stm found path unwritten is_read =
      let x = inside n stm found read path.0 in
      live_by_edge code r (last n stm found) (at read) (leads n stm found read path.0) (meets_read read x.0 x.1 is_read)
  in_code (next ∷ before) read n stm found path unwritten is_read =
      let x = inside n stm found next path.0 in
      let passed = All-head (λ p. statements.writes_at func.body p r ≡ false) next before unwritten in
      let later = All-tail (λ p. statements.writes_at func.body p r ≡ false) next before unwritten in
      let rest = in_code before read next x.0 x.1 path.1 later is_read in
      live_by_edge code r (last n stm found) (at next) (leads n stm found next path.0) (meets_live next x.0 x.1 passed rest)

  -- From the code to the core

  -- the register is live behind an instruction of a statement: the statement meets that, or where it is the last one, the
  -- register is live behind the statement
  record Behind (n : ℕ) (stm : Stm) (k : ℕ) : Type 0 where
    before_last : k < length (handed_atoms stm.kind) → MeetsInCore func.body r n
    at_last : k ≡ length (handed_atoms stm.kind) → cores.IsLive func.body n r

  arrives_at_read : (n : ℕ) (stm : Stm) (found : slice_get func.body n ≡ Some stm) (k : ℕ) → k ≤ length (handed_atoms stm.kind) → reads_at code (at n + k) r ≡ true → MeetsInCore func.body r n
  arrives_at_read n stm found k below h =
      ⊎_elim
      (λ (less : k < length (handed_atoms stm.kind)).
      let a = element (handed_atoms stm.kind) k less in
      let reads = handed_reads stm.kind r k a.0 a.1 (sym (hand_reads_at n stm found k a.0 a.1) ∙ h) in
      inl (core_reads n stm found ∙ reads))
      (λ (more : length (handed_atoms stm.kind) ≤ k).
      let e : length (handed_atoms stm.kind) ≡ k = omega arith in
      let none = subst (λ j. reads_at code (at n + j) r ≡ false) e (last_reads n stm found) in
      absurd (both_ways (reads_at code (at n + k) r) none h))
      (cases_lt k (length (handed_atoms stm.kind)))

  arrives_and_passes : (n : ℕ) (stm : Stm) (found : slice_get func.body n ≡ Some stm) (k : ℕ) → k ≤ length (handed_atoms stm.kind) → writes_at code (at n + k) r ≡ false → Behind n stm k → MeetsInCore func.body r n
  arrives_and_passes n stm found k below h behind =
      ⊎_elim
      (λ (less : k < length (handed_atoms stm.kind)). behind.before_last less)
      (λ (more : length (handed_atoms stm.kind) ≤ k).
      let e : k ≡ length (handed_atoms stm.kind) = omega arith in
      let unwritten = subst (λ j. writes_at code (at n + j) r ≡ false) e h in
      inr (sym (last_writes n stm found) ∙ unwritten, behind.at_last e))
      (cases_lt k (length (handed_atoms stm.kind)))

  -- what holds of each statement to which the next instruction may belong
  abbrev Arrives : ℕ → Type 0
  Arrives next =
      (m : ℕ) (x : Stm) (at_m : slice_get func.body m ≡ Some x) (j : ℕ) → j ≤ length (handed_atoms x.kind) → at m + j ≡ next → MeetsInCore func.body r m

  goes_on : (n : ℕ) (stm : Stm) (found : slice_get func.body n ≡ Some stm) (k : ℕ) → k ≤ length (handed_atoms stm.kind) → (next : ℕ) → Contains (edges_at code (at n + k)) next → Arrives next → Behind n stm k
  goes_on n stm found k below next edge arrives =
      record {
        before_last = λ less.
            let a = element (handed_atoms stm.kind) k less in
            let on = contains_one (at n + k + 1) next (subst (λ (xs : List ℕ). Contains xs next) (hand_edges_at n stm found k a.0 a.1) edge) in
            arrives n stm found (k + 1) (omega arith) (omega (arith, on));
        at_last = λ e.
            let own = subst (λ (xs : List ℕ). Contains xs next) (ap (λ j. edges_at code (at n + j)) e ∙ last_edges n stm found) edge in
            let to = contains_map at (statements.edges_at func.body n) next own in
            let x = inside n stm found to.0 to.1 in
            core_by_edge func.body r n to.0 to.1 (arrives to.0 x.0 x.1 0 (omega arith) (omega (arith, to.2)));
      }

  in_core : (before : List ℕ) (read n : ℕ) (stm : Stm) (found : slice_get func.body n ≡ Some stm) (k : ℕ) → k ≤ length (handed_atoms stm.kind) → IsPath code (at n + k) (before ++ read ∷ []) → All (λ p. writes_at code p r ≡ false) before → IsTrue (reads_at code read r) → Behind n stm k
  in_core [] read n stm found k below path unwritten is_read =
      goes_on n stm found k below read path.0
      (λ m x at_m j within e.
      arrives_at_read m x at_m j within (subst (λ p. reads_at code p r ≡ true) (sym e) is_read))
  in_core (next ∷ before) read n stm found k below path unwritten is_read =
      goes_on n stm found k below next path.0
      (λ m x at_m j within e.
      let passed = All-head (λ p. writes_at code p r ≡ false) next before unwritten in
      let later = All-tail (λ p. writes_at code p r ≡ false) next before unwritten in
      let rest = subst (λ p. IsPath code p (before ++ read ∷ [])) (sym e) path.1 in
      arrives_and_passes m x at_m j within (subst (λ p. writes_at code p r ≡ false) (sym e) passed)
      (in_core before read m x at_m j within rest later is_read))

  pub same_lives : (n : ℕ) (stm : Stm) → slice_get func.body n ≡ Some stm → IsLive code (at n + length (handed_atoms stm.kind)) r ↔ cores.IsLive func.body n r
  same_lives n stm found = (
    λ l. (in_core l.before l.read n stm found (length (handed_atoms stm.kind)) (omega arith) l.path l.unwritten l.is_read).at_last refl,
    λ l. in_code l.before l.read n stm found l.path l.unwritten l.is_read,
  )
