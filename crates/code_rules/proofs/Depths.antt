-- How many scopes are open: one step, and many.
use Rattle.std.proofs.Common.{◌≡◌, ◌≢◌, ◌⊎◌, ◌<◌, ◌≤◌, ◌+◌, ◌-◌, ℕ, Bool, true, false, cond, List, [], ◌∷◌, ◌++◌, Option, Some, None, option_map, length, get_or, set, refl, sym, ap, ◌∙◌, subst, inl, inr, ⊎_elim, arith}
use Rattle.std.specs.List.{All, Contains, slice_get}
use Rattle.std.specs.Option.{IfSome, is_none}
use Rattle.std.proofs.lemmas.Bool.{cases_eq, cases_lt}
use Rattle.std.proofs.lemmas.List.{get_or-set_other, get_or-set_same, length-set}
use Rattle.std.proofs.lemmas.List.Elements.{All-append, All-contains, All-cons, All-nil, Contains-append_left, Contains-append_right}
use Rattle.std.proofs.lemmas.List.Sums.{sum_by-set}
use Rattle.core_tree.specs.declared.flow.Edges.{Edges}
use Rattle.core_tree.specs.Statements.{given_target, leads_to}
use Rattle.flat_code.specs.declared.instructions.Instr.{Instr}
use Rattle.flat_code.specs.declared.instructions.Op.{Op}
use Rattle.flat_code.specs.declared.instructions.Op.TheVariants as op
use Rattle.flat_code.specs.declared.program.Code.{Code}
use Rattle.flat_code.specs.declared.program.Entry.{Entry}
use Rattle.flat_code.specs.Table.{edges, scopes_after}
use Rattle.flat_code.specs.WellFormed.{HasScopes, IsAt, Opens, end_of}
use Rattle.code_rules.specs.declared.scopes.Change.{Change}
use Rattle.code_rules.specs.declared.scopes.Change.TheVariants as change
use Rattle.code_rules.specs.Scopes.{AreReached, AreSmall, IsClosedAt, Moves, Puts, PutsAt, StaysInside, depth_at, joined, unknown}

-- so many scopes are open on some path to each of some instructions of the function
abbrev Open : Code → ℕ → Entry → List ℕ → ℕ → Type 0
Open code f entry nexts after = (next : ℕ) → Contains nexts next → (entry.first ≤ next) × Opens code f entry next after

pub record Step (code : Code) (f : ℕ) (entry : Entry) (nexts : List ℕ) (after : ℕ) (old new : List (Option ℕ)) (c : Change) : Type 0 where
  long : length new ≡ length old
  kept : c ≡ change.Same → new ≡ old
  known : c ≡ change.Same → All (λ next. depth_at old (next - entry.first) ≡ Some after) nexts
  stays : (q s : ℕ) → depth_at old q ≡ Some s → depth_at new q ≡ Some s
  reached : Open code f entry nexts after → AreReached code f entry old → AreReached code f entry new
  small : after + unknown old ≤ length old + 1 → AreSmall old → AreSmall new
  clash : c ≡ change.Clash → Open code f entry nexts after → AreReached code f entry old → HasScopes code f entry → ⊥
  fewer : unknown new ≤ unknown old
  less : c ≡ change.More → unknown new < unknown old

pub step_none : (code : Code) (f : ℕ) (entry : Entry) (after : ℕ) (depths : List (Option ℕ)) → Step code f entry [] after depths depths change.Same
step_none code f entry after depths = record {
  long = refl;
  kept = λ _. refl;
  known = λ _. All-nil (λ next. depth_at depths (next - entry.first) ≡ Some after);
  stays = λ q s is. is;
  reached = λ ways reached. reached;
  small = λ few small. small;
  clash = λ c. absurd (cc);
  fewer = omega arith;
  less = λ c. absurd (cc);
}

some_same : (a b : ℕ) → Some a ≡ Some b → a ≡ b
some_same a b is = cc

instr_same : (a b : Instr) → Some a ≡ Some b → a ≡ b
instr_same a b is = cc

-- a place becomes known
unknown_less : (depths : List (Option ℕ)) (place scopes : ℕ) → place < length depths → depth_at depths place ≡ None → unknown (set depths place (Some scopes)) + 1 ≡ unknown depths + 0
unknown_less depths place scopes inside none =
    let one : cond {A = ℕ} (is_none (get_or depths place None)) 1 0 ≡ 1 = ap (λ (o : Option ℕ). cond {A = ℕ} (is_none o) 1 0) none in
    ap (λ n. unknown (set depths place (Some scopes)) + n) (sym one) ∙ sum_by-set (λ (o : Option ℕ). cond {A = ℕ} (is_none o) 1 0) depths place (Some scopes) None inside

pub step_one : (code : Code) (f : ℕ) (entry : Entry) (next after : ℕ) (old new : List (Option ℕ)) (c : Change) → entry.first ≤ next → next - entry.first < length old →
    Puts old (next - entry.first) after new c → Step code f entry (next ∷ []) after old new c
step_one code f entry next after old new change.Same from inside puts = record {
  long = ap length puts.0;
  kept = λ _. puts.0;
  known = λ _. All-cons (λ n. depth_at old (n - entry.first) ≡ Some after) next [] puts.1 (All-nil (λ n. depth_at old (n - entry.first) ≡ Some after));
  stays = λ q s is. ap (λ (l : List (Option ℕ)). depth_at l q) puts.0 ∙ is;
  reached = λ ways reached. subst (AreReached code f entry) (sym puts.0) reached;
  small = λ few small. subst AreSmall (sym puts.0) small;
  clash = λ c. absurd (cc);
  fewer = let e = ap unknown puts.0 in omega arith;
  less = λ c. absurd (cc);
}
step_one code f entry next after old new change.More from inside puts =
    let place = next - entry.first in
    let less : unknown (set old place (Some after)) + 1 ≡ unknown old + 0 = unknown_less old place after inside puts.1 in
    let long : length (set old place (Some after)) ≡ length old = length-set old place (Some after) in
    let same : entry.first + place ≡ next = omega arith in
    subst (λ (l : List (Option ℕ)). Step code f entry (next ∷ []) after old l change.More) (sym puts.0) (record {
      long = long;
      kept = λ c. absurd (cc);
      known = λ c. absurd (cc);
      stays = λ q s is.
          ⊎_elim
          (λ (here : q ≡ place). let none : None ≡ Some s = sym puts.1 ∙ ap (λ n. get_or old n None) (sym here) ∙ is in absurd (cc))
          (λ (other : q ≢ place). get_or-set_other old place q (Some after) None other ∙ is)
          (cases_eq q place);
      reached = λ ways reached q s is.
          ⊎_elim
          (λ (here : q ≡ place).
          let found : Some after ≡ Some s = sym (get_or-set_same old place (Some after) None inside) ∙ ap (λ n. get_or (set old place (Some after)) n None) (sym here) ∙ is in
          subst (λ n. Opens code f entry (entry.first + n) s) (sym here) (subst (λ n. Opens code f entry n s) (sym same) (subst (λ t. Opens code f entry next t) (some_same after s found) (ways next (0, omega arith, refl)).1)))
          (λ (other : q ≢ place). reached q s (sym (get_or-set_other old place q (Some after) None other) ∙ is))
          (cases_eq q place);
      small = λ few small q s is.
          ⊎_elim
          (λ (here : q ≡ place).
          let found : Some after ≡ Some s = sym (get_or-set_same old place (Some after) None inside) ∙ ap (λ n. get_or (set old place (Some after)) n None) (sym here) ∙ is in
          let e : after ≡ s = some_same after s found in omega arith)
          (λ (other : q ≢ place). let before : s + unknown old ≤ length old = small q s (sym (get_or-set_other old place q (Some after) None other) ∙ is) in omega arith)
          (cases_eq q place);
      clash = λ c. absurd (cc);
      fewer = omega arith;
      less = λ _. omega arith;
    })
step_one code f entry next after old new change.Clash from inside puts =
    let place = next - entry.first in
    let same : entry.first + place ≡ next = omega arith in
    record {
      long = ap length puts.0;
      kept = λ c. absurd (cc);
      known = λ c. absurd (cc);
      stays = λ q s is. ap (λ (l : List (Option ℕ)). depth_at l q) puts.0 ∙ is;
      reached = λ ways reached. subst (AreReached code f entry) (sym puts.0) reached;
      small = λ few small. subst AreSmall (sym puts.0) small;
      clash = λ _ ways reached scopes.
          puts.3 (scopes.same next puts.1 after (subst (λ n. Opens code f entry n puts.1) same (reached place puts.1 puts.2)) (ways next (0, omega arith, refl)).1);
      fewer = let e = ap unknown puts.0 in omega arith;
      less = λ c. absurd (cc);
    }

joined_same : (a b : Change) → joined a b ≡ change.Same → (a ≡ change.Same) × (b ≡ change.Same)
joined_same change.Same b is = (refl, is)
joined_same change.More change.Same is = absurd (cc)
joined_same change.More change.More is = absurd (cc)
joined_same change.More change.Clash is = absurd (cc)
joined_same change.Clash b is = absurd (cc)

joined_clash : (a b : Change) → joined a b ≡ change.Clash → (a ≡ change.Clash) ⊎ (b ≡ change.Clash)
joined_clash change.Same b is = inr is
joined_clash change.More change.Same is = absurd (cc)
joined_clash change.More change.More is = absurd (cc)
joined_clash change.More change.Clash is = inr refl
joined_clash change.Clash b is = inl refl

joined_more : (a b : Change) → joined a b ≡ change.More → (a ≡ change.More) ⊎ (b ≡ change.More)
joined_more change.Same b is = inr is
joined_more change.More b is = inl refl
joined_more change.Clash b is = absurd (cc)

pub step_join : (code : Code) (f : ℕ) (entry : Entry) (xs ys : List ℕ) (after : ℕ) (old middle new : List (Option ℕ)) (a b : Change) → Step code f entry xs after old middle a → Step code f entry ys after middle new b →
    Step code f entry (xs ++ ys) after old new (joined a b)
step_join code f entry xs ys after old middle new a b one two = record {
  long = two.long ∙ one.long;
  kept = λ c. let both = joined_same a b c in two.kept both.1 ∙ one.kept both.0;
  known = λ c.
      let both = joined_same a b c in
      All-append (λ next. depth_at old (next - entry.first) ≡ Some after) xs ys (one.known both.0)
      (subst (λ (l : List (Option ℕ)). All (λ next. depth_at l (next - entry.first) ≡ Some after) ys) (one.kept both.0) (two.known both.1));
  stays = λ q s is. two.stays q s (one.stays q s is);
  reached = λ ways reached. two.reached (λ n h. ways n (Contains-append_right xs ys n h)) (one.reached (λ n h. ways n (Contains-append_left xs ys n h)) reached);
  small = λ few small. let fewer = one.fewer in let long = one.long in two.small (omega arith) (one.small few small);
  clash = λ c ways reached.
      ⊎_elim
      (λ (first : a ≡ change.Clash). one.clash first (λ n h. ways n (Contains-append_left xs ys n h)) reached)
      (λ (second : b ≡ change.Clash). two.clash second (λ n h. ways n (Contains-append_right xs ys n h)) (one.reached (λ n h. ways n (Contains-append_left xs ys n h)) reached))
      (joined_clash a b c);
  fewer = let p = one.fewer in let q = two.fewer in omega arith;
  less = λ c.
      let p = one.fewer in let q = two.fewer in
      ⊎_elim (λ (first : a ≡ change.More). let r = one.less first in omega arith) (λ (second : b ≡ change.More). let r = two.less second in omega arith) (joined_more a b c);
}

step_same : (code : Code) (f : ℕ) (entry : Entry) (after : ℕ) (old new : List (Option ℕ)) (c : Change) → new ≡ old → c ≡ change.Same → Step code f entry [] after old new c
step_same code f entry after old new c kept same =
    subst (λ (d : Change). Step code f entry [] after old new d) (sym same) (subst (λ (l : List (Option ℕ)). Step code f entry [] after old l change.Same) (sym kept) (step_none code f entry after old))

pub step_next : (code : Code) (f : ℕ) (entry : Entry) (next place after : ℕ) (goes_on : Bool) (old new : List (Option ℕ)) (c : Change) → entry.first + place ≡ next → (goes_on ≡ true → place < length old) →
    PutsAt old (cond goes_on (Some place) None) after new c → Step code f entry (cond goes_on (next ∷ []) []) after old new c
step_next code f entry next place after true old new c is inside puts =
    let same : next - entry.first ≡ place = omega arith in
    let less = inside refl in
    step_one code f entry next after old new c (omega arith) (omega arith) (subst (λ n. Puts old n after new c) (sym same) puts)
step_next code f entry next place after false old new c is inside puts = step_same code f entry after old new c puts.0 puts.1

pub step_target : (code : Code) (f : ℕ) (entry : Entry) (after : ℕ) (target : Option ℕ) (old new : List (Option ℕ)) (c : Change) → ((next : ℕ) → Contains (given_target target) next → (entry.first ≤ next) × (next - entry.first < length old)) →
    PutsAt old (option_map (λ t. t - entry.first) target) after new c → Step code f entry (given_target target) after old new c
step_target code f entry after None old new c inside puts = step_same code f entry after old new c puts.0 puts.1
step_target code f entry after (Some next) old new c inside puts =
    let is = inside next (0, omega arith, refl) in
    step_one code f entry next after old new c is.0 is.1 puts

-- one place

more_by_one : (o : Op) (scopes : ℕ) → scopes_after o scopes ≤ scopes + 1
more_by_one op.Enter scopes = omega arith
more_by_one op.Leave scopes = omega arith
more_by_one o scopes = omega arith

pub moves_none : (code : Code) (f : ℕ) (entry : Entry) (place : ℕ) (depths : List (Option ℕ)) →
    ((scopes : ℕ) (i : Instr) → depth_at depths place ≡ Some scopes → slice_get code.instrs (entry.first + place) ≡ Some i → ⊥) → Moves code f entry place (place + 1) depths depths change.Same
moves_none code f entry place depths none = record {
  long = refl;
  kept = λ _. refl;
  closed = λ _ q from before scopes i known here. let same : q ≡ place = omega arith in
      absurd (none scopes i (subst (λ n. depth_at depths n ≡ Some scopes) same known) (subst (λ n. slice_get code.instrs (entry.first + n) ≡ Some i) same here));
  stays = λ q s is. is;
  reached = λ reached. reached;
  small = λ small. small;
  clash = λ c. absurd (cc);
  fewer = omega arith;
  less = λ c. absurd (cc);
}

pub moves_step : (code : Code) (f : ℕ) (entry : Entry) (place scopes : ℕ) (i : Instr) (nexts : List ℕ) (old new : List (Option ℕ)) (c : Change) →
    slice_get code.funcs f ≡ Some entry → entry.first + place < end_of code f → depth_at old place ≡ Some scopes → slice_get code.instrs (entry.first + place) ≡ Some i → edges i i.op (entry.first + place) ≡ nexts →
    ((next : ℕ) → Contains nexts next → entry.first ≤ next) → AreSmall old → Step code f entry nexts (scopes_after i.op scopes) old new c → Moves code f entry place (place + 1) old new c
moves_step code f entry place scopes i nexts old new c function before known here is from small step =
    let point = entry.first + place in
    let after = scopes_after i.op scopes in
    let at : IsAt code f entry point i = record { function = function; from = omega arith; before = before; here = here } in
    let ways : AreReached code f entry old → Open code f entry nexts after = λ reached n there.
    (from n there, Opens.goes point n scopes i (reached place scopes known) at (subst (λ (l : List ℕ). Contains l n) (sym is) there)) in
    let few = small place scopes known in let more = more_by_one i.op scopes in
    record {
      long = step.long;
      kept = step.kept;
      closed = λ same q first end s j known_q here_q.
          let one : q ≡ place = omega arith in
          let s_is : s ≡ scopes = some_same s scopes (sym known_q ∙ ap (λ n. depth_at old n) one ∙ known) in
          let j_is : j ≡ i = instr_same j i (sym here_q ∙ ap (λ n. slice_get code.instrs (entry.first + n)) one ∙ here) in
          subst (λ n. All (λ next. depth_at old (next - entry.first) ≡ Some (scopes_after j.op s)) (edges j j.op (entry.first + n))) (sym one)
          (subst (λ t. All (λ next. depth_at old (next - entry.first) ≡ Some (scopes_after j.op t)) (edges j j.op point)) (sym s_is)
          (subst (λ (k : Instr). All (λ next. depth_at old (next - entry.first) ≡ Some (scopes_after k.op scopes)) (edges k k.op point)) (sym j_is)
          (subst (λ (l : List ℕ). All (λ next. depth_at old (next - entry.first) ≡ Some after) l) (sym is) (step.known same))));
      stays = step.stays;
      reached = λ reached. step.reached (ways reached) reached;
      small = λ h. step.small (omega arith) h;
      clash = λ clash reached. step.clash clash (ways reached) reached;
      fewer = step.fewer;
      less = step.less;
    }

-- where the run may go from a place is inside
ways_inside : (code : Code) (f : ℕ) (entry : Entry) (place : ℕ) (i : Instr) (nexts : List ℕ) (depths : List (Option ℕ)) → StaysInside code f entry → entry.first + length depths ≡ end_of code f → place < length depths →
    slice_get code.instrs (entry.first + place) ≡ Some i → edges i i.op (entry.first + place) ≡ nexts → (next : ℕ) → Contains nexts next → (entry.first ≤ next) × (next - entry.first < length depths)
ways_inside code f entry place i nexts depths inside long less here is next there =
    let all = subst (λ (l : List ℕ). All (λ n. (entry.first ≤ n) × (n < end_of code f)) l) is (inside (entry.first + place) i (omega arith) (omega arith) here) in
    let one = All-contains (λ n. (entry.first ≤ n) × (n < end_of code f)) nexts next all there in
    (one.0, let a = one.0 in let b = one.1 in omega arith)

pub next_inside : (code : Code) (f : ℕ) (entry : Entry) (place : ℕ) (i : Instr) (e : Edges) (depths : List (Option ℕ)) → StaysInside code f entry → entry.first + length depths ≡ end_of code f → place < length depths →
    slice_get code.instrs (entry.first + place) ≡ Some i → edges i i.op (entry.first + place) ≡ leads_to e (entry.first + place) → e.next ≡ true → place + 1 < length depths
next_inside code f entry place i e depths inside long less here is on =
    let there : Contains (leads_to e (entry.first + place)) (entry.first + place + 1) =
    subst (λ b. Contains (cond b ((entry.first + place + 1) ∷ []) [] ++ given_target e.target) (entry.first + place + 1)) (sym on)
    (Contains-append_left ((entry.first + place + 1) ∷ []) (given_target e.target) (entry.first + place + 1) (0, omega arith, refl)) in
    let one = ways_inside code f entry place i (leads_to e (entry.first + place)) depths inside long less here is (entry.first + place + 1) there in
    let b = one.1 in omega arith

pub target_inside : (code : Code) (f : ℕ) (entry : Entry) (place : ℕ) (i : Instr) (e : Edges) (depths : List (Option ℕ)) → StaysInside code f entry → entry.first + length depths ≡ end_of code f → place < length depths →
    slice_get code.instrs (entry.first + place) ≡ Some i → edges i i.op (entry.first + place) ≡ leads_to e (entry.first + place) → (next : ℕ) → Contains (given_target e.target) next → (entry.first ≤ next) × (next - entry.first < length depths)
target_inside code f entry place i e depths inside long less here is next there =
    ways_inside code f entry place i (leads_to e (entry.first + place)) depths inside long less here is next
    (Contains-append_right (cond e.next ((entry.first + place + 1) ∷ []) []) (given_target e.target) next there)

pub visited : (code : Code) (f : ℕ) (entry : Entry) (place scopes after : ℕ) (i : Instr) (e : Edges) (old middle new : List (Option ℕ)) (a b r : Change) → slice_get code.funcs f ≡ Some entry → StaysInside code f entry →
    entry.first + length old ≡ end_of code f → place < length old → AreSmall old → depth_at old place ≡ Some scopes → slice_get code.instrs (entry.first + place) ≡ Some i → after ≡ scopes_after i.op scopes →
    edges i i.op (entry.first + place) ≡ leads_to e (entry.first + place) → PutsAt old (cond e.next (Some (place + 1)) None) after middle a → PutsAt middle (option_map (λ t. t - entry.first) e.target) after new b → r ≡ joined a b →
    Moves code f entry place (place + 1) old new r
visited code f entry place scopes after i e old middle new a b r function inside long less small known here after_is is one two r_is =
    let point = entry.first + place in
    let first = step_next code f entry (point + 1) (place + 1) after e.next old middle a (omega arith) (next_inside code f entry place i e old inside long less here is) one in
    let length_is = first.long in
    let second = step_target code f entry after e.target middle new b
    (λ next there. let t = target_inside code f entry place i e old inside long less here is next there in (t.0, let q = t.1 in omega arith)) two in
    let both = step_join code f entry (cond e.next ((point + 1) ∷ []) []) (given_target e.target) after old middle new a b first second in
    subst (λ (c : Change). Moves code f entry place (place + 1) old new c) (sym r_is)
    (moves_step code f entry place scopes i (leads_to e point) old new (joined a b) function (omega arith) known here is
    (λ next there. (ways_inside code f entry place i (leads_to e point) old inside long less here is next there).0) small
    (subst (λ n. Step code f entry (leads_to e point) n old new (joined a b)) after_is both))

-- many places

pub moves_zero : (code : Code) (f : ℕ) (entry : Entry) (depths : List (Option ℕ)) → Moves code f entry 0 0 depths depths change.Same
moves_zero code f entry depths = record {
  long = refl;
  kept = λ _. refl;
  closed = λ _ q from before scopes i known here. absurd (omega arith);
  stays = λ q s is. is;
  reached = λ reached. reached;
  small = λ small. small;
  clash = λ c. absurd (cc);
  fewer = omega arith;
  less = λ c. absurd (cc);
}

pub moves_join : (code : Code) (f : ℕ) (entry : Entry) (place : ℕ) (old middle new : List (Option ℕ)) (a b r : Change) → Moves code f entry 0 place old middle a → Moves code f entry place (place + 1) middle new b → r ≡ joined a b →
    Moves code f entry 0 (place + 1) old new r
moves_join code f entry place old middle new a b r one two r_is =
    subst (λ (c : Change). Moves code f entry 0 (place + 1) old new c) (sym r_is) (record {
      long = two.long ∙ one.long;
      kept = λ c. let both = joined_same a b c in two.kept both.1 ∙ one.kept both.0;
      closed = λ c q from before.
          let both = joined_same a b c in
          ⊎_elim
          (λ (less : q < place). one.closed both.0 q from less)
          (λ (past : place ≤ q). subst (λ (l : List (Option ℕ)). IsClosedAt code entry l q) (one.kept both.0) (two.closed both.1 q past before))
          (cases_lt q place);
      stays = λ q s is. two.stays q s (one.stays q s is);
      reached = λ reached. two.reached (one.reached reached);
      small = λ small. two.small (one.small small);
      clash = λ c reached.
          ⊎_elim (λ (first : a ≡ change.Clash). one.clash first reached) (λ (second : b ≡ change.Clash). two.clash second (one.reached reached)) (joined_clash a b c);
      fewer = let p = one.fewer in let q = two.fewer in omega arith;
      less = λ c.
          let p = one.fewer in let q = two.fewer in
          ⊎_elim (λ (first : a ≡ change.More). let r = one.less first in omega arith) (λ (second : b ≡ change.More). let r = two.less second in omega arith) (joined_more a b c);
    })

pub puts_long : (old : List (Option ℕ)) (o : Option ℕ) (after : ℕ) (new : List (Option ℕ)) (c : Change) → PutsAt old o after new c → length new ≡ length old
puts_long old None after new c puts = ap length puts.0
puts_long old (Some place) after new change.Same puts = ap length puts.0
puts_long old (Some place) after new change.More puts = ap length puts.0 ∙ length-set old place (Some after)
puts_long old (Some place) after new change.Clash puts = ap length puts.0

pub target_if : (first long : ℕ) (target : Option ℕ) → ((next : ℕ) → Contains (given_target target) next → (first ≤ next) × (next - first < long)) → IfSome target (λ t. (first ≤ t) × (t - first < long))
target_if first long None inside = tt
target_if first long (Some next) inside = inside next (0, omega arith, refl)
