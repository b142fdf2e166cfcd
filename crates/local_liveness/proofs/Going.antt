-- One point back, along its edges.
use Rattle.std.proofs.Common.{◌≡◌, ◌≤◌, ◌+◌, ◌&&◌, ◌||◌, ℕ, zero, suc, Bool, true, false, cond, not, List, [], ◌∷◌, ◌++◌, Option, Some, None, length, refl, sym, ap, ◌∙◌, subst, arith, ⊎_elim, true≢false}
use Rattle.std.specs.Prelude.{slice_get, All, Contains}
use Rattle.std.specs.List.{list_any}
use Rattle.std.specs.Option.{option_map_or}
use Rattle.std.proofs.lemmas.Bool.{or_cases, or_left, or_right, and_parts, not-true}
use Rattle.std.proofs.lemmas.List.Elements.{All-cons, All-head, All-tail, Contains-append_cases, Contains-append_left, Contains-append_right}
use Rattle.std.proofs.lemmas.Option.{slice_get_past}
use Rattle.core_tree.specs.declared.flow.Edges.{Edges}
use Rattle.core_tree.specs.declared.statements.Stm.{Stm}
use Rattle.core_tree.specs.declared.statements.StmKind.{StmKind}
use Rattle.core_tree.specs.Statements.{edges, given_target, leads_to, reads, writes, reads_at, writes_at, edges_at}
use Rattle.core_tree.specs.Lives.{IsPath, is_live, live_within}
use Rattle.local_liveness.specs.Sweeps.{JumpsTo, is_live_before, before_within}
use Rattle.local_liveness.specs.Tables.{LiveByPaths}

-- tests and lists
any_where : {X : Type 0} (f : X → Bool) (xs : List X) (x : X) → Contains xs x → f x ≡ true → list_any f xs ≡ true
any_where f [] x among h = let none = among.1 in absurd (omega arith)
any_where f (y ∷ ys) x (zero, less, is) h = or_left (f y) (list_any f ys) (ap f is ∙ h)
any_where f (y ∷ ys) x (suc k, less, is) h = or_right (f y) (list_any f ys) (any_where f ys x (k, omega arith, is) h)

any_among : {X : Type 0} (f : X → Bool) (xs : List X) → list_any f xs ≡ true → (x : X) × Contains xs x × (f x ≡ true)
any_among f [] h = absurd (true≢false (sym h))
any_among f (y ∷ ys) h =
    ⊎_elim
    (λ (here : f y ≡ true). (y, (0, omega arith, refl), here))
    (λ (there : list_any f ys ≡ true). let rest = any_among f ys there in (rest.0, (suc rest.1.0, (let less = rest.1.1 in omega arith), rest.1.2), rest.2))
    (or_cases (f y) (list_any f ys) h)

pub same_bools : (a b : Bool) → (a ≡ true → b ≡ true) → (b ≡ true → a ≡ true) → a ≡ b
same_bools true b f g = sym (f refl)
same_bools false true f g = g refl
same_bools false false f g = refl

-- past the last statement nothing is live
no_edges : (body : List Stm) (p : ℕ) → length body ≤ p → edges_at body p ≡ []
no_edges body p past = ap (λ (o : Option Stm). option_map_or (λ (s : Stm). edges s.kind p) o []) (slice_get_past body p past)

within_past : (body : List Stm) (r n p : ℕ) → length body ≤ p → live_within body r n p ≡ false
unfolding live_within
within_past body r zero p past = refl
within_past body r (suc n) p past =
    ap (list_any (λ next. reads_at body next r || (not (writes_at body next r) && live_within body r n next))) (no_edges body p past)

pub before_past : (body : List Stm) (r n p : ℕ) → length body ≤ p → before_within body r n p ≡ false
before_past body r n p past =
    ap (λ (o : Option Stm). option_map_or (λ (s : Stm). reads s.kind r) o false || (not (option_map_or (λ (s : Stm). writes s.kind r) o false) && live_within body r n p)) (slice_get_past body p past)
    ∙ within_past body r n p past

pub is_within : (body : List Stm) (p r : ℕ) → is_live body p r ≡ live_within body r (length body) p
unfolding is_live
is_within body p r = refl

pub live_past : (body : List Stm) (p r : ℕ) → length body ≤ p → is_live body p r ≡ false
live_past body p r past = is_within body p r ∙ within_past body r (length body) p past

pub before_is_within : (body : List Stm) (p r : ℕ) → is_live_before body p r ≡ before_within body r (length body) p
before_is_within body p r = ap (λ b. reads_at body p r || (not (writes_at body p r) && b)) (is_within body p r)

pub live_before_past : (body : List Stm) (r p : ℕ) → length body ≤ p → is_live_before body p r ≡ false
live_before_past body r p past = before_is_within body p r ∙ before_past body r (length body) p past

-- what is live in front of a point is live after one that leads to it
pub live_from :
    LiveByPaths → (body : List Stm) (from to r : ℕ) → Contains (edges_at body from) to → is_live_before body to r ≡ true → is_live body from r ≡ true
live_from paths body from to r edge e =
    (paths body from r).1
    (⊎_elim
    (λ (read : reads_at body to r ≡ true).
    record { before = []; read = to; path = (edge, tt); unwritten = λ k d b. absurd (omega arith); is_read = read })
    (λ (goes : (not (writes_at body to r) && is_live body to r) ≡ true).
    let parts = and_parts (not (writes_at body to r)) (is_live body to r) goes in
    let rest = (paths body to r).0 parts.1 in
    record {
      before = to ∷ rest.before;
      read = rest.read;
      path = (edge, rest.path);
      unwritten = All-cons (λ p. writes_at body p r ≡ false) to rest.before (not-true (writes_at body to r) parts.0) rest.unwritten;
      is_read = rest.is_read;
    })
    (or_cases (reads_at body to r) (not (writes_at body to r) && is_live body to r) e))

-- and what is live after a point is live in front of one to which it leads
along :
    LiveByPaths → (body : List Stm) (p r : ℕ) (before : List ℕ) (read : ℕ) → IsPath body p (before ++ read ∷ []) → All (λ q. writes_at body q r ≡ false) before →
    reads_at body read r ≡ true → list_any (λ q. is_live_before body q r) (edges_at body p) ≡ true
along paths body p r [] read path unwritten is_read =
    any_where (λ q. is_live_before body q r) (edges_at body p) read path.0 (or_left (reads_at body read r) _ is_read)
along paths body p r (q ∷ before) read path unwritten is_read =
    let live : is_live body q r ≡ true = (paths body q r).1 (record {
      before = before;
      read = read;
      path = path.1;
      unwritten = All-tail (λ p. writes_at body p r ≡ false) q before unwritten;
      is_read = is_read;
    }) in
    let kept : writes_at body q r ≡ false = All-head (λ p. writes_at body p r ≡ false) q before unwritten in
    any_where (λ q. is_live_before body q r) (edges_at body p) q path.0
    (or_right (reads_at body q r) _ (ap (λ w. not w && is_live body q r) kept ∙ live))

pub live_is :
    LiveByPaths → (body : List Stm) (p r : ℕ) → is_live body p r ≡ list_any (λ q. is_live_before body q r) (edges_at body p)
live_is paths body p r =
    same_bools (is_live body p r) (list_any (λ q. is_live_before body q r) (edges_at body p))
    (λ h. let l = (paths body p r).0 h in along paths body p r l.before l.read l.path l.unwritten l.is_read)
    (λ h. let found = any_among (λ q. is_live_before body q r) (edges_at body p) h in live_from paths body p found.0 r found.1 found.2)

-- the edges of a statement that stands at a point, as the program says them
module _ (body : List Stm) (point : ℕ) (stm : Stm) (e : Edges) (stands : slice_get body point ≡ Some stm) (same : (p : ℕ) → edges stm.kind p ≡ leads_to e p) where
  edges_here : edges_at body point ≡ leads_to e point
  edges_here = ap (λ (o : Option Stm). option_map_or (λ (s : Stm). edges s.kind point) o []) stands ∙ same point

  pub jumps_here : (t : ℕ) → e.target ≡ Some t → JumpsTo stm.kind t
  jumps_here t is p =
      subst (λ (ps : List ℕ). Contains ps t) (sym (same p ∙ ap (λ (o : Option ℕ). cond e.next ((p + 1) ∷ []) [] ++ given_target o) is))
      (Contains-append_right (cond e.next ((p + 1) ∷ []) []) (t ∷ []) t (0, omega arith, refl))

  pub target_edge : (t : ℕ) → e.target ≡ Some t → Contains (edges_at body point) t
  target_edge t is =
      subst (λ (ps : List ℕ). Contains ps t) (sym (edges_here ∙ ap (λ (o : Option ℕ). cond e.next ((point + 1) ∷ []) [] ++ given_target o) is))
      (Contains-append_right (cond e.next ((point + 1) ∷ []) []) (t ∷ []) t (0, omega arith, refl))

  pub next_edge : e.next ≡ true → Contains (edges_at body point) (point + 1)
  next_edge is =
      subst (λ (ps : List ℕ). Contains ps (point + 1)) (sym (edges_here ∙ ap (λ b. cond b ((point + 1) ∷ []) [] ++ given_target e.target) is))
      (Contains-append_left ((point + 1) ∷ []) (given_target e.target) (point + 1) (0, omega arith, refl))

  -- a test of the next point and of the target
  pub any_edge : (f : ℕ → Bool) → list_any f (edges_at body point) ≡ ((e.next && f (point + 1)) || option_map_or f e.target false)
  any_edge f = ap (list_any f) edges_here ∙ both e.next e.target where
    both : (next : Bool) (target : Option ℕ) → list_any f (cond next ((point + 1) ∷ []) [] ++ given_target target) ≡ ((next && f (point + 1)) || option_map_or f target false)
    both true None = or_end (f (point + 1)) where
      or_end : (b : Bool) → (b || false) ≡ ((true && b) || false)
      or_end true = refl
      or_end false = refl
    both true (Some t) = or_last (f (point + 1)) (f t) where
      or_last : (b c : Bool) → (b || (c || false)) ≡ ((true && b) || c)
      or_last true c = refl
      or_last false true = refl
      or_last false false = refl
    both false None = refl
    both false (Some t) = last (f t) where
      last : (c : Bool) → (c || false) ≡ c
      last true = refl
      last false = refl

-- a statement jumps only to its target
pub target_of_jump : (kind : StmKind) (e : Edges) → ((p : ℕ) → edges kind p ≡ leads_to e p) → (t : ℕ) → JumpsTo kind t → e.target ≡ Some t
target_of_jump kind e same t jumps =
    ⊎_elim
    (λ (next : Contains (cond e.next ((t + 1) ∷ []) []) t). absurd (not_next e.next next))
    (λ (target : Contains (given_target e.target) t). only e.target target)
    (Contains-append_cases (cond e.next ((t + 1) ∷ []) []) (given_target e.target) t (subst (λ (ps : List ℕ). Contains ps t) (same t) (jumps t)))
  where
    not_next : (next : Bool) → Contains (cond next ((t + 1) ∷ []) []) t → ⊥
    not_next true (zero, less, is) = omega arith
    not_next true (suc k, less, is) = omega arith
    not_next false (k, less, is) = omega arith

    only : (target : Option ℕ) → Contains (given_target target) t → target ≡ Some t
    only None (k, less, is) = absurd (omega arith)
    only (Some l) (zero, less, is) = ap Some is
    only (Some l) (suc k, less, is) = absurd (omega arith)
