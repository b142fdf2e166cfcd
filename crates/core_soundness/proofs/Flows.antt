-- How control flows through code: marks of labels, bodies, and fragments that are put one behind another.
use Rattle.core_soundness.proofs.Words.Std.{◌≡◌, ◌⊎◌, ◌≤◌, ◌<◌, ◌+◌, ℕ, false, cond, nat_eq, List, [], ◌∷◌, ◌++◌, refl, sym, ap, ◌∙◌, subst, arith, inl, inr, eq-eqb, ne_eqb, zero, suc, Bool, true, length, Option, Some, option_map, slice_get, slice_index_or, All, Contains, ⊎_elim, eqb-true, true≢false, eqb-false, All-nil, All-cons}
use Rattle.core_soundness.proofs.Words.Core.{EachStatement, LeadsOn, HasScopes, Opens, start, goes, scopes_after, edges, edges_of_lib, Atom, LibName, Stm, StmKind, Jump, Zero, Case, Loop, Enter, Leave, Return}
use Rattle.core_soundness.proofs.Words.Elaborating.{Piece, Does, Here, Numbers, numbered, atom_by, point_in, body_of}

-- the flow of control through pieces of code: where the labels stand, and how many scopes are open there

-- where labels stand: before which point, and with how many scopes open
pub record Marks : Type 0 where
  pub point : ℕ → ℕ
  pub depth : ℕ → ℕ

-- Q of the label to which a statement may go
abbrev pub Target : (ℕ → Type 0) → StmKind → Type 0
Target Q (Jump l) = Q l
Target Q (Zero a l) = Q l
Target Q (Case a v l) = Q l
Target Q (Loop l) = Q l
Target Q kind = Unit {0}

-- Q of each label to which pieces may go, and of each label that they place
abbrev pub Targets : (ℕ → Type 0) → List Piece → Type 0
Targets Q [] = Unit {0}
Targets Q (Does stm ∷ rest) = Target Q stm.kind × Targets Q rest
Targets Q (Here l ∷ rest) = Targets Q rest

abbrev pub Places : (ℕ → Type 0) → List Piece → Type 0
Places Q [] = Unit {0}
Places Q (Does stm ∷ rest) = Places Q rest
Places Q (Here l ∷ rest) = Q l × Places Q rest

-- a label is placed among pieces
abbrev pub Placed : ℕ → List Piece → Type 0
Placed l [] = ⊥
Placed l (Does stm ∷ rest) = Placed l rest
Placed l (Here k ∷ rest) = (l ≡ k) ⊎ Placed l rest

-- the statements among pieces
abbrev pub steps : List Piece → ℕ
steps [] = 0
steps (Does stm ∷ rest) = steps rest + 1
steps (Here l ∷ rest) = steps rest

-- a statement at a point with so many scopes open leaves so many open: behind one that never goes on any number may be
abbrev pub Goes : Marks → StmKind → ℕ → ℕ → ℕ → Type 0
Goes m (Jump l) p n k = (m.depth l ≡ n) × (p < m.point l)
Goes m (Zero a l) p n k = (m.depth l ≡ n) × (p < m.point l) × (k ≡ n)
Goes m (Case a v l) p n k = (m.depth l ≡ n) × (p < m.point l) × (k ≡ n)
Goes m (Loop l) p n k = m.depth l ≡ n
Goes m Enter p n k = k ≡ n + 1
Goes m Leave p n k = n ≡ k + 1
Goes m (Return a) p n k = n ≡ 0
Goes m kind p n k = k ≡ n

-- pieces from a point on, where so many scopes are open before them and so many behind
abbrev pub Flows : Marks → List Piece → ℕ → ℕ → ℕ → Type 0
Flows m [] p n k = n ≡ k
Flows m (Does stm ∷ rest) p n k = (j : ℕ) × Goes m stm.kind p n j × Flows m rest (p + 1) j k
Flows m (Here l ∷ rest) p n k = (m.point l ≡ p) × (m.depth l ≡ n) × Flows m rest p n k

-- other marks are the same below a label
pub record Agree (l : ℕ) (m other : Marks) : Type 0 where
  pub points : (k : ℕ) → k < l → other.point k ≡ m.point k
  pub depths : (k : ℕ) → k < l → other.depth k ≡ m.depth k

pub agree_refl : (l : ℕ) (m : Marks) → Agree l m m
agree_refl l m = record { points = λ k h. refl; depths = λ k h. refl }

pub agree_trans : (l j : ℕ) (a b c : Marks) → l ≤ j → Agree l a b → Agree j b c → Agree l a c
agree_trans l j a b c le x y = search arith

-- lists of pieces

pub steps_append : (a b : List Piece) → steps (a ++ b) ≡ steps a + steps b
steps_append [] b = omega arith
steps_append (Does stm ∷ a) b = omega (arith, steps_append a b)
steps_append (Here l ∷ a) b = steps_append a b

pub targets_append : (Q : ℕ → Type 0) (a b : List Piece) → Targets Q a → Targets Q b → Targets Q (a ++ b)
targets_append Q [] b x y = y
targets_append Q (Does stm ∷ a) b x y = (x.0, targets_append Q a b x.1 y)
targets_append Q (Here l ∷ a) b x y = targets_append Q a b x y

pub targets_map : (Q R : ℕ → Type 0) (a : List Piece) → ((l : ℕ) → Q l → R l) → Targets Q a → Targets R a
targets_map Q R [] f h = tt
targets_map Q R (Does stm ∷ a) f h = (search arith fits 100, targets_map Q R a f h.1)
targets_map Q R (Here l ∷ a) f h = targets_map Q R a f h

pub places_append : (Q : ℕ → Type 0) (a b : List Piece) → Places Q a → Places Q b → Places Q (a ++ b)
places_append Q [] b x y = y
places_append Q (Does stm ∷ a) b x y = places_append Q a b x y
places_append Q (Here l ∷ a) b x y = (x.0, places_append Q a b x.1 y)

pub places_map : (Q R : ℕ → Type 0) (a : List Piece) → ((l : ℕ) → Q l → R l) → Places Q a → Places R a
places_map Q R [] f h = tt
places_map Q R (Does stm ∷ a) f h = places_map Q R a f h
places_map Q R (Here l ∷ a) f h = (f l h.0, places_map Q R a f h.1)

pub placed_left : (l : ℕ) (a b : List Piece) → Placed l a → Placed l (a ++ b)
placed_left l [] b h = absurd h
placed_left l (Does stm ∷ a) b h = placed_left l a b h
placed_left l (Here k ∷ a) b (inl e) = inl e
placed_left l (Here k ∷ a) b (inr h) = inr (placed_left l a b h)

pub placed_right : (l : ℕ) (a b : List Piece) → Placed l b → Placed l (a ++ b)
placed_right l [] b h = h
placed_right l (Does stm ∷ a) b h = placed_right l a b h
placed_right l (Here k ∷ a) b h = inr (placed_right l a b h)

-- flows

pub flows_at : (m : Marks) (a : List Piece) (p q n k : ℕ) → p ≡ q → Flows m a p n k → Flows m a q n k
flows_at m a p q n k e h = subst (λ x. Flows m a x n k) e h

pub flows_append : (m : Marks) (a b : List Piece) (p n j k : ℕ) → Flows m a p n j → Flows m b (p + steps a) j k → Flows m (a ++ b) p n k
flows_append m [] b p n j k x y = subst (λ (i : ℕ). Flows m b p i k) (sym x) (flows_at m b (p + 0) p j k (omega arith) y)
flows_append m (Does stm ∷ a) b p n j k x y =
    (x.0, x.1, flows_append m a b (p + 1) x.0 j k x.2 (flows_at m b (p + (steps a + 1)) (p + 1 + steps a) j k (omega arith) y))
flows_append m (Here l ∷ a) b p n j k x y = (x.0, x.1, flows_append m a b p n j k x.2 y)

pub flows_agree : (l : ℕ) (m other : Marks) (a : List Piece) (p n k : ℕ) → Agree l m other → Targets (λ t. t < l) a → Places (λ t. t < l) a → Flows m a p n k → Flows other a p n k
flows_agree l m other [] p n k same targets places h = h
flows_agree l m other (Does stm ∷ a) p n k same targets places h =
    (h.0, search arith fits 100, flows_agree l m other a (p + 1) h.0 k same targets.1 places h.2)
flows_agree l m other (Here t ∷ a) p n k same targets places h =
    (same.points t places.0 ∙ h.0, same.depths t places.0 ∙ h.1, flows_agree l m other a p n k same targets places.1 h.2)

-- a mark more, of a label above those so far

abbrev with_mark : ℕ → ℕ → ℕ → Marks → Marks
with_mark l p n m = record {
  point = λ k. cond (nat_eq k l) p (m.point k);
  depth = λ k. cond (nat_eq k l) n (m.depth k);
}

pub record Marked (l p n : ℕ) (m : Marks) : Type 0 where
  pub marks : Marks
  pub same : Agree l m marks
  pub point : marks.point l ≡ p
  pub depth : marks.depth l ≡ n

pub marked : (l p n : ℕ) (m : Marks) → Marked l p n m
marked l p n m = record {
  marks = with_mark l p n m;
  same = record {
    points = λ k h. let e : nat_eq k l ≡ false = ne_eqb k l (λ (q : k ≡ l). omega arith) in ap (λ b. cond b p (m.point k)) e;
    depths = λ k h. let e : nat_eq k l ≡ false = ne_eqb k l (λ (q : k ≡ l). omega arith) in ap (λ b. cond b n (m.depth k)) e;
  };
  point = ap (λ b. cond b p (m.point l)) (eq-eqb l l refl);
  depth = ap (λ b. cond b n (m.depth l)) (eq-eqb l l refl);
}

-- labels that are placed are below what bounds all that are placed
pub placed_below : (Q : ℕ → Type 0) (l : ℕ) (a : List Piece) → Places Q a → Placed l a → Q l
placed_below Q l [] h p = absurd p
placed_below Q l (Does stm ∷ a) h p = placed_below Q l a h p
placed_below Q l (Here k ∷ a) h (inl e) = subst Q (sym e) h.0
placed_below Q l (Here k ∷ a) h (inr p) = placed_below Q l a h.1 p

-- what the flow of pieces says of the body that they resolve to

-- what is in a short list

none_of : (x : ℕ) → Contains [] x → ⊥
none_of x h = omega (arith, h.1)

one_of : (a x : ℕ) → Contains (a ∷ []) x → x ≡ a
one_of a x h = search arith fits 100

two_at : (a b x k : ℕ) → k < 2 → slice_index_or (a ∷ b ∷ []) k x ≡ x → (x ≡ a) ⊎ (x ≡ b)
two_at a b x k h e = search arith fits 100

two_of : (a b x : ℕ) → Contains (a ∷ b ∷ []) x → (x ≡ a) ⊎ (x ≡ b)
two_of a b x h = two_at a b x h.0 h.1 h.2

one_all : (P : ℕ → Type 0) (a : ℕ) → P a → All P (a ∷ [])
one_all P a h = All-cons P a [] h (All-nil P)

two_all : (P : ℕ → Type 0) (a b : ℕ) → P a → P b → All P (a ∷ b ∷ [])
two_all P a b x y = All-cons P a (b ∷ []) x (one_all P b y)

module _ (num : Numbers) where
  pub body_length : (a : List Piece) → length (body_of num a) ≡ steps a
  body_length [] = refl
  body_length (Does stm ∷ a) = omega (arith, body_length a)
  body_length (Here l ∷ a) = body_length a

  -- edges

  kind_inside : (kind : StmKind) (point long : ℕ) → Target (λ l. num.point l < long) kind → point + 1 < long → All (λ next. next < long) (edges (numbered num kind) point)
  unfolding numbered
  kind_inside (Jump l) point long t h = one_all (λ next. next < long) (num.point l) t
  kind_inside kind point long t h = search (arith, two_all, one_all) fits 100

  module _ (m : Marks) where
    kind_ahead : (kind : StmKind) (point n k : ℕ) → Goes m kind point n k → Target (λ l. num.point l ≡ m.point l) kind → LeadsOn point (numbered num kind)
    unfolding numbered
    kind_ahead (Jump l) point n k h t = one_all (λ next. point < next) (num.point l) (omega (arith, h.1, t))
    kind_ahead kind point n k h t = search (arith, two_all, one_all) fits 100

    lib_goes : (depth : ℕ → ℕ) (name : LibName) (point n next : ℕ) → n ≡ depth (point + 1) → Contains (edges_of_lib name point) next → n ≡ depth next
    lib_goes depth name point n next e h = search (arith, none_of, one_of) fits 100

    fork_goes : (depth : ℕ → ℕ) (point l n k next : ℕ) → m.depth l ≡ n → k ≡ n → depth (num.point l) ≡ m.depth l → k ≡ depth (point + 1) → Contains ((point + 1) ∷ num.point l ∷ []) next → n ≡ depth next
    fork_goes depth point l n k next d same t e h = search (arith, two_of)

    kind_goes : (depth : ℕ → ℕ) (kind : StmKind) (point n k next : ℕ) → Goes m kind point n k → Target (λ l. depth (num.point l) ≡ m.depth l) kind → k ≡ depth (point + 1)
        → Contains (edges (numbered num kind) point) next → scopes_after (numbered num kind) n ≡ depth next
    unfolding numbered
    kind_goes depth (Jump l) point n k next h t e c = sym h.0 ∙ sym t ∙ ap depth (sym (one_of (num.point l) next c))
    kind_goes depth kind point n k next h t e c = search (arith, fork_goes, one_of, lib_goes, none_of) fits 100

    is_leave : StmKind → Bool
    is_leave Leave = true
    is_leave kind = false

    kind_closes : (kind : StmKind) (point n k : ℕ) → Goes m kind point n k → is_leave (numbered num kind) ≡ true → 0 < n
    unfolding numbered is_leave
    kind_closes kind point n k h e = search arith fits 100

    is_return : StmKind → Bool
    is_return (Return a) = true
    is_return kind = false

    kind_ends : (kind : StmKind) (point n k : ℕ) → Goes m kind point n k → is_return (numbered num kind) ≡ true → n ≡ 0
    unfolding numbered is_return
    kind_ends kind point n k h e = search arith fits 100

    -- how many scopes are open at a point behind the start of pieces
    abbrev depth_at : (a : List Piece) (p n k : ℕ) → Flows m a p n k → ℕ → ℕ
    depth_at [] p n k h i = n
    depth_at (Does stm ∷ a) p n k h zero = n
    depth_at (Does stm ∷ a) p n k h (suc i) = depth_at a (p + 1) h.0 k h.2 i
    depth_at (Here l ∷ a) p n k h i = depth_at a p n k h.2 i

    depth_start : (a : List Piece) (p n k : ℕ) (h : Flows m a p n k) → depth_at a p n k h 0 ≡ n
    depth_start (Here l ∷ a) p n k h = depth_start a p n k h.2
    depth_start other p n k h = refl

    -- a statement of the body is one of the pieces
    record Standing (Q : ℕ → Type 0) (point here next : ℕ) (stm : Stm) : Type 0 where
      kind : StmKind
      is : stm.kind ≡ numbered num kind
      goes : Goes m kind point here next
      target : Target Q kind

    standing : (Q : ℕ → Type 0) (a : List Piece) (p n k : ℕ) (h : Flows m a p n k) (i : ℕ) (stm : Stm) → Targets Q a → slice_get (body_of num a) i ≡ Some stm
        → Standing Q (p + i) (depth_at a p n k h i) (depth_at a p n k h (suc i)) stm
    standing Q [] p n k h i stm t e = cc
    standing Q (Does s ∷ a) p n k h zero stm t e = search (arith, depth_start) fits 100
    standing Q (Does s ∷ a) p n k h (suc i) stm t e = search (arith, (standing Q a (p + 1) h.0 k h.2 i stm t.1 e))
    standing Q (Here l ∷ a) p n k h i stm t e = standing Q a p n k h.2 i stm t e

    -- where a label that is placed stands
    record Labelled (l p point depth : ℕ) : Type 0 where
      stands : m.point l ≡ p + point
      scopes : m.depth l ≡ depth

    labelled : (a : List Piece) (p n k : ℕ) (h : Flows m a p n k) (l : ℕ) → Placed l a → Labelled l p (point_in a l) (depth_at a p n k h (point_in a l))
    labelled [] p n k h l x = absurd x
    labelled (Does stm ∷ a) p n k h l x =
        let rest = labelled a (p + 1) h.0 k h.2 l x in
        let next : point_in a l + 1 ≡ suc (point_in a l) = omega arith in
        record {
          stands = omega (arith, rest.stands);
          scopes = rest.scopes ∙ ap (λ i. depth_at (Does stm ∷ a) p n k h i) (sym next);
        }
    labelled (Here j ∷ a) p n k h l x =
        elim (nat_eq j l) as (λ b. nat_eq j l ≡ b → Labelled l p (cond b 0 (point_in a l)) (depth_at a p n k h.2 (cond b 0 (point_in a l)))) [
          | true ↦ λ e. let same : j ≡ l = eqb-true j l e in record {
            stands = ap m.point (sym same) ∙ h.0 ∙ sym (add_zero p);
            scopes = ap m.depth (sym same) ∙ h.1 ∙ sym (depth_start a p n k h.2);
          }
          | false ↦ λ e. labelled a p n k h.2 l (⊎_elim (λ (w : l ≡ j). absurd (eqb-false j l e (sym w))) (λ (w : Placed l a). w) x)
        ]
        refl
      where
        add_zero : (q : ℕ) → q + 0 ≡ q
        add_zero q = omega arith

  label_inside : (a : List Piece) (last : Stm) (l : ℕ) → Placed l (a ++ Does last ∷ []) → point_in (a ++ Does last ∷ []) l < steps (a ++ Does last ∷ [])
  label_inside [] last l x = absurd x
  label_inside (Does stm ∷ a) last l x = omega (arith, label_inside a last l x)
  label_inside (Here j ∷ a) last l x =
      elim (nat_eq j l) as (λ b. nat_eq j l ≡ b → cond b 0 (point_in (a ++ Does last ∷ []) l) < steps (a ++ Does last ∷ [])) [
        | true ↦ λ e. some a
        | false ↦ λ e. label_inside a last l (⊎_elim (λ (w : l ≡ j). absurd (eqb-false j l e (sym w))) (λ (w : Placed l (a ++ Does last ∷ [])). w) x)
      ]
      refl
    where
      some : (b : List Piece) → 0 < steps (b ++ Does last ∷ [])
      some [] = omega arith
      some (Does stm ∷ b) = omega arith
      some (Here k ∷ b) = some b

  next_inside : (a : List Piece) (last : Stm) (i : ℕ) (stm : Stm) → slice_get (body_of num (a ++ Does last ∷ [])) i ≡ Some stm
      → (i + 1 < steps (a ++ Does last ∷ [])) ⊎ (stm.kind ≡ numbered num last.kind)
  next_inside [] last zero stm e = let same : record { line = last.line; kind = numbered num last.kind } ≡ stm = cc in inr (sym (ap (λ (x : Stm). x.kind) same))
  next_inside [] last (suc i) stm e = cc
  next_inside (Does s ∷ a) last zero stm e = inl (more a)
    where
      more : (b : List Piece) → 0 + 1 < steps (b ++ Does last ∷ []) + 1
      more [] = omega arith
      more (Does t ∷ b) = omega (arith, more b)
      more (Here k ∷ b) = more b
  next_inside (Does s ∷ a) last (suc i) stm e = search (arith, (next_inside a last i stm e))
  next_inside (Here l ∷ a) last i stm e = next_inside a last i stm e

  -- a whole body, which ends in a return, and whose labels are all placed
  module _ (m : Marks) (front : List Piece) (line : ℕ) (a : Option Atom) (out : ℕ)
      (flow : Flows m (front ++ Does (record { line = line; kind = Return a }) ∷ []) 0 0 out)
      (reached : Targets (λ l. Placed l (front ++ Does (record { line = line; kind = Return a }) ∷ [])) (front ++ Does (record { line = line; kind = Return a }) ∷ []))
      (points : (l : ℕ) → num.point l ≡ point_in (front ++ Does (record { line = line; kind = Return a }) ∷ []) l) where
    abbrev last : Stm
    last = record { line = line; kind = Return a }

    abbrev whole : List Piece
    whole = front ++ Does last ∷ []

    abbrev depth : ℕ → ℕ
    depth i = depth_at m whole 0 0 out flow i

    stands : (i : ℕ) (stm : Stm) → slice_get (body_of num whole) i ≡ Some stm → Standing m (λ l. Placed l whole) i (depth i) (depth (suc i)) stm
    stands i stm e = let at : 0 + i ≡ i = omega arith in subst (λ q. Standing m (λ l. Placed l whole) q (depth i) (depth (suc i)) stm) at (standing m (λ l. Placed l whole) whole 0 0 out flow i stm reached e)

    there : (l : ℕ) → Placed l whole → Labelled m l 0 (point_in whole l) (depth (point_in whole l))
    there l x = labelled m whole 0 0 out flow l x

    target_of : (Q : ℕ → Type 0) (kind : StmKind) → ((l : ℕ) → Placed l whole → Q l) → Target (λ l. Placed l whole) kind → Target Q kind
    target_of Q kind f h = search arith fits 100

    pub inside : EachStatement (body_of num whole) (λ point stm. All (λ next. next < length (body_of num whole)) (edges stm.kind point))
    unfolding numbered
    inside point stm e =
        let s = stands point stm e in
        ⊎_elim
        (λ (w : point + 1 < steps whole).
        subst (λ k. All (λ next. next < length (body_of num whole)) (edges k point)) (sym s.is)
        (kind_inside s.kind point (length (body_of num whole))
        (target_of _ s.kind (λ l x. omega (arith, points l, label_inside front last l x, body_length whole)) s.target) (omega (arith, w, body_length whole))))
        (λ (w : stm.kind ≡ Return (option_map (atom_by num) a)).
        subst (λ k. All (λ next. next < length (body_of num whole)) (edges k point)) (sym w) (All-nil _))
        (next_inside front last point stm e)

    pub ahead : EachStatement (body_of num whole) (λ point stm. LeadsOn point stm.kind)
    ahead point stm e =
        let s = stands point stm e in
        subst (LeadsOn point) (sym s.is) (kind_ahead m s.kind point (depth point) (depth (suc point)) s.goes
        (target_of _ s.kind (λ l x. omega (arith, points l, (there l x).stands)) s.target))

    opened : (point scopes : ℕ) → Opens (body_of num whole) point scopes → scopes ≡ depth point
    opened point scopes start = sym (depth_start m whole 0 0 out flow)
    opened there_to scopes (goes point next before stm way here edge) =
        let s = stands point stm here in
        let had : before ≡ depth point = opened point before way in
        let one : suc point ≡ point + 1 = omega arith in
        ap (scopes_after stm.kind) had
        ∙ ap (λ k. scopes_after k (depth point)) s.is
        ∙ kind_goes m depth s.kind point (depth point) (depth (suc point)) next s.goes
        (target_of _ s.kind (λ l x. ap depth (points l) ∙ sym (there l x).scopes) s.target)
        (ap depth one) (subst (λ k. Contains (edges k point) next) s.is edge)

    pub scopes : HasScopes (body_of num whole)
    unfolding is_leave is_return
    scopes = record {
      same = λ point one other x y. opened point one x ∙ sym (opened point other y);
      closes = λ point stm e scopes way is.
          let s = stands point stm e in
          subst (λ n. 0 < n) (sym (opened point scopes way)) (kind_closes m s.kind point (depth point) (depth (suc point)) s.goes (ap (is_leave m) (sym s.is ∙ is)));
      ends = λ point stm e scopes b way is.
          let s = stands point stm e in
          opened point scopes way ∙ kind_ends m s.kind point (depth point) (depth (suc point)) s.goes (ap (is_return m) (sym s.is ∙ is));
    }

-- fragments of code: their labels stand among themselves, and control leaves them at their end, or to labels around them

abbrev pub stm_at : ℕ → StmKind → Stm
stm_at line kind = record { line = line; kind = kind }

-- a label around, with how many scopes are open there; code goes back to it, or on
pub record Way : Type 0 where
  pub label : ℕ
  pub depth : ℕ
  pub back : Bool

abbrev pub way_on : ℕ → ℕ → Way
way_on l n = record { label = l; depth = n; back = false }

abbrev pub way_back : ℕ → ℕ → Way
way_back l n = record { label = l; depth = n; back = true }

abbrev pub IsWay : List Way → ℕ → Type 0
IsWay [] l = ⊥
IsWay (w ∷ ws) l = (l ≡ w.label) ⊎ IsWay ws l

-- they stand at a point or behind it, unless code goes back to them
pub record Stands (m : Marks) (end : ℕ) (w : Way) : Type 0 where
  pub depth : m.depth w.label ≡ w.depth
  pub ahead : w.back ≡ false → end ≤ m.point w.label

abbrev pub Leads : Marks → ℕ → List Way → Type 0
Leads m end [] = Unit {0}
Leads m end (w ∷ ws) = Stands m end w × Leads m end ws

-- they were made before a label
abbrev pub AreEarlier : ℕ → List Way → Type 0
AreEarlier l [] = Unit {0}
AreEarlier l (w ∷ ws) = (w.label < l) × AreEarlier l ws

pub leads_less : (m : Marks) (small large : ℕ) (ws : List Way) → small ≤ large → Leads m large ws → Leads m small ws
leads_less m small large [] le h = tt
leads_less m small large (w ∷ ws) le h =
    (record { depth = h.0.depth; ahead = λ e. omega (arith, h.0.ahead e) }, leads_less m small large ws le h.1)

pub leads_agree : (l : ℕ) (m other : Marks) (end : ℕ) (ws : List Way) → Agree l m other → AreEarlier l ws → Leads m end ws → Leads other end ws
leads_agree l m other end [] same early h = tt
leads_agree l m other end (w ∷ ws) same early h = (
  record { depth = same.depths w.label early.0 ∙ h.0.depth; ahead = λ e. omega (arith, same.points w.label early.0, h.0.ahead e) },
  leads_agree l m other end ws same early.1 h.1,
)

pub earlier_less : (l k : ℕ) (ws : List Way) → l ≤ k → AreEarlier l ws → AreEarlier k ws
earlier_less l k [] le h = tt
earlier_less l k (w ∷ ws) le h = (omega (arith, h.0), earlier_less l k ws le h.1)

-- labels to which others may go: they stand at a point or behind it, with so many scopes open
abbrev pub Entered : Marks → ℕ → ℕ → List ℕ → Type 0
Entered m p n [] = Unit {0}
Entered m p n (l ∷ rest) = (p ≤ m.point l) × (m.depth l ≡ n) × Entered m p n rest

abbrev pub ArePlaced : List ℕ → List Piece → Type 0
ArePlaced [] a = Unit {0}
ArePlaced (l ∷ rest) a = Placed l a × ArePlaced rest a

pub entered_append : (m : Marks) (p n : ℕ) (s t : List ℕ) → Entered m p n s → Entered m p n t → Entered m p n (s ++ t)
entered_append m p n [] t x y = y
entered_append m p n (l ∷ s) t x y = (x.0, x.1, entered_append m p n s t x.2 y)

pub entered_less : (m : Marks) (p q n : ℕ) (s : List ℕ) → p ≤ q → Entered m q n s → Entered m p n s
entered_less m p q n [] le h = tt
entered_less m p q n (l ∷ s) le h = (omega (arith, h.0), h.1, entered_less m p q n s le h.2)

pub placed_append : (s t : List ℕ) (a b : List Piece) → ArePlaced s a → ArePlaced t b → ArePlaced (s ++ t) (a ++ b)
placed_append [] [] a b x y = tt
placed_append [] (l ∷ t) a b x y = (placed_right l a b y.0, placed_append [] t a b x y.1)
placed_append (l ∷ s) t a b x y = (placed_left l a b x.0, placed_append s t a b x.1 y)

pub entered_agree : (l : ℕ) (m other : Marks) (p n : ℕ) (s : List ℕ) (a : List Piece) → Agree l m other → Places (λ t. t < l) a → ArePlaced s a → Entered m p n s → Entered other p n s
entered_agree l m other p n [] a same places placed h = tt
entered_agree l m other p n (k ∷ s) a same places placed h =
    let below : k < l = placed_below (λ t. t < l) k a places placed.0 in
    (omega (arith, same.points k below, h.0), same.depths k below ∙ h.1, entered_agree l m other p n s a same places placed.1 h.2)

-- marks of a fragment at a point, the same as others below its labels
pub record Made (l n p : ℕ) (m : Marks) (a : List Piece) (entries : List ℕ) : Type 0 where
  pub marks : Marks
  pub same : Agree l m marks
  pub flow : Flows marks a p n n
  pub entered : Entered marks p n entries

-- code with so many scopes open at its start and end, whose labels are from one to another; the labels around to which
-- it may go; and those of its own to which a switch may go
pub record Fragment (ws : List Way) (n low high : ℕ) (a : List Piece) (entries : List ℕ) : Type 0 where
  pub goes : Targets (λ l. Placed l a ⊎ IsWay ws l) a
  pub targets : Targets (λ l. l < high) a
  pub places : Places (λ l. l < high) a
  pub placed : ArePlaced entries a
  pub flows : (m : Marks) (p : ℕ) → Leads m (p + steps a) ws → Made low n p m a entries

pub nothing : (ws : List Way) (n low high : ℕ) → Fragment ws n low high [] []
nothing ws n low high = record {
  goes = tt;
  targets = tt;
  places = tt;
  placed = tt;
  flows = λ m p lead. record { marks = m; same = agree_refl low m; flow = refl; entered = tt };
}

module _ (ws : List Way) (n low middle high : ℕ) (a b : List Piece) (s t : List ℕ) where
  flows_both : AreEarlier low ws → low ≤ middle → Fragment ws n low middle a s → Fragment ws n middle high b t
      → (m : Marks) (p : ℕ) → Leads m (p + steps (a ++ b)) ws → Made low n p m (a ++ b) (s ++ t)
  flows_both early le f g m p lead =
      let long = steps_append a b in
      let first = f.flows m p (leads_less m (p + steps a) (p + steps (a ++ b)) ws (omega arith) lead) in
      let there : p + steps (a ++ b) ≡ p + steps a + steps b = omega arith in
      let second = g.flows first.marks (p + steps a) (subst (λ q. Leads first.marks q ws) there (leads_agree low m first.marks (p + steps (a ++ b)) ws first.same early lead)) in
      record {
        marks = second.marks;
        same = agree_trans low middle m first.marks second.marks le first.same second.same;
        flow = flows_append second.marks a b p n n n (flows_agree middle first.marks second.marks a p n n second.same f.targets f.places first.flow) second.flow;
        entered = entered_append second.marks p n s t
            (entered_agree middle first.marks second.marks p n s a second.same f.places f.placed first.entered)
            (entered_less second.marks p (p + steps a) n t (omega arith) second.entered);
      }

  -- one fragment behind another
  pub joined : AreEarlier low ws → low ≤ middle → middle ≤ high → Fragment ws n low middle a s → Fragment ws n middle high b t → Fragment ws n low high (a ++ b) (s ++ t)
  joined early le le2 f g = record {
    goes = search (arith, targets_append, targets_map, placed_left, placed_right);
    targets = targets_append _ a b (targets_map _ _ a (λ l h. omega (arith, h)) f.targets) g.targets;
    places = places_append _ a b (places_map _ _ a (λ l h. omega (arith, h)) f.places) g.places;
    placed = placed_append s t a b f.placed g.placed;
    flows = flows_both early le f g;
  }

-- the same with more ways out, and with other bounds of its labels
pub with_ways : (ws more : List Way) (n low high : ℕ) (a : List Piece) (entries : List ℕ) → ((l : ℕ) → IsWay ws l → IsWay more l) → ((m : Marks) (end : ℕ) → Leads m end more → Leads m end ws)
    → Fragment ws n low high a entries → Fragment more n low high a entries
with_ways ws more n low high a entries is leads f = grind (arith, targets_map)

pub anywhere : (ws : List Way) (n low high : ℕ) (a : List Piece) (entries : List ℕ) → Fragment [] n low high a entries → Fragment ws n low high a entries
anywhere ws n low high a entries f = with_ways [] ws n low high a entries (λ l h. absurd h) (λ m end h. tt) f

pub within : (ws : List Way) (n low high small large : ℕ) (a : List Piece) (entries : List ℕ) → small ≤ low → high ≤ large → Fragment ws n low high a entries → Fragment ws n small large a entries
within ws n low high small large a entries le le2 f = search (arith, targets_map, places_map)

-- a label behind code to which the code goes on
pub closed_by : (ws : List Way) (n low high : ℕ) (a : List Piece) → low < high → AreEarlier low ws → Fragment (way_on low n ∷ ws) n (low + 1) high a [] → Fragment ws n low high (a ++ (Here low ∷ [])) []
closed_by ws n low high a le early f = record {
  goes = targets_append (λ l. Placed l (a ++ (Here low ∷ [])) ⊎ IsWay ws l) a (Here low ∷ [])
      (targets_map (λ l. Placed l a ⊎ IsWay (way_on low n ∷ ws) l) (λ l. Placed l (a ++ (Here low ∷ [])) ⊎ IsWay ws l) a
      (λ l. ⊎_elim (λ (h : Placed l a). inl (placed_left l a (Here low ∷ []) h))
      (⊎_elim (λ (h : l ≡ low). inl (placed_right l a (Here low ∷ []) (inl h))) (λ (h : IsWay ws l). inr h))) f.goes) tt;
  targets = targets_append (λ l. l < high) a (Here low ∷ []) f.targets tt;
  places = places_append (λ l. l < high) a (Here low ∷ []) f.places (le, tt);
  placed = tt;
  flows = λ m p lead.
      let long = steps_append a (Here low ∷ []) in
      let mark = marked low (p + steps a) n m in
      let lead2 = leads_agree low m mark.marks (p + steps a) ws mark.same early (leads_less m (p + steps a) (p + steps (a ++ (Here low ∷ []))) ws (omega arith) lead) in
      let made = f.flows mark.marks p (record { depth = mark.depth; ahead = λ e. omega (arith, mark.point) }, lead2) in
      let at : low < low + 1 = omega arith in
      record {
        marks = made.marks;
        same = agree_trans low (low + 1) m mark.marks made.marks (omega arith) mark.same made.same;
        flow = flows_append made.marks a (Here low ∷ []) p n n n made.flow (made.same.points low at ∙ mark.point, made.same.depths low at ∙ mark.depth, refl);
        entered = tt;
      };
}

-- a label in front of code that goes back to it
pub opened_by : (ws : List Way) (n low high : ℕ) (a : List Piece) → low < high → AreEarlier low ws → Fragment (way_back low n ∷ ws) n (low + 1) high a [] → Fragment ws n low high (Here low ∷ a) []
opened_by ws n low high a le early f = record {
  goes = targets_map (λ l. Placed l a ⊎ IsWay (way_back low n ∷ ws) l) (λ l. Placed l (Here low ∷ a) ⊎ IsWay ws l) a
      (λ l. ⊎_elim (λ (h : Placed l a). inl (inr h)) (⊎_elim (λ (h : l ≡ low). inl (inl h)) (λ (h : IsWay ws l). inr h))) f.goes;
  targets = f.targets;
  places = (le, f.places);
  placed = tt;
  flows = λ m p lead.
      let mark = marked low p n m in
      let made = f.flows mark.marks p (record { depth = mark.depth; ahead = λ e. absurd (true≢false e) }, leads_agree low m mark.marks (p + steps a) ws mark.same early lead) in
      let at : low < low + 1 = omega arith in
      record {
        marks = made.marks;
        same = agree_trans low (low + 1) m mark.marks made.marks (omega arith) mark.same made.same;
        flow = (made.same.points low at ∙ mark.point, made.same.depths low at ∙ mark.depth, made.flow);
        entered = tt;
      };
}

-- single statements

-- a statement behind which the run goes on, and no scope is opened or closed
abbrev pub IsPlain : StmKind → Type 0
IsPlain (Jump l) = ⊥
IsPlain (Zero a l) = ⊥
IsPlain (Case a v l) = ⊥
IsPlain (Loop l) = ⊥
IsPlain Enter = ⊥
IsPlain Leave = ⊥
IsPlain (Return a) = ⊥
IsPlain kind = Unit {0}

plain_target : (Q : ℕ → Type 0) (kind : StmKind) → IsPlain kind → Target Q kind
plain_target Q kind h = search arith fits 100

pub plain : (n low high : ℕ) (stm : Stm) → IsPlain stm.kind → Fragment [] n low high (Does stm ∷ []) []
plain n low high stm h = record {
  goes = (plain_target _ stm.kind h, tt);
  targets = (plain_target _ stm.kind h, tt);
  places = tt;
  placed = tt;
  flows = λ m p lead. record { marks = m; same = agree_refl low m; flow = (n, search arith fits 100, refl); entered = tt };
}

-- a scope of its own round a fragment
pub in_scope : (ws : List Way) (n low high line at : ℕ) (a : List Piece) → Fragment ws (n + 1) low high a [] → Fragment ws n low high (Does (stm_at line Enter) ∷ (a ++ (Does (stm_at at Leave) ∷ []))) []
in_scope ws n low high line at a f = record {
  goes = (
    tt,
    targets_append (λ l. Placed l (a ++ (Does (stm_at at Leave) ∷ [])) ⊎ IsWay ws l) a (Does (stm_at at Leave) ∷ [])
        (targets_map (λ l. Placed l a ⊎ IsWay ws l) (λ l. Placed l (a ++ (Does (stm_at at Leave) ∷ [])) ⊎ IsWay ws l) a
        (λ l. ⊎_elim (λ (h : Placed l a). inl (placed_left l a (Does (stm_at at Leave) ∷ []) h)) (λ (h : IsWay ws l). inr h)) f.goes) (tt, tt),
  );
  targets = (tt, targets_append (λ l. l < high) a (Does (stm_at at Leave) ∷ []) f.targets (tt, tt));
  places = places_append (λ l. l < high) a (Does (stm_at at Leave) ∷ []) f.places tt;
  placed = tt;
  flows = λ m p lead.
      let long = steps_append a (Does (stm_at at Leave) ∷ []) in
      let made = f.flows m (p + 1) (leads_less m (p + 1 + steps a) (p + (steps (a ++ (Does (stm_at at Leave) ∷ [])) + 1)) ws (omega arith) lead) in
      record {
        marks = made.marks;
        same = made.same;
        flow = (n + 1, refl, flows_append made.marks a (Does (stm_at at Leave) ∷ []) (p + 1) (n + 1) (n + 1) n made.flow (n, refl, refl));
        entered = tt;
      };
}
