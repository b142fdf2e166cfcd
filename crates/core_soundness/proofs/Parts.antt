-- Parts of code behind one another, and the code of statements.
use Rattle.core_soundness.proofs.Words.Std.{◌≡◌, ◌⊎◌, ◌≤◌, ◌<◌, ◌+◌, ℕ, zero, suc, List, [], ◌∷◌, ◌++◌, refl, sym, ap, ◌∙◌, subst, arith, inl, inr, ⊎_elim, append_assoc, ℤ, Bool, false, not, take, drop, Option, Some, None, ap₂, append-nil, map}
use Rattle.core_soundness.proofs.Words.Trees.{Tree, Trees, none, ◌▹◌}
use Rattle.core_soundness.proofs.Words.Types.{PlainType, Void, IntType, line_of, promoted, unconverted, Operand, Number, is_void, is_scalar, Operands, Assignment}
use Rattle.core_soundness.proofs.Words.Core.{Atom, Stm, StmKind, Jump, Zero, Case, Loop, Leave, Return}
use Rattle.core_soundness.proofs.Words.Elaborating.{Piece, Does, Here, Code, Context, Running, entered, left, emit, Found, atom_in, valued, convert, convert_integer, code_line, tested_value, unused, found, opened, closed, Around, below, in_loop, in_switch, in_delay, leaves, evaluated, maybe_evaluated, condition, leaves_if_zero, maybe_leaves, returned, return_of, return_from, switch_operand_of, switch_operand, does}
use Rattle.core_soundness.proofs.Declaring.{passes_refl, tail_depth}
use Rattle.core_soundness.proofs.Flows.{Marks, Target, Targets, Places, Placed, steps, Goes, Flows, agree_refl, steps_append, targets_append, places_append, Way, way_on, way_back, IsWay, Leads, AreEarlier, leads_less, Fragment, joined, with_ways, within, closed_by, opened_by, stm_at, earlier_less, anywhere, Agree, agree_trans, targets_map, places_map, placed_left, placed_right, placed_below, flows_append, flows_agree, marked, Stands, leads_agree, Entered, ArePlaced, Made}
use Rattle.core_soundness.proofs.Growth.{Grows, grows_refl, grows_trans, Reached, reached_ok, reached_refused, reached_after, reached_unless, Led, led_ok, led_after, led_unless, led_barred, Stays, Passes, stays_trans, grows_passes, grows_closed, stays_beside}
use Rattle.core_soundness.proofs.Scopes.{Safe, left_safe, tied_refl}
use Rattle.core_soundness.proofs.Walks.{found_grows, grown_valued, grows_convert, grows_convert_integer, grows_tested, grown_unused}

-- parts of a body, one behind another and round one another

pub ways_more : (w : Way) (ws : List Way) (n low high : ℕ) (a : List Piece) (s : List ℕ) → Fragment ws n low high a s → Fragment (w ∷ ws) n low high a s
ways_more w ws n low high a s f = with_ways ws (w ∷ ws) n low high a s (λ l h. inr h) (λ m end h. h.1) f

pub one_way : (w : Way) (ws : List Way) (n low high : ℕ) (a : List Piece) (s : List ℕ) → Fragment (w ∷ []) n low high a s → Fragment (w ∷ ws) n low high a s
one_way w ws n low high a s f =
    with_ways (w ∷ []) (w ∷ ws) n low high a s (λ l. ⊎_elim (λ (h : l ≡ w.label). inl h) (λ (h : ⊥). absurd h)) (λ m end h. (h.0, tt)) f

pub ways_swapped : (w v : Way) (ws : List Way) (n low high : ℕ) (a : List Piece) (s : List ℕ) → Fragment (w ∷ v ∷ ws) n low high a s → Fragment (v ∷ w ∷ ws) n low high a s
ways_swapped w v ws n low high a s f =
    with_ways (w ∷ v ∷ ws) (v ∷ w ∷ ws) n low high a s
    (λ l. ⊎_elim (λ (h : l ≡ w.label). inr (inl h)) (⊎_elim (λ (h : l ≡ v.label). inl h) (λ (h : IsWay ws l). inr (inr h))))
    (λ m end h. (h.1.0, (h.0, h.1.1))) f

-- a loop: its head, its code, the way back and the end
abbrev pub looped_code : ℕ → ℕ → List Piece → List Piece
looped_code line l a = Here l ∷ ((a ++ (Does (stm_at line (Loop l)) ∷ [])) ++ (Here (l + 1) ∷ []))

pub loop_fragment : (n line l high : ℕ) (a : List Piece) → l + 2 ≤ high → Fragment (way_on (l + 1) n ∷ way_back l n ∷ []) n (l + 2) high a [] → Fragment [] n l high (looped_code line l a) []
loop_fragment n line l high a le f =
    let both : List Way = way_on (l + 1) n ∷ way_back l n ∷ [] in
    let small : l < l + 2 = omega arith in
    let small1 : l + 1 < l + 2 = omega arith in
    let small2 : l < l + 1 = omega arith in
    let back : Fragment both n high high (Does (stm_at line (Loop l)) ∷ []) [] = ways_swapped (way_back l n) (way_on (l + 1) n) [] n high high (Does (stm_at line (Loop l)) ∷ []) [] (grind (arith, agree_refl)) in
    let first : Fragment both n (l + 2) high (a ++ (Does (stm_at line (Loop l)) ∷ [])) [] = joined both n (l + 2) high high a (Does (stm_at line (Loop l)) ∷ []) [] [] (small1, (small, tt)) le (omega arith) f back in
    let moved : Fragment both n (l + 1 + 1) high (a ++ (Does (stm_at line (Loop l)) ∷ [])) [] = within both n (l + 2) high (l + 1 + 1) high (a ++ (Does (stm_at line (Loop l)) ∷ [])) [] (omega arith) (omega arith) first in
    opened_by [] n l high ((a ++ (Does (stm_at line (Loop l)) ∷ [])) ++ (Here (l + 1) ∷ [])) (omega arith) tt
    (closed_by (way_back l n ∷ []) n (l + 1) high (a ++ (Does (stm_at line (Loop l)) ∷ [])) (omega arith) (small2, tt) moved)

-- leaving scopes on the way to a label or a return

abbrev pub leave_pieces : ℕ → ℕ → List Piece
leave_pieces line zero = []
leave_pieces line (suc k) = Does (stm_at line Leave) ∷ leave_pieces line k

leave_targets : (Q : ℕ → Type 0) (line k : ℕ) → Targets Q (leave_pieces line k)
leave_targets Q line zero = tt
leave_targets Q line (suc k) = (tt, leave_targets Q line k)

leave_places : (Q : ℕ → Type 0) (line k : ℕ) → Places Q (leave_pieces line k)
leave_places Q line zero = tt
leave_places Q line (suc k) = leave_places Q line k

leave_steps : (line k : ℕ) → steps (leave_pieces line k) ≡ k
leave_steps line zero = refl
leave_steps line (suc k) = omega (arith, leave_steps line k)

leave_flows : (m : Marks) (line k : ℕ) (last : Stm) (p e j : ℕ) → Goes m last.kind (p + k) e j → Flows m (leave_pieces line k ++ (Does last ∷ [])) p (e + k) j
leave_flows m line zero last p e j h =
    let same : p + 0 ≡ p = omega arith in
    let deep : e ≡ e + 0 = omega arith in
    (j, subst (λ n. Goes m last.kind p n j) deep (subst (λ q. Goes m last.kind q e j) same h), refl)
leave_flows m line (suc k) last p e j h =
    let same : p + suc k ≡ p + 1 + k = omega arith in
    let deep : e + suc k ≡ e + k + 1 = omega arith in
    (e + k, deep, leave_flows m line k last (p + 1) e j (subst (λ q. Goes m last.kind q e j) same h))

-- a statement behind which the run does not go on, with so many scopes left before it
pub out_fragment : (ws : List Way) (n low high line k e : ℕ) (last : Stm) → n ≡ e + k → Target (λ l. IsWay ws l) last.kind → Target (λ l. l < high) last.kind
    → ((m : Marks) (p : ℕ) → Leads m (p + k + 1) ws → Goes m last.kind (p + k) e n) → Fragment ws n low high (leave_pieces line k ++ (Does last ∷ [])) []
out_fragment ws n low high line k e last deep is below goes = record {
  goes = targets_append (λ l. Placed l (leave_pieces line k ++ (Does last ∷ [])) ⊎ IsWay ws l) (leave_pieces line k) (Does last ∷ []) (leave_targets _ line k) (is_way last.kind is, tt);
  targets = targets_append (λ l. l < high) (leave_pieces line k) (Does last ∷ []) (leave_targets (λ l. l < high) line k) (below, tt);
  places = places_append (λ l. l < high) (leave_pieces line k) (Does last ∷ []) (leave_places (λ l. l < high) line k) tt;
  placed = tt;
  flows = λ m p lead.
      let long = steps_append (leave_pieces line k) (Does last ∷ []) in
      let short = leave_steps line k in
      record {
        marks = m;
        same = agree_refl low m;
        flow = subst (λ d. Flows m (leave_pieces line k ++ (Does last ∷ [])) p d n) (sym deep) (leave_flows m line k last p e n (goes m p (leads_less m (p + k + 1) (p + steps (leave_pieces line k ++ (Does last ∷ []))) ws (omega arith) lead)));
        entered = tt;
      };
}
  where
    is_way : (kind : StmKind) → Target (λ l. IsWay ws l) kind → Target (λ l. Placed l (leave_pieces line k ++ (Does last ∷ [])) ⊎ IsWay ws l) kind
    is_way (Jump l) h = inr h
    is_way (Zero a l) h = inr h
    is_way (Case a v l) h = inr h
    is_way (Loop l) h = inr h
    is_way kind h = tt

-- parts of code

pub record Part (ws : List Way) (n : ℕ) (x y : Code) (entries : List ℕ) : Type 0 where
  pub pieces : List Piece
  pub code : y.pieces ≡ x.pieces ++ pieces
  pub more : x.labels ≤ y.labels
  pub fragment : Fragment ws n x.labels y.labels pieces entries

pub part_trans : (ws : List Way) (n : ℕ) (x y z : Code) (s t : List ℕ) → AreEarlier x.labels ws → Part ws n x y s → Part ws n y z t → Part ws n x z (s ++ t)
part_trans ws n x y z s t early p q = record {
  pieces = p.pieces ++ q.pieces;
  code = q.code ∙ ap (λ (l : List Piece). l ++ q.pieces) p.code ∙ append_assoc x.pieces p.pieces q.pieces;
  more = omega (arith, p.more, q.more);
  fragment = joined ws n x.labels y.labels z.labels p.pieces q.pieces s t early p.more q.more p.fragment q.fragment;
}

pub part_ways : (ws more : List Way) (n : ℕ) (x y : Code) (s : List ℕ) → ((low high : ℕ) (a : List Piece) → Fragment ws n low high a s → Fragment more n low high a s) → Part ws n x y s → Part more n x y s
part_ways ws more n x y s f p = record { pieces = p.pieces; code = p.code; more = p.more; fragment = f x.labels y.labels p.pieces p.fragment }

-- a label is made before a part and placed behind it
pub part_closed : (ws : List Way) (n : ℕ) (x from y : Code) (l : ℕ) → from.pieces ≡ x.pieces → from.labels ≡ l + 1 → x.labels ≤ l → AreEarlier l ws
    → Part (way_on l n ∷ ws) n from y [] → Part ws n x (record y { pieces = y.pieces ++ (Here l ∷ []) }) []
part_closed ws n x from y l same next le early p =
    let small : l < y.labels = omega (arith, p.more) in
    let inner : Fragment (way_on l n ∷ ws) n (l + 1) y.labels p.pieces [] = within (way_on l n ∷ ws) n from.labels y.labels (l + 1) y.labels p.pieces [] (omega arith) (omega arith) p.fragment in
    record {
      pieces = p.pieces ++ (Here l ∷ []);
      code = ap (λ (a : List Piece). a ++ (Here l ∷ [])) (p.code ∙ ap (λ (a : List Piece). a ++ p.pieces) same) ∙ append_assoc x.pieces p.pieces (Here l ∷ []);
      more = omega arith;
      fragment = within ws n l y.labels x.labels y.labels (p.pieces ++ (Here l ∷ [])) [] le (omega arith) (closed_by ws n l y.labels p.pieces small early inner);
    }

-- what statements do to what is known: their code, and the labels of a switch among them

-- where `break` and `continue` lead
abbrev pub ways_of : Option (ℕ × ℕ) → List Way
ways_of None = []
ways_of (Some x) = way_on x.0 x.1 ∷ []

abbrev pub ways : Around → List Way
ways a = ways_of a.breaks ++ ways_of a.continues

-- no more scopes are open there than here
abbrev pub IsOutside : ℕ → Option (ℕ × ℕ) → Type 0
IsOutside n None = Unit {0}
IsOutside n (Some x) = x.1 ≤ n

pub record Fits (l : ℕ) (a : Around) : Type 0 where
  pub early : AreEarlier l (ways a)
  pub breaks : IsOutside a.delays a.breaks
  pub continues : IsOutside a.delays a.continues

pub fits_more : (l k : ℕ) (a : Around) → l ≤ k → Fits l a → Fits k a
fits_more l k a le h = record { early = earlier_less l k (ways a) le h.early; breaks = h.breaks; continues = h.continues }

pub fits_below : (l : ℕ) (a : Around) → Fits l a → Fits l (below a)
fits_below l a h = record { early = h.early; breaks = h.breaks; continues = h.continues }

outside_more : (n : ℕ) (x : Option (ℕ × ℕ)) → IsOutside n x → IsOutside (n + 1) x
outside_more n x h = search arith fits 100

pub fits_delay : (l : ℕ) (a : Around) → Fits l a → Fits l (in_delay a)
fits_delay l a h = record { early = h.early; breaks = outside_more a.delays a.breaks h.breaks; continues = outside_more a.delays a.continues h.continues }

pub fits_loop : (l end next : ℕ) (a : Around) → end < l → next < l → Fits l (in_loop end next a)
fits_loop l end next a x y = record { early = (x, (y, tt)); breaks = omega arith; continues = omega arith }

pub fits_switch : (l end : ℕ) (block : Bool) (ty : IntType) (a : Around) → end < l → Fits l a → Fits l (in_switch block end ty a)
fits_switch l end block ty a x h = record { early = (x, search arith fits 100); breaks = omega arith; continues = h.continues }

-- the labels of the cases of the running switch, and of its default
abbrev pub IsCase : ℕ → List (ℤ × ℕ) → Type 0
IsCase l [] = ⊥
IsCase l (x ∷ xs) = (l ≡ x.1) ⊎ IsCase l xs

abbrev pub HasLabel : ℕ → Running → Type 0
HasLabel l run = IsCase l run.cases ⊎ (run.otherwise ≡ Some l)

abbrev pub Among : ℕ → List ℕ → Type 0
Among l [] = ⊥
Among l (k ∷ ks) = (l ≡ k) ⊎ Among l ks

pub among_left : (l : ℕ) (s t : List ℕ) → Among l s → Among l (s ++ t)
among_left l [] t h = absurd h
among_left l (k ∷ s) t (inl e) = inl e
among_left l (k ∷ s) t (inr h) = inr (among_left l s t h)

pub among_right : (l : ℕ) (s t : List ℕ) → Among l t → Among l (s ++ t)
among_right l [] t h = h
among_right l (k ∷ s) t h = inr (among_right l s t h)

pub same_labels : (one other : Running) → other.cases ≡ one.cases → other.otherwise ≡ one.otherwise → (l : ℕ) → HasLabel l other → HasLabel l one
same_labels one other e e2 l = search arith

-- a statement among what stands around it
pub record Walks (a : Around) (c d : Context) : Type 0 where
  pub entries : List ℕ
  pub part : Part (ways a) a.delays c.code d.code entries
  pub cases : (l : ℕ) → HasLabel l d.running → HasLabel l c.running ⊎ Among l entries
  pub unlabelled : a.labelled ≡ false → entries ≡ []
  pub stays : Stays c d

pub walks_trans : (a : Around) (b c d : Context) → Fits b.code.labels a → Walks a b c → Walks a c d → Walks a b d
walks_trans a b c d fit x y = record {
  entries = x.entries ++ y.entries;
  part = part_trans (ways a) a.delays b.code c.code d.code x.entries y.entries fit.early x.part y.part;
  cases = λ l h. ⊎_elim
      (λ (k : HasLabel l c.running). ⊎_elim (λ (q : HasLabel l b.running). inl q) (λ (q : Among l x.entries). inr (among_left l x.entries y.entries q)) (x.cases l k))
      (λ (k : Among l y.entries). inr (among_right l x.entries y.entries k))
      (y.cases l h);
  unlabelled = λ e. ap₂ (λ (s t : List ℕ). s ++ t) (x.unlabelled e) (y.unlabelled e);
  stays = stays_trans b c d x.stays y.stays;
}

pub passes_part : (n : ℕ) (c d : Context) → Passes c d → Part [] n c.code d.code []
passes_part n c d p = record { pieces = p.pieces; code = p.code; more = p.more; fragment = p.fragment n }

pub part_anywhere : (ws : List Way) (n : ℕ) (x y : Code) → Part [] n x y [] → Part ws n x y []
part_anywhere ws n x y p = part_ways [] ws n x y [] (λ low high a f. anywhere ws n low high a [] f) p

-- a part that no label of a switch stands in
pub walks_part : (a : Around) (c d : Context) → Part (ways a) a.delays c.code d.code [] → d.running.cases ≡ c.running.cases → d.running.otherwise ≡ c.running.otherwise → Stays c d → Walks a c d
walks_part a c d p e e2 s = search (arith, same_labels)

pub walks_passes : (a : Around) (c d : Context) → Passes c d → Walks a c d
walks_passes a c d p = walks_part a c d (part_anywhere (ways a) a.delays c.code d.code (passes_part a.delays c d p)) p.cases p.otherwise p.stays

pub walks_scoped : (a : Around) (c d : Context) → Walks a (entered c) d → Walks a c (left d)
walks_scoped a c d w = search (arith, left_safe, tail_depth)

-- a statement in which no label of the switch may stand
pub part_below : (a : Around) (c d : Context) → Walks (below a) c d → Part (ways a) a.delays c.code d.code []
part_below a c d w = subst (Part (ways a) a.delays c.code d.code) (w.unlabelled refl) w.part

pub below_labels : (a : Around) (c d : Context) → a.labelled ≡ false → Walks a c d → (l : ℕ) → HasLabel l d.running → HasLabel l c.running
below_labels a c d e w l h =
    ⊎_elim (λ (k : HasLabel l c.running). k) (λ (k : Among l w.entries). absurd (subst (Among l) (w.unlabelled e) k)) (w.cases l h)

-- expressions

pub evaluated_passes : (e : Tree) (c : Context) → Safe c.scopes → Led (Passes c) (evaluated e c)
evaluated_passes e c s =
    let begun = opened e c in
    led_after (Passes c) (unused e (found e Void begun))
    (λ d h. led_ok (Passes c) (grows_passes c (closed e d.0) s (grows_closed e c d.0 s (grown_unused e begun (found e Void begun) (found_grows e Void begun begun (grows_refl begun)) d h))))

pub maybe_evaluated_passes : (e : Trees) (c : Context) → Safe c.scopes → Led (Passes c) (maybe_evaluated e c)
maybe_evaluated_passes none c s = led_ok (Passes c) (passes_refl c s)
maybe_evaluated_passes (e ▹ rest) c s = evaluated_passes e c s

condition_passes : (e : Tree) (c : Context) → Safe c.scopes → Reached (Passes c) (condition e c)
condition_passes e c s =
    let begun = opened e c in
    reached_after (Passes c) (valued e (found e Void begun))
    (λ d h. reached_unless (Passes c) (not (is_scalar d.1.typed.type)) Operands (line_of e)
    (reached_ok (Passes c) (grows_passes c _ s (grows_closed e c (tested_value e d).0 s
    (grows_trans begun d.0 _ (grown_valued e begun (found e Void begun) (found_grows e Void begun begun (grows_refl begun)) d h) (grows_tested (code_line e) d.1.typed.type (atom_in d.1) d.0))))))

-- a test, which leaves to a label
pub record Tests (l : ℕ) (c d : Context) : Type 0 where
  pub part : (n : ℕ) → Part (way_on l n ∷ []) n c.code d.code []
  pub running : (d.running.cases ≡ c.running.cases) × (d.running.otherwise ≡ c.running.otherwise)
  pub stays : Stays c d

tests_zero : (line l : ℕ) (a : Atom) (c d : Context) → l < c.code.labels → Passes c d → Tests l c (emit line (Zero a l) d)
tests_zero line l a c d le p = record {
  part = λ n.
      let small : l < d.code.labels = omega (arith, p.more) in
      record {
        pieces = p.pieces ++ (Does (stm_at line (Zero a l)) ∷ []);
        code = ap (λ (x : List Piece). x ++ (Does (stm_at line (Zero a l)) ∷ [])) p.code ∙ append_assoc c.code.pieces p.pieces (Does (stm_at line (Zero a l)) ∷ []);
        more = p.more;
        fragment = joined (way_on l n ∷ []) n c.code.labels d.code.labels d.code.labels p.pieces (Does (stm_at line (Zero a l)) ∷ []) [] [] (le, tt) p.more (omega arith)
            (anywhere (way_on l n ∷ []) n c.code.labels d.code.labels p.pieces [] (p.fragment n)) (search (arith, agree_refl));
      };
  running = (p.cases, p.otherwise);
  stays = record { safe = p.stays.safe; depth = p.stays.depth; tied = p.stays.tied; walked = p.stays.walked; length = p.stays.length; params = p.stays.params; counted = λ h. let k = p.stays.counted h in record { bytes = k.bytes; small = k.small }; inside = λ h. let k = p.stays.inside h in record { variables = k.variables; literals = k.literals; objects = k.objects } };
}

pub leaves_tests : (line l : ℕ) (e : Tree) (c : Context) → l < c.code.labels → Safe c.scopes → Led (Tests l c) (leaves_if_zero line l e c)
leaves_tests line l e c le s = search (arith, led_after, led_ok, tests_zero, condition_passes)

pub maybe_tests : (line l : ℕ) (e : Trees) (c : Context) → l < c.code.labels → Safe c.scopes → Led (Tests l c) (maybe_leaves line l e c)
maybe_tests line l none c le s = led_ok (Tests l c) (record { part = λ n. part_anywhere (way_on l n ∷ []) n c.code c.code (passes_part n c c (passes_refl c s)); running = ((passes_refl c s).cases, (passes_refl c s).otherwise); stays = (passes_refl c s).stays })
maybe_tests line l (e ▹ rest) c le s = leaves_tests line l e c le s

-- leaving

leaves_pieces : (line k : ℕ) (c : Context) → (leaves line k c).code.pieces ≡ c.code.pieces ++ leave_pieces line k
leaves_pieces line zero c = sym (append-nil c.code.pieces)
leaves_pieces line (suc k) c =
    leaves_pieces line k (emit line Leave c) ∙ append_assoc c.code.pieces (Does (stm_at line Leave) ∷ []) (leave_pieces line k)

leaves_same : (line k : ℕ) (c : Context) → leaves line k c ≡ record c { code = record c.code { pieces = (leaves line k c).code.pieces } }
leaves_same line zero c = refl
leaves_same line (suc k) c = leaves_same line k (emit line Leave c)

-- leaving so many scopes, and then for good
pub out_walks : (a : Around) (line k e : ℕ) (kind : StmKind) (c : Context) → Safe c.scopes → a.delays ≡ e + k → Target (λ l. IsWay (ways a) l) kind → Target (λ l. l < c.code.labels) kind
    → ((m : Marks) (p : ℕ) → Leads m (p + k + 1) (ways a) → Goes m kind (p + k) e a.delays) → Walks a c (emit line kind (leaves line k c))
out_walks a line k e kind c s deep is below_all goes =
    subst (λ (x : Context). Walks a c (emit line kind x)) (sym (leaves_same line k c ∙ ap (λ (x : List Piece). record c { code = record c.code { pieces = x } }) (leaves_pieces line k c)))
    (walks_part a c (emit line kind (record c { code = record c.code { pieces = c.code.pieces ++ leave_pieces line k } }))
    (record {
      pieces = leave_pieces line k ++ (Does (stm_at line kind) ∷ []);
      code = append_assoc c.code.pieces (leave_pieces line k) (Does (stm_at line kind) ∷ []);
      more = omega arith;
      fragment = out_fragment (ways a) a.delays c.code.labels c.code.labels line k e (stm_at line kind) deep is below_all goes;
    }) refl refl (stays_beside c _ s refl refl refl refl refl (λ k. k) refl (tied_refl c.functions c.scopes.file c.walked) (λ h name type i e. e)))

pub returned_walks : (a : Around) (line : ℕ) (r : Option Atom) (c : Context) → Safe c.scopes → Walks a c (returned line a.delays r c)
returned_walks a line r c s = out_walks a line a.delays 0 (Return r) c s (omega arith) tt tt (λ m p lead. refl)

return_of_walks : (line : ℕ) (a : Around) (e : Tree) (type : PlainType) (c : Context) → Fits c.code.labels a → Safe c.scopes → Led (Walks a c) (return_of line a.delays e type c)
return_of_walks line a e type c fit s =
    let begun = opened e c in
    led_after (Walks a c) (valued e (found e type begun))
    (λ d h. led_unless (Walks a c) (is_void type) Assignment line (λ q.
    led_barred (Walks a c) (unconverted type d.1.typed) line
    (let v = convert line begun.code type d.1.typed (atom_in d.1) d.0 in
    let g : Grows begun v.0 = grows_convert line begun type d.1.typed (atom_in d.1) d.0 (grown_valued e begun (found e type begun) (found_grows e type begun begun (grows_refl begun)) d h) in
    led_ok (Walks a c) (walks_trans a c (closed e v.0) _ fit (walks_passes a c (closed e v.0) (grows_passes c (closed e v.0) s (grows_closed e c v.0 s g))) (returned_walks a line (Some v.1) (closed e v.0) (grows_passes c (closed e v.0) s (grows_closed e c v.0 s g)).stays.safe)))))

pub return_from_walks : (line : ℕ) (a : Around) (e : Trees) (c : Context) → Fits c.code.labels a → Safe c.scopes → Led (Walks a c) (return_from line a.delays e c)
return_from_walks line a none c fit s =
    led_unless (Walks a c) (not (is_void c.running.answer)) Assignment line (λ q. led_ok (Walks a c) (returned_walks a line None c s))
return_from_walks line a (e ▹ rest) c fit s = return_of_walks line a e c.running.answer c fit s

-- switches

operand_passes : (line : ℕ) (e : Tree) (o : Operand) (c : Context) (d : Context × Found) → Safe c.scopes → Grows (opened e c) d.0 → Reached (Passes c) (switch_operand_of line e o d)
operand_passes line e (Number ty) c d s g =
    let v = convert_integer line (promoted ty) ty (atom_in d.1) d.0 in
    reached_ok (Passes c) (grows_passes c (closed e v.0) s (grows_closed e c v.0 s (grows_trans (opened e c) d.0 v.0 g (grows_convert_integer line (promoted ty) ty (atom_in d.1) d.0))))
operand_passes line e other c d s g = reached_refused (Passes c)

pub switch_operand_passes : (line : ℕ) (e : Tree) (c : Context) → Safe c.scopes → Reached (Passes c) (switch_operand line e c)
switch_operand_passes line e c s = search (arith, reached_after, operand_passes, grown_valued, found_grows, grows_refl)

-- the cases among them
pub case_among : (l place label : ℕ) (v : ℤ) (cases : List (ℤ × ℕ)) → IsCase l (take place cases ++ ((v, label) ∷ drop place cases)) → (l ≡ label) ⊎ IsCase l cases
case_among l zero label v [] h = h
case_among l zero label v (x ∷ xs) h = h
case_among l (suc place) label v [] h = h
case_among l (suc place) label v (x ∷ xs) (inl e) = inr (inl e)
case_among l (suc place) label v (x ∷ xs) (inr h) = ⊎_elim (λ (k : l ≡ label). inl k) (λ (k : IsCase l xs). inr (inr k)) (case_among l place label v xs h)

-- code of loops and switches

-- a loop with a start before its head, a test, a body, and a step behind the label of `continue`; the step was made before
-- the body
abbrev pub loop_rest : ℕ → ℕ → List Piece → List Piece → List Piece → List Piece
loop_rest line l a b c = Here l ∷ (((a ++ (b ++ (Here (l + 2) ∷ c))) ++ (Does (stm_at line (Loop l)) ∷ [])) ++ (Here (l + 1) ∷ []))

module _ (n line l l1 l2 l3 high : ℕ) (i a b c : List Piece) (le0 : l + 3 ≤ l1) (le1 : l1 ≤ l2) (le2 : l2 ≤ l3) (le3 : l3 ≤ high)
    (fi : Fragment [] n (l + 3) l1 i []) (fa : Fragment (way_on (l + 1) n ∷ []) n l1 l2 a []) (fc : Fragment [] n l2 l3 c [])
    (fb : Fragment (way_on (l + 1) n ∷ way_on (l + 2) n ∷ []) n l3 high b []) where
  abbrev middle : List Piece
  middle = a ++ (b ++ (Here (l + 2) ∷ c))

  abbrev rest : List Piece
  rest = loop_rest line l a b c

  abbrev code : List Piece
  code = i ++ rest

  abbrev Goal : ℕ → Type 0
  Goal t = Placed t code ⊎ ⊥

  in_rest : (t : ℕ) → Placed t rest → Goal t
  in_rest t h = inl (placed_right t i rest h)

  in_middle : (t : ℕ) → Placed t middle → Goal t
  in_middle t h = in_rest t (inr (placed_left t (middle ++ (Does (stm_at line (Loop l)) ∷ [])) (Here (l + 1) ∷ []) (placed_left t middle (Does (stm_at line (Loop l)) ∷ []) h)))

  end_goal : (t : ℕ) → t ≡ l + 1 → Goal t
  end_goal t e = in_rest t (inr (placed_right t (middle ++ (Does (stm_at line (Loop l)) ∷ [])) (Here (l + 1) ∷ []) (inl e)))

  middle_goes : Targets Goal middle
  middle_goes =
      targets_append Goal a (b ++ (Here (l + 2) ∷ c))
      (targets_map (λ t. Placed t a ⊎ IsWay (way_on (l + 1) n ∷ []) t) Goal a
      (λ t. ⊎_elim (λ (h : Placed t a). in_middle t (placed_left t a (b ++ (Here (l + 2) ∷ c)) h)) (⊎_elim (λ (h : t ≡ l + 1). end_goal t h) (λ (h : ⊥). absurd h))) fa.goes)
      (targets_append Goal b (Here (l + 2) ∷ c)
      (targets_map (λ t. Placed t b ⊎ IsWay (way_on (l + 1) n ∷ way_on (l + 2) n ∷ []) t) Goal b
      (λ t. ⊎_elim (λ (h : Placed t b). in_middle t (placed_right t a (b ++ (Here (l + 2) ∷ c)) (placed_left t b (Here (l + 2) ∷ c) h)))
      (⊎_elim (λ (h : t ≡ l + 1). end_goal t h) (⊎_elim (λ (h : t ≡ l + 2). in_middle t (placed_right t a (b ++ (Here (l + 2) ∷ c)) (placed_right t b (Here (l + 2) ∷ c) (inl h)))) (λ (h : ⊥). absurd h)))) fb.goes)
      (targets_map (λ t. Placed t c ⊎ ⊥) Goal c (λ t. ⊎_elim (λ (h : Placed t c). in_middle t (placed_right t a (b ++ (Here (l + 2) ∷ c)) (placed_right t b (Here (l + 2) ∷ c) (inr h)))) (λ (h : ⊥). absurd h)) fc.goes))

  code_goes : Targets Goal code
  code_goes =
      targets_append Goal i rest (targets_map (λ t. Placed t i ⊎ ⊥) Goal i (λ t. ⊎_elim (λ (h : Placed t i). inl (placed_left t i rest h)) (λ (h : ⊥). absurd h)) fi.goes)
      (targets_append Goal (middle ++ (Does (stm_at line (Loop l)) ∷ [])) (Here (l + 1) ∷ [])
      (targets_append Goal middle (Does (stm_at line (Loop l)) ∷ []) middle_goes (in_rest l (inl refl), tt)) tt)

  code_targets : Targets (λ t. t < high) code
  code_targets =
      let small : l < high = omega arith in
      targets_append (λ t. t < high) i rest (targets_map (λ t. t < l1) (λ t. t < high) i (λ t h. omega (arith, h)) fi.targets)
      (targets_append (λ t. t < high) (middle ++ (Does (stm_at line (Loop l)) ∷ [])) (Here (l + 1) ∷ [])
      (targets_append (λ t. t < high) middle (Does (stm_at line (Loop l)) ∷ [])
      (targets_append (λ t. t < high) a (b ++ (Here (l + 2) ∷ c)) (targets_map (λ t. t < l2) (λ t. t < high) a (λ t h. omega (arith, h)) fa.targets)
      (targets_append (λ t. t < high) b (Here (l + 2) ∷ c) fb.targets (targets_map (λ t. t < l3) (λ t. t < high) c (λ t h. omega (arith, h)) fc.targets))) (small, tt)) tt)

  code_places : Places (λ t. t < high) code
  code_places =
      let small : l < high = omega arith in
      let small1 : l + 1 < high = omega arith in
      let small2 : l + 2 < high = omega arith in
      places_append (λ t. t < high) i rest (places_map (λ t. t < l1) (λ t. t < high) i (λ t h. omega (arith, h)) fi.places) (
        small,
        places_append (λ t. t < high) (middle ++ (Does (stm_at line (Loop l)) ∷ [])) (Here (l + 1) ∷ [])
            (places_append (λ t. t < high) middle (Does (stm_at line (Loop l)) ∷ [])
            (places_append (λ t. t < high) a (b ++ (Here (l + 2) ∷ c)) (places_map (λ t. t < l2) (λ t. t < high) a (λ t h. omega (arith, h)) fa.places)
            (places_append (λ t. t < high) b (Here (l + 2) ∷ c) fb.places (small2, places_map (λ t. t < l3) (λ t. t < high) c (λ t h. omega (arith, h)) fc.places))) tt) (small1, tt),
      )

  code_made : (m : Marks) (p : ℕ) → Made l n p m code []
  code_made m p =
      let ph : ℕ = p + steps i in
      let pb : ℕ = ph + steps a in
      let pn : ℕ = pb + steps b in
      let pe : ℕ = pn + steps c + 1 in
      let one = marked l ph n m in
      let two = marked (l + 1) pe n one.marks in
      let three = marked (l + 2) pn n two.marks in
      let small : l < l + 3 = omega arith in
      let small1 : l + 1 < l + 3 = omega arith in
      let small2 : l + 2 < l + 3 = omega arith in
      let head_at : three.marks.point l ≡ ph = three.same.points l (omega arith) ∙ two.same.points l (omega arith) ∙ one.point in
      let head_deep : three.marks.depth l ≡ n = three.same.depths l (omega arith) ∙ two.same.depths l (omega arith) ∙ one.depth in
      let end_at : three.marks.point (l + 1) ≡ pe = three.same.points (l + 1) (omega arith) ∙ two.point in
      let end_deep : three.marks.depth (l + 1) ≡ n = three.same.depths (l + 1) (omega arith) ∙ two.depth in
      let made_i = fi.flows three.marks p tt in
      let way_end : (k : Marks) → Agree (l + 3) three.marks k → (q : ℕ) → q ≤ pe → Stands k q (way_on (l + 1) n) = λ k same q le. record { depth = same.depths (l + 1) small1 ∙ end_deep; ahead = λ e. omega (arith, same.points (l + 1) small1, end_at) } in
      let made_a = fa.flows made_i.marks ph (way_end made_i.marks made_i.same (ph + steps a) (omega arith), tt) in
      let agree_a : Agree (l + 3) three.marks made_a.marks = agree_trans (l + 3) l1 three.marks made_i.marks made_a.marks le0 made_i.same made_a.same in
      let made_c = fc.flows made_a.marks pn tt in
      let agree_c : Agree (l + 3) three.marks made_c.marks = agree_trans (l + 3) l2 three.marks made_a.marks made_c.marks (omega arith) agree_a made_c.same in
      let way_next : Stands made_c.marks (pb + steps b) (way_on (l + 2) n) = record { depth = agree_c.depths (l + 2) small2 ∙ three.depth; ahead = λ e. omega (arith, agree_c.points (l + 2) small2, three.point) } in
      let made_b = fb.flows made_c.marks pb (way_end made_c.marks agree_c (pb + steps b) (omega arith), (way_next, tt)) in
      let all : Agree (l + 3) three.marks made_b.marks = agree_trans (l + 3) l3 three.marks made_c.marks made_b.marks (omega arith) agree_c made_b.same in
      let c_to_b : Agree l3 made_c.marks made_b.marks = made_b.same in
      let a_to_b : Agree l2 made_a.marks made_b.marks = agree_trans l2 l3 made_a.marks made_c.marks made_b.marks le2 made_c.same c_to_b in
      let i_to_b : Agree l1 made_i.marks made_b.marks = agree_trans l1 l2 made_i.marks made_a.marks made_b.marks le1 made_a.same a_to_b in
      let n_marks : Marks = made_b.marks in
      let long : steps middle ≡ steps a + steps b + steps c = omega (arith, steps_append a (b ++ (Here (l + 2) ∷ c)), steps_append b (Here (l + 2) ∷ c)) in
      let pl : ph + steps middle ≡ pn + steps c = omega arith in
      let body : Flows n_marks middle ph n n =
      flows_append n_marks a (b ++ (Here (l + 2) ∷ c)) ph n n n (flows_agree l2 made_a.marks n_marks a ph n n a_to_b fa.targets fa.places made_a.flow)
      (flows_append n_marks b (Here (l + 2) ∷ c) pb n n n made_b.flow
      (all.points (l + 2) small2 ∙ three.point, all.depths (l + 2) small2 ∙ three.depth, flows_agree l3 made_c.marks n_marks c pn n n c_to_b fc.targets fc.places made_c.flow)) in
      let with_loop : Flows n_marks (middle ++ (Does (stm_at line (Loop l)) ∷ [])) ph n n =
      flows_append n_marks middle (Does (stm_at line (Loop l)) ∷ []) ph n n n body (n, (all.depths l small ∙ head_deep), refl) in
      let more = steps_append middle (Does (stm_at line (Loop l)) ∷ []) in
      let end_here : n_marks.point (l + 1) ≡ ph + steps (middle ++ (Does (stm_at line (Loop l)) ∷ [])) = omega (arith, all.points (l + 1) small1, end_at) in
      record {
        marks = n_marks;
        same = agree_trans l (l + 2) m two.marks n_marks (omega arith) (agree_trans l (l + 1) m one.marks two.marks (omega arith) one.same two.same)
            (agree_trans (l + 2) (l + 3) two.marks three.marks n_marks (omega arith) three.same all);
        flow = flows_append n_marks i rest p n n n (flows_agree l1 made_i.marks n_marks i p n n i_to_b fi.targets fi.places made_i.flow) (
          all.points l small ∙ head_at,
          all.depths l small ∙ head_deep,
          flows_append n_marks (middle ++ (Does (stm_at line (Loop l)) ∷ [])) (Here (l + 1) ∷ []) ph n n n with_loop (end_here, all.depths (l + 1) small1 ∙ end_deep, refl),
        );
        entered = tt;
      }

  pub for_fragment : Fragment [] n l high code []
  for_fragment = record { goes = code_goes; targets = code_targets; places = code_places; placed = tt; flows = λ m p lead. code_made m p }

-- a loop whose test stands behind its body
pub do_fragment : (n line l l1 high : ℕ) (b c : List Piece) → l + 3 ≤ l1 → l1 ≤ high → Fragment (way_on (l + 1) n ∷ way_on (l + 2) n ∷ []) n (l + 3) l1 b [] → Fragment (way_on (l + 1) n ∷ []) n l1 high c []
    → Fragment [] n l high (looped_code line l ((b ++ (Here (l + 2) ∷ [])) ++ c)) []
do_fragment n line l l1 high b c le le2 fb fc =
    let both : List Way = way_on (l + 1) n ∷ way_back l n ∷ [] in
    let small : l < l + 2 = omega arith in
    let small1 : l + 1 < l + 2 = omega arith in
    let body : Fragment (way_on (l + 2) n ∷ both) n (l + 2 + 1) l1 b [] =
    within (way_on (l + 2) n ∷ both) n (l + 3) l1 (l + 2 + 1) l1 b [] (omega arith) (omega arith)
    (with_ways (way_on (l + 1) n ∷ way_on (l + 2) n ∷ []) (way_on (l + 2) n ∷ both) n (l + 3) l1 b []
    (λ t. ⊎_elim (λ (h : t ≡ l + 1). inr (inl h)) (⊎_elim (λ (h : t ≡ l + 2). inl h) (λ (h : ⊥). absurd h)))
    (λ m end h. (h.1.0, (h.0, tt))) fb) in
    let first : Fragment both n (l + 2) l1 (b ++ (Here (l + 2) ∷ [])) [] = closed_by both n (l + 2) l1 b (omega arith) (small1, (small, tt)) body in
    loop_fragment n line l high ((b ++ (Here (l + 2) ∷ [])) ++ c) (omega arith)
    (joined both n (l + 2) l1 high (b ++ (Here (l + 2) ∷ [])) c [] [] (small1, (small, tt)) (omega arith) le2 first (one_way (way_on (l + 1) n) (way_back l n ∷ []) n l1 high c [] fc))

-- a label of a switch before a statement
pub label_fragment : (ws : List Way) (n low high : ℕ) (a : List Piece) (s : List ℕ) → low < high → AreEarlier low ws → Fragment ws n (low + 1) high a s → Fragment ws n low high (Here low ∷ a) (low ∷ s)
label_fragment ws n low high a s le early f = record {
  goes = targets_map (λ l. Placed l a ⊎ IsWay ws l) (λ l. Placed l (Here low ∷ a) ⊎ IsWay ws l) a (λ l. ⊎_elim (λ (h : Placed l a). inl (inr h)) (λ (h : IsWay ws l). inr h)) f.goes;
  targets = f.targets;
  places = (le, f.places);
  placed = (inl refl, more_placed s f.placed);
  flows = λ m p lead.
      let mark = marked low p n m in
      let made = f.flows mark.marks p (leads_agree low m mark.marks (p + steps a) ws mark.same early lead) in
      let at : low < low + 1 = omega arith in
      let point : made.marks.point low ≡ p = made.same.points low at ∙ mark.point in
      record {
        marks = made.marks;
        same = agree_trans low (low + 1) m mark.marks made.marks (omega arith) mark.same made.same;
        flow = (point, made.same.depths low at ∙ mark.depth, made.flow);
        entered = (omega (arith, point), made.same.depths low at ∙ mark.depth, made.entered);
      };
}
  where
    more_placed : (t : List ℕ) → ArePlaced t a → ArePlaced t (Here low ∷ a)
    more_placed [] h = tt
    more_placed (k ∷ t) h = (inr h.0, more_placed t h.1)

-- a switch goes to its cases, its default or its end

abbrev pub cases_code : ℕ → Atom → List (ℤ × ℕ) → List Piece
cases_code line a cases = map (λ x. does line (Case a x.0 x.1)) cases

entered_at : (m : Marks) (q n l : ℕ) (s : List ℕ) → Entered m q n s → Among l s → (q ≤ m.point l) × (m.depth l ≡ n)
entered_at m q n l [] h k = absurd k
entered_at m q n l (t ∷ s) h (inl e) = (omega (arith, h.0, ap m.point e), ap m.depth e ∙ h.1)
entered_at m q n l (t ∷ s) h (inr k) = entered_at m q n l s h.2 k

placed_at : (l : ℕ) (s : List ℕ) (a : List Piece) → ArePlaced s a → Among l s → Placed l a
placed_at l [] a h k = absurd k
placed_at l (t ∷ s) a h (inl e) = subst (λ x. Placed x a) (sym e) h.0
placed_at l (t ∷ s) a h (inr k) = placed_at l s a h.1 k

cases_flow : (m : Marks) (line : ℕ) (a : Atom) (cases : List (ℤ × ℕ)) (p q n : ℕ) → ((l : ℕ) → IsCase l cases → (q ≤ m.point l) × (m.depth l ≡ n)) → p + steps (cases_code line a cases) ≤ q
    → Flows m (cases_code line a cases) p n n
cases_flow m line a [] p q n h le = refl
cases_flow m line a (x ∷ xs) p q n h le =
    let one = h x.1 (inl refl) in
    (n, (one.1, omega (arith, one.0), refl), cases_flow m line a xs (p + 1) q n (λ l k. h l (inr k)) (omega arith))

cases_targets : (Q : ℕ → Type 0) (line : ℕ) (a : Atom) (cases : List (ℤ × ℕ)) → ((l : ℕ) → IsCase l cases → Q l) → Targets Q (cases_code line a cases)
cases_targets Q line a [] h = tt
cases_targets Q line a (x ∷ xs) h = (h x.1 (inl refl), cases_targets Q line a xs (λ l k. h l (inr k)))

cases_places : (Q : ℕ → Type 0) (line : ℕ) (a : Atom) (cases : List (ℤ × ℕ)) → Places Q (cases_code line a cases)
cases_places Q line a [] = tt
cases_places Q line a (x ∷ xs) = cases_places Q line a xs

module _ (ws : List Way) (n low high end line : ℕ) (a : Atom) (cases : List (ℤ × ℕ)) (target : ℕ) (b : List Piece) (s : List ℕ) where
  abbrev front : List Piece
  front = cases_code line a cases ++ (does line (Jump target) ∷ [])

  abbrev DispatchGoal : ℕ → Type 0
  DispatchGoal l = Placed l (front ++ b) ⊎ IsWay (way_on end n ∷ ws) l

  pub dispatch_fragment : AreEarlier low (way_on end n ∷ ws) → low ≤ high → ((l : ℕ) → IsCase l cases → Among l s) → (target ≡ end) ⊎ Among target s → Fragment (way_on end n ∷ ws) n low high b s
      → Fragment (way_on end n ∷ ws) n low high (front ++ b) []
  dispatch_fragment early le is to f = record {
    goes = targets_append DispatchGoal front b
        (targets_append DispatchGoal (cases_code line a cases) (does line (Jump target) ∷ []) (cases_targets DispatchGoal line a cases (λ l h. inl (placed_right l front b (placed_at l s b f.placed (is l h)))))
        (⊎_elim (λ (h : target ≡ end). inr (inl h)) (λ (h : Among target s). inl (placed_right target front b (placed_at target s b f.placed h))) to, tt))
        (targets_map (λ l. Placed l b ⊎ IsWay (way_on end n ∷ ws) l) DispatchGoal b (λ l. ⊎_elim (λ (h : Placed l b). inl (placed_right l front b h)) (λ (h : IsWay (way_on end n ∷ ws) l). inr h)) f.goes);
    targets = targets_append (λ l. l < high) front b
        (targets_append (λ l. l < high) (cases_code line a cases) (does line (Jump target) ∷ [])
        (cases_targets (λ l. l < high) line a cases (λ l h. placed_below (λ t. t < high) l b f.places (placed_at l s b f.placed (is l h))))
        (⊎_elim (λ (h : target ≡ end). omega (arith, early.0)) (λ (h : Among target s). placed_below (λ t. t < high) target b f.places (placed_at target s b f.placed h)) to, tt)) f.targets;
    places = places_append (λ l. l < high) front b (places_append (λ l. l < high) (cases_code line a cases) (does line (Jump target) ∷ []) (cases_places (λ l. l < high) line a cases) tt) f.places;
    placed = tt;
    flows = λ m p lead.
        let long = steps_append front b in
        let long2 = steps_append (cases_code line a cases) (does line (Jump target) ∷ []) in
        let q : ℕ = p + steps front in
        let made = f.flows m q (leads_less m (q + steps b) (p + steps (front ++ b)) (way_on end n ∷ ws) (omega arith) lead) in
        let later = leads_agree low m made.marks (p + steps (front ++ b)) (way_on end n ∷ ws) made.same early lead in
        let reach : (l : ℕ) → IsCase l cases → (q ≤ made.marks.point l) × (made.marks.depth l ≡ n) = λ l h. entered_at made.marks q n l s made.entered (is l h) in
        let jump : (q ≤ made.marks.point target) × (made.marks.depth target ≡ n) =
        ⊎_elim (λ (h : target ≡ end). (omega (arith, later.0.ahead refl, ap made.marks.point h), ap made.marks.depth h ∙ later.0.depth)) (λ (h : Among target s). entered_at made.marks q n target s made.entered h) to in
        record {
          marks = made.marks;
          same = made.same;
          flow = flows_append made.marks front b p n n n
              (flows_append made.marks (cases_code line a cases) (does line (Jump target) ∷ []) p n n n (cases_flow made.marks line a cases p q n reach (omega arith))
              (n, (jump.1, omega (arith, jump.0)), refl)) made.flow;
          entered = tt;
        };
  }
