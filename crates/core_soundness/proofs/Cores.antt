-- What the walk over a text says of its core.
use Rattle.core_soundness.proofs.Words.Std.{◌≡◌, ◌≤◌, ◌<◌, ◌+◌, ℕ, zero, suc, List, [], ◌∷◌, ◌++◌, length, map, sum_by, Some, None, slice_get, Ok, All, refl, sym, ap, ◌∙◌, subst, arith, mul-one, Bool, true, false, cond, bytes_eq, codes, count_by, Option, length-map, sum_by-append, sum_by-cons, bytes_eq-Decides, and_parts}
use Rattle.core_soundness.proofs.Words.Trees.{Trees}
use Rattle.core_soundness.proofs.Words.Types.{TagTable, PlainType, PlainNamed, named_in}
use Rattle.core_soundness.proofs.Words.Core.{block_size, EachFunc, EachStatement, LeadsOn, HasScopes, code_size, is_main, operands, edges, Core, Func, Static, Stm, StmKind, Call, Return}
use Rattle.core_soundness.proofs.Words.Elaborating.{Piece, Does, Here, Context, Walked, Declared, walked, elaborated, piece_length, is_defined, Numbers, numbered, point_in, body_of, numbers_of, function_of, core_of, function_by}
use Rattle.core_soundness.proofs.Words.Facts.{HasFlow, HasSizes, CallsInside}
use Rattle.c_decls.specs.Named as n
use Rattle.elaboration.specs.Externals as externals
use Rattle.elaboration.specs.Resolving.{plain_name}
use Rattle.core_soundness.proofs.Flows.{steps, stm_at, body_length, inside, ahead, scopes}
use Rattle.core_soundness.proofs.Growth.{variable_bytes, literal_bytes, ok_same}
use Rattle.core_soundness.proofs.OwnNames.{IsOwn}
use Rattle.core_soundness.proofs.Statements.{Complete, AreComplete, walked_length, Sane, walked_sane, Finished, walked_finished}
use Rattle.core_soundness.proofs.Choices.{some_same, get_some, some_number}

-- the walk behind a core
pub record Behind (unit : Trees) (core : Core) : Type 0 where
  pub context : Context
  pub is : walked unit ≡ Ok context
  pub made : core_of context ≡ core

pub behind : (unit : Trees) (core : Core) (tags : TagTable) → elaborated unit ≡ Ok (core, tags) → Behind unit core
behind unit core tags e = grind (arith, ok_same)

-- flow

record BodyFlow (body : List Stm) : Type 0 where
  some : 0 < length body
  inside : EachStatement body (λ point stm. All (λ next. next < length body) (edges stm.kind point))
  ahead : EachStatement body (λ point stm. LeadsOn point stm.kind)
  scopes : HasScopes body

some_step : (front : List Piece) (stm : Stm) → 0 < steps (front ++ (Does stm ∷ []))
some_step (Here l ∷ front) stm = some_step front stm
some_step other stm = omega arith

body_flow : (num : Numbers) (pieces : List Piece) → Complete pieces → ((l : ℕ) → num.point l ≡ point_in pieces l) → BodyFlow (body_of num pieces)
body_flow num pieces c =
    subst (λ (x : List Piece). ((l : ℕ) → num.point l ≡ point_in x l) → BodyFlow (body_of num x)) (sym c.is)
    (λ points. record {
      some = omega (arith, some_step c.front (stm_at c.line (Return c.answer)), body_length num (c.front ++ (Does (stm_at c.line (Return c.answer)) ∷ [])));
      inside = inside num c.marks c.front c.line c.answer 0 c.flow c.reached points;
      ahead = ahead num c.marks c.front c.line c.answer 0 c.flow c.reached points;
      scopes = scopes num c.marks c.front c.line c.answer 0 c.flow c.reached points;
    })

function_flow : (c : Context) (w : Walked) → Complete w.code.pieces → HasFlow (function_of c w)
function_flow c w h =
    let b = body_flow (numbers_of c w) w.code.pieces h (λ l. refl) in
    record { some = b.some; inside = b.inside; ahead = b.ahead; scopes = b.scopes }

each_flow : (c : Context) (ws : List Walked) (i : ℕ) (func : Func) → AreComplete ws → slice_get (map (function_of c) ws) i ≡ Some func → HasFlow func
each_flow c [] i func h e = cc
each_flow c (w ∷ ws) zero func h e = let same : function_of c w ≡ func = cc in subst HasFlow same (function_flow c w h.0)
each_flow c (w ∷ ws) (suc i) func h e = each_flow c ws i func h.1 e

pub core_flows : (unit : Trees) (core : Core) (tags : TagTable) → elaborated unit ≡ Ok (core, tags) → EachFunc core HasFlow
core_flows unit core tags e =
    let b = behind unit core tags e in
    let s = walked_sane unit b.context b.is in
    subst (λ (x : Core). EachFunc x HasFlow) b.made (λ i func h. each_flow b.context b.context.walked i func s.complete h)

-- sizes

sum_by_map : {A B : Type 0} (f : B → ℕ) (g : A → B) (xs : List A) → sum_by f (map g xs) ≡ sum_by (λ x. f (g x)) xs
sum_by_map f g [] = refl
sum_by_map f g (x ∷ xs) = sum_by-cons f (g x) (map g xs) ∙ ap (λ k. f (g x) + k) (sum_by_map f g xs) ∙ sym (sum_by-cons (λ y. f (g y)) x xs)

sum_by_same : {A : Type 0} (f g : A → ℕ) (xs : List A) → ((x : A) → f x ≡ g x) → sum_by f xs ≡ sum_by g xs
sum_by_same f g [] h = refl
sum_by_same f g (x ∷ xs) h = sum_by-cons f x xs ∙ ap (λ k. k + sum_by f xs) (h x) ∙ ap (λ k. g x + k) (sum_by_same f g xs h) ∙ sym (sum_by-cons g x xs)

-- a list is no longer than its sum, where each part is at least 1
length_sum : {A : Type 0} (f : A → ℕ) (xs : List A) → ((x : A) → 1 ≤ f x) → length xs ≤ sum_by f xs
length_sum f [] h = omega arith
length_sum f (x ∷ xs) h = omega (arith, h x, length_sum f xs h, sum_by-cons f x xs)

static_sum : (c : Context) → sum_by (λ (static : Static). block_size static.layout.size) (core_of c).statics ≡ variable_bytes c.variables + literal_bytes c.literals
static_sum c = search (arith, sum_by-append, sum_by_map, variable_bytes, sum_by_same, mul-one)

operands_length : (num : Numbers) (kind : StmKind) → length (operands (numbered num kind)) ≡ length (operands kind)
unfolding numbered
operands_length num kind = search (arith, length-map) fits 100

body_size : (num : Numbers) (pieces : List Piece) → sum_by (λ (stm : Stm). 1 + length (operands stm.kind)) (body_of num pieces) ≡ sum_by piece_length pieces
body_size num [] = refl
body_size num (Does stm ∷ pieces) = search (arith, sum_by-cons, operands_length, (body_size num pieces))
body_size num (Here l ∷ pieces) = body_size num pieces ∙ sym (sum_by-cons piece_length (Here l) pieces ∙ zero_first (sum_by piece_length pieces))
  where
    zero_first : (k : ℕ) → 0 + k ≡ k
    zero_first k = omega arith

code_sum : (c : Context) → sum_by code_size (core_of c).funcs ≡ sum_by walked_length c.walked
code_sum c = search (arith, sum_by_map, sum_by_same, walked_length, body_size)

walked_sum : (ws : List Walked) → AreComplete ws → length ws ≤ sum_by walked_length ws
walked_sum [] h = omega arith
walked_sum (w ∷ ws) h =
    let one : 1 ≤ walked_length w = subst (λ (x : List Piece). 1 ≤ sum_by piece_length x) (sym h.0.is) (omega (arith, sum_by-append piece_length h.0.front (Does (stm_at h.0.line (Return h.0.answer)) ∷ []), sum_by-cons piece_length (Does (stm_at h.0.line (Return h.0.answer))) [])) in
    omega (arith, one, walked_sum ws h.1, sum_by-cons walked_length w ws)

-- a body is no longer than the code of all
each_short : (c : Context) (ws : List Walked) (i : ℕ) (func : Func) → slice_get (map (function_of c) ws) i ≡ Some func → length func.body ≤ sum_by code_size (map (function_of c) ws)
each_short c [] i func e = cc
each_short c (w ∷ ws) zero func e =
    let same : function_of c w ≡ func = cc in
    subst (λ (x : Func). length x.body ≤ sum_by code_size (map (function_of c) (w ∷ ws))) same
    (omega (arith, length_sum (λ (s : Stm). 1 + length (operands s.kind)) (function_of c w).body (λ s. omega arith), sum_by-cons code_size (function_of c w) (map (function_of c) ws)))
each_short c (w ∷ ws) (suc i) func e = omega (arith, each_short c ws i func e, sum_by-cons code_size (function_of c w) (map (function_of c) ws))

context_sizes : (c : Context) → Sane c → HasSizes (core_of c)
context_sizes c s =
    let statics : sum_by (λ (static : Static). block_size static.layout.size) (core_of c).statics ≤ 67108864 = omega (arith, static_sum c, s.counted.bytes, s.counted.small) in
    let code : sum_by code_size (core_of c).funcs ≤ 268435456 = omega (arith, code_sum c, s.length, s.small) in
    record {
      static_bytes = statics;
      code = code;
      short_statics = omega (arith, length_sum (λ (static : Static). block_size static.layout.size) (core_of c).statics (λ static. omega arith), statics);
      short_funcs = omega (arith, length-map c.walked (function_of c), walked_sum c.walked s.complete, s.length, s.small);
      short_bodies = λ i func e. omega (arith, each_short c c.walked i func e, code);
    }

pub core_sizes : (unit : Trees) (core : Core) (tags : TagTable) → elaborated unit ≡ Ok (core, tags) → HasSizes core
core_sizes unit core tags e =
    let b = behind unit core tags e in
    subst HasSizes b.made (context_sizes b.context (walked_sane unit b.context b.is))

-- exactly one function of a text is named `main`

-- one that passes a test, and no other

counted_none : {X : Type 0} (p : X → Bool) (xs : List X) → ((j : ℕ) (x : X) → slice_get xs j ≡ Some x → p x ≡ true → ⊥) → count_by p xs ≡ 0
counted_none p [] h = refl
counted_none p (x ∷ xs) h =
    sum_by-cons (λ y. cond (p y) 1 0) x xs ∙ by (p x) refl ∙ counted_none p xs (λ j y e q. h (suc j) y e q)
  where
    by : (t : Bool) → p x ≡ t → cond t 1 0 + count_by p xs ≡ count_by p xs
    by true e = absurd (h 0 x refl e)
    by false e = omega arith

counted_one : {X : Type 0} (p : X → Bool) (xs : List X) (k : ℕ) (x : X) → slice_get xs k ≡ Some x → p x ≡ true → ((j : ℕ) (y : X) → slice_get xs j ≡ Some y → p y ≡ true → j ≡ k) → count_by p xs ≡ 1
counted_one p [] k x e h u = cc
counted_one p (y ∷ xs) zero x e h u =
    let same_one : y ≡ x = cc in
    let here = ap (λ k. cond {A = ℕ} k 1 0) (ap p same_one ∙ h) in
    let rest : count_by p xs ≡ 0 = counted_none p xs (λ j z q w. let far : suc j ≡ 0 = u (suc j) z q w in omega arith) in
    sum_by-cons (λ z. cond (p z) 1 0) y xs ∙ omega (arith, here, rest)
counted_one p (y ∷ xs) (suc k) x e h u =
    let rest : count_by p xs ≡ 1 = counted_one p xs k x e h (λ j z q w. let next : suc j ≡ suc k = u (suc j) z q w in omega arith) in
    sum_by-cons (λ z. cond (p z) 1 0) y xs ∙ by (p y) refl rest
  where
    by : (t : Bool) → p y ≡ t → count_by p xs ≡ 1 → cond t 1 0 + count_by p xs ≡ 1
    by true q r = let far : 0 ≡ suc k = u 0 y refl q in absurd (omega arith)
    by false q r = omega arith

count_map : {X Y : Type 0} (p : Y → Bool) (g : X → Y) (xs : List X) → count_by p (map g xs) ≡ count_by (λ x. p (g x)) xs
count_map p g [] = refl
count_map p g (x ∷ xs) = search (arith, sum_by-cons, (count_map p g xs))

-- what the last test of a text says

record IsMain (fs : List Declared) (o : Option PlainNamed) : Type 0 where
  type : PlainType
  index : ℕ
  is : o ≡ Some (n.Function type index)
  defined : is_defined (slice_get fs index) ≡ true

main_is : (fs : List Declared) (o : Option PlainNamed) → externals.is_main fs o ≡ true → IsMain fs o
main_is fs o e = search (arith, and_parts) fits 100

same_number : (name : List ℕ) (t v : PlainType) (i j : ℕ) (o : Option PlainNamed) → o ≡ Some (n.Function t i) → o ≡ Some (n.Function v j) → i ≡ j
same_number name t v i j o x y = let both : Some (n.Function t i) ≡ Some (n.Function v j) = sym x ∙ y in cc

-- so there is a body
pub main_number : (c : Context) → Finished c → 0 < length c.walked
main_number c f = search (arith, main_is, codes, scopes, some_number)

walked_main : (c : Context) → Finished c → ((k : ℕ) (w : Walked) → slice_get c.walked k ≡ Some w → IsOwn w.name) → count_by (λ (w : Walked). bytes_eq (plain_name w.name) (codes "main")) c.walked ≡ 1
walked_main c f own =
    let s = f.sane in
    let m = main_is c.functions (named_in (codes "main") c.scopes.file) f.main in
    let d = s.named.found (codes "main") m.type m.index m.is in
    let k = some_number (d.0).defined (ap is_defined (sym d.1) ∙ m.defined) in
    let w = get_some c.walked k.0 (s.strict m.index k.0 d.0 d.1 k.1) in
    let o = s.named.owned k.0 w.0 w.1 in
    let at : o.index ≡ m.index = s.named.single o.index m.index k.0 o.declared d.0 o.there d.1 o.defined k.1 in
    let one : o.declared ≡ d.0 = some_same o.declared d.0 (sym o.there ∙ ap (λ j. slice_get c.functions j) at ∙ d.1) in
    let name : (w.0).name ≡ codes "main" = sym o.name ∙ ap (λ (x : Declared). x.name) one ∙ d.2 in
    counted_one (λ (x : Walked). bytes_eq (plain_name x.name) (codes "main")) c.walked k.0 w.0 w.1 ((bytes_eq-Decides (plain_name (w.0).name) (codes "main")).1 (ap plain_name name))
    (λ j v e q.
    let p = s.named.owned j v e in
    let called : p.declared.name ≡ codes "main" = p.name ∙ own j v e ((bytes_eq-Decides (plain_name v.name) (codes "main")).0 q) in
    let named_so = s.named.declared p.index p.declared p.there in
    let same_index : p.index ≡ m.index = same_number (codes "main") named_so.0 m.type p.index m.index (named_in (codes "main") c.scopes.file) (ap (λ x. named_in x c.scopes.file) (sym called) ∙ named_so.1) m.is in
    let same_one : p.declared ≡ d.0 = some_same p.declared d.0 (sym p.there ∙ ap (λ x. slice_get c.functions x) same_index ∙ d.1) in
    some_same j k.0 (sym p.defined ∙ ap (λ (x : Declared). x.defined) same_one ∙ k.1))

pub count_main : (c : Context) → Finished c → ((k : ℕ) (w : Walked) → slice_get c.walked k ≡ Some w → IsOwn w.name) → count_by is_main (core_of c).funcs ≡ 1
count_main c f own = count_map is_main (function_of c) c.walked ∙ walked_main c f own

-- a call of a core names one of its functions

-- the function of a call
abbrev called : StmKind → Option ℕ
called (Call f r args) = Some f
called kind = None

called_number : (num : Numbers) (kind : StmKind) (f : ℕ) → called (numbered num kind) ≡ Some f → (g : ℕ) × (f ≡ num.function g)
unfolding numbered
called_number num (Call g r args) f e = (g, sym (some_same (num.function g) f e))
called_number num kind f e = never_number f e
  where
    never_number : {G : Type 0} (k : ℕ) → None ≡ Some k → G
    never_number k q = cc

-- a statement of a body is one of its pieces
resolved : (num : Numbers) (pieces : List Piece) (i : ℕ) (stm : Stm) → slice_get (body_of num pieces) i ≡ Some stm → (kind : StmKind) × (stm.kind ≡ numbered num kind)
resolved num [] i stm e = cc
resolved num (Does s ∷ pieces) zero stm e = search arith
resolved num (Does s ∷ pieces) (suc i) stm e = resolved num pieces i stm e
resolved num (Here l ∷ pieces) i stm e = resolved num pieces i stm e

function_calls : (c : Context) (w : Walked) → Sane c → 0 < length c.walked → CallsInside (core_of c) (function_of c w)
function_calls c w s some point stm f r args e is =
    let x = resolved (numbers_of c w) w.code.pieces point stm e in
    let y = called_number (numbers_of c w) x.0 f (ap called (sym x.1 ∙ is)) in
    let inside : function_by c.functions y.0 < length c.walked = grind arith in
    omega (arith, inside, y.1, length-map c.walked (function_of c))

each_calls : (c : Context) (ws : List Walked) (i : ℕ) (func : Func) → Sane c → 0 < length c.walked → slice_get (map (function_of c) ws) i ≡ Some func → CallsInside (core_of c) func
each_calls c [] i func s some e = cc
each_calls c (w ∷ ws) zero func s some e = let same : function_of c w ≡ func = cc in subst (CallsInside (core_of c)) same (function_calls c w s some)
each_calls c (w ∷ ws) (suc i) func s some e = each_calls c ws i func s some e

pub core_calls : (unit : Trees) (core : Core) (tags : TagTable) → elaborated unit ≡ Ok (core, tags) → EachFunc core (CallsInside core)
core_calls unit core tags e = search (arith, behind, walked_finished, each_calls, main_number)
