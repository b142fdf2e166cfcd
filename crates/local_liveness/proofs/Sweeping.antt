-- A sweep over a body, and what sweeps find.
use Rattle.std.proofs.Common.{◌≡◌, ◌<◌, ◌≤◌, ◌+◌, ◌*◌, ◌&&◌, ◌||◌, ℕ, zero, suc, Bool, true, false, not, List, [], Option, Some, None, length, refl, sym, ap, ◌∙◌, subst, arith, ⊎_elim, true≢false, length-set}
use Rattle.std.specs.Prelude.{slice_set, slice_get}
use Rattle.std.specs.List.{list_any}
use Rattle.std.specs.Option.{option_map_or}
use Rattle.std.proofs.lemmas.Bool.{cases_eq, cases_lt, or_cases, or_left, or_right, and_parts, or_parts}
use Rattle.std.proofs.lemmas.List.{get_or-set_same, get_or-set_other, set-get_or}
use Rattle.core_tree.specs.declared.flow.Edges.{Edges}
use Rattle.core_tree.specs.declared.statements.Stm.{Stm}
use Rattle.core_tree.specs.Statements.{edges, leads_to, reads, writes, reads_at, writes_at, edges_at}
use Rattle.core_tree.specs.Lives.{is_live, live_within}
use Rattle.local_liveness.specs.Sets.{has, set_at, Adds}
use Rattle.local_liveness.specs.Sweeps.{IsTarget, is_live_before, before_within, HasRoom, AreLive, HasWithin, IsBlank, Fills, IsFilled}
use Rattle.local_liveness.specs.Tables.{LiveByPaths}
use Rattle.local_liveness.proofs.Bits.{has_inside}
use Rattle.local_liveness.proofs.Going.{same_bools, before_past, before_is_within, live_from, jumps_here, target_edge, next_edge, any_edge}

-- a sweep that has come to a point: the points from it on are visited, and the set that it carries is what is live in front of it
pub record Swept (body : List Stm) (words point : ℕ) (old new : List (List ℕ)) (live : List ℕ) (more : Bool) : Type 0 where
  pub points : length new ≡ length old
  pub width : length live ≡ words
  pub room : (p : ℕ) → length (set_at new p) ≡ length (set_at old p)
  pub kept : (p r : ℕ) → has (set_at old p) r ≡ true → has (set_at new p) r ≡ true
  pub sound : (r : ℕ) → r < 64 * words → AreLive body old r → AreLive body new r
  pub carried : (r : ℕ) → r < 64 * words → AreLive body old r → has live r ≡ true → is_live_before body point r ≡ true
  pub found_here : (r n : ℕ) → r < 64 * words → ((m : ℕ) → m < n → HasWithin body old r m) → before_within body r n point ≡ true → has live r ≡ true
  pub found : (r n : ℕ) → r < 64 * words → ((m : ℕ) → m < n → HasWithin body old r m) → (t : ℕ) → point ≤ t → IsTarget body t → before_within body r n t ≡ true → has (set_at new t) r ≡ true
  pub same : more ≡ false → new ≡ old

pub swept_none :
    (body : List Stm) (words point : ℕ) (old : List (List ℕ)) (live : List ℕ) → length body ≤ point → length live ≡ words → ((r : ℕ) → has live r ≡ false) →
    Swept body words point old old live false
swept_none body words point old live past width none = record {
  points = refl;
  width = width;
  room = λ p. refl;
  kept = λ p r h. h;
  sound = λ r less before. before;
  carried = λ r less before h. absurd (true≢false (sym h ∙ none r));
  found_here = λ r n less earlier h. absurd (true≢false (sym h ∙ before_past body r n point past));
  found = λ r n less earlier t from target h. let inside = target.inside in absurd (omega arith);
  same = λ e. refl;
}

-- a fact of each set behind a write
after_set :
    (P : List ℕ → Type 0) (sets : List (List ℕ)) (point p : ℕ) (new : List ℕ) → point < length sets → (p ≡ point → P new) →
    ((p ≡ point → ⊥) → P (set_at sets p)) → P (set_at (slice_set sets point new) p)
after_set P sets point p new inside here there =
    ⊎_elim
    (λ (e : p ≡ point). subst P (sym (ap (λ q. set_at (slice_set sets point new) q) e ∙ get_or-set_same sets point new [] inside)) (here e))
    (λ (ne : p ≡ point → ⊥). subst P (sym (get_or-set_other sets point p new [] ne)) (there ne))
    (cases_eq p point)

reads_here : (body : List Stm) (point r : ℕ) (stm : Stm) → slice_get body point ≡ Some stm → reads_at body point r ≡ reads stm.kind r
reads_here body point r stm stands = ap (λ (o : Option Stm). option_map_or (λ (s : Stm). reads s.kind r) o false) stands

writes_here : (body : List Stm) (point r : ℕ) (stm : Stm) → slice_get body point ≡ Some stm → writes_at body point r ≡ writes stm.kind r
writes_here body point r stm stands = ap (λ (o : Option Stm). option_map_or (λ (s : Stm). writes s.kind r) o false) stands

-- a set in front of a statement that stands at a point, from the set after it
pub in_front :
    (body : List Stm) (point r : ℕ) (stm : Stm) (after : Bool) (front : Bool) → slice_get body point ≡ Some stm →
    front ≡ (reads stm.kind r || (not (writes stm.kind r) && after)) → front ≡ (reads_at body point r || (not (writes_at body point r) && after))
in_front body point r stm after front stands is =
    is
    ∙ ap (λ b. b || (not (writes stm.kind r) && after)) (sym (reads_here body point r stm stands))
    ∙ ap (λ b. reads_at body point r || (not b && after)) (sym (writes_here body point r stm stands))

none_within : (body : List Stm) (r p : ℕ) → live_within body r 0 p ≡ false
unfolding live_within
none_within body r p = refl

within_more : (body : List Stm) (r n p : ℕ) → live_within body r (suc n) p ≡ list_any (λ q. before_within body r n q) (edges_at body p)
unfolding live_within
within_more body r n p = refl

-- only points of the body are reached
inside_body : (body : List Stm) (r n p : ℕ) → before_within body r n p ≡ true → p < length body
inside_body body r n p h =
    ⊎_elim
    (λ (less : p < length body). less)
    (λ (past : length body ≤ p). absurd (true≢false (sym h ∙ before_past body r n p past)))
    (cases_lt p (length body))

mapped : (f : ℕ → Bool) (o : Option ℕ) → option_map_or f o false ≡ true → (x : ℕ) × (o ≡ Some x) × (f x ≡ true)
mapped f None h = absurd (true≢false (sym h))
mapped f (Some x) h = (x, refl, h)

-- tests that pass more
or_more : (a b c : Bool) → (b ≡ true → c ≡ true) → (a || b) ≡ true → (a || c) ≡ true
or_more true b c h e = refl
or_more false b c h e = h e

and_more : (a b c : Bool) → (b ≡ true → c ≡ true) → (a && b) ≡ true → (a && c) ≡ true
and_more true b c h e = h e
and_more false b c h e = e

module _
    (paths : LiveByPaths) (body : List Stm) (words point : ℕ) (old mid : List (List ℕ)) (live followed front here : List ℕ) (stm : Stm) (e : Edges)
    (stands : slice_get body point ≡ Some stm) (edges_are : (p : ℕ) → edges stm.kind p ≡ leads_to e p)
    (inside : point < length mid) (long : length mid ≡ length body) (has_room : HasRoom body words old) (more added : Bool)
    (i : ℕ) (next : i ≡ point + 1) (come : Swept body words i old mid live more) (followed_long : length followed ≡ length live)
    (followed_is : (r : ℕ) → r < 64 * length live → has followed r ≡ ((e.next && has live r) || option_map_or (λ target. has (set_at mid target) r) e.target false))
    (front_long : length front ≡ length followed)
    (front_is : (r : ℕ) → r < 64 * length followed → has front r ≡ (reads stm.kind r || (not (writes stm.kind r) && has followed r)))
    (adds : Adds (has front) (set_at mid point) here) (back : added ≡ false → here ≡ set_at mid point) where
  s : Swept body words (point + 1) old mid live more
  s = subst (λ n. Swept body words n old mid live more) next come

  next_follows : (r : ℕ) → r < 64 * words → e.next ≡ true → has live r ≡ true → has followed r ≡ true
  next_follows r less goes h =
      followed_is r (let w = s.width in omega arith)
      ∙ or_left (e.next && has live r) _ (ap (λ b. b && has live r) goes ∙ h)

  target_follows : (r t : ℕ) → r < 64 * words → e.target ≡ Some t → has (set_at mid t) r ≡ true → has followed r ≡ true
  target_follows r t less is h =
      followed_is r (let w = s.width in omega arith)
      ∙ or_right (e.next && has live r) _ (ap (λ (o : Option ℕ). option_map_or (λ target. has (set_at mid target) r) o false) is ∙ h)

  by_front : (r : ℕ) → r < 64 * words → has front r ≡ (reads_at body point r || (not (writes_at body point r) && has followed r))
  by_front r less = in_front body point r stm (has followed r) (has front r) stands (front_is r (let w = s.width in omega arith))

  after_found :
      (r n : ℕ) → r < 64 * words → ((m : ℕ) → m < n → HasWithin body old r m) → live_within body r n point ≡ true → has followed r ≡ true
  after_found r zero less earlier h = absurd (true≢false (sym h ∙ none_within body r point))
  after_found r (suc m) less earlier h =
      let f = λ (q : ℕ). before_within body r m q in
      ⊎_elim
      (λ (next : (e.next && f (point + 1)) ≡ true).
      let parts = and_parts e.next (f (point + 1)) next in
      next_follows r less parts.0 (s.found_here r m less (λ k b. earlier k (omega arith)) parts.1))
      (λ (target : option_map_or f e.target false ≡ true).
      let t = mapped f e.target target in
      let is_target : IsTarget body t.0 = record {
        from = point;
        stm = stm;
        stands = stands;
        jumps = jumps_here body point stm e stands edges_are t.0 t.1;
        inside = inside_body body r m t.0 t.2;
      } in
      target_follows r t.0 less t.1 (s.kept t.0 r (earlier m (omega arith) t.0 is_target t.2)))
      (or_cases (e.next && f (point + 1)) (option_map_or f e.target false)
      (sym (any_edge body point stm e stands edges_are f) ∙ sym (within_more body r m point) ∙ h))

  after_sound : (r : ℕ) → r < 64 * words → AreLive body old r → has followed r ≡ true → is_live body point r ≡ true
  after_sound r less before h =
      ⊎_elim
      (λ (next : (e.next && has live r) ≡ true).
      let parts = and_parts e.next (has live r) next in
      live_from paths body point (point + 1) r (next_edge body point stm e stands edges_are parts.0) (s.carried r less before parts.1))
      (λ (target : option_map_or (λ t. has (set_at mid t) r) e.target false ≡ true).
      let t = mapped (λ (q : ℕ). has (set_at mid q) r) e.target target in
      live_from paths body point t.0 r (target_edge body point stm e stands edges_are t.0 t.1) (s.sound r less before t.0 t.2))
      (or_cases (e.next && has live r) (option_map_or (λ t. has (set_at mid t) r) e.target false)
      (sym (followed_is r (let w = s.width in omega arith)) ∙ h))

  front_found :
      (r n : ℕ) → r < 64 * words → ((m : ℕ) → m < n → HasWithin body old r m) → before_within body r n point ≡ true → has front r ≡ true
  front_found r n less earlier h =
      by_front r less
      ∙ or_more (reads_at body point r) _ _
      (λ w. and_more (not (writes_at body point r)) (live_within body r n point) (has followed r) (after_found r n less earlier) w) h

  front_sound : (r : ℕ) → r < 64 * words → AreLive body old r → has front r ≡ true → is_live_before body point r ≡ true
  front_sound r less before h =
      or_more (reads_at body point r) _ _
      (λ w. and_more (not (writes_at body point r)) (has followed r) (is_live body point r) (after_sound r less before) w) (sym (by_front r less) ∙ h)

  pub swept_more : Swept body words point old (slice_set mid point here) front (more || added)
  swept_more = record {
    points = length-set mid point here ∙ s.points;
    width = front_long ∙ followed_long ∙ s.width;
    room = λ p.
        after_set (λ x. length x ≡ length (set_at old p)) mid point p here inside
        (λ e. adds.words ∙ s.room point ∙ ap (λ q. length (set_at old q)) (sym e))
        (λ ne. s.room p);
    kept = λ p r h.
        after_set (λ x. has x r ≡ true) mid point p here inside
        (λ e.
        let was : has (set_at mid point) r ≡ true = ap (λ q. has (set_at mid q) r) (sym e) ∙ s.kept p r h in
        adds.bits r (has_inside (set_at mid point) r was) ∙ or_right (has front r) (has (set_at mid point) r) was)
        (λ ne. s.kept p r h);
    sound = λ r less before p.
        after_set (λ x. has x r ≡ true → is_live_before body p r ≡ true) mid point p here inside
        (λ e h.
        let below : r < 64 * length (set_at mid point) = (let same = adds.words in let b = has_inside here r h in omega arith) in
        ap (λ q. is_live_before body q r) e
        ∙ ⊎_elim
        (λ (one : has front r ≡ true). front_sound r less before one)
        (λ (other : has (set_at mid point) r ≡ true). s.sound r less before point other)
        (or_cases (has front r) (has (set_at mid point) r) (sym (adds.bits r below) ∙ h)))
        (λ ne. s.sound r less before p);
    carried = front_sound;
    found_here = front_found;
    found = λ r n less earlier t from target h.
        after_set (λ x. has x r ≡ true) mid point t here inside
        (λ e.
        let wide : length (set_at mid point) ≡ words = s.room point ∙ ap (λ q. length (set_at old q)) (sym e) ∙ has_room t target in
        adds.bits r (omega arith)
        ∙ or_left (has front r) (has (set_at mid point) r) (front_found r n less earlier (ap (λ q. before_within body r n q) (sym e) ∙ h)))
        (λ ne. s.found r n less earlier t (omega arith) target h);
    same = λ no.
        let parts = or_parts more added no in
        ap (λ x. slice_set mid point x) (back parts.1) ∙ set-get_or mid point [] ∙ s.same parts.0;
  }

pub swept_all :
    (body : List Stm) (words point : ℕ) (old new : List (List ℕ)) (live : List ℕ) (more : Bool) → HasRoom body words old → point ≡ 0 →
    Swept body words point old new live more → Fills body words old new
swept_all body words point old new live more has_room first s = record {
  room = λ t target. s.room t ∙ has_room t target;
  kept = λ p r less h. s.kept p r h;
  live = s.sound;
  found = λ r n less earlier t target h. s.found r n less earlier t (omega arith) target h;
}

-- the sets after so many sweeps: only live registers, and all that are found by fewer edges
pub record Filled (body : List Stm) (words n : ℕ) (fronts : List (List ℕ)) (width : ℕ) : Type 0 where
  pub points : length fronts ≡ length body
  pub front : width ≡ words
  pub room : HasRoom body words fronts
  pub live : (r : ℕ) → r < 64 * words → AreLive body fronts r
  pub found : (r m : ℕ) → r < 64 * words → m < n → HasWithin body fronts r m

pub filled_none : (body : List Stm) (words : ℕ) (fronts : List (List ℕ)) → IsBlank body words fronts → Filled body words 0 fronts words
filled_none body words fronts blank = record {
  points = blank.points;
  front = refl;
  room = blank.room;
  live = λ r less p h. absurd (true≢false (sym h ∙ blank.none p r));
  found = λ r m less none. absurd (omega arith);
}

pub filled_more :
    (body : List Stm) (words n : ℕ) (a b : List (List ℕ)) (width wide : ℕ) → Filled body words n a width → wide ≡ width → length b ≡ length a →
    Fills body width a b → Filled body words (n + 1) b wide
filled_more body words n a b width wide f same long fills_width =
    let fills : Fills body words a b = subst (λ w. Fills body w a b) f.front fills_width in
    record {
      points = long ∙ f.points;
      front = same ∙ f.front;
      room = fills.room;
      live = λ r less. fills.live r less (f.live r less);
      found = λ r m less b. fills.found r m less (λ k h. f.found r k less (omega arith));
    }

filled :
    (body : List Stm) (words : ℕ) (fronts : List (List ℕ)) → length fronts ≡ length body → ((r : ℕ) → r < 64 * words → AreLive body fronts r) →
    ((r : ℕ) → r < 64 * words → HasWithin body fronts r (length body)) → IsFilled body words fronts
filled body words fronts points live found = record {
  points = points;
  exact = λ t r target less.
      same_bools (has (set_at fronts t) r) (is_live_before body t r) (live r less t)
      (λ h. found r less t target (sym (before_is_within body t r) ∙ h));
}

-- one sweep more than there are points finds all
pub filled_all :
    (body : List Stm) (words n : ℕ) (fronts : List (List ℕ)) (width : ℕ) → length body < n → Filled body words n fronts width → IsFilled body words fronts
filled_all body words n fronts width enough f = filled body words fronts f.points f.live (λ r less. f.found r (length body) less enough)

-- sets to which a sweep adds nothing have all that is found by any number of edges
closed : (body : List Stm) (words : ℕ) (fronts : List (List ℕ)) → Fills body words fronts fronts → (r : ℕ) → r < 64 * words → (n m : ℕ) → m < n → HasWithin body fronts r m
closed body words fronts fills r less zero m b = absurd (omega arith)
closed body words fronts fills r less (suc n) m b = fills.found r m less (λ k h. closed body words fronts fills r less n k (omega arith))

-- and such a sweep is the last
pub filled_closed :
    (body : List Stm) (words n : ℕ) (a b : List (List ℕ)) (width : ℕ) → Filled body words n a width → Fills body width a b → b ≡ a → IsFilled body words b
filled_closed body words n a b width f fills_width same =
    let fills : Fills body words a a = subst (λ fronts. Fills body words a fronts) same (subst (λ w. Fills body w a b) f.front fills_width) in
    subst (λ fronts. IsFilled body words fronts) (sym same)
    (filled body words a f.points f.live (λ r less. closed body words a fills r less (length body + 1) (length body) (omega arith)))
