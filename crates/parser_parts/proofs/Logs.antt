-- Declared names, and which of them are types.
use Rattle.std.proofs.Common.{◌≡◌, ℕ, suc, ◌+◌, ◌-◌, ◌<◌, ◌≤◌, Bool, true, false, if◌then◌else◌, bytes_eq, List, [], ◌∷◌, ◌++◌, reverse, length, take, drop, get_or, Option, Some, Bor, refl, ap, sym, subst, ◌∙◌, arith}
use Rattle.std.specs.HashSet.{HashSet, contains_by}
use Rattle.std.specs.List.{list_any, slice_get}
use Rattle.std.specs.Option.{option_to_list}
use Rattle.std.proofs.lemmas.List.{reverse-append, take_more, map-append, take-append-drop, length-map, length-reverse, length-drop}
use Rattle.std.proofs.lemmas.Slice.Eq.{bytes_eq-Decides}
use Rattle.std.proofs.lemmas.Option.{get_or_from_slice_get}
use Rattle.std.proofs.Math.Seq.{take-append_seam, take-length}
use Rattle.c_tree.specs.Scopes.{Known, is_type}
use Rattle.parser_parts.specs.Names.{known_names, entry_known, entries_known, TellBefore, AreTypes, without_latest, oldest}
use Rattle.parser_parts.specs.declared.declared.Entry.{Entry}

back_by : (same : Bool) (entry : Entry) (rest : List Known) (name : Bor (List ℕ)) → bytes_eq entry.named.name.now name.now ≡ same →
    entry.was_type ≡ is_type rest entry.named.name.now →
    (if same then entry.was_type else (if same then entry.named.is_type else is_type rest name.now)) ≡ is_type rest name.now
back_by false entry rest name h was = refl
back_by true entry rest name h was = was ∙ ap (is_type rest) ((bytes_eq-Decides entry.named.name.now name.now).0 h)

module _ {S : Type 0} where
  -- no names at first
  pub none_yet : (log : List Entry) (types : HashSet (Bor (List ℕ)) S) → log ≡ [] → types.keys ≡ [] → TellBefore (reverse log) × AreTypes types (entries_known (reverse log))
  unfolding is_type
  none_yet log types e f =
      subst (λ (l : List Entry). TellBefore (reverse l) × AreTypes types (entries_known (reverse l))) (sym e)
      (tt, λ name. ap (list_any (λ (other : Bor (List ℕ)). bytes_eq name.now other.now)) f)

  -- a declaration behind others
  pub one_more : (log more : List Entry) (entry : Entry) (types marked : HashSet (Bor (List ℕ)) S) → more ≡ log ++ entry ∷ [] →
      TellBefore (reverse log) × AreTypes types (entries_known (reverse log)) →
      entry.was_type ≡ contains_by (λ (other : Bor (List ℕ)). bytes_eq entry.named.name.now other.now) types →
      ((name : Bor (List ℕ)) → contains_by (λ (other : Bor (List ℕ)). bytes_eq name.now other.now) marked ≡ (if bytes_eq entry.named.name.now name.now then entry.named.is_type else contains_by (λ (other : Bor (List ℕ)). bytes_eq name.now other.now) types)) →
      TellBefore (reverse more) × AreTypes marked (entries_known (reverse more))
  unfolding is_type
  one_more log more entry types marked e before was marks =
      let turned : reverse more ≡ entry ∷ reverse log = ap reverse e ∙ reverse-append log (entry ∷ []) in
      subst (λ (l : List Entry). TellBefore l × AreTypes marked (entries_known l)) (sym turned) (
        (was ∙ before.1 entry.named.name, before.0),
        λ name. marks name ∙ ap (λ b. if bytes_eq entry.named.name.now name.now then entry.named.is_type else b) (before.1 name),
      )

  -- a declaration is taken back
  pub one_back : (log rest : List Entry) (entry : Entry) (types marked : HashSet (Bor (List ℕ)) S) → log ≡ rest ++ entry ∷ [] →
      TellBefore (reverse log) × AreTypes types (entries_known (reverse log)) →
      ((name : Bor (List ℕ)) → contains_by (λ (other : Bor (List ℕ)). bytes_eq name.now other.now) marked ≡ (if bytes_eq entry.named.name.now name.now then entry.was_type else contains_by (λ (other : Bor (List ℕ)). bytes_eq name.now other.now) types)) →
      TellBefore (reverse rest) × AreTypes marked (entries_known (reverse rest))
  unfolding is_type
  one_back log rest entry types marked e before marks =
      let turned : reverse log ≡ entry ∷ reverse rest = ap reverse e ∙ reverse-append rest (entry ∷ []) in
      let was : TellBefore (entry ∷ reverse rest) × AreTypes types (entries_known (entry ∷ reverse rest)) = subst (λ (l : List Entry). TellBefore l × AreTypes types (entries_known l)) turned before in (
        was.0.1,
        λ name. marks name ∙ ap (λ b. if bytes_eq entry.named.name.now name.now then entry.was_type else b) (was.1 name)
            ∙ back_by (bytes_eq entry.named.name.now name.now) entry (entries_known (reverse rest)) name refl was.0.0,
      )

-- the last entry is the one that leaves
pub last_leaves : (log rest : List Entry) (popped : Option Entry) (entry : Entry) (n : ℕ) → n ≡ length log → log ≡ rest ++ option_to_list popped → slice_get log (length log - 1) ≡ Some entry →
    ((d : Entry) → 0 < n → popped ≡ Some (get_or log (n - 1) d)) → log ≡ rest ++ entry ∷ []
last_leaves [] rest popped entry n same e last found = cc
last_leaves (first ∷ log) rest popped entry n same e last found =
    let there : get_or (first ∷ log) (n - 1) entry ≡ entry = ap (λ k. get_or (first ∷ log) (k - 1) entry) same ∙ get_or_from_slice_get (first ∷ log) (length (first ∷ log) - 1) entry entry last in
    e ∙ ap (λ p. rest ++ option_to_list p) (found entry (omega (arith, same)) ∙ ap Some there)

-- one less is taken back
pub oldest_behind : (count : ℕ) (names : List Known) → count < length names → oldest count (without_latest names) ≡ oldest count names
oldest_behind count [] h = absurd (omega (arith, h))
oldest_behind count (first ∷ names) h =
    let e : suc (length names) - count ≡ suc (length names - count) = omega arith in
    sym (ap (λ n. drop n (first ∷ names)) e)

-- all of them
pub oldest_all : (count : ℕ) (names : List Known) → length names ≤ count → oldest count names ≡ names
oldest_all count names h = let e : length names - count ≡ 0 = omega arith in ap (λ n. drop n names) e

-- the latest of the log
pub latest : (count : ℕ) (log : List Entry) → entries_known (reverse (drop count log)) ≡ take (length (entries_known (reverse log)) - count) (entries_known (reverse log))
latest count log =
    let new : List Known = entries_known (reverse (drop count log)) in
    let old : List Known = entries_known (reverse (take count log)) in
    let split : entries_known (reverse log) ≡ new ++ old =
    ap (λ l. entries_known (reverse l)) (sym (take-append-drop count log)) ∙ ap entries_known (reverse-append (take count log) (drop count log))
    ∙ map-append entry_known (reverse (drop count log)) (reverse (take count log)) in
    let long : length (entries_known (reverse log)) - count ≡ length new =
    omega (arith, length-map (reverse log) entry_known, length-reverse log, length-map (reverse (drop count log)) entry_known, length-reverse (drop count log), length-drop count log) in
    sym (ap (λ n. take n (entries_known (reverse log))) long ∙ ap (take (length new)) split ∙ take-append_seam new old)

-- one more of some declarations
pub known_more : (log : List Entry) (i : ℕ) (d : Entry) → i < length log → known_names (take (i + 1) log) ≡ entry_known (get_or log i d) ∷ known_names (take i log)
known_more log i d h = ap known_names (take_more log i d h) ∙ ap entries_known (reverse-append (take i log) (get_or log i d ∷ []))

-- all of them
pub known_all : (log : List Entry) (i : ℕ) → i ≡ length log → known_names (take i log) ≡ known_names log
known_all log i h = ap (λ n. known_names (take n log)) h ∙ ap known_names (take-length log)
