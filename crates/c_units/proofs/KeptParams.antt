-- A tree as it stands in the program declares what it declares in the unit; and without a suffix it stands there as it is.
use Rattle.c_units.proofs.Words.Std.{Bool, true, List, None, Option, Some, [], ap, ap₂, if◌then◌else◌, option_map, refl, subst, sym, ℕ, ⊤, ◌∙◌, ◌∷◌, ◌≡◌}
use Rattle.c_units.proofs.Words.Trees.{Declarator, Tree, Trees, declarator_tree, name_among, name_of, none, params_of, ◌▹◌}
use Rattle.c_units.proofs.Words.Units.{Inner, Known, Names, Role, Shared, all_renamed, before_declarator, behind, binding_as, binding_at, declare, each_renamed, inside_params, name_by, named_as, no_scope, renamed, renamed_declarator, with_params}
use Rattle.c_tree.specs.Places as p
use Rattle.c_units.proofs.BoundDeclarators.{AreRenamed, declarator_kept}
use Rattle.c_units.proofs.FileWalks.{behind_suffix, parts_suffix, tree_stays, parts_stay}
use Rattle.c_units.proofs.Walks.{anything, Keeps, parts_kept}

-- what is known at two places is the same but for the suffix and for what was said of names
abbrev pub Alike : Names → Names → Type 0
Alike x y = (x.own ≡ y.own) × (x.known ≡ y.known) × (x.inside ≡ y.inside)

declare_alike : (name : Option (List ℕ)) (x y : Names) → Alike x y → Alike (declare name (binding_at x) x) (declare name (binding_at y) y)
declare_alike None x y h = h
declare_alike (Some name) x y h = (
  h.0,
  ap₂ (λ (i : Bool) (l : List Known). record { name = name; binding = if i then Inner else Shared } ∷ l) h.2 h.1,
  h.2,
)

-- a tree declares what it declares, however the names in its expressions stand
keeps_alike : Keeps (λ _. ⊤) (λ u. Alike u.names u.known)
keeps_alike = record {
  ends = λ u inner h g. ((g (h.0, h.1, refl)).0, h.1, h.2);
  declares = λ parts u d h. declare_alike (name_among parts) u.names u.known h;
  uses = λ line name u d h. h;
  says = λ first second third u h. h;
}

-- parameters as they stand in the program
params_alike : (old new : Option Trees) (s x y : Names) → new ≡ option_map (λ ps. all_renamed ps (p.Params ∷ []) s) old → Alike x y →
    Alike (with_params old x) (with_params new y)
params_alike None new s x y e h = subst (λ (o : Option Trees). Alike x (with_params o y)) (sym e) h
params_alike (Some parts) new s x y e h =
    subst (λ (o : Option Trees). Alike (with_params (Some parts) x) (with_params o y)) (sym e) (parts_kept anything keeps_alike parts (p.Params ∷ []) (record { by = s; names = x; scope = no_scope; known = y; held = no_scope }) tt h)

params_suffix : (params : Option Trees) (s : Names) → (with_params params s).suffix ≡ s.suffix
params_suffix None s = refl
params_suffix (Some parts) s = parts_suffix parts (p.Params ∷ []) s

inside_same : (old new : Option Trees) (s : Names) → AreRenamed new old → inside_params new s ≡ inside_params old s
inside_same old new s h =
    let start : Names = record s { inside = true; mentions = [] } in
    let e : Alike (with_params old start) (with_params new start) = params_alike old new h.0 start start h.1 (refl, refl, refl) in
    let same : (with_params new start).suffix ≡ (with_params old start).suffix = params_suffix new start ∙ sym (params_suffix old start) in
    λ i. record { own = sym e.0 i; suffix = same i; known = sym e.1 i; inside = sym e.2 i; mentions = s.mentions }

named_params : (name : Option (List ℕ)) (role : Role) (declarator : Declarator) (x s : Names) →
    AreRenamed (params_of (named_as name role (renamed (declarator_tree declarator) x) s)) (params_of (declarator_tree declarator))
named_params None role declarator x s = (declarator_kept declarator [] x).4
named_params (Some name) role declarator x s =
    let k = declarator_kept declarator (name_by (binding_as role s.own name) s.suffix name) x in
    (k.4.0, k.3 ∙ k.4.1)

-- the parameters of a function declare the same where its declarator stands as it does in the program
pub file_params : (declarator : Declarator) (role : Role) (line : ℕ) (s u : Names) →
    inside_params (params_of (renamed_declarator role line (declarator_tree declarator) s)) u ≡ inside_params (params_of (declarator_tree declarator)) u
file_params declarator role line s u =
    let name = name_of (declarator_tree declarator) in
    inside_same (params_of (declarator_tree declarator)) _ u (named_params name role declarator (before_declarator name role line s) s)

-- trees in turn
pub each_stays : (parts : Trees) (s : Names) → s.suffix ≡ [] → each_renamed parts s ≡ parts
each_stays none s e = refl
each_stays (tree ▹ rest) s e =
    ap₂ (λ (t : Tree) (l : Trees). t ▹ l) (tree_stays tree s e) (each_stays rest (behind tree s) (behind_suffix tree s ∙ e))

-- parameters that stand in the program as they are
plain_params : (params : Option Trees) (s : Names) → s.suffix ≡ [] → params ≡ option_map (λ ps. all_renamed ps (p.Params ∷ []) s) params
plain_params None s e = refl
plain_params (Some parts) s e = ap (λ (ps : Trees). Some ps) (sym (parts_stay parts (p.Params ∷ []) s e))

-- the parameters declare the same without a suffix, which then is there again
pub suffix_back : (params : Option Trees) (s : Names) →
    record (with_params params (record s { suffix = []; inside = true; mentions = [] })) { suffix = s.suffix; mentions = s.mentions } ≡ inside_params params s
suffix_back params s =
    let bare : Names = record s { suffix = []; inside = true; mentions = [] } in
    let start : Names = record s { inside = true; mentions = [] } in
    let e : Alike (with_params params bare) (with_params params start) =
    params_alike params params bare bare start (plain_params params bare refl) (refl, refl, refl) in
    λ i. record { own = e.0 i; suffix = sym (params_suffix params start) i; known = e.1 i; inside = e.2 i; mentions = s.mentions }
