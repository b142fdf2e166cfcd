-- What is known of tags stays, and with it the layouts of types. Equations, proved from `TagTable` and `Layouts`.
use Rattle.std.proofs.Common.{◌≡◌, ℕ, List, [], ◌∷◌, ◌==◌, cond, fold, Option, Some, None, IsSome, option_map, unwrap_or, refl, ap, sym, ◌∙◌}
use Rattle.std.specs.Option.{option_or}
use Rattle.std.proofs.lemmas.Bool.{false≢true}
use Rattle.std.proofs.lemmas.Option.{none-some}
use Rattle.c_types.specs.declared.layouts.Layout.{Layout}
use Rattle.c_types.specs.Types.{PlainType, Void, Int, Pointer, Array, Struct, Union, Function}
use Rattle.c_types.specs.Layouts.{Known, array_layout, layout_of}
use Rattle.c_types.specs.TagTable.{CompletedTag, learn, tag_layout}

-- more is known
abbrev pub Extends : Known → Known → Type 0
Extends k more = (tag : ℕ) (l : Layout) → k tag ≡ Some l → more tag ≡ Some l

-- what is known stays known, whatever tags come
pub stays_known : (k : Known) (ds : List CompletedTag) (tag : ℕ) (l : Layout) → k tag ≡ Some l → fold learn k ds tag ≡ Some l
stays_known k [] tag l e = e
stays_known k (d ∷ ds) tag l e =
    stays_known (learn k d) ds tag l (ap (λ before. option_or before (cond (d.tag == tag) (Some (tag_layout k d)) None)) e)

-- an array with a layout has an element with one
pub some_array : (o : Option Layout) (n : ℕ) (l : Layout) → option_map (array_layout n) o ≡ Some l → (e : Layout) × (o ≡ Some e) × (array_layout n e ≡ l)
some_array None n l h = absurd (none-some l h)
some_array (Some e) n l h = (e, refl, ap (λ found. unwrap_or found l) h)

pub layout_stays : (k more : Known) → Extends k more → (type : PlainType) (l : Layout) → layout_of k type ≡ Some l → layout_of more type ≡ Some l
layout_stays k more x Void l e = absurd (none-some l e)
layout_stays k more x (Int int) l e = e
layout_stays k more x (Pointer target) l e = e
layout_stays k more x (Array element n) l e =
    let r = some_array (layout_of k element) n l e in
    ap (option_map (array_layout n)) (layout_stays k more x element r.0 r.1) ∙ ap Some r.2
layout_stays k more x (Struct tag) l e = x tag l e
layout_stays k more x (Union tag) l e = x tag l e
layout_stays k more x (Function answer params) l e = absurd (none-some l e)

pub sized_stays : (k more : Known) → Extends k more → (type : PlainType) → IsSome (layout_of k type) → layout_of k type ≡ layout_of more type
sized_stays k more x type s =
    elim (layout_of k type) as (λ o. IsSome o → layout_of k type ≡ o → layout_of k type ≡ layout_of more type) [
      | None ↦ λ h e. absurd (false≢true h)
      | Some l ↦ λ h e. e ∙ sym (layout_stays k more x type l e)
    ]
    s
    refl
