-- What a step of elaboration comes to, against what its definition says. Memory may run out at any time: then nothing is
-- said.
use Rattle.std.specs.Prelude.{◌≡◌, ℕ, Result, IfOk}
use Rattle.c_types.specs.Types.{PlainType, plain}
use Rattle.c_types.specs.declared.types.CType.{CType}
use Rattle.c_decls.specs.declared.refusal.TypeError.{TypeError}
use Rattle.c_decls.specs.Refusals.{Checked, Meets}
use Rattle.elaboration.specs.Context.{Context, With}
use Rattle.elaboration.specs.Conversions as plain
use Rattle.elaboration.specs.Declarators.{Members, complete}
use Rattle.elab_base.specs.declared.found.Spot.{Spot}
use Rattle.elab_base.specs.declared.found.Found.{Found}
use Rattle.elab_base.specs.PlainFound.{plain_spot, plain_found}

-- an elaborated expression, with the context behind it
abbrev pub at : Context → Found → Context × plain.Found
at c e = (c, plain_found e)

-- a step that the definition may refuse: the context behind it is the one that is wanted
abbrev pub Becomes : {A : Type 0} → Context → Result A TypeError → Checked Context → Type 0
Becomes c result wanted = Meets (λ _. c) result wanted

-- so are the context and the value that is answered
abbrev pub Gives : {A : Type 0} → Context → Result A TypeError → With A → Type 0
Gives c result wanted = Meets (λ x. (c, x)) result wanted

-- so are the context and the type that is answered
abbrev pub Types : Context → Result CType TypeError → With PlainType → Type 0
Types c result wanted = Meets (λ type. (c, plain type)) result wanted

-- so are the context and the elaborated expression that is answered
abbrev pub Finds : Context → Result Found TypeError → With plain.Found → Type 0
Finds c result wanted = Meets (λ e. at c e) result wanted

-- a step that is never refused: the context behind it and the value that is answered are those that are wanted
abbrev pub Emits : {A E : Type 0} → Context → Result A E → Context × A → Type 0
Emits c result wanted = IfOk result (λ x. (c, x) ≡ wanted)

-- so are the context and the type that is answered
abbrev pub MakesType : {E : Type 0} → Context → Result CType E → Context × PlainType → Type 0
MakesType c result wanted = IfOk result (λ type. (c, plain type) ≡ wanted)

-- so are the context and the place that is answered
abbrev pub Locates : {E : Type 0} → Context → Result Spot E → Context × plain.Spot → Type 0
Locates c result wanted = IfOk result (λ spot. (c, plain_spot spot) ≡ wanted)

-- so are the context and the elaborated expression that is answered
abbrev pub Yields : {E : Type 0} → Context → Result Found E → Context × plain.Found → Type 0
Yields c result wanted = IfOk result (λ e. at c e ≡ wanted)

-- a tag gets its members: the context behind it is the one that is wanted, whatever type of the tag is answered
abbrev pub Completes : {A : Type 0} → ℕ → ℕ → Members → Context → Context → Result A TypeError → Type 0
Completes line tag members before c result =
    (type : PlainType) → Meets (λ _. (c, type)) result (complete line tag type before members)
