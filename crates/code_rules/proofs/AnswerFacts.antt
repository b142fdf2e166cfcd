-- The answers of functions, from one of each.
use Rattle.std.proofs.Common.{◌≡◌, ℕ, Bool, List, [], ◌∷◌, Option, Some, None, refl, sym, ap, subst, get_or}
use Rattle.std.specs.List.{slice_get}
use Rattle.std.specs.Option.{MatchOption}
use Rattle.core_tree.specs.Sorts.{Sort}
use Rattle.flat_code.specs.declared.instructions.Instr.{Instr}
use Rattle.flat_code.specs.declared.instructions.Op.{Op}
use Rattle.flat_code.specs.declared.instructions.Op.TheVariants as op
use Rattle.flat_code.specs.declared.program.Code.{Code}
use Rattle.flat_code.specs.declared.program.Entry.{Entry}
use Rattle.flat_code.specs.Table.{chosen}
use Rattle.flat_code.specs.WellFormed.{EachAnswer, EachEntry, EachInstr, GivesTo, HasResult, IsAt, OfAnswer, handed_before}
use Rattle.code_rules.specs.Answers.{AnswersAlike, AreAnswers, IsAnswer, TakesAnswer, answer_at, answer_given, answer_told}
use Rattle.code_rules.specs.Operands.{HasRegister, sort_told}

-- what holds of the answer of an operation
to_match : (P : Option Sort → Type 0) (o : Op) (handed : List (Option Sort)) → OfAnswer P o handed → MatchOption (answer_given o handed) (Unit {0}) P
to_match P op.Return handed h = h
to_match P op.Give [] h = tt
to_match P op.Give (sort ∷ more) h = h
to_match P o handed h = tt

of_match : (P : Option Sort → Type 0) (o : Op) (handed : List (Option Sort)) → MatchOption (answer_given o handed) (Unit {0}) P → OfAnswer P o handed
of_match P op.Return handed h = h
of_match P op.Give [] h = tt
of_match P op.Give (sort ∷ more) h = h
of_match P o handed h = tt

-- what holds of all answers holds of the one that is told
told_holds : (code : Code) (g : ℕ) (entry : Entry) (P : Option Sort → Type 0) → EachAnswer code g P → (o : Option (Option Bool)) → IsAnswer code g entry o → MatchOption o (Unit {0}) (λ a. P (sort_told a))
told_holds code g entry P each None is = tt
told_holds code g entry P each (Some a) is =
    let here = each g entry is.point is.instr is.here refl in
    subst (λ (o : Option (Option Sort)). MatchOption o (Unit {0}) P) is.gives (to_match P is.instr.op (handed_before code entry is.point) here)

-- what holds of the one that is told holds of all
one_holds : (P : Option Sort → Type 0) (given : Option (Option Sort)) (o : Option (Option Bool)) → MatchOption given (Unit {0}) (λ answer. answer_told o ≡ Some answer) → MatchOption o (Unit {0}) (λ a. P (sort_told a)) → MatchOption given (Unit {0}) P
one_holds P None o alike holds = tt
one_holds P (Some x) None alike holds = absurd (cc)
one_holds P (Some x) (Some a) alike holds = let same : sort_told a ≡ x = cc in subst P same holds

pub all_hold : (code : Code) (told : List (Option (Option Bool))) (g : ℕ) (P : Option Sort → Type 0) → EachInstr code (AnswersAlike code told) → MatchOption (get_or told g None) (Unit {0}) (λ a. P (sort_told a)) → EachAnswer code g P
all_hold code told g P alike holds f entry point i here same =
    of_match P i.op (handed_before code entry point)
    (one_holds P (answer_at code entry point i) (get_or told f None) (alike f entry point i here) (subst (λ n. MatchOption (get_or told n None) (Unit {0}) (λ a. P (sort_told a))) (sym same) holds))

pub answer_holds : (code : Code) (told : List (Option (Option Bool))) (g : ℕ) (entry : Entry) (P : Option Sort → Type 0) → AreAnswers code told → slice_get code.funcs g ≡ Some entry → EachAnswer code g P → MatchOption (get_or told g None) (Unit {0}) (λ a. P (sort_told a))
answer_holds code told g entry P are here each = told_holds code g entry P each (get_or told g None) (are g entry here)

-- Alike

self_same : (o : Option (Option Bool)) → MatchOption o (Unit {0}) (λ a. MatchOption o (Unit {0}) (λ b. sort_told a ≡ sort_told b))
self_same None = tt
self_same (Some a) = refl

inner : (code : Code) (told : List (Option (Option Bool))) (f : ℕ) → EachInstr code (AnswersAlike code told) → (o : Option (Option Bool)) → get_or told f None ≡ o → MatchOption o (Unit {0}) (λ a. EachAnswer code f (λ other. sort_told a ≡ other))
inner code told f alike None is = tt
inner code told f alike (Some a) is =
    all_hold code told f (λ other. sort_told a ≡ other) alike (subst (λ (o : Option (Option Bool)). MatchOption o (Unit {0}) (λ b. sort_told a ≡ sort_told b)) (sym is) refl)

pub alike_answers : (code : Code) (told : List (Option (Option Bool))) → EachInstr code (AnswersAlike code told) → EachEntry code (λ f entry. EachAnswer code f (λ one. EachAnswer code f (λ other. one ≡ other)))
alike_answers code told alike f entry here =
    all_hold code told f (λ one. EachAnswer code f (λ other. one ≡ other)) alike (inner code told f alike (get_or told f None) refl)

same_given : (code : Code) (f : ℕ) (entry : Entry) (point : ℕ) (i : Instr) → IsAt code f entry point i → EachAnswer code f (λ one. EachAnswer code f (λ other. one ≡ other)) → (o : Option (Option Bool)) → IsAnswer code f entry o →
    (given : Option (Option Sort)) → answer_at code entry point i ≡ given → MatchOption given (Unit {0}) (λ answer. answer_told o ≡ Some answer)
same_given code f entry point i here alike o is None given = tt
same_given code f entry point i here alike None is (Some x) given = let none = is point i here in absurd (cc)
same_given code f entry point i here alike (Some a) is (Some x) given =
    let first = told_holds code f entry (λ one. EachAnswer code f (λ other. one ≡ other)) alike (Some a) is in
    let mine = to_match (λ other. sort_told a ≡ other) i.op (handed_before code entry point) (first f entry point i here refl) in
    let same : sort_told a ≡ x = subst (λ (g : Option (Option Sort)). MatchOption g (Unit {0}) (λ other. sort_told a ≡ other)) given mine in
    ap (λ (s : Option Sort). Some s) same

pub answers_alike : (code : Code) (told : List (Option (Option Bool))) → AreAnswers code told → EachEntry code (λ f entry. EachAnswer code f (λ one. EachAnswer code f (λ other. one ≡ other))) → EachInstr code (AnswersAlike code told)
answers_alike code told are alike f entry point i here =
    same_given code f entry point i here (alike f entry here.function) (get_or told f None) (are f entry here.function) (answer_at code entry point i) refl

-- Results

pub has_result : (code : Code) (told : List (Option (Option Bool))) (entry : Entry) (i : Instr) → EachInstr code (AnswersAlike code told) → (o : Op) → HasRegister entry i o → TakesAnswer told entry i o → HasResult code entry i o
has_result code told entry i alike op.Call register takes = (register, all_hold code told i.b (λ answer. GivesTo entry answer (chosen i)) alike takes)
has_result code told entry i alike o register takes = register

pub result_register : (code : Code) (entry : Entry) (i : Instr) (o : Op) → HasResult code entry i o → HasRegister entry i o
result_register code entry i op.Call has = has.0
result_register code entry i o has = has

pub result_takes : (code : Code) (told : List (Option (Option Bool))) (entry : Entry) (i : Instr) → AreAnswers code told → (o : Op) → (o ≡ op.Call → (callee : Entry) × (slice_get code.funcs i.b ≡ Some callee)) → HasResult code entry i o → TakesAnswer told entry i o
result_takes code told entry i are op.Call there has = let callee = there refl in answer_holds code told i.b callee.0 (λ answer. GivesTo entry answer (chosen i)) are callee.1 has.1
result_takes code told entry i are o there has = tt
