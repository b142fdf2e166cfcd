-- Well formed code, from its parts and back.
use Rattle.std.proofs.Common.{◌≡◌, ◌<◌, ◌≤◌, ◌+◌, ◌-◌, ◌↔◌, ℕ, zero, suc, pos, Bool, false, List, Option, Some, None, length, get_or, refl, sym, subst, arith, IsTrue}
use Rattle.std.specs.List.{All, slice_get}
use Rattle.std.specs.Option.{IfSome, IsSome, IsSomeAnd, option_map_or}
use Rattle.std.proofs.lemmas.Option.{get_or_from_slice_get, slice_get_within}
use Rattle.std.proofs.lemmas.List.Elements.{All-get_or}
use Rattle.c_print.specs.Format.{IsFormat}
use Rattle.c_print.specs.Pieces.{pieces_of}
use Rattle.core_tree.specs.Sorts.{Integer}
use Rattle.flat_code.specs.declared.instructions.Instr.{Instr}
use Rattle.flat_code.specs.declared.instructions.Op.{Op}
use Rattle.flat_code.specs.declared.instructions.Op.TheVariants as op
use Rattle.flat_code.specs.declared.program.Code.{Code}
use Rattle.flat_code.specs.declared.program.Entry.{Entry}
use Rattle.flat_code.specs.Sites.{HasSite, has_site}
use Rattle.flat_code.specs.Table.{edges}
use Rattle.flat_code.specs.WellFormed.{EachEntry, EachInstr, HasScopes, IsStart, IsWellFormed, NamesWhatIsThere, end_of}
use Rattle.code_rules.specs.Answers.{AnswersAlike, AreAnswers, TakesAnswer}
use Rattle.code_rules.specs.Functions.{IsFramed}
use Rattle.code_rules.specs.Operands.{NamesFormat}
use Rattle.code_rules.specs.Scopes.{StaysInside}
use Rattle.code_rules.specs.Whole.{CallsMain, GivesInteger, IsMain, KeepsFlow, KeepsTables}
use Rattle.code_rules.proofs.AnswerFacts.{alike_answers, all_hold, answer_holds, answers_alike, has_result, result_register, result_takes}

-- Where functions end

end_step : (code : Code) (f : ℕ) → ((g : ℕ) → f + 1 ≡ g → g < length code.funcs → end_of code g ≤ length code.instrs) → EachEntry code (IsFramed code) → (o : Option Entry) → slice_get code.funcs (f + 1) ≡ o →
    option_map_or (λ (next : Entry). next.first) o (length code.instrs) ≤ length code.instrs
end_step code f later framed None is = omega arith
end_step code f later framed (Some next) is =
    let here = (framed (f + 1) next is).some in
    let past = later (f + 1) refl (slice_get_within code.funcs (f + 1) next is) in
    omega arith

end_within : (code : Code) → EachEntry code (IsFramed code) → (n f : ℕ) → f + n ≡ length code.funcs → end_of code f ≤ length code.instrs
end_within code framed zero f sum =
    end_step code f (λ g is less. absurd (omega arith)) framed (slice_get code.funcs (f + 1)) refl
end_within code framed (suc n) f sum =
    end_step code f (λ g is less. end_within code framed n g (omega arith)) framed (slice_get code.funcs (f + 1)) refl

pub ends_within : (code : Code) → EachEntry code (IsFramed code) → EachEntry code (λ f e. end_of code f ≤ length code.instrs)
ends_within code framed f entry here =
    let inside = slice_get_within code.funcs f entry here in
    end_within code framed (length code.funcs - f) f (omega arith)

pub starts_before : (code : Code) → EachEntry code (IsFramed code) → EachEntry code (λ f e. e.first < end_of code f)
starts_before code framed f entry here = (framed f entry here).some

pub stay_inside : (code : Code) → EachInstr code (λ f entry point i. All (λ next. (entry.first ≤ next) × (next < end_of code f)) (edges i i.op point)) → EachEntry code (StaysInside code)
stay_inside code inside f entry function point i from before here = inside f entry point i (record { function = function; from = from; before = before; here = here })

-- What stands behind the tables and the flow

pub record KeepsRest (code : Code) (told : List (Option (Option Bool))) : Type 0 where
  pub alike : EachInstr code (AnswersAlike code told)
  pub taken : EachInstr code (λ f entry point i. TakesAnswer told entry i i.op)
  pub scopes : EachEntry code (HasScopes code)
  pub sites : EachInstr code (λ f entry point i. HasSite code entry point i (has_site i.op))
  pub start : IsSomeAnd (slice_get code.instrs 0) (CallsMain code told)

-- From the parts

main_from : (code : Code) (told : List (Option (Option Bool))) → EachInstr code (AnswersAlike code told) → (i : Instr) → slice_get code.instrs 0 ≡ Some i → i.op ≡ op.Start → (main : ℕ) → i.imm ≡ pos main →
    (o : Option Entry) → slice_get code.funcs main ≡ o → IsSomeAnd o (λ (entry : Entry). (entry.params ≡ 0) × GivesInteger (get_or told main None)) →
    (i : Instr) × (main : ℕ) × (entry : Entry) × (slice_get code.instrs 0 ≡ Some i) × IsStart code i main entry
main_from code told alike i here begins main number None is there = absurd there
main_from code told alike i here begins main number (Some entry) is there = (
  i,
  main,
  entry,
  here,
  record {
    begins = begins;
    number = number;
    function = is;
    params = there.0;
    answers = all_hold code told main (λ answer. answer ≡ Some Integer) alike there.1;
  },
)

start_from : (code : Code) (told : List (Option (Option Bool))) → EachInstr code (AnswersAlike code told) → (o : Option Instr) → slice_get code.instrs 0 ≡ o → IsSomeAnd o (CallsMain code told) →
    (i : Instr) × (main : ℕ) × (entry : Entry) × (slice_get code.instrs 0 ≡ Some i) × IsStart code i main entry
start_from code told alike None is calls = absurd calls
start_from code told alike (Some i) is calls = main_from code told alike i is calls.0 calls.1.0 calls.1.1 (slice_get code.funcs calls.1.0) refl calls.1.2

pub well_formed : (code : Code) (told : List (Option (Option Bool))) → KeepsTables code → KeepsFlow code → KeepsRest code told → IsWellFormed code
well_formed code told tables flow rest = record {
  start = start_from code told rest.alike (slice_get code.instrs 0) refl rest.start;
  functions = λ f entry here. let framed = tables.framed f entry here in record {
    first = framed.first;
    some = framed.some;
    afresh = framed.afresh;
    params = framed.params;
    mems = framed.mems;
    alike = alike_answers code told rest.alike f entry here;
    scopes = rest.scopes f entry here;
  };
  instructions = λ f entry point i here. record {
    operands = (flow.operands f entry point i here).1;
    result = has_result code told entry i rest.alike i.op (flow.registers f entry point i here) (rest.taken f entry point i here);
    names = flow.names f entry point i here;
    inside = flow.inside f entry point i here;
    ahead = flow.ahead f entry point i here;
    afresh = flow.afresh f entry point i here;
    site = rest.sites f entry point i here;
  };
  lines = tables.lines;
  lines_from_one = tables.lines_from_one;
  layouts = tables.layouts;
  statics = tables.statics;
  static_bytes = tables.static_bytes;
  formats = tables.formats;
  sites_ascend = tables.sites_ascend;
  sites_inside = tables.sites_inside;
  short = tables.short;
}

-- And back

pub tables_of : (code : Code) → IsWellFormed code → KeepsTables code
tables_of code well = record {
  short = well.short;
  lines = well.lines;
  lines_from_one = well.lines_from_one;
  layouts = well.layouts;
  statics = well.statics;
  static_bytes = well.static_bytes;
  formats = well.formats;
  sites_ascend = well.sites_ascend;
  sites_inside = well.sites_inside;
  framed = λ f entry here. let is = well.functions f entry here in record { first = is.first; some = is.some; afresh = is.afresh; params = is.params; mems = is.mems };
}

named_format : (code : Code) → All (λ format. IsFormat format (pieces_of format)) code.formats → (o : Option (List ℕ)) (n : ℕ) → slice_get code.formats n ≡ o → IfSome o (λ format. IsFormat format (pieces_of format))
named_format code all None n is = tt
named_format code all (Some format) n is =
    subst (λ (s : List ℕ). IsFormat s (pieces_of s)) (get_or_from_slice_get code.formats n format format is) (All-get_or (λ format. IsFormat format (pieces_of format)) code.formats n format (slice_get_within code.formats n format is) all)

format_of : (code : Code) (i : Instr) → All (λ format. IsFormat format (pieces_of format)) code.formats → (o : Op) → NamesFormat code i o
format_of code i all op.Printf = named_format code all (slice_get code.formats i.b) i.b refl
format_of code i all o = tt

pub flow_of : (code : Code) → IsWellFormed code → KeepsFlow code
flow_of code well = record {
  inside = λ f entry point i here. (well.instructions f entry point i here).inside;
  ahead = λ f entry point i here. (well.instructions f entry point i here).ahead;
  names = λ f entry point i here. (well.instructions f entry point i here).names;
  operands = λ f entry point i here. (format_of code i well.formats i.op, (well.instructions f entry point i here).operands);
  registers = λ f entry point i here. result_register code entry i i.op (well.instructions f entry point i here).result;
  afresh = λ f entry point i here. (well.instructions f entry point i here).afresh;
}

pub refused : (code : Code) (P : Type 0) → (IsWellFormed code → P) → (P → ⊥) → IsTrue false ↔ IsWellFormed code
refused code P of fails = (λ no_. absurd (cc), λ well. absurd (fails (of well)))

pub alike_of : (code : Code) (told : List (Option (Option Bool))) → AreAnswers code told → IsWellFormed code → EachInstr code (AnswersAlike code told)
alike_of code told are well = answers_alike code told are (λ f entry here. (well.functions f entry here).alike)

callee_of : (code : Code) (n : ℕ) (o : Option Entry) → slice_get code.funcs n ≡ o → IsSome o → (callee : Entry) × (slice_get code.funcs n ≡ Some callee)
callee_of code n None is some = absurd (cc)
callee_of code n (Some callee) is some = (callee, is)

pub taken_of : (code : Code) (told : List (Option (Option Bool))) → AreAnswers code told → IsWellFormed code → EachInstr code (λ f entry point i. TakesAnswer told entry i i.op)
taken_of code told are well f entry point i here =
    let is = well.instructions f entry point i here in
    result_takes code told entry i are i.op
    (λ call. callee_of code i.b (slice_get code.funcs i.b) refl (let P : Op → Type 0 = λ o. NamesWhatIsThere code i o in subst P call is.names)) is.result

pub sites_of : (code : Code) → IsWellFormed code → EachInstr code (λ f entry point i. HasSite code entry point i (has_site i.op))
sites_of code well f entry point i here = (well.instructions f entry point i here).site

start_of : (code : Code) (told : List (Option (Option Bool))) → AreAnswers code told → IsWellFormed code → IsSomeAnd (slice_get code.instrs 0) (CallsMain code told)
start_of code told are well =
    let i = well.start.0 in let main = well.start.1 in let entry = well.start.2 in let is = well.start.4 in
    let main_is : IsMain code told main =
    subst (λ (o : Option Entry). IsSomeAnd o (λ (e : Entry). (e.params ≡ 0) × GivesInteger (get_or told main None))) (sym is.function)
    (is.params, answer_holds code told main entry (λ answer. answer ≡ Some Integer) are is.function is.answers) in
    subst (λ (o : Option Instr). IsSomeAnd o (CallsMain code told)) (sym well.start.3) (is.begins, (main, is.number, main_is))

pub last : (code : Code) (told : List (Option (Option Bool))) → AreAnswers code told → KeepsTables code → KeepsFlow code → EachInstr code (AnswersAlike code told) → EachInstr code (λ f entry point i. TakesAnswer told entry i i.op) →
    EachEntry code (HasScopes code) → EachInstr code (λ f entry point i. HasSite code entry point i (has_site i.op)) → (b : Bool) → (IsTrue b ↔ IsSomeAnd (slice_get code.instrs 0) (CallsMain code told)) → IsTrue b ↔ IsWellFormed code
last code told are tables flow alike taken scopes sites b both =
    (λ yes. well_formed code told tables flow (record { alike = alike; taken = taken; scopes = scopes; sites = sites; start = both.0 yes }), λ well. both.1 (start_of code told are well))
