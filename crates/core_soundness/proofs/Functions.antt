-- Each function of a core is sound, and so is the core.
use Rattle.core_soundness.proofs.Words.Std.{◌≡◌, Ok}
use Rattle.c_lexer.specs.Cutting.{ConstantsFit}
use Rattle.core_soundness.proofs.Words.Trees.{Trees}
use Rattle.core_soundness.proofs.Words.Types.{TagTable}
use Rattle.core_soundness.proofs.Words.Core.{EachFunc, IsFunction, IsSound, Core}
use Rattle.core_soundness.proofs.Words.Elaborating.{elaborated}
use Rattle.core_soundness.proofs.Words.Facts.{IsOfTexts}
use Rattle.core_soundness.proofs.Cores.{core_flows, core_sizes}
use Rattle.core_soundness.proofs.FittedTexts.{core_statics}
use Rattle.core_soundness.proofs.NearTexts.{core_short}
use Rattle.core_soundness.proofs.Seats.{LayoutsAreSound}
use Rattle.core_soundness.proofs.SolidTexts.{core_layouts, core_ranges}
use Rattle.core_soundness.proofs.Texts.{Made, made_all, made_weighed}
use Rattle.core_soundness.proofs.Typing.{core_types, core_main, core_main_typed}

pub functions_sound : (unit : Trees) (core : Core) (tags : TagTable) → Made unit → elaborated unit ≡ Ok (core, tags) → EachFunc core (IsFunction core)
functions_sound unit core tags made q f func e =
    let flow = core_flows unit core tags q f func e in
    let types = core_types unit core tags made.written made.formed made.own q f func e in
    let ranges = core_ranges unit core tags made.written q f func e in
    record {
      some = flow.some;
      params = types.params;
      line = types.line;
      lines = types.lines;
      typed = types.typed;
      inside = flow.inside;
      ahead = flow.ahead;
      alike = types.alike;
      answers = types.answers;
      scopes = flow.scopes;
      numbers = ranges.numbers;
      mems = (core_layouts unit core tags made.written q).mems f func e;
      elements = ranges.elements;
    }

pub cores_sound : ConstantsFit → LayoutsAreSound → (unit : Trees) (core : Core) (tags : TagTable) → IsOfTexts unit → elaborated unit ≡ Ok (core, tags) → IsSound core
cores_sound fit layouts unit core tags of q =
    let made = made_all fit of.0 of.1 unit of.2 in
    let sizes = core_sizes unit core tags q in
    let lists = core_short unit core tags (made_weighed of.0 of.1 unit of.2 of.3) of.3.short q in
    record {
      functions = functions_sound unit core tags made q;
      statics = core_statics layouts unit core tags made.written q;
      static_bytes = sizes.static_bytes;
      code = sizes.code;
      one_main = core_main unit core tags made.written made.formed made.own q;
      main = core_main_typed unit core tags made.written made.formed made.own q;
      short_statics = sizes.short_statics;
      short_names = lists.short_names;
      short_funcs = sizes.short_funcs;
      short = lists.short;
    }
