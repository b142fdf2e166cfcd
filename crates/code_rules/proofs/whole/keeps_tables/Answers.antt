use Rattle.std.proofs.Common.{◌≤◌, ◌<◌, ◌∙◌, List, ℕ, sym, subst}
use Rattle.std.specs.List.{All, AllPairs}
use Rattle.flat_code.specs.declared.program.Site.{Site}
use Rattle.code_rules.proofs.Wholes.{starts_before}
use Rattle.code_rules.proofs.whole.keeps_tables.Goals as goal

pub returns : goal.returns
returns c = (
  λ yes. record {
    short = c.are_short.ensures.0 c.if-not-are_short.false;
    lines = sym c.len.ensures ∙ c.if-len.false ∙ c.len-2.ensures;
    lines_from_one = subst (λ (l : List ℕ). All (λ line. 1 ≤ line) l) c.as_slice.ensures (c.lines_from_one.ensures.0 c.if-not-lines_from_one.false);
    layouts = c.are_layouts.ensures.0 c.if-not-are_layouts.false;
    statics = c.are_statics.ensures.0 c.if-not-are_statics.false;
    static_bytes = c.are_static_blocks_small.ensures.0 c.if-not-are_static_blocks_small.false;
    formats = c.in_ok-are_formats.ensures.0 c.if-not-branch.false;
    sites_ascend = subst (λ (l : List Site). AllPairs (λ (one other : Site). one.instr < other.instr) l) c.as_slice-2.ensures (c.sites_ascend.ensures.0 c.if-not-sites_ascend.false);
    sites_inside = c.sites_inside.ensures.0 yes;
    framed = c.are_framed.ensures.0 c.if-not-are_framed.false;
  },
  λ keeps. c.sites_inside.ensures.1 keeps.sites_inside,
)

pub sites_inside-requires : goal.sites_inside-requires
sites_inside-requires c = starts_before c.args.code.now (c.are_framed.ensures.0 c.if-not-are_framed.false)
