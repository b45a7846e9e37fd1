use mathlib.Core.Path.{ap, sym}
use Rattle.table.specs.Records.{option_of}
use Prim.Native.Nat.{◌<◌}
use native.Mathlib.Omega.{arith}
use lib.ListN.{length}
use Rattle.lookup_cells.proofs.FillFacts.{placed, weight_requires, weight_is}
use Rattle.path_search.proofs.PathFacts.{trace_fillable, states_there, searchable, chainable, weights, nothing_found, retraceable, search_finds, can_count_back, can_walk_back, least_traced, nothing-told, least_told}
use borrow.Author.Rules.{rules}
use Rattle.path_search.proofs.path.find_path.Goals as goal

pub fill_cells-requires : goal.fill_cells-requires
fill_cells-requires c = trace_fillable _ _ _ _ _ _ c.requires

pub least_from-requires : goal.least_from-requires
least_from-requires c =
    let f = c.fill_cells in
    weight_requires _ _ _ _ _ _ (trace_fillable _ _ _ _ _ _ c.requires) _ c.spans_of-spans.ensures _ f.auto.work f.ensures

pub returns-in_default : goal.returns-in_default
returns-in_default c =
    let f = c.fill_cells in
    let w = weight_is _ _ _ _ _ _ (trace_fillable _ _ _ _ _ _ c.requires) _ c.spans_of-spans.ensures _ f.auto.work f.ensures _ c.in_default.ensures in
    λ t h tapes. nothing-told _ _ _ c.requires.sound t _ (w t h tapes)

pub search_cells-searched-requires : goal.search_cells-searched-requires
search_cells-searched-requires c =
    let f = c.fill_cells in
    let p = c.spans_of-spans.ensures in
    let k : length c.args.text.now < 18446744073709551616 = search rules in (
      states_there _ _ _ _ _ _ c.requires _ p,
      searchable _ _ _ _ _ _ c.requires _ p (placed _ _ _ _ _ _ (trace_fillable _ _ _ _ _ _ c.requires) k),
      chainable _ _ _ _ _ _ c.requires _ p,
      weights _ _ _ _ _ _ c.requires _ p _ f.auto.work f.ensures,
      nothing_found _ _ _ _ _ _ c.requires _ p _ f.auto.work f.ensures,
    )

pub returns-in_default-end : goal.returns-in_default-end
returns-in_default-end c =
    let f = c.fill_cells in
    let p = c.spans_of-spans.ensures in
    let w = weight_is _ _ _ _ _ _ (trace_fillable _ _ _ _ _ _ c.requires) _ p _ f.auto.work f.ensures _ c.in-Some.ensures in
    λ t h tapes. absurd (search_finds _ _ _ _ _ _ c.requires _ p _ f.auto.work f.ensures _ t h tapes (sym (w t h tapes)) _ _ (ap option_of c.in_default-end.is) c.search_cells-searched.ensures.0)

pub list_path-requires : goal.list_path-requires
list_path-requires c =
    let f = c.fill_cells in
    let p = c.spans_of-spans.ensures in
    let w = weight_is _ _ _ _ _ _ (trace_fillable _ _ _ _ _ _ c.requires) _ p _ f.auto.work f.ensures _ c.in-Some.ensures in
    let x = c.search_cells-searched.ensures.0 in
    let e = ap option_of c.in-Some-end.is in
    let weighs = sym (w c.requires.tuple c.requires.stands c.requires.tapes_are) in
    let k : length c.args.work.now < 18446744073709551616 = search rules in
    let l = f.auto.work in (
      retraceable _ _ _ _ _ _ c.requires _ p _ l f.ensures (omega (arith, k, l)),
      omega (arith, (weights _ _ _ _ _ _ c.requires _ p _ l f.ensures).room, c.search_cells-searched.ensures.1),
      can_count_back _ _ _ _ _ _ c.requires _ p _ l f.ensures _ c.requires.tuple c.requires.stands c.requires.tapes_are weighs _ _ _ e x,
      can_walk_back _ _ _ _ _ _ c.requires _ p _ l f.ensures _ c.requires.tuple c.requires.stands c.requires.tapes_are weighs _ _ _ e x,
    )

pub returns : goal.returns
returns c =
    let f = c.fill_cells in
    let p = c.spans_of-spans.ensures in
    let w = weight_is _ _ _ _ _ _ (trace_fillable _ _ _ _ _ _ c.requires) _ p _ f.auto.work f.ensures _ c.in-Some.ensures in
    let e = ap option_of c.in-Some-end.is in
    λ t h tapes. least_told _ c.args.list.now _ _ _ c.list_path.ensures
    (least_traced _ _ _ _ _ _ c.requires _ p _ f.auto.work f.ensures _ t h tapes (sym (w t h tapes)) _ _ _ e c.search_cells-searched.ensures.0)
