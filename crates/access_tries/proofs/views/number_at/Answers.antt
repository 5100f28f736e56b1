use Rattle.std.proofs.Common.{rules, sym}
use Rattle.std.proofs.lemmas.Fn.{always_returns_same}
use Rattle.access_tries.specs.Edges.{edge_cmp}
use Rattle.access_tries.specs.EdgeView.{edge_in}
use Rattle.access_tries.proofs.Searching.{number_here, number_nowhere, answers_rise}
use Rattle.access_tries.proofs.views.number_at.Goals as goal

pub returns-in-Ok : goal.returns-in-Ok
returns-in-Ok c =
    let e = edge_in c.args.edge.now in
    let ls = c.args.links.now in
    let here = c.in-Ok.ensures.position (λ l. edge_cmp l.edge e) (always_returns_same _ _ _ (λ a r f called. search rules)) in
    sym (number_here e ls c.requires c.in-Ok.i _ c.in-Ok.ensures.bound (here _))

pub returns-in-Err : goal.returns-in-Err
returns-in-Err c =
    let e = edge_in c.args.edge.now in
    let ls = c.args.links.now in
    let parts = c.in-Err.ensures.position (λ l. edge_cmp l.edge e) (always_returns_same _ _ _ (λ a r f called. search rules)) in
    sym (number_nowhere e ls c.in-Err.field-0 (parts (answers_rise e ls c.requires)))
