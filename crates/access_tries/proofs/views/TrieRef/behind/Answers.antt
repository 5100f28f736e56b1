use Rattle.std.proofs.Common.{sym, ap, subst, ◌∙◌}
use Rattle.access_tries.specs.Views.{LeadsNowhere, LeadsTo, number_at}
use Rattle.access_tries.specs.EdgeView.{edge_in}
use Rattle.access_tries.proofs.Behind.{found, not_found}
use Rattle.access_tries.proofs.views.TrieRef.behind.Goals as goal

pub returns-in-Some : goal.returns-in-Some
returns-in-Some c =
    let e = edge_in c.args.edge.now in
    let ns = c.self.inside.nodes.now in
    subst (λ v. LeadsTo e v (record { nodes = ns; number = c.in-Some.number })) c.self.view_is
    (found ns c.self.inside.number e c.in-Some.number c.self.invariant (sym (ap (number_at e) c.links_of.ensures) ∙ sym c.number_at.ensures ∙ c.in-Some.is))

pub returns-in-None : goal.returns-in-None
returns-in-None c =
    let e = edge_in c.args.edge.now in
    subst (LeadsNowhere e) c.self.view_is
    (not_found c.self.inside.nodes.now c.self.inside.number e c.self.invariant (sym (ap (number_at e) c.links_of.ensures) ∙ sym c.number_at.ensures ∙ c.in-None.is))
