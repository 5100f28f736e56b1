-- The order of edges is total, and edges that tie are equal.
use Rattle.std.proofs.Common.{◌≡◌, refl, sym, ap, ◌∙◌}
use Rattle.std.specs.declared.cmp.Ordering.{Ordering}
use Rattle.std.specs.declared.cmp.Ordering.TheVariants.{Less, Equal, Greater}
use Rattle.std.specs.Ordering.{ordering_then}
use Rattle.std.specs.Cmp.{IsTotalOrder, on_total, then_total, nat_cmp_total}
use Rattle.std.specs.Cmp.Lexicographic.{nat_list_cmp_total}
use Rattle.std.proofs.lemmas.Map.Lookups.{exact_bytes}
use Rattle.policy_values.specs.Uid.{text_cmp, exact_uid}
use Rattle.policy_expressions.specs.declared.kinds.Var.TheVariants.{Principal, Action, Resource, Context}
use Rattle.access_tries.specs.declared.edge.EntityRoot.TheVariants.{Literal, Var as Variable}
use Rattle.access_tries.specs.declared.edge.Edge.{Edge}
use Rattle.access_tries.specs.declared.edge.Edge.TheVariants.{Field, AnyTag, Root}
use Rattle.access_tries.specs.Edges.{rank, first_text, second_text, edge_cmp}

pub then_end : (o : Ordering) → ordering_then o Equal ≡ o
then_end Less = refl
then_end Equal = refl
then_end Greater = refl

pub edge_total : IsTotalOrder edge_cmp
edge_total = then_total (on_total rank nat_cmp_total)
    (then_total (on_total first_text nat_list_cmp_total) (on_total second_text nat_list_cmp_total))

-- edges that compare equal are equal
pub exact_edge : (a b : Edge) → edge_cmp a b ≡ Equal → a ≡ b
exact_edge (Field m) (Field n) h = ap Field (exact_bytes m n (sym (then_end (text_cmp m n)) ∙ h))
exact_edge (Field m) AnyTag h = cc
exact_edge (Field m) (Root (Literal n)) h = cc
exact_edge (Field m) (Root (Variable Principal)) h = cc
exact_edge (Field m) (Root (Variable Action)) h = cc
exact_edge (Field m) (Root (Variable Resource)) h = cc
exact_edge (Field m) (Root (Variable Context)) h = cc
exact_edge AnyTag (Field n) h = cc
exact_edge AnyTag AnyTag h = refl
exact_edge AnyTag (Root (Literal n)) h = cc
exact_edge AnyTag (Root (Variable Principal)) h = cc
exact_edge AnyTag (Root (Variable Action)) h = cc
exact_edge AnyTag (Root (Variable Resource)) h = cc
exact_edge AnyTag (Root (Variable Context)) h = cc
exact_edge (Root (Literal m)) (Field n) h = cc
exact_edge (Root (Literal m)) AnyTag h = cc
exact_edge (Root (Literal m)) (Root (Literal n)) h = ap (λ w. Root (Literal w)) (exact_uid m n h)
exact_edge (Root (Literal m)) (Root (Variable Principal)) h = cc
exact_edge (Root (Literal m)) (Root (Variable Action)) h = cc
exact_edge (Root (Literal m)) (Root (Variable Resource)) h = cc
exact_edge (Root (Literal m)) (Root (Variable Context)) h = cc
exact_edge (Root (Variable Principal)) (Field n) h = cc
exact_edge (Root (Variable Principal)) AnyTag h = cc
exact_edge (Root (Variable Principal)) (Root (Literal n)) h = cc
exact_edge (Root (Variable Principal)) (Root (Variable Principal)) h = refl
exact_edge (Root (Variable Principal)) (Root (Variable Action)) h = cc
exact_edge (Root (Variable Principal)) (Root (Variable Resource)) h = cc
exact_edge (Root (Variable Principal)) (Root (Variable Context)) h = cc
exact_edge (Root (Variable Action)) (Field n) h = cc
exact_edge (Root (Variable Action)) AnyTag h = cc
exact_edge (Root (Variable Action)) (Root (Literal n)) h = cc
exact_edge (Root (Variable Action)) (Root (Variable Principal)) h = cc
exact_edge (Root (Variable Action)) (Root (Variable Action)) h = refl
exact_edge (Root (Variable Action)) (Root (Variable Resource)) h = cc
exact_edge (Root (Variable Action)) (Root (Variable Context)) h = cc
exact_edge (Root (Variable Resource)) (Field n) h = cc
exact_edge (Root (Variable Resource)) AnyTag h = cc
exact_edge (Root (Variable Resource)) (Root (Literal n)) h = cc
exact_edge (Root (Variable Resource)) (Root (Variable Principal)) h = cc
exact_edge (Root (Variable Resource)) (Root (Variable Action)) h = cc
exact_edge (Root (Variable Resource)) (Root (Variable Resource)) h = refl
exact_edge (Root (Variable Resource)) (Root (Variable Context)) h = cc
exact_edge (Root (Variable Context)) (Field n) h = cc
exact_edge (Root (Variable Context)) AnyTag h = cc
exact_edge (Root (Variable Context)) (Root (Literal n)) h = cc
exact_edge (Root (Variable Context)) (Root (Variable Principal)) h = cc
exact_edge (Root (Variable Context)) (Root (Variable Action)) h = cc
exact_edge (Root (Variable Context)) (Root (Variable Resource)) h = cc
exact_edge (Root (Variable Context)) (Root (Variable Context)) h = refl
