-- The order of paths is total, and paths that tie are equal.
use Rattle.std.proofs.Common.{◌≡◌, List, [], ◌∷◌, map, sym, ap, ◌∙◌, refl}
use Rattle.std.specs.declared.cmp.Ordering.TheVariants.{Equal}
use Rattle.std.specs.Cmp.{IsTotalOrder, on_total}
use Rattle.std.specs.Cmp.Lexicographic.{slice_cmp, lists_total}
use Rattle.std.proofs.lemmas.Map.Lookups.{CmpEqualImpliesEq, exact_bytes}
use Rattle.policy_values.specs.Uid.{text_cmp}
use Rattle.policy_values.specs.Ties.{then_equal}
use Rattle.access_tries.specs.declared.edge.EntityRoot.{EntityRoot}
use Rattle.access_tries.specs.declared.edge.Step.{Step}
use Rattle.access_tries.specs.declared.edge.Step.TheVariants.{Field, AnyTag}
use Rattle.access_tries.specs.declared.edge.Edge.{Edge}
use Rattle.access_tries.specs.declared.edge.Edge.TheVariants.{Root}
use Rattle.access_tries.specs.Edges.{edge_cmp}
use Rattle.access_tries.specs.EdgeLaws.{then_end, edge_total, exact_edge}
use Rattle.access_tries.specs.Paths.{edge_of, address_of, path_cmp}

pub path_total : IsTotalOrder path_cmp
path_total = on_total address_of (lists_total edge_total)

abbrev root_in : EntityRoot → Edge → EntityRoot
root_in d (Root r) = r
root_in d e = d

root_is : (q r : EntityRoot) → edge_cmp (Root q) (Root r) ≡ Equal → q ≡ r
root_is q r h = ap (root_in q) (exact_edge (Root q) (Root r) h)

step_is : (s t : Step) → edge_cmp (edge_of s) (edge_of t) ≡ Equal → s ≡ t
step_is (Field m) (Field n) h = ap Field (exact_bytes m n (sym (then_end (text_cmp m n)) ∙ h))
step_is (Field m) AnyTag h = cc
step_is AnyTag (Field n) h = cc
step_is AnyTag AnyTag h = refl

steps_are : (ss ts : List Step) → slice_cmp edge_cmp (map edge_of ss) (map edge_of ts) ≡ Equal → ss ≡ ts
steps_are [] [] h = refl
steps_are [] (t ∷ ts) h = cc
steps_are (s ∷ ss) [] h = cc
steps_are (s ∷ ss) (t ∷ ts) h =
    let e = then_equal (edge_cmp (edge_of s) (edge_of t))
    (slice_cmp edge_cmp (map edge_of ss) (map edge_of ts)) h in
    λ i. step_is s t e.0 i ∷ steps_are ss ts e.1 i

-- paths that compare equal are equal
pub exact_path : CmpEqualImpliesEq path_cmp
exact_path p q h =
    let e = then_equal (edge_cmp (Root p.root) (Root q.root))
    (slice_cmp edge_cmp (map edge_of p.steps) (map edge_of q.steps)) h in
    λ i. record { root = root_is p.root q.root e.0 i; steps = steps_are p.steps q.steps e.1 i }
