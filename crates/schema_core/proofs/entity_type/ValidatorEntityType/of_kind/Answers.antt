use Rattle.std.proofs.Common.{ℕ, List, sym, subst}
use Rattle.std.specs.Prelude.{◌↔◌}
use Rattle.std.specs.List.{Contains}
use Rattle.std.specs.Cmp.Lexicographic.{nat_list_cmp_total}
use Rattle.std.proofs.lemmas.Map.Lookups.{exact_bytes}
use Rattle.std.proofs.lemmas.Result.{IfOk-weaker}
use Rattle.schema_core.specs.Schema.{TypeData}
use Rattle.schema_core.proofs.SameKeys.{same_members}
use Rattle.schema_core.proofs.entity_type.ValidatorEntityType.of_kind.Goals as goal

pub returns-clause-descendants : goal.returns-clause-descendants
returns-clause-descendants c =
    IfOk-weaker c.with_set.result _ _ (λ t is.
    subst (λ (u : TypeData). (q : List ℕ) → Contains u.descendants q ↔ Contains c.args.descendants.items q) (sym is)
    (same_members nat_list_cmp_total exact_bytes c.in_ok-descendants.descendants.keys c.args.descendants.items c.in_ok-descendants.ensures.has)) c.with_set.ensures
