-- Policies with their typings are covered.
use Rattle.std.proofs.Common.{◌≡◌, List, [], ◌∷◌, map, refl, sym, ap, ◌∙◌, subst}
use Rattle.std.specs.List.{AllByRecursion}
use Rattle.entity_store.specs.declared.request.Request.{Request}
use Rattle.entity_store.specs.Store.{Store}
use Rattle.policy_core.specs.Eval.{eval}
use Rattle.policy_set.specs.Data.{PolicyData}
use Rattle.policy_set.specs.Response.{outcome, outcomes}
use Rattle.schema_core.specs.EnvData.{LinkedEnvironment, declared_action}
use Rattle.schema_core.specs.Schema.{SchemaData}
use Rattle.policy_expressions.specs.Plain.{Plain}
use Rattle.typing_spec.specs.Sound.{TypingIsSound}
use Rattle.typing_spec.specs.Typing.{Typing}
use Rattle.reads_spec.specs.Cover.{IsPartOf, restricted}
use Rattle.reads_spec.specs.Conditions.{HasTyping}
use Rattle.reads_spec.specs.Reached.{ReachedConforms}
use Rattle.reads_spec.specs.Policies.{PolicyHasTyping, PoliciesAreCovered}
use Rattle.reads_spec.proofs.Accepting.{are_covered}

abbrev conditions : List (PolicyData × Typing) → List (Plain × Typing)
conditions ps = map (λ p. (p.0.condition, p.1)) ps

same_trees : (ps : List (PolicyData × Typing)) → map (λ c. c.1.tree) (conditions ps) ≡ map (λ p. p.1.tree) ps
same_trees [] = refl
same_trees (p ∷ ps) = ap (λ ts. p.1.tree ∷ ts) (same_trees ps)

same_outcomes : (q : Request) (s : Store) (ps : List (PolicyData × Typing)) → map (λ c. eval c.0 q s) (conditions ps) ≡ outcomes (map (λ p. p.0) ps) q s
same_outcomes q s [] = refl
same_outcomes q s (p ∷ ps) = ap (λ os. outcome p.0 q s ∷ os) (same_outcomes q s ps)

all_typed : (d : SchemaData) (g : LinkedEnvironment) (ps : List (PolicyData × Typing)) → AllByRecursion (PolicyHasTyping d g) ps → AllByRecursion (HasTyping d g) (conditions ps)
all_typed d g [] h = tt
all_typed d g (p ∷ ps) h = (h.0, all_typed d g ps h.1)

pub policies_covered : TypingIsSound → PoliciesAreCovered
policies_covered sound d schema g q request of whole ps typed conforms s low high =
    sym (same_outcomes q s ps)
    ∙ are_covered sound d schema g q request of whole (conditions ps) (all_typed d g ps typed) (subst (λ ts. ReachedConforms d (declared_action g) ts q whole) (sym (same_trees ps)) conforms) s (subst (λ ts. IsPartOf (restricted d (declared_action g) ts q whole) s) (sym (same_trees ps)) low) high
    ∙ same_outcomes q whole ps
