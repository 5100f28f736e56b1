-- Steps of the walk through the fields of a record.
use Rattle.std.proofs.Common.{◌≡◌, ℕ, ◌≤◌, List, [], ◌∷◌, ◌++◌, map, ap, sym, ◌∙◌, append_assoc, arith}
use Rattle.std.proofs.lemmas.List.{map-append}
use Rattle.std.specs.Map.{keys_of}
use Rattle.policy_values.proofs.MapSteps.{keys_of-append}
use Rattle.schema_core.specs.Schema.{SchemaData}
use Rattle.schema_core.specs.EnvData.{EnvData}
use Rattle.policy_expressions.specs.Plain.{Plain}
use Rattle.policy_expressions.specs.Tree.{named_of, deepest_named}
use Rattle.typing_spec.specs.Capability.{Capability}
use Rattle.typecheck_rules.specs.Walk.{walked, walked_named}
use Rattle.typecheck_rules.specs.Operators.{Fields}
use Rattle.typecheck_operators.specs.declared.reported.Reported.{Reported}
use Rattle.typecheck_operators.specs.Reported.{walked_of, field_of}

module _ (s : SchemaData) (env : EnvData) (cs : List Capability)
    (done new : List (List ℕ × Reported)) (k : List ℕ) (x : Plain) (v : Reported) (it rest : List (List ℕ × Plain)) (is : it ≡ (k, x) ∷ rest) (pushed : new ≡ done ++ (k, v) ∷ []) where
  pub so_far_more : (all : Fields) → walked_of v ≡ walked s env cs x → map field_of done ++ walked_named s env cs (named_of it) ≡ all → map field_of new ++ walked_named s env cs (named_of rest) ≡ all
  so_far_more all e h =
      ap (λ es. map field_of es ++ walked_named s env cs (named_of rest)) pushed
      ∙ ap (λ l. l ++ walked_named s env cs (named_of rest)) (map-append field_of done ((k, v) ∷ []))
      ∙ append_assoc (map field_of done) ((k, walked_of v) ∷ []) (walked_named s env cs (named_of rest))
      ∙ ap (λ w. map field_of done ++ (k, w) ∷ walked_named s env cs (named_of rest)) e
      ∙ ap (λ es. map field_of done ++ walked_named s env cs (named_of es)) (sym is)
      ∙ h

  pub keys_more : (all : List (List ℕ)) → all ≡ keys_of done ++ keys_of it → all ≡ keys_of new ++ keys_of rest
  keys_more all h =
      h ∙ ap (λ es. keys_of done ++ keys_of es) is ∙ sym (append_assoc (keys_of done) (k ∷ []) (keys_of rest))
      ∙ ap (λ ks. ks ++ keys_of rest) (sym (keys_of-append done ((k, v) ∷ []))) ∙ ap (λ es. keys_of es ++ keys_of rest) (sym pushed)

  pub depth_more : (n : ℕ) → deepest_named (named_of it) ≤ n → deepest_named (named_of rest) ≤ n
  depth_more n h = omega (arith, ap (λ es. deepest_named (named_of es)) is)
