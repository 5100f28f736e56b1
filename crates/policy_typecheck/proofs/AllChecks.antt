-- The checks of a condition in environments, one after another.
use Rattle.std.proofs.Common.{◌≡◌, ℕ, List, [], ◌∷◌, ◌++◌, map, sym, ap, ◌∙◌, append_assoc, subst}
use Rattle.std.proofs.lemmas.List.{map-append}
use Rattle.std.specs.List.{AllByRecursion}
use Rattle.schema_core.specs.Schema.{SchemaData}
use Rattle.schema_core.specs.EnvData.{EnvData}
use Rattle.schema_core.specs.RequestEnvs.{env_data_of}
use Rattle.schema_core.specs.declared.request_env.RequestEnv.{RequestEnv}
use Rattle.policy_expressions.specs.Plain.{Plain}
use Rattle.typecheck_walk.specs.declared.policy_check.PolicyCheck.{PolicyCheck}
use Rattle.typecheck_walk.specs.Answer.{SaysIn}
use Rattle.plain_lemmas.proofs.Lists.{all_push}

module _ (schema : SchemaData) (id : List ℕ) (x : Plain) where
  -- one check more, of an environment that was still to be checked
  module _ (done new : List (RequestEnv × PolicyCheck)) (r : RequestEnv × PolicyCheck) (it rest : List RequestEnv) (is : it ≡ r.0 ∷ rest) (pushed : new ≡ done ++ r ∷ []) where
    pub envs_more : (all : List EnvData) → map (λ c. env_data_of c.0) done ++ map env_data_of it ≡ all → map (λ c. env_data_of c.0) new ++ map env_data_of rest ≡ all
    envs_more all h =
        ap (λ cs. map (λ c. env_data_of c.0) cs ++ map env_data_of rest) pushed
        ∙ ap (λ l. l ++ map env_data_of rest) (map-append (λ c. env_data_of c.0) done (r ∷ []))
        ∙ append_assoc (map (λ c. env_data_of c.0) done) (env_data_of r.0 ∷ []) (map env_data_of rest)
        ∙ ap (λ es. map (λ c. env_data_of c.0) done ++ map env_data_of es) (sym is)
        ∙ h

    pub reported_more : AllByRecursion (SaysIn schema id x) done → SaysIn schema id x r → AllByRecursion (SaysIn schema id x) new
    reported_more hs h = subst (AllByRecursion (SaysIn schema id x)) (sym pushed) (all_push (SaysIn schema id x) done r hs h)
