-- What is found in each environment, one after another, and its lines.
use Rattle.std.proofs.Common.{◌≡◌, Bool, true, false, ℕ, ◌+◌, ◌<◌, ◌≤◌, List, [], ◌∷◌, ◌++◌, map, length, drop, get_or, append-nil, append_assoc, refl, sym, ap, ◌∙◌, subst, suc}
use Rattle.std.proofs.lemmas.List.{at_drop_more, at_drop_all}
use Rattle.schema_core.specs.EnvData.{EnvData}
use Rattle.schema_core.specs.RequestEnvs.{env_data_of}
use Rattle.schema_core.specs.Schema.{SchemaData}
use Rattle.schema_core.specs.declared.request_env.RequestEnv.{RequestEnv}
use Rattle.policy_set.specs.Data.{PolicyData}
use Rattle.policy_compare.specs.Compared.{AllowsAtMost}
use Rattle.edit_service.specs.Changes.{AllHold, Holds, change_of}
use Rattle.edit_service.specs.Texts.{change_line, change_lines}
use Rattle.edit_service.specs.declared.change.Change.{Change}

-- what stands for what was found holds
pub holds_found : (schema : SchemaData) (before after : List PolicyData) (env : EnvData) (most least : Bool) →
    (most ≡ true → AllowsAtMost schema env before after) → (least ≡ true → AllowsAtMost schema env after before) → Holds schema before after env (change_of most least)
holds_found schema before after env true true f g = (f refl, g refl)
holds_found schema before after env true false f g = f refl
holds_found schema before after env false true f g = g refl
holds_found schema before after env false false f g = tt

module _ (schema : SchemaData) (before after : List PolicyData) where
  -- as many as there are environments
  pub as_many : (envs : List EnvData) (cs : List Change) → AllHold schema before after envs cs → length cs ≡ length envs
  as_many [] [] h = refl
  as_many [] (c ∷ cs) h = absurd h
  as_many (env ∷ envs) [] h = absurd h
  as_many (env ∷ envs) (c ∷ cs) h = ap suc (as_many envs cs h.1)

  module _ (items : List RequestEnv) where
    abbrev envs : List RequestEnv → List EnvData
    envs rs = map env_data_of rs

    -- what was found so far, and then what is found in what is left
    pub record AreFound (i : ℕ) (cs : List Change) : Type 0 where
      pub on : (rest : List Change) → AllHold schema before after (envs (drop i items)) rest → AllHold schema before after (envs items) (cs ++ rest)

    pub none_yet : AreFound 0 []
    none_yet = record { on = λ rest h. h }

    pub one_more : (i : ℕ) (r : RequestEnv) → r ≡ get_or items i r → i < length items → (cs : List Change) (c : Change) → Holds schema before after (env_data_of r) c → AreFound i cs → AreFound (i + 1) (cs ++ c ∷ [])
    one_more i r is lt cs c holds found = record {
      on = λ rest h.
          let there : envs (drop i items) ≡ env_data_of r ∷ envs (drop (i + 1) items) = at_drop_more envs items i r lt ∙ ap (λ x. env_data_of x ∷ envs (drop (i + 1) items)) (sym is) in
          subst (AllHold schema before after (envs items)) (sym (append_assoc cs (c ∷ []) rest)) (found.on (c ∷ rest) (subst (λ es. AllHold schema before after es (c ∷ rest)) (sym there) (holds, h)));
    }

    pub all_found : (i : ℕ) (cs : List Change) → length items ≤ i → AreFound i cs → AllHold schema before after (envs items) cs
    all_found i cs le found = subst (AllHold schema before after (envs items)) (append-nil cs) (found.on [] (subst (λ es. AllHold schema before after es []) (sym (at_drop_all envs items i le)) tt))

-- ---- their lines

module _ (items : List RequestEnv) (cs : List Change) where
  abbrev pub lines_from : ℕ → List ℕ
  lines_from i = change_lines (map env_data_of (drop i items)) (drop i cs)

  pub line_more : (i : ℕ) (r : RequestEnv) → r ≡ get_or items i r → i < length items → (c : Change) → c ≡ get_or cs i c → i < length cs → lines_from i ≡ change_line (env_data_of r) c ++ lines_from (i + 1)
  line_more i r is lt c at below =
      ap (λ es. change_lines es (drop i cs)) (at_drop_more (map env_data_of) items i r lt)
      ∙ at_drop_more (change_lines (env_data_of (get_or items i r) ∷ map env_data_of (drop (i + 1) items))) cs i c below
      ∙ (λ j. change_line (env_data_of (sym is j)) (sym at j) ++ lines_from (i + 1))

  pub no_line_more : (i : ℕ) → length items ≤ i → lines_from i ≡ []
  no_line_more i le = ap (λ es. change_lines es (drop i cs)) (at_drop_all (map env_data_of) items i le)
