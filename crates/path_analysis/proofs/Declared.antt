-- The declared part of a path has those of its prefixes that are declared.
use Rattle.std.proofs.Common.{◌≡◌, Bool, true, false, ◌||◌, ◌&&◌, List, [], ◌∷◌, map, Option, is_some, refl, sym, ap, ◌∙◌}
use Rattle.std.specs.Prelude.{if◌then◌else◌}
use Rattle.policy_values.specs.Ties.{equal_of}
use Rattle.access_tries.specs.Edges.{Address, edge_cmp, edge_eq}
use Rattle.access_tries.specs.EdgeLaws.{exact_edge}
use Rattle.access_tries.specs.Paths.{AccessPath, address_of, edge_of, is_prefix_of}
use Rattle.access_tries.specs.declared.edge.Edge.{Edge}
use Rattle.access_tries.specs.declared.edge.Edge.TheVariants.{Field, AnyTag, Root}
use Rattle.plain_lemmas.proofs.Booleans.{and_exchange, and_false}
use Rattle.schema_core.specs.EnvData.{EnvData}
use Rattle.schema_core.specs.Schema.{SchemaData}
use Rattle.schema_types.specs.Ty.{Ty}
use Rattle.reads_spec.specs.Paths.{Step, along, any_tag}
use Rattle.reads_spec.specs.PathTypes.{step_on, declared_steps, declared_part, root_type}
use Rattle.path_analysis.specs.Covers.{covers}

both_sides : (d q f g a k : Bool) → g ≡ (f && a) → (q ≡ true → k ≡ (d && a)) → (d && (q && g)) ≡ ((q && f) && k)
both_sides d true f g a k h same = ap (λ b. d && b) h ∙ and_exchange d f a ∙ ap (λ b. f && b) (sym (same refl))
both_sides d false f g a k h same = and_false d

either_side : (f c k : Bool) → ((f && k) || (c && k)) ≡ ((f || c) && k)
either_side true c true = refl
either_side true c false = and_false c
either_side false c k = refl

module _ (schema : SchemaData) where
  -- whether the edges are declared steps
  abbrev are_steps : Option Ty → Address → Bool
  are_steps o [] = true
  are_steps o (Field n ∷ es) = is_some (step_on schema o (along n)) && are_steps (step_on schema o (along n)) es
  are_steps o (AnyTag ∷ es) = is_some (step_on schema o any_tag) && are_steps (step_on schema o any_tag) es
  are_steps o (Root r ∷ es) = false

  one_step : (o : Option Ty) (s : Step) (e : Edge) (es : Address) → edge_eq (edge_of s) e ≡ true → are_steps o (e ∷ es) ≡ (is_some (step_on schema o s) && are_steps (step_on schema o s) es)
  one_step o s e es h = ap (λ x. are_steps o (x ∷ es)) (sym (exact_edge (edge_of s) e (equal_of (edge_cmp (edge_of s) e) h))) ∙ computed s
    where
      computed : (s : Step) → are_steps o (edge_of s ∷ es) ≡ (is_some (step_on schema o s) && are_steps (step_on schema o s) es)
      computed (along n) = refl
      computed any_tag = refl

  one_prefix : (d : Bool) (e : Edge) (es : Address) (s : Step) (ss : List Step) → is_prefix_of (e ∷ es) (map edge_of (if d then s ∷ ss else [])) ≡ (d && (edge_eq (edge_of s) e && is_prefix_of es (map edge_of ss)))
  one_prefix true e es s ss = refl
  one_prefix false e es s ss = refl

  steps_prefix : (o : Option Ty) (ss : List Step) (es : Address) → is_prefix_of es (map edge_of (declared_steps schema o ss)) ≡ (is_prefix_of es (map edge_of ss) && are_steps o es)
  steps_prefix o ss [] = refl
  steps_prefix o [] (e ∷ es) = refl
  steps_prefix o (s ∷ ss) (e ∷ es) =
      let next = step_on schema o s in
      one_prefix (is_some next) e es s (declared_steps schema next ss)
      ∙ both_sides (is_some next) (edge_eq (edge_of s) e) (is_prefix_of es (map edge_of ss)) (is_prefix_of es (map edge_of (declared_steps schema next ss))) (are_steps next es) (are_steps o (e ∷ es))
      (steps_prefix next ss es) (one_step o s e es)

  module _ (env : EnvData) where
    abbrev is_declared_address : Address → Bool
    is_declared_address [] = true
    is_declared_address (Root r ∷ es) = are_steps (root_type schema env r) es
    is_declared_address (e ∷ es) = false

    path_prefix : (p : AccessPath) (es : Address) → is_prefix_of es (address_of (declared_part schema env p)) ≡ (is_prefix_of es (address_of p) && is_declared_address es)
    path_prefix p [] = refl
    path_prefix p (e ∷ es) =
        both_sides true (edge_eq (Root p.root) e) (is_prefix_of es (map edge_of p.steps)) (is_prefix_of es (map edge_of (declared_steps schema (root_type schema env p.root) p.steps)))
        (are_steps (root_type schema env p.root) es) (is_declared_address (e ∷ es)) (steps_prefix (root_type schema env p.root) p.steps es)
        (λ h. ap (λ x. is_declared_address (x ∷ es)) (sym (exact_edge (Root p.root) e (equal_of (edge_cmp (Root p.root) e) h))))

    declared_prefixes : (ps : List AccessPath) (es : Address) → covers (map (declared_part schema env) ps) es ≡ (covers ps es && is_declared_address es)
    declared_prefixes [] es = refl
    declared_prefixes (p ∷ ps) es = (λ i. path_prefix p es i || declared_prefixes ps es i) ∙ either_side (is_prefix_of es (address_of p)) (covers ps es) (is_declared_address es)

    -- paths with the same prefixes have declared parts with the same prefixes
    pub same_declared : (ps qs : List AccessPath) (es : Address) → covers ps es ≡ covers qs es → covers (map (declared_part schema env) ps) es ≡ covers (map (declared_part schema env) qs) es
    same_declared ps qs es h = declared_prefixes ps es ∙ ap (λ b. b && is_declared_address es) h ∙ sym (declared_prefixes qs es)
