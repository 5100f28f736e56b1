-- The tries of a computed manifest are declared.
use Rattle.std.proofs.Common.{Bool, true, false, List, [], ◌∷◌, Option, Some, None, IfSome, inl, inr}
use Rattle.std.specs.Prelude.{filter, if◌then◌else◌, option_map}
use Rattle.std.specs.List.{cons_option}
use Rattle.schema_core.specs.EnvData.{EnvData}
use Rattle.schema_core.specs.Schema.{SchemaData}
use Rattle.policy_set.specs.Data.{PolicyData}
use Rattle.typing_spec.specs.Typing.{Typing, types}
use Rattle.reads_spec.specs.Reads.{demands, demands_of, reads_of, are_declared}
use Rattle.reads_spec.proofs.DeclaredPaths.{declared_read}
use Rattle.reads_spec.proofs.Lists.{IsIn}
use Rattle.manifest_computation.specs.Typed.{typed_conditions}
use Rattle.entity_loading.proofs.LeastSteps.{declared_trie}
use Rattle.entity_manifest.specs.Computed.{ComputedTriesAreDeclared}
use Rattle.entity_manifest.proofs.Conditions.{Asks, AsksIds, asks_both, none_asked, types_fine}

in_filter : {A : Type 0} (f : A → Bool) (y : A) (xs : List A) → IsIn y (filter f xs) → IsIn y xs
in_filter f y [] h = h
in_filter f y (x ∷ xs) h = by (f x) h (in_filter f y xs)
  where
    by : (b : Bool) → IsIn y (if b then x ∷ filter f xs else filter f xs) → (IsIn y (filter f xs) → IsIn y xs) → IsIn y (x ∷ xs)
    by true (inl same) g = inl same
    by true (inr i) g = inr (g i)
    by false i g = inr (g i)

module _ (d : SchemaData) (g : EnvData) where
  conditions_ask : (ps : List PolicyData) → AsksIds d g (demands_of (typed_conditions d g ps))
  conditions_ask [] = none_asked d g
  conditions_ask (p ∷ ps) = by (types d g [] p.condition) (types_fine d g [] p.condition) (conditions_ask ps)
    where
      by : (o : Option Typing) → IfSome o (λ x. Asks d g x.type x.tree) → AsksIds d g (demands_of (typed_conditions d g ps)) → AsksIds d g (demands_of (cons_option (option_map (λ a. a.tree) o) (typed_conditions d g ps)))
      by None h k = k
      by (Some x) h k = asks_both d g (demands x.tree) (demands_of (typed_conditions d g ps)) h.asked k

pub tries_declared : ComputedTriesAreDeclared
tries_declared d g ps t l =
    let ts = typed_conditions d g ps in
    let fits = declared_trie d g ts t l in
    record {
      paths = λ p h. ((declared_read d g (reads_of d g ts) p).0 ((fits.paths p).0 h)).1;
      asked = λ p r h. conditions_ask d g ps (p, r) (in_filter (are_declared d g) (p, r) (demands_of ts) ((fits.asks p r).0 h));
    }
