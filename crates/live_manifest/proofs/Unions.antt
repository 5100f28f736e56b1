-- Tries of sets are unions.
use Rattle.std.proofs.Common.{◌≡◌, Bool, true, false, ◌||◌, List, [], ◌∷◌, ◌++◌, cond, Option, Some, None, refl, sym, ap, ◌∙◌}
use Rattle.std.specs.Prelude.{option_map, find}
use Rattle.std.specs.List.{list_any, cons_option}
use Rattle.std.specs.declared.cmp.Ordering.{Ordering}
use Rattle.std.specs.declared.cmp.Ordering.TheVariants.{Less, Equal, Greater}
use Rattle.std.specs.Ordering.{is_eq, match_ordering}
use Rattle.policy_values.specs.Keyed.{has_key, value_at, with_value}
use Rattle.policy_values.specs.Uid.{text_cmp}
use Rattle.access_tries.specs.Edges.{Address}
use Rattle.access_tries.specs.Paths.{IsUnion, demand_of, is_same}
use Rattle.access_tries.specs.Table.{Table}
use Rattle.schema_core.specs.EnvData.{EnvData}
use Rattle.schema_core.specs.Schema.{SchemaData}
use Rattle.policy_set.specs.Data.{PolicyData}
use Rattle.typing_spec.specs.Typing.{Typed, types}
use Rattle.policy_validate.specs.Typed.{typed_conditions}
use Rattle.manifest_computation.specs.Gathered.{goes_along, asks_along}
use Rattle.manifest_computation.proofs.Additions.{any_demand, goes_append}
use Rattle.plain_lemmas.proofs.Booleans.{or_assoc, or_assoc_left, or_comm}
use Rattle.live_manifest.specs.Unions.{IsTrieOfPolicies, TriesOfSetsAreUnions, TriesOfListsAreUnions}

swap : (a b c : Bool) → (a || (b || c)) ≡ (b || (a || c))
swap a b c = or_assoc_left a b c ∙ ap (λ d. d || c) (or_comm a b) ∙ or_assoc b a c

-- a test of policies that is one of its first or of the others
abbrev pub IsByFirst : (List PolicyData → Bool) → Type 0
IsByFirst g = (p : PolicyData) (ps : List PolicyData) → g (p ∷ ps) ≡ (g (p ∷ []) || g ps)

abbrev put : PolicyData → List PolicyData → List PolicyData
put p ps = with_value text_cmp (λ q. q.id) p ps

module _ (g : List PolicyData → Bool) (first : IsByFirst g) where
  at_its_place : (p : PolicyData) (ps : List PolicyData) → value_at text_cmp (λ q. q.id) ps p.id ≡ None → g (put p ps) ≡ (g ps || g (p ∷ []))
  at_its_place p ps new = placed ps new ∙ or_comm (g (p ∷ [])) (g ps)
    where
      placed : (ps : List PolicyData) → value_at text_cmp (λ q. q.id) ps p.id ≡ None → g (put p ps) ≡ (g (p ∷ []) || g ps)
      placed [] new = first p []
      placed (w ∷ ws) new = by (text_cmp p.id w.id) new (placed ws)
        where
          by : (o : Ordering) → cond (is_eq o) (Some w) (find (has_key text_cmp (λ q. q.id) p.id) ws) ≡ None → (value_at text_cmp (λ q. q.id) ws p.id ≡ None → g (put p ws) ≡ (g (p ∷ []) || g ws)) →
              g (match_ordering o (p ∷ w ∷ ws) (p ∷ ws) (w ∷ put p ws)) ≡ (g (p ∷ []) || g (w ∷ ws))
          by Less n rest = first p (w ∷ ws)
          by Equal n rest = absurd (cc n)
          by Greater n rest = first w (put p ws) ∙ ap (λ b. g (w ∷ []) || b) (rest n) ∙ swap (g (w ∷ [])) (g (p ∷ [])) (g ws) ∙ ap (λ b. g (p ∷ []) || b) (sym (first w ws))

  behind : g [] ≡ false → (ps qs : List PolicyData) → g (ps ++ qs) ≡ (g ps || g qs)
  behind none [] qs = ap (λ b. b || g qs) (sym none)
  behind none (p ∷ ps) qs = first p (ps ++ qs) ∙ ap (λ b. g (p ∷ []) || b) (behind none ps qs) ∙ sym (or_assoc (g (p ∷ [])) (g ps) (g qs)) ∙ ap (λ b. b || g qs) (sym (first p ps))

module _ (schema : SchemaData) (env : EnvData) (es : Address) where
  abbrev pub goes_by : List PolicyData → Bool
  goes_by ps = goes_along schema env (typed_conditions schema env ps) es

  abbrev pub asks_by : List PolicyData → Bool
  asks_by ps = asks_along schema env (typed_conditions schema env ps) es

  pub goes_first : IsByFirst goes_by
  goes_first p ps = by (option_map (λ a. a.tree) (types schema env [] p.condition))
    where
      by : (o : Option Typed) → goes_along schema env (cons_option o (typed_conditions schema env ps)) es ≡ (goes_along schema env (cons_option o []) es || goes_by ps)
      by None = refl
      by (Some t) = goes_append schema env es (t ∷ []) (typed_conditions schema env ps)

  pub asks_first : IsByFirst asks_by
  asks_first p ps = by (option_map (λ a. a.tree) (types schema env [] p.condition))
    where
      by : (o : Option Typed) → asks_along schema env (cons_option o (typed_conditions schema env ps)) es ≡ (asks_along schema env (cons_option o []) es || asks_by ps)
      by None = refl
      by (Some t) = any_demand schema env (is_same es) (t ∷ []) (typed_conditions schema env ps)

pub tries_unions : TriesOfSetsAreUnions
tries_unions schema env ps p new t u v of_set of_one union = record {
  paths = λ es. union.paths es ∙ (λ i. of_set.paths es i || of_one.paths es i) ∙ sym (at_its_place (goes_by schema env es) (goes_first schema env es) p ps new);
  marks = λ es. union.marks es ∙ (λ i. of_set.marks es i || of_one.marks es i) ∙ sym (at_its_place (asks_by schema env es) (asks_first schema env es) p ps new);
}

pub lists_united : TriesOfListsAreUnions
lists_united schema env = record {
  none = λ t nowhere unmarked. record { paths = nowhere; marks = unmarked };
  both = λ ps qs t u v of_ps of_qs union. record {
    paths = λ es. union.paths es ∙ (λ i. of_ps.paths es i || of_qs.paths es i) ∙ sym (behind (goes_by schema env es) (goes_first schema env es) refl ps qs);
    marks = λ es. union.marks es ∙ (λ i. of_ps.marks es i || of_qs.marks es i) ∙ sym (behind (asks_by schema env es) (asks_first schema env es) refl ps qs);
  };
}
