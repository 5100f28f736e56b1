-- The types that typing gives say what they should, at each part that is reached.
use Rattle.std.proofs.Common.{◌≡◌, ℕ, false, ◌||◌, List, [], ◌∷◌, ◌++◌, Option, Some, None, is_some, sym, subst, ◌∙◌, IfSome}
use Rattle.std.specs.Prelude.{option_map}
use Rattle.std.specs.Option.{option_and_then}
use Rattle.plain_lemmas.proofs.Booleans.{or_false_parts}
use Rattle.entity_store.specs.declared.request.Request.{Request}
use Rattle.entity_store.specs.Store.{Store}
use Rattle.schema_types.specs.declared.kinds.Primitive.TheVariants.{Bool as BoolType, Long, String}
use Rattle.schema_types.specs.Ty.{Ty, true_type, false_type, primitive}
use Rattle.schema_core.specs.EnvData.{LinkedEnvironment, declared_action}
use Rattle.schema_core.specs.Faults.{IsSchema}
use Rattle.schema_core.specs.Schema.{SchemaData}
use Rattle.policy_core.specs.Eval.{eval}
use Rattle.policy_expressions.specs.Functions.{function_of}
use Rattle.policy_expressions.specs.Keys.{HasKeysOnce, HaveKeysOnce, AreKeysOnce}
use Rattle.policy_expressions.specs.Plain.{Plain}
use Rattle.policy_expressions.specs.Slots.{has_slot, some_has_slot, some_named_has_slot}
use Rattle.policy_expressions.specs.Tree.{lit, var, slot, ite, conj, disj, unary, binary, attr, has, like, is_type, call, set, rec, Trees, no_trees, tree, Named, no_named, named, Mark, mark_of}
use Rattle.typing_spec.specs.Capability.{Capability, has_cap, common}
use Rattle.typing_spec.specs.Conforms.{RequestConforms, StoreConforms, IsOf}
use Rattle.typing_spec.specs.Environment.{type_of_literal, type_of_variable}
use Rattle.typing_spec.specs.Holds.{AllHold}
use Rattle.typing_spec.specs.Rules as rule
use Rattle.typing_spec.specs.Signatures.{call_type}
use Rattle.typing_spec.specs.Sound.{IsOfType, Fulfils, TypingIsSound, TypedHasItsType}
use Rattle.typing_spec.specs.Typing.{Typed, Typing, typing, at, unreached, attribute_known, tag_known, if_typing, and_caps, and_typing, or_caps, or_typing, binary_caps, has_caps, types_in, trees_in, record_type, named_in, types, types_all, types_named}
use Rattle.condition_truth.proofs.Outcomes.{Yes}
use Rattle.condition_truth.proofs.Parts.{when_some, mapped, any_mapped, both_some, later, all_append}
use Rattle.condition_truth.proofs.Steps.{NoteHolds}

module _ (q : Request) (s : Store) where
  abbrev pub IsNoted : Typed → Type 0
  IsNoted (lit l m) = Unit {0}
  IsNoted e = NoteHolds (mark_of e).note (eval e q s)

  pub noted_of : (e : Typed) → NoteHolds (mark_of e).note (eval e q s) → IsNoted e
  noted_of (lit l m) h = tt
  noted_of e h = h

  -- what is noted of the parts that are reached
  abbrev mutual
    pub Below : Typed → Type 0
    Below (lit l m) = Unit {0}
    Below (var v m) = Unit {0}
    Below (slot i m) = Unit {0}
    Below (ite x y z m) = (IsNoted x × Below x) × (eval x q s ≡ Yes → IsNoted y × Below y) × (IsNoted z × Below z)
    Below (conj x y m) = (IsNoted x × Below x) × (eval x q s ≡ Yes → IsNoted y × Below y)
    Below (disj x y m) = (IsNoted x × Below x) × (IsNoted y × Below y)
    Below (unary o x m) = IsNoted x × Below x
    Below (binary o x y m) = (IsNoted x × Below x) × (IsNoted y × Below y)
    Below (attr x n m) = IsNoted x × Below x
    Below (has x n m) = IsNoted x × Below x
    Below (like x p m) = IsNoted x × Below x
    Below (is_type x n m) = IsNoted x × Below x
    Below (call f xs m) = AllBelow xs
    Below (set xs m) = AllBelow xs
    Below (rec xs m) = NamedBelow xs

    pub AllBelow : Trees (Mark (Option Ty)) → Type 0
    AllBelow no_trees = Unit {0}
    AllBelow (tree x xs) = (IsNoted x × Below x) × AllBelow xs

    pub NamedBelow : Named (Mark (Option Ty)) → Type 0
    NamedBelow no_named = Unit {0}
    NamedBelow (named k x xs) = (IsNoted x × Below x) × NamedBelow xs

module _ (sound : TypingIsSound) (marked : TypedHasItsType) (schema : SchemaData) (ok : IsSchema schema) (env : LinkedEnvironment) (q : Request) (whole : RequestConforms schema q) (of : IsOf schema q env) (s : Store) (stored : StoreConforms schema s) where
  abbrev g : List Capability → Plain → Option Typing
  g = types schema (declared_action env)

  abbrev g_all : List Capability → Trees (Mark (Unit {0})) → Option (List Typing)
  g_all = types_all schema (declared_action env)

  abbrev g_named : List Capability → Named (Mark (Unit {0})) → Option (List (List ℕ × Typing))
  g_named = types_named schema (declared_action env)

  abbrev T : Typing → Type 0
  T x = Below q s x.tree

  -- of a part
  abbrev C : Typing → Type 0
  C x = IsNoted q s x.tree × T x

  -- what is promised, and what its types say
  abbrev pub F : Plain → Typing → Type 0
  F e x = Fulfils q s (eval e q s) x × C x

  if_below : (t : Ty) (cs : List Capability) (test : Typed) (m : Mark (Unit {0})) (a b : Option Typing) → IsNoted q s test × Below q s test → IfSome a (λ x. eval test q s ≡ Yes → C x) → IfSome b C → IfSome (if_typing t cs test m a b) T
  if_below true_type cs test m a b h k l =
      mapped (λ x. eval test q s ≡ Yes → C x) T (λ x. typing x.type (x.caps ++ cs) (ite test x.tree unreached (at x.type m))) a k (λ x f. (h, f, (tt, tt)))
  if_below false_type cs test m a b h k l = mapped C T (λ y. typing y.type y.caps (ite test unreached y.tree (at y.type m))) b l (λ y f. (h, (λ i. (tt, tt)), f))
  if_below (primitive BoolType) cs test m a b h k l =
      when_some (λ x. eval test q s ≡ Yes → C x) T (λ x. option_and_then (λ y. option_map (λ w. typing w (common y.caps (x.caps ++ cs)) (ite test x.tree y.tree (at w m))) (rule.strict_join x.type y.type)) b) a k (λ x f.
      when_some C T (λ y. option_map (λ w. typing w (common y.caps (x.caps ++ cs)) (ite test x.tree y.tree (at w m))) (rule.strict_join x.type y.type)) b l (λ y i.
      any_mapped T (λ w. typing w (common y.caps (x.caps ++ cs)) (ite test x.tree y.tree (at w m))) (rule.strict_join x.type y.type) (λ w. (h, f, i))))
  if_below (primitive Long) cs test m a b h k l = tt
  if_below (primitive String) cs test m a b h k l = tt
  if_below t cs test m a b h k l = tt

  and_rest : (t : Ty) (cs : List Capability) (x : Typed) (m : Mark (Unit {0})) (b : Option Typing) → IsNoted q s x × Below q s x → IfSome b (λ y. eval x q s ≡ Yes → C y) →
      IfSome (option_and_then (λ y. option_map (λ w. typing w (and_caps y.type cs y.caps) (conj x y.tree (at w m))) (rule.and_type t y.type)) b) T
  and_rest t cs x m b h k =
      when_some (λ y. eval x q s ≡ Yes → C y) T (λ y. option_map (λ w. typing w (and_caps y.type cs y.caps) (conj x y.tree (at w m))) (rule.and_type t y.type)) b k (λ y f.
      any_mapped T (λ w. typing w (and_caps y.type cs y.caps) (conj x y.tree (at w m))) (rule.and_type t y.type) (λ w. (h, f)))

  and_below : (t : Ty) (cs : List Capability) (x : Typed) (m : Mark (Unit {0})) (b : Option Typing) → IsNoted q s x × Below q s x → IfSome b (λ y. eval x q s ≡ Yes → C y) → IfSome (and_typing t cs x m b) T
  and_below false_type cs x m b h k = (h, λ i. (tt, tt))
  and_below t cs x m b h k = and_rest t cs x m b h k

  or_rest : (t : Ty) (cs : List Capability) (x : Typed) (m : Mark (Unit {0})) (b : Option Typing) → IsNoted q s x × Below q s x → IfSome b C →
      IfSome (option_and_then (λ y. option_map (λ w. typing w (or_caps t y.type cs y.caps) (disj x y.tree (at w m))) (rule.or_type t y.type)) b) T
  or_rest t cs x m b h k =
      when_some C T (λ y. option_map (λ w. typing w (or_caps t y.type cs y.caps) (disj x y.tree (at w m))) (rule.or_type t y.type)) b k (λ y f.
      any_mapped T (λ w. typing w (or_caps t y.type cs y.caps) (disj x y.tree (at w m))) (rule.or_type t y.type) (λ w. (h, f)))

  or_below : (t : Ty) (cs : List Capability) (x : Typed) (m : Mark (Unit {0})) (b : Option Typing) → IsNoted q s x × Below q s x → IfSome b C → IfSome (or_typing t cs x m b) T
  or_below true_type cs x m b h k = (h, (tt, tt))
  or_below t cs x m b h k = or_rest t cs x m b h k

  noted : (x : Plain) (a : Typing) → Fulfils q s (eval x q s) a → mark_of a.tree ≡ at a.type (mark_of x) → IsNoted q s a.tree
  noted x a f e = noted_of q s a.tree (subst (λ m. NoteHolds m.note (eval a.tree q s)) (sym e) (subst (IsOfType a.type) (sym f.same) f.value))

  abbrev N : Plain → Typing → Type 0
  N e x = Fulfils q s (eval e q s) x × IsNoted q s x.tree

  pub promised : (cs : List Capability) → AllHold q s cs → (e : Plain) → has_slot e ≡ false → HasKeysOnce e → IfSome (g cs e) T → IfSome (g cs e) (F e)
  promised cs h e n k t =
      both_some (N e) T (F e) (g cs e)
      (both_some (Fulfils q s (eval e q s)) (λ x. mark_of x.tree ≡ at x.type (mark_of e)) (N e) (g cs e) (sound schema ok env q whole of s stored cs h e n k) (marked schema (declared_action env) cs e) (λ x f i. (f, noted e x f i)))
      t (λ x f i. (f.0, (f.1, i)))

  any_unit : (o : Option Typing) → IfSome o (λ x. Unit {0})
  any_unit None = tt
  any_unit (Some x) = tt

  part : (cs : List Capability) → AllHold q s cs → (e : Plain) → has_slot e ≡ false → HasKeysOnce e → IfSome (types schema (declared_action env) cs e) (λ x. Below q s x.tree) → IfSome (g cs e) C
  part cs h e n k t = both_some (F e) (λ x. Unit {0}) C (g cs e) (promised cs h e n k t) (any_unit (g cs e)) (λ x f i. f.1)

  mutual
    pub below : (cs : List Capability) → AllHold q s cs → (e : Plain) → has_slot e ≡ false → HasKeysOnce e → IfSome (types schema (declared_action env) cs e) (λ x. Below q s x.tree)
    below cs h (lit l m) n k = any_mapped T (λ t. typing t [] (lit l (at t m))) (type_of_literal schema l) (λ t. tt)
    below cs h (var v m) n k = any_mapped T (λ t. typing t [] (var v (at t m))) (type_of_variable schema (declared_action env) v) (λ t. tt)
    below cs h (slot i m) n k = tt
    below cs h (ite x y z m) n k =
        let r = or_false_parts (has_slot x) (has_slot y || has_slot z) n in
        let t = or_false_parts (has_slot y) (has_slot z) r.1 in
        when_some (F x) T (λ a. if_typing a.type a.caps a.tree m (g (cs ++ a.caps) y) (g cs z)) (g cs x) (promised cs h x r.0 k.0 (below cs h x r.0 k.0)) (λ a f.
        if_below a.type a.caps a.tree m (g (cs ++ a.caps) y) (g cs z) f.1
        (later (eval a.tree q s ≡ Yes) C (g (cs ++ a.caps) y) (λ i. let j = all_append q s cs a.caps h (f.0.if_true (sym f.0.same ∙ i)) in part (cs ++ a.caps) j y t.0 k.1 (below (cs ++ a.caps) j y t.0 k.1)))
        (part cs h z t.1 k.2 (below cs h z t.1 k.2)))
    below cs h (conj x y m) n k =
        let r = or_false_parts (has_slot x) (has_slot y) n in
        when_some (F x) T (λ a. and_typing a.type a.caps a.tree m (g (cs ++ a.caps) y)) (g cs x) (promised cs h x r.0 k.0 (below cs h x r.0 k.0)) (λ a f.
        and_below a.type a.caps a.tree m (g (cs ++ a.caps) y) f.1
        (later (eval a.tree q s ≡ Yes) C (g (cs ++ a.caps) y) (λ i. let j = all_append q s cs a.caps h (f.0.if_true (sym f.0.same ∙ i)) in part (cs ++ a.caps) j y r.1 k.1 (below (cs ++ a.caps) j y r.1 k.1))))
    below cs h (disj x y m) n k =
        let r = or_false_parts (has_slot x) (has_slot y) n in
        when_some C T (λ a. or_typing a.type a.caps a.tree m (g cs y)) (g cs x) (part cs h x r.0 k.0 (below cs h x r.0 k.0)) (λ a f.
        or_below a.type a.caps a.tree m (g cs y) f (part cs h y r.1 k.1 (below cs h y r.1 k.1)))
    below cs h (unary o x m) n k =
        when_some C T (λ a. option_map (λ t. typing t [] (unary o a.tree (at t m))) (rule.unary_type o a.type)) (g cs x) (part cs h x n k (below cs h x n k)) (λ a f.
        any_mapped T (λ t. typing t [] (unary o a.tree (at t m))) (rule.unary_type o a.type) (λ t. f))
    below cs h (binary o x y m) n k =
        let r = or_false_parts (has_slot x) (has_slot y) n in
        when_some C T (λ a. option_and_then (λ b. option_map (λ t. typing t (binary_caps o x y) (binary o a.tree b.tree (at t m))) (rule.binary_type schema (declared_action env) o (has_cap cs (tag_known x y)) x y a.type b.type)) (g cs y)) (g cs x) (part cs h x r.0 k.0 (below cs h x r.0 k.0)) (λ a f.
        when_some C T (λ b. option_map (λ t. typing t (binary_caps o x y) (binary o a.tree b.tree (at t m))) (rule.binary_type schema (declared_action env) o (has_cap cs (tag_known x y)) x y a.type b.type)) (g cs y) (part cs h y r.1 k.1 (below cs h y r.1 k.1)) (λ b i.
        any_mapped T (λ t. typing t (binary_caps o x y) (binary o a.tree b.tree (at t m))) (rule.binary_type schema (declared_action env) o (has_cap cs (tag_known x y)) x y a.type b.type) (λ t. (f, i))))
    below cs h (attr x n m) u k =
        when_some C T (λ a. option_map (λ t. typing t [] (attr a.tree n (at t m))) (rule.attr_type schema (has_cap cs (attribute_known x n)) a.type n)) (g cs x) (part cs h x u k (below cs h x u k)) (λ a f.
        any_mapped T (λ t. typing t [] (attr a.tree n (at t m))) (rule.attr_type schema (has_cap cs (attribute_known x n)) a.type n) (λ t. f))
    below cs h (has x n m) u k =
        when_some C T (λ a. option_map (λ t. typing t (has_caps (is_some (rule.attribute_of schema a.type n)) x n) (has a.tree n (at t m))) (rule.has_type schema (has_cap cs (attribute_known x n)) a.type n)) (g cs x) (part cs h x u k (below cs h x u k)) (λ a f.
        any_mapped T (λ t. typing t (has_caps (is_some (rule.attribute_of schema a.type n)) x n) (has a.tree n (at t m))) (rule.has_type schema (has_cap cs (attribute_known x n)) a.type n) (λ t. f))
    below cs h (like x p m) n k =
        when_some C T (λ a. option_map (λ t. typing t [] (like a.tree p (at t m))) (rule.like_type a.type)) (g cs x) (part cs h x n k (below cs h x n k)) (λ a f.
        any_mapped T (λ t. typing t [] (like a.tree p (at t m))) (rule.like_type a.type) (λ t. f))
    below cs h (is_type x n m) u k =
        when_some C T (λ a. option_map (λ t. typing t [] (is_type a.tree n (at t m))) (rule.is_type a.type n)) (g cs x) (part cs h x u k (below cs h x u k)) (λ a f.
        any_mapped T (λ t. typing t [] (is_type a.tree n (at t m))) (rule.is_type a.type n) (λ t. f))
    below cs h (call f xs m) n k =
        when_some (λ ys. AllBelow q s (trees_in ys)) T (λ ys. option_map (λ t. typing t [] (call f (trees_in ys) (at t m))) (call_type (function_of f) xs (types_in ys))) (g_all cs xs) (all_below cs h xs n k) (λ ys i.
        any_mapped T (λ t. typing t [] (call f (trees_in ys) (at t m))) (call_type (function_of f) xs (types_in ys)) (λ t. i))
    below cs h (set xs m) n k =
        when_some (λ ys. AllBelow q s (trees_in ys)) T (λ ys. option_map (λ t. typing t [] (set (trees_in ys) (at t m))) (rule.set_type (types_in ys))) (g_all cs xs) (all_below cs h xs n k) (λ ys i.
        any_mapped T (λ t. typing t [] (set (trees_in ys) (at t m))) (rule.set_type (types_in ys)) (λ t. i))
    below cs h (rec xs m) n k =
        mapped (λ ys. NamedBelow q s (named_in ys)) T (λ ys. typing (record_type ys) [] (rec (named_in ys) (at (record_type ys) m))) (g_named cs xs) (named_below cs h xs n k) (λ ys i. i)

    all_below : (cs : List Capability) → AllHold q s cs → (xs : Trees (Mark (Unit {0}))) → some_has_slot xs ≡ false → HaveKeysOnce xs → IfSome (types_all schema (declared_action env) cs xs) (λ ys. AllBelow q s (trees_in ys))
    all_below cs h no_trees n k = tt
    all_below cs h (tree x xs) n k =
        let r = or_false_parts (has_slot x) (some_has_slot xs) n in
        when_some C (λ ys. AllBelow q s (trees_in ys)) (λ a. option_map (λ ys. a ∷ ys) (g_all cs xs)) (g cs x) (part cs h x r.0 k.0 (below cs h x r.0 k.0)) (λ a f.
        mapped (λ ys. AllBelow q s (trees_in ys)) (λ ys. AllBelow q s (trees_in ys)) (λ ys. a ∷ ys) (g_all cs xs) (all_below cs h xs r.1 k.1) (λ ys i. (f, i)))

    named_below : (cs : List Capability) → AllHold q s cs → (xs : Named (Mark (Unit {0}))) → some_named_has_slot xs ≡ false → AreKeysOnce xs → IfSome (types_named schema (declared_action env) cs xs) (λ ys. NamedBelow q s (named_in ys))
    named_below cs h no_named n k = tt
    named_below cs h (named l x xs) n k =
        let r = or_false_parts (has_slot x) (some_named_has_slot xs) n in
        when_some C (λ ys. NamedBelow q s (named_in ys)) (λ a. option_map (λ ys. (l, a) ∷ ys) (g_named cs xs)) (g cs x) (part cs h x r.0 k.0 (below cs h x r.0 k.0)) (λ a f.
        mapped (λ ys. NamedBelow q s (named_in ys)) (λ ys. NamedBelow q s (named_in ys)) (λ ys. (l, a) ∷ ys) (g_named cs xs) (named_below cs h xs r.1 k.2) (λ ys i. (f, i)))
