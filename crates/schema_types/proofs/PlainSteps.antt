-- Steps of the way from types to schema types.
use Rattle.std.proofs.Common.{◌≡◌, ℕ, List, [], ◌∷◌, ◌++◌, Option, Some, None, ap, ◌∙◌, sym, refl}
use Rattle.std.specs.Prelude.{option_map}
use Rattle.std.specs.Map.{keys_of}
use Rattle.schema_types.specs.Ty.{Ty, Attrs, no_attrs, attr}
use Rattle.schema_types.specs.TyView.{attrs_of}
use Rattle.schema_types.specs.SchemaView.{schema_attrs_of}
use Rattle.schema_types.specs.Plain.{plain_first, plain, plain_attrs}
use Rattle.schema_types.specs.declared.ty.AttributeType.{AttributeType}
use Rattle.schema_types.specs.declared.schema_type.SchemaAttribute.{SchemaAttribute}

abbrev Made : Type 0
Made = List (List ℕ × SchemaAttribute)

-- entries before attributes
abbrev pub in_prefix : Made → Attrs → Attrs
in_prefix [] zs = zs
in_prefix (e ∷ es) zs = attr e.0 e.1.attr_type e.1.is_required (in_prefix es zs)

pub in_prefix_all : (es : Made) → in_prefix es no_attrs ≡ schema_attrs_of es
in_prefix_all [] = refl
in_prefix_all (e ∷ es) = ap (attr e.0 e.1.attr_type e.1.is_required) (in_prefix_all es)

in_prefix_one : (es : Made) (e : List ℕ × SchemaAttribute) (zs : Attrs) → in_prefix (es ++ e ∷ []) zs ≡ in_prefix es (attr e.0 e.1.attr_type e.1.is_required zs)
in_prefix_one [] e zs = refl
in_prefix_one (d ∷ es) e zs = ap (attr d.0 d.1.attr_type d.1.is_required) (in_prefix_one es e zs)

in_prefix_step : (es : Made) (e : List ℕ × SchemaAttribute) (r : Option Attrs) → option_map (in_prefix (es ++ e ∷ [])) r ≡ option_map (in_prefix es) (option_map (attr e.0 e.1.attr_type e.1.is_required) r)
in_prefix_step es e None = refl
in_prefix_step es e (Some zs) = ap Some (in_prefix_one es e zs)

-- one attribute further
pub plain_turn : (r : Option Attrs) (done made : Made) (left ls : List (List ℕ × AttributeType)) (k : List ℕ) (x : AttributeType) (v : Ty) → option_map (in_prefix done) (plain_attrs (attrs_of left)) ≡ r → left ≡ (k, x) ∷ ls → plain x.attr_type ≡ Some v → made ≡ done ++ (k, record { attr_type = v; is_required = x.is_required }) ∷ [] → option_map (in_prefix made) (plain_attrs (attrs_of ls)) ≡ r
plain_turn r done made left ls k x v inv a h m =
    (λ i. option_map (in_prefix (m i)) (plain_attrs (attrs_of ls)))
    ∙ in_prefix_step done (k, record { attr_type = v; is_required = x.is_required }) (plain_attrs (attrs_of ls))
    ∙ ap (option_map (in_prefix done)) (sym (λ i. plain_first k x.is_required (h i) (plain_attrs (attrs_of ls))))
    ∙ (λ i. option_map (in_prefix done) (plain_attrs (attrs_of (sym a i))))
    ∙ inv

pub keys_turn : (done : Made) (e : List ℕ × SchemaAttribute) (ks : List (List ℕ)) → keys_of done ++ (e.0 ∷ ks) ≡ keys_of (done ++ e ∷ []) ++ ks
keys_turn [] e ks = refl
keys_turn (d ∷ done) e ks = ap (λ ls. d.0 ∷ ls) (keys_turn done e ks)
