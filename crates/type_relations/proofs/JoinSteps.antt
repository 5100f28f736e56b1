-- Steps of the join of attributes.
use Rattle.std.proofs.Common.{◌≡◌, ℕ, List, [], ◌∷◌, ◌++◌, true, cond, Result, Ok, Err, ap, ◌∙◌, sym, refl}
use Rattle.schema_types.specs.declared.kinds.LubHelp.{LubHelp}
use Rattle.schema_types.specs.Ty.{Ty, Attrs, no_attrs, attr}
use Rattle.schema_types.specs.TyView.{attrs_of}
use Rattle.type_relations.specs.declared.mode.SubtypeMode.TheVariants.{Strict}
use Rattle.type_relations.specs.Join.{result_map, bool_eq, join_first, join, join_attrs}
use Rattle.std.specs.Map.{keys_of}
use Rattle.schema_types.specs.declared.kinds.LubHelp.TheVariants.{AttributeQualifier}
use Rattle.schema_types.specs.declared.ty.AttributeType.{AttributeType}

-- entries before attributes
abbrev pub in_prefix : List (List ℕ × AttributeType) → Attrs → Attrs
in_prefix [] zs = zs
in_prefix (e ∷ es) zs = attr e.0 e.1.attr_type e.1.is_required (in_prefix es zs)

pub in_prefix_all : (es : List (List ℕ × AttributeType)) → in_prefix es no_attrs ≡ attrs_of es
in_prefix_all [] = refl
in_prefix_all (e ∷ es) = ap (attr e.0 e.1.attr_type e.1.is_required) (in_prefix_all es)

pub in_prefix_one : (es : List (List ℕ × AttributeType)) (e : List ℕ × AttributeType) (zs : Attrs) → in_prefix (es ++ e ∷ []) zs ≡ in_prefix es (attr e.0 e.1.attr_type e.1.is_required zs)
in_prefix_one [] e zs = refl
in_prefix_one (d ∷ es) e zs = ap (attr d.0 d.1.attr_type d.1.is_required) (in_prefix_one es e zs)

pub in_prefix_step : (es : List (List ℕ × AttributeType)) (e : List ℕ × AttributeType) (r : Result Attrs LubHelp) → result_map (in_prefix (es ++ e ∷ [])) r ≡ result_map (in_prefix es) (result_map (attr e.0 e.1.attr_type e.1.is_required) r)
in_prefix_step es e (Ok zs) = ap Ok (in_prefix_one es e zs)
in_prefix_step es e (Err h) = refl

abbrev Entries : Type 0
Entries = List (List ℕ × AttributeType)

pub keys_turn : (done : Entries) (e : List ℕ × AttributeType) (rest : Entries) → keys_of done ++ (e.0 ∷ keys_of rest) ≡ keys_of (done ++ e ∷ []) ++ keys_of rest
keys_turn [] e rest = refl
keys_turn (d ∷ done) e rest = ap (λ ks. d.0 ∷ ks) (keys_turn done e rest)

-- one attribute further, where its types have a join
pub join_turn : (r : Result Attrs LubHelp) (done made left right ls rs : Entries) (k l : List ℕ) (x y : AttributeType) (v : Ty) → result_map (in_prefix done) (join_attrs (attrs_of left) (attrs_of right)) ≡ r → left ≡ (k, x) ∷ ls → right ≡ (l, y) ∷ rs → join Strict x.attr_type y.attr_type ≡ Ok v → bool_eq x.is_required y.is_required ≡ true → made ≡ done ++ (k, record { attr_type = v; is_required = x.is_required }) ∷ [] → result_map (in_prefix made) (join_attrs (attrs_of ls) (attrs_of rs)) ≡ r
join_turn r done made left right ls rs k l x y v inv a b h e m =
    (λ i. result_map (in_prefix (m i)) (join_attrs (attrs_of ls) (attrs_of rs)))
    ∙ in_prefix_step done (k, record { attr_type = v; is_required = x.is_required }) (join_attrs (attrs_of ls) (attrs_of rs))
    ∙ ap (result_map (in_prefix done)) (sym (
    (λ i. join_first k x.is_required y.is_required (h i) (join_attrs (attrs_of ls) (attrs_of rs)))
    ∙ (λ i. cond (e i) (result_map (attr k v x.is_required) (join_attrs (attrs_of ls) (attrs_of rs))) (Err AttributeQualifier))))
    ∙ (λ i. result_map (in_prefix done) (join_attrs (attrs_of (sym a i)) (attrs_of (sym b i))))
    ∙ inv
