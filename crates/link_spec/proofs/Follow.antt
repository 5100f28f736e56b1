-- A typing that is another one, or False.
use Rattle.std.proofs.Common.{◌≡◌, ◌⊎◌, inl, inr, List, [], ◌++◌, Option, Some, None, refl, sym, subst, IfSome, IsSomeAnd}
use Rattle.std.specs.Prelude.{option_map}
use Rattle.std.specs.Option.{option_and_then}
use Rattle.policy_expressions.specs.Tree.{conj, Mark}
use Rattle.schema_types.specs.declared.kinds.Primitive.TheVariants.{Bool as BoolType}
use Rattle.schema_types.specs.Ty.{Ty, true_type, false_type, primitive}
use Rattle.schema_core.specs.EnvData.{EnvData}
use Rattle.schema_core.specs.Schema.{SchemaData}
use Rattle.policy_expressions.specs.Plain.{Plain}
use Rattle.typing_spec.specs.Capability.{Capability}
use Rattle.typing_spec.specs.Rules.{and_type}
use Rattle.typing_spec.specs.Typing.{Typed, Typing, typing, at, unreached, and_caps, and_typing, types}
use Rattle.link_spec.specs.Laws.{IsFilled, same, both, left, IsSameOrFalse, IsFilledTyping, FollowsTyping}

pub itself_follows : (x : Option Typing) → FollowsTyping x x
itself_follows None = tt
itself_follows (Some a) = record { type = inr (refl, refl); tree = same }

pub equal_follows : (x y : Option Typing) → x ≡ y → FollowsTyping x y
equal_follows x y h = subst (FollowsTyping x) h (itself_follows x)

mapped_follows : (o : Option Ty) (f g : Ty → Typing) → ((w : Ty) → IsFilledTyping (f w) (g w)) → FollowsTyping (option_map f o) (option_map g o)
mapped_follows None f g h = tt
mapped_follows (Some w) f g h = h w

-- False follows anything
false_follows : (o : Option Ty) (f : Ty → Typing) (y : Typed) → ((w : Ty) → IsFilled (f w).tree y) → FollowsTyping (option_map f o) (Some (typing false_type [] y))
false_follows None f y h = tt
false_follows (Some w) f y h = record { type = inl (refl, refl); tree = h w }

-- a type that is another one, or False
abbrev pub FollowsType : Option Ty → Option Ty → Type 0
FollowsType t u = IfSome t (λ w. IsSomeAnd u (λ v. (v ≡ false_type) ⊎ (v ≡ w)))

pub type_follows : (t u : Option Ty) (x y : Ty → Typed) → ((w v : Ty) → IsFilled (x w) (y v)) → FollowsType t u → FollowsTyping (option_map (λ w. typing w [] (x w)) t) (option_map (λ w. typing w [] (y w)) u)
type_follows None u x y f h = tt
type_follows (Some w) None x y f h = absurd h
type_follows (Some w) (Some v) x y f (inl e) = record { type = inl (e, refl); tree = f w v }
type_follows (Some w) (Some v) x y f (inr e) = record { type = inr (e, refl); tree = f w v }

-- the typing of `&&`, by the types and by what both sides make known
abbrev joined : Ty → Ty → List Capability → List Capability → Typed → Typed → Mark (Unit {0}) → Option Typing
joined t u cs ds x y m = option_map (λ w. typing w (and_caps u cs ds) (conj x y (at w m))) (and_type t u)

-- with a right side that is False
right_false : (t u : Ty) (cs ds : List Capability) (x x' y y' : Typed) (m : Mark (Unit {0})) → IsFilled x x' → IsFilled y y' → FollowsTyping (joined t u cs ds x y m) (joined t false_type cs [] x' y' m)
right_false true_type u cs ds x x' y y' m f g = false_follows (and_type true_type u) (λ w. typing w (and_caps u cs ds) (conj x y (at w m))) (conj x' y' (at false_type m)) (λ w. both f g)
right_false (primitive BoolType) u cs ds x x' y y' m f g = false_follows (and_type (primitive BoolType) u) (λ w. typing w (and_caps u cs ds) (conj x y (at w m))) (conj x' y' (at false_type m)) (λ w. both f g)
right_false t u cs ds x x' y y' m f g = tt

-- with a right side of the same type
right_same : (t u : Ty) (cs ds : List Capability) (x x' y y' : Typed) (m : Mark (Unit {0})) → IsFilled x x' → IsFilled y y' → FollowsTyping (joined t u cs ds x y m) (joined t u cs ds x' y' m)
right_same t u cs ds x x' y y' m f g =
    mapped_follows (and_type t u) (λ w. typing w (and_caps u cs ds) (conj x y (at w m))) (λ w. typing w (and_caps u cs ds) (conj x' y' (at w m)))
    (λ w. record { type = inr (refl, refl); tree = both f g })

right_follows : (t : Ty) (cs : List Capability) (x x' : Typed) (m : Mark (Unit {0})) (a b : Typing) → IsFilled x x' → IsFilled a.tree b.tree → IsSameOrFalse a b →
    FollowsTyping (joined t a.type cs a.caps x a.tree m) (joined t b.type cs b.caps x' b.tree m)
right_follows t cs x x' m a b f g (inl h) =
    subst (λ (q : Ty × List Capability). FollowsTyping (joined t a.type cs a.caps x a.tree m) (joined t q.0 cs q.1 x' b.tree m)) (λ i. (sym h.0 i, sym h.1 i))
    (right_false t a.type cs a.caps x x' a.tree b.tree m f g)
right_follows t cs x x' m a b f g (inr h) =
    subst (λ (q : Ty × List Capability). FollowsTyping (joined t a.type cs a.caps x a.tree m) (joined t q.0 cs q.1 x' b.tree m)) (λ i. (sym h.0 i, sym h.1 i))
    (right_same t a.type cs a.caps x x' a.tree b.tree m f g)

and_follows : (t : Ty) (cs : List Capability) (x x' : Typed) (m : Mark (Unit {0})) (y y' : Option Typing) → IsFilled x x' → FollowsTyping y y' → FollowsTyping (and_typing t cs x m y) (and_typing t cs x' m y')
and_follows false_type cs x x' m y y' f h = record { type = inr (refl, refl); tree = left f }
and_follows t cs x x' m None y' f h = tt
and_follows t cs x x' m (Some a) None f h = absurd h
and_follows t cs x x' m (Some a) (Some b) f h = right_follows t cs x x' m a b f h.tree h.type

-- a left side that is False follows whatever is on the right
and_false : (t : Ty) (cs : List Capability) (x x' : Typed) (m : Mark (Unit {0})) (y : Option Typing) → IsFilled x x' → FollowsTyping (and_typing t cs x m y) (Some (typing false_type [] (conj x' unreached (at false_type m))))
and_false false_type cs x x' m y f = record { type = inl (refl, refl); tree = left f }
and_false t cs x x' m None f = tt
and_false t cs x x' m (Some a) f = false_follows (and_type t a.type) (λ w. typing w (and_caps a.type cs a.caps) (conj x a.tree (at w m))) (conj x' unreached (at false_type m)) (λ w. left f)

-- `&&`, by the left side
left_follows : (m : Mark (Unit {0})) (x x' : Option Typing) (y y' : List Capability → Option Typing) → FollowsTyping x x' → ((ds : List Capability) → FollowsTyping (y ds) (y' ds)) →
    FollowsTyping (option_and_then (λ a. and_typing a.type a.caps a.tree m (y a.caps)) x) (option_and_then (λ a. and_typing a.type a.caps a.tree m (y' a.caps)) x')
left_follows m None x' y y' h k = tt
left_follows m (Some a) None y y' h k = absurd h
left_follows m (Some a) (Some b) y y' h k = by h.type
  where
    by : IsSameOrFalse a b → FollowsTyping (and_typing a.type a.caps a.tree m (y a.caps)) (and_typing b.type b.caps b.tree m (y' b.caps))
    by (inl e) =
        subst (λ t. FollowsTyping (and_typing a.type a.caps a.tree m (y a.caps)) (and_typing t b.caps b.tree m (y' b.caps))) (sym e.0)
        (and_false a.type a.caps a.tree b.tree m (y a.caps) h.tree)
    by (inr e) =
        subst (λ (q : Ty × List Capability). FollowsTyping (and_typing a.type a.caps a.tree m (y a.caps)) (and_typing q.0 q.1 b.tree m (y' q.1))) (λ i. (sym e.0 i, sym e.1 i))
        (and_follows a.type a.caps a.tree b.tree m (y a.caps) (y' a.caps) h.tree (k a.caps))

module _ (schema : SchemaData) (env env' : EnvData) where
  -- the second expression follows the first, whatever is known before
  abbrev pub Follows : Plain → Plain → Type 0
  Follows x x' = (cs : List Capability) → FollowsTyping (types schema env cs x) (types schema env' cs x')

  pub conj_follows : (x x' y y' : Plain) (m : Mark (Unit {0})) → Follows x x' → Follows y y' → Follows (conj x y m) (conj x' y' m)
  conj_follows x x' y y' m h k cs = left_follows m (types schema env cs x) (types schema env' cs x') (λ ds. types schema env (cs ++ ds) y) (λ ds. types schema env' (cs ++ ds) y') (h cs) (λ ds. k (cs ++ ds))
