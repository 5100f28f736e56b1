-- Lists, tests and names.
use Rattle.std.proofs.Common.{◌≡◌, ℕ, Bool, true, false, List, [], ◌∷◌, ◌++◌, map, refl, ap, ◌⊎◌, inl, inr}
use Rattle.std.specs.Prelude.{if◌then◌else◌, filter}
use Rattle.std.specs.List.{list_any, flat_map}
use Rattle.std.specs.Ordering.{is_eq}
use Rattle.std.proofs.lemmas.Bool.{and_from}
use Rattle.std.proofs.lemmas.Cmp.{tied_itself}
use Rattle.std.proofs.lemmas.Map.Lookups.{exact_bytes}
use Rattle.policy_values.specs.declared.entity_uid.EntityUID.{EntityUID}
use Rattle.policy_values.specs.Uid.{text_cmp, uid_cmp, uid_cmp_total, exact_uid, uid_eq}
use Rattle.reads_spec.specs.Paths.{Step, along, any_tag}
use Rattle.reads_spec.specs.Restrict.{same_step, is_prefix}
use Rattle.plain_lemmas.proofs.Booleans.{or_left_true, or_right_true}
use Rattle.policy_values.specs.Ties.{equal_of}
use Rattle.type_relations.proofs.UnionLaws.{own_text}
pub use Rattle.reads_spec.specs.Among.{IsIn}

pub same_text : (a b : List ℕ) → is_eq (text_cmp a b) ≡ true → a ≡ b
same_text a b h = exact_bytes a b (equal_of (text_cmp a b) h)

pub same_uid : (x y : EntityUID) → uid_eq x y ≡ true → x ≡ y
same_uid x y h = exact_uid x y (equal_of (uid_cmp x y) h)

pub uid_self : (x : EntityUID) → uid_eq x x ≡ true
uid_self x = ap is_eq (tied_itself uid_cmp_total x)

pub in_left : {A : Type 0} (x : A) (xs ys : List A) → IsIn x xs → IsIn x (xs ++ ys)
in_left x [] ys h = absurd h
in_left x (z ∷ xs) ys (inl e) = inl e
in_left x (z ∷ xs) ys (inr h) = inr (in_left x xs ys h)

pub in_right : {A : Type 0} (x : A) (xs ys : List A) → IsIn x ys → IsIn x (xs ++ ys)
in_right x [] ys h = h
in_right x (z ∷ xs) ys h = inr (in_right x xs ys h)

pub in_map : {A B : Type 0} (f : A → B) (x : A) (xs : List A) → IsIn x xs → IsIn (f x) (map f xs)
in_map f x [] h = absurd h
in_map f x (z ∷ xs) (inl e) = inl (ap f e)
in_map f x (z ∷ xs) (inr h) = inr (in_map f x xs h)

-- what a value of a map came from
pub in_map_out : {A B : Type 0} (f : A → B) (y : B) (xs : List A) → IsIn y (map f xs) → (x : A) × IsIn x xs × (f x ≡ y)
in_map_out f y [] h = absurd h
in_map_out f y (x ∷ xs) (inl e) = (x, inl refl, e)
in_map_out f y (x ∷ xs) (inr h) = let r = in_map_out f y xs h in (r.0, inr r.1, r.2)

pub in_filter : {A : Type 0} (t : A → Bool) (x : A) (xs : List A) → IsIn x xs → t x ≡ true → IsIn x (filter t xs)
in_filter t x [] h k = h
in_filter t x (z ∷ xs) (inl e) k = let f : t z ≡ true = rw e k in rw f (inl e)
in_filter t x (z ∷ xs) (inr h) k = at_test (t z) (in_filter t x xs h k)
  where
    at_test : (b : Bool) → IsIn x (filter t xs) → IsIn x (if b then z ∷ filter t xs else filter t xs)
    at_test true r = inr r
    at_test false r = r

pub in_flat_map : {A B : Type 0} (f : A → List B) (x : A) (y : B) (xs : List A) → IsIn x xs → IsIn y (f x) → IsIn y (flat_map f xs)
in_flat_map f x y [] h k = absurd h
in_flat_map f x y (z ∷ xs) (inl e) k = in_left y (f z) (flat_map f xs) (rw e k)
in_flat_map f x y (z ∷ xs) (inr h) k = in_right y (f z) (flat_map f xs) (in_flat_map f x y xs h k)

pub any_in : {A : Type 0} (f : A → Bool) (x : A) (xs : List A) → IsIn x xs → f x ≡ true → list_any f xs ≡ true
any_in f x [] h k = absurd h
any_in f x (z ∷ xs) (inl e) k = or_left_true (f z) (list_any f xs) (rw e k)
any_in f x (z ∷ xs) (inr h) k = or_right_true (f z) (list_any f xs) (any_in f x xs h k)

same_step-self : (c : Step) → same_step c c ≡ true
same_step-self (along n) = own_text n
same_step-self any_tag = refl

pub is_prefix-append : (cs more : List Step) → is_prefix cs (cs ++ more) ≡ true
is_prefix-append [] more = refl
is_prefix-append (c ∷ cs) more = and_from (same_step c c) (is_prefix cs (cs ++ more)) (same_step-self c) (is_prefix-append cs more)

pub in_append_out : {A : Type 0} (y : A) (xs ys : List A) → IsIn y (xs ++ ys) → IsIn y xs ⊎ IsIn y ys
in_append_out y [] ys h = inr h
in_append_out y (x ∷ xs) ys (inl e) = inl (inl e)
in_append_out y (x ∷ xs) ys (inr h) = at_rest (in_append_out y xs ys h)
  where
    at_rest : IsIn y xs ⊎ IsIn y ys → IsIn y (x ∷ xs) ⊎ IsIn y ys
    at_rest (inl i) = inl (inr i)
    at_rest (inr i) = inr i

-- what a value of a flat map came from
pub record Through {A B : Type 0} (f : A → List B) (y : B) (xs : List A) : Type 0 where
  pub from : A
  pub among : IsIn from xs
  pub gives : IsIn y (f from)

pub flat_map_out : {A B : Type 0} (f : A → List B) (y : B) (xs : List A) → IsIn y (flat_map f xs) → Through f y xs
flat_map_out f y [] h = absurd h
flat_map_out f y (x ∷ xs) h = at_part (in_append_out y (f x) (flat_map f xs) h) (λ i. flat_map_out f y xs i)
  where
    at_part : IsIn y (f x) ⊎ IsIn y (flat_map f xs) → (IsIn y (flat_map f xs) → Through f y xs) → Through f y (x ∷ xs)
    at_part (inl i) g = record { from = x; among = inl refl; gives = i }
    at_part (inr i) g = let r = g i in record { from = r.from; among = inr r.among; gives = r.gives }
