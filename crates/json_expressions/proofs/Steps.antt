-- Steps of reading expressions.
use Rattle.std.proofs.Common.{◌≡◌, ℕ, ◌<◌, ◌≤◌, drop, List, [], ◌∷◌, ◌++◌, length, map, Option, Some, None, option_map, append_assoc, arith, refl, sym, ap, ◌∙◌}
use Rattle.std.proofs.lemmas.Option.{same_Some}
use Rattle.json_trees.specs.Trees.{trees_view}
use Rattle.json.specs.declared.value.Value.{Value}
use Rattle.json_expressions.specs.Forms.{Plain, else_of}
use Rattle.json_expressions.specs.Exprs.{exprs_behind_first, exprs_of}
use Rattle.json_expressions.specs.Parts.{loc_of_items}
use Rattle.json_expressions.specs.Reads.{Read, bounded, bounded_field}
use Rattle.json_values.specs.Lists.{with_first, with_field}

pub short_loc : {A : Type 0} (xs : List (Value A)) → length xs < 2 → None ≡ loc_of_items (trees_view xs)
short_loc [] h = refl
short_loc (x ∷ []) h = refl
short_loc (x ∷ y ∷ zs) h = absurd (omega arith)

pub long_loc : {A : Type 0} (xs : List (Value A)) → 2 < length xs → None ≡ loc_of_items (trees_view xs)
long_loc [] h = absurd (omega arith)
long_loc (x ∷ []) h = absurd (omega arith)
long_loc (x ∷ y ∷ []) h = absurd (omega arith)
long_loc (x ∷ y ∷ z ∷ zs) h = refl

-- one more item at the end of those that were read
pub item_more : {A B : Type 0} (h : A → B) (done new : List B) (r : B) (o : Option A) (os : Option (List A)) (whole : Option (List B))
    → new ≡ done ++ r ∷ [] → option_map h o ≡ Some r → option_map (λ ys. done ++ ys) (option_map (map h) (with_first o os)) ≡ whole
    → option_map (λ ys. new ++ ys) (option_map (map h) os) ≡ whole
item_more h done new r None os whole is read all = cc
item_more h done new r (Some x) None whole is read all = all
item_more h done new r (Some x) (Some xs) whole is read all =
    ap Some (ap (λ ys. ys ++ map h xs) is ∙ append_assoc done (r ∷ []) (map h xs) ∙ ap (λ s. done ++ s ∷ map h xs) (same_Some r (h x) (sym read))) ∙ all

-- a field that was read
pub field_read : (k : List ℕ) (r : Read) (o : Option Plain) → option_map bounded o ≡ Some r → option_map bounded_field (option_map (λ x. (k, x)) o) ≡ Some (k, r)
field_read k r None h = cc
field_read k r (Some x) h = ap (λ (s : Read). Some (k, s)) (same_Some (bounded x) r h)

-- where a field is not read, nothing is
pub nothing_read : (done : List (List ℕ × Read)) (key : List ℕ) (o : Option Plain) (os : Option (List (List ℕ × Plain))) (whole : Option (List (List ℕ × Read)))
    → None ≡ option_map bounded o → option_map (λ ys. done ++ ys) (option_map (map bounded_field) (with_field key o os)) ≡ whole → None ≡ whole
nothing_read done key None os whole e all = all
nothing_read done key (Some x) os whole e all = cc

-- with none before, there are those alone
pub none_before : {A : Type 0} (o : Option (List A)) → option_map (λ ys. [] ++ ys) o ≡ o
none_before None = refl
none_before (Some ys) = refl

module _ {A : Type 0} (f : A → A → A → A) where
  else_of-last : (prefix : List A) (t e a : A) → else_of f (prefix ++ t ∷ e ∷ a ∷ []) ≡ else_of f (prefix ++ f t e a ∷ [])
  else_of-last [] t e a = refl
  else_of-last (x ∷ []) t e a = refl
  else_of-last (x ∷ y ∷ prefix) t e a = ap (option_map (f x y)) (else_of-last prefix t e a)

  -- a test and its branch, taken from the end, stand before what there is
  pub else_of-step : (prefix mid old : List A) (t e a m : A) (whole : Option A) → old ≡ mid ++ e ∷ [] → mid ≡ prefix ++ t ∷ [] → m ≡ f t e a
      → else_of f (old ++ a ∷ []) ≡ whole → else_of f (prefix ++ m ∷ []) ≡ whole
  else_of-step prefix mid old t e a m whole last before made all =
      let seam : old ++ a ∷ [] ≡ prefix ++ t ∷ e ∷ a ∷ [] =
      ap (λ xs. xs ++ a ∷ []) (last ∙ ap (λ xs. xs ++ e ∷ []) before)
      ∙ append_assoc (prefix ++ t ∷ []) (e ∷ []) (a ∷ [])
      ∙ append_assoc prefix (t ∷ []) (e ∷ a ∷ []) in
      ap (λ x. else_of f (prefix ++ x ∷ [])) made
      ∙ sym (else_of-last prefix t e a)
      ∙ sym (ap (else_of f) seam)
      ∙ all

-- the expressions of the items behind the first
pub exprs_behind : {A : Type 0} (ts : List (Value A)) → 1 ≤ length ts → exprs_behind_first (trees_view ts) ≡ exprs_of (trees_view (drop 1 ts))
exprs_behind [] h = absurd (omega arith)
exprs_behind (t ∷ ts) h = refl
