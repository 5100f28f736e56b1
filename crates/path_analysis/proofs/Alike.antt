-- Lists in which each test finds something or finds nothing alike.
use Rattle.std.proofs.Common.{◌≡◌, List, [], ◌∷◌, map, filter, fold, sym, ap, ◌∙◌, refl, Bool, true, false, cond, ◌||◌, ◌&&◌}
use Rattle.std.specs.List.{list_any}
use Rattle.std.specs.declared.cmp.Ordering.{Ordering}
use Rattle.std.specs.declared.cmp.Ordering.TheVariants.{Less, Equal, Greater}
use Rattle.std.specs.Ordering.{match_ordering}
use Rattle.std.specs.BTreeSet.{insert_key}
use Rattle.std.proofs.lemmas.Map.Lookups.{CmpEqualImpliesEq}
use Rattle.access_tries.specs.Edges.{Address}
use Rattle.access_tries.specs.Table.{Table}
use Rattle.access_tries.specs.Paths.{AccessPath, IsLeastOf, address_of, is_prefix_of, is_same}
use Rattle.path_analysis.specs.Covers.{covers}
use Rattle.plain_lemmas.proofs.Booleans.{or_again}

abbrev pub Alike : {X : Type 0} → List X → List X → Type 0
Alike {X} xs ys = (f : X → Bool) → list_any f xs ≡ list_any f ys

with_none : (a : Bool) → a ≡ (a || false)
with_none true = refl
with_none false = refl

first_last : (a b c : Bool) → (a || (b || c)) ≡ ((b || c) || a)
first_last true true c = refl
first_last true false true = refl
first_last true false false = refl
first_last false b c = with_none (b || c)

later : (a b c r : Bool) → r ≡ (c || a) → (b || r) ≡ ((b || c) || a)
later a true c r h = refl
later a false c r h = h

three : (a b c r : Bool) → r ≡ (a || b) → (r || c) ≡ (a || (b || c))
three true b c r h = ap (λ r. r || c) h
three false b c r h = ap (λ r. r || c) h

module _ {K : Type 0} {cmp : K → K → Ordering} (exact : CmpEqualImpliesEq cmp) where
  one_turn : (f : K → Bool) (x k : K) (xs ys : List K) (o : Ordering) → cmp k x ≡ o → list_any f ys ≡ (list_any f xs || f k) →
      list_any f (match_ordering o (k ∷ x ∷ xs) (x ∷ xs) (x ∷ ys)) ≡ (list_any f (x ∷ xs) || f k)
  one_turn f x k xs ys Less e h = first_last (f k) (f x) (list_any f xs)
  one_turn f x k xs ys Equal e h = or_again (f x) (list_any f xs) ∙ ap (λ z. list_any f (x ∷ xs) || f z) (sym (exact k x e))
  one_turn f x k xs ys Greater e h = later (f k) (f x) (list_any f xs) (list_any f ys) h

  one_more : (f : K → Bool) (ks : List K) (k : K) → list_any f (insert_key cmp ks k) ≡ (list_any f ks || f k)
  one_more f [] k = sym (with_none (f k))
  one_more f (x ∷ xs) k = one_turn f x k xs (insert_key cmp xs k) (cmp k x) refl (one_more f xs k)

  pub more : (f : K → Bool) (ks xs : List K) → list_any f (fold (insert_key cmp) ks xs) ≡ (list_any f ks || list_any f xs)
  more f ks [] = with_none (list_any f ks)
  more f ks (x ∷ xs) = more f (insert_key cmp ks x) xs ∙ three (list_any f ks) (f x) (list_any f xs) (list_any f (insert_key cmp ks x)) (one_more f ks x)

  -- a set of what a list has
  pub alike-once : (xs : List K) → Alike (fold (insert_key cmp) [] xs) xs
  alike-once xs f = more f [] xs

module _ {X Y : Type 0} (g : X → Y) where
  mapped : (f : Y → Bool) (xs : List X) → list_any f (map g xs) ≡ list_any (λ x. f (g x)) xs
  mapped f [] = refl
  mapped f (x ∷ xs) = ap (λ b. f (g x) || b) (mapped f xs)

  pub alike-map : (xs ys : List X) → Alike xs ys → Alike (map g xs) (map g ys)
  alike-map xs ys h f = mapped f xs ∙ h (λ x. f (g x)) ∙ sym (mapped f ys)

module _ {X : Type 0} (p : X → Bool) where
  one_kept : (f : X → Bool) (x : X) (b : Bool) (xs : List X) (r : Bool) → list_any f xs ≡ r → list_any f (cond b (x ∷ xs) xs) ≡ ((b && f x) || r)
  one_kept f x true xs r h = ap (λ b. f x || b) h
  one_kept f x false xs r h = h

  kept : (f : X → Bool) (xs : List X) → list_any f (filter p xs) ≡ list_any (λ x. p x && f x) xs
  kept f [] = refl
  kept f (x ∷ xs) = one_kept f x (p x) (filter p xs) (list_any (λ x. p x && f x) xs) (kept f xs)

  pub alike-filter : (xs ys : List X) → Alike xs ys → Alike (filter p xs) (filter p ys)
  alike-filter xs ys h f = kept f xs ∙ h (λ x. p x && f x) ∙ sym (kept f ys)

-- a least trie has no more to do with how often something is read or asked for, nor with paths from which others go on
pub least_alike : (ps qs : List AccessPath) (ds es : List Address) (t : Table) → ((a : Address) → covers ps a ≡ covers qs a) → Alike ds es → IsLeastOf (map address_of ps) ds t → IsLeastOf (map address_of qs) es t
least_alike ps qs ds es t reads demands h = record {
  paths = λ a. h.paths a ∙ (λ i. (mapped address_of (is_prefix_of a) ps ∙ reads a ∙ sym (mapped address_of (is_prefix_of a) qs)) i || demands (is_prefix_of a) i);
  marks = λ a. h.marks a ∙ demands (is_same a);
}
